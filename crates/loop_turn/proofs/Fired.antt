-- Closures that are fired among lines, and the line of an answer among those of its task.
use Rattle.std.proofs.Common.{◌≡◌, ◌⊎◌, inl, inr, ℕ, ℤ, Bool, true, false, List, [], ◌∷◌, ◌++◌, ◌||◌, Option, Some, None, Result, Ok, Err, refl, sym, ◌∙◌, ap, subst, option_map, eqb, eqb-true}
use Rattle.std.specs.Prelude.{slice_get}
use Rattle.std.proofs.lemmas.Bool.{eq-eqb}
use Rattle.std.proofs.lemmas.List.Folds.{list_any-append}
use Rattle.page_types.specs.Events.{Stamped, Host}
use Rattle.page_types.specs.Values.{IntValue}
use Rattle.page_types.specs.declared.HostMark.{HostMark}
use Rattle.page_types.specs.declared.HostMark.TheVariants.{Fired, Dropped}
use Rattle.page_types.specs.declared.Source.{Source}
use Rattle.page_types.specs.declared.Source.TheVariants.{User, Net, Dom, Timer, Render, Sched, Idle}
use Rattle.page_parts.specs.HostClosures.{HostClosure, fired}
use Rattle.page_parts.specs.Promises.{Settled, Fulfilled, Failed}
use Rattle.lang_meaning.specs.Machine.{Done, Gives, Throws, Returns, OutOfFuel, Caller, hosted, done_hosted, afterwards}
use Rattle.lang_meaning.specs.Following.{CallsFollow}
use Rattle.host_jobs.specs.Closures.{fired_at}
use Rattle.page_laws.specs.ClosureMarks.{HasMark}
use Rattle.page_model.specs.Additions.{after}
use Rattle.page_model.specs.State.{Page, State, Task, HostTask, on_page, emit, the_registration}
use Rattle.page_model.specs.PagePromises as promises
use Rattle.page_model.specs.PageSignals.{unwatch, host_task_of}
use Rattle.page_model.specs.PageTime.{first_task}
use Rattle.page_model.specs.Tasks.{answer_host, after_task, fire_closure, settle_answer}
use Rattle.page_model.specs.Turns.{without_task}
use Rattle.page_model.proofs.Adding.Lines.{settle-adds, unwatch-adds}
use Rattle.page_model.proofs.Adding.Runs.{checkpoint-adds}
use Rattle.trace_text.specs.Line.{Line, Of}
use Rattle.page_script.specs.PageActs.{bare, lines_of}
use Rattle.page_script.proofs.Lifting.{lines_of-append}
use Rattle.page_hosts.proofs.HostLemmas.{changed_same, changed_other}
use Rattle.page_host.specs.StateActs.{events_after}
use Rattle.page_host.specs.Performed.{Asking, asking, asking_of, first_asking, live_closure, answered, steps_with, first_with, performed}
use Rattle.page_host.specs.Performing.{fired_for}
use Rattle.page_host.specs.Tasking.{no_task}
use Rattle.loop_turn.specs.Firing.{tells_answer, has_told, FiresAmong}

-- ---- one after another

pub fires-none : (lines : List Line) {before after : List HostClosure} → after ≡ before → FiresAmong lines before after
fires-none lines {before = before} same = subst (FiresAmong lines before) (sym same) (record { fired = λ k h. inl h; dropped = λ k h. h })

on-left : (a b : Bool) → a ≡ true → a || b ≡ true
on-left a b e = ap (λ x. x || b) e

on-right : (a b : Bool) → b ≡ true → a || b ≡ true
on-right true b e = refl
on-right false b e = e

told-before : (k : ℕ) (xs ys : List Line) → has_told k xs ≡ true → has_told k (xs ++ ys) ≡ true
told-before k xs ys e = list_any-append (tells_answer k) xs ys ∙ on-left (has_told k xs) (has_told k ys) e

told-behind : (k : ℕ) (xs ys : List Line) → has_told k ys ≡ true → has_told k (xs ++ ys) ≡ true
told-behind k xs ys e = list_any-append (tells_answer k) xs ys ∙ on-right (has_told k xs) (has_told k ys) e

pub fires-start : (xs ys : List Line) {before after : List HostClosure} → FiresAmong xs before after → FiresAmong (xs ++ ys) before after
fires-start xs ys {before = before} f = record { fired = λ k h. by k (f.fired k h); dropped = f.dropped }
  where
    by : (k : ℕ) → HasMark Fired before k ⊎ has_told k xs ≡ true → HasMark Fired before k ⊎ has_told k (xs ++ ys) ≡ true
    by k (inl h) = inl h
    by k (inr e) = inr (told-before k xs ys e)

pub fires-then : (xs ys : List Line) {before mid after : List HostClosure} → FiresAmong xs before mid → FiresAmong ys mid after → FiresAmong (xs ++ ys) before after
fires-then xs ys {before = before} {mid = mid} f g = record { fired = λ k h. by k (g.fired k h); dropped = λ k h. f.dropped k (g.dropped k h) }
  where
    first : (k : ℕ) → HasMark Fired before k ⊎ has_told k xs ≡ true → HasMark Fired before k ⊎ has_told k (xs ++ ys) ≡ true
    first k (inl h) = inl h
    first k (inr e) = inr (told-before k xs ys e)

    by : (k : ℕ) → HasMark Fired mid k ⊎ has_told k ys ≡ true → HasMark Fired before k ⊎ has_told k (xs ++ ys) ≡ true
    by k (inl h) = first k (f.fired k h)
    by k (inr e) = inr (told-behind k xs ys e)

-- ---- one closure

fired_dropped : Some Fired ≡ Some Dropped → ⊥
fired_dropped e = Prim.cc

-- a closure is fired whose answer one of the lines tells
pub fires-at : (lines : List Line) (before : List HostClosure) (k : ℕ) → has_told k lines ≡ true → FiresAmong lines before (fired_at before k)
fires-at lines before k told = record { fired = λ j h. by_fired j (eqb k j) refl h; dropped = λ j h. by_dropped j (eqb k j) refl h }
  where
    same-mark : (m : HostMark) (j : ℕ) → eqb k j ≡ false → HasMark m (fired_at before k) j → HasMark m before j
    same-mark m j other h = sym (ap (option_map (λ (c : HostClosure). c.mark)) (changed_other fired before k j other)) ∙ h

    by_fired : (j : ℕ) (b : Bool) → eqb k j ≡ b → HasMark Fired (fired_at before k) j → HasMark Fired before j ⊎ has_told j lines ≡ true
    by_fired j true e h = inr (subst (λ n. has_told n lines ≡ true) (eqb-true k j e) told)
    by_fired j false e h = inl (same-mark Fired j e h)

    mark-now : (o : Option HostClosure) → slice_get (fired_at before k) k ≡ o → option_map (λ (c : HostClosure). c.mark) o ≡ Some Dropped → ⊥
    mark-now None e h = Prim.cc
    mark-now (Some c) e h =
        let was = changed_same fired before k c e in
        fired_dropped (sym (ap (λ (d : HostClosure). Some d.mark) was.2) ∙ h)

    by_dropped : (j : ℕ) (b : Bool) → eqb k j ≡ b → HasMark Dropped (fired_at before k) j → HasMark Dropped before j
    by_dropped j true e h = absurd (mark-now (slice_get (fired_at before k) k) refl (subst (λ n. HasMark Dropped (fired_at before k) n) (sym (eqb-true k j e)) h))
    by_dropped j false e h = same-mark Dropped j e h

-- ---- the line of an answer

line-tells : (k : ℕ) (lines : List Line) (e : Stamped) → tells_answer k (Of e) ≡ true → has_told k (Of e ∷ lines) ≡ true
line-tells k lines e is = on-left (tells_answer k (Of e)) (has_told k lines) is

-- an event that stands before all others
first-tells : (k : ℕ) (es : List Stamped) (e : Stamped) → tells_answer k (Of e) ≡ true → has_told k (lines_of (es ++ e ∷ [])) ≡ true
first-tells k es e is = ap (has_told k) (lines_of-append es (e ∷ [])) ∙ line-tells k (lines_of es) e is

settled_by : (n : ℕ) (answer : Result ℤ ℤ) → (how : Settled) × ((p : Page) → settle_answer n answer p ≡ promises.settle n how p)
settled_by n (Ok v) = (Fulfilled (IntValue v), λ p. refl)
settled_by n (Err v) = (Failed (IntValue v), λ p. refl)

fire-after : (k : ℕ) (o : Option HostClosure) (es : List Stamped) (p : Page) → fire_closure k o (after es p) ≡ after es (fire_closure k o p)
fire-after k None es p = refl
fire-after k (Some c) es p = refl

-- what is done behind the line only adds lines
answer-events : (t : HostTask) (answer : Result ℤ ℤ) (p : Page) → p.events ≡ [] → (es : List Stamped) × (e : Stamped) × (tells_answer t.closure (Of e) ≡ true) × ((answer_host t answer p).events ≡ es ++ e ∷ [])
answer-events t answer p none =
    let n = (the_registration p t.registration).promise in
    let by = settled_by n answer in
    let line : Stamped = record { time = p.now; event = Host t.closure t.number answer } in
    let q = fire_closure t.closure (slice_get p.hosts t.closure) p in
    let done = unwatch t.registration (promises.settle n by.0 q) in
    let emitted : emit (Host t.closure t.number answer) p ≡ after (line ∷ []) p = ap (λ es. record p { events = line ∷ es }) none ∙ sym (ap (λ es. record p { events = es ++ line ∷ [] }) none) in
    let all : answer_host t answer p ≡ after (line ∷ []) done =
    ap (λ x. unwatch t.registration (settle_answer n answer (fire_closure t.closure (slice_get p.hosts t.closure) x))) emitted
    ∙ (ap (λ x. unwatch t.registration (settle_answer n answer x)) (fire-after t.closure (slice_get p.hosts t.closure) (line ∷ []) p)
    ∙ (ap (unwatch t.registration) (by.1 (after (line ∷ []) q) ∙ settle-adds (line ∷ []) n by.0 q)
    ∙ unwatch-adds (line ∷ []) t.registration (promises.settle n by.0 q))) in
    (done.events, line, eq-eqb t.closure t.closure refl, ap (λ (x : Page). x.events) all)

-- ---- the lines of a task

module _ (call : Caller Page) (adds : (es : List Stamped) → CallsFollow (after es) call call) where
  events-behind : (es : List Stamped) (d : Done Page) → events_after (done_hosted (after es) d) ≡ events_after d ++ es
  events-behind es (Gives v m) = refl
  events-behind es (Throws v m) = refl
  events-behind es (Returns v m) = refl
  events-behind es (OutOfFuel m) = refl

  -- what was told stays told behind the end of the task
  over-tells : (k : ℕ) (m : State) → has_told k (lines_of m.host.events) ≡ true → has_told k (lines_of (events_after (after_task call m))) ≡ true
  over-tells k m told =
      let es = m.host.events in
      let is : after_task call m ≡ done_hosted (after es) (after_task call (hosted bare m)) = checkpoint-adds es call (adds es) (on_page no_task (hosted bare m)) in
      let rest = events_after (after_task call (hosted bare m)) in
      ap (λ d. has_told k (lines_of (events_after d))) is
      ∙ (ap (λ xs. has_told k (lines_of xs)) (events-behind es (after_task call (hosted bare m)))
      ∙ (ap (has_told k) (lines_of-append rest es) ∙ told-before k (lines_of es) (lines_of rest) told))

  module _ (answer : Result ℤ ℤ) (x : Asking) where
    abbrev Told : Done Page → Type 0
    Told d = has_told x.asked.closure (lines_of (events_after (afterwards d (after_task call)))) ≡ true

    host-tells : (t : HostTask) (o : Option HostClosure) (m : State) → m.host.events ≡ [] → asking t o ≡ Some x → Told (answered o t answer m)
    host-tells t None m none e = absurd (Prim.cc)
    host-tells t (Some k) m none e =
        let same : t ≡ x.asked = ap {A = Option Asking} {B = HostTask} (λ o. elim o [ None ↦ t | Some y ↦ y.asked ]) e in
        let told = answer-events t answer m.host none in
        let is : has_told t.closure (lines_of (answer_host t answer m.host).events) ≡ true = ap (λ es. has_told t.closure (lines_of es)) told.3 ∙ first-tells t.closure told.0 told.1 told.2 in
        over-tells x.asked.closure (on_page (answer_host t answer) m) (subst (λ (u : HostTask). has_told u.closure (lines_of (answer_host t answer m.host).events) ≡ true) same is)

    first-asks : (task : Option Task) (m : State) → m.host.events ≡ [] → asking_of m.host task ≡ Some x → Told (first_with call task answer m)
    first-asks None m none e = absurd (Prim.cc)
    first-asks (Some task) m none e = by (host_task_of task.steps) refl e
      where
        by : (h : Option HostTask) → host_task_of task.steps ≡ h → elim h [ None ↦ None | Some t ↦ asking t (live_closure m.host t) ] ≡ Some x
            → Told (steps_with call task.steps h answer (on_page (without_task task.number) m))
        by None is e = absurd (Prim.cc)
        by (Some t) is e = host-tells t (live_closure m.host t) (on_page (without_task task.number) m) none e

    -- the task of a host answer tells the answer
    pub performed-tells : (source : Source) (m : State) → m.host.events ≡ [] → first_asking source m.host ≡ Some x
        → has_told x.asked.closure (lines_of (events_after (performed call source answer m))) ≡ true
    performed-tells Sched m none e = absurd (Prim.cc)
    performed-tells User m none e = first-asks (first_task User m.host.tasks) m none e
    performed-tells Net m none e = first-asks (first_task Net m.host.tasks) m none e
    performed-tells Dom m none e = first-asks (first_task Dom m.host.tasks) m none e
    performed-tells Timer m none e = first-asks (first_task Timer m.host.tasks) m none e
    performed-tells Render m none e = first-asks (first_task Render m.host.tasks) m none e
    performed-tells Idle m none e = first-asks (first_task Idle m.host.tasks) m none e

-- the closure that a task asks is fired among the lines of the task
pub task-fires : (call : Caller Page) → ((es : List Stamped) → CallsFollow (after es) call call) → (source : Source) (answer : Result ℤ ℤ) (m : State) → m.host.events ≡ []
    → {before now : List HostClosure} (asks : Option Asking) → first_asking source m.host ≡ asks → now ≡ fired_for asks before
    → FiresAmong (lines_of (events_after (performed call source answer m))) before now
task-fires call adds source answer m none None is same = fires-none (lines_of (events_after (performed call source answer m))) same
task-fires call adds source answer m none {before = before} (Some x) is same =
    let lines = lines_of (events_after (performed call source answer m)) in
    subst (FiresAmong lines before) (sym same) (fires-at lines before x.asked.closure (performed-tells call adds answer x source m none is))
