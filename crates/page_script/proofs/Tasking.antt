-- Functions of the page that queue tasks besides what they do to the script's part.
use Rattle.std.proofs.Common.{◌≡◌, ℕ, suc, Bool, true, false, cond, List, [], ◌∷◌, ◌++◌, append_assoc, length, ◌+◌, Option, Some, None, Result, refl, sym, ap, ◌∙◌, subst}
use Rattle.page_types.specs.Values.{Value, PromiseValue}
use Rattle.page_types.specs.declared.FaultName.TheVariants.{RangeError}
use Rattle.page_types.specs.declared.Source.TheVariants.{Dom}
use Rattle.page_types.specs.Events.{Stamped}
use Rattle.page_parts.specs.Words.{and_last, is_empty}
use Rattle.page_parts.specs.Kinds.{a_fault}
use Rattle.page_parts.specs.Promises.{Settled, Reaction}
use Rattle.page_parts.specs.Notices.{subscribe_promise, is_outstanding}
use Rattle.page_parts.specs.Combinators.{CombinatorKind, Pass}
use Rattle.page_model.specs.State.{Task, Steps, NotifyHandled, NotifyRejected, Page, context, on_notices, queue_task}
use Rattle.page_model.specs.PagePromises as promises
use Rattle.page_model.specs.PagePromises.{new_promise, last_promise, inner_subscription}
use Rattle.page_model.specs.PageCombinators.{combinator_made, item_made, item_number, with_element, element_made, subscribe_into, last_combinator, each_item, all_made, race_made, promises_for, are_promises_left, passed_on, pass_on}
use Rattle.page_model.specs.Invoke.{notify_rejected, checkpoint_ended}
use Rattle.trace_text.specs.declared.lines.NoLine.{NoLine}
use Rattle.trace_text.specs.Given.{Keeping, Seen, Gives}
use Rattle.trace_text.specs.Acts.{At, Does, seq}
use Rattle.trace_text.proofs.Doing.{Does-then, Does-exit}
use Rattle.std.specs.Result.{IsErrAnd, result_err}
use Rattle.page_script.specs.Script.{Script, script_of, with_script, holding}
use Rattle.page_script.specs.PageActs.{bare, lines_of, act, spread, OnlyScript, queue_each, OnlyScriptAndTasks}
use Rattle.page_script.specs.ScriptActs.{on_script, on}
use Rattle.page_script.proofs.Lifting.{append_none, lines_of-append, Does-same}
use Rattle.page_script.proofs.Touching.{on_notices-only, new_promise-only, combinator_made-only, item_made-only, resolve-only, reject-only}

-- ---- Tasks that are queued one after another

queue_each-script : (ts : List Task) (p : Page) → script_of (queue_each ts p) ≡ script_of p
queue_each-script [] p = refl
queue_each-script (t ∷ ts) p = queue_each-script ts (queue_task t.source t.steps p)

queue_each-events : (ts : List Task) (p : Page) → (queue_each ts p).events ≡ p.events
queue_each-events [] p = refl
queue_each-events (t ∷ ts) p = queue_each-events ts (queue_task t.source t.steps p)

-- tasks are queued beside a change of the script's part
queue_each-spread : (ts : List Task) (made p : Page) → spread made (queue_each ts p) ≡ queue_each ts (spread made p)
queue_each-spread [] made p = refl
queue_each-spread (t ∷ ts) made p = queue_each-spread ts made (queue_task t.source t.steps p)

queue_each-last : (ts : List Task) (t : Task) (p : Page) → queue_each (and_last ts t) p ≡ queue_task t.source t.steps (queue_each ts p)
queue_each-last [] t p = refl
queue_each-last (u ∷ ts) t p = queue_each-last ts t (queue_task u.source u.steps p)

-- to queue what was queued on another page: first what that page had, and then these
queue_each-queued : (ts : List Task) (q p : Page) → queue_each (queue_each ts q).tasks p ≡ queue_each ts (queue_each q.tasks p)
queue_each-queued [] q p = refl
queue_each-queued (t ∷ ts) q p =
    queue_each-queued ts (queue_task t.source t.steps q) p
    ∙ ap (queue_each ts) (queue_each-last q.tasks (record { number = suc q.tasks_made; source = t.source; steps = t.steps }) p)

-- a page without its events
queue_each-bare : (ts : List Task) (p : Page) → bare (queue_each ts p) ≡ queue_each ts (bare p)
queue_each-bare [] p = refl
queue_each-bare (t ∷ ts) p = queue_each-bare ts (queue_task t.source t.steps p)

-- ---- Functions that queue tasks

-- those that touch the script's part alone queue none
pub OnlyScript-tasks : (f : Page → Page) → OnlyScript f → OnlyScriptAndTasks f
OnlyScript-tasks f only p =
    let made = f (holding (script_of p)) in
    only p ∙ sym (ap (λ ts. queue_each ts (spread made p)) (ap (λ q. q.tasks) (only (holding (script_of p)))))

-- one, and then another
pub Tasks-then : (f g : Page → Page) → OnlyScriptAndTasks f → OnlyScriptAndTasks g → OnlyScriptAndTasks (λ p. g (f p))
Tasks-then f g only_f only_g p =
    let made = f (holding (script_of p)) in
    let q = queue_each made.tasks (spread made p) in
    let next = g (holding (script_of made)) in
    let both : Page = record (with_script (script_of next) p) { events = (next.events ++ made.events) ++ p.events } in
    ap g (only_f p) ∙ only_g q
    ∙ ap (λ s. queue_each (g (holding s)).tasks (spread (g (holding s)) q)) (queue_each-script made.tasks (spread made p))
    ∙ ap (queue_each next.tasks) (queue_each-spread made.tasks next (spread made p))
    ∙ ap (λ es. queue_each next.tasks (queue_each made.tasks (record both { events = es }))) (sym (append_assoc next.events made.events p.events))
    ∙ sym (queue_each-queued next.tasks (spread next made) both)
    ∙ ap (λ x. queue_each (queue_each next.tasks (spread next made)).tasks x) (sym (spread_whole next made p))
    ∙ sym (ap (λ r. queue_each r.tasks (spread r p)) (only_g made))
  where
    -- what both made of the script's part, on the whole page
    spread_whole : (next made p : Page) → spread (queue_each next.tasks (spread next made)) p ≡ record (with_script (script_of next) p) { events = (next.events ++ made.events) ++ p.events }
    spread_whole next made p =
        ap (λ s. record (with_script s p) { events = (queue_each next.tasks (spread next made)).events ++ p.events }) (queue_each-script next.tasks (spread next made))
        ∙ ap (λ es. record (with_script (script_of next) p) { events = es ++ p.events }) (queue_each-events next.tasks (spread next made))

cond_task-only : (b : Bool) (steps : Steps) → OnlyScriptAndTasks (cond b (queue_task Dom steps) (λ q. q))
cond_task-only true steps p = refl
cond_task-only false steps p = refl

-- a promise gets a handler; a task tells of it where the promise was outstanding
pub subscribe-tasks : (n : ℕ) (r : Reaction) → OnlyScriptAndTasks (promises.subscribe n r)
subscribe-tasks n r p =
    let b = is_outstanding n p.notices in
    Tasks-then (on_notices (subscribe_promise (context p) n r)) (cond b (queue_task Dom (NotifyHandled n)) (λ q. q))
    (OnlyScript-tasks (on_notices (subscribe_promise (context p) n r)) (on_notices-only (subscribe_promise (context p) n r)))
    (cond_task-only b (NotifyHandled n)) p

-- the rejected promises are taken by a task
abbrev taken_by : List ℕ → Page → Page
taken_by ns p = cond (is_empty ns) p (queue_task Dom (NotifyRejected ns) (record p { notices = record p.notices { rejected = [] } }))

taken_by-tasks : (ns : List ℕ) → OnlyScriptAndTasks (taken_by ns)
taken_by-tasks [] p = refl
taken_by-tasks (n ∷ ns) p = refl

pub notify_rejected-tasks : OnlyScriptAndTasks notify_rejected
notify_rejected-tasks p = taken_by-tasks p.notices.rejected p

pub checkpoint_ended-tasks : (before : Page) → OnlyScriptAndTasks (checkpoint_ended before)
checkpoint_ended-tasks before p =
    let restored : Page → Page = λ q. record q { performing = false; level = before.level; scheduling = before.scheduling } in
    Tasks-then notify_rejected restored notify_rejected-tasks (OnlyScript-tasks restored (λ q. refl)) p

-- ---- Combinators

pub element_made-tasks : (combinator place n : ℕ) → OnlyScriptAndTasks (element_made combinator place n)
element_made-tasks combinator place n p =
    let made : Page → Page = λ q. with_element combinator place (new_promise q) in
    let x = inner_subscription (last_promise (new_promise p)) in
    Tasks-then made (promises.subscribe n x) (OnlyScript-tasks made (λ q. refl)) (subscribe-tasks n x) p

pub each_item-tasks : (take : (place n : ℕ) → Page → Page) → ((place n : ℕ) → OnlyScriptAndTasks (take place n)) → (place : ℕ) (vs : List Value) → OnlyScriptAndTasks (each_item take place vs)
each_item-tasks take h place [] p = refl
each_item-tasks take h place (v ∷ vs) p =
    let next : Page → Page = λ q. take place (item_number v q) q in
    Tasks-then (λ q. next (item_made v q)) (each_item take (suc place) vs)
    (Tasks-then (item_made v) next (OnlyScript-tasks (item_made v) (item_made-only v)) (λ q. h place (item_number v q) q))
    (each_item-tasks take h (suc place) vs) p

pub all_made-tasks : (kind : CombinatorKind) (vs : List Value) → OnlyScriptAndTasks (all_made kind vs)
all_made-tasks kind vs p =
    Tasks-then (combinator_made kind (length vs)) (λ q. each_item (element_made (last_combinator q)) 0 vs q)
    (OnlyScript-tasks (combinator_made kind (length vs)) (combinator_made-only kind (length vs)))
    (λ q. each_item-tasks (element_made (last_combinator q)) (element_made-tasks (last_combinator q)) 0 vs q) p

pub race_made-tasks : (vs : List Value) → OnlyScriptAndTasks (race_made vs)
race_made-tasks vs p =
    Tasks-then new_promise (λ q. each_item (subscribe_into (last_promise q)) 0 vs q) (OnlyScript-tasks new_promise new_promise-only)
    (λ q. each_item-tasks (subscribe_into (last_promise q)) (λ place n. subscribe-tasks n (inner_subscription (last_promise q))) 0 vs q) p

-- the element is made, and the promise is resolved with the combinator's result
abbrev resolved_with : (into n : ℕ) → Page → Page
resolved_with into n made = promises.resolve into (PromiseValue (last_promise made)) (element_made (last_combinator made) 0 n made)

resolved_with-tasks : (into n : ℕ) → OnlyScriptAndTasks (resolved_with into n)
resolved_with-tasks into n p =
    let v = PromiseValue (last_promise p) in
    Tasks-then (element_made (last_combinator p) 0 n) (promises.resolve into v) (element_made-tasks (last_combinator p) 0 n)
    (OnlyScript-tasks (promises.resolve into v) (resolve-only into v)) p

passed_on-tasks : (into : ℕ) (how : Settled) (v : Value) → OnlyScriptAndTasks (passed_on into how v)
passed_on-tasks into how v p =
    let passing = combinator_made (Pass how) 1 in
    let next : Page → Page = λ q. resolved_with into (item_number v q) (passing q) in
    Tasks-then (item_made v) next (OnlyScript-tasks (item_made v) (item_made-only v))
    (λ q. Tasks-then passing (resolved_with into (item_number v q)) (OnlyScript-tasks passing (combinator_made-only (Pass how) 1)) (resolved_with-tasks into (item_number v q)) q) p

cond_of-tasks : (b : Bool) (f g : Page → Page) → OnlyScriptAndTasks f → OnlyScriptAndTasks g → OnlyScriptAndTasks (cond b f g)
cond_of-tasks true f g h k = h
cond_of-tasks false f g h k = k

pub pass_on-tasks : (into : ℕ) (how : Settled) (v : Value) → OnlyScriptAndTasks (pass_on into how v)
pass_on-tasks into how v p =
    let refused = promises.reject into (a_fault RangeError) in
    cond_of-tasks (are_promises_left (promises_for v + 2) p) (passed_on into how v) refused (passed_on-tasks into how v)
    (OnlyScript-tasks refused (reject-only into (a_fault RangeError))) p

-- ---- Acts on the script's part one after another

on_script-then_tasks : (f g : Page → Page) → OnlyScriptAndTasks g → (s : Script) → on_script (λ p. g (f p)) s ≡ seq (on_script f) (on_script g) s
unfolding on_script seq
on_script-then_tasks f g only s =
    let made = f (holding s) in
    let next = g (holding (script_of made)) in
    ap (λ q. record { state = script_of q; lines = lines_of q.events }) (only made)
    ∙ ap (λ t. record { state = t; lines = lines_of (queue_each next.tasks (spread next made)).events }) (queue_each-script next.tasks (spread next made))
    ∙ ap (λ es. record { state = script_of next; lines = lines_of es }) (queue_each-events next.tasks (spread next made))
    ∙ ap (λ ls. record { state = script_of next; lines = ls }) (lines_of-append next.events made.events)

-- an act on the script's part that was done, and then another, which may stop and may queue tasks
pub Does-next_tasks : {T : Type 0} {k : Keeping T} {old mid new : At Script T} (f g : Page → Page) {why : Option NoLine} → OnlyScriptAndTasks g
    → Does k old (on_script f) None mid → Does k mid (on_script g) why new → Does k old (on_script (λ p. g (f p))) why new
Does-next_tasks {old = old} f g only h rest = Does-same (seq (on_script f) (on_script g)) (on_script (λ p. g (f p))) (sym (on_script-then_tasks f g only old.state)) (Does-then h rest)

-- the exit of a `?` behind the first one
pub Does-leave_tasks : {T X : Type 0} {k : Keeping T} {old new : At Script T} (f g : Page → Page) (r : Result X NoLine) {why : NoLine} → OnlyScriptAndTasks g
    → IsErrAnd r (λ e. e ≡ why) → Does k old (on_script f) (Some why) new → Does k old (on_script (λ p. g (f p))) (result_err r) new
Does-leave_tasks {old = old} f g r only is h = Does-same (seq (on_script f) (on_script g)) (on_script (λ p. g (f p))) (sym (on_script-then_tasks f g only old.state)) (Does-exit (on_script g) r is h)

-- ---- The whole page

-- what is done to the script's part is done to a page that has this part, of which every other field stays, but that the tasks are queued
pub Does-tasks : {T : Type 0} {k : Keeping T} (f : Page → Page) (p : Page) {s : Script} {old new : Seen T} {why : Option NoLine} → OnlyScriptAndTasks f
    → Does k (on (script_of p) old) (on_script f) why (on s new)
    → Does k (record { state = bare p; seen = old }) (act f) why (record { state = queue_each (f (holding (script_of p))).tasks (with_script s (bare p)); seen = new })
unfolding on_script act
Does-tasks {k = k} f p {old = old} {new = new} {why = why} only h =
    let made = f (holding (script_of p)) in
    record {
      lines =
          let P : List Stamped → Type 0 = λ es. Gives k old (lines_of es) why new in
          subst P (sym (ap (λ q. q.events) (only (bare p)) ∙ queue_each-events made.tasks (spread made (bare p)) ∙ append_none made.events)) h.lines;
      state = λ w.
          ap (λ t. queue_each made.tasks (with_script t (bare p))) (h.state w)
          ∙ sym (ap bare (only (bare p)) ∙ queue_each-bare made.tasks (spread made (bare p)));
    }
