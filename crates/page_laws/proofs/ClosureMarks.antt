-- The marks of closures follow the lines through all moves: each registration of a host asked a closure, and what waits for an answer is among these.
use Rattle.std.proofs.Common.{◌≡◌, ◌⊎◌, inl, inr, ℕ, zero, suc, ◌≤◌, Bool, true, false, List, [], ◌∷◌, ◌++◌, ◌||◌, Option, Some, None, refl, sym, subst, ap, ◌∙◌, length, arith, cond, eqb-true, not, slice_get}
use Rattle.std.specs.Prelude.{◌==◌, filter, option_map}
use Rattle.std.proofs.lemmas.Bool.{eq-eqb}
use Rattle.page_types.specs.declared.RegKind.{RegKind}
use Rattle.page_types.specs.declared.RegKind.TheVariants as kind
use Rattle.page_types.specs.declared.Source.TheVariants.{Sched}
use Rattle.page_types.specs.Events.{Event, Arm, Call, Turn, IdleLine, Frame, Prio, Run, Drop, Due, Enq, Host}
use Rattle.page_types.specs.Tree.{Program}
use Rattle.page_parts.specs.HostClosures.{HostClosure}
use Rattle.page_parts.specs.Notices.{Notices, Noticed, changed, subscribe_promise, queue_micro}
use Rattle.page_parts.specs.Promises.{the_promise}
use Rattle.page_parts.specs.Promises as Promises
use Rattle.page_parts.specs.Setup.{Setup}
use Rattle.page_parts.specs.Words.{and_last, is_there, without}
use Rattle.page_model.specs.Choosing.{Rules}
use Rattle.page_model.specs.Invoke.{register_as}
use Rattle.page_model.specs.Numbers.{Each, HoldsNoNumbers}
use Rattle.page_model.specs.PageSignals.{host_task_of, is_aborted_source, is_for, task_in_answer, task_in_net, waiting_answer, waiting_net_task}
use Rattle.page_model.specs.PageTime.{deadline}
use Rattle.page_model.specs.State.{Page, OfKind, ScriptRole, Role, Registration, Task, HostTask, Steps, AnswerHost, RunTimer, RunScript, IdleTimeout, HostAnswer, emit, emit_each, on_notices, context, caller}
use Rattle.page_model.specs.Turns.{first_page, run_by, state_of}
use Rattle.page_laws.specs.History.{History, has_kind, is_host, is_idle, is_scheduled, is_some_and, is_timer, kind_of, was_dropped}
use Rattle.page_laws.specs.SchedulerLaws.{is_posted}
use Rattle.page_laws.specs.CallLaws.{is_answer_of}
use Rattle.page_laws.specs.ClosureMarks.{Ask, ClosuresFollow, IsAwaited, IsPending, MarksFollow, WasAborted, WasAwaited, has_answered, has_asked}
use Rattle.page_laws.specs.Moves.{HasSteps, role_at, signal_at, is_free, is_placed, promise_changes, IsIn, Tells, Places, places, without_aborted, PlaceChange, places_stay, task_queued, task_left, armed_again, signal_armed, id_cleared, idle_armed, completed, idle_started, idle_queued, DueChange, timer_due, delay_due, signal_due, idle_due, answer_due, Dropping, timer_dropped, idle_dropped, listener_dropped, FirstPlace, nowhere, at_listener, at_timer, at_delay, at_idle, at_host, fits_first, PageChange, elsewhere, told, arm_told, rested, registered as made_one, promised, settled, followed, adopted, subscribed, micro_asked, then_asked, answered, dropped, frame_dropped, frame_asked, rejected_taken, noted, Beginning, TheScript, ATimer, AFrame, AnIdle, ALateIdle, AListener, APost, AContinuation, AMicro, AReaction, called_by, taken, task_dropped, enqueued_anew, fell_due, post_fell_due, prio_told, ComesTo, moved, unanswered, Moves, here, changing, arming, calling, ending, flagging, running, framing, idling}
use Rattle.page_laws.proofs.Answering as answering
use Rattle.page_laws.proofs.Arming.{in-total}
use Rattle.page_laws.proofs.Asked.{Asks, pending_for, due_for}
use Rattle.page_laws.proofs.Cancelled as cancelled
use Rattle.page_laws.proofs.Cancelled.{unless}
use Rattle.page_laws.proofs.CancelledHosts as counted
use Rattle.page_laws.proofs.CancelledHosts.{dropping-other}
use Rattle.page_laws.proofs.ClosureAsks.{AskFound, ask_of, asked-follows, drop-follows, has-asked, no_some, other-follows, unsome}
use Rattle.page_laws.proofs.ClosureSteps.{aborted-follows, added-dropped, added-follows, answered-follows, closes, due-follows, silent-dropped, silent-follows}
use Rattle.page_laws.proofs.ClosureFates.{by_marks}
use Rattle.page_laws.proofs.Finding.{false_true, found-passes, same_number}
use Rattle.page_laws.proofs.HostAnswers.{Silent, aside-silent, rest-silent, end-silent, changed-silent, subscribed-silent, is_host_role}
use Rattle.page_laws.proofs.HostCounts.{kind-times}
use Rattle.page_laws.proofs.Lines.{added, emit_each-events}
use Rattle.page_laws.proofs.Numbered.{found-task}
use Rattle.page_laws.proofs.Once as once
use Rattle.page_laws.proofs.Over.{is-last, on_left, on_right}
use Rattle.page_laws.proofs.Ready.{emit_each-places, in-fewer, in-last}
use Rattle.page_laws.proofs.Registered.{at_past, kind_in_role}
use Rattle.page_laws.proofs.Totals.{one_if}
use Rattle.page_laws.proofs.Turns.{run_is_moves}

-- ---- what is known of hosts

record Grounds (p : Page) : Type 0 where
  once : once.Fits p
  gone : cancelled.Fits p
  counts : counted.Fits p
  claims : answering.Fits p

grounds-later : {p q : Page} → Moves p q → Grounds p → Grounds q
grounds-later a g =
    record {
      once = once.moves-fit a g.once;
      gone = cancelled.moves-fit a g.once g.gone;
      counts = counted.moves-fit a g.once g.gone g.counts;
      claims = answering.moves-fit a g.claims;
    }

first-grounds : (program : Program) (setup : Setup) (hosts : List HostClosure) → Grounds (first_page program setup hosts)
first-grounds program setup hosts =
    record {
      once = once.first_fits program setup hosts;
      gone = cancelled.first_fits program setup hosts;
      counts = counted.first_fits program setup hosts;
      claims = answering.first_fits program setup hosts;
    }

-- a host's registration is one in the lines
host-role : (p : Page) → Grounds p → (r : ℕ) → has_kind is_host p.events r ≡ true → role_at p.registrations r ≡ OfKind kind.Host
host-role p g zero h = by_kind (kind_of p.events 0) refl h
  where
    by_kind : (o : Option RegKind) → kind_of p.events 0 ≡ o → is_some_and is_host o ≡ true → role_at p.registrations 0 ≡ OfKind kind.Host
    by_kind None e h = absurd (false_true h)
    by_kind (Some k) e h = let a = kind-times p.events 0 k e in let b = g.counts.none in absurd (omega (arith, a, b))
host-role p g (suc i) h = by_role (role_at p.registrations (suc i)) (sym (ap {A = Option RegKind} {B = Bool} (λ o. is_some_and is_host o) (g.once.kinds.tie (suc i) (omega arith))) ∙ h)
  where
    by_role : (role : Role) → is_some_and is_host (kind_in_role role) ≡ true → role ≡ OfKind kind.Host
    by_role ScriptRole h = absurd (false_true h)
    by_role (OfKind kind.Host) h = refl
    by_role (OfKind k) h = Prim.cc

-- the next registration is none yet
next-new : (p : Page) → Grounds p → has_kind is_host p.events (suc (length p.registrations)) ≡ false
next-new p g =
    ap {A = Option RegKind} {B = Bool} (λ o. is_some_and is_host o)
    (g.once.kinds.tie (suc (length p.registrations)) (omega arith)
    ∙ ap {A = Registration} {B = Option RegKind} (λ y. kind_in_role y.role) (at_past p.registrations (suc (length p.registrations)) (omega arith)))

next-stays : (p : Page) → Grounds p → was_dropped p.events (suc (length p.registrations)) ≡ false
next-stays p g =
    unless (was_dropped p.events (suc (length p.registrations)))
    (λ d. let le = g.gone.within (suc (length p.registrations)) (omega arith) d in absurd (omega (arith, le)))

-- no line tells an answer that none counts
none-answered : (past : History) (k : ℕ) → answering.answers k past ≤ 0 → has_answered past k ≡ false
none-answered [] k h = refl
none-answered (e ∷ past) k h = by_test (is_answer_of k e.event) h (none-answered past k)
  where
    others : History
    others = filter (λ e. is_answer_of k e.event) past

    by_test : (b : Bool) → length (cond b (e ∷ others) others) ≤ 0 → (answering.answers k past ≤ 0 → has_answered past k ≡ false) → b || has_answered past k ≡ false
    by_test true h rest = absurd (omega (arith, h))
    by_test false h rest = rest h

-- what waits has not answered
silent-closure : (p : Page) → Grounds p → (t : HostTask) → Asks t p.host_answers p.tasks → has_answered p.events t.closure ≡ false
silent-closure p g t a = none-answered p.events t.closure (by_place a)
  where
    k : ℕ
    k = t.closure

    by_place : Asks t p.host_answers p.tasks → answering.answers k p.events ≤ 0
    by_place (pending_for b i e) =
        let one : answering.answer_claims k b ≡ 1 = ap one_if (eq-eqb b.task.closure k (ap {A = HostTask} {B = ℕ} (λ u. u.closure) e)) in
        let m = in-total (answering.answer_claims k) b p.host_answers i in
        let n = g.claims.once k in
        omega (arith, one, m, n)
    by_place (due_for u i e) =
        let one : answering.net_claims k u ≡ 1 = ap (answering.steps_answer k) e ∙ ap one_if (eq-eqb k k refl) in
        let m = in-total (answering.net_claims k) u p.tasks i in
        let n = g.claims.once k in
        omega (arith, one, m, n)

-- ---- what was asked so far

-- the marks follow the lines, and what waits for an answer was asked; this is known of what was asked, and that of what was dropped
record Followed (Known Gone : Ask → Type 0) (before : List HostClosure) (pending : List HostAnswer) (ts : List Task) (hosts : List HostClosure) (past : History) : Type 0 where
  asks : List Ask
  follow : MarksFollow asks before past hosts
  waiting : (t : HostTask) → Asks t pending ts → IsIn (ask_of t) asks
  known : (a : Ask) → IsIn a asks → Known a
  gone : (a : Ask) → IsIn a asks → was_dropped past a.registration ≡ true → Gone a

module _ (Known Gone : Ask → Type 0) (before : List HostClosure) where
  abbrev FollowedAt : Places → History → Type 0
  FollowedAt x past = Followed Known Gone before x.host_answers x.tasks x.hosts past

  abbrev Fits : Page → Type 0
  Fits p = FollowedAt (places p) p.events

  -- fewer wait
  fewer : (pending bs : List HostAnswer) (ts us : List Task) (hosts : List HostClosure) (past : History) → ((t : HostTask) → Asks t bs us → Asks t pending ts) → Followed Known Gone before pending ts hosts past → Followed Known Gone before bs us hosts past
  fewer pending bs ts us hosts past less f = record { asks = f.asks; follow = f.follow; waiting = λ t a. f.waiting t (less t a); known = f.known; gone = f.gone }

  less-tasks : (gone : Task → Bool) (pending : List HostAnswer) (ts : List Task) (t : HostTask) → Asks t pending (without gone ts) → Asks t pending ts
  less-tasks gone pending ts t (pending_for a i e) = pending_for a i e
  less-tasks gone pending ts t (due_for u i e) = due_for u (in-fewer u gone ts i) e

  less-answers : (gone : HostAnswer → Bool) (pending : List HostAnswer) (ts : List Task) (t : HostTask) → Asks t (without gone pending) ts → Asks t pending ts
  less-answers gone pending ts t (pending_for a i e) = pending_for a (in-fewer a gone pending i) e
  less-answers gone pending ts t (due_for u i e) = due_for u i e

  -- a task more, which asks no host
  more-tasks : (n : Task) (pending : List HostAnswer) (ts : List Task) → ((t : HostTask) → n.steps ≡ AnswerHost t → ⊥) → (t : HostTask) → Asks t pending (and_last ts n) → Asks t pending ts
  more-tasks n pending ts other t (pending_for a i e) = pending_for a i e
  more-tasks n pending ts other t (due_for u i e) = by_place (in-last u n ts i)
    where
      by_place : IsIn u ts ⊎ (u ≡ n) → Asks t pending ts
      by_place (inl j) = due_for u j e
      by_place (inr z) = absurd (other t (sym (ap {A = Task} {B = Steps} (λ v. v.steps) z) ∙ e))

  free-other : (steps : Steps) → is_free steps ≡ true → (t : HostTask) → steps ≡ AnswerHost t → ⊥
  free-other steps h t e = false_true (ap is_free (sym e) ∙ h)

  place-fits : {made : List Registration} {x y : Places} → PlaceChange made x y → (past : History) → FollowedAt x past → FollowedAt y past
  place-fits places_stay past f = f
  place-fits {x = x} (task_queued n h plain) past f = fewer x.host_answers x.host_answers x.tasks (and_last x.tasks n) x.hosts past (more-tasks n x.host_answers x.tasks (free-other n.steps h)) f
  place-fits {x = x} (task_left number) past f = fewer x.host_answers x.host_answers x.tasks (without (λ t. t.number == number) x.tasks) x.hosts past (less-tasks (λ t. t.number == number) x.host_answers x.tasks) f
  place-fits (armed_again a t role there next) past f = f
  place-fits (signal_armed ms now q s) past f = f
  place-fits (id_cleared id) past f = f
  place-fits (idle_armed t most own) past f = f
  place-fits (completed start gone) past f = f
  place-fits idle_started past f = f
  place-fits {x = x} (idle_queued n e from) past f = fewer x.host_answers x.host_answers x.tasks (and_last x.tasks n) x.hosts past (more-tasks n x.host_answers x.tasks (free-other n.steps (ap is_free e))) f

  in-middle : {X : Type 0} (front : List X) (x : X) (rest : List X) → IsIn x (front ++ x ∷ rest)
  in-middle [] x rest = inl refl
  in-middle (y ∷ front) x rest = inr (in-middle front x rest)

  due-fits : {made : List Registration} {r : ℕ} {x y : Places} → DueChange made r x y → (past : History) → FollowedAt x past → FollowedAt y past
  due-fits {x = x} {y = y} (timer_due start number source n e i role) past f =
      fewer x.host_answers x.host_answers x.tasks y.tasks x.hosts past (more-tasks (record { number = number; source = source; steps = RunTimer n }) x.host_answers x.tasks (λ t z. other t z)) f
    where
      other : (t : HostTask) → RunTimer n ≡ AnswerHost t → ⊥
      other t e = Prim.cc
  due-fits (delay_due start source e role) past f = f
  due-fits (signal_due start s e role) past f = f
  due-fits {x = x} {y = y} (idle_due n number source i e role) past f =
      fewer x.host_answers x.host_answers x.tasks y.tasks x.hosts past (more-tasks (record { number = number; source = source; steps = IdleTimeout n.handle }) x.host_answers x.tasks (λ t z. other t z)) f
    where
      other : (t : HostTask) → IdleTimeout n.handle ≡ AnswerHost t → ⊥
      other t e = Prim.cc
  due-fits {x = x} {y = y} (answer_due front a rest number source e i role) past f = fewer x.host_answers y.host_answers x.tasks y.tasks x.hosts past less f
    where
      hosts : Steps → HostTask
      hosts (AnswerHost v) = v
      hosts steps = a.task

      by_place : (t : HostTask) (u : Task) → u.steps ≡ AnswerHost t → IsIn u x.tasks ⊎ (u ≡ record { number = number; source = source; steps = AnswerHost a.task }) → Asks t x.host_answers x.tasks
      by_place t u z (inl j) = due_for u j z
      by_place t u z (inr w) = pending_for a (subst (IsIn a) (sym e) (in-middle front a rest)) (ap hosts (sym (ap {A = Task} {B = Steps} (λ v. v.steps) w) ∙ z))

      less : (t : HostTask) → Asks t y.host_answers y.tasks → Asks t x.host_answers x.tasks
      less t (pending_for b j z) = pending_for b (in-fewer b (λ c. c.task.registration == a.task.registration) x.host_answers j) z
      less t (due_for u j z) = by_place t u z (in-last u (record { number = number; source = source; steps = AnswerHost a.task }) x.tasks j)

  dropping-same : {made : List Registration} {r : ℕ} {x y : Places} → Dropping made r x y → (past : History) → FollowedAt x past → FollowedAt y past
  dropping-same (timer_dropped id there e own) past f = f
  dropping-same (idle_dropped handle c e e1 role) past f = f
  dropping-same (listener_dropped there role) past f = f

  -- ---- lines

  said : (e : Event) (now : ℕ) (x : Places) (past : History) → Silent e → FollowedAt x past → FollowedAt x (record { time = now; event = e } ∷ past)
  said e now x past h f = record { asks = f.asks; follow = silent-follows e now f.asks before past x.hosts h f.follow; waiting = f.waiting; known = f.known; gone = λ a i d. f.gone a i (sym (silent-dropped e now a.registration past h) ∙ d) }

  said-due : (r now : ℕ) (x : Places) (past : History) → FollowedAt x past → FollowedAt x (record { time = now; event = Due r } ∷ past)
  said-due r now x past f = record { asks = f.asks; follow = due-follows r now f.asks before past x.hosts f.follow; waiting = f.waiting; known = f.known; gone = f.gone }

  -- what is no host asked nothing
  none-asked : (p : Page) → Grounds p → (f : Fits p) (r : ℕ) → is_host_role (role_at p.registrations r) ≡ false → (a : Ask) → IsIn a f.asks → a.registration ≡ r → ⊥
  none-asked p g f r other a i e =
      let asked : has_kind is_host p.events r ≡ true = sym (f.follow.askers r) ∙ (ap (has_asked f.asks) (sym e) ∙ has-asked f.asks a i) in
      false_true (sym other ∙ ap is_host_role (host-role p g r asked))

  other-drop : (p : Page) → Grounds p → (r : ℕ) → is_host_role (role_at p.registrations r) ≡ false → Fits p → Fits (emit (Drop r) p)
  other-drop p g r other f =
      record {
        asks = f.asks;
        follow = drop-follows r p.now f.asks before p.events p.hosts (none-asked p g f r other) f.follow;
        waiting = f.waiting;
        known = f.known;
        gone = λ a i d. f.gone a i (sym (ap {A = Bool} {B = Bool} (λ b. b || was_dropped p.events a.registration) (same_number r a.registration (λ e. none-asked p g f r other a i (sym e)))) ∙ d);
      }

  plain-fits : (k : RegKind) (x : Registration) (p : Page) → is_host k ≡ false → Grounds p → Fits p → Fits (register_as k x p)
  plain-fits k x p h g f =
      record { asks = f.asks; follow = other-follows (suc (length p.registrations)) p.now k (caller p) f.asks before p.events p.hosts h (next-new p g) f.follow; waiting = f.waiting; known = f.known; gone = f.gone }

  -- kinds that are no host's
  unplaced : (k : RegKind) (b : Bool) → is_placed k ≡ b → b ≡ false → is_host k ≡ false
  unplaced kind.Host b e h = absurd (false_true (sym h ∙ sym e))
  unplaced k b e h = refl

  not_true : (b : Bool) → not b ≡ true → b ≡ false
  not_true true h = absurd (false_true h)
  not_true false h = refl

  timer_other : (k : RegKind) → is_timer k ≡ true → is_host k ≡ false
  timer_other kind.Host h = absurd (false_true h)
  timer_other k h = refl

  posted_other : (k : RegKind) → is_posted k ≡ true → is_host k ≡ false
  posted_other kind.Host h = absurd (false_true h)
  posted_other k h = refl

  idle_other : (k : RegKind) → is_idle k ≡ true → is_host k ≡ false
  idle_other kind.Host h = absurd (false_true h)
  idle_other k h = refl

  scheduled_other : (k : RegKind) → is_scheduled k ≡ true → is_host k ≡ false
  scheduled_other kind.Host h = absurd (false_true h)
  scheduled_other k h = refl

  host_kind : (k : RegKind) → is_host k ≡ true → k ≡ kind.Host
  host_kind kind.Host h = refl
  host_kind k h = absurd (false_true h)

  -- ---- where a registration waits first

  first-fits : (p : Page) → Grounds p → {y : Places} (k : RegKind) (x : Registration) (u : FirstPlace p.registrations p.prios (suc (length p.registrations)) (places p) y) → fits_first k u ≡ true → ((t : HostTask) → Asks t y.host_answers y.tasks → Known (ask_of t)) → Fits p → FollowedAt y (register_as k x p).events
  first-fits p g k x nowhere at new f = plain-fits k x p (unplaced k (is_placed k) refl (not_true (is_placed k) at)) g f
  first-fits p g k x (at_listener target name q e) at new f = plain-fits k x p (unplaced k (is_placed k) refl (not_true (is_placed k) at)) g f
  first-fits p g k x (at_timer a t e first) at new f = plain-fits k x p (timer_other k at) g f
  first-fits p g k x (at_delay ms now q source e h) at new f = plain-fits k x p (posted_other k at) g f
  first-fits p g k x (at_idle q e) at new f = plain-fits k x p (idle_other k at) g f
  first-fits p g {y = y} k x (at_host c a e there live) at new f =
      subst (λ (j : RegKind). FollowedAt y (register_as j x p).events) (sym (host_kind k at))
      (record {
        asks = own ∷ f.asks;
        follow = asked-follows r p.now a.task.closure (caller p) c f.asks before p.events p.hosts (next-new p g) (next-stays p g) there live f.follow;
        waiting = waits;
        known = by_known;
        gone = by_gone;
      })
    where
      r : ℕ
      r = suc (length p.registrations)

      own : Ask
      own = record { registration = r; closure = a.task.closure }

      by_task : (t : HostTask) (b : HostAnswer) → b.task ≡ t → IsIn b p.host_answers ⊎ (b ≡ a) → IsIn (ask_of t) (own ∷ f.asks)
      by_task t b z (inl j) = inr (f.waiting t (pending_for b j z))
      by_task t b z (inr same) =
          let is_own : a.task ≡ t = sym (ap {A = HostAnswer} {B = HostTask} (λ v. v.task) same) ∙ z in
          inl (ap ask_of (sym is_own) ∙ ap {A = ℕ} {B = Ask} (λ n. record { registration = n; closure = a.task.closure }) e)

      waits : (t : HostTask) → Asks t (and_last p.host_answers a) p.tasks → IsIn (ask_of t) (own ∷ f.asks)
      waits t (pending_for b i z) = by_task t b z (in-last b a p.host_answers i)
      waits t (due_for u i z) = inr (f.waiting t (due_for u i z))

      by_known : (b : Ask) → IsIn b (own ∷ f.asks) → Known b
      by_known b (inl z) =
          subst Known (ap {A = ℕ} {B = Ask} (λ n. record { registration = n; closure = a.task.closure }) e ∙ sym z) (new a.task (pending_for a (is-last a p.host_answers) refl))
      by_known b (inr i) = f.known b i

      by_gone : (b : Ask) → IsIn b (own ∷ f.asks) → was_dropped p.events b.registration ≡ true → Gone b
      by_gone b (inl z) d = absurd (false_true (sym (next-stays p g) ∙ (ap {A = Ask} {B = Bool} (λ y. was_dropped p.events y.registration) (sym z) ∙ d)))
      by_gone b (inr i) d = f.gone b i d

  -- ---- an abort

  -- what was asked by registration r and waits
  abbrev WaitsFor : Page → (r : ℕ) → HostTask → Type 0
  WaitsFor p r t = Asks t p.host_answers p.tasks × t.registration ≡ r

  in-answer : (p : Page) (r : ℕ) (o : Option HostAnswer) → waiting_answer r p ≡ o → (t : HostTask) → task_in_answer o ≡ Some t → WaitsFor p r t
  in-answer p r None e t z = absurd (no_some t z)
  in-answer p r (Some a) e t z =
      let same = unsome a.task t z in (
        pending_for a (found-task (λ a. a.task.registration == r) p.host_answers a e) same,
        sym (ap {A = HostTask} {B = ℕ} (λ v. v.registration) same) ∙ eqb-true a.task.registration r (found-passes (λ (a : HostAnswer). a.task.registration == r) p.host_answers a e),
      )

  in-net : (p : Page) (r : ℕ) (o : Option Task) → waiting_net_task r p ≡ o → (t : HostTask) → task_in_net o ≡ Some t → WaitsFor p r t
  in-net p r None e t z = absurd (no_some t z)
  in-net p r (Some u) e t z = by_steps u.steps refl (found-passes (λ (t : Task). is_for r (host_task_of t.steps)) p.tasks u e) z
    where
      by_steps : (steps : Steps) → u.steps ≡ steps → is_for r (host_task_of steps) ≡ true → host_task_of steps ≡ Some t → WaitsFor p r t
      by_steps (AnswerHost v) e1 h z =
          let same = unsome v t z in (
            due_for u (found-task (λ t. is_for r (host_task_of t.steps)) p.tasks u e) (e1 ∙ ap AnswerHost same),
            sym (ap {A = HostTask} {B = ℕ} (λ w. w.registration) same) ∙ eqb-true v.registration r h,
          )
      by_steps steps e1 h z = absurd (no_some t z)

  -- what registration r asked, which waits
  record Waiter (p : Page) (r : ℕ) (a : Ask) : Type 0 where
    task : HostTask
    waits : WaitsFor p r task
    same : ask_of task ≡ a
    closing : closes (task_in_answer (waiting_answer r p)) a.closure || closes (task_in_net (waiting_net_task r p)) a.closure ≡ true

  waiter : (r : ℕ) (p : Page) → Grounds p → (role_at p.registrations r ≡ OfKind kind.Host → is_there (waiting_answer r p) || is_there (waiting_net_task r p) ≡ true) → (f : Fits p) (a : Ask) → IsIn a f.asks → a.registration ≡ r → Waiter p r a
  waiter r p g begun f a i e =
      let asked : has_kind is_host p.events r ≡ true = sym (f.follow.askers r) ∙ (ap (has_asked f.asks) (sym e) ∙ has-asked f.asks a i) in
      by_answer (waiting_answer r p) refl (begun (host-role p g r asked))
    where
      pending : Option HostTask
      pending = task_in_answer (waiting_answer r p)

      due : Option HostTask
      due = task_in_net (waiting_net_task r p)

      only : (t : HostTask) → WaitsFor p r t → ask_of t ≡ a
      only t w = f.follow.one_closure (ask_of t) a (f.waiting t w.0) i (w.1 ∙ sym e)

      own : (t : HostTask) → WaitsFor p r t → (t.closure == a.closure) ≡ true
      own t w = eq-eqb t.closure a.closure (ap {A = Ask} {B = ℕ} (λ x. x.closure) (only t w))

      by_steps : (steps : Steps) → is_for r (host_task_of steps) ≡ true → due ≡ host_task_of steps → ((t : HostTask) → host_task_of steps ≡ Some t → WaitsFor p r t) → Waiter p r a
      by_steps (AnswerHost v) h z w =
          let k = w v refl in
          record {
            task = v;
            waits = k;
            same = only v k;
            closing = on_right (closes pending a.closure) (closes due a.closure) (ap {A = Option HostTask} {B = Bool} (λ o. closes o a.closure) z ∙ own v k);
          }
      by_steps steps h z w = absurd (false_true h)

      by_net : (o : Option Task) → waiting_net_task r p ≡ o → is_there o ≡ true → Waiter p r a
      by_net None z h = absurd (false_true h)
      by_net (Some u) z h =
          by_steps u.steps (found-passes (λ (t : Task). is_for r (host_task_of t.steps)) p.tasks u z) (ap task_in_net z) (λ t x. in-net p r (Some u) z t x)

      by_answer : (o : Option HostAnswer) → waiting_answer r p ≡ o → is_there o || is_there (waiting_net_task r p) ≡ true → Waiter p r a
      by_answer (Some b) z h =
          let k = in-answer p r (Some b) z b.task refl in
          record {
            task = b.task;
            waits = k;
            same = only b.task k;
            closing = on_left (closes pending a.closure) (closes due a.closure) (ap {A = Option HostAnswer} {B = Bool} (λ o. closes (task_in_answer o) a.closure) z ∙ own b.task k);
          }
      by_answer None z h = by_net (waiting_net_task r p) refl h

  aborted-fits : (r : ℕ) (p : Page) → Grounds p → (role_at p.registrations r ≡ OfKind kind.Host → is_there (waiting_answer r p) || is_there (waiting_net_task r p) ≡ true) → ((t : HostTask) → WaitsFor p r t → Gone (ask_of t)) → Fits p → FollowedAt (without_aborted r p) (emit (Drop r) p).events
  aborted-fits r p g begun lost f =
      record {
        asks = f.asks;
        follow = aborted-follows r p.now f.asks before p.events p.hosts pending due closed (λ a i e. (waiter r p g begun f a i e).closing) f.follow;
        waiting = λ t a. f.waiting t (less-answers (λ a. a.task.registration == r) p.host_answers p.tasks t a);
        known = f.known;
        gone = λ a i d. by_number a i (r == a.registration) refl d;
      }
    where
      pending : Option HostTask
      pending = task_in_answer (waiting_answer r p)

      due : Option HostTask
      due = task_in_net (waiting_net_task r p)

      by_number : (a : Ask) → IsIn a f.asks → (b : Bool) → (r == a.registration) ≡ b → b || was_dropped p.events a.registration ≡ true → Gone a
      by_number a i true q d = let w = waiter r p g begun f a i (sym (eqb-true r a.registration q)) in subst Gone w.same (lost w.task w.waits)
      by_number a i false q d = f.gone a i d

      found : (k : ℕ) (t : HostTask) → WaitsFor p r t → t.closure ≡ k → AskFound f.asks k r × has_answered p.events k ≡ false
      found k t w e = (
        record { ask = ask_of t; there = f.waiting t w.0; closure = e; registration = w.1 },
        ap {A = ℕ} {B = Bool} (has_answered p.events) (sym e) ∙ silent-closure p g t w.0,
      )

      by_due : (k : ℕ) (o : Option HostTask) → due ≡ o → closes o k ≡ true → AskFound f.asks k r × has_answered p.events k ≡ false
      by_due k None e h = absurd (false_true h)
      by_due k (Some t) e h = found k t (in-net p r (waiting_net_task r p) refl t e) (eqb-true t.closure k h)

      by_pending : (k : ℕ) (o : Option HostTask) → pending ≡ o → closes o k || closes due k ≡ true → AskFound f.asks k r × has_answered p.events k ≡ false
      by_pending k None e h = by_due k due refl h
      by_pending k (Some t) e h = by_test (t.closure == k) refl h
        where
          by_test : (b : Bool) → (t.closure == k) ≡ b → b || closes due k ≡ true → AskFound f.asks k r × has_answered p.events k ≡ false
          by_test true q h = found k t (in-answer p r (waiting_answer r p) refl t e) (eqb-true t.closure k q)
          by_test false q h = by_due k due refl h

      closed : (k : ℕ) → closes pending k || closes due k ≡ true → AskFound f.asks k r × has_answered p.events k ≡ false
      closed k h = by_pending k pending refl h

  -- ---- changes

  before-fits : (q : Page) (past : History) → q.events ≡ past → FollowedAt (places q) past → Fits q
  before-fits q past e f = subst (FollowedAt (places q)) (sym e) f

  replaced : (x y : Places) (past : History) → y ≡ x → FollowedAt x past → FollowedAt y past
  replaced x y past e f = subst (λ (z : Places). FollowedAt z past) (sym e) f

  said-on : (e : Event) (p : Page) → Silent e → Fits p → Fits (emit e p)
  said-on e p h f = said e p.now (places p) p.events h f

  said-each : (now : ℕ) (es : List Event) (x : Places) (past : History) → Each Silent es → FollowedAt x past → FollowedAt x (added now es past)
  said-each now es x past h f = record { asks = f.asks; follow = added-follows now es f.asks before past x.hosts h f.follow; waiting = f.waiting; known = f.known; gone = λ a i d. f.gone a i (sym (added-dropped now es a.registration past h) ∙ d) }

  notices-fit : (f : Notices → Noticed) (p : Page) → Each Silent (f p.notices).lines → Fits p → Fits (on_notices f p)
  notices-fit f p h k =
      let q : Page = record p { notices = (f p.notices).notices } in
      let lines = (f p.notices).lines in
      subst (λ (x : Places). FollowedAt x (emit_each lines q).events) (sym (emit_each-places lines q))
      (subst (FollowedAt (places p)) (sym (emit_each-events lines q)) (said-each p.now lines (places p) p.events h k))

  changes-fit : (n : ℕ) (c : Promises.Change) (p : Page) → Fits p → Fits (promise_changes n c p)
  changes-fit n c p f = notices-fit (λ s. changed (context p) p.names n c s) p (changed-silent (context p) p.names n c p.notices) f

  -- what waits after a change is known, and what waits where its registration is dropped is gone
  change-fits : {p q : Page} → PageChange p q → Grounds p → ((t : HostTask) → Asks t q.host_answers q.tasks → Known (ask_of t))
      → ((t : HostTask) → Asks t p.host_answers p.tasks → is_aborted_source p (signal_at p.registrations t.registration) ≡ true → q.events ≡ (emit (Drop t.registration) p).events → Gone (ask_of t))
      → Fits p → Fits q
  change-fits {p = p} {q = q} (elsewhere c b k) g new lost f = before-fits q p.events b.events (place-fits c p.events f)
  change-fits {p = p} (told e h) g new lost f = said-on e p (aside-silent e h) f
  change-fits {p = p} (arm_told r due level w well) g new lost f = said-on (Arm r due level) p refl f
  change-fits {p = p} (rested e h x y z over begun done) g new lost f = said-on e p (rest-silent e h) f
  change-fits {p = p} {q = q} (answered source task t answer x y live z b) g new lost f =
      before-fits q (emit (Host t.closure t.number answer) p).events b.events
      (replaced _ (places q) (emit (Host t.closure t.number answer) p).events z
      (record {
        asks = f.asks;
        follow = answered-follows t.closure p.now t.registration t.number answer f.asks before p.events p.hosts
            (record { ask = ask_of t; there = f.waiting t waits; closure = refl; registration = refl }) (silent-closure p g t waits) live f.follow;
        waiting = λ u a. f.waiting u (less-tasks (λ v. v.number == task.number) p.host_answers p.tasks u a);
        known = f.known;
        gone = f.gone;
      }))
    where
      waits : Asks t p.host_answers p.tasks
      waits = due_for task (found-task _ p.tasks task x) y
  change-fits {p = p} {q = q} (made_one k x e unframed u b at) g new lost f = before-fits q (register_as k x p).events b.events (first-fits p g k x u at.0 new f)
  change-fits {p = p} {q = q} (enqueued_anew k x t queue e i s n b) g new lost f =
      before-fits q (emit (Enq t.registration queue t.continuation t.order) (register_as k x p)).events b.events
      (replaced _ (places q) (emit (Enq t.registration queue t.continuation t.order) (register_as k x p)).events s
      (said-on (Enq t.registration queue t.continuation t.order) (register_as k x p) refl (plain-fits k x p (scheduled_other k n.2) g f)))
  change-fits {p = p} {q = q} (fell_due r d b by) g new lost f = before-fits q (emit (Due r) p).events b.events (said-due r p.now (places q) p.events (due-fits d p.events f))
  change-fits {p = p} {q = q} (post_fell_due start source t queue e role a s n b by) g new lost f =
      before-fits q (emit (Enq t.registration queue t.continuation t.order) (emit (Due t.registration) p)).events b.events
      (replaced _ (places q) (emit (Enq t.registration queue t.continuation t.order) (emit (Due t.registration) p)).events s
      (said-on (Enq t.registration queue t.continuation t.order) (emit (Due t.registration) p) refl (said-due t.registration p.now (places p) p.events f)))
  change-fits {p = p} {q = q} (dropped r d b) g new lost f = before-fits q (emit (Drop r) p).events b.events (dropping-same d (emit (Drop r) p).events (other-drop p g r (dropping-other d) f))
  change-fits {p = p} (frame_dropped handle c e role) g new lost f = other-drop p g c.registration (ap is_host_role role) f
  change-fits {p = p} {q = q} (task_dropped r role a e s b) g new lost f = before-fits q (emit (Drop r) p).events b.events (replaced _ (places q) (emit (Drop r) p).events s (aborted-fits r p g e loses f))
    where
      loses : (t : HostTask) → WaitsFor p r t → Gone (ask_of t)
      loses t w =
          lost t w.0 (subst (λ (n : ℕ). is_aborted_source p (signal_at p.registrations n) ≡ true) (sym w.1) a)
          (subst (λ (n : ℕ). q.events ≡ (emit (Drop n) p).events) (sym w.1) b.events)
  change-fits {p = p} (prio_told s priority ps c) g new lost f = said-on (Prio s priority) p refl f
  change-fits {p = p} (frame_asked u) g new lost f =
      plain-fits kind.Frame (record { role = OfKind kind.Frame; callback = Some u; second_callback = None; timer_id = 0; promise = 0; signal = None; finally = false }) p refl g f
  change-fits promised g new lost f = f
  change-fits {p = p} (settled n how x y) g new lost f = changes-fit n (Promises.settle n (the_promise p.notices.promises n) how) p f
  change-fits {p = p} (followed n how x y) g new lost f = changes-fit n (Promises.settle n (the_promise p.notices.promises n) how) p f
  change-fits {p = p} (adopted n from x y) g new lost f = changes-fit n (Promises.adopt n (the_promise p.notices.promises n) from) p f
  change-fits {p = p} (subscribed n r x y) g new lost f = notices-fit (subscribe_promise (context p) n r) p (subscribed-silent (context p) n r p.notices) f
  change-fits {p = p} (then_asked n x r e u y) g new lost f = notices-fit (subscribe_promise (context p) n r) (register_as kind.Then x p) (subscribed-silent (context p) n r p.notices) (plain-fits kind.Then x p refl g f)
  change-fits {p = p} (micro_asked x r e y) g new lost f = notices-fit (queue_micro (context p) r) (register_as kind.Micro x p) (refl, tt) (plain-fits kind.Micro x p refl g f)
  change-fits rejected_taken g new lost f = f
  change-fits (noted n) g new lost f = f

  -- what is armed, and the line of it
  arms-fit : {p q s : Page} (c : PageChange p q) (d : PageChange q s) → Tells c d → Grounds p → ((t : HostTask) → Asks t s.host_answers s.tasks → Known (ask_of t)) → Fits p → Fits s
  arms-fit {p = p} {q = q} (made_one k x e unframed u b at) (arm_told r due level w well) h g new f =
      said-on (Arm r due level) q refl (before-fits q (register_as k x p).events b.events (first-fits p g k x u at.0 new f))
  arms-fit {p = p} {q = q} (elsewhere c b k) (arm_told r due level w well) h g new f = said-on (Arm r due level) q refl (before-fits q p.events b.events (place-fits c p.events f))
  arms-fit c d h g new f = elim h [ ]

  taken-fits : (number : ℕ) (p : Page) → Fits p → Followed Known Gone before p.host_answers (without (λ t. t.number == number) p.tasks) p.hosts p.events
  taken-fits number p f = fewer p.host_answers p.host_answers p.tasks (without (λ t. t.number == number) p.tasks) p.hosts p.events (less-tasks (λ t. t.number == number) p.host_answers p.tasks) f

  begins-fit : (b : Beginning) (p : Page) → Fits p → Fits (taken b p)
  begins-fit (TheScript source task) p f = taken-fits task.number p f
  begins-fit (ATimer source task t) p f = taken-fits task.number p f
  begins-fit (AFrame key c) p f = f
  begins-fit (AnIdle c others) p f = said-on (IdleLine (deadline p.last_idle_start p)) p refl f
  begins-fit (ALateIdle handle c) p f = f
  begins-fit (AListener r) p f = f
  begins-fit (APost t) p f = said-on (Turn p.turns (Some Sched)) p refl f
  begins-fit (AContinuation t) p f = said-on (Turn p.turns (Some Sched)) p refl f
  begins-fit (AMicro job others r) p f = said-on (Run job.number) p refl f
  begins-fit (AReaction job others of x r) p f = said-on (Run job.number) p refl f

-- ---- the pages on the way

-- some page on a row of moves in which this waits
record Reached (first last : Page) (a : Ask) : Type 0 where
  page : Page
  so_far : Moves first page
  awaited : IsAwaited a page
  onward : Moves page last

-- some page on it at which it is given up
record Lost (first last : Page) (a : Ask) : Type 0 where
  before : Page
  after : Page
  so_far : Moves first before
  awaited : IsAwaited a before
  aborted : is_aborted_source before (signal_at before.registrations a.registration) ≡ true
  line : after.events ≡ (emit (Drop a.registration) before).events
  onward : Moves after last

awaits : (t : HostTask) (p : Page) → Asks t p.host_answers p.tasks → IsAwaited (ask_of t) p
awaits t p a = record { task = t; registration = refl; closure = refl; waits = by_place a }
  where
    pends : (pending : List HostAnswer) (b : HostAnswer) → IsIn b pending → b.task ≡ t → IsPending t pending
    pends [] b i e = elim i [ ]
    pends (c ∷ more) b (inl z) e = inl (sym (ap {A = HostAnswer} {B = HostTask} (λ v. v.task) z) ∙ e)
    pends (c ∷ more) b (inr i) e = inr (pends more b i e)

    queued : (ts : List Task) (u : Task) → IsIn u ts → u.steps ≡ AnswerHost t → HasSteps (AnswerHost t) ts
    queued [] u i e = elim i [ ]
    queued (v ∷ more) u (inl z) e = inl (sym (ap {A = Task} {B = Steps} (λ v. v.steps) z) ∙ e)
    queued (v ∷ more) u (inr i) e = inr (queued more u i e)

    by_place : Asks t p.host_answers p.tasks → IsPending t p.host_answers ⊎ HasSteps (AnswerHost t) p.tasks
    by_place (pending_for b i e) = inl (pends p.host_answers b i e)
    by_place (due_for u i e) = inr (queued p.tasks u i e)

-- what is known of a page from the first on
abbrev FitsFrom : Page → Page → Type 0
FitsFrom first q = Fits (Reached first q) (Lost first q) first.hosts q

-- a move further
further : {first q r : Page} → ((s : Page) → Moves s q → Moves s r) → FitsFrom first q → Fits (Reached first r) (Lost first r) first.hosts q
further {first = first} {q = q} {r = r} move f =
    record {
      asks = f.asks;
      follow = f.follow;
      waiting = f.waiting;
      known = λ a i. reach a (f.known a i);
      gone = λ a i d. lose a (f.gone a i d);
    }
  where
    reach : (a : Ask) → Reached first q a → Reached first r a
    reach a k = record { page = k.page; so_far = k.so_far; awaited = k.awaited; onward = move k.page k.onward }

    lose : (a : Ask) → Lost first q a → Lost first r a
    lose a k = record { before = k.before; after = k.after; so_far = k.so_far; awaited = k.awaited; aborted = k.aborted; line = k.line; onward = move k.after k.onward }

moves-fit : {first q : Page} → Moves first q → Grounds first → FitsFrom first first → FitsFrom first q
moves-fit here g f = f
moves-fit {first = first} (changing {q = q} {r = r} a c plain) g f =
    change-fits (Reached first r) (Lost first r) first.hosts c (grounds-later a g)
    (λ t w. record { page = r; so_far = changing a c plain; awaited = awaits t r w; onward = here })
    (λ t w s e. record { before = q; after = r; so_far = a; awaited = awaits t q w; aborted = s; line = e; onward = here })
    (further (λ s m. changing m c plain) (moves-fit a g f))
moves-fit {first = first} (arming {q = q} {s = s} a c d w) g f =
    arms-fit (Reached first s) (Lost first s) first.hosts c d w (grounds-later a g)
    (λ t k. record { page = s; so_far = arming a c d w; awaited = awaits t s k; onward = here })
    (further (λ s m. arming m c d w) (moves-fit a g f))
moves-fit {first = first} {q = r} (calling {q = q} a b w i) g f =
    said-on (Reached first r) (Lost first r) first.hosts (Call (called_by b)) (taken b q) refl
    (begins-fit (Reached first r) (Lost first r) first.hosts b q (further (λ s m. calling m b w i) (moves-fit a g f)))
moves-fit {first = first} {q = r} (ending {q = q} a e h) g f = said-on (Reached first r) (Lost first r) first.hosts e q (end-silent e h) (further (λ s m. ending m e h) (moves-fit a g f))
moves-fit {first = first} (flagging {q = q} {r = r} a x y z w u v t j) g f =
    replaced (Reached first r) (Lost first r) first.hosts (places q) (places r) r.events u
    (subst (λ (past : History). Followed (Reached first r) (Lost first r) first.hosts q.host_answers q.tasks q.hosts past) (sym y)
    (further (λ s m. flagging m x y z w u v t j) (moves-fit a g f)))
moves-fit {first = first} {q = r} (running {q = q} a j others x y nm) g f =
    said-on (Reached first r) (Lost first r) first.hosts (Run j.number) q refl (further (λ s m. running m j others x y nm) (moves-fit a g f))
moves-fit {first = first} {q = r} (framing {q = q} a n) g f = said-on (Reached first r) (Lost first r) first.hosts (Frame n) q refl (further (λ s m. framing m n) (moves-fit a g f))
moves-fit (idling a none) g f = further (λ s m. idling m none) (moves-fit a g f)

-- nothing was asked before the first line
first-fits-all : (program : Program) (setup : Setup) (hosts : List HostClosure) → FitsFrom (first_page program setup hosts) (first_page program setup hosts)
first-fits-all program setup hosts =
    record {
      asks = [];
      follow = record {
        askers = λ r. refl;
        one_closure = λ a b i j e. elim i [ ];
        one_asker = λ a b i j e. elim i [ ];
        live = λ a i. elim i [ ];
        answered = λ k h. absurd (false_true h);
        undropped = λ a i h. elim i [ ];
        marks = λ k. same (slice_get hosts k);
      };
      waiting = λ t a. absurd (none t a);
      known = λ a i. elim i [ ];
      gone = λ a i d. elim i [ ];
    }
  where
    same : (o : Option HostClosure) → o ≡ option_map (λ c. c) o
    same None = refl
    same (Some c) = refl

    no_script : (t : HostTask) → RunScript ≡ AnswerHost t → ⊥
    no_script t e = Prim.cc

    none : (t : HostTask) → Asks t (first_page program setup hosts).host_answers (first_page program setup hosts).tasks → ⊥
    none t (pending_for a i e) = i
    none t (due_for u (inl z) e) = no_script t (sym (ap {A = Task} {B = Steps} (λ v. v.steps) z) ∙ e)
    none t (due_for u (inr i) e) = i

-- ---- runs

-- from a first page on the marks follow the lines, wherever the moves come to
pub closures_follow_moves : (program : Program) (setup : Setup) (hosts : List HostClosure) {p q : Page} → Moves (first_page program setup hosts) p → ((s : Page) → Moves s p → ComesTo s q) → q.events ≡ p.events → q.hosts ≡ p.hosts → ClosuresFollow (first_page program setup hosts) q
closures_follow_moves program setup hosts {p = p} {q = q} a comes lines closures =
    by_marks f.asks (λ b i. reach b (f.known b i)) (λ b i d. lose b (f.gone b i (ap {A = History} {B = Bool} (λ past. was_dropped past b.registration) (sym lines) ∙ d)))
    (subst (λ (hs : List HostClosure). MarksFollow f.asks hosts q.events hs) (sym closures) (subst (λ (past : History). MarksFollow f.asks hosts past p.hosts) (sym lines) f.follow))
  where
    first : Page
    first = first_page program setup hosts

    f : FitsFrom (first_page program setup hosts) p
    f = moves-fit a (first-grounds program setup hosts) (first-fits-all program setup hosts)

    reach : (b : Ask) → Reached first p b → WasAwaited first q b
    reach b k = record { page = k.page; so_far = k.so_far; awaited = k.awaited; onward = comes k.page k.onward }

    lose : (b : Ask) → Lost first p b → WasAborted first q b
    lose b k = record { before = k.before; after = k.after; so_far = k.so_far; awaited = k.awaited; aborted = k.aborted; line = k.line; onward = comes k.after k.onward }

closures_follow_ends : (program : Program) (setup : Setup) (hosts : List HostClosure) {q : Page} → ComesTo (first_page program setup hosts) q → ClosuresFollow (first_page program setup hosts) q
closures_follow_ends program setup hosts (moved a) = closures_follow_moves program setup hosts a (λ s m. moved m) refl refl
closures_follow_ends program setup hosts (unanswered a source task t e steps) = closures_follow_moves program setup hosts a (λ s m. unanswered m source task t e steps) refl refl

-- from a first page on the marks follow the lines, wherever a run stops
pub closures_follow_runs : {C : Type 0} (rules : Rules C) (program : Program) (setup : Setup) (hosts : List HostClosure) (c : C) → HoldsNoNumbers setup → ClosuresFollow (first_page program setup hosts) (state_of (run_by rules program setup hosts c)).host
closures_follow_runs rules program setup hosts c h = closures_follow_ends program setup hosts (run_is_moves rules program setup hosts c h)
