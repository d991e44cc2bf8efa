-- The scheduler's tasks are called directly behind a turn of the scheduler, in the order of their priorities.
use Rattle.page_model.specs.Tasks.{background}
use Rattle.std.proofs.Common.{◌≡◌, ℕ, zero, suc, ◌≤◌, Bool, true, false, List, [], ◌∷◌, ◌&&◌, ◌||◌, not, Option, Some, None, refl, sym, subst, ap, ◌∙◌, cond, length, arith, nat_lt, option_map, unwrap_or}
use Rattle.std.proofs.lemmas.Bool.{eqb-true, eq-eqb, ltb-false}
use Rattle.std.specs.Prelude.{◌==◌, filter, find}
use Rattle.std.specs.List.{list_all}
use Rattle.page_types.specs.declared.Priority.{Priority}
use Rattle.page_types.specs.declared.RegKind.{RegKind}
use Rattle.page_types.specs.declared.RegKind.TheVariants as kind
use Rattle.page_types.specs.declared.Source.TheVariants.{Sched}
use Rattle.page_types.specs.Events.{Arm, Frame, QueueName, Event, Stamped, Call, Reg, Run, Turn, IdleLine, Host, Drop, Due, Enq, Prio}
use Rattle.page_types.specs.Tree.{Program}
use Rattle.page_parts.specs.Words.{and_last, without, is_there}
use Rattle.page_parts.specs.TaskSignals.{Prios, priority_of}
use Rattle.page_parts.specs.HostClosures.{HostClosure}
use Rattle.page_parts.specs.Setup.{Setup}
use Rattle.page_parts.specs.Promises.{Reaction, the_promise}
use Rattle.page_parts.specs.Promises as Promises
use Rattle.page_parts.specs.Notices.{Context, Notices, Noticed, changed, subscribe_promise, queue_micro}
use Rattle.page_model.specs.State.{Role, ScriptRole, OfKind, Registration, Page, PrioSource, Fixed, OfSignal, SchedTask, SchedulingState, Completion, EnqueuePost, Completing, emit, emit_each, on_notices, context, caller, no_registration}
use Rattle.page_model.specs.Invoke.{register_as, call_begun}
use Rattle.page_model.specs.PageTime.{deadline, completion_of}
use Rattle.page_model.specs.SchedulerTasks.{no_state, queue_name, first_of}
use Rattle.page_model.specs.Numbers.{Each, IfThere, IsFor, made_by, timer_role, is_timer_role}
use Rattle.page_model.specs.Turns.{first_page}
use Rattle.page_model.proofs.GivenNumbers.Growing.{length-last, Each-more, Each-last, Each-without, Each-find, Each-numbered, numbered-last}
use Rattle.page_laws.specs.History.{History, has_kind, is_scheduled, is_some_and, was_called, was_dropped, is_rest, is_sched_turn, last_line}
use Rattle.page_laws.specs.SchedulerLaws.{Enqueued, enqueued, waiting, priority_now, precedes, first_tasks, has_task, is_later, keeps_priorities}
use Rattle.page_laws.specs.Moves.{is_aside, is_end, role_at, signal_at, id_at, promise_changes, Places, places, completions_but, PlaceChange, places_stay, task_queued, task_left, armed_again, signal_armed, completed, idle_started, idle_queued, id_cleared, idle_armed, DueChange, timer_due, delay_due, signal_due, idle_due, answer_due, Dropping, timer_dropped, idle_dropped, listener_dropped, FirstPlace, nowhere, at_listener, at_timer, at_delay, at_idle, at_host, AsBefore, PageChange, elsewhere, told, arm_told, rested, answered, dropped, task_dropped, frame_dropped, prio_told, registered, enqueued_anew, fell_due, post_fell_due, frame_asked, promised, settled, followed, adopted, subscribed, then_asked, micro_asked, rejected_taken, noted, Beginning, TheScript, ATimer, AFrame, AnIdle, ALateIdle, AListener, APost, AContinuation, AMicro, AReaction, called_by, role_of, taken, Waited, Moves, here, changing, arming, calling, ending, flagging, running, framing, idling}
use Rattle.page_laws.specs.Scheduling.{HasPriority, Sourced, known, inherited, Scheduling, scheduling_of, SchedulingAfter}
use Rattle.page_laws.proofs.Cancelled as cancelled
use Rattle.page_laws.proofs.Cancelled.{unless, made-kind, kind-there, GoneBy}
use Rattle.page_laws.proofs.Claims.{completed-less}
use Rattle.page_laws.proofs.Finding.{false_true, same_number}
use Rattle.page_laws.proofs.First.{turned, turned-last, turned-filter, first-found, first_of-has}
use Rattle.page_laws.proofs.Lines.{changed-each, added, emit_each-events}
use Rattle.page_laws.proofs.Once as once
use Rattle.page_laws.proofs.Registered.{At, KindsFit, at_number, kind_in_role}
use Rattle.page_laws.proofs.Scans.{Test, Kept}
use Rattle.page_laws.proofs.Totals.{one_if}

abbrev pub in_priority : Test
in_priority past e = keeps_priorities past e.event

-- ---- what waits

abbrev is_scheduled_role : Role → Bool
is_scheduled_role ScriptRole = false
is_scheduled_role (OfKind k) = is_scheduled k

abbrev CompletionFits : Prios → Completion → Type 0
CompletionFits ps (EnqueuePost r source) = HasPriority ps source
CompletionFits ps c = Unit {0}

abbrev DelaysFit : Prios → List Completing → Type 0
DelaysFit ps cs = Each (λ (c : Completing). CompletionFits ps c.completion) cs

abbrev StatesFit : Prios → List SchedulingState → Type 0
StatesFit ps ss = Each (λ (s : SchedulingState). HasPriority ps s.prio_source) ss

-- a scheduler task: its registration is one, and its source has a priority
record TaskFits (xs : List Registration) (ps : Prios) (t : SchedTask) : Type 0 where
  role : is_scheduled_role (role_at xs t.registration) ≡ true
  source : HasPriority ps t.source

-- what waits by the lines are the scheduler's tasks, the last one first; each source has a priority, which the lines tell
record Scheduled (xs : List Registration) (ts : List SchedTask) (cs : List Completing) (g : Scheduling) (past : History) : Type 0 where
  kept : Kept in_priority past
  last : last_line is_sched_turn past ≡ false
  row : waiting past ≡ turned ts []
  orders : Each (λ (u : Enqueued). u.order ≤ g.tasks_made) (enqueued past)
  told : (s : ℕ) (q : Priority) → priority_of g.prios s ≡ Some q → priority_now past s ≡ Some q
  tasks : Each (TaskFits xs g.prios) ts
  delays : DelaysFit g.prios cs
  states : StatesFit g.prios g.states

-- ---- lines

abbrev tells : Event → Bool
tells (Call r) = true
tells (Drop r) = true
tells (Enq r queue continuation n) = true
tells (Prio s priority) = true
tells (Turn n source) = is_sched_turn (Turn n source)
tells e = false

abbrev Silent : Event → Type 0
Silent e = tells e ≡ false

aside-silent : (e : Event) → is_aside e ≡ true → Silent e
aside-silent (Call r) h = Prim.cc
aside-silent (Drop r) h = Prim.cc
aside-silent (Enq r queue continuation n) h = Prim.cc
aside-silent (Prio s priority) h = Prim.cc
aside-silent (Turn n source) h = Prim.cc
aside-silent e h = refl

rest-silent : (e : Event) → is_rest e ≡ true → is_sched_turn e ≡ false → Silent e
rest-silent (Call r) h k = Prim.cc
rest-silent (Drop r) h k = Prim.cc
rest-silent (Enq r queue continuation n) h k = Prim.cc
rest-silent (Prio s priority) h k = Prim.cc
rest-silent (Turn n source) h k = k
rest-silent e h k = refl

end-silent : (e : Event) → is_end e ≡ true → Silent e
end-silent (Call r) h = Prim.cc
end-silent (Drop r) h = Prim.cc
end-silent (Enq r queue continuation n) h = Prim.cc
end-silent (Prio s priority) h = Prim.cc
end-silent (Turn n source) h = Prim.cc
end-silent e h = refl

silent-fits : (e : Event) (now : ℕ) (xs : List Registration) (ts : List SchedTask) (cs : List Completing) (g : Scheduling) (past : History) → Silent e → Scheduled xs ts cs g past → Scheduled xs ts cs g (record { time = now; event = e } ∷ past)
silent-fits (Call r) now xs ts cs g past h f = Prim.cc
silent-fits (Drop r) now xs ts cs g past h f = Prim.cc
silent-fits (Enq r queue continuation n) now xs ts cs g past h f = Prim.cc
silent-fits (Prio s priority) now xs ts cs g past h f = Prim.cc
silent-fits (Turn n source) now xs ts cs g past h f = record { kept = (ap not f.last, f.kept); last = h; row = f.row; orders = f.orders; told = f.told; tasks = f.tasks; delays = f.delays; states = f.states }
silent-fits e now xs ts cs g past h f = record { kept = (ap not f.last, f.kept); last = refl; row = f.row; orders = f.orders; told = f.told; tasks = f.tasks; delays = f.delays; states = f.states }

added-fits : (now : ℕ) (es : List Event) (xs : List Registration) (ts : List SchedTask) (cs : List Completing) (g : Scheduling) (past : History) → Each Silent es → Scheduled xs ts cs g past → Scheduled xs ts cs g (added now es past)
added-fits now [] xs ts cs g past h f = f
added-fits now (e ∷ es) xs ts cs g past h f = added-fits now es xs ts cs g (record { time = now; event = e } ∷ past) h.1 (silent-fits e now xs ts cs g past h.0 f)

changed-silent : (current : Context) (names : List (List ℕ)) (n : ℕ) (c : Promises.Change) (s : Notices) → Each Silent (changed current names n c s).lines
changed-silent = changed-each Silent (λ n ok bs. refl) (λ j what. refl)

subscribed-silent : (current : Context) (n : ℕ) (r : Reaction) (s : Notices) → Each Silent (subscribe_promise current n r s).lines
subscribed-silent current n r s =
    changed-silent current [] n (Promises.subscribe n (the_promise s.promises n) r) (record s { rejected = without (λ m. m == n) s.rejected; outstanding = without (λ m. m == n) s.outstanding })

-- a filter after another one
filter-both : (p q s : Enqueued → Bool) (us : List Enqueued) → ((u : Enqueued) → p u ≡ q u && s u) → filter p us ≡ filter q (filter s us)
filter-both p q s [] h = refl
filter-both p q s (u ∷ us) h = by_test (s u) refl (filter-both p q s us h)
  where
    by_test : (b : Bool) → s u ≡ b → filter p us ≡ filter q (filter s us) → cond (p u) (u ∷ filter p us) (filter p us) ≡ filter q (cond b (u ∷ filter s us) (filter s us))
    by_test true e k = by_other (q u) (h u ∙ (ap {A = Bool} {B = Bool} (λ c. q u && c) e ∙ and-true (q u)))
      where
        and-true : (c : Bool) → c && true ≡ c
        and-true true = refl
        and-true false = refl

        by_other : (c : Bool) → p u ≡ c → cond (p u) (u ∷ filter p us) (filter p us) ≡ cond c (u ∷ filter q (filter s us)) (filter q (filter s us))
        by_other true e1 = ap {A = Bool} {B = List Enqueued} (λ d. cond d (u ∷ filter p us) (filter p us)) e1 ∙ ap (u ∷◌) k
        by_other false e1 = ap {A = Bool} {B = List Enqueued} (λ d. cond d (u ∷ filter p us) (filter p us)) e1 ∙ k
    by_test false e k = ap {A = Bool} {B = List Enqueued} (λ d. cond d (u ∷ filter p us) (filter p us)) (h u ∙ (ap {A = Bool} {B = Bool} (λ c. q u && c) e ∙ and-false (q u))) ∙ k
      where
        and-false : (c : Bool) → c && false ≡ false
        and-false true = refl
        and-false false = refl

-- the tasks of a registration
abbrev of_registration : ℕ → SchedTask → Bool
of_registration r t = t.registration == r

equal-turns : (r q : ℕ) → (r == q) ≡ (q == r)
equal-turns r q = by_test (r == q) refl
  where
    by_test : (b : Bool) → (r == q) ≡ b → b ≡ (q == r)
    by_test true e = sym (eq-eqb q r (sym (eqb-true r q e)))
    by_test false e = sym (same_number q r (λ same. false_true (sym e ∙ eq-eqb r q (sym same))))

called-row : (r now : ℕ) (ts : List SchedTask) (past : History) → waiting past ≡ turned ts [] → waiting (record { time = now; event = Call r } ∷ past) ≡ turned (without (of_registration r) ts) []
called-row r now ts past h =
    filter-both (λ u. not (((r == u.registration) || was_called past u.registration) || was_dropped past u.registration)) (λ u. not (r == u.registration)) (λ u. not (was_called past u.registration || was_dropped past u.registration)) (enqueued past) (λ u. by_tests (r == u.registration) (was_called past u.registration) (was_dropped past u.registration))
    ∙ (ap (filter (λ (u : Enqueued). not (r == u.registration))) h ∙ turned-filter (λ (u : Enqueued). not (r == u.registration)) (of_registration r) ts [] (λ t. ap not (equal-turns r t.registration)))
  where
    by_tests : (b c d : Bool) → not ((b || c) || d) ≡ not b && not (c || d)
    by_tests true c d = refl
    by_tests false c d = refl

dropped-row : (r now : ℕ) (ts : List SchedTask) (past : History) → waiting past ≡ turned ts [] → waiting (record { time = now; event = Drop r } ∷ past) ≡ turned (without (of_registration r) ts) []
dropped-row r now ts past h =
    filter-both (λ u. not (was_called past u.registration || ((r == u.registration) || was_dropped past u.registration))) (λ u. not (r == u.registration)) (λ u. not (was_called past u.registration || was_dropped past u.registration)) (enqueued past) (λ u. by_tests (r == u.registration) (was_called past u.registration) (was_dropped past u.registration))
    ∙ (ap (filter (λ (u : Enqueued). not (r == u.registration))) h ∙ turned-filter (λ (u : Enqueued). not (r == u.registration)) (of_registration r) ts [] (λ t. ap not (equal-turns r t.registration)))
  where
    by_tests : (b c d : Bool) → not (c || (b || d)) ≡ not b && not (c || d)
    by_tests true true d = refl
    by_tests true false d = refl
    by_tests false c d = refl

-- none is of a registration that is no scheduler task
none-gone : (r : ℕ) (xs : List Registration) (ps : Prios) (ts : List SchedTask) → is_scheduled_role (role_at xs r) ≡ false → Each (TaskFits xs ps) ts → without (of_registration r) ts ≡ ts
none-gone r xs ps [] h k = refl
none-gone r xs ps (t ∷ ts) h k = by_test (t.registration == r) refl (none-gone r xs ps ts h k.1)
  where
    by_test : (b : Bool) → (t.registration == r) ≡ b → without (of_registration r) ts ≡ ts → cond b (without (of_registration r) ts) (t ∷ without (of_registration r) ts) ≡ t ∷ ts
    by_test true e rest = absurd (false_true (sym h ∙ (ap {A = ℕ} {B = Bool} (λ n. is_scheduled_role (role_at xs n)) (sym (eqb-true t.registration r e)) ∙ k.0.role)))
    by_test false e rest = ap (t ∷◌) rest

-- a call or a cancel, by which the tasks of a registration go
gone-fits : (e : Event) (r now : ℕ) (xs : List Registration) (ts : List SchedTask) (cs : List Completing) (g : Scheduling) (past : History) → keeps_priorities past e ≡ true → is_sched_turn e ≡ false → waiting (record { time = now; event = e } ∷ past) ≡ turned (without (of_registration r) ts) [] → Each (λ (u : Enqueued). u.order ≤ g.tasks_made) (enqueued (record { time = now; event = e } ∷ past))
    → ((s : ℕ) (q : Priority) → priority_of g.prios s ≡ Some q → priority_now (record { time = now; event = e } ∷ past) s ≡ Some q) → Kept in_priority past → Each (TaskFits xs g.prios) ts → DelaysFit g.prios cs → StatesFit g.prios g.states
    → Scheduled xs (without (of_registration r) ts) cs g (record { time = now; event = e } ∷ past)
gone-fits e r now xs ts cs g past h last row orders tells_now kept tasks delays states =
    record { kept = (h, kept); last = last; row = row; orders = orders; told = tells_now; tasks = Each-without (TaskFits xs g.prios) (of_registration r) ts tasks; delays = delays; states = states }

-- a call of what is no scheduler task
call-fits : (r now : ℕ) (xs : List Registration) (ts : List SchedTask) (cs : List Completing) (g : Scheduling) (past : History) → is_scheduled_role (role_at xs r) ≡ false → has_kind is_scheduled past r ≡ false → Scheduled xs ts cs g past → Scheduled xs ts cs g (record { time = now; event = Call r } ∷ past)
call-fits r now xs ts cs g past role h f =
    subst (λ (us : List SchedTask). Scheduled xs us cs g (record { time = now; event = Call r } ∷ past)) (none-gone r xs g.prios ts role f.tasks)
    (gone-fits (Call r) r now xs ts cs g past (ap {A = Bool} {B = Bool} (λ b. cond b (has_kind is_scheduled past r && has_task (first_tasks past r)) (not (has_kind is_scheduled past r))) f.last ∙ ap not h) refl (called-row r now ts past f.row) f.orders f.told f.kept f.tasks f.delays f.states)

-- a cancel
drop-fits : (r now : ℕ) (xs : List Registration) (ts : List SchedTask) (cs : List Completing) (g : Scheduling) (past : History) → Scheduled xs ts cs g past → Scheduled xs (without (of_registration r) ts) cs g (record { time = now; event = Drop r } ∷ past)
drop-fits r now xs ts cs g past f = gone-fits (Drop r) r now xs ts cs g past (ap not f.last) refl (dropped-row r now ts past f.row) f.orders f.told f.kept f.tasks f.delays f.states

other-drop : (r now : ℕ) (xs : List Registration) (ts : List SchedTask) (cs : List Completing) (g : Scheduling) (past : History) → is_scheduled_role (role_at xs r) ≡ false → Scheduled xs ts cs g past → Scheduled xs ts cs g (record { time = now; event = Drop r } ∷ past)
other-drop r now xs ts cs g past h f = subst (λ (us : List SchedTask). Scheduled xs us cs g (record { time = now; event = Drop r } ∷ past)) (none-gone r xs g.prios ts h f.tasks) (drop-fits r now xs ts cs g past f)

-- the scheduler's first task, behind the line of its turn
sched-fits : (t : SchedTask) (n now : ℕ) (p : Page) (xs : List Registration) (cs : List Completing) (g : Scheduling) (past : History) → g.prios ≡ p.prios → first_of p p.sched_tasks ≡ Some t → has_kind is_scheduled past t.registration ≡ true → Scheduled xs p.sched_tasks cs g past
    → Scheduled xs (without (of_registration t.registration) p.sched_tasks) cs g (record { time = now; event = Call t.registration } ∷ record { time = now; event = Turn n (Some Sched) } ∷ past)
sched-fits t n now p xs cs g past same e h f =
    let before : History = record { time = now; event = Turn n (Some Sched) } ∷ past in
    gone-fits (Call t.registration) t.registration now xs p.sched_tasks cs g before
    (ap {A = Bool} {B = Bool} (λ b. b && has_task (first_tasks before t.registration)) h
    ∙ (ap {A = List Enqueued} {B = Bool} (λ us. has_task (filter (λ u. (u.registration == t.registration) && list_all (precedes before u) us) us)) f.row
    ∙ first-found p before p.sched_tasks t (λ s q k. f.told s q (ap {A = Prios} {B = Option Priority} (λ ps. priority_of ps s) same ∙ k)) (Each-more (TaskFits xs g.prios) (λ u. HasPriority p.prios u.source) (λ u k. subst (λ (ps : Prios). HasPriority ps u.source) same k.source) p.sched_tasks f.tasks) e))
    refl (called-row t.registration now p.sched_tasks before f.row) f.orders f.told (ap not f.last, f.kept) f.tasks f.delays f.states

-- an enqueuing of what was not called and not dropped
enqueue-fits : (t : SchedTask) (queue : QueueName) (now made : ℕ) (xs : List Registration) (ts : List SchedTask) (cs : List Completing) (g h : Scheduling) (past : History) → t.order ≡ suc g.tasks_made → suc g.tasks_made ≤ h.tasks_made → queue ≡ queue_name t.source → h.prios ≡ g.prios → h.states ≡ g.states
    → was_called past t.registration ≡ false → was_dropped past t.registration ≡ false → TaskFits xs g.prios t → Scheduled xs ts cs g past
    → Scheduled xs (and_last ts t) cs h (record { time = now; event = Enq t.registration queue t.continuation t.order } ∷ past)
enqueue-fits t queue now made xs ts cs g h past order more named same states uncalled undropped fits f =
    subst (λ (ps : Prios). Scheduled xs (and_last ts t) cs (record { prios = ps; states = h.states; tasks_made = h.tasks_made; idle_start = h.idle_start }) (line ∷ past)) (sym same)
    (subst (λ (ss : List SchedulingState). Scheduled xs (and_last ts t) cs (record { prios = g.prios; states = ss; tasks_made = h.tasks_made; idle_start = h.idle_start }) (line ∷ past)) (sym states)
    (record {
      kept = (both, f.kept);
      last = refl;
      row = ap {A = Bool} {B = List Enqueued} (λ b. cond (not (b || was_dropped past t.registration)) (entry ∷ waiting past) (waiting past)) uncalled
          ∙ (ap {A = Bool} {B = List Enqueued} (λ b. cond (not b) (entry ∷ waiting past) (waiting past)) undropped
          ∙ (ap {A = List Enqueued} {B = List Enqueued} (entry ∷◌) f.row ∙ (ap {A = QueueName} {B = List Enqueued} (λ q. record { registration = t.registration; queue = q; continuation = t.continuation; order = t.order } ∷ turned ts []) named ∙ sym (turned-last ts t []))));
      orders = (omega (arith, order, more), Each-more (λ (u : Enqueued). u.order ≤ g.tasks_made) (λ (u : Enqueued). u.order ≤ h.tasks_made) (λ u le. omega (arith, le, more)) (enqueued past) f.orders);
      told = f.told;
      tasks = Each-last (TaskFits xs g.prios) ts t f.tasks fits;
      delays = f.delays;
      states = f.states;
    }))
  where
    line : Stamped
    line = record { time = now; event = Enq t.registration queue t.continuation t.order }

    entry : Enqueued
    entry = record { registration = t.registration; queue = queue; continuation = t.continuation; order = t.order }

    later : (us : List Enqueued) → Each (λ (u : Enqueued). u.order ≤ g.tasks_made) us → list_all (λ u. nat_lt u.order t.order) us ≡ true
    later [] k = refl
    later (u ∷ us) k = by_test (nat_lt u.order t.order) refl (later us k.1)
      where
        by_test : (b : Bool) → nat_lt u.order t.order ≡ b → list_all (λ u. nat_lt u.order t.order) us ≡ true → b && list_all (λ u. nat_lt u.order t.order) us ≡ true
        by_test true e rest = rest
        by_test false e rest = let le = ltb-false u.order t.order e in let le1 = k.0 in absurd (omega (arith, le, le1, order))

    both : not (last_line is_sched_turn past) && is_later past t.order ≡ true
    both = ap {A = Bool} {B = Bool} (λ b. not b && is_later past t.order) f.last ∙ later (enqueued past) f.orders

-- ---- what the scheduler reads

has-kept : (a b : Prios) → ((s : ℕ) → is_there (priority_of a s) ≡ true → is_there (priority_of b s) ≡ true) → (source : PrioSource) → HasPriority a source → HasPriority b source
has-kept a b k (Fixed q) h = tt
has-kept a b k (OfSignal s) h = k s h

completion-kept : (a b : Prios) → ((s : ℕ) → is_there (priority_of a s) ≡ true → is_there (priority_of b s) ≡ true) → (c : Completion) → CompletionFits a c → CompletionFits b c
completion-kept a b k (EnqueuePost r source) h = has-kept a b k source h
completion-kept a b k c h = tt

-- sources that have a priority keep one
kept-fits : (xs : List Registration) (ts : List SchedTask) (cs : List Completing) (g : Scheduling) (ps : Prios) (ss : List SchedulingState) (made from : ℕ) (past : History) → ss ≡ g.states → ((s : ℕ) → is_there (priority_of g.prios s) ≡ true → is_there (priority_of ps s) ≡ true) → g.tasks_made ≤ made
    → Kept in_priority past → last_line is_sched_turn past ≡ false → waiting past ≡ turned ts [] → Each (λ (u : Enqueued). u.order ≤ g.tasks_made) (enqueued past) → ((s : ℕ) (q : Priority) → priority_of ps s ≡ Some q → priority_now past s ≡ Some q)
    → Each (TaskFits xs g.prios) ts → DelaysFit g.prios cs → StatesFit g.prios g.states → Scheduled xs ts cs (record { prios = ps; states = ss; tasks_made = made; idle_start = from }) past
kept-fits xs ts cs g ps ss made from past same k le kept last row orders tells_now tasks delays states =
    record {
      kept = kept;
      last = last;
      row = row;
      orders = Each-more (λ (u : Enqueued). u.order ≤ g.tasks_made) (λ (u : Enqueued). u.order ≤ made) (λ u x. omega (arith, le, x)) (enqueued past) orders;
      told = tells_now;
      tasks = Each-more (TaskFits xs g.prios) (TaskFits xs ps) (λ t x. record { role = x.role; source = has-kept g.prios ps k t.source x.source }) ts tasks;
      delays = Each-more (λ (c : Completing). CompletionFits g.prios c.completion) (λ (c : Completing). CompletionFits ps c.completion) (λ c x. completion-kept g.prios ps k c.completion x) cs delays;
      states = subst (StatesFit ps) (sym same) (Each-more (λ (s : SchedulingState). HasPriority g.prios s.prio_source) (λ (s : SchedulingState). HasPriority ps s.prio_source) (λ s x. has-kept g.prios ps k s.prio_source x) g.states states);
    }

after-fits : (xs : List Registration) (ts : List SchedTask) (cs : List Completing) (g h : Scheduling) (past : History) → SchedulingAfter g h → Scheduled xs ts cs g past → Scheduled xs ts cs h past
after-fits xs ts cs g h past a f =
    kept-fits xs ts cs g h.prios h.states h.tasks_made h.idle_start past a.states (λ s x. ap is_there (a.priorities s) ∙ x) a.tasks_made f.kept f.last f.row f.orders (λ s q e. f.told s q (sym (a.priorities s) ∙ e)) f.tasks f.delays f.states

-- a scheduler task's registration was made
made-role : (xs : List Registration) (r : ℕ) → is_scheduled_role (role_at xs r) ≡ true → 1 ≤ r × r ≤ length xs
made-role xs r h = by_role (role_at xs r) refl h
  where
    by_role : (role : Role) → role_at xs r ≡ role → is_scheduled_role role ≡ true → 1 ≤ r × r ≤ length xs
    by_role ScriptRole e h = absurd (false_true h)
    by_role (OfKind k) e h = made-kind xs r k e

-- a registration more
grow-fits : (x : Registration) (xs : List Registration) (ts : List SchedTask) (cs : List Completing) (g : Scheduling) (past : History) → Scheduled xs ts cs g past → Scheduled (and_last xs x) ts cs g past
grow-fits x xs ts cs g past f =
    record {
      kept = f.kept;
      last = f.last;
      row = f.row;
      orders = f.orders;
      told = f.told;
      tasks = Each-more (TaskFits xs g.prios) (TaskFits (and_last xs x) g.prios) (λ t h. older t h) ts f.tasks;
      delays = f.delays;
      states = f.states;
    }
  where
    older : (t : SchedTask) → TaskFits xs g.prios t → TaskFits (and_last xs x) g.prios t
    older t h =
        let made = made-role xs t.registration h.role in
        let le = made.1 in
        let same : At (and_last xs x) t.registration ≡ At xs t.registration = at_number xs x t.registration made.0 (λ e. absurd (omega (arith, e, le))) in
        record { role = ap {A = Registration} {B = Bool} (λ y. is_scheduled_role y.role) same ∙ h.role; source = h.source }

delays-fit : (xs : List Registration) (ts : List SchedTask) (cs ds : List Completing) (g : Scheduling) (past : History) → DelaysFit g.prios ds → Scheduled xs ts cs g past → Scheduled xs ts ds g past
delays-fit xs ts cs ds g past d f = record { kept = f.kept; last = f.last; row = f.row; orders = f.orders; told = f.told; tasks = f.tasks; delays = d; states = f.states }

states-fit : (xs : List Registration) (ts : List SchedTask) (cs : List Completing) (g : Scheduling) (s : SchedulingState) (past : History) → HasPriority g.prios s.prio_source → Scheduled xs ts cs g past → Scheduled xs ts cs (record g { states = and_last g.states s }) past
states-fit xs ts cs g s past h f =
    record { kept = f.kept; last = f.last; row = f.row; orders = f.orders; told = f.told; tasks = f.tasks; delays = f.delays; states = Each-last (λ (s : SchedulingState). HasPriority g.prios s.prio_source) g.states s f.states h }

-- ---- pages

abbrev ScheduledAt : List Registration → Places → Scheduling → History → Type 0
ScheduledAt xs x g past = Scheduled xs x.sched_tasks x.completions g past

abbrev Fits : Page → Type 0
Fits p = ScheduledAt p.registrations (places p) (scheduling_of p) p.events

before-by : {p q : Page} → AsBefore p q → (g : Scheduling) → SchedulingAfter g (scheduling_of q) → ScheduledAt p.registrations (places q) g p.events → Fits q
before-by {p = p} {q = q} b g a f =
    after-fits q.registrations q.sched_tasks q.completions g (scheduling_of q) q.events a
    (subst (λ (xs : List Registration). ScheduledAt xs (places q) g q.events) (sym b.registrations) (subst (λ (past : History). ScheduledAt p.registrations (places q) g past) (sym b.events) f))

before-fits : {p q : Page} → AsBefore p q → ScheduledAt p.registrations (places q) (scheduling_of p) p.events → Fits q
before-fits {p = p} b f = before-by b (scheduling_of p) b.scheduling f

-- what lines leave
record Left : Type 0 where
  registrations : List Registration
  waiting : Places
  scheduling : Scheduling

left : Page → Left
left p = record { registrations = p.registrations; waiting = places p; scheduling = scheduling_of p }

emit_each-left : (es : List Event) (p : Page) → left (emit_each es p) ≡ left p
unfolding left
emit_each-left [] p = refl
emit_each-left (e ∷ es) p = emit_each-left es (emit e p)

notices-fit : (f : Notices → Noticed) (p : Page) → Each Silent (f p.notices).lines → Fits p → Fits (on_notices f p)
unfolding left
notices-fit f p h k =
    let q : Page = record p { notices = (f p.notices).notices } in
    let lines = (f p.notices).lines in
    subst (λ (l : Left). ScheduledAt l.registrations l.waiting l.scheduling (emit_each lines q).events) (sym (emit_each-left lines q))
    (subst (ScheduledAt p.registrations (places p) (scheduling_of p)) (sym (emit_each-events lines q)) (added-fits p.now lines p.registrations p.sched_tasks p.completions (scheduling_of p) p.events h k))

changes-fit : (n : ℕ) (c : Promises.Change) (p : Page) → Fits p → Fits (promise_changes n c p)
changes-fit n c p f = notices-fit (λ s. changed (context p) p.names n c s) p (changed-silent (context p) p.names n c p.notices) f

said : (e : Event) (p : Page) → Silent e → Fits p → Fits (emit e p)
said e p h f = silent-fits e p.now p.registrations p.sched_tasks p.completions (scheduling_of p) p.events h f

plain-fits : (k : RegKind) (x : Registration) (p : Page) → Fits p → Fits (register_as k x p)
plain-fits k x p f =
    grow-fits x p.registrations p.sched_tasks p.completions (scheduling_of p) (register_as k x p).events
    (silent-fits (Reg (suc (length p.registrations)) k (caller p)) p.now p.registrations p.sched_tasks p.completions (scheduling_of p) p.events refl f)

place-fits : {xs : List Registration} {x y : Places} → PlaceChange xs x y → (g : Scheduling) (past : History) → ScheduledAt xs x g past → ScheduledAt xs y g past
place-fits places_stay g past f = f
place-fits (task_queued t h plain) g past f = f
place-fits (task_left number) g past f = f
place-fits {xs = xs} {x = x} {y = y} (armed_again a t role there next) g past f = delays-fit xs x.sched_tasks x.completions y.completions g past (Each-last (λ (c : Completing). CompletionFits g.prios c.completion) x.completions _ f.delays tt) f
place-fits {xs = xs} {x = x} {y = y} (signal_armed ms now r s) g past f = delays-fit xs x.sched_tasks x.completions y.completions g past (Each-last (λ (c : Completing). CompletionFits g.prios c.completion) x.completions _ f.delays tt) f
place-fits (id_cleared id) g past f = f
place-fits (idle_queued t e from) g past f = f
place-fits (idle_armed t most own) g past f = f
place-fits {xs = xs} {x = x} {y = y} (completed start gone) g past f = delays-fit xs x.sched_tasks x.completions y.completions g past (Each-without (λ (c : Completing). CompletionFits g.prios c.completion) (λ c. c.start == start) x.completions f.delays) f
place-fits idle_started g past f = f

due-fits : {xs : List Registration} {r : ℕ} {x y : Places} → DueChange xs r x y → (g : Scheduling) (past : History) → ScheduledAt xs x g past → ScheduledAt xs y g past
due-fits {xs = xs} {x = x} {y = y} (timer_due start number source t e i role) g past f = delays-fit xs x.sched_tasks x.completions y.completions g past (Each-without (λ (c : Completing). CompletionFits g.prios c.completion) (λ c. c.start == start) x.completions f.delays) f
due-fits {xs = xs} {x = x} {y = y} (delay_due start source e role) g past f = delays-fit xs x.sched_tasks x.completions y.completions g past (Each-without (λ (c : Completing). CompletionFits g.prios c.completion) (λ c. c.start == start) x.completions f.delays) f
due-fits {xs = xs} {x = x} {y = y} (signal_due start s e role) g past f = delays-fit xs x.sched_tasks x.completions y.completions g past (Each-without (λ (c : Completing). CompletionFits g.prios c.completion) (λ c. c.start == start) x.completions f.delays) f
due-fits (idle_due t number source i e role) g past f = f
due-fits (answer_due before a after number source e i role) g past f = f

first-fits : {made : List Registration} {n : ℕ} {x y : Places} (g : Scheduling) → FirstPlace made g.prios n x y → (xs : List Registration) (past : History) → ScheduledAt xs x g past → ScheduledAt xs y g past
first-fits g nowhere xs past f = f
first-fits g (at_listener target name q e) xs past f = f
first-fits {x = x} {y = y} g (at_timer a t e first) xs past f = delays-fit xs x.sched_tasks x.completions y.completions g past (Each-last (λ (c : Completing). CompletionFits g.prios c.completion) x.completions _ f.delays tt) f
first-fits {x = x} {y = y} g (at_delay ms now q source e prio) xs past f = delays-fit xs x.sched_tasks x.completions y.completions g past (Each-last (λ (c : Completing). CompletionFits g.prios c.completion) x.completions _ f.delays prio) f
first-fits g (at_idle q e) xs past f = f
first-fits g (at_host c a e there live) xs past f = f

-- what is cancelled by its handle is no scheduler task
dropping-other : {xs : List Registration} {r : ℕ} {x y : Places} → Dropping xs r x y → is_scheduled_role (role_at xs r) ≡ false
dropping-other {xs = xs} {r = r} (timer_dropped id there e own) = by_number r (λ one. (own one).1)
  where
    by_kind : (k : RegKind) → is_timer_role (OfKind k) ≡ true → is_scheduled k ≡ false
    by_kind kind.Post h = Prim.cc
    by_kind kind.Yield h = Prim.cc
    by_kind k h = refl

    by_role : (role : Role) → is_timer_role role ≡ true → is_scheduled_role role ≡ false
    by_role ScriptRole h = refl
    by_role (OfKind k) h = by_kind k h

    by_number : (q : ℕ) → (1 ≤ q → is_timer_role (role_at xs q) ≡ true) → is_scheduled_role (role_at xs q) ≡ false
    by_number zero own = refl
    by_number (suc i) own = by_role (role_at xs (suc i)) (own (omega arith))
dropping-other (idle_dropped handle c e e1 role) = ap is_scheduled_role role
dropping-other (listener_dropped there role) = ap is_scheduled_role role

dropping-same : {xs : List Registration} {r : ℕ} {x y : Places} → Dropping xs r x y → (zs : List Registration) (g : Scheduling) (past : History) → ScheduledAt zs x g past → ScheduledAt zs y g past
dropping-same (timer_dropped id there e own) zs g past f = f
dropping-same (idle_dropped handle c e e1 role) zs g past f = f
dropping-same (listener_dropped there role) zs g past f = f

-- the source of a delay
delay-source : (ps : Prios) (start : ℕ) (cs : List Completing) (c : Completion) → DelaysFit ps cs → completion_of cs start ≡ Some c → CompletionFits ps c
delay-source ps start cs c h e = by_found (find (λ c. c.start == start) cs) (Each-find (λ (c : Completing). CompletionFits ps c.completion) (λ c. c.start == start) cs h) e
  where
    by_found : (o : Option Completing) → IfThere (λ (c : Completing). CompletionFits ps c.completion) o → option_map (λ (c : Completing). c.completion) o ≡ Some c → CompletionFits ps c
    by_found None x e = Prim.cc
    by_found (Some d) x e = subst (CompletionFits ps) (ap {A = Option Completion} {B = Completion} (λ o. unwrap_or o c) e) x

change-fits : {p q : Page} → PageChange p q → once.Fits p → cancelled.Fits p → Fits p → Fits q
change-fits {p = p} (elsewhere c b k) o d f = before-fits b (place-fits c (scheduling_of p) p.events f)
change-fits {p = p} (told e h) o d f = said e p (aside-silent e h) f
change-fits {p = p} (arm_told r due level w well) o d f = said (Arm r due level) p refl f
change-fits {p = p} (rested e h x y z over begun done) o d f = said e p (rest-silent e h z) f
change-fits {p = p} (answered source task t answer x y live z b) o d f =
    before-fits b (subst (λ (y : Places). ScheduledAt p.registrations y (scheduling_of p) (emit (Host t.closure t.number answer) p).events) (sym z) (said (Host t.closure t.number answer) p refl f))
change-fits {p = p} (registered k x e unframed u b at) o d f =
    before-fits b (first-fits (scheduling_of p) u (and_last p.registrations x) (register_as k x p).events (plain-fits k x p f))
change-fits {p = p} {q = q} (enqueued_anew k x t queue e i s n b) o d f =
    before-by b next (record { priorities = b.scheduling.priorities; states = b.scheduling.states; tasks_made = omega arith; idle_start = b.scheduling.idle_start })
    (subst (λ (y : Places). ScheduledAt (and_last p.registrations x) y next (emit (Enq t.registration queue t.continuation t.order) (register_as k x p)).events) (sym s)
    (enqueue-fits t queue p.now q.tasks_made (and_last p.registrations x) p.sched_tasks p.completions (scheduling_of p) next (register_as k x p).events n.0.order n.0.made n.0.named refl refl
    (once.calls-none p.events t.registration (let none = o.fresh t.registration (omega (arith, i)) in omega (arith, none)))
    (unless (was_dropped p.events t.registration) (λ g. let le = d.within t.registration (omega (arith, i)) g in absurd (omega (arith, i, le))))
    (record { role = role; source = by_source n.1 }) (plain-fits k x p f)))
  where
    next : Scheduling
    next = record { prios = p.prios; states = p.scheduling_states; tasks_made = q.tasks_made; idle_start = p.last_idle_start }

    role : is_scheduled_role (role_at (and_last p.registrations x) t.registration) ≡ true
    role =
        ap {A = ℕ} {B = Bool} (λ m. is_scheduled_role (role_at (and_last p.registrations x) m)) (i ∙ sym (length-last p.registrations x))
        ∙ (ap {A = Registration} {B = Bool} (λ y. is_scheduled_role y.role) (numbered-last p.registrations x no_registration) ∙ (ap is_scheduled_role e ∙ n.2))

    by_source : {source : PrioSource} → Sourced p.prios p.scheduling_states source → HasPriority p.prios source
    by_source (known h) = h
    by_source (inherited m) = Each-numbered (λ (s : SchedulingState). HasPriority p.prios s.prio_source) p.scheduling_states m no_state f.states tt
change-fits {p = p} (fell_due r c b by) o d f = before-fits b (due-fits c (scheduling_of p) (emit (Due r) p).events (said (Due r) p refl f))
change-fits {p = p} {q = q} (post_fell_due start source t queue e role a s n b by) o d f =
    before-by b next (record { priorities = b.scheduling.priorities; states = b.scheduling.states; tasks_made = omega arith; idle_start = b.scheduling.idle_start })
    (subst (λ (y : Places). ScheduledAt p.registrations y next (emit (Enq t.registration queue t.continuation t.order) (emit (Due t.registration) p)).events) (sym s)
    (enqueue-fits t queue p.now q.tasks_made p.registrations p.sched_tasks (completions_but start p.completions) (scheduling_of p) next (emit (Due t.registration) p).events n.0.order n.0.made n.0.named refl refl
    (once.calls-none p.events t.registration uncalled) undropped
    (record { role = ap is_scheduled_role role; source = subst (HasPriority p.prios) (sym n.1) (delay-source p.prios start p.completions (EnqueuePost t.registration source) f.delays e) })
    (delays-fit p.registrations p.sched_tasks p.completions (completions_but start p.completions) (scheduling_of p) (emit (Due t.registration) p).events (Each-without (λ (c : Completing). CompletionFits p.prios c.completion) (λ c. c.start == start) p.completions f.delays) (said (Due t.registration) p refl f))))
  where
    next : Scheduling
    next = record { prios = p.prios; states = p.scheduling_states; tasks_made = q.tasks_made; idle_start = p.last_idle_start }

    uncalled : once.calls t.registration p.events ≤ 0
    uncalled =
        let made = made-kind p.registrations t.registration kind.Post role in
        let c = o.once t.registration made.0 made.1 (ap once.is_once role) in
        let l = completed-less t.registration start p.completions (EnqueuePost t.registration source) e in
        let one : one_if (t.registration == t.registration) ≡ 1 = ap one_if (eq-eqb t.registration t.registration refl) in
        omega (arith, c, l, one)

    undropped : was_dropped p.events t.registration ≡ false
    undropped =
        unless (was_dropped p.events t.registration)
        (λ g.
        let made = made-kind p.registrations t.registration kind.Post role in
        let gone = subst (λ (r : Role). GoneBy (cancelled.page_waits p) t.registration (id_at p.registrations t.registration) (signal_at p.registrations t.registration) r) role (d.gone t.registration made.0 g) in
        false_true (sym a ∙ (sym (cancelled.source-same p (signal_at p.registrations t.registration)) ∙ gone.1)))
change-fits {p = p} (dropped r c b) o d f =
    before-fits b (dropping-same c p.registrations (scheduling_of p) (emit (Drop r) p).events (other-drop r p.now p.registrations p.sched_tasks p.completions (scheduling_of p) p.events (dropping-other c) f))
change-fits {p = p} (task_dropped r role a e s b) o d f =
    before-fits b
    (subst (λ (y : Places). ScheduledAt p.registrations y (scheduling_of p) (emit (Drop r) p).events) (sym s) (drop-fits r p.now p.registrations p.sched_tasks p.completions (scheduling_of p) p.events f))
change-fits {p = p} (frame_dropped handle c e role) o d f =
    other-drop c.registration p.now p.registrations p.sched_tasks p.completions (scheduling_of p) p.events (ap is_scheduled_role role) f
change-fits {p = p} (prio_told s priority ps c) o d f =
    kept-fits p.registrations p.sched_tasks p.completions (scheduling_of p) ps p.scheduling_states p.tasks_made p.last_idle_start (emit (Prio s priority) p).events refl c.kept (omega arith) (ap not f.last, f.kept) refl f.row f.orders
    (λ t q e. by_number t q e (s == t) refl) f.tasks f.delays f.states
  where
    by_number : (t : ℕ) (q : Priority) → priority_of ps t ≡ Some q → (b : Bool) → (s == t) ≡ b → cond b (Some priority) (priority_now p.events t) ≡ Some q
    by_number t q e true k = ap Some (sym (c.own q (ap (priority_of ps) (eqb-true s t k) ∙ e)))
    by_number t q e false k = f.told t q (sym (c.others t k) ∙ e)
change-fits {p = p} (frame_asked g) o d f = plain-fits kind.Frame (record { role = OfKind kind.Frame; callback = Some g; second_callback = None; timer_id = 0; promise = 0; signal = None; finally = false }) p f
change-fits promised o d f = f
change-fits {p = p} (settled n how x y) o d f = changes-fit n (Promises.settle n (the_promise p.notices.promises n) how) p f
change-fits {p = p} (followed n how x y) o d f = changes-fit n (Promises.settle n (the_promise p.notices.promises n) how) p f
change-fits {p = p} (adopted n from x y) o d f = changes-fit n (Promises.adopt n (the_promise p.notices.promises n) from) p f
change-fits {p = p} (subscribed n r g e) o d f = notices-fit (subscribe_promise (context p) n r) p (subscribed-silent (context p) n r p.notices) f
change-fits {p = p} (then_asked n x r e g z) o d f = notices-fit (subscribe_promise (context p) n r) (register_as kind.Then x p) (subscribed-silent (context p) n r p.notices) (plain-fits kind.Then x p f)
change-fits {p = p} (micro_asked x r e z) o d f = notices-fit (queue_micro (context p) r) (register_as kind.Micro x p) (refl, tt) (plain-fits kind.Micro x p f)
change-fits rejected_taken o d f = f
change-fits (noted n) o d f = f

-- ---- calls

-- what has another role has no such kind
other-kind : (xs : List Registration) (past : History) (r : ℕ) (role : Role) → KindsFit xs past → 1 ≤ r → role_at xs r ≡ role → is_scheduled_role role ≡ false → has_kind is_scheduled past r ≡ false
other-kind xs past r role k one e h = ap {A = Option RegKind} {B = Bool} (is_some_and is_scheduled) (k.tie r one ∙ ap kind_in_role e) ∙ by_role role h
  where
    by_role : (role : Role) → is_scheduled_role role ≡ false → is_some_and is_scheduled (kind_in_role role) ≡ false
    by_role ScriptRole h = refl
    by_role (OfKind k) h = h

-- a call of what is no scheduler task, behind where it was taken
called-fits : (r : ℕ) (role : Role) (p q : Page) → IsFor role (made_by p) r → is_scheduled_role role ≡ false → has_kind is_scheduled q.events r ≡ has_kind is_scheduled p.events r → q.registrations ≡ p.registrations → KindsFit p.registrations p.events → Fits q → Fits (emit (Call r) q)
called-fits r role p q i h same xs k f =
    call-fits r q.now q.registrations q.sched_tasks q.completions (scheduling_of q) q.events (ap {A = List Registration} {B = Bool} (λ ys. is_scheduled_role (role_at ys r)) xs ∙ (ap is_scheduled_role i.role ∙ h))
    (same ∙ other-kind p.registrations p.events r role k i.registration.from_one i.role h) f

timer-other : (b : Bool) → is_scheduled_role (timer_role b) ≡ false
timer-other true = refl
timer-other false = refl

begun-fits : (b : Beginning) (p : Page) → Waited b p → IsFor (role_of b) (made_by p) (called_by b) → KindsFit p.registrations p.events → Fits p → Fits (call_begun (called_by b) (taken b p))
begun-fits (TheScript source task) p w i k f = called-fits 1 ScriptRole p (taken (TheScript source task) p) i refl refl refl k f
begun-fits (ATimer source task t) p w i k f = called-fits t.registration (timer_role t.repeats) p (taken (ATimer source task t) p) i (timer-other t.repeats) refl refl k f
begun-fits (AFrame key c) p w i k f = called-fits c.registration (OfKind kind.Frame) p (taken (AFrame key c) p) i refl refl refl k f
begun-fits (AnIdle c others) p w i k f =
    called-fits c.registration (OfKind kind.Idle) p (taken (AnIdle c others) p) i refl refl refl k
    (states-fit p.registrations p.sched_tasks p.completions (scheduling_of p) background (emit (IdleLine (deadline p.last_idle_start p)) p).events tt (said (IdleLine (deadline p.last_idle_start p)) p refl f))
begun-fits (ALateIdle handle c) p w i k f =
    called-fits c.registration (OfKind kind.Idle) p (taken (ALateIdle handle c) p) i refl refl refl k (states-fit p.registrations p.sched_tasks p.completions (scheduling_of p) background p.events tt f)
begun-fits (AListener r) p w i k f = called-fits r (OfKind kind.Listener) p p i refl refl refl k f
begun-fits (APost t) p w i k f =
    let s : SchedulingState = record { abort_source = signal_at p.registrations t.registration; prio_source = t.source } in
    let has : HasPriority p.prios t.source = first_of-has (λ u. HasPriority p.prios u.source) p p.sched_tasks t w.0 (Each-more (TaskFits p.registrations p.prios) (λ u. HasPriority p.prios u.source) (λ u x. x.source) p.sched_tasks f.tasks) in
    states-fit p.registrations (without (of_registration t.registration) p.sched_tasks) p.completions (scheduling_of p) s (record { time = p.now; event = Call t.registration } ∷ record { time = p.now; event = Turn p.turns (Some Sched) } ∷ p.events) has
    (sched-fits t p.turns p.now p p.registrations p.completions (scheduling_of p) p.events refl w.0 (ap (is_some_and is_scheduled) (kind-there p.registrations p.events t.registration kind.Post k i.role)) f)
begun-fits (AContinuation t) p w i k f =
    sched-fits t p.turns p.now p p.registrations p.completions (scheduling_of p) p.events refl w.0 (ap (is_some_and is_scheduled) (kind-there p.registrations p.events t.registration kind.Yield k i.role)) f
begun-fits (AMicro job others r) p w i k f = called-fits r (OfKind kind.Micro) p (taken (AMicro job others r) p) i refl refl refl k (said (Run job.number) p refl f)
begun-fits (AReaction job others of x r) p w i k f = called-fits r (OfKind kind.Then) p (taken (AReaction job others of x r) p) i refl refl refl k (said (Run job.number) p refl f)

-- ---- moves

moves-fit : {p q : Page} → Moves p q → once.Fits p → cancelled.Fits p → Fits p → Fits q
moves-fit here o d f = f
moves-fit (changing a c plain) o d f = change-fits c (once.moves-fit a o) (cancelled.moves-fit a o d) (moves-fit a o d f)
moves-fit (arming a c e w) o d f =
    let once_there = once.moves-fit a o in
    let gone_there = cancelled.moves-fit a o d in
    change-fits e (once.change-fits c once_there) (cancelled.change-fits c once_there gone_there) (change-fits c once_there gone_there (moves-fit a o d f))
moves-fit (calling {q = q} a b w i) o d f = begun-fits b q w i (once.moves-fit a o).kinds (moves-fit a o d f)
moves-fit (ending {q = q} a e h) o d f = said e q (end-silent e h) (moves-fit a o d f)
moves-fit (flagging {q = q} {r = r} a x y z w u v t j) o d f =
    subst (λ (g : Scheduling). ScheduledAt r.registrations (places r) g r.events) (sym j)
    (subst (λ (x : Places). ScheduledAt r.registrations x (scheduling_of q) r.events) (sym u)
    (subst (λ (xs : List Registration). ScheduledAt xs (places q) (scheduling_of q) r.events) (sym z) (subst (ScheduledAt q.registrations (places q) (scheduling_of q)) (sym y) (moves-fit a o d f))))
moves-fit (running {q = q} a j others x y nm) o d f = said (Run j.number) q refl (moves-fit a o d f)
moves-fit (framing {q = q} a t) o d f = said (Frame t) q refl (moves-fit a o d f)
moves-fit (idling {q = q} a none) o d f =
    let g = moves-fit a o d f in
    kept-fits q.registrations q.sched_tasks q.completions (scheduling_of q) q.prios q.scheduling_states q.tasks_made q.now q.events refl (λ s h. h) (omega arith) g.kept g.last g.row g.orders g.told g.tasks g.delays g.states

-- from a first page on, the scheduler's tasks go in the order of their priorities
pub priorities_kept : (program : Program) (setup : Setup) (hosts : List HostClosure) {q : Page} → Moves (first_page program setup hosts) q → Kept in_priority q.events
priorities_kept program setup hosts a = (moves-fit a (once.first_fits program setup hosts) (cancelled.first_fits program setup hosts) first).kept
  where
    first : Fits (first_page program setup hosts)
    first = record { kept = tt; last = refl; row = refl; orders = tt; told = λ s q e. absurd (none e); tasks = tt; delays = tt; states = tt }
      where
        none : {q : Priority} → None ≡ Some q → ⊥
        none e = Prim.cc
