-- A run by any rules is the run by the lists of its own choices: turn by turn, with whatever choices come behind them.
use Rattle.std.proofs.Common.{◌≡◌, ℕ, zero, suc, Bool, true, false, List, [], ◌∷◌, ◌++◌, Option, Some, None, refl, sym, ap, ◌∙◌, subst, cond, ◌||◌, ℤ, Result, nat_lt, nat_le, max, slice_get}
use Rattle.std.specs.Prelude.{option_map, reverse}
use mathlib.Core.List.{reverse_aux}
use Rattle.page_types.specs.Tree.{Program}
use Rattle.page_types.specs.declared.End.{End}
use Rattle.page_types.specs.declared.End.TheVariants.{Done as DoneEnd, Fuel as FuelEnd, Clock as ClockEnd}
use Rattle.page_types.specs.declared.HostKind.{HostKind}
use Rattle.page_types.specs.declared.Source.{Source}
use Rattle.page_types.specs.declared.Source.TheVariants.{User, Net, Dom, Timer, Render, Sched, Idle}
use Rattle.page_types.specs.Events.{Event, Turn, Wait, Host, Stamped}
use Rattle.page_parts.specs.HostClosures.{HostClosure, meets}
use Rattle.page_parts.specs.Setup.{Setup}
use Rattle.page_parts.specs.TraceText.{sources_in, readings_in, answers_in, choices_in}
use Rattle.page_parts.specs.WrittenChoices.{Runnable, is_runnable, Choices, Recorded, Written}
use Rattle.page_parts.specs.Words.{is_empty}
use Rattle.lang_meaning.specs.Evaluation.{call_from_outside}
use Rattle.lang_meaning.specs.Machine.{Done, Gives, Throws, Returns, OutOfFuel, Caller, afterwards, finish}
use Rattle.page_model.specs.Choosing.{Chosen, Rules, legal, is_reading, chosen_source, chosen_reading, chosen_answer, as_source, as_reading, as_answer, choice_rules}
use Rattle.page_model.specs.ChoicesAreData.{with_left, no_choices}
use Rattle.page_model.specs.Invoke.{in_task}
use Rattle.page_model.specs.Operations.{page_operations}
use Rattle.page_model.specs.PageSignals.{host_task_of}
use Rattle.page_model.specs.PageTime.{idle_step, first_task}
use Rattle.page_model.specs.SchedulerTasks.{first_sched, without_sched}
use Rattle.page_model.specs.Parallel.{item_count}
use Rattle.page_model.specs.State.{Page, State, HostTask, Task, SchedTask, on_page, emit}
use Rattle.page_model.specs.Tasks.{perform_steps, perform_sched, answer_host, after_task}
use Rattle.page_model.specs.Gaps.{Act, Pass, Serve, Rest, Stop, at_moment, pass, rest, stop_by_clock, stop, act, acts, run_gaps_by, run_gaps}
use Rattle.page_model.specs.Turns.{Refusal, NoSource, NoReading, NoAnswer, NoAct, AtBound, Turned, GoesOn, Ended, Stuck, ends, goes_on, choose_turned, step_five, task_done, without_task, not_dropped, host_answered, perform_host, perform_task, perform_first, perform_first_sched, perform, turn_line, perform_picked, step_four, counted_turn, with_turn_fuel, step_three, from_step_three, is_pending, target, at_time, waited, step_two_at, step_two_by, step_two, step_one, after_step_one, from_step_one, turn, next_turn, turns, first_state, run, run_by, state_of, events_of_run}
use Rattle.page_model.specs.View.{view}
use Rattle.page_model.proofs.ChosenAlone.Evaluation.{idle_step-keeps, Has, DoneHas, CallsKeep, afterwards-keeps}
use Rattle.page_model.proofs.ChosenAlone.Runs.{in_task-keeps}
use Rattle.page_model.proofs.ChosenAlone.Operations.{outside-keeps}
use Rattle.page_model.proofs.ChosenAlone.Tasks.{perform_steps-keeps, perform_sched-keeps, answer_host-has, after_task-keeps, step_one-keeps, step_five-keeps}

-- ---- choices in a row

data Pick : Type 0 where
  Served : Source → Pick
  Read : ℕ → Pick
  Answered : Result ℤ ℤ → Pick

record Lists : Type 0 where
  sources : List Source
  readings : List ℕ
  answers : List (Result ℤ ℤ)

abbrev no_lists : Lists
no_lists = record { sources = []; readings = []; answers = [] }

abbrev recorded : Lists → Choices
recorded l = Recorded l.sources l.readings l.answers

-- one more choice at the front
abbrev with_pick : Pick → Lists → Lists
with_pick (Served s) l = record l { sources = s ∷ l.sources }
with_pick (Read t) l = record l { readings = t ∷ l.readings }
with_pick (Answered a) l = record l { answers = a ∷ l.answers }

-- the same of choices
abbrev with_line : Pick → Choices → Choices
with_line p (Recorded sources readings answers) = recorded (with_pick p (record { sources = sources; readings = readings; answers = answers }))
with_line p (Written policy counts late answers) = Written policy counts late answers

-- choices before those of the lists, the first one first
abbrev before : List Pick → Lists → Lists
before [] l = l
before (p ∷ ps) l = with_pick p (before ps l)

-- choices put at the front one after another
abbrev onto : List Pick → Lists → Lists
onto [] l = l
onto (p ∷ ps) l = onto ps (with_pick p l)

before-append : (ps qs : List Pick) (l : Lists) → before (ps ++ qs) l ≡ before ps (before qs l)
before-append [] qs l = refl
before-append (p ∷ ps) qs l = ap (with_pick p) (before-append ps qs l)

onto-append : (ps qs : List Pick) (l : Lists) → onto (ps ++ qs) l ≡ onto qs (onto ps l)
onto-append [] qs l = refl
onto-append (p ∷ ps) qs l = onto-append ps qs (with_pick p l)

-- ---- the lines, the first one first

abbrev over : Lists → Lists → Lists
over l r = record { sources = reverse_aux l.sources r.sources; readings = reverse_aux l.readings r.readings; answers = reverse_aux l.answers r.answers }

pick-over : (p : Pick) (l r : Lists) → over (with_pick p l) r ≡ over l (with_pick p r)
pick-over (Served s) l r = refl
pick-over (Read t) l r = refl
pick-over (Answered a) l r = refl

onto-over : (ps : List Pick) (l r : Lists) → over (onto ps l) r ≡ over l (before ps r)
onto-over [] l r = refl
onto-over (p ∷ ps) l r = onto-over ps (with_pick p l) r ∙ pick-over p l (before ps r)

abbrev lists_in : List Stamped → Lists
lists_in es = record { sources = sources_in es; readings = readings_in es; answers = answers_in es }

line-over : (time : ℕ) (e : Event) (es fs : List Stamped) → over (lists_in es) (lists_in (record { time = time; event = e } ∷ fs)) ≡ over (lists_in (record { time = time; event = e } ∷ es)) (lists_in fs)
line-over time (Turn n (Some s)) es fs = refl
line-over time (Turn n None) es fs = refl
line-over time (Wait t) es fs = refl
line-over time (Host k x a) es fs = refl
line-over time e es fs = refl

reversed-over : (es fs : List Stamped) → lists_in (reverse_aux es fs) ≡ over (lists_in es) (lists_in fs)
reversed-over [] fs = refl
reversed-over (e ∷ es) fs = reversed-over es (e ∷ fs) ∙ line-over e.time e.event es fs

abbrev lists_of : Choices → Lists
lists_of (Recorded sources readings answers) = record { sources = sources; readings = readings; answers = answers }
lists_of (Written policy counts late answers) = no_lists

-- choices that stand in the lines, the last line first, are the same in order, the first line first
in_order : (ps : List Pick) (es : List Stamped) → choices_in es ≡ recorded (onto ps no_lists) → choices_in (reverse es) ≡ recorded (before ps no_lists)
in_order ps es h =
    ap recorded (reversed-over es [])
    ∙ (ap (λ l. recorded (over l no_lists)) (ap lists_of h) ∙ ap recorded (onto-over ps no_lists no_lists))

-- ---- legal choices, and the same ones from lists

abbrev IsLegalChoice : {X C : Type 0} → (X → Bool) → Option (Chosen X C) → Type 0
IsLegalChoice test None = Unit {0}
IsLegalChoice test (Some x) = test x.choice ≡ true

legal-is_legal : {X C : Type 0} (test : X → Bool) (o : Option (Chosen X C)) → IsLegalChoice test (legal test o)
legal-is_legal test None = tt
legal-is_legal test (Some x) = by_test (test x.choice) refl
  where
    by_test : (b : Bool) → test x.choice ≡ b → IsLegalChoice test (cond b (Some x) None)
    by_test true e = e
    by_test false e = tt

source-again : (rs : List Runnable) (s : Source) (rest : Lists) → is_runnable rs s ≡ true → chosen_source choice_rules rs (recorded (with_pick (Served s) rest)) ≡ Some (record { choice = s; left = recorded rest })
source-again rs s rest e =
    ap (λ b. legal (is_runnable rs) (option_map as_source (cond b (Some (record { source = s; left = recorded rest })) None))) e
    ∙ ap (λ b. cond b (Some (record { choice = s; left = recorded rest })) None) e

reading-again : (target t : ℕ) (rest : Lists) → is_reading target t ≡ true → chosen_reading choice_rules target (recorded (with_pick (Read t) rest)) ≡ Some (record { choice = t; left = recorded rest })
reading-again target t rest e =
    ap (λ b. legal (is_reading target) (option_map as_reading (cond b (Some (record { reading = t; left = recorded rest })) None))) e
    ∙ ap (λ b. cond b (Some (record { choice = t; left = recorded rest })) None) e

answer-again : (kind : HostKind) (x : ℤ) (a : Result ℤ ℤ) (rest : Lists) → meets kind x a ≡ true → chosen_answer choice_rules kind x (recorded (with_pick (Answered a) rest)) ≡ Some (record { choice = a; left = recorded rest })
answer-again kind x a rest e =
    ap (λ b. legal (meets kind x) (option_map as_answer (cond b (Some (record { answer = a; left = recorded rest })) None))) e
    ∙ ap (λ b. cond b (Some (record { choice = a; left = recorded rest })) None) e

-- ---- what is done again

abbrev IsStuck : {C : Type 0} → Turned C → Type 0
IsStuck (GoesOn m c) = ⊥
IsStuck (Ended end m c) = ⊥
IsStuck (Stuck at m c) = Unit {0}

-- From m the run comes to t, and by lists it does the same again. `picks` are the choices on the way, which stand in its lines.
-- What comes behind them in the lists is left; where the run is stuck nothing may come behind them.
record Replays {C : Type 0} (m : State) (t : Turned C) (again : Choices → Turned Choices) : Type 0 where
  picks : List Pick
  lines : (l : Lists) → Has (recorded l) m.host → Has (recorded (onto picks l)) (state_of t).host
  same : (rest : Lists) → (IsStuck t → rest ≡ no_lists) → again (recorded (before picks rest)) ≡ with_left (recorded rest) t

module _ {C : Type 0} where
  -- no choice is made
  silent-replays : (m : State) (t : Turned C) (again : Choices → Turned Choices) → ((x : Choices) → Has x m.host → Has x (state_of t).host) → ((x : Choices) → again x ≡ with_left x t) → Replays m t again
  silent-replays m t again k e = record { picks = []; lines = λ l. k (recorded l); same = λ rest h. e (recorded rest) }

  -- a choice is made, which stands in the lines of `told`
  picked-replays : (p : Pick) (m told : State) (t : Turned C) (next again : Choices → Turned Choices) → ((l : Lists) → Has (recorded l) m.host → Has (recorded (with_pick p l)) told.host) → ((rest : Lists) → again (recorded (with_pick p rest)) ≡ next (recorded rest)) → Replays told t next → Replays m t again
  picked-replays p m told t next again k e r =
      record { picks = p ∷ r.picks; lines = λ l h. r.lines (with_pick p l) (k l h); same = λ rest h. e (before r.picks rest) ∙ r.same rest h }

  -- a choice was refused: by empty lists it is refused again
  refused-replays : (at : Refusal) (m : State) (c : C) (again : Choices → Turned Choices) → again (recorded no_lists) ≡ Stuck at m (recorded no_lists) → Replays m (Stuck at m c) again
  refused-replays at m c again e =
      record { picks = []; lines = λ l h. h; same = λ rest h. subst (λ (r : Lists). again (recorded r) ≡ Stuck at m (recorded r)) (sym (h tt)) e }

  -- a step that makes no choice comes first
  stepped-replays : (m n : State) (t : Turned C) (again : Choices → Turned Choices) → ((x : Choices) → Has x m.host → Has x n.host) → Replays n t again → Replays m t again
  stepped-replays m n t again k r = record { picks = r.picks; lines = λ l h. r.lines l (k (recorded l) h); same = r.same }

  choose-replays : (b : Bool) (m : State) (f g : State → Turned C) (f' g' : Choices → State → Turned Choices) → Replays m (f m) (λ x. f' x m) → Replays m (g m) (λ x. g' x m) → Replays m (choose_turned b f g m) (λ x. choose_turned b (f' x) (g' x) m)
  choose-replays true m f g f' g' r q = r
  choose-replays false m f g f' g' r q = q

  ends-replays : (end : End) (c : C) (m n : State) → ((x : Choices) → Has x m.host → Has x n.host) → Replays m (ends end c n) (λ x. ends end x n)
  ends-replays end c m n k = silent-replays m (ends end c n) _ k (λ x. refl)

  goes_on-has : (x : Choices) (c : C) (d : Done Page) → DoneHas x d → Has x (state_of (goes_on c d)).host
  goes_on-has x c (Gives v m) h = h
  goes_on-has x c (Returns v m) h = h
  goes_on-has x c (Throws v m) h = h
  goes_on-has x c (OutOfFuel m) h = h

  goes_on-same : (x : Choices) (c : C) (d : Done Page) → goes_on x d ≡ with_left x (goes_on c d)
  goes_on-same x c (Gives v m) = refl
  goes_on-same x c (Returns v m) = refl
  goes_on-same x c (Throws v m) = refl
  goes_on-same x c (OutOfFuel m) = refl

  next_turn-replays : (m : State) (t : Turned C) (again : Choices → Turned Choices) (next : State → C → Turned C) (next' : State → Choices → Turned Choices) → Replays m t again → ((n : State) (c : C) → Replays n (next n c) (next' n)) → Replays m (next_turn t next) (λ x. next_turn (again x) next')
  next_turn-replays m (GoesOn n c) again next next' r k =
      let q = k n c in
      record {
        picks = r.picks ++ q.picks;
        lines = λ l h. subst (λ (z : Lists). Has (recorded z) (state_of (next n c)).host) (sym (onto-append r.picks q.picks l)) (q.lines (onto r.picks l) (r.lines l h));
        same = λ rest h.
            ap (λ (l : Lists). next_turn (again (recorded l)) next') (before-append r.picks q.picks rest)
            ∙ (ap (λ (t : Turned Choices). next_turn t next') (r.same (before q.picks rest) (λ x. absurd x)) ∙ q.same rest h);
      }
  next_turn-replays m (Ended end n c) again next next' r k =
      record { picks = r.picks; lines = r.lines; same = λ rest h. ap (λ (t : Turned Choices). next_turn t next') (r.same rest h) }
  next_turn-replays m (Stuck at n c) again next next' r k =
      record { picks = r.picks; lines = r.lines; same = λ rest h. ap (λ (t : Turned Choices). next_turn t next') (r.same rest h) }

  module _ (rules : Rules C) (call : Caller Page) (silent : (x : Choices) → CallsKeep x call) where
    -- ---- a task

    task_done-replays : (c : C) (m : State) (d : Done Page) → ((x : Choices) → Has x m.host → DoneHas x d) → Replays m (task_done call c d) (λ x. task_done call x d)
    task_done-replays c m d k =
        let checked : Done Page = afterwards d (after_task call) in
        silent-replays m (task_done call c d) _
        (λ x h. goes_on-has x c checked (afterwards-keeps x d (after_task call) (k x h) (after_task-keeps x call (silent x))))
        (λ x. goes_on-same x c checked)

    host_answered-replays : (t : HostTask) (kind : HostKind) (a : Option (Chosen (Result ℤ ℤ) C)) → IsLegalChoice (meets kind t.number) a → (m : State) (c : C) → Replays m (host_answered call t a m c) (λ x. host_answered call t (chosen_answer choice_rules kind t.number x) m x)
    host_answered-replays t kind None l m c = refused-replays (NoAnswer t) m c _ refl
    host_answered-replays t kind (Some a) l m c =
        let told : State = on_page (emit (Host t.closure t.number a.choice)) m in
        let done : Done Page = finish (on_page (answer_host t a.choice) m) in
        picked-replays (Answered a.choice) m told (task_done call a.left done) (λ x. task_done call x done) (λ x. host_answered call t (chosen_answer choice_rules kind t.number x) m x)
        (λ l h. ap (with_line (Answered a.choice)) h)
        (λ rest. ap (λ (o : Option (Chosen (Result ℤ ℤ) Choices)). host_answered call t o m (recorded (with_pick (Answered a.choice) rest))) (answer-again kind t.number a.choice rest l))
        (task_done-replays a.left told done (λ x h. answer_host-has x t a.choice m.host h))

    perform_host-replays : (t : HostTask) (k : Option HostClosure) (m : State) (c : C) → Replays m (perform_host rules call t k m c) (λ x. perform_host choice_rules call t k m x)
    perform_host-replays t None m c = task_done-replays c m (finish m) (λ x h. h)
    perform_host-replays t (Some k) m c =
        host_answered-replays t k.kind (chosen_answer rules k.kind t.number c) (legal-is_legal (meets k.kind t.number) (rules.answer k.kind t.number c)) m c

    perform_task-replays : (task : Task) (t : Option HostTask) (m : State) (c : C) → Replays m (perform_task rules call task t m c) (λ x. perform_task choice_rules call task t m x)
    perform_task-replays task None m c =
        task_done-replays c m (perform_steps (in_task call) task.steps m) (λ x. perform_steps-keeps x (in_task call) (in_task-keeps x call (silent x)) task.steps m)
    perform_task-replays task (Some t) m c = perform_host-replays t (not_dropped (slice_get m.host.hosts t.closure)) m c

    perform_first-replays : (task : Option Task) (m : State) (c : C) → Replays m (perform_first rules call task m c) (λ x. perform_first choice_rules call task m x)
    perform_first-replays None m c = silent-replays m (Stuck NoSource m c) _ (λ x h. h) (λ x. refl)
    perform_first-replays (Some task) m c =
        let begun : State = on_page (without_task task.number) m in
        stepped-replays m begun (perform_task rules call task (host_task_of task.steps) begun c) (λ x. perform_task choice_rules call task (host_task_of task.steps) begun x) (λ x h. h)
        (perform_task-replays task (host_task_of task.steps) begun c)

    perform_first_sched-replays : (t : Option SchedTask) (m : State) (c : C) → Replays m (perform_first_sched call t m c) (λ x. perform_first_sched call t m x)
    perform_first_sched-replays None m c = silent-replays m (Stuck NoSource m c) _ (λ x h. h) (λ x. refl)
    perform_first_sched-replays (Some t) m c =
        let begun : State = on_page (without_sched t.registration) m in
        task_done-replays c m (perform_sched (in_task call) t begun) (λ x. perform_sched-keeps x (in_task call) (in_task-keeps x call (silent x)) t begun)

    perform-replays : (source : Source) (m : State) (c : C) → Replays m (perform rules call source m c) (λ x. perform choice_rules call source m x)
    perform-replays Sched m c = perform_first_sched-replays (first_sched m.host) m c
    perform-replays User m c = perform_first-replays (first_task User m.host.tasks) m c
    perform-replays Net m c = perform_first-replays (first_task Net m.host.tasks) m c
    perform-replays Dom m c = perform_first-replays (first_task Dom m.host.tasks) m c
    perform-replays Timer m c = perform_first-replays (first_task Timer m.host.tasks) m c
    perform-replays Render m c = perform_first-replays (first_task Render m.host.tasks) m c
    perform-replays Idle m c = perform_first-replays (first_task Idle m.host.tasks) m c

    -- ---- a turn

    perform_picked-replays : (rs : List Runnable) (o : Option (Chosen Source C)) → IsLegalChoice (is_runnable rs) o → (m : State) (c : C) → Replays m (perform_picked rules call o m c) (λ x. perform_picked choice_rules call (chosen_source choice_rules rs x) m x)
    perform_picked-replays rs None l m c = refused-replays NoSource m c _ refl
    perform_picked-replays rs (Some s) l m c =
        let told : State = turn_line (Some s.choice) m in
        picked-replays (Served s.choice) m told (perform rules call s.choice told s.left) (λ x. perform choice_rules call s.choice told x) (λ x. perform_picked choice_rules call (chosen_source choice_rules rs x) m x)
        (λ l h. ap (with_line (Served s.choice)) h)
        (λ rest. ap (λ (o : Option (Chosen Source Choices)). perform_picked choice_rules call o m (recorded (with_pick (Served s.choice) rest))) (source-again rs s.choice rest l))
        (perform-replays s.choice told s.left)

    step_four-replays : (rs : List Runnable) (m : State) (c : C) → Replays m (step_four rules call rs m c) (λ x. step_four choice_rules call rs m x)
    step_four-replays [] m c = silent-replays m (GoesOn (turn_line None m) c) _ (λ x h. h) (λ x. refl)
    step_four-replays (r ∷ rs) m c =
        perform_picked-replays (r ∷ rs) (chosen_source rules (r ∷ rs) c) (legal-is_legal (is_runnable (r ∷ rs)) (rules.source (r ∷ rs) c)) m c

    with_turn_fuel-replays : (fuel : ℕ) (m : State) (c : C) → Replays m (with_turn_fuel rules call fuel m c) (λ x. with_turn_fuel choice_rules call fuel m x)
    with_turn_fuel-replays zero m c = ends-replays FuelEnd c m m (λ x h. h)
    with_turn_fuel-replays (suc left) m c =
        let counted : State = counted_turn left m in
        stepped-replays m counted (step_four rules call (view m.host) counted c) (λ x. step_four choice_rules call (view m.host) counted x) (λ x h. h)
        (step_four-replays (view m.host) counted c)

    step_three-replays : (until : ℕ) (m : State) (c : C) → Replays m (step_three rules call until c m) (λ x. step_three choice_rules call until x m)
    step_three-replays until m c =
        choose-replays (nat_le until m.host.now) m (ends ClockEnd c) (λ m. with_turn_fuel rules call m.fuel m c) (λ x. ends ClockEnd x) (λ x m. with_turn_fuel choice_rules call m.fuel m x)
        (ends-replays ClockEnd c m m (λ x h. h)) (with_turn_fuel-replays m.fuel m c)

    from_step_three-replays : (until : ℕ) (m : State) (c : C) → Replays m (from_step_three rules call until c m) (λ x. from_step_three choice_rules call until x m)
    from_step_three-replays until m c =
        next_turn-replays m (step_three rules call until c m) (λ x. step_three choice_rules call until x m) (λ m c. GoesOn (step_five m) c) (λ m c. GoesOn (step_five m) c)
        (step_three-replays until m c) (λ n c. silent-replays n (GoesOn (step_five n) c) _ (λ x h. step_five-keeps x n h) (λ x. refl))

    -- again, once a turn can be done again from its beginning
    module _ (until : ℕ) (begin : State → C → Turned C) (begin' : State → Choices → Turned Choices) (begin-replays : (m : State) (c : C) → Replays m (begin m c) (begin' m)) where
      waited-replays : (t : ℕ) (o : Option (Chosen ℕ C)) → IsLegalChoice (is_reading t) o → (m : State) (c : C) → Replays m (waited t o begin c m) (λ x. waited t (chosen_reading choice_rules t x) begin' x m)
      waited-replays t None l m c = refused-replays (NoReading t) m c _ refl
      waited-replays t (Some r) l m c =
          let told : State = on_page (λ p. emit (Wait t) (at_time r.choice p)) m in
          picked-replays (Read r.choice) m told (begin told r.left) (begin' told) (λ x. waited t (chosen_reading choice_rules t x) begin' x m)
          (λ l h. ap (with_line (Read r.choice)) h)
          (λ rest. ap (λ (o : Option (Chosen ℕ Choices)). waited t o begin' (recorded (with_pick (Read r.choice) rest)) m) (reading-again t r.choice rest l))
          (begin-replays told r.left)

      step_two_at-replays : (t : ℕ) (m : State) (c : C) → Replays m (step_two_at rules until t begin (from_step_three rules call until c) c m) (λ x. step_two_at choice_rules until t begin' (from_step_three choice_rules call until x) x m)
      step_two_at-replays t m c =
          choose-replays (nat_le until m.host.now || nat_le until t) m
          (λ m. ends ClockEnd c (on_page (λ p. at_time (max p.now until) p) m))
          (choose_turned (nat_lt m.host.now t) (waited t (chosen_reading rules t c) begin c) (from_step_three rules call until c))
          (λ x m. ends ClockEnd x (on_page (λ p. at_time (max p.now until) p) m))
          (λ x n. choose_turned (nat_lt m.host.now t) (waited t (chosen_reading choice_rules t x) begin' x) (from_step_three choice_rules call until x) n)
          (ends-replays ClockEnd c m (on_page (λ p. at_time (max p.now until) p) m) (λ x h. h))
          (choose-replays (nat_lt m.host.now t) m (waited t (chosen_reading rules t c) begin c) (from_step_three rules call until c) (λ x. waited t (chosen_reading choice_rules t x) begin' x) (λ x. from_step_three choice_rules call until x)
          (waited-replays t (chosen_reading rules t c) (legal-is_legal (is_reading t) (rules.reading t c)) m c) (from_step_three-replays until m c))

      step_two_by-replays : (t : Option ℕ) (m : State) (c : C) → Replays m (step_two_by rules until t begin (from_step_three rules call until c) c m) (λ x. step_two_by choice_rules until t begin' (from_step_three choice_rules call until x) x m)
      step_two_by-replays None m c = ends-replays DoneEnd c m m (λ x h. h)
      step_two_by-replays (Some t) m c = step_two_at-replays t m c

      step_two-replays : (m : State) (c : C) → Replays m (step_two rules until begin (from_step_three rules call until c) c m) (λ x. step_two choice_rules until begin' (from_step_three choice_rules call until x) x m)
      step_two-replays m c =
          choose-replays (is_pending m.host) m (step_two_by rules until (target m.host) begin (from_step_three rules call until c) c) (ends DoneEnd c) (λ x n. step_two_by choice_rules until (target m.host) begin' (from_step_three choice_rules call until x) x n) (λ x. ends DoneEnd x)
          (step_two_by-replays (target m.host) m c) (ends-replays DoneEnd c m m (λ x h. h))

      after_step_one-replays : (m : State) (c : C) → Replays m (after_step_one rules call until begin c m) (λ x. after_step_one choice_rules call until begin' x m)
      after_step_one-replays m c =
          choose-replays (is_empty (view m.host)) m (step_two rules until begin (from_step_three rules call until c) c) (from_step_three rules call until c) (λ x. step_two choice_rules until begin' (from_step_three choice_rules call until x) x) (λ x. from_step_three choice_rules call until x)
          (step_two-replays m c) (from_step_three-replays until m c)

    from_step_one-replays : (until n : ℕ) (m : State) (c : C) → Replays m (from_step_one rules call until n m c) (λ x. from_step_one choice_rules call until n m x)
    from_step_one-replays until zero m c = silent-replays m (Stuck AtBound m c) _ (λ x h. h) (λ x. refl)
    from_step_one-replays until (suc n) m c =
        stepped-replays m (step_one m) (after_step_one rules call until (from_step_one rules call until n) c (step_one m)) (λ x. after_step_one choice_rules call until (from_step_one choice_rules call until n) x (step_one m)) (λ x h. step_one-keeps x m h)
        (after_step_one-replays until (from_step_one rules call until n) (from_step_one choice_rules call until n) (from_step_one-replays until n) (step_one m) c)

    turns-replays : (until n : ℕ) (m : State) (c : C) → Replays m (turns rules call until n m c) (λ x. turns choice_rules call until n m x)
    turns-replays until zero m c = silent-replays m (Stuck AtBound m c) _ (λ x h. h) (λ x. refl)
    turns-replays until (suc n) m c =
        next_turn-replays m (turn rules call until m c) (λ x. turn choice_rules call until m x) (turns rules call until n) (turns choice_rules call until n)
        (from_step_one-replays until (suc (suc (item_count m.host))) m c) (turns-replays until n)

    -- ---- a run in pieces

    not_done-replays : (m : State) (c : C) → Replays m (Stuck NoAct m c) (λ x. Stuck NoAct m x)
    not_done-replays m c = silent-replays m (Stuck NoAct m c) (λ x. Stuck NoAct m x) (λ x h. h) (λ x. refl)

    at_moment-replays : (t : ℕ) (next : C → State → Turned C) (next' : Choices → State → Turned Choices) (m : State) (c : C) → ((m : State) → Replays m (next c m) (λ x. next' x m)) → Replays m (at_moment t (next c) c m) (λ x. at_moment t (next' x) x m)
    at_moment-replays t next next' m c k =
        let there : State = on_page (at_time t) m in
        choose-replays (nat_le m.host.now t) m (λ m. next c (on_page (at_time t) m)) (λ m. Stuck NoAct m c) (λ x m. next' x (on_page (at_time t) m)) (λ x m. Stuck NoAct m x)
        (stepped-replays m there (next c there) (λ x. next' x there) (λ x h. h) (k there)) (not_done-replays m c)

    stop_by_clock-replays : (until : ℕ) (m : State) (c : C) → Replays m (stop_by_clock until c m) (λ x. stop_by_clock until x m)
    stop_by_clock-replays until m c =
        choose-replays (nat_le until m.host.now) m (ends ClockEnd c) (λ m. Stuck NoAct m c) (λ x. ends ClockEnd x) (λ x m. Stuck NoAct m x) (ends-replays ClockEnd c m m (λ x h. h)) (not_done-replays m c)

    stop-replays : (until : ℕ) (m : State) (c : C) → Replays m (stop until c m) (λ x. stop until x m)
    stop-replays until m c =
        choose-replays (is_empty (view m.host)) m (choose_turned (is_pending m.host) (stop_by_clock until c) (ends DoneEnd c)) (stop_by_clock until c) (λ x n. choose_turned (is_pending m.host) (stop_by_clock until x) (ends DoneEnd x) n) (λ x. stop_by_clock until x)
        (choose-replays (is_pending m.host) m (stop_by_clock until c) (ends DoneEnd c) (λ x. stop_by_clock until x) (λ x. ends DoneEnd x) (stop_by_clock-replays until m c) (ends-replays DoneEnd c m m (λ x h. h)))
        (stop_by_clock-replays until m c)

    act-replays : (until : ℕ) (a : Act) (m : State) (c : C) → Replays m (act rules call until a m c) (λ x. act choice_rules call until a m x)
    act-replays until (Pass t) m c = at_moment-replays t pass pass m c (λ m. silent-replays m (GoesOn (step_one m) c) (λ x. GoesOn (step_one m) x) (λ x h. step_one-keeps x m h) (λ x. refl))
    act-replays until Serve m c =
        choose-replays (is_empty (view m.host)) m (λ m. Stuck NoAct m c) (step_three rules call until c) (λ x m. Stuck NoAct m x) (λ x. step_three choice_rules call until x) (not_done-replays m c) (step_three-replays until m c)
    act-replays until (Rest t) m c =
        at_moment-replays t rest rest m c
        (λ m. choose-replays (is_empty (view m.host)) m (λ m. GoesOn (on_page idle_step m) c) (λ m. Stuck NoAct m c) (λ x m. GoesOn (on_page idle_step m) x) (λ x m. Stuck NoAct m x)
        (silent-replays m (GoesOn (on_page idle_step m) c) (λ x. GoesOn (on_page idle_step m) x) (λ x h. idle_step-keeps x m.host h) (λ x. refl)) (not_done-replays m c))
    act-replays until (Stop t) m c = at_moment-replays t (stop until) (stop until) m c (λ m. stop-replays until m c)

    acts-replays : (until : ℕ) (list : List Act) (m : State) (c : C) → Replays m (acts rules call until list m c) (λ x. acts choice_rules call until list m x)
    acts-replays until [] m c = silent-replays m (GoesOn m c) (λ x. GoesOn m x) (λ x h. h) (λ x. refl)
    acts-replays until (a ∷ more) m c =
        next_turn-replays m (act rules call until a m c) (λ x. act choice_rules call until a m x) (acts rules call until more) (acts choice_rules call until more) (act-replays until a m c) (acts-replays until more)

  pub gaps-again : (rules : Rules C) (program : Program) (setup : Setup) (list : List Act) (c : C) → run_gaps program setup list (choices_in (events_of_run (run_gaps_by rules program setup list c))) ≡ with_left no_choices (run_gaps_by rules program setup list c)
  unfolding run_gaps run_gaps_by
  gaps-again rules program setup list c =
      let call : Caller Page = call_from_outside program page_operations in
      let first : State = first_state program setup [] in
      let t : Turned C = acts rules call setup.until list first c in
      let r : Replays first t (λ x. acts choice_rules call setup.until list first x) = acts-replays rules call (λ x. outside-keeps x program) setup.until list first c in
      ap (λ (x : Choices). acts choice_rules call setup.until list first x) (in_order r.picks (state_of t).host.events (r.lines no_lists refl))
      ∙ r.same no_lists (λ s. refl)

  -- ---- a whole run

  pub run-again : (rules : Rules C) (program : Program) (setup : Setup) (hosts : List HostClosure) (c : C) → run program setup hosts (choices_in (events_of_run (run_by rules program setup hosts c))) ≡ with_left no_choices (run_by rules program setup hosts c)
  unfolding run run_by
  run-again rules program setup hosts c =
      let call : Caller Page = call_from_outside program page_operations in
      let first : State = first_state program setup hosts in
      let t : Turned C = turns rules call setup.until (suc setup.fuel) first c in
      let r : Replays first t (λ x. turns choice_rules call setup.until (suc setup.fuel) first x) = turns-replays rules call (λ x. outside-keeps x program) setup.until (suc setup.fuel) first c in
      ap (λ (x : Choices). turns choice_rules call setup.until (suc setup.fuel) first x) (in_order r.picks (state_of t).host.events (r.lines no_lists refl))
      ∙ r.same no_lists (λ s. refl)
