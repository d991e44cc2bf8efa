-- Further choices behind those of a run: where it has ended they are left, and where it is stuck its lines come first.
use Rattle.std.proofs.Common.{◌≡◌, ℕ, zero, suc, Bool, true, false, List, [], ◌∷◌, ◌++◌, Option, Some, None, refl, sym, ap, ◌∙◌, subst, cond, ◌||◌, ℤ, Result, nat_lt, nat_le, max, ◌+◌, slice_get, append_assoc}
use Rattle.std.specs.Prelude.{option_map, reverse}
use Rattle.std.proofs.lemmas.List.{reverse-append}
use Rattle.page_types.specs.Tree.{Program}
use Rattle.page_types.specs.declared.End.TheVariants.{Done as DoneEnd, Clock as ClockEnd}
use Rattle.page_types.specs.declared.HostKind.{HostKind}
use Rattle.page_types.specs.declared.Source.{Source}
use Rattle.page_types.specs.declared.Source.TheVariants.{User, Net, Dom, Timer, Render, Sched, Idle}
use Rattle.page_types.specs.Events.{Wait, Stamped}
use Rattle.page_parts.specs.HostClosures.{HostClosure, meets}
use Rattle.page_parts.specs.Setup.{Setup}
use Rattle.page_parts.specs.WrittenChoices.{Runnable, is_runnable, Choices, Recorded, Written, policy_source, counts_after, counts_now}
use Rattle.page_parts.specs.Words.{is_empty}
use Rattle.lang_meaning.specs.Evaluation.{call_from_outside}
use Rattle.lang_meaning.specs.Following.{CallsFollow}
use Rattle.lang_meaning.specs.Machine.{Done, Gives, Throws, Returns, OutOfFuel, Caller, afterwards, finish}
use Rattle.page_model.specs.Additions.{after, TurnAdds, turned_after}
use Rattle.page_model.specs.Choosing.{Chosen, legal, is_reading, chosen_source, chosen_reading, chosen_answer, as_source, as_reading, as_answer, choice_rules}
use Rattle.page_model.specs.ChoicesAreData.{with_further, Continues}
use Rattle.page_model.specs.Invoke.{in_task}
use Rattle.page_model.specs.Operations.{page_operations}
use Rattle.page_model.specs.PageSignals.{host_task_of}
use Rattle.page_model.specs.PageTime.{first_task}
use Rattle.page_model.specs.SchedulerTasks.{first_sched, without_sched}
use Rattle.page_model.specs.Parallel.{item_count}
use Rattle.page_model.specs.State.{Page, State, HostTask, Task, SchedTask, on_page, emit}
use Rattle.page_model.specs.Tasks.{perform_steps, perform_sched, answer_host, after_task}
use Rattle.page_model.specs.PageTime.{idle_step}
use Rattle.page_model.specs.Gaps.{Act, Pass, Serve, Rest, Stop, at_moment, pass, rest, stop_by_clock, stop, act, acts, run_gaps_by, run_gaps}
use Rattle.page_model.proofs.Adding.Acts.{acts-adds}
use Rattle.page_model.specs.Turns.{NoAct, Turned, GoesOn, Ended, Stuck, ends, goes_on, choose_turned, step_five, task_done, without_task, not_dropped, host_answered, perform_host, perform_task, perform_first, perform_first_sched, perform, turn_line, perform_picked, step_four, counted_turn, with_turn_fuel, step_three, from_step_three, is_pending, target, at_time, waited, step_two_at, step_two_by, step_two, step_one, after_step_one, from_step_one, turn, next_turn, turns, first_state, run, run_by, state_of}
use Rattle.page_model.specs.View.{view}
use Rattle.page_model.proofs.Adding.Operations.{outside-adds}
use Rattle.page_model.proofs.Adding.Turns.{step_five-adds, host_answered-adds, perform_picked-adds, waited-adds, from_step_one-adds, turns-adds}

-- ---- lines that came before

-- lines were added to these (the last line first)
abbrev Grown : {C : Type 0} → List Stamped → Turned C → Type 0
Grown es t = (new : List Stamped) × ((state_of t).host.events ≡ new ++ es)

events-after : {C : Type 0} (es : List Stamped) (t : Turned C) → (state_of (turned_after es t)).host.events ≡ (state_of t).host.events ++ es
events-after es (GoesOn m c) = refl
events-after es (Ended end m c) = refl
events-after es (Stuck at m c) = refl

grown : {C : Type 0} (f : State → Turned C) → ((es : List Stamped) → TurnAdds es f) → (m : State) → Grown m.host.events (f m)
grown f k m =
    let bare : State = record m { host = record m.host { events = [] } } in
    ((state_of (f bare)).host.events, ap (λ t. (state_of t).host.events) (k m.host.events bare) ∙ events-after m.host.events (f bare))

grown-after : {C : Type 0} (es fs new : List Stamped) (t : Turned C) → fs ≡ new ++ es → Grown fs t → Grown es t
grown-after es fs new t e g = (g.0 ++ new, g.1 ∙ (ap (λ (z : List Stamped). g.0 ++ z) e ∙ sym (append_assoc g.0 new es)))

module _ (more_sources : List Source) (more_readings : List ℕ) (more_answers : List (Result ℤ ℤ)) where
  abbrev longer : Choices → Choices
  longer c = with_further more_sources more_readings more_answers c

  -- ---- a choice

  -- what was chosen is chosen again, and the further choices are left
  abbrev SameChoice : {X : Type 0} → Option (Chosen X Choices) → Option (Chosen X Choices) → Type 0
  SameChoice None o = Unit {0}
  SameChoice (Some x) o = o ≡ Some (record { choice = x.choice; left = longer x.left })

  legal-longer : {X : Type 0} (test : X → Bool) (x : X) (c : Choices) → SameChoice (legal test (Some (record { choice = x; left = c }))) (legal test (Some (record { choice = x; left = longer c })))
  legal-longer {X} test x c = by_test (test x)
    where
      by_test : (b : Bool) → SameChoice {X = X} (cond b (Some (record { choice = x; left = c })) None) (cond b (Some (record { choice = x; left = longer c })) None)
      by_test true = refl
      by_test false = tt

  abbrev found_source : List Runnable → Source → Choices → Bool → Option (Chosen Source Choices)
  found_source rs s c b = legal (is_runnable rs) (option_map as_source (cond b (Some (record { source = s; left = c })) None))

  found_source-longer : (rs : List Runnable) (s : Source) (c : Choices) (b : Bool) → SameChoice (found_source rs s c b) (found_source rs s (longer c) b)
  found_source-longer rs s c true = legal-longer (is_runnable rs) s c
  found_source-longer rs s c false = tt

  source-longer : (rs : List Runnable) (c : Choices) → SameChoice (chosen_source choice_rules rs c) (chosen_source choice_rules rs (longer c))
  source-longer rs (Recorded [] readings answers) = tt
  source-longer rs (Recorded (s ∷ sources) readings answers) = found_source-longer rs s (Recorded sources readings answers) (is_runnable rs s)
  source-longer rs (Written policy counts late answers) =
      let s : Source = policy_source policy counts rs in
      legal-longer (is_runnable rs) s (Written policy (counts_after rs s (counts_now rs counts)) late answers)

  abbrev found_reading : ℕ → ℕ → Choices → Bool → Option (Chosen ℕ Choices)
  found_reading t r c b = legal (is_reading t) (option_map as_reading (cond b (Some (record { reading = r; left = c })) None))

  found_reading-longer : (t r : ℕ) (c : Choices) (b : Bool) → SameChoice (found_reading t r c b) (found_reading t r (longer c) b)
  found_reading-longer t r c true = legal-longer (is_reading t) r c
  found_reading-longer t r c false = tt

  reading-longer : (t : ℕ) (c : Choices) → SameChoice (chosen_reading choice_rules t c) (chosen_reading choice_rules t (longer c))
  reading-longer t (Recorded sources [] answers) = tt
  reading-longer t (Recorded sources (r ∷ readings) answers) = found_reading-longer t r (Recorded sources readings answers) (is_reading t r)
  reading-longer t (Written policy counts [] answers) = legal-longer (is_reading t) t (Written policy counts [] answers)
  reading-longer t (Written policy counts (l ∷ late) answers) = legal-longer (is_reading t) (t + l) (Written policy counts late answers)

  abbrev found_answer : HostKind → ℤ → Result ℤ ℤ → Choices → Bool → Option (Chosen (Result ℤ ℤ) Choices)
  found_answer kind x a c b = legal (meets kind x) (option_map as_answer (cond b (Some (record { answer = a; left = c })) None))

  found_answer-longer : (kind : HostKind) (x : ℤ) (a : Result ℤ ℤ) (c : Choices) (b : Bool) → SameChoice (found_answer kind x a c b) (found_answer kind x a (longer c) b)
  found_answer-longer kind x a c true = legal-longer (meets kind x) a c
  found_answer-longer kind x a c false = tt

  answer-longer : (kind : HostKind) (x : ℤ) (c : Choices) → SameChoice (chosen_answer choice_rules kind x c) (chosen_answer choice_rules kind x (longer c))
  answer-longer kind x (Recorded sources readings answers) = by_answers answers
    where
      by_answers : (answers : List (Result ℤ ℤ)) → SameChoice (chosen_answer choice_rules kind x (Recorded sources readings answers)) (chosen_answer choice_rules kind x (longer (Recorded sources readings answers)))
      by_answers [] = tt
      by_answers (a ∷ answers) = found_answer-longer kind x a (Recorded sources readings answers) (meets kind x a)
  answer-longer kind x (Written policy counts late answers) = by_answers answers
    where
      by_answers : (answers : List (Result ℤ ℤ)) → SameChoice (chosen_answer choice_rules kind x (Written policy counts late answers)) (chosen_answer choice_rules kind x (longer (Written policy counts late answers)))
      by_answers [] = tt
      by_answers (a ∷ answers) = found_answer-longer kind x a (Written policy counts late answers) (meets kind x a)

  -- ---- turns

  -- the run with further choices, by how the run without them ends
  abbrev Further : Turned Choices → Turned Choices → Type 0
  Further (GoesOn m c) t = t ≡ GoesOn m (longer c)
  Further (Ended end m c) t = t ≡ Ended end m (longer c)
  Further (Stuck at m c) t = Grown m.host.events t

  choose-further : (b : Bool) (m : State) (f g f' g' : State → Turned Choices) → Further (f m) (f' m) → Further (g m) (g' m) → Further (choose_turned b f g m) (choose_turned b f' g' m)
  choose-further true m f g f' g' h k = h
  choose-further false m f g f' g' h k = k

  goes_on-further : (c : Choices) (d : Done Page) → Further (goes_on c d) (goes_on (longer c) d)
  goes_on-further c (Gives v m) = refl
  goes_on-further c (Returns v m) = refl
  goes_on-further c (Throws v m) = refl
  goes_on-further c (OutOfFuel m) = refl

  next_turn-grown : (es : List Stamped) (next : State → Choices → Turned Choices) → ((es : List Stamped) (c : Choices) → TurnAdds es (λ m. next m c)) → (t : Turned Choices) → Grown es t → Grown es (next_turn t next)
  next_turn-grown es next k (GoesOn m c) g = grown-after es m.host.events g.0 (next m c) g.1 (grown (λ m. next m c) (λ es. k es c) m)
  next_turn-grown es next k (Ended end m c) g = g
  next_turn-grown es next k (Stuck at m c) g = g

  next_turn-further : (next : State → Choices → Turned Choices) → ((es : List Stamped) (c : Choices) → TurnAdds es (λ m. next m c)) → ((m : State) (c : Choices) → Further (next m c) (next m (longer c))) → (t t' : Turned Choices) → Further t t' → Further (next_turn t next) (next_turn t' next)
  next_turn-further next k f (GoesOn m c) t' h = subst (λ (t : Turned Choices). Further (next m c) (next_turn t next)) (sym h) (f m c)
  next_turn-further next k f (Ended end m c) t' h = ap (λ (t : Turned Choices). next_turn t next) h
  next_turn-further next k f (Stuck at m c) t' h = next_turn-grown m.host.events next k t' h

  module _ (call : Caller Page) (adds : (es : List Stamped) → CallsFollow (after es) call call) where
    task_done-further : (c : Choices) (d : Done Page) → Further (task_done call c d) (task_done call (longer c) d)
    task_done-further c d = goes_on-further c (afterwards d (after_task call))

    host_answered-further : (t : HostTask) (o o' : Option (Chosen (Result ℤ ℤ) Choices)) → SameChoice o o' → (m : State) (c : Choices) → Further (host_answered call t o m c) (host_answered call t o' m (longer c))
    host_answered-further t None o' h m c = grown (λ m. host_answered call t o' m (longer c)) (λ es. host_answered-adds es choice_rules call (adds es) t o' (longer c)) m
    host_answered-further t (Some a) o' h m c =
        let done : Done Page = finish (on_page (answer_host t a.choice) m) in
        subst (λ (o : Option (Chosen (Result ℤ ℤ) Choices)). Further (task_done call a.left done) (host_answered call t o m (longer c))) (sym h) (task_done-further a.left done)

    perform_host-further : (t : HostTask) (k : Option HostClosure) (m : State) (c : Choices) → Further (perform_host choice_rules call t k m c) (perform_host choice_rules call t k m (longer c))
    perform_host-further t None m c = task_done-further c (finish m)
    perform_host-further t (Some k) m c =
        host_answered-further t (chosen_answer choice_rules k.kind t.number c) (chosen_answer choice_rules k.kind t.number (longer c)) (answer-longer k.kind t.number c) m c

    perform_task-further : (task : Task) (t : Option HostTask) (m : State) (c : Choices) → Further (perform_task choice_rules call task t m c) (perform_task choice_rules call task t m (longer c))
    perform_task-further task None m c = task_done-further c (perform_steps (in_task call) task.steps m)
    perform_task-further task (Some t) m c = perform_host-further t (not_dropped (slice_get m.host.hosts t.closure)) m c

    perform_first-further : (task : Option Task) (m : State) (c : Choices) → Further (perform_first choice_rules call task m c) (perform_first choice_rules call task m (longer c))
    perform_first-further None m c = ([], refl)
    perform_first-further (Some task) m c = perform_task-further task (host_task_of task.steps) (on_page (without_task task.number) m) c

    perform_first_sched-further : (t : Option SchedTask) (m : State) (c : Choices) → Further (perform_first_sched call t m c) (perform_first_sched call t m (longer c))
    perform_first_sched-further None m c = ([], refl)
    perform_first_sched-further (Some t) m c = task_done-further c (perform_sched (in_task call) t (on_page (without_sched t.registration) m))

    perform-further : (source : Source) (m : State) (c : Choices) → Further (perform choice_rules call source m c) (perform choice_rules call source m (longer c))
    perform-further Sched m c = perform_first_sched-further (first_sched m.host) m c
    perform-further User m c = perform_first-further (first_task User m.host.tasks) m c
    perform-further Net m c = perform_first-further (first_task Net m.host.tasks) m c
    perform-further Dom m c = perform_first-further (first_task Dom m.host.tasks) m c
    perform-further Timer m c = perform_first-further (first_task Timer m.host.tasks) m c
    perform-further Render m c = perform_first-further (first_task Render m.host.tasks) m c
    perform-further Idle m c = perform_first-further (first_task Idle m.host.tasks) m c

    perform_picked-further : (o o' : Option (Chosen Source Choices)) → SameChoice o o' → (m : State) (c : Choices) → Further (perform_picked choice_rules call o m c) (perform_picked choice_rules call o' m (longer c))
    perform_picked-further None o' h m c =
        grown (λ m. perform_picked choice_rules call o' m (longer c)) (λ es. perform_picked-adds es choice_rules call (adds es) o' (longer c)) m
    perform_picked-further (Some s) o' h m c =
        let told : State = turn_line (Some s.choice) m in
        subst (λ (o : Option (Chosen Source Choices)). Further (perform choice_rules call s.choice told s.left) (perform_picked choice_rules call o m (longer c))) (sym h)
        (perform-further s.choice told s.left)

    step_four-further : (rs : List Runnable) (m : State) (c : Choices) → Further (step_four choice_rules call rs m c) (step_four choice_rules call rs m (longer c))
    step_four-further [] m c = refl
    step_four-further (r ∷ rs) m c =
        perform_picked-further (chosen_source choice_rules (r ∷ rs) c) (chosen_source choice_rules (r ∷ rs) (longer c)) (source-longer (r ∷ rs) c) m c

    with_turn_fuel-further : (fuel : ℕ) (m : State) (c : Choices) → Further (with_turn_fuel choice_rules call fuel m c) (with_turn_fuel choice_rules call fuel m (longer c))
    with_turn_fuel-further zero m c = refl
    with_turn_fuel-further (suc left) m c = step_four-further (view m.host) (counted_turn left m) c

    step_three-further : (until : ℕ) (m : State) (c : Choices) → Further (step_three choice_rules call until c m) (step_three choice_rules call until (longer c) m)
    step_three-further until m c =
        choose-further (nat_le until m.host.now) m (ends ClockEnd c) (λ m. with_turn_fuel choice_rules call m.fuel m c) (ends ClockEnd (longer c)) (λ m. with_turn_fuel choice_rules call m.fuel m (longer c))
        refl (with_turn_fuel-further m.fuel m c)

    from_step_three-further : (until : ℕ) (m : State) (c : Choices) → Further (from_step_three choice_rules call until c m) (from_step_three choice_rules call until (longer c) m)
    from_step_three-further until m c =
        next_turn-further (λ m c. GoesOn (step_five m) c) (λ es c m. ap (λ m. GoesOn m c) (step_five-adds es m)) (λ m c. refl)
        (step_three choice_rules call until c m) (step_three choice_rules call until (longer c) m) (step_three-further until m c)

    module _ (until : ℕ) (begin : State → Choices → Turned Choices) (begin-adds : (es : List Stamped) (c : Choices) → TurnAdds es (λ m. begin m c)) (begin-further : (m : State) (c : Choices) → Further (begin m c) (begin m (longer c))) where
      waited-further : (t : ℕ) (o o' : Option (Chosen ℕ Choices)) → SameChoice o o' → (m : State) (c : Choices) → Further (waited t o begin c m) (waited t o' begin (longer c) m)
      waited-further t None o' h m c = grown (waited t o' begin (longer c)) (λ es. waited-adds es choice_rules call (adds es) t o' begin (longer c) (begin-adds es)) m
      waited-further t (Some r) o' h m c =
          let told : State = on_page (λ p. emit (Wait t) (at_time r.choice p)) m in
          subst (λ (o : Option (Chosen ℕ Choices)). Further (begin told r.left) (waited t o begin (longer c) m)) (sym h) (begin-further told r.left)

      step_two_at-further : (t : ℕ) (m : State) (c : Choices) → Further (step_two_at choice_rules until t begin (from_step_three choice_rules call until c) c m) (step_two_at choice_rules until t begin (from_step_three choice_rules call until (longer c)) (longer c) m)
      step_two_at-further t m c =
          choose-further (nat_le until m.host.now || nat_le until t) m
          (λ m. ends ClockEnd c (on_page (λ p. at_time (max p.now until) p) m))
          (choose_turned (nat_lt m.host.now t) (waited t (chosen_reading choice_rules t c) begin c) (from_step_three choice_rules call until c))
          (λ m. ends ClockEnd (longer c) (on_page (λ p. at_time (max p.now until) p) m))
          (choose_turned (nat_lt m.host.now t) (waited t (chosen_reading choice_rules t (longer c)) begin (longer c)) (from_step_three choice_rules call until (longer c)))
          refl
          (choose-further (nat_lt m.host.now t) m (waited t (chosen_reading choice_rules t c) begin c) (from_step_three choice_rules call until c) (waited t (chosen_reading choice_rules t (longer c)) begin (longer c)) (from_step_three choice_rules call until (longer c))
          (waited-further t (chosen_reading choice_rules t c) (chosen_reading choice_rules t (longer c)) (reading-longer t c) m c) (from_step_three-further until m c))

      step_two_by-further : (t : Option ℕ) (m : State) (c : Choices) → Further (step_two_by choice_rules until t begin (from_step_three choice_rules call until c) c m) (step_two_by choice_rules until t begin (from_step_three choice_rules call until (longer c)) (longer c) m)
      step_two_by-further None m c = refl
      step_two_by-further (Some t) m c = step_two_at-further t m c

      step_two-further : (m : State) (c : Choices) → Further (step_two choice_rules until begin (from_step_three choice_rules call until c) c m) (step_two choice_rules until begin (from_step_three choice_rules call until (longer c)) (longer c) m)
      step_two-further m c =
          choose-further (is_pending m.host) m (step_two_by choice_rules until (target m.host) begin (from_step_three choice_rules call until c) c) (ends DoneEnd c) (step_two_by choice_rules until (target m.host) begin (from_step_three choice_rules call until (longer c)) (longer c)) (ends DoneEnd (longer c))
          (step_two_by-further (target m.host) m c) refl

      after_step_one-further : (m : State) (c : Choices) → Further (after_step_one choice_rules call until begin c m) (after_step_one choice_rules call until begin (longer c) m)
      after_step_one-further m c =
          choose-further (is_empty (view m.host)) m (step_two choice_rules until begin (from_step_three choice_rules call until c) c) (from_step_three choice_rules call until c) (step_two choice_rules until begin (from_step_three choice_rules call until (longer c)) (longer c)) (from_step_three choice_rules call until (longer c))
          (step_two-further m c) (from_step_three-further until m c)

    from_step_one-further : (until n : ℕ) (m : State) (c : Choices) → Further (from_step_one choice_rules call until n m c) (from_step_one choice_rules call until n m (longer c))
    from_step_one-further until zero m c = ([], refl)
    from_step_one-further until (suc n) m c =
        after_step_one-further until (from_step_one choice_rules call until n) (λ es c. from_step_one-adds es choice_rules call (adds es) until n c) (from_step_one-further until n) (step_one m) c

    turns-further : (until n : ℕ) (m : State) (c : Choices) → Further (turns choice_rules call until n m c) (turns choice_rules call until n m (longer c))
    turns-further until zero m c = ([], refl)
    turns-further until (suc n) m c =
        next_turn-further (turns choice_rules call until n) (λ es c. turns-adds es choice_rules call (adds es) until n c) (turns-further until n) (turn choice_rules call until m c) (turn choice_rules call until m (longer c))
        (from_step_one-further until (suc (suc (item_count m.host))) m c)

    -- ---- a run in pieces

    at_moment-further : (t : ℕ) (next : Choices → State → Turned Choices) (m : State) (c : Choices) → ((m : State) → Further (next c m) (next (longer c) m)) → Further (at_moment t (next c) c m) (at_moment t (next (longer c)) (longer c) m)
    at_moment-further t next m c k =
        choose-further (nat_le m.host.now t) m (λ m. next c (on_page (at_time t) m)) (λ m. Stuck NoAct m c) (λ m. next (longer c) (on_page (at_time t) m)) (λ m. Stuck NoAct m (longer c)) (k (on_page (at_time t) m)) ([], refl)

    stop_by_clock-further : (until : ℕ) (m : State) (c : Choices) → Further (stop_by_clock until c m) (stop_by_clock until (longer c) m)
    stop_by_clock-further until m c =
        choose-further (nat_le until m.host.now) m (ends ClockEnd c) (λ m. Stuck NoAct m c) (ends ClockEnd (longer c)) (λ m. Stuck NoAct m (longer c)) refl ([], refl)

    stop-further : (until : ℕ) (m : State) (c : Choices) → Further (stop until c m) (stop until (longer c) m)
    stop-further until m c =
        choose-further (is_empty (view m.host)) m (choose_turned (is_pending m.host) (stop_by_clock until c) (ends DoneEnd c)) (stop_by_clock until c) (choose_turned (is_pending m.host) (stop_by_clock until (longer c)) (ends DoneEnd (longer c))) (stop_by_clock until (longer c))
        (choose-further (is_pending m.host) m (stop_by_clock until c) (ends DoneEnd c) (stop_by_clock until (longer c)) (ends DoneEnd (longer c)) (stop_by_clock-further until m c) refl)
        (stop_by_clock-further until m c)

    act-further : (until : ℕ) (a : Act) (m : State) (c : Choices) → Further (act choice_rules call until a m c) (act choice_rules call until a m (longer c))
    act-further until (Pass t) m c = at_moment-further t pass m c (λ m. refl)
    act-further until Serve m c =
        choose-further (is_empty (view m.host)) m (λ m. Stuck NoAct m c) (step_three choice_rules call until c) (λ m. Stuck NoAct m (longer c)) (step_three choice_rules call until (longer c)) ([], refl) (step_three-further until m c)
    act-further until (Rest t) m c =
        at_moment-further t rest m c
        (λ m. choose-further (is_empty (view m.host)) m (λ m. GoesOn (on_page idle_step m) c) (λ m. Stuck NoAct m c) (λ m. GoesOn (on_page idle_step m) (longer c)) (λ m. Stuck NoAct m (longer c)) refl ([], refl))
    act-further until (Stop t) m c = at_moment-further t (stop until) m c (λ m. stop-further until m c)

    acts-further : (until : ℕ) (list : List Act) (m : State) (c : Choices) → Further (acts choice_rules call until list m c) (acts choice_rules call until list m (longer c))
    acts-further until [] m c = refl
    acts-further until (a ∷ more) m c =
        next_turn-further (acts choice_rules call until more) (λ es c. acts-adds es choice_rules call (adds es) until more c) (acts-further until more) (act choice_rules call until a m c) (act choice_rules call until a m (longer c))
        (act-further until a m c)

  -- ---- a whole run

  continues : (t t' : Turned Choices) → Further t t' → Continues more_sources more_readings more_answers t t'
  continues (GoesOn m c) t' h = h
  continues (Ended end m c) t' h = h
  continues (Stuck at m c) t' h = (reverse h.0, ap reverse h.1 ∙ reverse-append h.0 m.host.events)

  pub run-further : (program : Program) (setup : Setup) (hosts : List HostClosure) (c : Choices) → Continues more_sources more_readings more_answers (run program setup hosts c) (run program setup hosts (longer c))
  unfolding run run_by
  run-further program setup hosts c =
      let call : Caller Page = call_from_outside program page_operations in
      continues _ _ (turns-further call (λ es. outside-adds es program) setup.until (suc setup.fuel) (first_state program setup hosts) c)

  pub gaps-further : (program : Program) (setup : Setup) (list : List Act) (c : Choices) → Continues more_sources more_readings more_answers (run_gaps program setup list c) (run_gaps program setup list (longer c))
  unfolding run_gaps run_gaps_by
  gaps-further program setup list c =
      let call : Caller Page = call_from_outside program page_operations in
      continues _ _ (acts-further call (λ es. outside-adds es program) setup.until list (first_state program setup []) c)
