-- The task of a source by the answers that are held, from the task with the answer that was given.
use Rattle.std.specs.Prelude.{option_and_then}
use Rattle.std.proofs.Common.{◌≡◌, ℕ, true, cond, List, ◌∷◌, refl, sym, ◌∙◌, ap, subst, Option, Some, None, option_map, ℤ, Result}
use Rattle.page_types.specs.declared.Source.{Source}
use Rattle.page_types.specs.declared.Source.TheVariants.{User, Net, Dom, Timer, Render, Sched, Idle}
use Rattle.page_parts.specs.Words.{is_there}
use Rattle.page_parts.specs.HostClosures.{HostClosure, meets}
use Rattle.lang_meaning.specs.Machine.{Done, afterwards, hosted, Caller}
use Rattle.host_jobs.specs.KeptAnswers.{next_kept}
use Rattle.page_model.specs.State.{Page, State, Task, HostTask, SchedTask, on_page}
use Rattle.page_model.specs.PageTime.{first_task}
use Rattle.page_model.specs.SchedulerTasks.{first_sched}
use Rattle.page_model.specs.PageSignals.{host_task_of}
use Rattle.page_model.specs.Tasks.{after_task}
use Rattle.page_model.specs.Choosing.{legal, chosen_answer}
use Rattle.page_model.specs.View.{first_number}
use Rattle.page_model.specs.Turns.{Turned, Stuck, NoAnswer, goes_on, without_task, host_answered, perform_host, perform_task, perform_first, perform_first_sched, perform}
use Rattle.page_types.specs.Events.{Stamped}
use Rattle.trace_text.specs.declared.lines.NoLine.{NoLine}
use Rattle.trace_text.specs.Given.{Keeping, Gives as TakesLines}
use Rattle.trace_text.specs.Acts.{At}
use Rattle.trace_text.proofs.Giving.{Gives-none}
use Rattle.page_script.specs.PageActs.{bare, lines_of}
use Rattle.page_host.specs.StateActs.{How, ended, events_after, Steps}
use Rattle.loop_turn.specs.Firing.{FiresAmong}
use Rattle.loop_turn.specs.Outcomes.{Shown, Outcome, AtAnswer, Reached, Turns}
use Rattle.loop_turn.proofs.Fired.{fires-none}
use Rattle.loop_turn.proofs.TurnSteps.{Turns-same, Turns-steps, Turns-steps_stop}
use Rattle.loop_turn.specs.RunRules.{answer_chosen, answer_rules}
use Rattle.page_host.specs.Performed.{live_closure, answered, steps_with, first_with, sched_with, performed, Asking, asking, asking_of, first_asking}

abbrev pub Answers : Type 0
Answers = List (Result ℤ ℤ)

some-same : {X : Type 0} (x y : X) → Some x ≡ Some y → x ≡ y
some-same x y e = cc

numbered : {X : Type 0} (f : X → ℕ) (o : Option X) → is_there (option_map f o) ≡ true → is_there o ≡ true
numbered f None e = e
numbered f (Some x) e = refl

-- an answer that meets the relation is chosen
chosen-next : (k : HostClosure) (n : ℤ) (a : Result ℤ ℤ) (left : List (Result ℤ ℤ)) → meets k.kind n a ≡ true
    → chosen_answer answer_rules k.kind n (a ∷ left) ≡ Some (record { choice = a; left = left })
chosen-next k n a left e = ap (λ b. legal (meets k.kind n) (option_map answer_chosen (cond b (Some (a, left)) None))) e ∙ ap (λ b. cond b (Some (record { choice = a; left = left })) None) e

module _ (call : Caller Page) where
  -- ---- where no closure is asked

  -- the task runs, whatever answers are held
  abbrev Plainly : Turned Answers → Answers → Done Page → Type 0
  Plainly t answers d = t ≡ goes_on answers (afterwards d (after_task call))

  host-plain : (t : HostTask) (k : Option HostClosure) (m : State) (answer : Result ℤ ℤ) (answers : Answers) → asking t k ≡ None
      → Plainly (perform_host answer_rules call t k m answers) answers (answered k t answer m)
  host-plain t None m answer answers e = refl
  host-plain t (Some k) m answer answers e = absurd (cc)

  task-plain : (task : Task) (h : Option HostTask) (m : State) (answer : Result ℤ ℤ) (answers : Answers) → option_and_then (λ h. asking h (live_closure m.host h)) h ≡ None
      → Plainly (perform_task answer_rules call task h m answers) answers (steps_with call task.steps h answer m)
  task-plain task None m answer answers e = refl
  task-plain task (Some t) m answer answers e = host-plain t (live_closure m.host t) m answer answers e

  first-plain : (task : Option Task) (m : State) (answer : Result ℤ ℤ) (answers : Answers) → is_there task ≡ true → asking_of m.host task ≡ None
      → Plainly (perform_first answer_rules call task m answers) answers (first_with call task answer m)
  first-plain None m answer answers there e = absurd (cc)
  first-plain (Some task) m answer answers there e = task-plain task (host_task_of task.steps) (on_page (without_task task.number) m) answer answers e

  sched-plain : (t : Option SchedTask) (m : State) (answers : Answers) → is_there t ≡ true → Plainly (perform_first_sched call t m answers) answers (sched_with call t m)
  sched-plain None m answers there = absurd (cc)
  sched-plain (Some t) m answers there = refl

  pub perform-plain : (source : Source) (m : State) (answer : Result ℤ ℤ) (answers : Answers) → is_there (first_number m.host source) ≡ true → first_asking source m.host ≡ None
      → perform answer_rules call source m answers ≡ goes_on answers (performed call source answer m)
  perform-plain Sched m answer answers there e = sched-plain (first_sched m.host) m answers (numbered (λ t. t.order) (first_sched m.host) there)
  perform-plain User m answer answers there e = first-plain (first_task User m.host.tasks) m answer answers (numbered (λ t. t.number) (first_task User m.host.tasks) there) e
  perform-plain Net m answer answers there e = first-plain (first_task Net m.host.tasks) m answer answers (numbered (λ t. t.number) (first_task Net m.host.tasks) there) e
  perform-plain Dom m answer answers there e = first-plain (first_task Dom m.host.tasks) m answer answers (numbered (λ t. t.number) (first_task Dom m.host.tasks) there) e
  perform-plain Timer m answer answers there e = first-plain (first_task Timer m.host.tasks) m answer answers (numbered (λ t. t.number) (first_task Timer m.host.tasks) there) e
  perform-plain Render m answer answers there e = first-plain (first_task Render m.host.tasks) m answer answers (numbered (λ t. t.number) (first_task Render m.host.tasks) there) e
  perform-plain Idle m answer answers there e = first-plain (first_task Idle m.host.tasks) m answer answers (numbered (λ t. t.number) (first_task Idle m.host.tasks) there) e

  -- ---- where a closure is asked, and answers by its relation

  module _ (x : Asking) (answer : Result ℤ ℤ) (left : Answers) (met : meets x.closure.kind x.asked.number answer ≡ true) where
    host-asked : (t : HostTask) (k : Option HostClosure) (m : State) → asking t k ≡ Some x
        → Plainly (perform_host answer_rules call t k m (answer ∷ left)) left (answered k t answer m)
    host-asked t None m e = absurd (cc)
    host-asked t (Some k) m e =
        let same : record { asked = t; closure = k } ≡ x = some-same (record { asked = t; closure = k }) x e in
        let meets_it : meets k.kind t.number answer ≡ true = ap (λ (y : Asking). meets y.closure.kind y.asked.number answer) same ∙ met in
        ap (λ a. host_answered call t a m (answer ∷ left)) (chosen-next k t.number answer left meets_it)

    task-asked : (task : Task) (h : Option HostTask) (m : State) → option_and_then (λ h. asking h (live_closure m.host h)) h ≡ Some x
        → Plainly (perform_task answer_rules call task h m (answer ∷ left)) left (steps_with call task.steps h answer m)
    task-asked task None m e = absurd (cc)
    task-asked task (Some t) m e = host-asked t (live_closure m.host t) m e

    first-asked : (task : Option Task) (m : State) → asking_of m.host task ≡ Some x
        → Plainly (perform_first answer_rules call task m (answer ∷ left)) left (first_with call task answer m)
    first-asked None m e = absurd (cc)
    first-asked (Some task) m e = task-asked task (host_task_of task.steps) (on_page (without_task task.number) m) e

    pub perform-asked : (source : Source) (m : State) → first_asking source m.host ≡ Some x
        → perform answer_rules call source m (answer ∷ left) ≡ goes_on left (performed call source answer m)
    perform-asked Sched m e = absurd (cc)
    perform-asked User m e = first-asked (first_task User m.host.tasks) m e
    perform-asked Net m e = first-asked (first_task Net m.host.tasks) m e
    perform-asked Dom m e = first-asked (first_task Dom m.host.tasks) m e
    perform-asked Timer m e = first-asked (first_task Timer m.host.tasks) m e
    perform-asked Render m e = first-asked (first_task Render m.host.tasks) m e
    perform-asked Idle m e = first-asked (first_task Idle m.host.tasks) m e

  -- ---- where a closure is asked, and no answer is held that meets its relation

  module _ (x : Asking) (answers : Answers) (none : next_kept (meets x.closure.kind x.asked.number) answers ≡ None) where
    -- it is stuck at that answer, with the host closures as they were
    abbrev Refused : Turned Answers → State → Type 0
    Refused t m = (n : State) × (t ≡ Stuck (NoAnswer x.asked) n answers) × (n.host.hosts ≡ m.host.hosts) × (n.host.events ≡ m.host.events)

    host-refused : (t : HostTask) (k : Option HostClosure) (m : State) → asking t k ≡ Some x → Refused (perform_host answer_rules call t k m answers) m
    host-refused t None m e = absurd (cc)
    host-refused t (Some k) m e =
        let same : record { asked = t; closure = k } ≡ x = some-same (record { asked = t; closure = k }) x e in
        let refused : next_kept (meets k.kind t.number) answers ≡ None = ap (λ (y : Asking). next_kept (meets y.closure.kind y.asked.number) answers) same ∙ none in
        (m, ap (λ o. host_answered call t (legal (meets k.kind t.number) (option_map answer_chosen o)) m answers) refused ∙ ap (λ (y : Asking). Stuck (NoAnswer y.asked) m answers) same, refl, refl)

    task-refused : (task : Task) (h : Option HostTask) (m : State) → option_and_then (λ h. asking h (live_closure m.host h)) h ≡ Some x → Refused (perform_task answer_rules call task h m answers) m
    task-refused task None m e = absurd (cc)
    task-refused task (Some t) m e = host-refused t (live_closure m.host t) m e

    first-refused : (task : Option Task) (m : State) → asking_of m.host task ≡ Some x → Refused (perform_first answer_rules call task m answers) m
    first-refused None m e = absurd (cc)
    first-refused (Some task) m e = task-refused task (host_task_of task.steps) (on_page (without_task task.number) m) e

    pub perform-refused : (source : Source) (m : State) → first_asking source m.host ≡ Some x → Refused (perform answer_rules call source m answers) m
    perform-refused Sched m e = absurd (cc)
    perform-refused User m e = first-refused (first_task User m.host.tasks) m e
    perform-refused Net m e = first-refused (first_task Net m.host.tasks) m e
    perform-refused Dom m e = first-refused (first_task Dom m.host.tasks) m e
    perform-refused Timer m e = first-refused (first_task Timer m.host.tasks) m e
    perform-refused Render m e = first-refused (first_task Render m.host.tasks) m e
    perform-refused Idle m e = first-refused (first_task Idle m.host.tasks) m e

-- ---- what a call does of the task

module _ {T : Type 0} {k : Keeping T} (call : Caller Page) (source : Source) (answer : Result ℤ ℤ) {old : At State T} {before after : List HostClosure}
    (fires : FiresAmong (lines_of (events_after (performed call source answer (hosted bare old.state)))) before after) where
  -- where no closure is asked
  module _ (answers : Answers) (there : is_there (first_number (bare old.state.host) source) ≡ true) (plain : first_asking source (bare old.state.host) ≡ None) where
    pub plain-turns : {mid : At State T} {how : How} {why : Option NoLine} {outcome : Outcome} {new : Reached Answers T} → Steps k old (performed call source answer) None how mid
        → Turns k (record { seen = mid.seen; closures = after }) (goes_on answers (ended how mid.state)) why outcome new → Turns k (record { seen = old.seen; closures = before }) (perform answer_rules call source (hosted bare old.state) answers) why outcome new
    plain-turns steps rest = Turns-same (perform-plain call source (hosted bare old.state) answer answers there plain) (Turns-steps (performed call source answer) answers steps fires rest)

    pub plain-stop : {new : At State T} {how : How} {why : NoLine} (outcome : Outcome) (held : Answers) → Steps k old (performed call source answer) (Some why) how new
        → Turns k (record { seen = old.seen; closures = before }) (perform answer_rules call source (hosted bare old.state) answers) (Some why) outcome (record { state = new.state; held = held; shown = record { seen = new.seen; closures = after } })
    plain-stop outcome held steps = Turns-same (perform-plain call source (hosted bare old.state) answer answers there plain) (Turns-steps_stop (performed call source answer) answers outcome held steps fires)

  -- where one is asked, and gave this answer
  module _ (left : Answers) (x : Asking) (met : meets x.closure.kind x.asked.number answer ≡ true) (asked : first_asking source (bare old.state.host) ≡ Some x) where
    pub asked-turns : {mid : At State T} {how : How} {why : Option NoLine} {outcome : Outcome} {new : Reached Answers T} → Steps k old (performed call source answer) None how mid
        → Turns k (record { seen = mid.seen; closures = after }) (goes_on left (ended how mid.state)) why outcome new → Turns k (record { seen = old.seen; closures = before }) (perform answer_rules call source (hosted bare old.state) (answer ∷ left)) why outcome new
    asked-turns steps rest = Turns-same (perform-asked call x answer left met source (hosted bare old.state) asked) (Turns-steps (performed call source answer) left steps fires rest)

    pub asked-stop : {new : At State T} {how : How} {why : NoLine} (outcome : Outcome) (held : Answers) → Steps k old (performed call source answer) (Some why) how new
        → Turns k (record { seen = old.seen; closures = before }) (perform answer_rules call source (hosted bare old.state) (answer ∷ left)) (Some why) outcome (record { state = new.state; held = held; shown = record { seen = new.seen; closures = after } })
    asked-stop outcome held steps = Turns-same (perform-asked call x answer left met source (hosted bare old.state) asked) (Turns-steps_stop (performed call source answer) left outcome held steps fires)

-- where one is asked, and the port refused
pub refused-turns : {T : Type 0} (k : Keeping T) (call : Caller Page) (source : Source) (m : State) (answers : Answers) (x : Asking) (shown : Shown T) (after : State) → next_kept (meets x.closure.kind x.asked.number) answers ≡ None
    → first_asking source (bare m.host) ≡ Some x → after.host.hosts ≡ m.host.hosts
    → Turns k shown (perform answer_rules call source (hosted bare m) answers) None AtAnswer (record { state = after; held = answers; shown = shown })
refused-turns k call source m answers x shown after none asked hosts =
    let stuck = perform-refused call x answers none source (hosted bare m) asked in
    Turns-same stuck.1 (record {
      lines = let P : List Stamped → Type 0 = λ es. TakesLines k shown.seen (lines_of es) None shown.seen in subst P (sym stuck.3) (Gives-none k shown.seen);
      ends = λ w. record { outcome = refl; state = λ un. absurd un; hosts = hosts ∙ sym stuck.2; held = refl };
      fires = fires-none _ refl;
    })
