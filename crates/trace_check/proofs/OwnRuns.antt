-- The run by recorded clock, chooser and answers is the run under these choices.
use Rattle.std.proofs.Common.{◌≡◌, ℕ, Bool, true, false, cond, ◌&&◌, List, [], ◌∷◌, map, Option, Some, None, refl, sym, ap, subst, ◌∙◌, ◌^◌, nat_lt, nat_le, inl, ℤ, Result, Err}
use Rattle.std.specs.Prelude.{option_map}
use Rattle.page_types.specs.declared.Source.{Source}
use Rattle.page_types.specs.declared.End.{End}
use Rattle.page_types.specs.declared.HostKind.{HostKind}
use Rattle.page_types.specs.Tree.{Program}
use Rattle.page_types.specs.Events.{Stamped}
use Rattle.page_parts.specs.HostClosures.{HostClosure, meets}
use Rattle.page_parts.specs.Setup.{Setup}
use Rattle.page_parts.specs.TraceText.{sources_in, readings_in, answers_in}
use Rattle.page_parts.specs.WrittenChoices.{Runnable, is_runnable, Choices, Recorded, next_source, next_reading, next_answer}
use Rattle.page_base.specs.Readings.{kept_reading}
use Rattle.loop_policy.specs.Rules.{kept_choice}
use Rattle.host_jobs.specs.KeptAnswers.{next_kept}
use Rattle.page_model.specs.Choosing.{Rules, is_reading, chosen_source, chosen_reading, chosen_answer, as_source, as_reading, as_answer, choice_rules}
use Rattle.page_model.specs.Likeness.{SameChoice, ChooseAlike, EndAlike}
use Rattle.page_model.specs.Turns.{Turned, GoesOn, Ended, Stuck, run, run_by, events_of_run}
use Rattle.page_model.proofs.ChosenAlone.RunsAlike.{legal-alike, runs-alike, alike-events}
use Rattle.trace_text.specs.Line.{Line, Head, Of}
use Rattle.trace_text.specs.Given.{Keeping, Seen, StopsAmong, Gives as TakesLines}
use Rattle.trace_text.specs.declared.lines.NoLine.TheVariants as line
use Rattle.trace_text.proofs.Giving.{Gives-none}
use Rattle.loop_turn.specs.Outcomes.{outcome_in}
use Rattle.loop_turn.specs.RunStops.{line_fault}
use Rattle.loop_turn.specs.Runs.{DoesRun, run_lines, PortThen}
use Rattle.loop_turn.specs.declared.run_stop.RunStop.{RunStop}
use Rattle.loop_turn.specs.declared.run_stop.RunStop.TheVariants as stop
use Rattle.loop_turn.specs.RunRules.{Held, run_rules, by_chooser, by_clock, by_port}
use Rattle.trace_check.specs.Verdicts.{own_run, lines_of_run}
use Rattle.trace_check.specs.Replays.{Replays}

abbrev Lists : Type 0
Lists = Held (List ℕ) (List Source)

-- what is held, as choices
abbrev as_choices : Lists → Choices
as_choices h = Recorded h.chooser h.clock h.answers

abbrev Together : Lists → Choices → Type 0
Together h c = c ≡ as_choices h

abbrev recorded_rules : Rules Lists
recorded_rules = run_rules kept_reading kept_choice

-- ---- sources

sources-same : (rs : List Runnable) (sources : List Source) (h : Lists)
    → SameChoice Together (option_map (by_chooser h) (kept_choice sources rs)) (option_map as_source (next_source rs (Recorded sources h.clock h.answers)))
sources-same rs [] h = refl
sources-same rs (s ∷ sources) h = by_test (is_runnable rs s)
  where
    by_test : (t : Bool) → SameChoice Together (option_map (by_chooser h) (cond t (Some (s, sources)) None)) (option_map as_source (cond t (Some (record { source = s; left = Recorded sources h.clock h.answers })) None))
    by_test true = (Recorded sources h.clock h.answers, refl, refl)
    by_test false = refl

source-alike : (rs : List Runnable) (h : Lists) → SameChoice Together (chosen_source recorded_rules rs h) (chosen_source choice_rules rs (as_choices h))
source-alike rs h =
    legal-alike Together (is_runnable rs) (option_map (by_chooser h) (kept_choice h.chooser rs)) (option_map as_source (next_source rs (as_choices h))) (sources-same rs h.chooser h)

-- ---- readings

readings-same : (target : ℕ) (readings : List ℕ) (h : Lists)
    → SameChoice Together (option_map (by_clock h) (kept_reading readings target)) (option_map as_reading (next_reading target (Recorded h.chooser readings h.answers)))
readings-same target [] h = refl
readings-same target (t ∷ readings) h = by_test (nat_le target t && nat_lt t (2 ^ 63))
  where
    by_test : (b : Bool) → SameChoice Together (option_map (by_clock h) (cond b (Some (t, readings)) None)) (option_map as_reading (cond b (Some (record { reading = t; left = Recorded h.chooser readings h.answers })) None))
    by_test true = (Recorded h.chooser readings h.answers, refl, refl)
    by_test false = refl

reading-alike : (target : ℕ) (h : Lists) → SameChoice Together (chosen_reading recorded_rules target h) (chosen_reading choice_rules target (as_choices h))
reading-alike target h =
    legal-alike Together (is_reading target) (option_map (by_clock h) (kept_reading h.clock target)) (option_map as_reading (next_reading target (as_choices h))) (readings-same target h.clock h)

-- ---- answers

answers-same : (kind : HostKind) (x : ℤ) (answers : List (Result ℤ ℤ)) (h : Lists)
    → SameChoice Together (option_map (by_port h) (next_kept (meets kind x) answers)) (option_map as_answer (next_answer kind x (Recorded h.chooser h.clock answers)))
answers-same kind x [] h = refl
answers-same kind x (a ∷ answers) h = by_test (meets kind x a)
  where
    by_test : (b : Bool) → SameChoice Together (option_map (by_port h) (cond b (Some (a, answers)) None)) (option_map as_answer (cond b (Some (record { answer = a; left = Recorded h.chooser h.clock answers })) None))
    by_test true = (Recorded h.chooser h.clock answers, refl, refl)
    by_test false = refl

answer-alike : (kind : HostKind) (x : ℤ) (h : Lists) → SameChoice Together (chosen_answer recorded_rules kind x h) (chosen_answer choice_rules kind x (as_choices h))
answer-alike kind x h =
    legal-alike Together (meets kind x) (option_map (by_port h) (next_kept (meets kind x) h.answers)) (option_map as_answer (next_answer kind x (as_choices h))) (answers-same kind x h.answers h)

-- ---- runs

recorded-alike : ChooseAlike recorded_rules choice_rules Together
recorded-alike = record {
  source = λ rs h c is. subst (λ c. SameChoice Together (chosen_source recorded_rules rs h) (chosen_source choice_rules rs c)) (sym is) (source-alike rs h);
  reading = λ t h c is. subst (λ c. SameChoice Together (chosen_reading recorded_rules t h) (chosen_reading choice_rules t c)) (sym is) (reading-alike t h);
  answer = λ kind x h c is. subst (λ c. SameChoice Together (chosen_answer recorded_rules kind x h) (chosen_answer choice_rules kind x c)) (sym is) (answer-alike kind x h);
}

abbrev the_held : List ℕ → List Source → List (Result ℤ ℤ) → Lists
the_held clock chooser answers = record { clock = clock; chooser = chooser; answers = answers }

-- the choices of some events, as they are held
abbrev pub held_of : List Stamped → Lists
held_of es = record { clock = readings_in es; chooser = sources_in es; answers = answers_in es }

-- the same by the parts
pub held-is : (es : List Stamped) (h : Lists) → h.clock ≡ readings_in es → h.chooser ≡ sources_in es → h.answers ≡ answers_in es → h ≡ held_of es
held-is es h clock chooser answers =
    ap (λ x. the_held x h.chooser h.answers) clock ∙ (ap (λ x. the_held (readings_in es) x h.answers) chooser ∙ ap (the_held (readings_in es) (sources_in es)) answers)

module _ (program : Program) (setup : Setup) (hosts : List HostClosure) (es : List Stamped) where
  -- the run by the lists of some events
  abbrev pub recorded_run : Turned Lists
  recorded_run = run_by recorded_rules program setup hosts (held_of es)

  runs-same : EndAlike Together recorded_run (own_run program setup hosts es)
  unfolding own_run run
  runs-same = runs-alike Together recorded_rules choice_rules recorded-alike program setup hosts (held_of es) (as_choices (held_of es)) refl

  pub own-events : events_of_run recorded_run ≡ events_of_run (own_run program setup hosts es)
  own-events = sym (alike-events Together recorded_run (own_run program setup hosts es) runs-same)

  same-outcome : (t : Turned Lists) (t' : Turned Choices) → EndAlike Together t t' → outcome_in t' ≡ outcome_in t
  same-outcome (GoesOn m c) t' h = ap outcome_in h.1
  same-outcome (Ended end m c) t' h = ap outcome_in h.1
  same-outcome (Stuck at m c) t' h = ap outcome_in h.1

  -- a run by these lists is the run under the choices of the events
  pub replays : {T : Type 0} {k : Keeping T} {before after : Seen T} {clock : List ℕ} {chooser : List Source} {port : PortThen} (answer : Result End RunStop)
      → DoesRun k before (run_lines setup.trace recorded_run) recorded_run answer clock chooser port after
      → Replays k before setup.trace (own_run program setup hosts es) answer after
  replays {k = k} {before = before} {after = after} answer h = record {
    lines = subst (λ ls. TakesLines k before ls (line_fault answer) after) (ap (λ es. Head setup.trace ∷ map Of es) own-events) h.lines;
    ends = λ w. (h.ends w).outcome ∙ sym (same-outcome recorded_run (own_run program setup hosts es) runs-same);
  }

  -- the same by what was held
  pub replays-by : {T : Type 0} {k : Keeping T} {before after : Seen T} {clock : List ℕ} {chooser : List Source} {port : PortThen} (closures : List HostClosure) (held : Lists) (answer : Result End RunStop)
      → closures ≡ hosts → held ≡ held_of es
      → (let run = run_by recorded_rules program setup closures held in DoesRun k before (run_lines setup.trace run) run answer clock chooser port after)
      → Replays k before setup.trace (own_run program setup hosts es) answer after
  replays-by {k = k} {before = before} {after = after} {clock = clock} {chooser = chooser} {port = port} closures held answer same is h =
      let P : List HostClosure → Lists → Type 0 = λ hosts held.
      (let run = run_by recorded_rules program setup hosts held in DoesRun k before (run_lines setup.trace run) run answer clock chooser port after) in
      replays answer (subst (λ hosts. P hosts (held_of es)) same (subst (P closures) is h))

-- memory was wanting before any line
stops_at_once : {T : Type 0} (k : Keeping T) (told : Option T) (lines : List Line) → StopsAmong k line.OutOfMemory told lines told
stops_at_once k told [] = (tt, refl)
stops_at_once k told (line ∷ lines) = inl refl

pub replays-none : {C T : Type 0} (k : Keeping T) (seen : Seen T) (form : ℕ) (r : Turned C) (answer : Result End RunStop) → answer ≡ Err stop.OutOfMemory → Replays k seen form r answer seen
replays-none k seen form r answer is =
    subst (λ answer. Replays k seen form r answer seen) (sym is) (record {
      lines = record { told = stops_at_once k seen.told (lines_of_run form r); later = (Gives-none k seen).later; failed = λ w. absurd (cc); differs = refl };
      ends = λ w. absurd (cc);
    })
