-- The run under the choices of legal events ends in the second form of a trace too.
use Rattle.std.proofs.Common.{◌≡◌, ◌≤◌, ◌⊎◌, ℕ, zero, suc, List, [], ◌∷◌, Result, ℤ, refl, sym, ap, ◌∙◌, subst, inl, inr, arith}
use Rattle.page_types.specs.declared.Source.{Source}
use Rattle.page_types.specs.Tree.{Program}
use Rattle.page_types.specs.Events.{Event, Reg, Stamped}
use Rattle.page_parts.specs.Setup.{Setup}
use Rattle.page_parts.specs.HostClosures.{HostClosure}
use Rattle.page_parts.specs.TraceText.{without_by, all_without_by, source_in, reading_in, answer_in, sources_in, readings_in, answers_in, choices_in}
use Rattle.page_parts.specs.WrittenChoices.{Choices, Recorded}
use Rattle.page_model.specs.Turns.{Turned, GoesOn, Ended, Stuck, run}
use Rattle.page_model.specs.ChoicesAreData.{HasEnded}
use Rattle.page_model.specs.PageTrace.{EndsWith, IsLegal, told_more, migrated}
use Rattle.page_laws.proofs.Migrating.{migrates}
use Rattle.trace_check.specs.Verdicts.{own_run}

-- ---- what the first form leaves out is no choice

source-same : (e : Event) (more : List Source) → source_in (without_by e) more ≡ source_in e more
source-same (Reg r kind by) more = refl
source-same e more = refl

reading-same : (at : Stamped) (e : Event) (more : List ℕ) → reading_in (record at { event = without_by e }) (without_by e) more ≡ reading_in at e more
reading-same at (Reg r kind by) more = refl
reading-same at e more = refl

answer-same : (e : Event) (more : List (Result ℤ ℤ)) → answer_in (without_by e) more ≡ answer_in e more
answer-same (Reg r kind by) more = refl
answer-same e more = refl

sources-same : (es : List Stamped) → sources_in (all_without_by es) ≡ sources_in es
sources-same [] = refl
sources-same (e ∷ es) = source-same e.event (sources_in (all_without_by es)) ∙ ap (source_in e.event) (sources-same es)

readings-same : (es : List Stamped) → readings_in (all_without_by es) ≡ readings_in es
readings-same [] = refl
readings-same (e ∷ es) = reading-same e e.event (readings_in (all_without_by es)) ∙ ap (reading_in e e.event) (readings-same es)

answers-same : (es : List Stamped) → answers_in (all_without_by es) ≡ answers_in es
answers-same [] = refl
answers-same (e ∷ es) = answer-same e.event (answers_in (all_without_by es)) ∙ ap (answer_in e.event) (answers-same es)

choices-same : (es : List Stamped) → choices_in (all_without_by es) ≡ choices_in es
choices-same es =
    ap (λ x. Recorded x (readings_in (all_without_by es)) (answers_in (all_without_by es))) (sources-same es)
    ∙ (ap (λ x. Recorded (sources_in es) x (answers_in (all_without_by es))) (readings-same es)
    ∙ ap (Recorded (sources_in es) (readings_in es)) (answers-same es))

-- ---- the run ends

ended-by : {C : Type 0} (es : List Stamped) (t : Turned C) → EndsWith es t → HasEnded t
ended-by es (GoesOn m c) h = absurd h
ended-by es (Ended end m c) h = tt
ended-by es (Stuck at m c) h = absurd h

form-cases : (n : ℕ) → 1 ≤ n → n ≤ 2 → (n ≡ 1) ⊎ (n ≡ 2)
form-cases zero low high = absurd (omega (arith, low))
form-cases (suc zero) low high = inl refl
form-cases (suc (suc zero)) low high = inr refl
form-cases (suc (suc (suc n))) low high = absurd (omega (arith, high))

module _ (program : Program) (setup : Setup) (hosts : List HostClosure) (es : List Stamped) (legal : IsLegal program setup hosts es) where
  -- from the first form: what is migrated has the same choices
  from-first : setup.trace ≡ 1 → HasEnded (run program (told_more setup) hosts (choices_in es))
  from-first form =
      let more = migrates program setup hosts es legal in
      let own = migrated program setup hosts es in
      let same : choices_in own ≡ choices_in es = sym (choices-same own) ∙ ap choices_in (more.same form) in
      let P : Choices → Type 0 = λ c. EndsWith own (run program (told_more setup) hosts c) in
      ended-by own (run program (told_more setup) hosts (choices_in es)) (subst P same more.legal)

  -- in the second form it is the run itself
  from-second : setup.trace ≡ 2 → HasEnded (run program (told_more setup) hosts (choices_in es))
  from-second form =
      let same : setup ≡ told_more setup = ap (λ n. record setup { trace = n }) form in
      let P : Setup → Type 0 = λ s. EndsWith es (run program s hosts (choices_in es)) in
      ended-by es (run program (told_more setup) hosts (choices_in es)) (subst P same legal)

  by-form : (setup.trace ≡ 1) ⊎ (setup.trace ≡ 2) → HasEnded (run program (told_more setup) hosts (choices_in es))
  by-form (inl form) = from-first form
  by-form (inr form) = from-second form

  pub migrated-ends : 1 ≤ setup.trace → setup.trace ≤ 2 → HasEnded (own_run program (told_more setup) hosts es)
  unfolding own_run
  migrated-ends low high = by-form (form-cases setup.trace low high)
