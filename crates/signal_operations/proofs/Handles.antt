-- What is done with a number that a script gives, of which a negative one stands for nothing.
use Rattle.std.proofs.Common.{◌≡◌, ℕ, ℤ, pos, negsuc, true, false, arith, refl, sym, ◌∙◌, ap, None, Some, Result, Ok}
use Rattle.std.specs.Prelude.{int_lt, unsigned_abs}
use Rattle.std.specs.Result.{IsErrAnd}
use Rattle.page_types.specs.Values.{UnitValue}
use Rattle.lang_meaning.specs.Machine.{Done, finish}
use Rattle.lang_meaning.specs.HostSteps.{StepValue}
use Rattle.lang_ast.specs.declared.host.HostStep.{HostStep}
use Rattle.lang_ast.specs.Steps.{seen_step}
use Rattle.page_model.specs.State.{Page, State}
use Rattle.page_model.specs.PageHost.{bare}
use Rattle.page_model.specs.Operations.{does}
use Rattle.trace_text.specs.declared.lines.NoLine.{NoLine}
use Rattle.trace_text.specs.Given.{Keeping}
use Rattle.trace_text.specs.Acts.{At}
use Rattle.page_state.specs.Standing.{Standing, page_of}
use Rattle.page_state.specs.PageActs.{on_page, Does}
use Rattle.page_answers.specs.Answers.{Answers}
use Rattle.page_answers.proofs.Answering.{Answers-is}
use Rattle.page_answers.proofs.Choosing.{Answers-does, Answers-exit, Answers-same}

-- what is done with a number
abbrev pub by_sign : (ℕ → Page → Page) → ℤ → State → Done Page
by_sign f n m = elim n [ pos k ↦ does (f k) m | negsuc k ↦ finish m ]

not_below : (f : ℕ → Page → Page) (n : ℤ) → int_lt n (pos 0) ≡ false → by_sign f n ≡ does (f (unsigned_abs n))
not_below f (pos n) above = refl
not_below f (negsuc n) above = cc

module _ {T : Type 0} {k : Keeping T} (f : ℕ → Page → Page) (old : At Standing T) where
  -- it is negative
  pub handle-below : (n : ℤ) (step : HostStep) → int_lt n (pos 0) ≡ true → seen_step step ≡ StepValue UnitValue → Answers k old (by_sign f n) (Ok step) old
  handle-below (pos n) step below answer = let never : ⊥ = grind (arith, below) in absurd never
  handle-below (negsuc n) step below answer = Answers-same k UnitValue old step answer

  -- it is another one
  handle-is : (n : ℤ) (number : ℕ) {new : At Standing T} {r : Result HostStep NoLine} → int_lt n (pos 0) ≡ false → number ≡ unsigned_abs n
      → Answers k old (does (f number)) r new → Answers k old (by_sign f n) r new
  handle-is n number above is h =
      Answers-is (does (f number)) (by_sign f n) old
      (ap (λ j. does (f j) (bare (page_of old.state))) is ∙ sym (ap (λ (g : State → Done Page). g (bare (page_of old.state))) (not_below f n above))) h

  -- what is done with it was done
  pub handle-given : (n : ℤ) (number : ℕ) {new : At Standing T} (step : HostStep) → int_lt n (pos 0) ≡ false → number ≡ unsigned_abs n
      → Does k old (on_page (f number)) None new → seen_step step ≡ StepValue UnitValue → Answers k old (by_sign f n) (Ok step) new
  handle-given n number step above is h answer = handle-is n number above is (Answers-does (f number) old step answer h)

  -- it stopped among the lines
  pub handle-stopped : (n : ℤ) (number : ℕ) {new : At Standing T} {why : NoLine} (r : Result HostStep NoLine) → int_lt n (pos 0) ≡ false → number ≡ unsigned_abs n
      → IsErrAnd r (λ e. e ≡ why) → Does k old (on_page (f number)) (Some why) new → Answers k old (by_sign f n) r new
  handle-stopped n number r above is stops h = handle-is n number above is (Answers-exit (does (f number)) (f number) old r refl stops h)
