-- How an operation answers: values read from the page behind its change, handles, and `busy`.
use Rattle.std.proofs.Common.{◌≡◌, ℕ, ℤ, pos, negsuc, true, false, Some, None, refl, sym, ◌∙◌, ap, subst, arith, Result, Ok}
use Rattle.std.specs.Prelude.{IfOk, int_lt, unsigned_abs}
use Rattle.std.specs.Result.{IsErrAnd, result_err}
use Rattle.page_types.specs.Values as model
use Rattle.lang_meaning.specs.Machine.{Done, Gives as GivesValue, finish}
use Rattle.lang_meaning.specs.HostSteps.{StepValue}
use Rattle.lang_ast.specs.declared.host.HostStep.{HostStep}
use Rattle.lang_ast.specs.Steps.{seen_step}
use Rattle.page_model.specs.State.{Page, State}
use Rattle.page_model.specs.PageHost.{bare}
use Rattle.page_model.specs.Operations.{does, answers}
use Rattle.trace_text.specs.declared.lines.NoLine.{NoLine}
use Rattle.trace_text.specs.Given.{Keeping, Gives}
use Rattle.trace_text.specs.Acts.{At}
use Rattle.page_script.specs.PageActs.{lines_of}
use Rattle.page_state.specs.Standing.{Standing, page_of, holding}
use Rattle.page_state.specs.PageActs.{on_page, Does}
use Rattle.page_answers.specs.Answers.{Answers, done_by, page_then, step_then}
use Rattle.page_answers.proofs.Answering.{Answers-is}
use Rattle.page_answers.proofs.Choosing.{Answers-does, Answers-exit, Answers-same, Answers-tells}

-- an operation that ends on the same page with the same step, whatever is left of the fuel
pub Answers-alike : {T : Type 0} {k : Keeping T} (f g : State → Done Page) (old : At Standing T) {new : At Standing T} {r : Result HostStep NoLine}
    → page_then (f (bare (page_of old.state))) ≡ page_then (g (bare (page_of old.state)))
    → step_then (f (bare (page_of old.state))) ≡ step_then (g (bare (page_of old.state)))
    → Answers k old f r new → Answers k old g r new
unfolding done_by
Answers-alike {k = k} f g old {new = new} {r = r} page step h =
    let P : Page → Type 0 = λ p. Gives k old.seen (lines_of p.events) (result_err r) new.seen in
    let Q : Page → Type 0 = λ p. IfOk r (λ step. new.state ≡ holding p old.state) in
    record { lines = subst P page h.lines; state = subst Q page h.state; step = subst (λ st. IfOk r (λ step. seen_step step ≡ st)) step h.step; port = h.port }

-- nothing is done, and a value is given that the page tells
pub Answers-holds : {T : Type 0} (k : Keeping T) (v : Page → model.Value) (old : At Standing T) (st : HostStep) → seen_step st ≡ StepValue (v (page_of old.state))
    → Answers k old (λ m. GivesValue (v m.host) m) (Ok st) old
Answers-holds k v old st step =
    Answers-is (λ m. GivesValue (v (page_of old.state)) m) (λ m. GivesValue (v m.host) m) old refl (Answers-same k (v (page_of old.state)) old st step)

-- a change of the page was done, and a value is given that was read of what the page keeps then
pub Answers-reads : {T : Type 0} {k : Keeping T} (v : Page → model.Value) (F : Page → Page) (old : At Standing T) {new : At Standing T} (st : HostStep)
    → v (page_of (holding (F (page_of old.state)) old.state)) ≡ v (F (page_of old.state)) → seen_step st ≡ StepValue (v (page_of new.state))
    → Does k old (on_page F) None new → Answers k old (answers v F) (Ok st) new
unfolding on_page
Answers-reads v F old st reads step h =
    Answers-tells v F old st (step ∙ ap (λ (s : Standing). StepValue (v (page_of s))) (h.acts.state refl) ∙ ap StepValue reads) h

-- ---- a handle

-- what is done with a number that is not negative
abbrev pub by_sign : (ℕ → Page → Page) → ℤ → State → Done Page
by_sign f n m = elim n [ pos k ↦ does (f k) m | negsuc k ↦ finish m ]

not_below : (f : ℕ → Page → Page) (n : ℤ) → int_lt n (pos 0) ≡ false → by_sign f n ≡ does (f (unsigned_abs n))
not_below f (pos n) h = refl
not_below f (negsuc n) h = cc

module _ {T : Type 0} {k : Keeping T} (f : ℕ → Page → Page) (old : At Standing T) where
  -- it is negative
  pub handle-below : (n : ℤ) (step : HostStep) → int_lt n (pos 0) ≡ true → seen_step step ≡ StepValue model.UnitValue → Answers k old (by_sign f n) (Ok step) old
  handle-below (pos n) step below answer = let never : ⊥ = grind (arith, below) in absurd never
  handle-below (negsuc n) step below answer = Answers-same k model.UnitValue old step answer

  -- it is not
  above : (n : ℤ) (number : ℕ) {new : At Standing T} {r : Result HostStep NoLine} → int_lt n (pos 0) ≡ false → number ≡ unsigned_abs n
      → Answers k old (does (f number)) r new → Answers k old (by_sign f n) r new
  above n number not_negative is h =
      Answers-is (does (f number)) (by_sign f n) old
      (ap (λ j. does (f j) (bare (page_of old.state))) is ∙ sym (ap (λ (g : State → Done Page). g (bare (page_of old.state))) (not_below f n not_negative))) h

  pub handle-given : (n : ℤ) (number : ℕ) {new : At Standing T} (step : HostStep) → int_lt n (pos 0) ≡ false → number ≡ unsigned_abs n → Does k old (on_page (f number)) None new
      → seen_step step ≡ StepValue model.UnitValue → Answers k old (by_sign f n) (Ok step) new
  handle-given n number step not_negative is h answer = above n number not_negative is (Answers-does (f number) old step answer h)

  pub handle-stopped : (n : ℤ) (number : ℕ) {new : At Standing T} {why : NoLine} (r : Result HostStep NoLine) → int_lt n (pos 0) ≡ false → number ≡ unsigned_abs n → IsErrAnd r (λ e. e ≡ why)
      → Does k old (on_page (f number)) (Some why) new → Answers k old (by_sign f n) r new
  handle-stopped n number r not_negative is stops h = above n number not_negative is (Answers-exit (does (f number)) (f number) old r refl stops h)
