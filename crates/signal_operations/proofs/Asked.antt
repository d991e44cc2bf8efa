-- Questions to closures by whether there is a closure that takes the number.
use Rattle.std.proofs.Common.{◌≡◌, ◌∙◌, ℕ, Bool, true, false, cond, refl, sym, ap, subst, Option, None, Some, Result}
use Rattle.std.specs.Int.{FitsUnsignedBits}
use lib.IntN.{nat_abs}
use Rattle.std.specs.Prelude.{ℤ, pos, negsuc, is_some, slice_get}
use Rattle.page_types.specs.declared.FaultName.TheVariants.{RangeError}
use Rattle.page_parts.specs.Kinds.{a_fault}
use Rattle.page_parts.specs.Words.{not_below_zero}
use Rattle.page_parts.specs.HostClosures.{HostClosure}
use Rattle.lang_meaning.specs.Machine.{Done}
use Rattle.lang_ast.specs.declared.host.HostStep.{HostStep}
use Rattle.page_model.specs.State.{Page, State}
use Rattle.page_model.specs.PageHost.{bare}
use Rattle.page_model.specs.Operations.{closure_at, fitting, host_accepted, host_asked, int_within, rejected_with}
use Rattle.trace_text.specs.declared.lines.NoLine.{NoLine}
use Rattle.trace_text.specs.Given.{Keeping}
use Rattle.trace_text.specs.Acts.{At}
use Rattle.page_state.specs.Standing.{Standing, page_of}
use Rattle.page_answers.specs.Answers.{Answers}
use Rattle.page_answers.proofs.Answering.{Answers-is}

-- what is done with the closure that takes the number, where there is one
abbrev asked_of : Option HostClosure → ℤ → ℤ → Option ℕ → State → Done Page
asked_of o k x signal m = elim o [ None ↦ rejected_with (a_fault RangeError) m | Some c ↦ host_accepted (not_below_zero k) c x signal m ]

none_there : (o : Option HostClosure) → is_some o ≡ false → o ≡ None
none_there None e = refl
none_there (Some c) e = absurd (cc)

-- no closure takes the number
pub Answers-unfit : {T : Type 0} {k : Keeping T} (n x : ℤ) (signal : Option ℕ) (old : At Standing T) {new : At Standing T} {r : Result HostStep NoLine}
    → is_some (fitting (closure_at (page_of old.state) n) x) ≡ false → Answers k old (rejected_with (a_fault RangeError)) r new → Answers k old (host_asked n x signal) r new
Answers-unfit n x signal old unfit h =
    let p = page_of old.state in
    Answers-is (rejected_with (a_fault RangeError)) (host_asked n x signal) old
    (ap (λ (o : Option HostClosure). asked_of o n x signal (bare p)) (sym (none_there (fitting (closure_at p n) x) unfit))) h

-- the closure that there is where one takes the number
taken_by : (o : Option HostClosure) (x : ℤ) → is_some (fitting o x) ≡ true → (c : HostClosure) × (o ≡ Some c) × (fitting o x ≡ Some c)
taken_by None x e = absurd (cc)
taken_by (Some c) x e = by_range (int_within c.low c.high x) e
  where
    by_range : (b : Bool) → is_some (cond b (Some c) None) ≡ true → (d : HostClosure) × (Some c ≡ Some d) × (cond b (Some c) None ≡ Some d)
    by_range true e = (c, refl, refl)
    by_range false e = absurd (cc)

-- a number of 32 bits is not negative
pub number-is : (n : ℤ) (number : ℕ) → FitsUnsignedBits 32 n → number ≡ nat_abs n → n ≡ pos number
number-is (pos m) number fits is = ap pos (sym is)
number-is (negsuc m) number fits is = absurd fits

-- the closure of this number takes it
pub Answers-fit : {T : Type 0} {k : Keeping T} (n : ℤ) (number : ℕ) (x : ℤ) (signal : Option ℕ) (old : At Standing T) {new : At Standing T} {r : Result HostStep NoLine}
    → n ≡ pos number → is_some (fitting (closure_at (page_of old.state) n) x) ≡ true
    → ((c : HostClosure) → slice_get old.state.hosts number ≡ Some c → Answers k old (host_accepted number c x signal) r new) → Answers k old (host_asked n x signal) r new
Answers-fit {k = k} n number x signal old {new = new} {r = r} is fit h =
    let p = page_of old.state in
    let e : is_some (fitting (closure_at p (pos number)) x) ≡ true = ap (λ (z : ℤ). is_some (fitting (closure_at p z) x)) (sym is) ∙ fit in
    let w = taken_by (slice_get old.state.hosts number) x e in
    let P : ℤ → Type 0 = λ z. Answers k old (host_asked z x signal) r new in
    subst P (sym is)
    (Answers-is (host_accepted number w.0 x signal) (host_asked (pos number) x signal) old
    (ap (λ (o : Option HostClosure). asked_of o (pos number) x signal (bare p)) (sym w.2)) (h w.0 w.1))
