-- What was appended in two steps.
use Rattle.std.proofs.Common.{◌≡◌, ℕ, List, ◌++◌, ◌∙◌, ap, append_assoc, Result, Ok, Err}
use Rattle.std.specs.Prelude.{IfOk}

pub appends : (old a b : List ℕ) {mid new : List ℕ} → mid ≡ old ++ a → new ≡ mid ++ b → new ≡ old ++ (a ++ b)
appends old a b first then = then ∙ (ap (λ bytes. bytes ++ b) first ∙ append_assoc old a b)

-- the last step is a call that may fail
pub IfOk-appends : {X E : Type 0} (r : Result X E) (old a b : List ℕ) {mid : List ℕ} (new : List ℕ) → mid ≡ old ++ a → IfOk r (λ _. new ≡ mid ++ b) → IfOk r (λ _. new ≡ old ++ (a ++ b))
IfOk-appends (Ok x) old a b new first then = appends old a b first then
IfOk-appends (Err e) old a b new first then = tt
