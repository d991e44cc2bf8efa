-- Calls that are written one after another.
use Rattle.std.proofs.Common.{◌≡◌, ℕ, List, ◌++◌, ap, ◌∙◌, append_assoc}

-- two parts behind what stood there, and what is still to come
pub two_more : (front pushed written a b more : List ℕ) → pushed ≡ front ++ a → written ≡ pushed ++ b → written ++ more ≡ front ++ (a ++ (b ++ more))
two_more front pushed written a b more first second =
    ap (λ xs. xs ++ more) (second ∙ ap (λ xs. xs ++ b) first ∙ append_assoc front a b) ∙ append_assoc front (a ++ b) more ∙ ap (λ xs. front ++ xs) (append_assoc a b more)

-- three parts behind what stood there
pub three : (old first second third a b c : List ℕ) → first ≡ old ++ a → second ≡ first ++ b → third ≡ second ++ c → third ≡ old ++ (a ++ b ++ c)
three old first second third a b c e f g =
    g ∙ ap (λ xs. xs ++ c) (f ∙ ap (λ xs. xs ++ b) e ∙ append_assoc old a b) ∙ append_assoc old (a ++ b) c
