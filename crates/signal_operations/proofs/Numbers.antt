-- The numbers of the signals in a list, one after another.
use Rattle.std.proofs.Common.{◌≡◌, ℕ, ◌+◌, ◌<◌, ◌≤◌, List, [], ◌∷◌, ◌++◌, length, drop, get_or, map, refl, sym, ◌∙◌, ap, append_assoc, Option, Some, None}
use Rattle.std.proofs.lemmas.List.{at_drop_all, at_drop_more}
use Rattle.page_values.specs.declared.Value.{Value}
use Rattle.page_values.specs.Seen.{seen}
use Rattle.page_parts.specs.Kinds.{signal_in}
use Rattle.page_model.specs.Operations.{all_signals}
use Rattle.page_script.proofs.Lifting.{append_none}

-- the numbers of these values
abbrev pub signals : List Value → Option (List ℕ)
signals vs = all_signals (map seen vs)

-- those of the values from a place on
abbrev pub left : List Value → (place : ℕ) → Option (List ℕ)
left vs i = signals (drop i vs)

-- some numbers, and those that are left behind them
abbrev pub behind : List ℕ → Option (List ℕ) → Option (List ℕ)
behind xs None = None
behind xs (Some ss) = Some (xs ++ ss)

-- the first number, and those that are left
abbrev first_of : Option ℕ → Option (List ℕ) → Option (List ℕ)
first_of None o = None
first_of (Some s) None = None
first_of (Some s) (Some ss) = Some (s ∷ ss)

pub behind-none : (o : Option (List ℕ)) → o ≡ behind [] o
behind-none None = refl
behind-none (Some ss) = refl

behind-more : (xs : List ℕ) (s : ℕ) (o : Option (List ℕ)) → behind xs (first_of (Some s) o) ≡ behind (xs ++ (s ∷ [])) o
behind-more xs s None = refl
behind-more xs s (Some ss) = ap Some (sym (append_assoc xs (s ∷ []) ss))

first-is : (v : Value) (o : Option ℕ) (vs : List Value) → o ≡ signal_in (seen v) → signals (v ∷ vs) ≡ first_of o (signals vs)
first-is v o vs is = by_first (signal_in (seen v)) (signals vs) ∙ ap (λ (n : Option ℕ). first_of n (signals vs)) (sym is)
  where
    by_first : (n : Option ℕ) (rest : Option (List ℕ)) → elim n [ None ↦ None | Some s ↦ elim rest [ None ↦ None | Some ss ↦ Some (s ∷ ss) ] ] ≡ first_of n rest
    by_first None rest = refl
    by_first (Some s) None = refl
    by_first (Some s) (Some ss) = refl

left-is : (vs : List Value) (i : ℕ) (v : Value) (o : Option ℕ) → i < length vs → v ≡ get_or vs i v → o ≡ signal_in (seen v) → left vs i ≡ first_of o (left vs (i + 1))
left-is vs i v o lt item is =
    at_drop_more signals vs i v lt ∙ ap (λ (w : Value). signals (w ∷ drop (i + 1) vs)) (sym item) ∙ first-is v o (drop (i + 1) vs) is

-- one more signal was found
pub behind-step : (vs : List Value) (i : ℕ) (xs : List ℕ) (v : Value) (s : ℕ) → i < length vs → v ≡ get_or vs i v → Some s ≡ signal_in (seen v)
    → signals vs ≡ behind xs (left vs i) → signals vs ≡ behind (xs ++ (s ∷ [])) (left vs (i + 1))
behind-step vs i xs v s lt item is before =
    before ∙ ap (behind xs) (left-is vs i v (Some s) lt item is) ∙ behind-more xs s (left vs (i + 1))

-- a value is no signal
pub behind-stops : (vs : List Value) (i : ℕ) (xs : List ℕ) (v : Value) → i < length vs → v ≡ get_or vs i v → None ≡ signal_in (seen v)
    → signals vs ≡ behind xs (left vs i) → None ≡ signals vs
behind-stops vs i xs v lt item is before = sym (before ∙ ap (behind xs) (left-is vs i v None lt item is))

-- no value is left
pub behind-ends : (vs : List Value) (i : ℕ) (xs : List ℕ) → length vs ≤ i → signals vs ≡ behind xs (left vs i) → Some xs ≡ signals vs
behind-ends vs i xs over before = sym (before ∙ ap (behind xs) (at_drop_all signals vs i over) ∙ ap Some (append_none xs))
