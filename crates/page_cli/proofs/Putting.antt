-- Pieces that are put one after another.
use Rattle.std.proofs.Common.{◌≡◌, ◌≤◌, ℕ, List, [], ◌++◌, Option, Some, None, Result, Ok, Err, Bool, true, false, refl, sym, ◌∙◌, ap, subst, inl, inr, arith, append_assoc, append-nil}
use Rattle.std.specs.Prelude.{IsErr}
use Rattle.page_types.specs.Told.{appended, AppendsStartOf}
use Rattle.page_cli.specs.Complaints.{Puts, PutsOrFails}

appended-then : (told : Option (List ℕ)) (p q : List ℕ) → appended (appended told p) q ≡ appended told (p ++ q)
appended-then None p q = refl
appended-then (Some bytes) p q = ap Some (append_assoc bytes p q)

pub appended-none : (told : Option (List ℕ)) → told ≡ appended told []
appended-none None = refl
appended-none (Some bytes) = ap Some (sym (append-nil bytes))

-- a start of a piece is one of the piece and more
start-more : (old new : Option (List ℕ)) (p q : List ℕ) → AppendsStartOf old new p → AppendsStartOf old new (p ++ q)
start-more old new p q h = (h.0, (h.1.0 ++ q, ap (λ z. z ++ q) h.1.1 ∙ append_assoc h.0 h.1.0 q), h.2)

-- a start of what follows a piece
start-later : (old mid new : Option (List ℕ)) (p q : List ℕ) → mid ≡ appended old p → AppendsStartOf mid new q → AppendsStartOf old new (p ++ q)
start-later old mid new p q e h =
    (p ++ h.0, (h.1.0, ap (λ z. p ++ z) h.1.1 ∙ sym (append_assoc p h.0 h.1.0)), h.2 ∙ ap (λ t. appended t h.0) e ∙ appended-then old p h.0)

-- a piece, and then another
pub Puts-then : {E F : Type 0} {old mid new : Option (List ℕ)} {a b c : ℕ} {p q : List ℕ} {u : Unit {0}} (r : Result (Unit {0}) F) → Puts {E = E} old a p (Ok u) mid b → Puts mid b q r new c → Puts old a (p ++ q) r new c
Puts-then {old = old} {mid = mid} {new = new} {p = p} {q = q} (Ok v) h g = record {
  later = omega (arith, h.later, g.later);
  whole = g.whole ∙ ap (λ t. appended t q) h.whole ∙ appended-then old p q;
  start = tt;
}
Puts-then {old = old} {mid = mid} {new = new} {p = p} {q = q} (Err f) h g = record {
  later = omega (arith, h.later, g.later);
  whole = tt;
  start = let rose = g.start.0 in (omega (arith, h.later, rose), start-later old mid new p q h.whole g.start.1);
}

err_is_no_ok : false ≡ true → ⊥
err_is_no_ok e = let P : Bool → Type 0 = λ b. elim b [ true ↦ ⊥ | false ↦ Unit {0} ] in subst P e tt

-- a piece that was not put, where another would have followed
pub Puts-exit : {E F : Type 0} {old new : Option (List ℕ)} {a b : ℕ} {p : List ℕ} (q : List ℕ) {e : E} (r : Result (Unit {0}) F) → IsErr r → Puts old a p (Err e) new b → Puts old a (p ++ q) r new b
Puts-exit q (Ok v) is h = absurd (err_is_no_ok is)
Puts-exit {old = old} {new = new} {p = p} q (Err f) is h = record { later = h.later; whole = tt; start = (h.start.0, start-more old new p q h.start.1) }

-- no piece
pub Puts-nothing : {E : Type 0} (old : Option (List ℕ)) (a : ℕ) (p : List ℕ) (u : Unit {0}) → p ≡ [] → Puts {E = E} old a p (Ok u) old a
Puts-nothing old a p u e = record { later = omega arith; whole = appended-none old ∙ ap (appended old) (sym e); start = tt }

pub Puts-or-fails : {E : Type 0} {old new : Option (List ℕ)} {a b : ℕ} {p : List ℕ} (r : Result (Unit {0}) E) → Puts old a p r new b → PutsOrFails old a p new b
Puts-or-fails (Ok v) h = inl h.whole
Puts-or-fails (Err e) h = inr h.start

-- the bytes stay, and faults may be more
pub PutsOrFails-more : (old mid new : Option (List ℕ)) (a b c : ℕ) (p : List ℕ) → PutsOrFails old a p mid b → new ≡ mid → b ≤ c → PutsOrFails old a p new c
PutsOrFails-more old mid new a b c p (inl e) same later = inl (same ∙ e)
PutsOrFails-more old mid new a b c p (inr h) same later = inr (omega (arith, h.0, later), let P : Option (List ℕ) → Type 0 = λ o. AppendsStartOf old o p in subst P (sym same) h.1)
