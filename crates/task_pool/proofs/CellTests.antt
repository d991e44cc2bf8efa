-- What a test of two cells tells.
use Rattle.std.proofs.Common.{◌≡◌, ◌≢◌, Bool, true, false, ◌&&◌, ◌==◌, Option, Some, None, refl, sym, ◌∙◌, ap, inl, inr, ◌⊎◌}
use Rattle.std.proofs.lemmas.Bool.{eqb-true, eq-eqb}
use Rattle.cell_room.proofs.CellLemmas.{same_name}
use Rattle.cell_room.specs.declared.room.Cell.{Cell}
use Rattle.task_pool.specs.Lists.{same_cell}
use Rattle.task_pool.specs.Links.{is_cell}

both : (a b : Bool) → (a && b) ≡ true → (a ≡ true) × (b ≡ true)
both true b h = (refl, h)
both false b h = (h, absurd (cc))

pub same_cell-true : (a b : Cell) → same_cell a b ≡ true → a ≡ b
same_cell-true a b h =
    let parts = both (a.key == b.key) (a.generation == b.generation) h in
    same_name a b (eqb-true a.key b.key parts.0) (eqb-true a.generation b.generation parts.1)

pub same_cell-refl : (a : Cell) → same_cell a a ≡ true
same_cell-refl a = ap (λ (x : Bool). x && (a.generation == a.generation)) (eq-eqb a.key a.key refl) ∙ eq-eqb a.generation a.generation refl

not_true : (b : Bool) → (b ≡ true → ⊥) → b ≡ false
not_true true h = absurd (h refl)
not_true false h = refl

pub same_cell-false : (a b : Cell) → a ≢ b → same_cell a b ≡ false
same_cell-false a b h = not_true (same_cell a b) (λ e. h (same_cell-true a b e))

true_or_false : (b : Bool) → (b ≡ true) ⊎ (b ≡ false)
true_or_false true = inl refl
true_or_false false = inr refl

pub cells_differ : (a b : Cell) → same_cell a b ≡ false → a ≢ b
cells_differ a b h e = let same : same_cell a b ≡ true = ap (λ (x : Cell). same_cell a x) (sym e) ∙ same_cell-refl a in cc

pub cell_cases : (a b : Cell) → (a ≡ b) ⊎ (a ≢ b)
cell_cases a b = elim (true_or_false (same_cell a b)) [ inl e ↦ inl (same_cell-true a b e) | inr e ↦ inr (cells_differ a b e) ]

pub is_cell-false : (who : Option Cell) (c : Cell) → ((w : Cell) → who ≡ Some w → w ≢ c) → is_cell who c ≡ false
is_cell-false None c h = refl
is_cell-false (Some w) c h = same_cell-false c w (λ e. h w refl (sym e))
