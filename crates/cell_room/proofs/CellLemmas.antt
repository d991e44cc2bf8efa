-- A write to an item changes that cell alone.
use Rattle.std.proofs.Common.{◌≡◌, ◌≢◌, ℕ, true, false, cond, ◌==◌, List, length, Option, Some, None, get_or, refl, ◌∙◌, ap, arith, ◌<◌, inl, inr}
use Rattle.std.proofs.lemmas.Bool.{cases_eq}
use Rattle.std.proofs.lemmas.List.{get_or-set_same, get_or-set_other}
use Rattle.std.proofs.lemmas.Grind.{common_steps}
use Rattle.cell_room.specs.declared.room.Cell.{Cell}
use Rattle.cell_room.specs.declared.room.Stored.{Stored}
use Rattle.cell_room.specs.Cells.{Cells, item_of, item_at, Changes}
use Rattle.cell_room.specs.Lends.{with_item, with_item_at}

named : ℕ → ℕ → Cell
named key generation = record { key = key; generation = generation }

pub same_name : (a b : Cell) → a.key ≡ b.key → a.generation ≡ b.generation → a ≡ b
unfolding named
same_name a b k g = ap (λ (n : ℕ). named n a.generation) k ∙ ap (λ (n : ℕ). named b.key n) g

module _ {T : Type 0} where
  rewritten : (stored : Option (Stored T)) (generation : ℕ) (old new : T) → item_of stored generation ≡ Some old → item_of (with_item stored new) generation ≡ Some new
  rewritten None generation old new h = cc
  rewritten (Some stored) generation old new h =
      elim (stored.generation == generation) as (λ b. cond b (Some stored.item) None ≡ Some old → cond b (Some new) None ≡ Some new) [ true ↦ λ _. refl | false ↦ λ e. cc ] h

  elsewhere : (stored : Option (Stored T)) (generation other : ℕ) (old new : T) → item_of stored generation ≡ Some old → other ≢ generation → item_of (with_item stored new) other ≡ item_of stored other
  elsewhere None generation other old new h apart = refl
  elsewhere (Some stored) generation other old new h apart = grind (arith, common_steps)

  within : (slots : List (Option (Stored T))) (key generation : ℕ) (old : T) → item_of (get_or slots key None) generation ≡ Some old → key < length slots
  within slots key generation old h = grind (arith, common_steps)

  pub Changes-with_item_at : (room : Cells T) (cell : Cell) (old new : T) → item_at room cell ≡ Some old → Changes room (with_item_at room cell.key new) cell (Some new)
  Changes-with_item_at room cell old new h =
      let inside : cell.key < length room.slots = within room.slots cell.key cell.generation old h in
      record {
        changed = rw get_or-set_same (rewritten (get_or room.slots cell.key None) cell.generation old new h);
        others = λ other apart.
            elim (cases_eq other.key cell.key) [
              | inl same ↦
                  let newer : other.generation ≢ cell.generation = λ e. apart (same_name other cell same e) in
                  rw same (rw get_or-set_same (elsewhere (get_or room.slots cell.key None) cell.generation other.generation old new h newer))
              | inr differs ↦ rw get_or-set_other refl
            ];
      }
