-- What is printed is a spelling from the reader's side.
use Rattle.std.proofs.Common.{◌≡◌, ℕ, zero, suc, ◌<◌, ◌≤◌, Bool, true, false, inl, inr, List, [], ◌∷◌, ◌++◌, length, map, ap, refl, arith, Some, None}
use Rattle.std.specs.Prelude.{◌&&◌, IsTrue, ◌==◌, slice_get, unwrap_or, nat_le, codes}
use Rattle.std.specs.List.{join_with_byte, list_all}
use Rattle.std.proofs.lemmas.Bool.{false≢true}
use Rattle.std.proofs.lemmas.List.{append-nil}
use Rattle.page_types.specs.Values.{Value, UnitValue, BoolValue, IntValue, TextValue, ListValue, FunValue, PromiseValue, SignalValue, ControllerValue, DeadlineValue, FaultValue, Values, no_values, with_value, items_of}
use Rattle.page_parts.specs.Kinds.{nesting, greatest_nesting}
use Rattle.page_parts.specs.Spelling.{spelled, all_spelled, escaped, all_escaped}
use Rattle.page_values.specs.Names.{is_name, are_names}
use Rattle.page_values.specs.Texts.{is_text as is_text_of, is_text_byte}
use Rattle.page_values.specs.Written.{IsWritten, AreWritten, IsNumbered, AreNumbered}
use Rattle.page_values.specs.Spellings.{are_parts, IsSimple, is_unit, is_true, is_false, is_int, is_text, is_promise, is_signal, is_controller, is_period, is_deadline, is_fault, Each, IsSpelling}

left : (a b : Bool) → IsTrue (a && b) → IsTrue a
left true b p = refl
left false b p = absurd (false≢true p)

right : (a b : Bool) → IsTrue (a && b) → IsTrue b
right true b p = p
right false b p = absurd (false≢true p)

both : (a b : Bool) → IsTrue a → IsTrue b → IsTrue (a && b)
both true b p q = q
both false b p q = absurd (false≢true p)

by-tests : (b : ℕ) (rest : List ℕ) (quote backslash newline : Bool) → (b == 34) ≡ quote → (b == 92) ≡ backslash → (b == 10) ≡ newline → IsTrue (is_text_byte b) → IsTrue (are_parts rest) → IsTrue (are_parts (escaped b ++ rest))
by-tests b rest true y z e f g p q = rw e q
by-tests b rest false true z e f g p q = rw (e, f) q
by-tests b rest false false true e f g p q = rw (e, f, g) q
by-tests b rest false false false e f g p q =
    let inside : Bool = nat_le 32 b && nat_le b 126 in
    rw (e, f, g, f, e) (both (inside && true) (are_parts rest) (both inside true (rw g at p) refl) q)

byte-parts : (b : ℕ) (rest : List ℕ) → IsTrue (is_text_byte b) → IsTrue (are_parts rest) → IsTrue (are_parts (escaped b ++ rest))
byte-parts b rest p q = by-tests b rest (b == 34) (b == 92) (b == 10) refl refl refl p q

text-parts : (bs : List ℕ) → IsTrue (is_text_of bs) → IsTrue (are_parts (all_escaped bs))
text-parts [] p = refl
text-parts (b ∷ bs) p = byte-parts b (all_escaped bs) (left (is_text_byte b) (is_text_of bs) p) (text-parts bs (right (is_text_byte b) (is_text_of bs) p))

name-at : (names : List (List ℕ)) (f : ℕ) → IsTrue (are_names names) → f < length names → IsTrue (is_name (unwrap_or (slice_get names f) []))
name-at [] f p h = absurd (omega arith)
name-at (x ∷ xs) zero p h = left (is_name x) (list_all is_name xs) p
name-at (x ∷ xs) (suc f) p h = name-at xs f (right (is_name x) (list_all is_name xs) p) (omega arith)

row : (names : List (List ℕ)) (vs : Values) → all_spelled names vs ≡ join_with_byte 44 (map (spelled names) (items_of vs))
row names no_values = refl
row names (with_value v no_values) = append-nil (spelled names v)
row names (with_value v (with_value w ws)) = ap (λ more. spelled names v ++ 44 ∷ more) (row names (with_value w ws))

simple : (deep : ℕ) (bs : List ℕ) → IsSimple bs → IsSpelling deep bs
simple zero bs p = p
simple (suc deep) bs p = inl p

mutual
  spells : (deep : ℕ) (names : List (List ℕ)) (v : Value) → IsTrue (are_names names) → IsWritten v → IsNumbered (length names) v → nesting v ≤ deep → IsSpelling deep (spelled names v)
  spells deep names UnitValue ns w n h = simple deep (codes "unit") (is_unit refl)
  spells deep names (BoolValue true) ns w n h = simple deep (codes "true") (is_true refl)
  spells deep names (BoolValue false) ns w n h = simple deep (codes "false") (is_false refl)
  spells deep names (IntValue z) ns w n h = simple deep _ (is_int z w refl)
  spells deep names (TextValue bs) ns w n h = simple deep _ (is_text (all_escaped bs) (text-parts bs w) refl)
  spells zero names (ListValue vs) ns w n h = absurd (omega arith)
  spells (suc deep) names (ListValue vs) ns w n h =
      inr (inl (record { inside = all_spelled names vs; row = record { items = map (spelled names) (items_of vs); each = spells-all deep names vs ns w n (omega arith); whole = row names vs }; whole = refl }))
  spells zero names (FunValue f vs) ns w n h = absurd (omega arith)
  spells (suc deep) names (FunValue f vs) ns w n h =
      inr (inr (record { name = unwrap_or (slice_get names f) []; named = name-at names f ns n.0; inside = all_spelled names vs; row = record { items = map (spelled names) (items_of vs); each = spells-all deep names vs ns w n.1 (omega arith); whole = row names vs }; whole = refl }))
  spells deep names (PromiseValue k) ns w n h = simple deep _ (is_promise _ (record { number = k; below = w; whole = refl }) refl)
  spells deep names (SignalValue k) ns w n h = simple deep _ (is_signal _ (record { number = k; below = w; whole = refl }) refl)
  spells deep names (ControllerValue k) ns w n h = simple deep _ (is_controller _ (record { number = k; below = w; whole = refl }) refl)
  spells deep names (DeadlineValue None) ns w n h = simple deep _ (is_period refl)
  spells deep names (DeadlineValue (Some t)) ns w n h = simple deep _ (is_deadline _ (record { number = t; below = w; whole = refl }) refl)
  spells deep names (FaultValue name bs) ns w n h = simple deep _ (is_fault name (all_escaped bs) (text-parts bs w) refl)

  spells-all : (deep : ℕ) (names : List (List ℕ)) (vs : Values) → IsTrue (are_names names) → AreWritten vs → AreNumbered (length names) vs → greatest_nesting vs ≤ deep → Each (IsSpelling deep) (map (spelled names) (items_of vs))
  spells-all deep names no_values ns w n h = tt
  spells-all deep names (with_value v vs) ns w n h = (spells deep names v ns w.0 n.0 (omega arith), spells-all deep names vs ns w.1 n.1 (omega arith))

pub printed-spells : (names : List (List ℕ)) (v : Value) → IsTrue (are_names names) → IsWritten v → IsNumbered (length names) v → nesting v ≤ 64 → IsSpelling 64 (spelled names v)
printed-spells = spells 64
