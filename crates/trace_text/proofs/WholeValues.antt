-- Values at the front of some bytes, with what is nested in them.
use Rattle.std.proofs.Common.{◌≡◌, ◌≢◌, ℕ, zero, suc, ◌≤◌, Bool, true, false, cond, List, [], ◌∷◌, ◌++◌, inl, inr, length, drop, Option, Some, None, refl, sym, ap, ◌∙◌, subst, append_assoc, arith}
use Rattle.std.specs.Prelude.{IsTrue, ◌==◌, codes, take_while, pos, negsuc}
use Rattle.std.specs.List.{list_all, prefix_len}
use Rattle.std.specs.Option.{option_map, MatchOption}
use Rattle.std.proofs.Math.Seq.{drop-append_seam}
use Rattle.std.proofs.lemmas.Bool.{false≢true}
use Rattle.std.proofs.lemmas.Bool.Decides.{nat_tests}
use Rattle.std.proofs.lemmas.List.{append-nil, take-append-drop}
use Rattle.std.proofs.lemmas.List.Folds.{length-prefix_len}
use Rattle.std.proofs.lemmas.List.Sums.{take_while-cons}
use Rattle.page_types.specs.declared.FaultName.{FaultName}
use Rattle.page_types.specs.declared.FaultName.TheVariants.{Error, TypeError, RangeError, AbortError, TimeoutError, NotAllowedError}
use Rattle.page_parts.specs.Words.{decimal_of}
use Rattle.page_parts.specs.Spelling.{fault_text}
use Rattle.page_values.specs.Names.{is_name, is_name_byte, is_letter}
use Rattle.page_values.specs.Spellings.{IsSimple, is_unit, is_true, is_false, is_int, is_text, is_promise, is_signal, is_controller, is_period, is_deadline, is_fault, IsListOf, IsFunctionOf, IsSpelling}
use Rattle.page_base.specs.Fields.{◌>>=◌, behind}
use Rattle.trace_text.specs.ValueEnds.{after_simple, inside_name, inside, closes, ValueAt, RowAt, Leaves, LeavesValue}
use Rattle.trace_text.proofs.Behind.{left, right, both, leads, or_found}
use Rattle.trace_text.proofs.Cutting.{behind_whole}
use Rattle.trace_text.proofs.ValueNumbers.{FirstDigit, decimal_first}
use Rattle.trace_text.proofs.ValueWords.{simple_leaves}

-- ---- names

run_step : (b : ℕ) (bs : List ℕ) → is_name_byte b ≡ true → take_while is_name_byte (b ∷ bs) ≡ b ∷ take_while is_name_byte bs
run_step b bs h = rw (take_while-cons, h) refl

run_of : (name row : List ℕ) → IsTrue (list_all is_name_byte name) → take_while is_name_byte (name ++ 40 ∷ row) ≡ name
run_of [] row h = rw take_while-cons refl
run_of (b ∷ bs) row h =
    run_step b (bs ++ 40 ∷ row) (left (is_name_byte b) (list_all is_name_byte bs) h) ∙ ap (λ xs. b ∷ xs) (run_of bs row (right (is_name_byte b) (list_all is_name_byte bs) h))

letter_in_name : (b : ℕ) → IsTrue (is_letter b) → IsTrue (is_name_byte b)
letter_in_name b h = grind (arith, nat_tests)

name_bytes : (name : List ℕ) → IsTrue (is_name name) → IsTrue (list_all is_name_byte name)
name_bytes [] h = absurd (false≢true h)
name_bytes (b ∷ bs) h =
    both (is_name_byte b) (list_all is_name_byte bs) (letter_in_name b (left (is_letter b) _ h)) (left (list_all is_name_byte bs) _ (right (is_letter b) _ h))

name_read : (name row : List ℕ) → IsTrue (is_name name) → inside_name (name ++ 40 ∷ row) ≡ Some row
unfolding inside_name behind
name_read name row h =
    let bytes : List ℕ = name ++ 40 ∷ row in
    ap (λ run. cond (is_name run) (behind (codes "(") (drop (length run) bytes)) None) (run_of name row (name_bytes name h))
    ∙ ap (λ t. cond t (behind (codes "(") (drop (length name) bytes)) None) h
    ∙ ap (behind (codes "(")) (drop-append_seam name (40 ∷ row))

record NameAt (bytes row : List ℕ) : Type 0 where
  pub name : List ℕ
  pub named : IsTrue (is_name name)
  pub whole : bytes ≡ name ++ 40 ∷ row

run_then : (bytes : List ℕ) → take_while is_name_byte bytes ++ drop (length (take_while is_name_byte bytes)) bytes ≡ bytes
run_then bytes = ap (λ k. take_while is_name_byte bytes ++ drop k bytes) (length-prefix_len is_name_byte bytes) ∙ take-append-drop (prefix_len is_name_byte bytes) bytes

name_by : (bytes row : List ℕ) (named : Bool) → is_name (take_while is_name_byte bytes) ≡ named → cond named (behind (codes "(") (drop (length (take_while is_name_byte bytes)) bytes)) None ≡ Some row → NameAt bytes row
name_by bytes row true e is =
    let run : List ℕ = take_while is_name_byte bytes in
    record { name = run; named = e; whole = sym (run_then bytes) ∙ ap (λ xs. run ++ xs) (behind_whole (codes "(") (drop (length run) bytes) row is) }
name_by bytes row false e is = absurd cc

name_found : (bytes row : List ℕ) → inside_name bytes ≡ Some row → NameAt bytes row
unfolding inside_name
name_found bytes row is = name_by bytes row (is_name (take_while is_name_byte bytes)) refl is

-- ---- what begins a row

data Opens (bytes : List ℕ) (close : ℕ) (row : List ℕ) : Type 0 where
  opens_list : close ≡ 93 → bytes ≡ 91 ∷ row → Opens bytes close row
  opens_function : close ≡ 41 → (name : List ℕ) → IsTrue (is_name name) → bytes ≡ codes "fn:" ++ (name ++ 40 ∷ row) → Opens bytes close row

record Same (a b : ℕ) (xs ys : List ℕ) : Type 0 where
  pub close : a ≡ b
  pub row : xs ≡ ys

same_pair : (a b : ℕ) (xs ys : List ℕ) → ◌≡◌ {A = Option (ℕ × List ℕ)} (Some (a, xs)) (Some (b, ys)) → Same a b xs ys
same_pair a b xs ys e =
    let pair : ◌≡◌ {A = ℕ × List ℕ} (a, xs) (b, ys) = cc in
    record { close = ap (λ p. p.0) pair; row = ap (λ p. p.1) pair }

inside_found : (bytes : List ℕ) (close : ℕ) (row : List ℕ) → inside bytes ≡ Some (close, row) → Opens bytes close row
unfolding inside
inside_found bytes close row is =
    or_found (behind (codes "[") bytes) (λ r. Some (93, r)) (behind (codes "fn:") bytes >>= inside_name >>= λ r. Some (41, r)) (close, row)
    (λ r e f. let same = same_pair 93 close r row f in opens_list (sym same.close) (behind_whole (codes "[") bytes r e ∙ ap (λ xs. 91 ∷ xs) same.row))
    (λ e.
    let last = leads (behind (codes "fn:") bytes >>= inside_name) (λ r. Some (41, r)) (close, row) e in
    let first = leads (behind (codes "fn:") bytes) inside_name last.between last.first in
    let named = name_found first.between last.between first.second in
    let same = same_pair 41 close last.between row last.second in
    opens_function (sym same.close) named.name named.named
    (behind_whole (codes "fn:") bytes first.between first.first ∙ ap (λ xs. codes "fn:" ++ xs) (named.whole ∙ ap (λ r. named.name ++ 40 ∷ r) same.row)))
    is

closing : (bytes : List ℕ) (close : ℕ) (row : List ℕ) → Opens bytes close row → closes close
closing bytes close row (opens_list e f) = inl e
closing bytes close row (opens_function e name named f) = inr e

pub inside_closes : (bytes : List ℕ) (close : ℕ) (row : List ℕ) → inside bytes ≡ Some (close, row) → closes close
inside_closes bytes close row is = closing bytes close row (inside_found bytes close row is)

list_inside : (row : List ℕ) → inside (91 ∷ row) ≡ Some (93, row)
unfolding inside behind
list_inside row = refl

function_inside : (name row : List ℕ) → IsTrue (is_name name) → inside (codes "fn:" ++ (name ++ 40 ∷ row)) ≡ Some (41, row)
unfolding inside behind
function_inside name row named = ap (λ o. o >>= λ r. Some (41, r)) (name_read name row named)

list_opens : {IsItem : List ℕ → Type 0} (s bytes rest : List ℕ) (list : IsListOf IsItem s) → bytes ≡ s ++ rest → inside bytes ≡ Some (93, list.inside ++ 93 ∷ rest)
list_opens s bytes rest list whole =
    let all : bytes ≡ 91 ∷ (list.inside ++ 93 ∷ rest) = whole ∙ ap (λ xs. xs ++ rest) list.whole ∙ simp append_assoc in
    ap inside all ∙ list_inside (list.inside ++ 93 ∷ rest)

function_opens : {IsItem : List ℕ → Type 0} (s bytes rest : List ℕ) (function : IsFunctionOf IsItem s) → bytes ≡ s ++ rest → inside bytes ≡ Some (41, function.inside ++ 41 ∷ rest)
function_opens s bytes rest function whole =
    let all : bytes ≡ codes "fn:" ++ (function.name ++ 40 ∷ (function.inside ++ 41 ∷ rest)) = whole ∙ ap (λ xs. xs ++ rest) function.whole ∙ simp append_assoc in
    ap inside all ∙ function_inside function.name (function.inside ++ 41 ∷ rest) function.named

-- ---- simple values begin no row

digit_inside : (d : ℕ) (bs : List ℕ) → d ≤ 57 → inside (d ∷ bs) ≡ None
unfolding inside behind
digit_inside d bs high =
    let e : (d == 91) ≡ false = grind (arith, nat_tests) in
    let f : (d == 102) ≡ false = grind (arith, nat_tests) in
    rw (e, f) refl

decimal_inside : (ds rest : List ℕ) → FirstDigit ds → inside (ds ++ rest) ≡ None
decimal_inside ds rest first = subst (λ xs. inside (xs ++ rest) ≡ None) (sym first.whole) (digit_inside first.digit (first.more ++ rest) first.high)

fault_inside : (name : FaultName) (text : List ℕ) → inside (fault_text name ++ text) ≡ None
unfolding inside behind
fault_inside Error text = refl
fault_inside TypeError text = refl
fault_inside RangeError text = refl
fault_inside AbortError text = refl
fault_inside TimeoutError text = refl
fault_inside NotAllowedError text = refl

simple_inside : (s rest : List ℕ) → IsSimple s → inside (s ++ rest) ≡ None
unfolding inside behind
simple_inside s rest (is_unit e) = ap (λ w. inside (w ++ rest)) e
simple_inside s rest (is_true e) = ap (λ w. inside (w ++ rest)) e
simple_inside s rest (is_false e) = ap (λ w. inside (w ++ rest)) e
simple_inside s rest (is_int (pos n) fits e) = ap (λ w. inside (w ++ rest)) e ∙ decimal_inside (decimal_of n) rest (decimal_first n (omega (arith, fits)))
simple_inside s rest (is_int (negsuc n) fits e) = ap (λ w. inside (w ++ rest)) e
simple_inside s rest (is_text parts good e) = ap (λ w. inside (w ++ rest)) e
simple_inside s rest (is_promise number is e) = ap (λ w. inside (w ++ rest)) e
simple_inside s rest (is_signal number is e) = ap (λ w. inside (w ++ rest)) e
simple_inside s rest (is_controller number is e) = ap (λ w. inside (w ++ rest)) e
simple_inside s rest (is_period e) = ap (λ w. inside (w ++ rest)) e
simple_inside s rest (is_deadline number is e) = ap (λ w. inside (w ++ rest)) e
simple_inside s rest (is_fault name parts good e) =
    let quoted : List ℕ = 40 ∷ (34 ∷ parts ++ 34 ∷ []) in
    let cause : List ℕ = quoted ++ 41 ∷ [] in
    ap (λ w. inside (w ++ rest)) (e ∙ append_assoc (fault_text name) quoted (41 ∷ [])) ∙ ap inside (append_assoc (fault_text name) cause rest) ∙ fault_inside name (cause ++ rest)

-- ---- no value begins with a closing bracket

record FirstByte (s : List ℕ) : Type 0 where
  pub byte : ℕ
  pub more : List ℕ
  pub whole : s ≡ byte ∷ more
  pub opens : (byte ≡ 93 → ⊥) × (byte ≡ 41 → ⊥)

begins_with : (byte : ℕ) (s more : List ℕ) → s ≡ byte ∷ more → (byte ≡ 93 → ⊥) → (byte ≡ 41 → ⊥) → FirstByte s
begins_with byte s more e p q = record { byte = byte; more = more; whole = e; opens = (p, q) }

fault_first : (name : FaultName) (s text : List ℕ) → s ≡ fault_text name ++ text → FirstByte s
fault_first Error s text e = begins_with 69 s _ e (λ h. omega arith) (λ h. omega arith)
fault_first TypeError s text e = begins_with 84 s _ e (λ h. omega arith) (λ h. omega arith)
fault_first RangeError s text e = begins_with 82 s _ e (λ h. omega arith) (λ h. omega arith)
fault_first AbortError s text e = begins_with 65 s _ e (λ h. omega arith) (λ h. omega arith)
fault_first TimeoutError s text e = begins_with 84 s _ e (λ h. omega arith) (λ h. omega arith)
fault_first NotAllowedError s text e = begins_with 78 s _ e (λ h. omega arith) (λ h. omega arith)

decimal_begins : (s : List ℕ) (n : ℕ) → s ≡ decimal_of n → FirstDigit (decimal_of n) → FirstByte s
decimal_begins s n e first =
    let low = first.low in
    let high = first.high in
    begins_with first.digit s first.more (e ∙ first.whole) (λ h. omega arith) (λ h. omega arith)

simple_first : (s : List ℕ) → IsSimple s → FirstByte s
simple_first s (is_unit e) = begins_with 117 s _ e (λ h. omega arith) (λ h. omega arith)
simple_first s (is_true e) = begins_with 116 s _ e (λ h. omega arith) (λ h. omega arith)
simple_first s (is_false e) = begins_with 102 s _ e (λ h. omega arith) (λ h. omega arith)
simple_first s (is_int (pos n) fits e) = decimal_begins s n e (decimal_first n (omega (arith, fits)))
simple_first s (is_int (negsuc n) fits e) = begins_with 45 s _ e (λ h. omega arith) (λ h. omega arith)
simple_first s (is_text parts good e) = begins_with 34 s _ e (λ h. omega arith) (λ h. omega arith)
simple_first s (is_promise number is e) = begins_with 112 s _ e (λ h. omega arith) (λ h. omega arith)
simple_first s (is_signal number is e) = begins_with 115 s _ e (λ h. omega arith) (λ h. omega arith)
simple_first s (is_controller number is e) = begins_with 99 s _ e (λ h. omega arith) (λ h. omega arith)
simple_first s (is_period e) = begins_with 100 s _ e (λ h. omega arith) (λ h. omega arith)
simple_first s (is_deadline number is e) = begins_with 100 s _ e (λ h. omega arith) (λ h. omega arith)
simple_first s (is_fault name parts good e) =
    let quoted : List ℕ = 40 ∷ (34 ∷ parts ++ 34 ∷ []) in
    fault_first name s (quoted ++ 41 ∷ []) (e ∙ append_assoc (fault_text name) quoted (41 ∷ []))

spelling_first : (deep : ℕ) (s : List ℕ) → IsSpelling deep s → FirstByte s
spelling_first zero s p = simple_first s p
spelling_first (suc deep) s (inl p) = simple_first s p
spelling_first (suc deep) s (inr (inl list)) = begins_with 91 s _ list.whole (λ h. omega arith) (λ h. omega arith)
spelling_first (suc deep) s (inr (inr function)) = begins_with 102 s _ function.whole (λ h. omega arith) (λ h. omega arith)

not_closing : (close : ℕ) (s rest next : List ℕ) → closes close → FirstByte s → s ++ rest ≢ close ∷ next
not_closing close s rest next (inl c) first e =
    let all : first.byte ∷ (first.more ++ rest) ≡ close ∷ next = ap (λ xs. xs ++ rest) (sym first.whole) ∙ e in
    let same : first.byte ≡ 93 = cc in first.opens.0 same
not_closing close s rest next (inr c) first e =
    let all : first.byte ∷ (first.more ++ rest) ≡ close ∷ next = ap (λ xs. xs ++ rest) (sym first.whole) ∙ e in
    let same : first.byte ≡ 41 = cc in first.opens.1 same

pub closes_no_value : (deep close : ℕ) (next : List ℕ) → closes close → (s rest : List ℕ) → IsSpelling deep s → s ++ rest ≢ close ∷ next
closes_no_value deep close next c s rest p = not_closing close s rest next c (spelling_first deep s p)

-- ---- values

pub answered : {A : Type 0} (f : A → List ℕ) (o : Option A) (found : Option (List ℕ)) → MatchOption o (found ≡ None) (λ a. found ≡ Some (f a)) → found ≡ option_map f o
answered f None found is = is
answered f (Some a) found is = is

as_spelling : (deep : ℕ) (s : List ℕ) → IsSimple s → IsSpelling deep s
as_spelling zero s p = p
as_spelling (suc deep) s p = inl p

only_simple : (deep : ℕ) (s bytes rest : List ℕ) → inside bytes ≡ None → bytes ≡ s ++ rest → IsSpelling deep s → IsSimple s
only_simple zero s bytes rest none whole p = p
only_simple (suc deep) s bytes rest none whole (inl p) = p
only_simple (suc deep) s bytes rest none whole (inr (inl list)) = let opens = list_opens s bytes rest list whole in absurd cc
only_simple (suc deep) s bytes rest none whole (inr (inr function)) = let opens = function_opens s bytes rest function whole in absurd cc

-- where no row begins, a simple value is read
flat_leaves : (deep : ℕ) (bytes : List ℕ) → inside bytes ≡ None → LeavesValue (IsSpelling deep) bytes (after_simple bytes)
flat_leaves deep bytes none = record {
  sound = λ rest is. let at = (simple_leaves bytes).sound rest is in record { spelling = at.spelling; spells = as_spelling deep at.spelling at.spells; whole = at.whole };
  complete = λ rest at follows. (simple_leaves bytes).complete rest (record { spelling = at.spelling; spells = only_simple deep at.spelling bytes rest none at.whole at.spells; whole = at.whole }) follows;
}

pub value_flat : (deep : ℕ) (bytes : List ℕ) (answer : Option (List ℕ)) → inside bytes ≡ None → after_simple bytes ≡ answer → LeavesValue (IsSpelling deep) bytes answer
value_flat deep bytes answer none is = subst (LeavesValue (IsSpelling deep) bytes) is (flat_leaves deep bytes none)

simple_no_row : (s bytes rest : List ℕ) (close : ℕ) (row : List ℕ) → inside bytes ≡ Some (close, row) → bytes ≡ s ++ rest → IsSimple s → ⊥
simple_no_row s bytes rest close row opens whole p = let none = ap inside whole ∙ simple_inside s rest p in cc

-- at depth 0 no row is a value
pub value_too_deep : (deep : ℕ) (bytes : List ℕ) (close : ℕ) (row : List ℕ) → deep ≡ 0 → inside bytes ≡ Some (close, row) → LeavesValue (IsSpelling deep) bytes None
value_too_deep zero bytes close row e opens = record {
  sound = λ rest is. let bad : None ≡ Some rest = is in absurd cc;
  complete = λ rest at follows. absurd (simple_no_row at.spelling bytes rest close row opens at.whole at.spells);
}
value_too_deep (suc deep) bytes close row e opens = absurd (omega arith)

-- ---- a row in a value

row_spelled : (deep : ℕ) (bytes : List ℕ) (close : ℕ) (row rest : List ℕ) → Opens bytes close row → RowAt (IsSpelling deep) close row rest → ValueAt (IsSpelling (suc deep)) bytes rest
row_spelled deep bytes close row rest (opens_list e f) at =
    let inner : row ≡ at.inside ++ 93 ∷ rest = at.whole ∙ ap (λ c. at.inside ++ c ∷ rest) e in
    record {
      spelling = 91 ∷ at.inside ++ 93 ∷ [];
      spells = inr (inl (record { inside = at.inside; row = at.row; whole = refl }));
      whole = f ∙ ap (λ xs. 91 ∷ xs) inner ∙ sym (simp append_assoc);
    }
row_spelled deep bytes close row rest (opens_function e name named f) at =
    let inner : row ≡ at.inside ++ 41 ∷ rest = at.whole ∙ ap (λ c. at.inside ++ c ∷ rest) e in
    record {
      spelling = codes "fn:" ++ name ++ 40 ∷ at.inside ++ 41 ∷ [];
      spells = inr (inr (record { name = name; named = named; inside = at.inside; row = at.row; whole = refl }));
      whole = f ∙ ap (λ xs. codes "fn:" ++ (name ++ 40 ∷ xs)) inner ∙ sym (simp append_assoc);
    }

row_at : (deep : ℕ) (s bytes rest : List ℕ) (close : ℕ) (row : List ℕ) → inside bytes ≡ Some (close, row) → bytes ≡ s ++ rest → IsSpelling (suc deep) s → RowAt (IsSpelling deep) close row rest
row_at deep s bytes rest close row opens whole (inl p) = absurd (simple_no_row s bytes rest close row opens whole p)
row_at deep s bytes rest close row opens whole (inr (inl list)) =
    let same = same_pair close 93 row (list.inside ++ 93 ∷ rest) (sym opens ∙ list_opens s bytes rest list whole) in
    record { inside = list.inside; row = list.row; whole = same.row ∙ ap (λ c. list.inside ++ c ∷ rest) (sym same.close) }
row_at deep s bytes rest close row opens whole (inr (inr function)) =
    let same = same_pair close 41 row (function.inside ++ 41 ∷ rest) (sym opens ∙ function_opens s bytes rest function whole) in
    record { inside = function.inside; row = function.row; whole = same.row ∙ ap (λ c. function.inside ++ c ∷ rest) (sym same.close) }

nested_leaves : (deep : ℕ) (bytes : List ℕ) (close : ℕ) (row : List ℕ) (answer : Option (List ℕ)) → inside bytes ≡ Some (close, row) → Leaves (RowAt (IsSpelling deep) close row) answer → LeavesValue (IsSpelling (suc deep)) bytes answer
nested_leaves deep bytes close row answer opens read = record {
  sound = λ rest is. row_spelled deep bytes close row rest (inside_found bytes close row opens) (read.sound rest is);
  complete = λ rest at follows. read.complete rest (row_at deep at.spelling bytes rest close row opens at.whole at.spells);
}

pub value_nested : (deep under : ℕ) (bytes : List ℕ) (close : ℕ) (row : List ℕ) (answer : Option (List ℕ)) → deep ≡ suc under → inside bytes ≡ Some (close, row) → Leaves (RowAt (IsSpelling under) close row) answer → LeavesValue (IsSpelling deep) bytes answer
value_nested deep under bytes close row answer e opens read = subst (λ d. LeavesValue (IsSpelling d) bytes answer) (sym e) (nested_leaves under bytes close row answer opens read)

-- ---- the whole

pub whole_spelled : (IsItem : List ℕ → Type 0) (bytes rest : List ℕ) → LeavesValue IsItem bytes (Some rest) → length rest ≡ 0 → IsItem bytes
whole_spelled IsItem bytes [] read none = let at = read.sound [] refl in subst IsItem (sym (at.whole ∙ append-nil at.spelling)) at.spells
whole_spelled IsItem bytes (b ∷ rest) read none = absurd (omega arith)

pub whole_read : (IsItem : List ℕ → Type 0) (bytes : List ℕ) (answer : Option (List ℕ)) → LeavesValue IsItem bytes answer → IsItem bytes → answer ≡ Some []
whole_read IsItem bytes answer read p = read.complete [] (record { spelling = bytes; spells = p; whole = sym (append-nil bytes) }) refl
