-- The spelling of a value holds no line feed.
use Rattle.std.proofs.Common.{◌≡◌, ℕ, zero, suc, ◌≤◌, ◌^◌, Bool, true, false, cond, not, ◌&&◌, List, [], ◌∷◌, ◌++◌, inl, inr, refl, ap, ◌∙◌, arith, eqb, nat_le, length, lit≤}
use Rattle.std.specs.Prelude.{◌||◌, IsTrue, ◌==◌, codes}
use Rattle.std.specs.List.{join_with_byte, list_all}
use Rattle.std.proofs.lemmas.Bool.{false≢true}
use Rattle.std.proofs.lemmas.Bool.Decides.{nat_tests}
use Rattle.page_types.specs.declared.FaultName.{FaultName}
use Rattle.page_types.specs.declared.FaultName.TheVariants.{Error, TypeError, RangeError, AbortError, TimeoutError, NotAllowedError}
use Rattle.page_parts.specs.Spelling.{fault_text}
use Rattle.page_values.specs.Names.{is_letter, is_name_byte, is_name}
use Rattle.page_values.specs.Spellings.{is_plain, are_parts, is_escape_first, IsNumber, IsSimple, is_unit, is_true, is_false, is_int, is_text, is_promise, is_signal, is_controller, is_period, is_deadline, is_fault, Each, IsSpelling, IsRow}
use Rattle.trace_text.specs.Trace.{IsPrinted}
use Rattle.trace_text.proofs.Cutting.{lacks, lacks-append}
use Rattle.trace_text.proofs.Counts.{lacks-decimal, lacks-int}

abbrev Free : List ℕ → Type 0
Free bs = lacks 10 bs ≡ true

left : (a b : Bool) → IsTrue (a && b) → IsTrue a
left true b p = refl
left false b p = absurd (false≢true p)

right : (a b : Bool) → IsTrue (a && b) → IsTrue b
right true b p = p
right false b p = absurd (false≢true p)

both : (a b : Bool) → IsTrue a → IsTrue b → IsTrue (a && b)
both true b p q = q
both false b p q = absurd (false≢true p)

abbrev other : ℕ → Bool
other b = not (eqb b 10)

name_byte : (b : ℕ) → IsTrue (is_name_byte b) → IsTrue (other b)
name_byte b h = grind (arith, nat_tests)

name_bytes : (bs : List ℕ) → IsTrue (list_all is_name_byte bs) → Free bs
name_bytes [] h = refl
name_bytes (b ∷ bs) h = both (other b) (lacks 10 bs) (name_byte b (left (is_name_byte b) (list_all is_name_byte bs) h)) (name_bytes bs (right (is_name_byte b) (list_all is_name_byte bs) h))

letter_name : (b : ℕ) → IsTrue (is_letter b) → IsTrue (is_name_byte b)
letter_name b h = rw h refl

name_free : (bs : List ℕ) → IsTrue (is_name bs) → Free bs
name_free [] h = refl
name_free (b ∷ bs) h =
    let rest = right (is_letter b) (list_all is_name_byte bs && nat_le (length bs) 63) h in
    both (other b) (lacks 10 bs) (name_byte b (letter_name b (left (is_letter b) (list_all is_name_byte bs && nat_le (length bs) 63) h))) (name_bytes bs (left (list_all is_name_byte bs) (nat_le (length bs) 63) rest))

plain_byte : (b : ℕ) → IsTrue (is_plain b) → IsTrue (other b)
plain_byte b h = grind (arith, nat_tests)

escape_byte : (b : ℕ) → IsTrue (b == 34 || (b == 92 || b == 110)) → IsTrue (other b)
escape_byte b h = grind (arith, nat_tests)

backslash : (b : ℕ) → (b == 92) ≡ true → IsTrue (other b)
backslash b h = grind (arith, nat_tests)

parts_by : (escape : Bool) (b : ℕ) (bs : List ℕ) → (b == 92) ≡ escape → (IsTrue (are_parts bs) → Free bs) → (IsTrue (is_escape_first bs) → Free bs) → IsTrue (cond escape (is_escape_first bs) (is_plain b && are_parts bs)) → IsTrue (other b && lacks 10 bs)
parts_by true b bs e parts escaped h = both (other b) (lacks 10 bs) (backslash b e) (escaped h)
parts_by false b bs e parts escaped h = both (other b) (lacks 10 bs) (plain_byte b (left (is_plain b) (are_parts bs) h)) (parts (right (is_plain b) (are_parts bs) h))

free_of : (bs : List ℕ) → (IsTrue (are_parts bs) → Free bs) × (IsTrue (is_escape_first bs) → Free bs)
free_of [] = (λ h. refl, λ h. refl)
free_of (b ∷ bs) =
    let more = free_of bs in (
      λ h. parts_by (b == 92) b bs refl more.0 more.1 h,
      λ h. both (other b) (lacks 10 bs) (escape_byte b (left (b == 34 || (b == 92 || b == 110)) (are_parts bs) h)) (more.0 (right (b == 34 || (b == 92 || b == 110)) (are_parts bs) h)),
    )

fault_free : (name : FaultName) → Free (fault_text name)
fault_free Error = refl
fault_free TypeError = refl
fault_free RangeError = refl
fault_free AbortError = refl
fault_free TimeoutError = refl
fault_free NotAllowedError = refl

quoted_free : (parts : List ℕ) → IsTrue (are_parts parts) → Free (34 ∷ parts ++ 34 ∷ [])
quoted_free parts h = lacks-append 10 parts (34 ∷ []) ((free_of parts).0 h) refl

number_free : (limit : ℕ) (word number : List ℕ) → limit ≤ 2 ^ 64 → Free word → IsNumber limit number → Free (word ++ number)
number_free limit word number le w h =
    let below = h.below in
    lacks-append 10 word number w (ap (lacks 10) h.whole ∙ lacks-decimal 10 h.number (omega arith) (omega (arith, below, le)))

simple_free : (bs : List ℕ) → IsSimple bs → Free bs
simple_free bs (is_unit e) = ap (lacks 10) e
simple_free bs (is_true e) = ap (lacks 10) e
simple_free bs (is_false e) = ap (lacks 10) e
simple_free bs (is_int n h e) = ap (lacks 10) e ∙ lacks-int 10 n (omega arith) h
simple_free bs (is_text parts h e) = ap (lacks 10) e ∙ quoted_free parts h
simple_free bs (is_promise number h e) = ap (lacks 10) e ∙ number_free (2 ^ 32) (codes "promise#") number (lit≤ tt) refl h
simple_free bs (is_signal number h e) = ap (lacks 10) e ∙ number_free (2 ^ 32) (codes "signal#") number (lit≤ tt) refl h
simple_free bs (is_controller number h e) = ap (lacks 10) e ∙ number_free (2 ^ 32) (codes "controller#") number (lit≤ tt) refl h
simple_free bs (is_period e) = ap (lacks 10) e
simple_free bs (is_deadline number h e) = ap (lacks 10) e ∙ number_free (2 ^ 64) (codes "deadline@") number (lit≤ tt) refl h
simple_free bs (is_fault name parts h e) =
    ap (lacks 10) e ∙ lacks-append 10 (fault_text name ++ 40 ∷ (34 ∷ parts ++ 34 ∷ [])) (41 ∷ []) (lacks-append 10 (fault_text name) (40 ∷ (34 ∷ parts ++ 34 ∷ [])) (fault_free name) (quoted_free parts h)) refl

row_free : (items : List (List ℕ)) → Each Free items → Free (join_with_byte 44 items)
row_free [] h = refl
row_free (x ∷ []) h = h.0
row_free (x ∷ y ∷ xs) h = lacks-append 10 x (44 ∷ join_with_byte 44 (y ∷ xs)) h.0 (row_free (y ∷ xs) h.1)

each_free : (deep : ℕ) (items : List (List ℕ)) → ((bs : List ℕ) → IsSpelling deep bs → Free bs) → Each (IsSpelling deep) items → Each Free items
each_free deep [] one h = tt
each_free deep (x ∷ xs) one h = (one x h.0, each_free deep xs one h.1)

inside_free : (deep : ℕ) (bs : List ℕ) → ((bs : List ℕ) → IsSpelling deep bs → Free bs) → IsRow (IsSpelling deep) bs → Free bs
inside_free deep bs one h = ap (lacks 10) h.whole ∙ row_free h.items (each_free deep h.items one h.each)

spelling_free : (deep : ℕ) (bs : List ℕ) → IsSpelling deep bs → Free bs
spelling_free zero bs h = simple_free bs h
spelling_free (suc deep) bs (inl h) = simple_free bs h
spelling_free (suc deep) bs (inr (inl h)) = ap (lacks 10) h.whole ∙ lacks-append 10 h.inside (93 ∷ []) (inside_free deep h.inside (spelling_free deep) h.row) refl
spelling_free (suc deep) bs (inr (inr h)) =
    ap (lacks 10) h.whole ∙ lacks-append 10 (codes "fn:" ++ h.name ++ 40 ∷ h.inside) (41 ∷ []) (lacks-append 10 h.name (40 ∷ h.inside) (name_free h.name h.named) (inside_free deep h.inside (spelling_free deep) h.row)) refl

pub printed_free : (bs : List ℕ) → IsPrinted bs → lacks 10 bs ≡ true
printed_free bs h = spelling_free 64 bs h.spelling
