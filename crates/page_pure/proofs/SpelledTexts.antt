-- A spelling is a text.
use Rattle.std.proofs.Common.{◌≡◌, ℕ, zero, suc, ◌+◌, ◌*◌, ◌^◌, ◌/◌, ◌%◌, ◌<◌, ◌≤◌, Bool, true, false, cond, List, [], ◌∷◌, ◌++◌, inl, inr, refl, sym, arith, nat_lt, length, lit≤, ap, ◌∙◌, add-one}
use Rattle.std.specs.Prelude.{◌&&◌, ◌||◌, IsTrue, ◌==◌, nat_le, codes, pos, negsuc, FitsSigned, ℤ}
use Rattle.std.specs.List.{join_with_byte, list_all}
use Rattle.std.specs.Int.{w64}
use Rattle.std.proofs.lemmas.Bool.{false≢true}
use Rattle.std.proofs.lemmas.Bool.Decides.{nat_tests}
use Rattle.std.proofs.Math.Nat.{pow-succ'}
use Rattle.page_types.specs.declared.FaultName.{FaultName}
use Rattle.page_types.specs.declared.FaultName.TheVariants.{Error, TypeError, RangeError, AbortError, TimeoutError, NotAllowedError}
use Rattle.page_parts.proofs.Decimals.{below-own_power}
use Rattle.page_parts.specs.Words.{digit_or_more, digits, decimal_of, int_decimal}
use Rattle.page_parts.specs.Spelling.{fault_text}
use Rattle.page_values.specs.Names.{is_letter, is_name_byte, is_name}
use Rattle.page_values.specs.Texts.{is_text as is_text_of, is_text_byte}
use Rattle.page_values.specs.Spellings.{is_plain, are_parts, is_escape_first, IsNumber, IsSimple, is_unit, is_true, is_false, is_int, is_text, is_promise, is_signal, is_controller, is_period, is_deadline, is_fault, Each, IsSpelling, IsRow}
use Rattle.page_values.proofs.Texts.{is_text-append}

left : (a b : Bool) → IsTrue (a && b) → IsTrue a
left true b p = refl
left false b p = absurd (false≢true p)

right : (a b : Bool) → IsTrue (a && b) → IsTrue b
right true b p = p
right false b p = absurd (false≢true p)

both : (a b : Bool) → IsTrue a → IsTrue b → IsTrue (a && b)
both true b p q = q
both false b p q = absurd (false≢true p)

-- a byte from 0x20 to 0x7E
text_byte : (b : ℕ) → 32 ≤ b → b ≤ 126 → IsTrue (is_text_byte b)
text_byte b p q = grind (arith, nat_tests)

last_digit : (n : ℕ) → n < 10 → IsTrue (is_text_of ((48 + n) ∷ []))
last_digit n h = both (is_text_byte (48 + n)) true (text_byte (48 + n) (omega arith) (omega arith)) refl

power : (most : ℕ) → 10 ^ (suc most + 1) ≡ 10 * 10 ^ (most + 1)
power most = ap (λ k. 10 ^ k) (add-one (suc most)) ∙ pow-succ' 10 (suc most) ∙ ap (λ k. 10 * 10 ^ k) (sym (add-one most))

tenth : (n p q : ℕ) → q ≡ 10 * p → n < q → n / 10 < p
tenth n p q e h = omega arith

digits_step : (small : Bool) (most n : ℕ) → nat_lt n 10 ≡ small → (n / 10 < 10 ^ (most + 1) → IsTrue (is_text_of (digits most (n / 10)))) → n < 10 ^ (suc most + 1) → IsTrue (is_text_of (digit_or_more small (digits most) n))
digits_step true most n e more h = last_digit n (grind (arith, nat_tests))
digits_step false most n e more h =
    is_text-append (digits most (n / 10)) ((48 + n % 10) ∷ []) (more (tenth n (10 ^ (most + 1)) (10 ^ (suc most + 1)) (power most) h)) (last_digit (n % 10) (omega arith))

digits_text : (most n : ℕ) → n < 10 ^ (most + 1) → IsTrue (is_text_of (digits most n))
digits_text zero n h = last_digit n (omega (arith, h))
digits_text (suc most) n h = digits_step (nat_lt n 10) most n refl (digits_text most (n / 10)) h

decimal_text : (n : ℕ) → n < 2 ^ 64 → IsTrue (is_text_of (decimal_of n))
decimal_text n h = digits_text n n (below-own_power n)

int_text : (z : ℤ) → FitsSigned w64 z → IsTrue (is_text_of (int_decimal z))
int_text (pos n) h = decimal_text n (omega (arith, h))
int_text (negsuc n) h = both (is_text_byte 45) (is_text_of (decimal_of (suc n))) refl (decimal_text (suc n) (omega (arith, h)))

name_byte : (b : ℕ) → IsTrue (is_name_byte b) → IsTrue (is_text_byte b)
name_byte b h = grind (arith, nat_tests)

name_bytes : (bs : List ℕ) → IsTrue (list_all is_name_byte bs) → IsTrue (is_text_of bs)
name_bytes [] h = refl
name_bytes (b ∷ bs) h = both (is_text_byte b) (is_text_of bs) (name_byte b (left (is_name_byte b) (list_all is_name_byte bs) h)) (name_bytes bs (right (is_name_byte b) (list_all is_name_byte bs) h))

letter_name : (b : ℕ) → IsTrue (is_letter b) → IsTrue (is_name_byte b)
letter_name b h = rw h refl

name_text : (bs : List ℕ) → IsTrue (is_name bs) → IsTrue (is_text_of bs)
name_text [] h = refl
name_text (b ∷ bs) h =
    let rest = right (is_letter b) (list_all is_name_byte bs && nat_le (length bs) 63) h in
    both (is_text_byte b) (is_text_of bs) (name_byte b (letter_name b (left (is_letter b) (list_all is_name_byte bs && nat_le (length bs) 63) h))) (name_bytes bs (left (list_all is_name_byte bs) (nat_le (length bs) 63) rest))

plain_byte : (b : ℕ) → IsTrue (is_plain b) → IsTrue (is_text_byte b)
plain_byte b h = grind (arith, nat_tests)

escape_byte : (b : ℕ) → IsTrue (b == 34 || (b == 92 || b == 110)) → IsTrue (is_text_byte b)
escape_byte b h = grind (arith, nat_tests)

backslash : (b : ℕ) → (b == 92) ≡ true → IsTrue (is_text_byte b)
backslash b h = grind (arith, nat_tests)

parts_by : (escape : Bool) (b : ℕ) (bs : List ℕ) → (b == 92) ≡ escape → (IsTrue (are_parts bs) → IsTrue (is_text_of bs)) → (IsTrue (is_escape_first bs) → IsTrue (is_text_of bs)) → IsTrue (cond escape (is_escape_first bs) (is_plain b && are_parts bs)) → IsTrue (is_text_byte b && is_text_of bs)
parts_by true b bs e parts escaped h = both (is_text_byte b) (is_text_of bs) (backslash b e) (escaped h)
parts_by false b bs e parts escaped h = both (is_text_byte b) (is_text_of bs) (plain_byte b (left (is_plain b) (are_parts bs) h)) (parts (right (is_plain b) (are_parts bs) h))

texts_of : (bs : List ℕ) → (IsTrue (are_parts bs) → IsTrue (is_text_of bs)) × (IsTrue (is_escape_first bs) → IsTrue (is_text_of bs))
texts_of [] = (λ h. refl, λ h. refl)
texts_of (b ∷ bs) =
    let more = texts_of bs in (
      λ h. parts_by (b == 92) b bs refl more.0 more.1 h,
      λ h. both (is_text_byte b) (is_text_of bs) (escape_byte b (left (b == 34 || (b == 92 || b == 110)) (are_parts bs) h)) (more.0 (right (b == 34 || (b == 92 || b == 110)) (are_parts bs) h)),
    )

parts_text : (bs : List ℕ) → IsTrue (are_parts bs) → IsTrue (is_text_of bs)
parts_text bs = (texts_of bs).0

fault_word : (name : FaultName) → IsTrue (is_text_of (fault_text name))
fault_word Error = refl
fault_word TypeError = refl
fault_word RangeError = refl
fault_word AbortError = refl
fault_word TimeoutError = refl
fault_word NotAllowedError = refl

quoted_text : (parts : List ℕ) → IsTrue (are_parts parts) → IsTrue (is_text_of (34 ∷ parts ++ 34 ∷ []))
quoted_text parts h = is_text-append parts (34 ∷ []) (parts_text parts h) refl

number_text : (limit : ℕ) (word number : List ℕ) → limit ≤ 2 ^ 64 → IsTrue (is_text_of word) → IsNumber limit number → IsTrue (is_text_of (word ++ number))
number_text limit word number le w h = let below = h.below in rw h.whole (is_text-append word (decimal_of h.number) w (decimal_text h.number (omega (arith, below, le))))

simple_text : (bs : List ℕ) → IsSimple bs → IsTrue (is_text_of bs)
simple_text bs (is_unit e) = rw e refl
simple_text bs (is_true e) = rw e refl
simple_text bs (is_false e) = rw e refl
simple_text bs (is_int n h e) = rw e (int_text n h)
simple_text bs (is_text parts h e) = rw e (quoted_text parts h)
simple_text bs (is_promise number h e) = rw e (number_text (2 ^ 32) (codes "promise#") number (lit≤ tt) refl h)
simple_text bs (is_signal number h e) = rw e (number_text (2 ^ 32) (codes "signal#") number (lit≤ tt) refl h)
simple_text bs (is_controller number h e) = rw e (number_text (2 ^ 32) (codes "controller#") number (lit≤ tt) refl h)
simple_text bs (is_period e) = rw e refl
simple_text bs (is_deadline number h e) = rw e (number_text (2 ^ 64) (codes "deadline@") number (lit≤ tt) refl h)
simple_text bs (is_fault name parts h e) =
    rw e (is_text-append (fault_text name ++ 40 ∷ (34 ∷ parts ++ 34 ∷ [])) (41 ∷ []) (is_text-append (fault_text name) (40 ∷ (34 ∷ parts ++ 34 ∷ [])) (fault_word name) (quoted_text parts h)) refl)

row_text : (items : List (List ℕ)) → Each (λ x. IsTrue (is_text_of x)) items → IsTrue (is_text_of (join_with_byte 44 items))
row_text [] h = refl
row_text (x ∷ []) h = h.0
row_text (x ∷ y ∷ xs) h = is_text-append x (44 ∷ join_with_byte 44 (y ∷ xs)) h.0 (row_text (y ∷ xs) h.1)

each_text : (deep : ℕ) (items : List (List ℕ)) → ((bs : List ℕ) → IsSpelling deep bs → IsTrue (is_text_of bs)) → Each (IsSpelling deep) items → Each (λ x. IsTrue (is_text_of x)) items
each_text deep [] one h = tt
each_text deep (x ∷ xs) one h = (one x h.0, each_text deep xs one h.1)

inside_text : (deep : ℕ) (bs : List ℕ) → ((bs : List ℕ) → IsSpelling deep bs → IsTrue (is_text_of bs)) → IsRow (IsSpelling deep) bs → IsTrue (is_text_of bs)
inside_text deep bs one h = rw h.whole (row_text h.items (each_text deep h.items one h.each))

pub spelling_text : (deep : ℕ) (bs : List ℕ) → IsSpelling deep bs → IsTrue (is_text_of bs)
spelling_text zero bs h = simple_text bs h
spelling_text (suc deep) bs (inl h) = simple_text bs h
spelling_text (suc deep) bs (inr (inl h)) = rw h.whole (is_text-append h.inside (93 ∷ []) (inside_text deep h.inside (spelling_text deep) h.row) refl)
spelling_text (suc deep) bs (inr (inr h)) =
    rw h.whole (is_text-append (codes "fn:" ++ h.name ++ 40 ∷ h.inside) (41 ∷ []) (is_text-append (codes "fn:" ++ h.name) (40 ∷ h.inside) (is_text-append (codes "fn:") h.name refl (name_text h.name h.named)) (inside_text deep h.inside (spelling_text deep) h.row)) refl)
