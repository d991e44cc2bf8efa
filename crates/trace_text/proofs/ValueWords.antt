-- Simple values at the front of some bytes.
use Rattle.std.proofs.Common.{◌≡◌, ℕ, suc, ◌^◌, ◌<◌, Bool, true, false, cond, List, [], ◌∷◌, ◌++◌, Some, None, refl, sym, ap, ◌∙◌, append_assoc, arith}
use Rattle.std.specs.Prelude.{◌&&◌, ◌||◌, IsTrue, ◌==◌, codes, ℤ, FitsSigned}
use Rattle.std.specs.Int.{w64}
use Rattle.std.proofs.lemmas.Bool.{false≢true, eqb-true}
use Rattle.std.proofs.lemmas.Bool.Decides.{nat_tests}
use Rattle.page_types.specs.declared.FaultName.{FaultName}
use Rattle.page_types.specs.declared.FaultName.TheVariants.{Error, TypeError, RangeError, AbortError, TimeoutError, NotAllowedError}
use Rattle.page_parts.specs.Words.{decimal_of, int_decimal}
use Rattle.page_parts.specs.Spelling.{fault_text}
use Rattle.page_values.specs.Spellings.{is_plain, are_parts, is_escape_first, IsNumber, IsSimple, is_unit, is_true, is_false, is_int, is_text, is_promise, is_signal, is_controller, is_period, is_deadline, is_fault}
use Rattle.page_base.specs.Fields.{◌>>=◌, read_or, behind}
use Rattle.trace_text.specs.ValueEnds.{after_number, after_int, after_parts, after_escape, after_cause, after_fault, after_deadline, after_numbered, after_word, after_simple, begins_number, may_follow, ValueAt, LeavesValue}
use Rattle.trace_text.proofs.Behind.{left, right, both, leads, or_found}
use Rattle.trace_text.proofs.Cutting.{behind_whole}
use Rattle.trace_text.proofs.ValueNumbers.{number_found, number_read, int_found, int_read, int_begins}

-- ---- the parts of a text

record PartsAt (Good : List ℕ → Bool) (bytes rest : List ℕ) : Type 0 where
  pub parts : List ℕ
  pub good : IsTrue (Good parts)
  pub whole : bytes ≡ parts ++ 34 ∷ rest

part_case : (b : ℕ) (bytes rest : List ℕ) (quote backslash plain : Bool) → (b == 34) ≡ quote → (b == 92) ≡ backslash → is_plain b ≡ plain
    → (after_escape bytes ≡ Some rest → PartsAt is_escape_first bytes rest) → (after_parts bytes ≡ Some rest → PartsAt are_parts bytes rest)
    → cond quote (Some bytes) (cond backslash (after_escape bytes) (cond plain (after_parts bytes) None)) ≡ Some rest → PartsAt are_parts (b ∷ bytes) rest
part_case b bytes rest true y z e f g escape more is =
    let first : b ≡ 34 = eqb-true b 34 e in
    record { parts = []; good = refl; whole = cc }
part_case b bytes rest false true z e f g escape more is =
    let found = escape is in
    record { parts = b ∷ found.parts; good = ap (λ t. cond t (is_escape_first found.parts) (is_plain b && are_parts found.parts)) f ∙ found.good; whole = ap (λ bs. b ∷ bs) found.whole }
part_case b bytes rest false false true e f g escape more is =
    let found = more is in
    record {
      parts = b ∷ found.parts;
      good = ap (λ t. cond t (is_escape_first found.parts) (is_plain b && are_parts found.parts)) f ∙ both (is_plain b) (are_parts found.parts) g found.good;
      whole = ap (λ bs. b ∷ bs) found.whole;
    }
part_case b bytes rest false false false e f g escape more is = absurd cc

escape_case : (b : ℕ) (bytes rest : List ℕ) (known : Bool) → (b == 34 || (b == 92 || b == 110)) ≡ known → (after_parts bytes ≡ Some rest → PartsAt are_parts bytes rest)
    → cond known (after_parts bytes) None ≡ Some rest → PartsAt is_escape_first (b ∷ bytes) rest
escape_case b bytes rest true e more is =
    let found = more is in
    record { parts = b ∷ found.parts; good = both (b == 34 || (b == 92 || b == 110)) (are_parts found.parts) e found.good; whole = ap (λ bs. b ∷ bs) found.whole }
escape_case b bytes rest false e more is = absurd cc

mutual
  parts_found : (bytes rest : List ℕ) → after_parts bytes ≡ Some rest → PartsAt are_parts bytes rest
  parts_found [] rest is = absurd cc
  parts_found (b ∷ bytes) rest is = part_case b bytes rest (b == 34) (b == 92) (is_plain b) refl refl refl (escape_found bytes rest) (parts_found bytes rest) is

  escape_found : (bytes rest : List ℕ) → after_escape bytes ≡ Some rest → PartsAt is_escape_first bytes rest
  escape_found [] rest is = absurd cc
  escape_found (b ∷ bytes) rest is = escape_case b bytes rest (b == 34 || (b == 92 || b == 110)) refl (parts_found bytes rest) is

read_case : (b : ℕ) (bs rest : List ℕ) (backslash : Bool) → (b == 92) ≡ backslash → (IsTrue (is_escape_first bs) → after_escape (bs ++ 34 ∷ rest) ≡ Some rest) → (IsTrue (are_parts bs) → after_parts (bs ++ 34 ∷ rest) ≡ Some rest)
    → IsTrue (cond backslash (is_escape_first bs) (is_plain b && are_parts bs)) → after_parts ((b ∷ bs) ++ 34 ∷ rest) ≡ Some rest
read_case b bs rest true e escape more good =
    let left_bytes : List ℕ = bs ++ 34 ∷ rest in
    let quote : (b == 34) ≡ false = grind (arith, nat_tests) in
    ap (λ t. cond t (Some left_bytes) (cond (b == 92) (after_escape left_bytes) (cond (is_plain b) (after_parts left_bytes) None))) quote
    ∙ ap (λ t. cond t (after_escape left_bytes) (cond (is_plain b) (after_parts left_bytes) None)) e ∙ escape good
read_case b bs rest false e escape more good =
    let left_bytes : List ℕ = bs ++ 34 ∷ rest in
    let plain : is_plain b ≡ true = left (is_plain b) (are_parts bs) good in
    let quote : (b == 34) ≡ false = grind (arith, nat_tests) in
    ap (λ t. cond t (Some left_bytes) (cond (b == 92) (after_escape left_bytes) (cond (is_plain b) (after_parts left_bytes) None))) quote
    ∙ ap (λ t. cond t (after_escape left_bytes) (cond (is_plain b) (after_parts left_bytes) None)) e
    ∙ ap (λ t. cond t (after_parts left_bytes) None) plain ∙ more (right (is_plain b) (are_parts bs) good)

mutual
  parts_read : (parts rest : List ℕ) → IsTrue (are_parts parts) → after_parts (parts ++ 34 ∷ rest) ≡ Some rest
  parts_read [] rest good = refl
  parts_read (b ∷ bs) rest good = read_case b bs rest (b == 92) refl (escape_read bs rest) (parts_read bs rest) good

  escape_read : (parts rest : List ℕ) → IsTrue (is_escape_first parts) → after_escape (parts ++ 34 ∷ rest) ≡ Some rest
  escape_read [] rest good = absurd (false≢true good)
  escape_read (b ∷ bs) rest good =
      let known : Bool = b == 34 || (b == 92 || b == 110) in
      ap (λ t. cond t (after_parts (bs ++ 34 ∷ rest)) None) (left known (are_parts bs) good) ∙ parts_read bs rest (right known (are_parts bs) good)

-- ---- what is read is spelled

-- a word and nothing else
word_at : (word bytes more rest : List ℕ) → IsSimple word → behind word bytes ≡ Some more → Some more ≡ Some rest → ValueAt IsSimple bytes rest
word_at word bytes more rest simple start is =
    let same : more ≡ rest = cc in
    record { spelling = word; spells = simple; whole = behind_whole word bytes more start ∙ ap (λ r. word ++ r) same }

-- a word and what is spelled behind it
spelled_at : (word bytes more text rest : List ℕ) → IsSimple (word ++ text) → behind word bytes ≡ Some more → more ≡ text ++ rest → ValueAt IsSimple bytes rest
spelled_at word bytes more text rest simple start is =
    record { spelling = word ++ text; spells = simple; whole = behind_whole word bytes more start ∙ ap (λ r. word ++ r) is ∙ sym (append_assoc word text rest) }

text_at : (bytes more rest : List ℕ) → behind (codes "\"") bytes ≡ Some more → after_parts more ≡ Some rest → ValueAt IsSimple bytes rest
text_at bytes more rest start is =
    let found = parts_found more rest is in
    spelled_at (codes "\"") bytes more (found.parts ++ 34 ∷ []) rest (is_text found.parts found.good refl) start (found.whole ∙ sym (append_assoc found.parts (34 ∷ []) rest))

numbered_at : (word : List ℕ) (most : ℕ) (bytes more rest : List ℕ) → most < 2 ^ 64 → ((number : List ℕ) → IsNumber (suc most) number → IsSimple (word ++ number)) → behind word bytes ≡ Some more → after_number most more ≡ Some rest → ValueAt IsSimple bytes rest
numbered_at word most bytes more rest limit simple start is =
    let found = number_found most more rest limit is in
    let small = found.small in
    spelled_at word bytes more (decimal_of found.number) rest (simple (decimal_of found.number) (record { number = found.number; below = omega arith; whole = refl })) start found.whole

record CauseAt (bytes rest : List ℕ) : Type 0 where
  pub parts : List ℕ
  pub good : IsTrue (are_parts parts)
  pub whole : bytes ≡ (40 ∷ (34 ∷ parts ++ 34 ∷ []) ++ 41 ∷ []) ++ rest

cause_whole : (bytes inside after parts rest : List ℕ) → bytes ≡ 40 ∷ 34 ∷ inside → inside ≡ parts ++ 34 ∷ after → after ≡ 41 ∷ rest → bytes ≡ (40 ∷ (34 ∷ parts ++ 34 ∷ []) ++ 41 ∷ []) ++ rest
cause_whole bytes inside after parts rest e f g =
    let inner : parts ++ 34 ∷ 41 ∷ rest ≡ ((parts ++ 34 ∷ []) ++ 41 ∷ []) ++ rest = sym (append_assoc (parts ++ 34 ∷ []) (41 ∷ []) rest ∙ append_assoc parts (34 ∷ []) (41 ∷ rest)) in
    e ∙ ap (λ xs. 40 ∷ 34 ∷ xs) (f ∙ ap (λ xs. parts ++ 34 ∷ xs) g ∙ inner)

cause_found : (bytes rest : List ℕ) → after_cause bytes ≡ Some rest → CauseAt bytes rest
unfolding after_cause
cause_found bytes rest is =
    let last = leads (behind (codes "(\"") bytes >>= after_parts) (behind (codes ")")) rest is in
    let first = leads (behind (codes "(\"") bytes) after_parts last.between last.first in
    let text = parts_found first.between last.between first.second in
    record {
      parts = text.parts;
      good = text.good;
      whole = cause_whole bytes first.between last.between text.parts rest (behind_whole (codes "(\"") bytes first.between first.first) text.whole (behind_whole (codes ")") last.between rest last.second);
    }

fault_at : (name : FaultName) (bytes more rest : List ℕ) → behind (fault_text name) bytes ≡ Some more → after_cause more ≡ Some rest → ValueAt IsSimple bytes rest
fault_at name bytes more rest start is =
    let found = cause_found more rest is in
    let quoted : List ℕ = 40 ∷ (34 ∷ found.parts ++ 34 ∷ []) in
    spelled_at (fault_text name) bytes more (quoted ++ 41 ∷ []) rest (is_fault name found.parts found.good (sym (append_assoc (fault_text name) quoted (41 ∷ [])))) start found.whole

fault_found : (bytes rest : List ℕ) → after_fault bytes ≡ Some rest → ValueAt IsSimple bytes rest
unfolding after_fault
fault_found bytes rest is =
    or_found (behind (codes "Error") bytes) after_cause _ rest (λ more e f. fault_at Error bytes more rest e f)
    (or_found (behind (codes "TypeError") bytes) after_cause _ rest (λ more e f. fault_at TypeError bytes more rest e f)
    (or_found (behind (codes "RangeError") bytes) after_cause _ rest (λ more e f. fault_at RangeError bytes more rest e f)
    (or_found (behind (codes "AbortError") bytes) after_cause _ rest (λ more e f. fault_at AbortError bytes more rest e f)
    (or_found (behind (codes "TimeoutError") bytes) after_cause _ rest (λ more e f. fault_at TimeoutError bytes more rest e f)
    (or_found (behind (codes "NotAllowedError") bytes) after_cause None rest (λ more e f. fault_at NotAllowedError bytes more rest e f) (λ e. absurd cc)))))) is

time_whole : (bytes more number text rest : List ℕ) → bytes ≡ codes "deadline" ++ more → more ≡ codes "@" ++ number → number ≡ text ++ rest → bytes ≡ (codes "deadline@" ++ text) ++ rest
time_whole bytes more number text rest e f g = e ∙ ap (λ r. codes "deadline" ++ r) (f ∙ ap (λ r. codes "@" ++ r) g)

deadline_at : (bytes more rest : List ℕ) → behind (codes "deadline") bytes ≡ Some more → after_deadline more ≡ Some rest → ValueAt IsSimple bytes rest
unfolding after_deadline
deadline_at bytes more rest start is =
    or_found (behind (codes "@") more) (after_number 18446744073709551615) (Some more) rest
    (λ number e f.
    let found = number_found 18446744073709551615 number rest (omega arith) f in
    let small = found.small in
    record {
      spelling = codes "deadline@" ++ decimal_of found.number;
      spells = is_deadline (decimal_of found.number) (record { number = found.number; below = omega arith; whole = refl }) refl;
      whole = time_whole bytes more number (decimal_of found.number) rest (behind_whole (codes "deadline") bytes more start) (behind_whole (codes "@") more number e) found.whole;
    })
    (λ e. word_at (codes "deadline") bytes more rest (is_period refl) start e) is

below_32 : {P : List ℕ → Type 0} → ((number : List ℕ) → IsNumber (2 ^ 32) number → P number) → (number : List ℕ) → IsNumber (suc 4294967295) number → P number
below_32 simple number is = let below = is.below in simple number (record { number = is.number; below = omega arith; whole = is.whole })

numbered_found : (bytes rest : List ℕ) → after_numbered bytes ≡ Some rest → ValueAt IsSimple bytes rest
unfolding after_numbered
numbered_found bytes rest is =
    or_found (behind (codes "promise#") bytes) (after_number 4294967295) _ rest
    (λ more e f. numbered_at (codes "promise#") 4294967295 bytes more rest (omega arith) (below_32 {P = λ n. IsSimple (codes "promise#" ++ n)} (λ n p. is_promise n p refl)) e f)
    (or_found (behind (codes "signal#") bytes) (after_number 4294967295) _ rest
    (λ more e f. numbered_at (codes "signal#") 4294967295 bytes more rest (omega arith) (below_32 {P = λ n. IsSimple (codes "signal#" ++ n)} (λ n p. is_signal n p refl)) e f)
    (or_found (behind (codes "controller#") bytes) (after_number 4294967295) _ rest
    (λ more e f. numbered_at (codes "controller#") 4294967295 bytes more rest (omega arith) (below_32 {P = λ n. IsSimple (codes "controller#" ++ n)} (λ n p. is_controller n p refl)) e f)
    (or_found (behind (codes "deadline") bytes) after_deadline (after_fault bytes) rest (λ more e f. deadline_at bytes more rest e f) (fault_found bytes rest)))) is

word_found : (bytes rest : List ℕ) → after_word bytes ≡ Some rest → ValueAt IsSimple bytes rest
unfolding after_word
word_found bytes rest is =
    or_found (behind (codes "unit") bytes) Some _ rest (λ more e f. word_at (codes "unit") bytes more rest (is_unit refl) e f)
    (or_found (behind (codes "true") bytes) Some _ rest (λ more e f. word_at (codes "true") bytes more rest (is_true refl) e f)
    (or_found (behind (codes "false") bytes) Some _ rest (λ more e f. word_at (codes "false") bytes more rest (is_false refl) e f)
    (or_found (behind (codes "\"") bytes) after_parts (after_numbered bytes) rest (λ more e f. text_at bytes more rest e f) (numbered_found bytes rest)))) is

simple_by : (bytes rest : List ℕ) (number : Bool) → cond number (after_int bytes) (after_word bytes) ≡ Some rest → ValueAt IsSimple bytes rest
simple_by bytes rest true is =
    let found = int_found bytes rest is in
    record { spelling = int_decimal found.number; spells = is_int found.number found.fits refl; whole = found.whole }
simple_by bytes rest false is = word_found bytes rest is

simple_found : (bytes rest : List ℕ) → after_simple bytes ≡ Some rest → ValueAt IsSimple bytes rest
unfolding after_simple
simple_found bytes rest is = simple_by bytes rest (begins_number bytes) is

-- ---- what is spelled is read

no_time : (rest : List ℕ) → IsTrue (may_follow rest) → behind (codes "@") rest ≡ None
unfolding behind
no_time [] follows = refl
no_time (b ∷ rest) follows = let other : (b == 64) ≡ false = grind (arith, nat_tests) in rw other refl

cause_read : (parts rest : List ℕ) → IsTrue (are_parts parts) → after_cause ((40 ∷ (34 ∷ parts ++ 34 ∷ []) ++ 41 ∷ []) ++ rest) ≡ Some rest
unfolding after_cause behind
cause_read parts rest good =
    let inner : ((parts ++ 34 ∷ []) ++ 41 ∷ []) ++ rest ≡ parts ++ 34 ∷ 41 ∷ rest = append_assoc (parts ++ 34 ∷ []) (41 ∷ []) rest ∙ append_assoc parts (34 ∷ []) (41 ∷ rest) in
    ap (λ xs. after_parts xs >>= behind (codes ")")) inner ∙ ap (λ o. o >>= behind (codes ")")) (parts_read parts (41 ∷ rest) good)

fault_read : (name : FaultName) (text rest : List ℕ) → after_cause text ≡ Some rest → after_simple (fault_text name ++ text) ≡ Some rest
unfolding after_simple after_word after_numbered after_fault behind
fault_read Error text rest e = e
fault_read TypeError text rest e = e
fault_read RangeError text rest e = e
fault_read AbortError text rest e = e
fault_read TimeoutError text rest e = e
fault_read NotAllowedError text rest e = e

text_read : (parts rest : List ℕ) → IsTrue (are_parts parts) → after_simple ((34 ∷ parts ++ 34 ∷ []) ++ rest) ≡ Some rest
unfolding after_simple after_word behind
text_read parts rest good = ap after_parts (append_assoc parts (34 ∷ []) rest) ∙ parts_read parts rest good

unit_read : (rest : List ℕ) → after_simple (codes "unit" ++ rest) ≡ Some rest
unfolding after_simple after_word behind
unit_read rest = refl

true_read : (rest : List ℕ) → after_simple (codes "true" ++ rest) ≡ Some rest
unfolding after_simple after_word behind
true_read rest = refl

false_read : (rest : List ℕ) → after_simple (codes "false" ++ rest) ≡ Some rest
unfolding after_simple after_word behind
false_read rest = refl

promise_read : (text rest : List ℕ) → after_number 4294967295 text ≡ Some rest → after_simple (codes "promise#" ++ text) ≡ Some rest
unfolding after_simple after_word after_numbered behind
promise_read text rest e = e

signal_read : (text rest : List ℕ) → after_number 4294967295 text ≡ Some rest → after_simple (codes "signal#" ++ text) ≡ Some rest
unfolding after_simple after_word after_numbered behind
signal_read text rest e = e

controller_read : (text rest : List ℕ) → after_number 4294967295 text ≡ Some rest → after_simple (codes "controller#" ++ text) ≡ Some rest
unfolding after_simple after_word after_numbered behind
controller_read text rest e = e

period_read : (rest : List ℕ) → IsTrue (may_follow rest) → after_simple (codes "deadline" ++ rest) ≡ Some rest
unfolding after_simple after_word after_numbered after_deadline behind
period_read rest follows = ap (λ o. read_or o (after_number 18446744073709551615) (Some rest)) (no_time rest follows)

deadline_read : (text rest : List ℕ) → after_number 18446744073709551615 text ≡ Some rest → after_simple (codes "deadline@" ++ text) ≡ Some rest
unfolding after_simple after_word after_numbered after_deadline behind
deadline_read text rest e = e

int_simple : (z : ℤ) (rest : List ℕ) → FitsSigned w64 z → IsTrue (may_follow rest) → after_simple (int_decimal z ++ rest) ≡ Some rest
unfolding after_simple
int_simple z rest fits follows =
    let bytes : List ℕ = int_decimal z ++ rest in
    ap (λ t. cond t (after_int bytes) (after_word bytes)) (int_begins z rest fits) ∙ int_read z rest fits follows

number_text : (limit most : ℕ) (number rest : List ℕ) → limit ≡ suc most → most < 2 ^ 64 → IsNumber limit number → IsTrue (may_follow rest) → after_number most (number ++ rest) ≡ Some rest
number_text limit most number rest e small is follows =
    let below = is.below in
    ap (λ ds. after_number most (ds ++ rest)) is.whole ∙ number_read most is.number rest (omega arith) (omega arith) follows

simple_read : (spelling rest : List ℕ) → IsSimple spelling → IsTrue (may_follow rest) → after_simple (spelling ++ rest) ≡ Some rest
simple_read s rest (is_unit e) follows = ap (λ w. after_simple (w ++ rest)) e ∙ unit_read rest
simple_read s rest (is_true e) follows = ap (λ w. after_simple (w ++ rest)) e ∙ true_read rest
simple_read s rest (is_false e) follows = ap (λ w. after_simple (w ++ rest)) e ∙ false_read rest
simple_read s rest (is_int n fits e) follows = ap (λ w. after_simple (w ++ rest)) e ∙ int_simple n rest fits follows
simple_read s rest (is_text parts good e) follows = ap (λ w. after_simple (w ++ rest)) e ∙ text_read parts rest good
simple_read s rest (is_promise number is e) follows = ap (λ w. after_simple (w ++ rest)) e ∙ promise_read (number ++ rest) rest (number_text (2 ^ 32) 4294967295 number rest (omega arith) (omega arith) is follows)
simple_read s rest (is_signal number is e) follows = ap (λ w. after_simple (w ++ rest)) e ∙ signal_read (number ++ rest) rest (number_text (2 ^ 32) 4294967295 number rest (omega arith) (omega arith) is follows)
simple_read s rest (is_controller number is e) follows = ap (λ w. after_simple (w ++ rest)) e ∙ controller_read (number ++ rest) rest (number_text (2 ^ 32) 4294967295 number rest (omega arith) (omega arith) is follows)
simple_read s rest (is_period e) follows = ap (λ w. after_simple (w ++ rest)) e ∙ period_read rest follows
simple_read s rest (is_deadline number is e) follows = ap (λ w. after_simple (w ++ rest)) e ∙ deadline_read (number ++ rest) rest (number_text (2 ^ 64) 18446744073709551615 number rest (omega arith) (omega arith) is follows)
simple_read s rest (is_fault name parts good e) follows =
    let quoted : List ℕ = 40 ∷ (34 ∷ parts ++ 34 ∷ []) in
    let cause : List ℕ = quoted ++ 41 ∷ [] in
    ap (λ w. after_simple (w ++ rest)) (e ∙ append_assoc (fault_text name) quoted (41 ∷ [])) ∙ ap after_simple (append_assoc (fault_text name) cause rest) ∙ fault_read name (cause ++ rest) rest (cause_read parts rest good)

pub simple_leaves : (bytes : List ℕ) → LeavesValue IsSimple bytes (after_simple bytes)
simple_leaves bytes = record {
  sound = λ rest is. simple_found bytes rest is;
  complete = λ rest at follows. ap after_simple at.whole ∙ simple_read at.spelling rest at.spells follows;
}
