-- The text of calls is the compact text of JSON.
use Rattle.std.proofs.Common.{◌≡◌, ℕ, ◌-◌, Bool, true, false, List, [], ◌∷◌, ◌++◌, All, refl, sym, ap, ◌∙◌, arith, append_assoc}
use Rattle.std.specs.Prelude.{◌==◌, IsTrue, codes, nat_lt}
use Rattle.std.specs.Fmt.{decimal}
use Rattle.std.proofs.lemmas.Bool.{eqb-true}
use Rattle.std.proofs.lemmas.Bool.Decides.{nat_tests}
use Rattle.std.proofs.lemmas.Fmt.{decimal_digit}
use Rattle.std.proofs.lemmas.List.Elements.{All-head, All-tail}
use Rattle.json.specs.Print.{escape_letter, escape_byte, escape, quoted as json_quoted}
use Rattle.serde_json.specs.Data.{Items}
use Rattle.serde_json.specs.Written.{compact_text, items_text}
use Rattle.page_parts.specs.Words.{decimal_of}
use Rattle.page_parts.specs.Spelling.{escaped, all_escaped, quoted}
use Rattle.page_values.specs.Texts.{is_text, is_text_byte}
use Rattle.trace_text.proofs.Behind.{left, right}
use Rattle.page_values.proofs.OneDecimal.{decimal_is}
use Rattle.trace_export.specs.Export.{Span, IsSpan, span_text, spans_text, more_spans_text, export_text}
use Rattle.trace_export.specs.Json.{json_of_span, items_of, json_of}
use Rattle.trace_export.proofs.ReadSpans.{flat}

no_letter : (b : ℕ) → (b == 34) ≡ false → (b == 92) ≡ false → (b == 10) ≡ false → IsTrue (is_text_byte b) → escape_letter b ≡ 0
no_letter b e f g p =
    let h : (b == 8) ≡ false = grind (arith, nat_tests) in
    let i : (b == 12) ≡ false = grind (arith, nat_tests) in
    let j : (b == 13) ≡ false = grind (arith, nat_tests) in
    let k : (b == 9) ≡ false = grind (arith, nat_tests) in
    rw (e, f, h, i, g, j, k) refl

byte_same : (b : ℕ) (quote backslash newline : Bool) → (b == 34) ≡ quote → (b == 92) ≡ backslash → (b == 10) ≡ newline → IsTrue (is_text_byte b) → escape_byte b ≡ escaped b
unfolding escape_byte
byte_same b true y z e f g p = let same : b ≡ 34 = eqb-true b 34 e in rw same refl
byte_same b false true z e f g p = let same : b ≡ 92 = eqb-true b 92 f in rw same refl
byte_same b false false true e f g p = let same : b ≡ 10 = eqb-true b 10 g in rw same refl
byte_same b false false false e f g p =
    let none = no_letter b e f g p in
    let high : nat_lt b 32 ≡ false = grind (arith, nat_tests) in
    let itself : escaped b ≡ b ∷ [] = rw (e, f, g) refl in
    rw (none, high, itself) refl

text_same : (bs : List ℕ) → IsTrue (is_text bs) → escape bs ≡ all_escaped bs
text_same [] p = refl
text_same (b ∷ bs) p =
    ap (λ xs. xs ++ escape bs) (byte_same b (b == 34) (b == 92) (b == 10) refl refl refl (left (is_text_byte b) (is_text bs) p))
    ∙ ap (λ xs. escaped b ++ xs) (text_same bs (right (is_text_byte b) (is_text bs) p))

quoted_same : (bs : List ℕ) → IsTrue (is_text bs) → json_quoted bs ≡ quoted bs
quoted_same bs p = ap (λ xs. 34 ∷ (xs ++ 34 ∷ [])) (text_same bs p)

nested : (a b c d e f g h i j more : List ℕ) → (a ++ (b ++ (c ++ (d ++ (e ++ (f ++ (g ++ (h ++ (i ++ j))))))))) ++ more ≡ a ++ (b ++ (c ++ (d ++ (e ++ (f ++ (g ++ (h ++ (i ++ (j ++ more)))))))))
nested a b c d e f g h i j more = simp append_assoc

-- the members of a call: its length, its name, the number 1 and its begin, and what follows the call
members : (a b one c more : List ℕ) → List ℕ
members a b one c more =
    codes "{\"dur\":" ++ (a ++ (codes ",\"name\":" ++ (b ++ (codes ",\"ph\":\"X\",\"pid\":" ++ (one ++ (codes ",\"tid\":" ++ (one ++ (codes ",\"ts\":" ++ (c ++ (codes "}" ++ more))))))))))

json_members : (span : Span) (more : List ℕ) → compact_text (json_of_span span) ++ more ≡ members (decimal (span.end - span.begin)) (json_quoted span.name) (decimal 1) (decimal span.begin) more
unfolding members escape_byte
json_members span more =
    ap (λ xs. codes "{\"dur\":" ++ xs)
    (nested (decimal (span.end - span.begin)) (codes ",\"name\":") (json_quoted span.name) (codes ",\"ph\":\"X\",\"pid\":") (decimal 1) (codes ",\"tid\":") (decimal 1)
    (codes ",\"ts\":") (decimal span.begin) (codes "}") more)

pub span_same : (span : Span) (more : List ℕ) → IsSpan span → compact_text (json_of_span span) ++ more ≡ span_text span ++ more
unfolding members
span_same span more fit =
    let order = fit.order in
    let below = fit.below in
    let one : decimal 1 ≡ 49 ∷ [] = decimal_digit 1 (omega arith) in
    json_members span more
    ∙ ap (λ a. members a (json_quoted span.name) (decimal 1) (decimal span.begin) more) (sym (decimal_is (span.end - span.begin) (omega arith)))
    ∙ ap (λ b. members (decimal_of (span.end - span.begin)) b (decimal 1) (decimal span.begin) more) (quoted_same span.name fit.text)
    ∙ ap (λ o. members (decimal_of (span.end - span.begin)) (quoted span.name) o (decimal span.begin) more) one
    ∙ ap (λ c. members (decimal_of (span.end - span.begin)) (quoted span.name) (49 ∷ []) c more) (sym (decimal_is span.begin (omega arith)))
    ∙ sym (flat (codes "{\"dur\":") (decimal_of (span.end - span.begin)) (codes ",\"name\":") (quoted span.name) (codes ",\"ph\":\"X\",\"pid\":1,\"tid\":1,\"ts\":") (decimal_of span.begin) (codes "}") more)

-- calls, each behind a comma
more_same : (spans : List Span) (tail : List ℕ) → All IsSpan spans → items_text true (items_of spans) ++ tail ≡ more_spans_text spans ++ 93 ∷ tail
more_same [] tail fit = refl
more_same (span ∷ spans) tail fit =
    ap (λ xs. 44 ∷ xs)
    (append_assoc (compact_text (json_of_span span)) (items_text true (items_of spans)) tail
    ∙ span_same span (items_text true (items_of spans) ++ tail) (All-head IsSpan span spans fit)
    ∙ ap (λ xs. span_text span ++ xs) (more_same spans tail (All-tail IsSpan span spans fit))
    ∙ sym (append_assoc (span_text span) (more_spans_text spans) (93 ∷ tail)))

all_same : (spans : List Span) (tail : List ℕ) → All IsSpan spans → items_text false (items_of spans) ++ tail ≡ spans_text spans ++ 93 ∷ tail
all_same [] tail fit = refl
all_same (span ∷ spans) tail fit =
    append_assoc (compact_text (json_of_span span)) (items_text true (items_of spans)) tail
    ∙ span_same span (items_text true (items_of spans) ++ tail) (All-head IsSpan span spans fit)
    ∙ ap (λ xs. span_text span ++ xs) (more_same spans tail (All-tail IsSpan span spans fit))
    ∙ sym (append_assoc (span_text span) (more_spans_text spans) (93 ∷ tail))

object_text : (items : Items) (tail : List ℕ) → List ℕ
object_text items tail = codes "{\"traceEvents\":[" ++ (items_text false items ++ (125 ∷ tail))

json_object : (spans : List Span) → compact_text (json_of spans) ++ 10 ∷ [] ≡ object_text (items_of spans) (10 ∷ [])
unfolding object_text escape_byte
json_object spans = ap (λ xs. codes "{\"traceEvents\":[" ++ xs) (append_assoc (items_text false (items_of spans)) (125 ∷ []) (10 ∷ []))

pub export_is_json : (spans : List Span) → All IsSpan spans → export_text spans ≡ compact_text (json_of spans) ++ 10 ∷ []
unfolding object_text
export_is_json spans fit = sym (json_object spans ∙ ap (λ xs. codes "{\"traceEvents\":[" ++ xs) (all_same spans (125 ∷ 10 ∷ []) fit))
