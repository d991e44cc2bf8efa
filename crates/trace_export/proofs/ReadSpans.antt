-- Calls, read one after another.
use Rattle.std.proofs.Common.{◌≡◌, ℕ, ◌+◌, ◌-◌, ◌<◌, ◌≤◌, ◌^◌, Bool, true, false, List, [], ◌∷◌, ◌++◌, length, Option, Some, None, refl, sym, ap, ◌∙◌, subst, arith, append_assoc}
use Rattle.std.specs.Prelude.{codes, nat_le}
use Rattle.std.specs.Option.{option_map}
use Rattle.std.proofs.lemmas.Bool.Decides.{nat_tests}
use Rattle.page_parts.specs.Words.{decimal_of}
use Rattle.page_parts.specs.Spelling.{all_escaped, quoted}
use Rattle.page_base.specs.Decimals.{digits_of, after_digits, number_at}
use Rattle.page_base.specs.Fields.{behind, ◌>>=◌, where_true}
use Rattle.trace_text.proofs.Cutting.{behind_whole, some_then}
use Rattle.trace_text.proofs.ValueNumbers.{number_in_front, left_in_front, number_at_is}
use Rattle.trace_export.specs.Export.{Span, IsSpan, span_text}
use Rattle.trace_export.specs.Reading.{text_at, count_at, span_at}
use Rattle.trace_export.proofs.ReadTexts.{TextAt, text_found, text_read}

-- ---- numbers

pub record CountAt (bytes : List ℕ) (p : ℕ × List ℕ) : Type 0 where
  pub below : p.0 < 2 ^ 64
  pub whole : bytes ≡ decimal_of p.0 ++ p.1

abbrev the_count : ℕ → List ℕ → ℕ × List ℕ
the_count n rest = (n, rest)

count_by : (bytes : List ℕ) (p : ℕ × List ℕ) (o : Option ℕ) → number_at 18446744073709551615 bytes ≡ o → option_map (λ n. the_count n (after_digits bytes)) o ≡ Some p → CountAt bytes p
count_by bytes p None e is = absurd cc
count_by bytes p (Some n) e is =
    let at = number_at_is 18446744073709551615 n bytes (omega arith) e in
    let same : the_count n (after_digits bytes) ≡ p = cc in
    subst (CountAt bytes) same (record { below = omega (arith, at.0); whole = at.1 })

pub count_found : (bytes : List ℕ) (p : ℕ × List ℕ) → count_at bytes ≡ Some p → CountAt bytes p
unfolding count_at
count_found bytes p is = count_by bytes p (number_at 18446744073709551615 bytes) refl is

pub count_read : (n : ℕ) (rest : List ℕ) → n < 2 ^ 64 → digits_of rest ≡ [] → count_at (decimal_of n ++ rest) ≡ Some (n, rest)
unfolding count_at
count_read n rest h none =
    ap (option_map (λ k. the_count k (after_digits (decimal_of n ++ rest)))) (number_in_front 18446744073709551615 n rest h (omega arith) none)
    ∙ ap (λ after. Some (the_count n after)) (left_in_front n rest h none)

-- ---- a call that is spelled is read

then_some : {A X : Type 0} (o : Option A) (next : A → Option X) (a : A) (x : Option X) → o ≡ Some a → next a ≡ x → (o >>= next) ≡ x
then_some o next a x first second = ap (λ p. p >>= next) first ∙ second

pub flat : (a d b q c n e rest : List ℕ) → a ++ d ++ b ++ q ++ c ++ n ++ e ++ rest ≡ a ++ (d ++ (b ++ (q ++ (c ++ (n ++ (e ++ rest))))))
flat a d b q c n e rest = simp append_assoc

unquoted : (name more : List ℕ) → quoted name ++ more ≡ 34 ∷ (all_escaped name ++ 34 ∷ more)
unquoted name more = ap (λ xs. 34 ∷ xs) (append_assoc (all_escaped name) (34 ∷ []) more)

-- what stands behind the parts of a call
abbrev behind_begin : List ℕ → List ℕ
behind_begin rest = codes "}" ++ rest

abbrev behind_name : ℕ → List ℕ → List ℕ
behind_name begin rest = codes ",\"ph\":\"X\",\"pid\":1,\"tid\":1,\"ts\":" ++ (decimal_of begin ++ behind_begin rest)

abbrev behind_length : List ℕ → ℕ → List ℕ → List ℕ
behind_length name begin rest = codes ",\"name\":\"" ++ (all_escaped name ++ 34 ∷ behind_name begin rest)

pub span_front : (s : Span) (rest : List ℕ) → span_text s ++ rest ≡ codes "{\"dur\":" ++ (decimal_of (s.end - s.begin) ++ behind_length s.name s.begin rest)
span_front s rest =
    flat (codes "{\"dur\":") (decimal_of (s.end - s.begin)) (codes ",\"name\":") (quoted s.name) (codes ",\"ph\":\"X\",\"pid\":1,\"tid\":1,\"ts\":") (decimal_of s.begin) (codes "}") rest
    ∙ ap (λ xs. codes "{\"dur\":" ++ (decimal_of (s.end - s.begin) ++ (codes ",\"name\":" ++ xs))) (unquoted s.name (behind_name s.begin rest))

behind_dur : (rest : List ℕ) → behind (codes "{\"dur\":") (codes "{\"dur\":" ++ rest) ≡ Some rest
unfolding behind
behind_dur rest = refl

behind_quote : (rest : List ℕ) → behind (codes ",\"name\":\"") (codes ",\"name\":\"" ++ rest) ≡ Some rest
unfolding behind
behind_quote rest = refl

behind_ts : (rest : List ℕ) → behind (codes ",\"ph\":\"X\",\"pid\":1,\"tid\":1,\"ts\":") (codes ",\"ph\":\"X\",\"pid\":1,\"tid\":1,\"ts\":" ++ rest) ≡ Some rest
unfolding behind
behind_ts rest = refl

behind_brace : (rest : List ℕ) → behind (codes "}") (codes "}" ++ rest) ≡ Some rest
unfolding behind
behind_brace rest = refl

pub behind_comma : (rest : List ℕ) → behind (codes ",") (codes "," ++ rest) ≡ Some rest
unfolding behind
behind_comma rest = refl

pub behind_head : (rest : List ℕ) → behind (codes "{\"traceEvents\":[") (codes "{\"traceEvents\":[" ++ rest) ≡ Some rest
unfolding behind
behind_head rest = refl

abbrev pub the_read : Span → List ℕ → Span × List ℕ
the_read s rest = (s, rest)

end_back : (s : Span) → s.begin ≤ s.end → ◌≡◌ {A = Span} (record { name = s.name; begin = s.begin; end = s.begin + (s.end - s.begin) }) s
end_back s h = let e : s.begin + (s.end - s.begin) ≡ s.end = omega arith in ap (λ (n : ℕ). record s { end = n }) e

within : (s : Span) (rest : List ℕ) → IsSpan s
    → where_true (nat_le (s.begin + (s.end - s.begin)) 18446744073709551615) (the_read (record { name = s.name; begin = s.begin; end = s.begin + (s.end - s.begin) }) rest) ≡ Some (the_read s rest)
within s rest fit =
    let order = fit.order in
    let below = fit.below in
    let small : nat_le (s.begin + (s.end - s.begin)) 18446744073709551615 ≡ true = grind (arith, nat_tests) in
    ap (λ t. where_true t (the_read (record { name = s.name; begin = s.begin; end = s.begin + (s.end - s.begin) }) rest)) small ∙ ap (λ x. Some (the_read x rest)) (end_back s order)

span_read_flat : (s : Span) (rest : List ℕ) → IsSpan s → span_at (codes "{\"dur\":" ++ (decimal_of (s.end - s.begin) ++ behind_length s.name s.begin rest)) ≡ Some (the_read s rest)
unfolding span_at
span_read_flat s rest fit =
    let order = fit.order in
    let below = fit.below in
    let n = s.end - s.begin in
    let first = decimal_of n ++ behind_length s.name s.begin rest in
    then_some _ _ first _ (behind_dur first)
    (then_some _ _ (n, behind_length s.name s.begin rest) _ (count_read n (behind_length s.name s.begin rest) (omega arith) refl)
    (then_some _ _ (all_escaped s.name ++ 34 ∷ behind_name s.begin rest) _ (behind_quote (all_escaped s.name ++ 34 ∷ behind_name s.begin rest))
    (then_some _ _ (s.name, behind_name s.begin rest) _ (text_read s.name (behind_name s.begin rest) fit.text)
    (then_some _ _ (decimal_of s.begin ++ behind_begin rest) _ (behind_ts (decimal_of s.begin ++ behind_begin rest))
    (then_some _ _ (s.begin, behind_begin rest) _ (count_read s.begin (behind_begin rest) (omega arith) refl)
    (then_some _ _ rest _ (behind_brace rest) (within s rest fit)))))))

pub span_read : (s : Span) (rest : List ℕ) → IsSpan s → span_at (span_text s ++ rest) ≡ Some (s, rest)
span_read s rest fit = ap span_at (span_front s rest) ∙ span_read_flat s rest fit

-- ---- a call that is read is spelled

pub record SpanAt (bytes : List ℕ) (p : Span × List ℕ) : Type 0 where
  pub fit : IsSpan p.0
  pub whole : bytes ≡ span_text p.0 ++ p.1

no_more : (b n : ℕ) → b + n - b ≡ n
no_more b n = omega arith

made : (bytes first : List ℕ) (n : ℕ × List ℕ) (second : List ℕ) (name : List ℕ × List ℕ) (third : List ℕ) (b : ℕ × List ℕ) (rest : List ℕ) (p : Span × List ℕ) (t : Bool)
    → bytes ≡ codes "{\"dur\":" ++ first → CountAt first n → n.1 ≡ codes ",\"name\":\"" ++ second → TextAt second name.0 name.1
    → name.1 ≡ codes ",\"ph\":\"X\",\"pid\":1,\"tid\":1,\"ts\":" ++ third → CountAt third b → b.1 ≡ codes "}" ++ rest
    → nat_le (b.0 + n.0) 18446744073709551615 ≡ t → where_true t (the_read (record { name = name.0; begin = b.0; end = b.0 + n.0 }) rest) ≡ Some p → SpanAt bytes p
made bytes first n second name third b rest p true e length f text g begin h small is =
    let s : Span = record { name = name.0; begin = b.0; end = b.0 + n.0 } in
    let same : the_read s rest ≡ p = cc in
    let whole : bytes ≡ codes "{\"dur\":" ++ (decimal_of n.0 ++ behind_length name.0 b.0 rest) =
    e ∙ ap (λ xs. codes "{\"dur\":" ++ xs) (length.whole ∙ ap (λ xs. decimal_of n.0 ++ xs)
    (f ∙ ap (λ xs. codes ",\"name\":\"" ++ xs) (text.whole ∙ ap (λ xs. all_escaped name.0 ++ 34 ∷ xs)
    (g ∙ ap (λ xs. codes ",\"ph\":\"X\",\"pid\":1,\"tid\":1,\"ts\":" ++ xs) (begin.whole ∙ ap (λ xs. decimal_of b.0 ++ xs) h)))))
    in
    let long : decimal_of (b.0 + n.0 - b.0) ≡ decimal_of n.0 = ap decimal_of (no_more b.0 n.0) in
    subst (SpanAt bytes) same (record {
      fit = record { text = text.text; order = omega arith; below = grind (arith, nat_tests) };
      whole = whole ∙ ap (λ ds. codes "{\"dur\":" ++ (ds ++ behind_length name.0 b.0 rest)) (sym long) ∙ sym (span_front s rest);
    })
made bytes first n second name third b rest p false e length f text g begin h small is = absurd cc

pub span_found : (bytes : List ℕ) (p : Span × List ℕ) → span_at bytes ≡ Some p → SpanAt bytes p
unfolding span_at
span_found bytes p is =
    some_then _ (behind (codes "{\"dur\":") bytes) _ p is (λ first e is1.
    some_then _ (count_at first) _ p is1 (λ n f is2.
    some_then _ (behind (codes ",\"name\":\"") n.1) _ p is2 (λ second g is3.
    some_then _ (text_at second) _ p is3 (λ name h is4.
    some_then _ (behind (codes ",\"ph\":\"X\",\"pid\":1,\"tid\":1,\"ts\":") name.1) _ p is4 (λ third i is5.
    some_then _ (count_at third) _ p is5 (λ b j is6.
    some_then _ (behind (codes "}") b.1) _ p is6 (λ rest k is7.
    made bytes first n second name third b rest p (nat_le (b.0 + n.0) 18446744073709551615) (behind_whole (codes "{\"dur\":") bytes first e) (count_found first n f)
    (behind_whole (codes ",\"name\":\"") n.1 second g) (text_found second name.0 name.1 h)
    (behind_whole (codes ",\"ph\":\"X\",\"pid\":1,\"tid\":1,\"ts\":") name.1 third i) (count_found third b j) (behind_whole (codes "}") b.1 rest k) refl is7)))))))
