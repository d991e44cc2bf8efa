-- The bytes with signs in place of two names, a token after another.
use Rattle.std.proofs.Common.{◌≡◌, ℕ, zero, suc, ◌+◌, ◌-◌, ◌<◌, ◌≤◌, Bool, true, false, List, [], ◌∷◌, ◌++◌, take, drop, length, refl, sym, ap, subst, ◌∙◌, append_assoc, arith, length-drop}
use Rattle.std.specs.Prelude.{cond}
use Rattle.std.proofs.lemmas.List.{drop-drop}
use Rattle.lang_tokens.specs.Seen.{TokenSeen}
use Rattle.lang_tokens.specs.Tokens.{InOrder}
use Rattle.lang_parse.specs.Symbols.{symbol_of}
use Rattle.async_segments.specs.Marked.{is_mark}
use Rattle.async_segments.specs.Encoded.{signs_for, marked_bytes, marked_piece, done_behind}

-- the tokens stand up to the end
pub order_within : (from to : ℕ) (ts : List TokenSeen) → InOrder from to ts → from ≤ to
order_within from to [] h = h
order_within from to (t ∷ ts) h = let rest = order_within t.end to ts h.2 in omega (arith, rest, h.0, h.1)

pub order_earlier : (first from to : ℕ) (ts : List TokenSeen) → first ≤ from → InOrder from to ts → InOrder first to ts
order_earlier first from to [] less h = omega (arith, less, h)
order_earlier first from to (t ∷ ts) less h = (omega (arith, less, h.0), h.1, h.2)

pub first_in_order : (from to : ℕ) (left : List TokenSeen) (t : TokenSeen) (ts : List TokenSeen) → left ≡ t ∷ ts → InOrder from to left → (from ≤ t.at) × (t.at < t.end) × (t.end ≤ to)
first_in_order from to left t ts e h = let o = subst (InOrder from to) e h in (o.0, o.1, order_within t.end to ts o.2)

order_by : (done to : ℕ) (t : TokenSeen) (ts : List TokenSeen) (mark : Bool) → InOrder done to (t ∷ ts) → InOrder (cond mark t.end done) to ts
order_by done to t ts true o = o.2
order_by done to t ts false o = order_earlier done t.end to ts (omega (arith, o.0, o.1)) o.2

pub order_behind : (done next to : ℕ) (left : List TokenSeen) (t : TokenSeen) (ts : List TokenSeen) → left ≡ t ∷ ts → next ≡ done_behind done t → InOrder done to left → InOrder next to ts
order_behind done next to left t ts e is h = subst (λ n. InOrder n to ts) (sym is) (order_by done to t ts (is_mark (symbol_of t)) (subst (InOrder done to) e h))

marked_by : (done : ℕ) (bs : List ℕ) (t : TokenSeen) (ts : List TokenSeen) (mark : Bool) → done ≤ t.end →
    cond mark ((take (t.at - done) (drop done bs) ++ signs_for t.content) ++ marked_bytes t.end ts (drop (t.end - done) (drop done bs))) (marked_bytes done ts (drop done bs)) ≡
    cond mark (take (t.at - done) (drop done bs) ++ signs_for t.content) [] ++ marked_bytes (cond mark t.end done) ts (drop (cond mark t.end done) bs)
marked_by done bs t ts true less =
    let sum : done + (t.end - done) ≡ t.end = omega arith in
    ap (λ z. (take (t.at - done) (drop done bs) ++ signs_for t.content) ++ marked_bytes t.end ts z) (drop-drop (t.end - done) done bs ∙ ap (λ n. drop n bs) sum)
marked_by done bs t ts false less = refl

pub marked_next : (done next : ℕ) (bs old new : List ℕ) (t : TokenSeen) (left ts : List TokenSeen) → left ≡ t ∷ ts → InOrder done (length bs) left → next ≡ done_behind done t →
    new ≡ old ++ marked_piece done t bs → {whole : List ℕ} → old ++ marked_bytes done left (drop done bs) ≡ whole → new ++ marked_bytes next ts (drop next bs) ≡ whole
marked_next done next bs old new t left ts e h is written {whole} so_far =
    let o = subst (InOrder done (length bs)) e h in
    let step = ap (λ z. marked_bytes done z (drop done bs)) e ∙ marked_by done bs t ts (is_mark (symbol_of t)) (omega (arith, o.0, o.1)) in
    ap (λ z. z ++ marked_bytes next ts (drop next bs)) written ∙ (append_assoc old (marked_piece done t bs) (marked_bytes next ts (drop next bs)) ∙
    (ap (λ n. old ++ (marked_piece done t bs ++ marked_bytes n ts (drop n bs))) is ∙ (ap (λ z. old ++ z) (sym step) ∙ so_far)))

take_whole : (n : ℕ) (xs : List ℕ) → length xs ≤ n → take n xs ≡ xs
take_whole zero [] h = refl
take_whole (suc n) [] h = refl
take_whole zero (x ∷ xs) h = absurd (omega arith)
take_whole (suc n) (x ∷ xs) h = ap (λ z. x ∷ z) (take_whole n xs (omega arith))

-- the bytes behind the last token
pub marked_last : (done : ℕ) (bs old : List ℕ) (ts : List TokenSeen) → ts ≡ [] → {whole : List ℕ} → old ++ marked_bytes done ts (drop done bs) ≡ whole →
    old ++ take (length bs - done) (drop done bs) ≡ whole
marked_last done bs old ts e {whole} so_far =
    ap (λ z. old ++ z) (take_whole (length bs - done) (drop done bs) (omega (arith, length-drop done bs)) ∙ sym (ap (λ z. marked_bytes done z (drop done bs)) e)) ∙ so_far
