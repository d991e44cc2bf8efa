-- With signs in place of two names a script has its other tokens in their places.
use Rattle.std.proofs.Common.{◌≡◌, ℕ, zero, suc, ◌+◌, ◌-◌, ◌<◌, ◌≤◌, Bool, true, false, List, [], ◌∷◌, ◌++◌, take, drop, length, Ok, Err, refl, sym, ap, subst, ◌∙◌, append_assoc, arith, length-drop, length-append}
use Rattle.std.specs.Prelude.{cond, codes, ◌==◌, ◌&&◌, ◌||◌}
use Rattle.std.proofs.lemmas.Bool.{eqb-true}
use Rattle.std.proofs.lemmas.List.{drop-drop, take-append-drop, length-take-le}
use Rattle.page_parts.specs.Words.{same_bytes}
use Rattle.lang_tokens.specs.Seen.{TokenSeen}
use Rattle.lang_tokens.specs.declared.token.TokenKind.{TokenKind}
use Rattle.lang_tokens.specs.declared.token.TokenKind.TheVariants.{Name, Word, Number, Text, Sign}
use Rattle.lang_tokens.specs.declared.piece.Piece.{Piece}
use Rattle.lang_tokens.specs.declared.piece.Piece.TheVariants.{Gap, Token, Bad}
use Rattle.lang_tokens.specs.Pieces.{piece_at}
use Rattle.lang_tokens.specs.Tokens.{Lexed, InOrder, content_of, token_at, with_front, with_piece, cut, tokens_of}
use Rattle.lang_tokens.proofs.PieceLemmas.{Within, piece_within}
use Rattle.lang_tokens.proofs.CutLemmas.{cut_first, nothing_left}
use Rattle.lang_tokens.proofs.BadLemmas.{size_of, piece_local}
use Rattle.lang_parse.specs.Symbols.{Symbol, NameAt, WordOf, NumberOf, TextOf, SignOf, symbol_of, symbols_of}
use Rattle.async_segments.specs.Marked.{is_mark}
use Rattle.async_segments.specs.Encoded.{mark_name, signs_for, marked_bytes, signed_name, signed_symbol, signed_symbols, HasSymbols}
use Rattle.async_segments.proofs.MarkLemmas.{order_earlier}

-- ---- lists

none_taken : (n : ℕ) (xs : List ℕ) → xs ≡ [] → take n xs ≡ []
none_taken zero xs e = refl
none_taken (suc n) xs e = ap (take (suc n)) e

take_plus : (a b : ℕ) (xs : List ℕ) → take (a + b) xs ≡ take a xs ++ take b (drop a xs)
take_plus zero b xs = let e : zero + b ≡ b = omega arith in ap (λ n. take n xs) e
take_plus (suc a) b [] = let e : suc a + b ≡ suc (a + b) = omega arith in ap (λ n. take n []) e ∙ sym (none_taken b [] refl)
take_plus (suc a) b (x ∷ xs) = let e : suc a + b ≡ suc (a + b) = omega arith in ap (λ n. take n (x ∷ xs)) e ∙ ap (λ z. x ∷ z) (take_plus a b xs)

and_left : (a b : Bool) → (a && b) ≡ true → a ≡ true
and_left true b e = refl
and_left false b e = e

and_right : (a b : Bool) → (a && b) ≡ true → b ≡ true
and_right true b e = e
and_right false b e = absurd (cc)

pub same_is : (xs ys : List ℕ) → same_bytes xs ys ≡ true → xs ≡ ys
same_is [] [] e = refl
same_is [] (y ∷ ys) e = absurd (cc)
same_is (x ∷ xs) [] e = absurd (cc)
same_is (x ∷ xs) (y ∷ ys) e =
    ap (λ z. z ∷ xs) (eqb-true x y (and_left (x == y) (same_bytes xs ys) e)) ∙ ap (λ zs. y ∷ zs) (same_is xs ys (and_right (x == y) (same_bytes xs ys) e))

-- ---- a piece, where other bytes stand behind the one that ends it

-- the same first byte, or none
abbrev Agree : List ℕ → List ℕ → Type 0
Agree [] [] = Unit {0}
Agree [] (y ∷ ys) = ⊥
Agree (x ∷ xs) [] = ⊥
Agree (x ∷ xs) (y ∷ ys) = x ≡ y

piece_by : (size : ℕ) (bs others rest : List ℕ) (p : Piece) → p ≡ piece_at bs → size_of p ≡ size → size ≤ length bs → drop size bs ≡ rest → Agree rest others → piece_at (take size bs ++ others) ≡ p
piece_by size bs [] [] p is sized within e same = ap (λ z. piece_at (take size bs ++ z)) (sym e) ∙ (ap piece_at (take-append-drop size bs) ∙ sym is)
piece_by size bs (x ∷ xs) [] p is sized within e same = absurd same
piece_by size bs [] (d ∷ ds) p is sized within e same = absurd same
piece_by size bs (x ∷ xs) (d ∷ ds) p is sized within e same =
    let c = take size bs ++ d ∷ [] in
    let whole : c ++ ds ≡ bs = append_assoc (take size bs) (d ∷ []) ds ∙ (ap (λ z. take size bs ++ z) (sym e) ∙ take-append-drop size bs) in
    let all = length-append (take size bs) (d ∷ []) in
    let taken = length-take-le size bs within in
    let here : piece_at (c ++ ds) ≡ p = ap piece_at whole ∙ sym is in
    let s = ap size_of here in
    let small : size_of (piece_at (c ++ ds)) < length c = omega (arith, s, sized, all, taken) in
    ap (λ z. piece_at (take size bs ++ z ∷ xs)) (sym same) ∙ (ap piece_at (sym (append_assoc (take size bs) (d ∷ []) xs)) ∙ (piece_local c ds xs small ∙ here))

-- ---- bytes before the next token

skip_by : (from size to : ℕ) (t : TokenSeen) (ts : List TokenSeen) (bs : List ℕ) (mark : Bool) → InOrder (from + size) to (t ∷ ts) →
    marked_bytes from ts bs ≡ take size bs ++ marked_bytes (from + size) ts (drop size bs) →
    cond mark ((take (t.at - from) bs ++ signs_for t.content) ++ marked_bytes t.end ts (drop (t.end - from) bs)) (marked_bytes from ts bs) ≡
    take size bs ++ cond mark ((take (t.at - (from + size)) (drop size bs) ++ signs_for t.content) ++ marked_bytes t.end ts (drop (t.end - (from + size)) (drop size bs))) (marked_bytes (from + size) ts (drop size bs))
skip_by from size to t ts bs false o others = others
skip_by from size to t ts bs true o others =
    let at : t.at - from ≡ size + (t.at - (from + size)) = omega (arith, o.0) in
    let end : size + (t.end - (from + size)) ≡ t.end - from = omega (arith, o.0, o.1) in
    let front = ap (λ n. take n bs) at ∙ take_plus size (t.at - (from + size)) bs in
    let back = drop-drop (t.end - (from + size)) size bs ∙ ap (λ n. drop n bs) end in
    let a = take size bs in let b = take (t.at - (from + size)) (drop size bs) in let s = signs_for t.content in let m = marked_bytes t.end ts (drop (t.end - from) bs) in
    ap (λ z. (z ++ s) ++ m) front ∙ (ap (λ z. z ++ m) (append_assoc a b s) ∙ (append_assoc a (b ++ s) m ∙ ap (λ z. a ++ ((b ++ s) ++ marked_bytes t.end ts z)) (sym back)))

skip : (from size to : ℕ) (ts : List TokenSeen) (bs : List ℕ) → InOrder (from + size) to ts → marked_bytes from ts bs ≡ take size bs ++ marked_bytes (from + size) ts (drop size bs)
skip from size to [] bs o = sym (take-append-drop size bs)
skip from size to (t ∷ ts) bs o = skip_by from size to t ts bs (is_mark (symbol_of t)) o (skip from size to ts bs (order_earlier (from + size) t.end to ts (omega (arith, o.0, o.1)) o.2))

-- ---- the tokens of a script

front_is : (t : TokenSeen) (r : Lexed) (ts : List TokenSeen) → with_front (t ∷ []) r ≡ Ok ts → (more : List TokenSeen) × (r ≡ Ok more) × (t ∷ more ≡ ts)
front_is t (Ok more) ts e = (more, refl, let same : ◌≡◌ {A = Lexed} (Ok (t ∷ more)) (Ok ts) = e in cc)
front_is t (Err n) ts e = absurd (cc)

order_step : (n at b : ℕ) (bs : List ℕ) (ts : List TokenSeen) →
    ((at' : ℕ) (cs : List ℕ) (us : List TokenSeen) → length cs < length (b ∷ bs) → cut n at' cs ≡ Ok us → InOrder at' (at' + length cs) us) →
    (p : Piece) → Within 1 (length (b ∷ bs)) p → with_piece (cut n) at (b ∷ bs) p ≡ Ok ts → InOrder at (at + length (b ∷ bs)) ts
order_step n at b bs ts others (Gap size) w e =
    let len = length-drop size (b ∷ bs) in
    let end : at + size + length (drop size (b ∷ bs)) ≡ at + length (b ∷ bs) = omega (arith, len, w.1) in
    order_earlier at (at + size) (at + length (b ∷ bs)) ts (omega arith) (subst (λ n. InOrder (at + size) n ts) end (others (at + size) (drop size (b ∷ bs)) ts (omega (arith, len, w.0, w.1)) e))
order_step n at b bs ts others (Token kind size) w e =
    let len = length-drop size (b ∷ bs) in
    let end : at + size + length (drop size (b ∷ bs)) ≡ at + length (b ∷ bs) = omega (arith, len, w.1) in
    let t = token_at at (b ∷ bs) kind size in
    let f = front_is t (cut n (at + size) (drop size (b ∷ bs))) ts e in
    subst (InOrder at (at + length (b ∷ bs))) f.2 (omega arith, omega (arith, w.0), subst (λ n. InOrder (at + size) n f.0) end (others (at + size) (drop size (b ∷ bs)) f.0 (omega (arith, len, w.0, w.1)) f.1))
order_step n at b bs ts others (Bad size) w e = absurd (cc)

cut_order : (n at : ℕ) (bs : List ℕ) (ts : List TokenSeen) → length bs ≤ n → cut n at bs ≡ Ok ts → InOrder at (at + length bs) ts
cut_order n at [] ts small e = let none : ◌≡◌ {A = Lexed} (Ok []) (Ok ts) = sym (nothing_left n at [] refl) ∙ e in let same : [] ≡ ts = cc in subst (InOrder at (at + length {A = ℕ} [])) same (omega arith)
cut_order zero at (b ∷ bs) ts small e = absurd (omega arith)
cut_order (suc n) at (b ∷ bs) ts small e = order_step n at b bs ts (λ at' cs us less f. cut_order n at' cs us (omega arith) f) (piece_at (b ∷ bs)) (piece_within (b ∷ bs) (omega arith)) e

-- ---- the name that is one of the two

-- a token is one of the two names where it is a name with this spelling
named : (kind : TokenKind) (spelling : List ℕ) (at : ℕ) → is_mark (symbol_of (record { at = at; end = at; kind = kind; content = content_of kind spelling })) ≡ true →
    (kind ≡ Name) × ((same_bytes spelling (codes "async") || same_bytes spelling (codes "await")) ≡ true)
named Name spelling at e = (refl, e)
named Word spelling at e = absurd (cc)
named (Number n) spelling at e = absurd (cc)
named Text spelling at e = absurd (cc)
named Sign spelling at e = absurd (cc)

data Two (x : List ℕ) : Type 0 where
  is_async : x ≡ codes "async" → Two x
  is_await : x ≡ codes "await" → Two x

two_by : (x : List ℕ) (a b : Bool) → same_bytes x (codes "async") ≡ a → same_bytes x (codes "await") ≡ b → (a || b) ≡ true → Two x
two_by x true b e f h = is_async (same_is x (codes "async") e)
two_by x false true e f h = is_await (same_is x (codes "await") f)
two_by x false false e f h = absurd (cc)

two : (x : List ℕ) → (same_bytes x (codes "async") || same_bytes x (codes "await")) ≡ true → Two x
two x h = two_by x (same_bytes x (codes "async")) (same_bytes x (codes "await")) refl refl h

-- ---- the first byte stays

first_of_two : (b : ℕ) (bs : List ℕ) (more : List ℕ) → Two (b ∷ bs) → Agree (b ∷ more) (signs_for (b ∷ bs))
first_of_two b bs more (is_async e) = let same : b ≡ 97 = cc in subst (λ x. Agree (b ∷ more) (signs_for x)) (sym e) same
first_of_two b bs more (is_await e) = let same : b ≡ 97 = cc in subst (λ x. Agree (b ∷ more) (signs_for x)) (sym e) same

agree_front : (xs ys zs : List ℕ) → (x : ℕ) → Agree (x ∷ xs) ys → Agree (x ∷ xs) (ys ++ zs)
agree_front xs [] zs x h = absurd h
agree_front xs (y ∷ ys) zs x h = h

agree_taken : (size b : ℕ) (bs others : List ℕ) → 1 ≤ size → Agree (b ∷ bs) (take size (b ∷ bs) ++ others)
agree_taken zero b bs others some = absurd (omega arith)
agree_taken (suc size) b bs others some = refl

agree_token : (at b size : ℕ) (bs : List ℕ) (kind : TokenKind) (ts : List TokenSeen) → 1 ≤ size → InOrder (at + size) (at + length (b ∷ bs)) ts →
    (mark : Bool) → is_mark (symbol_of (token_at at (b ∷ bs) kind size)) ≡ mark → Agree (b ∷ bs) (marked_bytes at (token_at at (b ∷ bs) kind size ∷ ts) (b ∷ bs))
agree_token at b zero bs kind ts some o mark e = absurd (omega arith)
agree_token at b (suc size) bs kind ts some o false e =
    subst (Agree (b ∷ bs)) (sym (ap (λ m. cond m ((take (at - at) (b ∷ bs) ++ signs_for (content_of kind (take (suc size) (b ∷ bs)))) ++ marked_bytes (at + suc size) ts (drop (at + suc size - at) (b ∷ bs))) (marked_bytes at ts (b ∷ bs))) e))
    (subst (Agree (b ∷ bs)) (sym (skip at (suc size) (at + length (b ∷ bs)) ts (b ∷ bs) o)) (agree_taken (suc size) b bs (marked_bytes (at + suc size) ts (drop (suc size) (b ∷ bs))) some))
agree_token at b (suc size) bs kind ts some o true e =
    let n = named kind (take (suc size) (b ∷ bs)) at e in
    let none : at - at ≡ 0 = omega arith in
    let rest = marked_bytes (at + suc size) ts (drop (at + suc size - at) (b ∷ bs)) in
    subst (Agree (b ∷ bs)) (sym (ap (λ m. cond m ((take (at - at) (b ∷ bs) ++ signs_for (content_of kind (take (suc size) (b ∷ bs)))) ++ rest) (marked_bytes at ts (b ∷ bs))) e ∙
    (ap (λ k. (take k (b ∷ bs) ++ signs_for (content_of kind (take (suc size) (b ∷ bs)))) ++ rest) none ∙ ap (λ k. signs_for (content_of k (take (suc size) (b ∷ bs))) ++ rest) n.0)))
    (agree_front bs (signs_for (b ∷ take size bs)) rest b (first_of_two b (take size bs) bs (two (b ∷ take size bs) n.1)))

agree_step : (n at b : ℕ) (bs : List ℕ) (ts : List TokenSeen) → length bs ≤ n → (p : Piece) → Within 1 (length (b ∷ bs)) p → with_piece (cut n) at (b ∷ bs) p ≡ Ok ts →
    Agree (b ∷ bs) (marked_bytes at ts (b ∷ bs))
agree_step n at b bs ts small (Gap size) w e =
    let len = length-drop size (b ∷ bs) in
    let end : at + size + length (drop size (b ∷ bs)) ≡ at + length (b ∷ bs) = omega (arith, len, w.1) in
    let o = subst (λ k. InOrder (at + size) k ts) end (cut_order n (at + size) (drop size (b ∷ bs)) ts (omega (arith, len, w.0)) e) in
    subst (Agree (b ∷ bs)) (sym (skip at size (at + length (b ∷ bs)) ts (b ∷ bs) o)) (agree_taken size b bs (marked_bytes (at + size) ts (drop size (b ∷ bs))) w.0)
agree_step n at b bs ts small (Token kind size) w e =
    let len = length-drop size (b ∷ bs) in
    let end : at + size + length (drop size (b ∷ bs)) ≡ at + length (b ∷ bs) = omega (arith, len, w.1) in
    let f = front_is (token_at at (b ∷ bs) kind size) (cut n (at + size) (drop size (b ∷ bs))) ts e in
    let o = subst (λ k. InOrder (at + size) k f.0) end (cut_order n (at + size) (drop size (b ∷ bs)) f.0 (omega (arith, len, w.0)) f.1) in
    subst (λ us. Agree (b ∷ bs) (marked_bytes at us (b ∷ bs))) f.2
    (agree_token at b size bs kind f.0 w.0 o (is_mark (symbol_of (token_at at (b ∷ bs) kind size))) refl)
agree_step n at b bs ts small (Bad size) w e = absurd (cc)

agree : (n at : ℕ) (bs : List ℕ) (ts : List TokenSeen) → length bs ≤ n → cut n at bs ≡ Ok ts → Agree bs (marked_bytes at ts bs)
agree n at [] ts small e =
    let none : ◌≡◌ {A = Lexed} (Ok []) (Ok ts) = sym (nothing_left n at [] refl) ∙ e in let same : [] ≡ ts = cc in subst (λ us. Agree [] (marked_bytes at us [])) same tt
agree zero at (b ∷ bs) ts small e = absurd (omega arith)
agree (suc n) at (b ∷ bs) ts small e = agree_step n at b bs ts (omega arith) (piece_at (b ∷ bs)) (piece_within (b ∷ bs) (omega arith)) e

-- ---- the tokens with signs

-- bytes with these symbols, read at an offset with so many pieces at most
record Signed (m at : ℕ) (bs : List ℕ) (ks : List Symbol) : Type 0 where
  tokens : List TokenSeen
  lexed : cut m at bs ≡ Ok tokens
  same : symbols_of tokens ≡ ks

abbrev AreSigned : ℕ → Type 0
AreSigned n = (m at : ℕ) (bs : List ℕ) (ts : List TokenSeen) → length bs ≤ n → cut n at bs ≡ Ok ts → length (marked_bytes at ts bs) ≤ m →
    Signed m at (marked_bytes at ts bs) (signed_symbols (symbols_of ts))

-- a token in front of bytes that are read
in_front : (m at size : ℕ) (bs : List ℕ) (kind : TokenKind) (ks : List Symbol) → length bs ≤ m → 0 < length bs → piece_at bs ≡ Token kind size → Signed m (at + size) (drop size bs) ks →
    Signed m at bs (symbol_of (token_at at bs kind size) ∷ ks)
in_front m at size bs kind ks small some is s = record {
  tokens = token_at at bs kind size ∷ s.tokens;
  lexed = cut_first m at bs small some ∙ (ap (with_piece (cut m) at bs) is ∙ ap (with_front (token_at at bs kind size ∷ [])) s.lexed);
  same = ap (λ z. symbol_of (token_at at bs kind size) ∷ z) s.same;
}

gap_in_front : (m at size : ℕ) (bs : List ℕ) (ks : List Symbol) → length bs ≤ m → 0 < length bs → piece_at bs ≡ Gap size → Signed m (at + size) (drop size bs) ks → Signed m at bs ks
gap_in_front m at size bs ks small some is s = record {
  tokens = s.tokens;
  lexed = cut_first m at bs small some ∙ (ap (with_piece (cut m) at bs) is ∙ s.lexed);
  same = s.same;
}

-- the signs in front of bytes that are read
async_front : (m at : ℕ) (ys : List ℕ) (ks : List Symbol) → length (codes "a__; " ++ ys) ≤ m → Signed m (at + 5) ys ks → Signed m at (codes "a__; " ++ ys) (NameAt mark_name at ∷ SignOf (codes ";") ∷ ks)
async_front m at ys ks small s =
    let three : at + 3 + 1 + 1 ≡ at + 5 = omega arith in
    in_front m at 3 (97 ∷ 95 ∷ 95 ∷ 59 ∷ 32 ∷ ys) Name (SignOf (codes ";") ∷ ks) small (omega arith) refl
    (in_front m (at + 3) 1 (59 ∷ 32 ∷ ys) Sign ks (omega arith) (omega arith) refl
    (gap_in_front m (at + 3 + 1) 1 (32 ∷ ys) ks (omega arith) (omega arith) refl (subst (λ n. Signed m n ys ks) (sym three) s)))

await_front : (m at : ℕ) (ys : List ℕ) (ks : List Symbol) → length (codes "a__||" ++ ys) ≤ m → Signed m (at + 5) ys ks → Signed m at (codes "a__||" ++ ys) (NameAt mark_name at ∷ SignOf (codes "||") ∷ ks)
await_front m at ys ks small s =
    let three : at + 3 + 2 ≡ at + 5 = omega arith in
    in_front m at 3 (97 ∷ 95 ∷ 95 ∷ 124 ∷ 124 ∷ ys) Name (SignOf (codes "||") ∷ ks) small (omega arith) refl
    (in_front m (at + 3) 2 (124 ∷ 124 ∷ ys) Sign ks (omega arith) (omega arith) refl (subst (λ n. Signed m n ys ks) (sym three) s))

-- the two names
two_front : (m at size : ℕ) (x ys : List ℕ) (ks : List Symbol) → length x ≡ size → Two x → length (signs_for x ++ ys) ≤ m → Signed m (at + size) ys ks → Signed m at (signs_for x ++ ys) (signed_name x at ++ ks)
two_front m at size x ys ks long (is_async e) small s =
    let five : size ≡ 5 = (let l = ap length e in omega (arith, l, long)) in
    subst (λ z. Signed m at (signs_for z ++ ys) (signed_name z at ++ ks)) (sym e) (async_front m at ys ks (subst (λ z. length (signs_for z ++ ys) ≤ m) e small) (subst (λ n. Signed m (at + n) ys ks) five s))
two_front m at size x ys ks long (is_await e) small s =
    let five : size ≡ 5 = (let l = ap length e in omega (arith, l, long)) in
    subst (λ z. Signed m at (signs_for z ++ ys) (signed_name z at ++ ks)) (sym e) (await_front m at ys ks (subst (λ z. length (signs_for z ++ ys) ≤ m) e small) (subst (λ n. Signed m (at + n) ys ks) five s))

-- another symbol stays
kept_by : (x : List ℕ) (at : ℕ) (a b : Bool) → same_bytes x (codes "async") ≡ a → same_bytes x (codes "await") ≡ b → (a || b) ≡ false → signed_name x at ≡ NameAt x at ∷ []
kept_by x at true b e f h = absurd (cc)
kept_by x at false true e f h = absurd (cc)
kept_by x at false false e f h =
    ap (λ c. cond c (NameAt mark_name at ∷ SignOf (codes ";") ∷ []) (cond (same_bytes x (codes "await")) (NameAt mark_name at ∷ SignOf (codes "||") ∷ []) (NameAt x at ∷ []))) e ∙
    ap (λ c. cond c (NameAt mark_name at ∷ SignOf (codes "||") ∷ []) (NameAt x at ∷ [])) f

pub kept : (k : Symbol) → is_mark k ≡ false → signed_symbol k ≡ k ∷ []
kept (NameAt x at) e = kept_by x at (same_bytes x (codes "async")) (same_bytes x (codes "await")) refl refl e
kept (WordOf bs) e = refl
kept (NumberOf n) e = refl
kept (TextOf bs) e = refl
kept (SignOf bs) e = refl

drop_taken : (size : ℕ) (bs ys : List ℕ) → size ≤ length bs → drop size (take size bs ++ ys) ≡ ys
drop_taken zero bs ys within = refl
drop_taken (suc size) [] ys within = absurd (omega arith)
drop_taken (suc size) (b ∷ bs) ys within = drop_taken size bs ys (omega arith)

take_taken : (size : ℕ) (bs ys : List ℕ) → size ≤ length bs → take size (take size bs ++ ys) ≡ take size bs
take_taken zero bs ys within = refl
take_taken (suc size) [] ys within = absurd (omega arith)
take_taken (suc size) (b ∷ bs) ys within = ap (λ z. b ∷ z) (take_taken size bs ys (omega arith))

module _ (m at size : ℕ) (bs ys : List ℕ) (within : size ≤ length bs) (some : 1 ≤ size) (small : length (take size bs ++ ys) ≤ m) where
  front_some : 0 < length (take size bs ++ ys)
  front_some = let a = length-append (take size bs) ys in let t = length-take-le size bs within in omega (arith, a, t, some)

  gap_stays : (ks : List Symbol) → piece_at (take size bs ++ ys) ≡ Gap size → Signed m (at + size) ys ks → Signed m at (take size bs ++ ys) ks
  gap_stays ks is s = gap_in_front m at size (take size bs ++ ys) ks small front_some is (subst (λ z. Signed m (at + size) z ks) (sym (drop_taken size bs ys within)) s)

  token_stays : (kind : TokenKind) (ks : List Symbol) → piece_at (take size bs ++ ys) ≡ Token kind size → Signed m (at + size) ys ks →
      Signed m at (take size bs ++ ys) (symbol_of (token_at at bs kind size) ∷ ks)
  token_stays kind ks is s =
      subst (λ (x : List ℕ). Signed m at (take size bs ++ ys) (symbol_of (record { at = at; end = at + size; kind = kind; content = content_of kind x }) ∷ ks)) (take_taken size bs ys within)
      (in_front m at size (take size bs ++ ys) kind ks small front_some is (subst (λ z. Signed m (at + size) z ks) (sym (drop_taken size bs ys within)) s))

module _ (n : ℕ) (others : AreSigned n) (m at b : ℕ) (bs : List ℕ) (few : length bs ≤ n) where
  -- what stands behind a piece
  module _ (size : ℕ) (some : 1 ≤ size) (within : size ≤ length (b ∷ bs)) (ts : List TokenSeen) (e : cut n (at + size) (drop size (b ∷ bs)) ≡ Ok ts) where
    behind_few : length (drop size (b ∷ bs)) ≤ n
    behind_few = let len = length-drop size (b ∷ bs) in omega (arith, len, some, few)

    behind_order : InOrder (at + size) (at + length (b ∷ bs)) ts
    behind_order =
        let len = length-drop size (b ∷ bs) in
        let end : at + size + length (drop size (b ∷ bs)) ≡ at + length (b ∷ bs) = omega (arith, len, within) in
        subst (λ k. InOrder (at + size) k ts) end (cut_order n (at + size) (drop size (b ∷ bs)) ts behind_few e)

  sign_gap : (size : ℕ) (ts : List TokenSeen) → Gap size ≡ piece_at (b ∷ bs) → 1 ≤ size → size ≤ length (b ∷ bs) → cut n (at + size) (drop size (b ∷ bs)) ≡ Ok ts →
      length (marked_bytes at ts (b ∷ bs)) ≤ m → Signed m at (marked_bytes at ts (b ∷ bs)) (signed_symbols (symbols_of ts))
  sign_gap size ts is some within e small =
      let more = marked_bytes (at + size) ts (drop size (b ∷ bs)) in
      let sk = skip at size (at + length (b ∷ bs)) ts (b ∷ bs) (behind_order size some within ts e) in
      let fits : length (take size (b ∷ bs) ++ more) ≤ m = subst (λ z. length z ≤ m) sk small in
      let all = length-append (take size (b ∷ bs)) more in
      let piece = piece_by size (b ∷ bs) more (drop size (b ∷ bs)) (Gap size) is refl within refl (agree n (at + size) (drop size (b ∷ bs)) ts (behind_few size some within ts e) e) in
      subst (λ z. Signed m at z (signed_symbols (symbols_of ts))) (sym sk)
      (gap_stays m at size (b ∷ bs) more within some fits (signed_symbols (symbols_of ts)) piece
      (others m (at + size) (drop size (b ∷ bs)) ts (behind_few size some within ts e) e (omega (arith, all, fits))))

  sign_other : (kind : TokenKind) (size : ℕ) (ts : List TokenSeen) → Token kind size ≡ piece_at (b ∷ bs) → 1 ≤ size → size ≤ length (b ∷ bs) → cut n (at + size) (drop size (b ∷ bs)) ≡ Ok ts →
      is_mark (symbol_of (token_at at (b ∷ bs) kind size)) ≡ false → length (marked_bytes at (token_at at (b ∷ bs) kind size ∷ ts) (b ∷ bs)) ≤ m →
      Signed m at (marked_bytes at (token_at at (b ∷ bs) kind size ∷ ts) (b ∷ bs)) (signed_symbols (symbols_of (token_at at (b ∷ bs) kind size ∷ ts)))
  sign_other kind size ts is some within e no_mark small =
      let t = token_at at (b ∷ bs) kind size in
      let more = marked_bytes (at + size) ts (drop size (b ∷ bs)) in
      let plain = ap (λ c. cond c ((take (at - at) (b ∷ bs) ++ signs_for (content_of kind (take size (b ∷ bs)))) ++ marked_bytes (at + size) ts (drop (at + size - at) (b ∷ bs))) (marked_bytes at ts (b ∷ bs))) no_mark in
      let sk : marked_bytes at (t ∷ ts) (b ∷ bs) ≡ take size (b ∷ bs) ++ more = plain ∙ skip at size (at + length (b ∷ bs)) ts (b ∷ bs) (behind_order size some within ts e) in
      let fits : length (take size (b ∷ bs) ++ more) ≤ m = subst (λ z. length z ≤ m) sk small in
      let all = length-append (take size (b ∷ bs)) more in
      let piece = piece_by size (b ∷ bs) more (drop size (b ∷ bs)) (Token kind size) is refl within refl (agree n (at + size) (drop size (b ∷ bs)) ts (behind_few size some within ts e) e) in
      subst (λ z. Signed m at z (signed_symbols (symbols_of (t ∷ ts)))) (sym sk)
      (subst (λ ks. Signed m at (take size (b ∷ bs) ++ more) (ks ++ signed_symbols (symbols_of ts))) (sym (kept (symbol_of t) no_mark))
      (token_stays m at size (b ∷ bs) more within some fits kind (signed_symbols (symbols_of ts)) piece
      (others m (at + size) (drop size (b ∷ bs)) ts (behind_few size some within ts e) e (omega (arith, all, fits)))))

  sign_two : (size : ℕ) (ts : List TokenSeen) → 1 ≤ size → size ≤ length (b ∷ bs) → cut n (at + size) (drop size (b ∷ bs)) ≡ Ok ts →
      (same_bytes (take size (b ∷ bs)) (codes "async") || same_bytes (take size (b ∷ bs)) (codes "await")) ≡ true → length (marked_bytes at (token_at at (b ∷ bs) Name size ∷ ts) (b ∷ bs)) ≤ m →
      Signed m at (marked_bytes at (token_at at (b ∷ bs) Name size ∷ ts) (b ∷ bs)) (signed_symbols (symbols_of (token_at at (b ∷ bs) Name size ∷ ts)))
  sign_two size ts some within e mark small =
      let t = token_at at (b ∷ bs) Name size in
      let x = take size (b ∷ bs) in
      let more = marked_bytes (at + size) ts (drop size (b ∷ bs)) in
      let none : at - at ≡ 0 = omega arith in
      let sum : at + size - at ≡ size = omega arith in
      let sk : marked_bytes at (t ∷ ts) (b ∷ bs) ≡ signs_for x ++ more =
      ap (λ c. cond c ((take (at - at) (b ∷ bs) ++ signs_for x) ++ marked_bytes (at + size) ts (drop (at + size - at) (b ∷ bs))) (marked_bytes at ts (b ∷ bs))) mark ∙
      (ap (λ k. (take k (b ∷ bs) ++ signs_for x) ++ marked_bytes (at + size) ts (drop (at + size - at) (b ∷ bs))) none ∙
      ap (λ k. signs_for x ++ marked_bytes (at + size) ts (drop k (b ∷ bs))) sum) in
      let fits : length (signs_for x ++ more) ≤ m = subst (λ z. length z ≤ m) sk small in
      let all = length-append (signs_for x) more in
      subst (λ z. Signed m at z (signed_symbols (symbols_of (t ∷ ts)))) (sym sk)
      (two_front m at size x more (signed_symbols (symbols_of ts)) (length-take-le size (b ∷ bs) within) (two x mark) fits
      (others m (at + size) (drop size (b ∷ bs)) ts (behind_few size some within ts e) e (omega (arith, all, fits))))

  sign_token : (kind : TokenKind) (size : ℕ) (ts : List TokenSeen) → Token kind size ≡ piece_at (b ∷ bs) → 1 ≤ size → size ≤ length (b ∷ bs) → cut n (at + size) (drop size (b ∷ bs)) ≡ Ok ts →
      (mark : Bool) → is_mark (symbol_of (token_at at (b ∷ bs) kind size)) ≡ mark → length (marked_bytes at (token_at at (b ∷ bs) kind size ∷ ts) (b ∷ bs)) ≤ m →
      Signed m at (marked_bytes at (token_at at (b ∷ bs) kind size ∷ ts) (b ∷ bs)) (signed_symbols (symbols_of (token_at at (b ∷ bs) kind size ∷ ts)))
  sign_token kind size ts is some within e false no_mark small = sign_other kind size ts is some within e no_mark small
  sign_token kind size ts is some within e true mark small =
      let name = named kind (take size (b ∷ bs)) at mark in
      let P : TokenKind → Type 0 = λ k. Signed m at (marked_bytes at (token_at at (b ∷ bs) k size ∷ ts) (b ∷ bs)) (signed_symbols (symbols_of (token_at at (b ∷ bs) k size ∷ ts))) in
      subst P (sym name.0) (sign_two size ts some within e name.1 (subst (λ k. length (marked_bytes at (token_at at (b ∷ bs) k size ∷ ts) (b ∷ bs)) ≤ m) name.0 small))

  sign_step : (ts : List TokenSeen) (p : Piece) → p ≡ piece_at (b ∷ bs) → Within 1 (length (b ∷ bs)) p → with_piece (cut n) at (b ∷ bs) p ≡ Ok ts → length (marked_bytes at ts (b ∷ bs)) ≤ m →
      Signed m at (marked_bytes at ts (b ∷ bs)) (signed_symbols (symbols_of ts))
  sign_step ts (Gap size) is w e small = sign_gap size ts is w.0 w.1 e small
  sign_step ts (Token kind size) is w e small =
      let t = token_at at (b ∷ bs) kind size in
      let f = front_is t (cut n (at + size) (drop size (b ∷ bs))) ts e in
      subst (λ us. Signed m at (marked_bytes at us (b ∷ bs)) (signed_symbols (symbols_of us))) f.2
      (sign_token kind size f.0 is w.0 w.1 f.1 (is_mark (symbol_of t)) refl (subst (λ us. length (marked_bytes at us (b ∷ bs)) ≤ m) (sym f.2) small))
  sign_step ts (Bad size) is w e small = absurd (cc)

are_signed : (n : ℕ) → AreSigned n
are_signed n m at [] ts few e small =
    let none : ◌≡◌ {A = Lexed} (Ok []) (Ok ts) = sym (nothing_left n at [] refl) ∙ e in
    let same : [] ≡ ts = cc in
    subst (λ us. Signed m at (marked_bytes at us []) (signed_symbols (symbols_of us))) same (record { tokens = []; lexed = nothing_left m at [] refl; same = refl })
are_signed zero m at (b ∷ bs) ts few e small = absurd (omega arith)
are_signed (suc n) m at (b ∷ bs) ts few e small = sign_step n (are_signed n) m at b bs (omega arith) ts (piece_at (b ∷ bs)) refl (piece_within (b ∷ bs) (omega arith)) e small

pub signs_stand : (bytes : List ℕ) (tokens : List TokenSeen) → tokens_of bytes ≡ Ok tokens → HasSymbols (marked_bytes 0 tokens bytes) (signed_symbols (symbols_of tokens))
signs_stand bytes tokens e =
    let s = are_signed (length bytes) (length (marked_bytes 0 tokens bytes)) 0 bytes tokens (omega arith) e (omega arith) in
    record { tokens = s.tokens; lexed = s.lexed; same = s.same }
