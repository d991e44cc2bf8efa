-- The tokens of a script, a piece after another.
use Rattle.std.proofs.Common.{◌≡◌, ℕ, zero, suc, ◌+◌, ◌-◌, ◌<◌, ◌≤◌, List, [], ◌∷◌, ◌++◌, length, drop, take, Ok, Err, refl, sym, ap, ◌∙◌, subst, arith, append_assoc, length-drop}
use Rattle.std.proofs.lemmas.List.{drop-drop}
use Rattle.lang_tokens.specs.Seen.{TokenSeen, IsHeld, AreHeld}
use Rattle.lang_tokens.specs.declared.token.TokenKind.{TokenKind}
use Rattle.lang_tokens.specs.declared.piece.Piece.{Piece}
use Rattle.lang_tokens.specs.declared.piece.Piece.TheVariants.{Gap, Token, Bad}
use Rattle.lang_tokens.specs.Pieces.{piece_at}
use Rattle.lang_tokens.specs.Tokens.{Lexed, InOrder, content_of, token_at, with_front, with_piece, cut, tokens_of}
use Rattle.lang_tokens.proofs.PieceLemmas.{Within, piece_within}
use Rattle.lang_tokens.proofs.HeldLemmas.{piece_held, AreHeld-push}

with_piece-same : (f g : ℕ → List ℕ → Lexed) (at : ℕ) (bs : List ℕ) → ((at : ℕ) (cs : List ℕ) → length cs < length bs → f at cs ≡ g at cs) →
    0 < length bs → (p : Piece) → Within 1 (length bs) p → with_piece f at bs p ≡ with_piece g at bs p
with_piece-same f g at bs same some (Gap size) w = same (at + size) (drop size bs) (omega (arith, length-drop size bs))
with_piece-same f g at bs same some (Token kind size) w = ap (with_front (token_at at bs kind size ∷ [])) (same (at + size) (drop size bs) (omega (arith, length-drop size bs)))
with_piece-same f g at bs same some (Bad size) w = refl

-- it doesn't matter how many pieces are allowed, if they are enough
pub cut_enough : (n m at : ℕ) (bs : List ℕ) → length bs ≤ n → length bs ≤ m → cut n at bs ≡ cut m at bs
cut_enough zero zero at bs p q = refl
cut_enough zero (suc m) at [] p q = refl
cut_enough zero (suc m) at (b ∷ bs) p q = absurd (omega arith)
cut_enough (suc n) zero at [] p q = refl
cut_enough (suc n) zero at (b ∷ bs) p q = absurd (omega arith)
cut_enough (suc n) (suc m) at [] p q = refl
cut_enough (suc n) (suc m) at (b ∷ bs) p q = with_piece-same (cut n) (cut m) at (b ∷ bs)
    (λ at' cs less. cut_enough n m at' cs (omega arith) (omega arith)) (omega arith) (piece_at (b ∷ bs)) (piece_within (b ∷ bs) (omega arith))

pub cut_first : (n at : ℕ) (bs : List ℕ) → length bs ≤ n → 0 < length bs → cut n at bs ≡ with_piece (cut n) at bs (piece_at bs)
cut_first n at [] p q = absurd (omega arith)
cut_first zero at (b ∷ bs) p q = absurd (omega arith)
cut_first (suc n) at (b ∷ bs) p q = with_piece-same (cut n) (cut (suc n)) at (b ∷ bs)
    (λ at' cs less. cut_enough n (suc n) at' cs (omega arith) (omega arith)) (omega arith) (piece_at (b ∷ bs)) (piece_within (b ∷ bs) (omega arith))

with_front-append : (a b : List TokenSeen) (r : Lexed) → with_front (a ++ b) r ≡ with_front a (with_front b r)
with_front-append a b (Ok ts) = ap Ok (append_assoc a b ts)
with_front-append a b (Err n) = refl

append_nil : (ts : List TokenSeen) → ts ++ [] ≡ ts
append_nil [] = refl
append_nil (t ∷ ts) = ap (λ z. t ∷ z) (append_nil ts)

pub nothing_left : (n at : ℕ) (bs : List ℕ) → length bs ≡ 0 → cut n at bs ≡ Ok []
nothing_left zero at [] e = refl
nothing_left (suc n) at [] e = refl
nothing_left n at (b ∷ bs) e = absurd (omega (arith, e))

take_whole : (n : ℕ) (xs : List ℕ) → length xs ≤ n → take n xs ≡ xs
take_whole zero [] h = refl
take_whole (suc n) [] h = refl
take_whole zero (x ∷ xs) h = absurd (omega arith)
take_whole (suc n) (x ∷ xs) h = ap (λ z. x ∷ z) (take_whole n xs (omega arith))

InOrder-later : (from to to' : ℕ) (ts : List TokenSeen) → to ≤ to' → InOrder from to ts → InOrder from to' ts
InOrder-later from to to' [] less h = omega arith
InOrder-later from to to' (t ∷ ts) less h = (h.0, h.1, InOrder-later t.end to to' ts less h.2)

InOrder-push : (from to : ℕ) (ts : List TokenSeen) (t : TokenSeen) → InOrder from to ts → to ≤ t.at → t.at < t.end → InOrder from t.end (ts ++ t ∷ [])
InOrder-push from to [] t h after some = (omega arith, some, omega arith)
InOrder-push from to (u ∷ ts) t h after some = (h.0, h.1, InOrder-push u.end to ts t h.2 after some)

-- these tokens stand before the offset, and what stands from it on gives the others
pub record Lexing (whole : List ℕ) (front : List TokenSeen) (at : ℕ) : Type 0 where
  pub in_range : at ≤ length whole
  pub in_order : InOrder 0 at front
  pub held : AreHeld front
  pub whole_is : with_front front (cut (length whole) at (drop at whole)) ≡ tokens_of whole

module _ (whole : List ℕ) (front : List TokenSeen) (at : ℕ) (l : Lexing whole front at) where
  pub lexing_done : length whole ≤ at → tokens_of whole ≡ Ok front
  lexing_done h = sym l.whole_is ∙ ap (with_front front) (nothing_left (length whole) at (drop at whole) (omega (arith, length-drop at whole))) ∙ ap Ok (append_nil front)

  pub lexing_in_order : InOrder 0 (length whole) front
  lexing_in_order = InOrder-later 0 at (length whole) front l.in_range l.in_order

  module _ (more : at < length whole) where
    rest_some : 0 < length (drop at whole)
    rest_some = omega (arith, length-drop at whole)

    -- the code's `&whole[at..]`
    slice_rest : take (length whole - at) (drop at whole) ≡ drop at whole
    slice_rest = take_whole (length whole - at) (drop at whole) (omega (arith, length-drop at whole))

    first_is : with_front front (with_piece (cut (length whole)) at (drop at whole) (piece_at (drop at whole))) ≡ tokens_of whole
    first_is = ap (with_front front) (sym (cut_first (length whole) at (drop at whole) (omega (arith, length-drop at whole)) rest_some)) ∙ l.whole_is

    with_first : (p : Piece) → p ≡ piece_at (take (length whole - at) (drop at whole)) → with_front front (with_piece (cut (length whole)) at (drop at whole) p) ≡ tokens_of whole
    with_first p e = ap (λ q. with_front front (with_piece (cut (length whole)) at (drop at whole) q)) (e ∙ ap piece_at slice_rest) ∙ first_is

    pub lexing_within : (p : Piece) → p ≡ piece_at (take (length whole - at) (drop at whole)) → Within 1 (length whole - at) p
    lexing_within p e = subst (λ n. Within 1 n p) (length-drop at whole) (subst (Within 1 (length (drop at whole))) (sym (e ∙ ap piece_at slice_rest)) (piece_within (drop at whole) rest_some))

    pub lexing_gap : (size : ℕ) → Gap size ≡ piece_at (take (length whole - at) (drop at whole)) → Lexing whole front (at + size)
    lexing_gap size e = let w = lexing_within (Gap size) e in record {
      in_range = omega arith;
      in_order = InOrder-later 0 at (at + size) front (omega arith) l.in_order;
      held = l.held;
      whole_is = subst (λ bs. with_front front (cut (length whole) (at + size) bs) ≡ tokens_of whole) (drop-drop size at whole) (with_first (Gap size) e);
    }

    held_here : (kind : TokenKind) (size : ℕ) → Token kind size ≡ piece_at (take (length whole - at) (drop at whole)) → IsHeld kind (content_of kind (take size (drop at whole)))
    held_here kind size e = piece_held (drop at whole) kind size rest_some (e ∙ ap piece_at slice_rest)

    token_here : (kind : TokenKind) (size : ℕ) → Token kind size ≡ piece_at (take (length whole - at) (drop at whole)) → Lexing whole (front ++ token_at at (drop at whole) kind size ∷ []) (at + size)
    token_here kind size e = let w = lexing_within (Token kind size) e in record {
      in_range = omega arith;
      in_order = InOrder-push 0 at front (token_at at (drop at whole) kind size) l.in_order (omega arith) (omega arith);
      held = AreHeld-push front (token_at at (drop at whole) kind size) l.held (held_here kind size e);
      whole_is = with_front-append front (token_at at (drop at whole) kind size ∷ []) _
          ∙ subst (λ bs. with_front front (with_front (token_at at (drop at whole) kind size ∷ []) (cut (length whole) (at + size) bs)) ≡ tokens_of whole)
          (drop-drop size at whole) (with_first (Token kind size) e);
    }

    -- the content is made of the code's `&whole[at..end]`
    pub lexing_token : (kind : TokenKind) (size : ℕ) (content : List ℕ) → Token kind size ≡ piece_at (take (length whole - at) (drop at whole)) →
        content ≡ content_of kind (take (at + size - at) (drop at whole)) →
        Lexing whole (front ++ record { at = at; end = at + size; kind = kind; content = content } ∷ []) (at + size)
    lexing_token kind size content e same =
        let sized : at + size - at ≡ size = omega arith in
        subst (λ held. Lexing whole (front ++ record { at = at; end = at + size; kind = kind; content = held } ∷ []) (at + size))
        (sym (same ∙ ap (λ n. content_of kind (take n (drop at whole))) sized)) (token_here kind size e)

    pub lexing_held : (kind : TokenKind) (size : ℕ) (content : List ℕ) → Token kind size ≡ piece_at (take (length whole - at) (drop at whole)) →
        content ≡ content_of kind (take (at + size - at) (drop at whole)) → IsHeld kind content
    lexing_held kind size content e same =
        let sized : at + size - at ≡ size = omega arith in
        subst (IsHeld kind) (sym (same ∙ ap (λ n. content_of kind (take n (drop at whole))) sized)) (held_here kind size e)

    pub lexing_bad : (size : ℕ) → Bad size ≡ piece_at (take (length whole - at) (drop at whole)) → tokens_of whole ≡ Err (at + size)
    lexing_bad size e = sym (with_first (Bad size) e)
