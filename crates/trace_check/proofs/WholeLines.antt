-- A line and a line feed, compared with a text.
use Rattle.std.proofs.Common.{◌≡◌, ℕ, Bool, true, false, cond, ◌&&◌, List, [], ◌∷◌, ◌++◌, Option, Some, None, refl, sym, ap, ◌∙◌, arith}
use Rattle.std.specs.Prelude.{◌==◌}
use Rattle.std.proofs.lemmas.Bool.Decides.{nat_tests}
use Rattle.page_parts.specs.Words.{same_bytes}
use Rattle.page_base.specs.Fields.{behind_start, behind, is_word}

-- what is behind a line is a line feed
abbrev pub ends_so : Option (List ℕ) → Bool
ends_so None = false
ends_so (Some end) = same_bytes (10 ∷ []) end

turned : (a b : ℕ) → (a == b) ≡ (b == a)
turned a b = grind (arith, nat_tests)

pub whole-start : (line text : List ℕ) → same_bytes (line ++ 10 ∷ []) text ≡ ends_so (behind_start line text)
whole-start [] text = refl
whole-start (c ∷ line) [] = refl
whole-start (c ∷ line) (b ∷ text) = by_byte (b == c) refl (whole-start line text)
  where
    by_byte : (same : Bool) → (b == c) ≡ same → same_bytes (line ++ 10 ∷ []) text ≡ ends_so (behind_start line text)
        → ((c == b) && same_bytes (line ++ 10 ∷ []) text) ≡ ends_so (cond (b == c) (behind_start line text) None)
    by_byte true is more = rw (is, turned c b ∙ is) more
    by_byte false is more = rw (is, turned c b ∙ is) refl

pub whole_behind : (line text end : List ℕ) → behind line text ≡ Some end → is_word (10 ∷ []) end ≡ same_bytes (line ++ 10 ∷ []) text
unfolding behind is_word
whole_behind line text end is = sym (whole-start line text ∙ ap ends_so is)

pub none_behind : (line text : List ℕ) → behind line text ≡ None → false ≡ same_bytes (line ++ 10 ∷ []) text
unfolding behind
none_behind line text is = sym (whole-start line text ∙ ap ends_so is)
