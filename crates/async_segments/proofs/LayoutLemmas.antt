-- Rows of symbols that are laid out, and bytes of names, one after another.
use Rattle.std.proofs.Common.{◌≡◌, ℕ, Bool, true, false, List, [], ◌∷◌, ◌++◌, refl, sym, ap, ◌∙◌, map, append_assoc}
use Rattle.std.specs.Prelude.{cond, ◌&&◌, ◌||◌}
use Rattle.lang_parse.specs.Symbols.{Symbol, NameAt, WordOf, NumberOf, TextOf, SignOf}
use Rattle.lang_parse.specs.Grammar.{brackets_after, IsShallow}
use Rattle.async_segments.specs.Layout.{bytes_of, further, space_before, laid_out, placeless}
use Rattle.async_segments.specs.Names.{begins_with_line, holds_lines}
use Rattle.async_segments.specs.Encoded.{is_mark_name, has_mark}

-- the symbols that are left
abbrev pub rest_laid : Bool → List Symbol → List ℕ
rest_laid is_first ks = cond is_first (laid_out ks) (further ks)

pub rest_laid_step : (is_first : Bool) (k : Symbol) (ks : List Symbol) → rest_laid is_first (k ∷ ks) ≡ (space_before is_first ++ bytes_of k) ++ further ks
rest_laid_step true k ks = refl
rest_laid_step false k ks = refl

pub rest_laid_end : (is_first : Bool) → rest_laid is_first [] ≡ 10 ∷ []
rest_laid_end true = refl
rest_laid_end false = refl

-- one symbol more was laid out
pub laid_next : (is_first : Bool) (old middle new : List ℕ) (k : Symbol) (ks : List Symbol) (left whole : List ℕ) →
    left ≡ rest_laid is_first (k ∷ ks) → old ++ left ≡ whole → middle ≡ old ++ space_before is_first → new ≡ middle ++ bytes_of k → new ++ further ks ≡ whole
laid_next is_first old middle new k ks left whole e inv space token =
    ap (λ z. z ++ further ks) (token ∙ ap (λ z. z ++ bytes_of k) space) ∙
    (ap (λ z. z ++ further ks) (append_assoc old (space_before is_first) (bytes_of k)) ∙
    (append_assoc old (space_before is_first ++ bytes_of k) (further ks) ∙
    (ap (λ z. old ++ z) (sym (e ∙ rest_laid_step is_first k ks)) ∙ inv)))

-- the bytes of a name that are left, by whether `_` stands before them
abbrev pub holds_behind : Bool → List ℕ → Bool
holds_behind is_behind bs = (is_behind && begins_with_line bs) || holds_lines bs

bytes_placeless : (k : Symbol) → bytes_of (placeless k) ≡ bytes_of k
bytes_placeless (NameAt x at) = refl
bytes_placeless (WordOf bs) = refl
bytes_placeless (NumberOf n) = refl
bytes_placeless (TextOf bs) = refl
bytes_placeless (SignOf bs) = refl

further_placeless : (ks : List Symbol) → further (map placeless ks) ≡ further ks
further_placeless [] = refl
further_placeless (k ∷ ks) = ap (λ z. 32 ∷ z ++ further (map placeless ks)) (bytes_placeless k) ∙ ap (λ z. 32 ∷ bytes_of k ++ z) (further_placeless ks)

pub laid_out_placeless : (ks : List Symbol) → laid_out (map placeless ks) ≡ laid_out ks
laid_out_placeless [] = refl
laid_out_placeless (k ∷ ks) = ap (λ z. z ++ further (map placeless ks)) (bytes_placeless k) ∙ ap (λ z. bytes_of k ++ z) (further_placeless ks)

mark_placeless : (k : Symbol) → is_mark_name (placeless k) ≡ is_mark_name k
mark_placeless (NameAt x at) = refl
mark_placeless (WordOf bs) = refl
mark_placeless (NumberOf n) = refl
mark_placeless (TextOf bs) = refl
mark_placeless (SignOf bs) = refl

pub has_mark_placeless : (ks : List Symbol) → has_mark (map placeless ks) ≡ has_mark ks
has_mark_placeless [] = refl
has_mark_placeless (k ∷ ks) = ap (λ b. b || has_mark (map placeless ks)) (mark_placeless k) ∙ ap (λ b. is_mark_name k || b) (has_mark_placeless ks)

pub shallow_placeless : (n : ℕ) (ks : List Symbol) → IsShallow n (map placeless ks) → IsShallow n ks
shallow_placeless n [] h = tt
shallow_placeless n (NameAt x at ∷ ks) h = (h.0, shallow_placeless (brackets_after n (NameAt x at)) ks h.1)
shallow_placeless n (WordOf bs ∷ ks) h = (h.0, shallow_placeless (brackets_after n (WordOf bs)) ks h.1)
shallow_placeless n (NumberOf m ∷ ks) h = (h.0, shallow_placeless (brackets_after n (NumberOf m)) ks h.1)
shallow_placeless n (TextOf bs ∷ ks) h = (h.0, shallow_placeless (brackets_after n (TextOf bs)) ks h.1)
shallow_placeless n (SignOf bs ∷ ks) h = (h.0, shallow_placeless (brackets_after n (SignOf bs)) ks h.1)

pub placeless_shallow : (n : ℕ) (ks : List Symbol) → IsShallow n ks → IsShallow n (map placeless ks)
placeless_shallow n [] h = tt
placeless_shallow n (NameAt x at ∷ ks) h = (h.0, placeless_shallow (brackets_after n (NameAt x at)) ks h.1)
placeless_shallow n (WordOf bs ∷ ks) h = (h.0, placeless_shallow (brackets_after n (WordOf bs)) ks h.1)
placeless_shallow n (NumberOf m ∷ ks) h = (h.0, placeless_shallow (brackets_after n (NumberOf m)) ks h.1)
placeless_shallow n (TextOf bs ∷ ks) h = (h.0, placeless_shallow (brackets_after n (TextOf bs)) ks h.1)
placeless_shallow n (SignOf bs ∷ ks) h = (h.0, placeless_shallow (brackets_after n (SignOf bs)) ks h.1)
