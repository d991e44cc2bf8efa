-- Rows of symbols that are alike but for the places of names, in parts.
use Rattle.std.proofs.Common.{◌≡◌, ℕ, List, [], ◌∷◌, ◌++◌, map, refl, ap, ◌∙◌}
use Rattle.std.specs.Prelude.{⊤}
use Rattle.page_types.specs.Tree.{Named}
use Rattle.lang_parse.specs.Symbols.{Symbol, NameAt, WordOf, NumberOf, TextOf, SignOf}
use Rattle.lang_parse.specs.Grammar.{name_symbol}
use Rattle.async_segments.specs.Layout.{placeless}
use Rattle.async_segments.specs.Script.{Each}

pub both : {A B C : Type 0} {a c : A} {b d : B} (f : A → B → C) → a ≡ c → b ≡ d → f a b ≡ f c d
both {a = a} {c = c} {b = b} {d = d} f e g = ap (λ z. f z b) e ∙ ap (f c) g

-- they are the same but for the places of names
abbrev pub Alike : List Symbol → List Symbol → Type 0
Alike ks others = map placeless ks ≡ map placeless others

-- a symbol that is no name
abbrev pub IsUnnamed : Symbol → Type 0
IsUnnamed (NameAt x at) = ⊥
IsUnnamed (WordOf bs) = ⊤
IsUnnamed (NumberOf n) = ⊤
IsUnnamed (TextOf bs) = ⊤
IsUnnamed (SignOf bs) = ⊤

-- ---- two parts

pub record Split (ks a b : List Symbol) : Type 0 where
  pub front : List Symbol
  pub back : List Symbol
  pub is : ks ≡ front ++ back
  pub left : Alike front a
  pub right : Alike back b

with_first : (x : Symbol) (ks front back : List Symbol) → ks ≡ front ++ back → x ∷ ks ≡ x ∷ front ++ back
with_first x ks front back e = ap (λ z. x ∷ z) e

pub split : (a b ks : List Symbol) → Alike ks (a ++ b) → Split ks a b
split [] b ks h = record { front = []; back = ks; is = refl; left = refl; right = h }
split (k ∷ a) b [] h = absurd (cc)
split (k ∷ a) b (x ∷ ks) h =
    let first : placeless x ≡ placeless k = cc in
    let rest : Alike ks (a ++ b) = cc in
    let s = split a b ks rest in
    record { front = x ∷ s.front; back = s.back; is = with_first x ks s.front s.back s.is; left = both (λ y ys. y ∷ ys) first s.left; right = s.right }

-- ---- rows without names are the same

same_symbol : (k x : Symbol) → IsUnnamed k → placeless x ≡ placeless k → x ≡ k
same_symbol (NameAt y at) x u h = absurd u
same_symbol (WordOf bs) (WordOf cs) u h = h
same_symbol (WordOf bs) x u h = absurd (cc)
same_symbol (NumberOf n) (NumberOf m) u h = h
same_symbol (NumberOf n) x u h = absurd (cc)
same_symbol (TextOf bs) (TextOf cs) u h = h
same_symbol (TextOf bs) x u h = absurd (cc)
same_symbol (SignOf bs) (SignOf cs) u h = h
same_symbol (SignOf bs) x u h = absurd (cc)

pub same_row : (a ks : List Symbol) → Each IsUnnamed a → Alike ks a → ks ≡ a
same_row [] [] u h = refl
same_row [] (x ∷ ks) u h = absurd (cc)
same_row (k ∷ a) [] u h = absurd (cc)
same_row (k ∷ a) (x ∷ ks) u h =
    let first : placeless x ≡ placeless k = cc in
    let rest : Alike ks a = cc in
    both (λ y ys. y ∷ ys) (same_symbol k x u.0 first) (same_row a ks u.1 rest)

-- behind a row without names
pub record Behind (ks row b : List Symbol) : Type 0 where
  pub back : List Symbol
  pub is : ks ≡ row ++ back
  pub right : Alike back b

pub behind : (row b ks : List Symbol) → Each IsUnnamed row → Alike ks (row ++ b) → Behind ks row b
behind row b ks u h =
    let s = split row b ks h in
    record { back = s.back; is = s.is ∙ ap (λ z. z ++ s.back) (same_row row s.front u s.left); right = s.right }

-- before a row without names
pub record Before (ks a row : List Symbol) : Type 0 where
  pub front : List Symbol
  pub is : ks ≡ front ++ row
  pub left : Alike front a

pub before : (a row ks : List Symbol) → Each IsUnnamed row → Alike ks (a ++ row) → Before ks a row
before a row ks u h =
    let s = split a row ks h in
    record { front = s.front; is = s.is ∙ ap (λ z. s.front ++ z) (same_row row s.back u s.right); left = s.left }

-- between two rows without names
pub record Between (ks first a last : List Symbol) : Type 0 where
  pub inner : List Symbol
  pub is : ks ≡ first ++ (inner ++ last)
  pub alike : Alike inner a

pub between : (first a last ks : List Symbol) → Each IsUnnamed first → Each IsUnnamed last → Alike ks (first ++ (a ++ last)) → Between ks first a last
between first a last ks u v h =
    let b = behind first (a ++ last) ks u h in
    let c = before a last b.back v b.right in
    record { inner = c.front; is = b.is ∙ ap (λ z. first ++ z) c.is; alike = c.left }

-- ---- a name at the front

pub record NameFirst (ks : List Symbol) (x : Named) (b : List Symbol) : Type 0 where
  pub at : ℕ
  pub back : List Symbol
  pub is : ks ≡ NameAt x.name at ∷ back
  pub right : Alike back b

name_by : (x : Named) (k : Symbol) → placeless k ≡ NameAt x.name 0 → (at : ℕ) × (k ≡ NameAt x.name at)
name_by x (NameAt y at) h = let same : y ≡ x.name = cc in (at, ap (λ z. NameAt z at) same)
name_by x (WordOf bs) h = absurd (cc)
name_by x (NumberOf n) h = absurd (cc)
name_by x (TextOf bs) h = absurd (cc)
name_by x (SignOf bs) h = absurd (cc)

pub name_first : (x : Named) (b ks : List Symbol) → Alike ks (name_symbol x ∷ b) → NameFirst ks x b
name_first x b [] h = absurd (cc)
name_first x b (k ∷ ks) h =
    let first : placeless k ≡ NameAt x.name 0 = cc in
    let rest : Alike ks b = cc in
    let n = name_by x k first in
    record { at = n.0; back = ks; is = ap (λ z. z ∷ ks) n.1; right = rest }

pub none_alike : (ks : List Symbol) → Alike ks [] → ks ≡ []
none_alike ks h = same_row [] ks tt h
