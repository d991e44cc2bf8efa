-- What is still to come of some forms behind a terminal, computed.
use Rattle.std.proofs.Common.{◌≡◌, ℕ, zero, suc, List, [], ◌∷◌, ◌++◌, ◌∙◌, refl, sym, ap, subst, inl, inr, arith, ◌⊎◌}
use Rattle.std.specs.Prelude.{Bool, true, false, cond, ◌==◌, Option, Some, None, map, ⊤}
use Rattle.std.proofs.lemmas.Bool.{eqb-true}
use Rattle.lang_place.specs.declared.terminal.Terminal.{Terminal}
use Rattle.lang_place.specs.declared.terminal.Terminal.TheVariants.{Name, Value, Fn, Var, If, Else, While, Return, Throw, Try, Catch, OpenRound, CloseRound, OpenSquare, CloseSquare, OpenBrace, CloseBrace, Comma, Semicolon, Assign, Compare, Plus, Minus, Times, Not, And, Or, Other}
use Rattle.lang_place.specs.declared.expected.Taken.{Taken}
use Rattle.lang_place.specs.Forms.{Part, Script, Item, Block, Stmt, Expr, Conjunction, Comparison, Sum, Product, Unary, Post, Prim, Form, one, row, either, perhaps, many, part, rule, ◌·◌, ◌∣◌}
use Rattle.lang_place.specs.Begun.{Begun, nothing, taken, in_row, first, second, absent, present, no_more, one_more, by_rule}
use Rattle.lang_place.specs.Expecting.{BeginsOne, Follows, taken_branches, branches, perhaps_forms}

-- ---- a number for each terminal

abbrev pub rank : Terminal → ℕ
rank Name = 0
rank Value = 1
rank Fn = 2
rank Var = 3
rank If = 4
rank Else = 5
rank While = 6
rank Return = 7
rank Throw = 8
rank Try = 9
rank Catch = 10
rank OpenRound = 11
rank CloseRound = 12
rank OpenSquare = 13
rank CloseSquare = 14
rank OpenBrace = 15
rank CloseBrace = 16
rank Comma = 17
rank Semicolon = 18
rank Assign = 19
rank Compare = 20
rank Plus = 21
rank Minus = 22
rank Times = 23
rank Not = 24
rank And = 25
rank Or = 26
rank Other = 27

abbrev nth : List Terminal → ℕ → Terminal
nth [] n = Other
nth (t ∷ ts) zero = t
nth (t ∷ ts) (suc n) = nth ts n

abbrev all : List Terminal
all = Name ∷ Value ∷ Fn ∷ Var ∷ If ∷ Else ∷ While ∷ Return ∷ Throw ∷ Try ∷ Catch ∷ OpenRound ∷ CloseRound ∷ OpenSquare ∷ CloseSquare ∷ OpenBrace ∷ CloseBrace ∷ Comma ∷ Semicolon ∷ Assign ∷ Compare ∷ Plus ∷ Minus ∷ Times ∷ Not ∷ And ∷ Or ∷ Other ∷ []

nth_rank : (t : Terminal) → nth all (rank t) ≡ t
nth_rank Name = refl
nth_rank Value = refl
nth_rank Fn = refl
nth_rank Var = refl
nth_rank If = refl
nth_rank Else = refl
nth_rank While = refl
nth_rank Return = refl
nth_rank Throw = refl
nth_rank Try = refl
nth_rank Catch = refl
nth_rank OpenRound = refl
nth_rank CloseRound = refl
nth_rank OpenSquare = refl
nth_rank CloseSquare = refl
nth_rank OpenBrace = refl
nth_rank CloseBrace = refl
nth_rank Comma = refl
nth_rank Semicolon = refl
nth_rank Assign = refl
nth_rank Compare = refl
nth_rank Plus = refl
nth_rank Minus = refl
nth_rank Times = refl
nth_rank Not = refl
nth_rank And = refl
nth_rank Or = refl
nth_rank Other = refl

abbrev pub same : Terminal → Terminal → Bool
same a b = rank a == rank b

same_is : (a b : Terminal) → same a b ≡ true → b ≡ a
same_is a b e =
    let r : rank a ≡ rank b = eqb-true (rank a) (rank b) e in
    let n : nth all (rank a) ≡ nth all (rank b) = ap (nth all) r in
    cc (n, nth_rank a, nth_rank b)

same_self : (t : Terminal) → same t t ≡ true
same_self t = simp (nat_self (rank t))
  where
    nat_self : (n : ℕ) → (n == n) ≡ true
    nat_self n = search arith

no_way : true ≡ false → ⊥
no_way f = cc

decide_by : (a b : Terminal) (v : Bool) → same b a ≡ v → (a ≡ b) ⊎ (a ≡ b → ⊥)
decide_by a b true e = inl (same_is b a e)
decide_by a b false e = inr (λ q.
    let self : same b b ≡ true = same_self b in
    let other : same b b ≡ false = subst (λ x. same b x ≡ false) q e in
    no_way (sym self ∙ other))

-- two terminals are one or not
pub decide : (a b : Terminal) → (a ≡ b) ⊎ (a ≡ b → ⊥)
decide a b = decide_by a b (same b a) refl

-- ---- what a derivation ends with

abbrev Ending : List Form → List Terminal → Type 0
Ending fs [] = ⊤
Ending [] (t ∷ ts) = ⊥
Ending (one c ∷ fs) (t ∷ ts) = (t ≡ c) × Begun fs ts
Ending (row a b ∷ fs) (t ∷ ts) = Begun (a ∷ b ∷ fs) (t ∷ ts)
Ending (either a b ∷ fs) (t ∷ ts) = Begun (a ∷ fs) (t ∷ ts) ⊎ Begun (b ∷ fs) (t ∷ ts)
Ending (perhaps a ∷ fs) (t ∷ ts) = Begun fs (t ∷ ts) ⊎ Begun (a ∷ fs) (t ∷ ts)
Ending (many a ∷ fs) (t ∷ ts) = Begun fs (t ∷ ts) ⊎ Begun (a ∷ many a ∷ fs) (t ∷ ts)
Ending (part p ∷ fs) (t ∷ ts) = Begun (rule p ∷ fs) (t ∷ ts)

row_end : (a b : Form) (fs : List Form) (ts : List Terminal) → Begun (a ∷ b ∷ fs) ts → Ending (row a b ∷ fs) ts
row_end a b fs [] h = tt
row_end a b fs (t ∷ ts) h = h

first_end : (a b : Form) (fs : List Form) (ts : List Terminal) → Begun (a ∷ fs) ts → Ending (either a b ∷ fs) ts
first_end a b fs [] h = tt
first_end a b fs (t ∷ ts) h = inl h

second_end : (a b : Form) (fs : List Form) (ts : List Terminal) → Begun (b ∷ fs) ts → Ending (either a b ∷ fs) ts
second_end a b fs [] h = tt
second_end a b fs (t ∷ ts) h = inr h

absent_end : (a : Form) (fs : List Form) (ts : List Terminal) → Begun fs ts → Ending (perhaps a ∷ fs) ts
absent_end a fs [] h = tt
absent_end a fs (t ∷ ts) h = inl h

present_end : (a : Form) (fs : List Form) (ts : List Terminal) → Begun (a ∷ fs) ts → Ending (perhaps a ∷ fs) ts
present_end a fs [] h = tt
present_end a fs (t ∷ ts) h = inr h

no_more_end : (a : Form) (fs : List Form) (ts : List Terminal) → Begun fs ts → Ending (many a ∷ fs) ts
no_more_end a fs [] h = tt
no_more_end a fs (t ∷ ts) h = inl h

one_more_end : (a : Form) (fs : List Form) (ts : List Terminal) → Begun (a ∷ many a ∷ fs) ts → Ending (many a ∷ fs) ts
one_more_end a fs [] h = tt
one_more_end a fs (t ∷ ts) h = inr h

rule_end : (p : Part) (fs : List Form) (ts : List Terminal) → Begun (rule p ∷ fs) ts → Ending (part p ∷ fs) ts
rule_end p fs [] h = tt
rule_end p fs (t ∷ ts) h = h

pub ending : {fs : List Form} {ts : List Terminal} → Begun fs ts → Ending fs ts
ending (nothing fs) = tt
ending (taken t fs ts h) = (refl, h)
ending (in_row a b fs ts h) = row_end a b fs ts h
ending (first a b fs ts h) = first_end a b fs ts h
ending (second a b fs ts h) = second_end a b fs ts h
ending (absent a fs ts h) = absent_end a fs ts h
ending (present a fs ts h) = present_end a fs ts h
ending (no_more a fs ts h) = no_more_end a fs ts h
ending (one_more a fs ts h) = one_more_end a fs ts h
ending (by_rule p fs ts h) = rule_end p fs ts h

-- ---- the forms of a row, one behind another, with the levels of an expression as their parts

abbrev product_flat : List Form → List Form
product_flat fs = part Unary ∷ many (one Times · part Unary) ∷ fs

abbrev sum_flat : List Form → List Form
sum_flat fs = product_flat (many ((one Plus ∣ one Minus) · part Product) ∷ fs)

abbrev comparison_flat : List Form → List Form
comparison_flat fs = sum_flat (perhaps (one Compare · part Sum) ∷ fs)

abbrev conjunction_flat : List Form → List Form
conjunction_flat fs = comparison_flat (many (one And · part Comparison) ∷ fs)

abbrev expr_flat : List Form → List Form
expr_flat fs = conjunction_flat (many (one Or · part Conjunction) ∷ fs)

abbrev part_flat : Part → List Form → List Form
part_flat Expr fs = expr_flat fs
part_flat Conjunction fs = conjunction_flat fs
part_flat Comparison fs = comparison_flat fs
part_flat Sum fs = sum_flat fs
part_flat Product fs = product_flat fs
part_flat p fs = part p ∷ fs

abbrev pub flat : Form → List Form → List Form
flat (row a b) fs = flat a (flat b fs)
flat (part p) fs = part_flat p fs
flat f fs = f ∷ fs

-- both ways
pub record Alike (fs gs : List Form) : Type 0 where
  pub to : (ts : List Terminal) → Begun fs ts → Begun gs ts
  pub from : (ts : List Terminal) → Begun gs ts → Begun fs ts

alike_self : (fs : List Form) → Alike fs fs
alike_self fs = record { to = λ ts h. h; from = λ ts h. h }

alike_trans : (fs gs hs : List Form) → Alike fs gs → Alike gs hs → Alike fs hs
alike_trans fs gs hs a b = record { to = λ ts h. b.to ts (a.to ts h); from = λ ts h. a.from ts (b.from ts h) }

row_to : (a b : Form) (fs : List Form) (ts : List Terminal) → Begun (row a b ∷ fs) ts → Begun (a ∷ b ∷ fs) ts
row_to a b fs [] h = nothing _
row_to a b fs (t ∷ ts) h = ending h

rule_to : (p : Part) (fs : List Form) (ts : List Terminal) → Begun (part p ∷ fs) ts → Begun (rule p ∷ fs) ts
rule_to p fs [] h = nothing _
rule_to p fs (t ∷ ts) h = ending h

row_alike : (a b : Form) (fs : List Form) → Alike (row a b ∷ fs) (a ∷ b ∷ fs)
row_alike a b fs = record { to = row_to a b fs; from = λ ts h. in_row a b fs ts h }

pub rule_alike : (p : Part) (fs : List Form) → Alike (part p ∷ fs) (rule p ∷ fs)
rule_alike p fs = record { to = rule_to p fs; from = λ ts h. by_rule p fs ts h }

-- behind the same forms
under : (fs gs : List Form) → ((ts : List Terminal) → Begun fs ts → Begun gs ts) → {zs : List Form} {us : List Terminal} → Begun zs us → (xs : List Form) → zs ≡ xs ++ fs → Begun (xs ++ gs) us
under fs gs go {zs} {us} h [] e = go us (subst (λ z. Begun z us) e h)
under fs gs go (nothing z) (x ∷ xs) e = nothing _
under fs gs go (taken t z ts h) (x ∷ xs) e =
    let head : one t ≡ x = cc in
    let tail : z ≡ xs ++ fs = cc in
    subst (λ f. Begun (f ∷ (xs ++ gs)) (t ∷ ts)) head (taken t (xs ++ gs) ts (under fs gs go h xs tail))
under fs gs go (in_row a b z ts h) (x ∷ xs) e =
    let head : row a b ≡ x = cc in
    let tail : z ≡ xs ++ fs = cc in
    subst (λ f. Begun (f ∷ (xs ++ gs)) ts) head (in_row a b (xs ++ gs) ts (under fs gs go h (a ∷ b ∷ xs) (ap (λ q. a ∷ b ∷ q) tail)))
under fs gs go (first a b z ts h) (x ∷ xs) e =
    let head : either a b ≡ x = cc in
    let tail : z ≡ xs ++ fs = cc in
    subst (λ f. Begun (f ∷ (xs ++ gs)) ts) head (first a b (xs ++ gs) ts (under fs gs go h (a ∷ xs) (ap (λ q. a ∷ q) tail)))
under fs gs go (second a b z ts h) (x ∷ xs) e =
    let head : either a b ≡ x = cc in
    let tail : z ≡ xs ++ fs = cc in
    subst (λ f. Begun (f ∷ (xs ++ gs)) ts) head (second a b (xs ++ gs) ts (under fs gs go h (b ∷ xs) (ap (λ q. b ∷ q) tail)))
under fs gs go (absent a z ts h) (x ∷ xs) e =
    let head : perhaps a ≡ x = cc in
    let tail : z ≡ xs ++ fs = cc in
    subst (λ f. Begun (f ∷ (xs ++ gs)) ts) head (absent a (xs ++ gs) ts (under fs gs go h xs tail))
under fs gs go (present a z ts h) (x ∷ xs) e =
    let head : perhaps a ≡ x = cc in
    let tail : z ≡ xs ++ fs = cc in
    subst (λ f. Begun (f ∷ (xs ++ gs)) ts) head (present a (xs ++ gs) ts (under fs gs go h (a ∷ xs) (ap (λ q. a ∷ q) tail)))
under fs gs go (no_more a z ts h) (x ∷ xs) e =
    let head : many a ≡ x = cc in
    let tail : z ≡ xs ++ fs = cc in
    subst (λ f. Begun (f ∷ (xs ++ gs)) ts) head (no_more a (xs ++ gs) ts (under fs gs go h xs tail))
under fs gs go (one_more a z ts h) (x ∷ xs) e =
    let head : many a ≡ x = cc in
    let tail : z ≡ xs ++ fs = cc in
    subst (λ f. Begun (f ∷ (xs ++ gs)) ts) head (one_more a (xs ++ gs) ts (under fs gs go h (a ∷ many a ∷ xs) (ap (λ q. a ∷ many a ∷ q) tail)))
under fs gs go (by_rule p z ts h) (x ∷ xs) e =
    let head : part p ≡ x = cc in
    let tail : z ≡ xs ++ fs = cc in
    subst (λ f. Begun (f ∷ (xs ++ gs)) ts) head (by_rule p (xs ++ gs) ts (under fs gs go h (rule p ∷ xs) (ap (λ q. rule p ∷ q) tail)))

behind_alike : (f : Form) (fs gs : List Form) → Alike fs gs → Alike (f ∷ fs) (f ∷ gs)
behind_alike f fs gs a = record {
  to = λ ts h. under fs gs a.to h (f ∷ []) refl;
  from = λ ts h. under gs fs a.from h (f ∷ []) refl;
}

-- a name of the grammar that stands for a row, from what the first of the row is alike to
level_alike : (p q : Part) (f : Form) (fs gs : List Form) → rule p ≡ row (part q) f → Alike (part q ∷ f ∷ fs) gs → Alike (part p ∷ fs) gs
level_alike p q f fs gs is a =
    alike_trans _ _ _ (rule_alike p fs) (alike_trans _ _ _ (subst (λ r. Alike (r ∷ fs) (part q ∷ f ∷ fs)) (sym is) (row_alike (part q) f fs)) a)

product_alike : (fs : List Form) → Alike (part Product ∷ fs) (product_flat fs)
product_alike fs = level_alike Product Unary _ fs _ refl (alike_self _)

sum_alike : (fs : List Form) → Alike (part Sum ∷ fs) (sum_flat fs)
sum_alike fs = level_alike Sum Product _ fs _ refl (product_alike _)

comparison_alike : (fs : List Form) → Alike (part Comparison ∷ fs) (comparison_flat fs)
comparison_alike fs = level_alike Comparison Sum _ fs _ refl (sum_alike _)

conjunction_alike : (fs : List Form) → Alike (part Conjunction ∷ fs) (conjunction_flat fs)
conjunction_alike fs = level_alike Conjunction Comparison _ fs _ refl (comparison_alike _)

expr_alike : (fs : List Form) → Alike (part Expr ∷ fs) (expr_flat fs)
expr_alike fs = level_alike Expr Conjunction _ fs _ refl (conjunction_alike _)

part_alike : (p : Part) (fs : List Form) → Alike (part p ∷ fs) (part_flat p fs)
part_alike Expr fs = expr_alike fs
part_alike Conjunction fs = conjunction_alike fs
part_alike Comparison fs = comparison_alike fs
part_alike Sum fs = sum_alike fs
part_alike Product fs = product_alike fs
part_alike _ fs = alike_self _

pub flat_alike : (f : Form) (fs : List Form) → Alike (f ∷ fs) (flat f fs)
flat_alike (row a b) fs =
    alike_trans _ _ _ (row_alike a b fs) (alike_trans _ _ _ (behind_alike a (b ∷ fs) (flat b fs) (flat_alike b fs)) (flat_alike a (flat b fs)))
flat_alike (part p) fs = part_alike p fs
flat_alike (one c) fs = alike_self _
flat_alike (either a b) fs = alike_self _
flat_alike (perhaps a) fs = alike_self _
flat_alike (many a) fs = alike_self _

row_flat : (a b : Form) (fs : List Form) → Alike (row a b ∷ fs) (flat a (flat b fs))
row_flat a b fs = flat_alike (row a b) fs

-- ---- what is left behind a terminal: these forms, or forms of which the terminal is not read yet

pub data Left : Type 0 where
  after : List Form → Left
  unread : List Form → Left

abbrev pub BeginsLeft : Terminal → List Terminal → List Left → Type 0
BeginsLeft t ts [] = ⊥
BeginsLeft t ts (after fs ∷ ls) = Begun fs ts ⊎ BeginsLeft t ts ls
BeginsLeft t ts (unread fs ∷ ls) = Begun fs (t ∷ ts) ⊎ BeginsLeft t ts ls

left_first : (t : Terminal) (ts : List Terminal) (xs ys : List Left) → BeginsLeft t ts xs → BeginsLeft t ts (xs ++ ys)
left_first t ts [] ys h = absurd h
left_first t ts (after fs ∷ xs) ys (inl h) = inl h
left_first t ts (after fs ∷ xs) ys (inr h) = inr (left_first t ts xs ys h)
left_first t ts (unread fs ∷ xs) ys (inl h) = inl h
left_first t ts (unread fs ∷ xs) ys (inr h) = inr (left_first t ts xs ys h)

left_second : (t : Terminal) (ts : List Terminal) (xs ys : List Left) → BeginsLeft t ts ys → BeginsLeft t ts (xs ++ ys)
left_second t ts [] ys h = h
left_second t ts (after fs ∷ xs) ys h = inr (left_second t ts xs ys h)
left_second t ts (unread fs ∷ xs) ys h = inr (left_second t ts xs ys h)

left_either : (t : Terminal) (ts : List Terminal) (xs ys : List Left) → BeginsLeft t ts (xs ++ ys) → BeginsLeft t ts xs ⊎ BeginsLeft t ts ys
left_either t ts [] ys h = inr h
left_either t ts (after fs ∷ xs) ys (inl h) = inl (inl h)
left_either t ts (after fs ∷ xs) ys (inr h) = elim (left_either t ts xs ys h) [ inl x ↦ inl (inr x) | inr y ↦ inr y ]
left_either t ts (unread fs ∷ xs) ys (inl h) = inl (inl h)
left_either t ts (unread fs ∷ xs) ys (inr h) = elim (left_either t ts xs ys h) [ inl x ↦ inl (inr x) | inr y ↦ inr y ]

-- in so many steps
abbrev pub lefts : ℕ → List Form → Terminal → List Left
lefts zero fs t = unread fs ∷ []
lefts (suc n) [] t = []
lefts (suc n) (one c ∷ fs) t = cond (same c t) (after fs ∷ []) []
lefts (suc n) (row a b ∷ fs) t = lefts n (flat a (flat b fs)) t
lefts (suc n) (either a b ∷ fs) t = lefts n (a ∷ fs) t ++ lefts n (b ∷ fs) t
lefts (suc n) (perhaps a ∷ fs) t = lefts n (a ∷ fs) t ++ lefts n fs t
lefts (suc n) (many a ∷ fs) t = lefts n (a ∷ many a ∷ fs) t ++ lefts n fs t
lefts (suc n) (part p ∷ fs) t = lefts n (rule p ∷ fs) t

one_left : (b : Bool) (c t : Terminal) (fs : List Form) (ts : List Terminal) → b ≡ same c t → (t ≡ c) → Begun fs ts → BeginsLeft t ts (cond b (after fs ∷ []) [])
one_left true c t fs ts e is h = inl h
one_left false c t fs ts e is h =
    let clash : false ≡ true = e ∙ (subst (λ x. same c x ≡ true) (sym is) (same_self c)) in absurd (no_clash clash)
  where
    no_clash : false ≡ true → ⊥
    no_clash f = cc

one_taken : (b : Bool) (c t : Terminal) (fs : List Form) (ts : List Terminal) → same c t ≡ b → BeginsLeft t ts (cond b (after fs ∷ []) []) → Begun (one c ∷ fs) (t ∷ ts)
one_taken true c t fs ts e (inl h) = subst (λ x. Begun (one c ∷ fs) (x ∷ ts)) (sym (same_is c t e)) (taken c fs ts h)
one_taken true c t fs ts e (inr h) = absurd h
one_taken false c t fs ts e h = absurd h

pub left_to : (n : ℕ) (fs : List Form) (t : Terminal) (ts : List Terminal) → Begun fs (t ∷ ts) → BeginsLeft t ts (lefts n fs t)
left_to zero fs t ts h = inl h
left_to (suc n) [] t ts h = ending h
left_to (suc n) (one c ∷ fs) t ts h = let e : (t ≡ c) × Begun fs ts = ending h in one_left (same c t) c t fs ts refl e.0 e.1
left_to (suc n) (row a b ∷ fs) t ts h = left_to n _ t ts ((row_flat a b fs).to (t ∷ ts) h)
left_to (suc n) (either a b ∷ fs) t ts h = elim (ending h) [
  | inl x ↦ left_first t ts _ _ (left_to n (a ∷ fs) t ts x)
  | inr y ↦ left_second t ts (lefts n (a ∷ fs) t) _ (left_to n (b ∷ fs) t ts y)
]
left_to (suc n) (perhaps a ∷ fs) t ts h = elim (ending h) [
  | inl x ↦ left_second t ts (lefts n (a ∷ fs) t) _ (left_to n fs t ts x)
  | inr y ↦ left_first t ts _ _ (left_to n (a ∷ fs) t ts y)
]
left_to (suc n) (many a ∷ fs) t ts h = elim (ending h) [
  | inl x ↦ left_second t ts (lefts n (a ∷ many a ∷ fs) t) _ (left_to n fs t ts x)
  | inr y ↦ left_first t ts _ _ (left_to n (a ∷ many a ∷ fs) t ts y)
]
left_to (suc n) (part p ∷ fs) t ts h = left_to n (rule p ∷ fs) t ts (ending h)

pub left_from : (n : ℕ) (fs : List Form) (t : Terminal) (ts : List Terminal) → BeginsLeft t ts (lefts n fs t) → Begun fs (t ∷ ts)
left_from zero fs t ts (inl h) = h
left_from zero fs t ts (inr h) = absurd h
left_from (suc n) [] t ts h = absurd h
left_from (suc n) (one c ∷ fs) t ts h = one_taken (same c t) c t fs ts refl h
left_from (suc n) (row a b ∷ fs) t ts h = (row_flat a b fs).from (t ∷ ts) (left_from n _ t ts h)
left_from (suc n) (either a b ∷ fs) t ts h = elim (left_either t ts (lefts n (a ∷ fs) t) (lefts n (b ∷ fs) t) h) [
  | inl x ↦ first a b fs _ (left_from n (a ∷ fs) t ts x)
  | inr y ↦ second a b fs _ (left_from n (b ∷ fs) t ts y)
]
left_from (suc n) (perhaps a ∷ fs) t ts h = elim (left_either t ts (lefts n (a ∷ fs) t) (lefts n fs t) h) [
  | inl x ↦ present a fs _ (left_from n (a ∷ fs) t ts x)
  | inr y ↦ absent a fs _ (left_from n fs t ts y)
]
left_from (suc n) (many a ∷ fs) t ts h = elim (left_either t ts (lefts n (a ∷ many a ∷ fs) t) (lefts n fs t) h) [
  | inl x ↦ one_more a fs _ (left_from n (a ∷ many a ∷ fs) t ts x)
  | inr y ↦ no_more a fs _ (left_from n fs t ts y)
]
left_from (suc n) (part p ∷ fs) t ts h = by_rule p fs _ (left_from n (rule p ∷ fs) t ts h)

-- ---- of several branches

abbrev pub branch_lefts : ℕ → List (List Form) → Terminal → List Left
branch_lefts n [] t = []
branch_lefts n (b ∷ bs) t = lefts n b t ++ branch_lefts n bs t

branches_to : (n : ℕ) (bs : List (List Form)) (t : Terminal) (ts : List Terminal) → BeginsOne bs (t ∷ ts) → BeginsLeft t ts (branch_lefts n bs t)
branches_to n [] t ts h = absurd h
branches_to n (b ∷ bs) t ts (inl h) = left_first t ts _ _ (left_to n b t ts h)
branches_to n (b ∷ bs) t ts (inr h) = left_second t ts (lefts n b t) _ (branches_to n bs t ts h)

branches_from : (n : ℕ) (bs : List (List Form)) (t : Terminal) (ts : List Terminal) → BeginsLeft t ts (branch_lefts n bs t) → BeginsOne bs (t ∷ ts)
branches_from n [] t ts h = absurd h
branches_from n (b ∷ bs) t ts h = elim (left_either t ts (lefts n b t) (branch_lefts n bs t) h) [
  | inl x ↦ inl (left_from n b t ts x)
  | inr y ↦ inr (branches_from n bs t ts y)
]

afters_to : (t : Terminal) (ts : List Terminal) (bs : List (List Form)) → BeginsLeft t ts (map after bs) → BeginsOne bs ts
afters_to t ts [] h = absurd h
afters_to t ts (b ∷ bs) (inl h) = inl h
afters_to t ts (b ∷ bs) (inr h) = inr (afters_to t ts bs h)

afters_from : (t : Terminal) (ts : List Terminal) (bs : List (List Form)) → BeginsOne bs ts → BeginsLeft t ts (map after bs)
afters_from t ts [] h = absurd h
afters_from t ts (b ∷ bs) (inl h) = inl h
afters_from t ts (b ∷ bs) (inr h) = inr (afters_from t ts bs h)

-- what is found is what is left, as it computes
pub found : (bs : List Form → List (List Form)) (t : Terminal) (r : Option Taken) → ((fs : List Form) → branch_lefts 40 (bs fs) t ≡ map after (taken_branches r fs)) → Follows bs t r
found bs t r e = record {
  goes_on = λ fs ts h. afters_to t ts (taken_branches r fs) (subst (BeginsLeft t ts) (e fs) (branches_to 40 (bs fs) t ts h));
  comes_from = λ fs ts h. branches_from 40 (bs fs) t ts (subst (BeginsLeft t ts) (sym (e fs)) (afters_from t ts (taken_branches r fs) h));
}
