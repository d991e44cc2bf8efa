-- What follows each terminal, computed from the grammar.
use Rattle.std.proofs.Common.{◌≡◌, ℕ, List, [], ◌∷◌, refl, sym, subst, inl, inr, ◌⊎◌}
use Rattle.std.specs.Prelude.{Bool, true, false, Option, Some, None}
use Rattle.lang_place.specs.declared.terminal.Terminal.{Terminal}
use Rattle.lang_place.specs.declared.terminal.Terminal.TheVariants.{Name, Value, Fn, Var, If, Else, While, Return, Throw, Try, Catch, OpenRound, CloseRound, OpenSquare, CloseSquare, OpenBrace, CloseBrace, Comma, Semicolon, Assign, Compare, Plus, Minus, Times, Not, And, Or, Other}
use Rattle.lang_place.specs.declared.expected.Closer.{Closer}
use Rattle.lang_place.specs.declared.expected.Closer.TheVariants as closer
use Rattle.lang_place.specs.declared.expected.Within.{Within}
use Rattle.lang_place.specs.declared.expected.Within.TheVariants as within
use Rattle.lang_place.specs.declared.expected.Expected.{Expected}
use Rattle.lang_place.specs.declared.expected.Expected.TheVariants as expect
use Rattle.lang_place.specs.declared.expected.Next.{Next}
use Rattle.lang_place.specs.declared.expected.Next.TheVariants as next
use Rattle.lang_place.specs.declared.expected.Taken.{Taken}
use Rattle.lang_place.specs.Forms as grammar
use Rattle.lang_place.specs.Forms.{Form, one, row, either, perhaps, many, part, exprs, else_if, ◌·◌, ◌∣◌}
use Rattle.lang_place.specs.Begun.{Begun, nothing, taken, in_row, first, second, absent, present, no_more, one_more, by_rule}
use Rattle.lang_place.specs.Expecting.{BeginsOne, Follows, FollowsIn, taken_branches, closer_forms, compare_forms, behind_value, else_forms, within_forms, forms, branches, to_come}
use Rattle.lang_place.proofs.Derive.{Alike, flat, flat_alike, ending, found, decide}

-- before this terminal the two are alike
pub record Same (fs gs : List Form) (t : Terminal) : Type 0 where
  pub to : (ts : List Terminal) → Begun fs (t ∷ ts) → Begun gs (t ∷ ts)
  pub from : (ts : List Terminal) → Begun gs (t ∷ ts) → Begun fs (t ∷ ts)

pub same_trans : (fs gs hs : List Form) (t : Terminal) → Same fs gs t → Same gs hs t → Same fs hs t
same_trans fs gs hs t a b = record { to = λ ts h. b.to ts (a.to ts h); from = λ ts h. a.from ts (b.from ts h) }

not_row : (c : Terminal) (y : Form) (fs : List Form) (t : Terminal) (ts : List Terminal) → (t ≡ c → ⊥) → Begun (row (one c) y ∷ fs) (t ∷ ts) → ⊥
not_row c y fs t ts n h =
    let inner : Begun (one c ∷ y ∷ fs) (t ∷ ts) = ending h in
    let parts : (t ≡ c) × Begun (y ∷ fs) ts = ending inner in n parts.0

not_sum : (y : Form) (fs : List Form) (t : Terminal) (ts : List Terminal) → (t ≡ Plus → ⊥) → (t ≡ Minus → ⊥) → Begun (row (either (one Plus) (one Minus)) y ∷ fs) (t ∷ ts) → ⊥
not_sum y fs t ts p m h =
    let inner : Begun (either (one Plus) (one Minus) ∷ y ∷ fs) (t ∷ ts) = ending h in
    let sign : Begun (one Plus ∷ y ∷ fs) (t ∷ ts) ⊎ Begun (one Minus ∷ y ∷ fs) (t ∷ ts) = ending inner in
    elim sign [
      | inl x ↦ let parts : (t ≡ Plus) × Begun (y ∷ fs) ts = ending x in p parts.0
      | inr x ↦ let parts : (t ≡ Minus) × Begun (y ∷ fs) ts = ending x in m parts.0
    ]

many_to : (a : Form) (fs : List Form) (t : Terminal) (ts : List Terminal) → (Begun (a ∷ many a ∷ fs) (t ∷ ts) → ⊥) → Begun (many a ∷ fs) (t ∷ ts) → Begun fs (t ∷ ts)
many_to a fs t ts n h =
    let cases : Begun fs (t ∷ ts) ⊎ Begun (a ∷ many a ∷ fs) (t ∷ ts) = ending h in elim cases [ inl x ↦ x | inr x ↦ absurd (n x) ]

perhaps_to : (a : Form) (fs : List Form) (t : Terminal) (ts : List Terminal) → (Begun (a ∷ fs) (t ∷ ts) → ⊥) → Begun (perhaps a ∷ fs) (t ∷ ts) → Begun fs (t ∷ ts)
perhaps_to a fs t ts n h =
    let cases : Begun fs (t ∷ ts) ⊎ Begun (a ∷ fs) (t ∷ ts) = ending h in elim cases [ inl x ↦ x | inr x ↦ absurd (n x) ]

-- what begins with another terminal is passed over

pub skip_many : (c : Terminal) (y : Form) (fs : List Form) (t : Terminal) → (t ≡ c → ⊥) → Same (many (row (one c) y) ∷ fs) fs t
skip_many c y fs t n = record { to = λ ts h. many_to _ fs t ts (not_row c y _ t ts n) h; from = λ ts h. no_more _ fs _ h }

pub skip_sum : (y : Form) (fs : List Form) (t : Terminal) → (t ≡ Plus → ⊥) → (t ≡ Minus → ⊥) → Same (many (row (either (one Plus) (one Minus)) y) ∷ fs) fs t
skip_sum y fs t p m = record { to = λ ts h. many_to _ fs t ts (not_sum y _ t ts p m) h; from = λ ts h. no_more _ fs _ h }

pub skip_perhaps : (c : Terminal) (y : Form) (fs : List Form) (t : Terminal) → (t ≡ c → ⊥) → Same (perhaps (row (one c) y) ∷ fs) fs t
skip_perhaps c y fs t n = record { to = λ ts h. perhaps_to _ fs t ts (not_row c y _ t ts n) h; from = λ ts h. absent _ fs _ h }

pub skip_compare : (b : Bool) (fs : List Form) (t : Terminal) → (t ≡ Compare → ⊥) → Same (compare_forms b fs) fs t
skip_compare true fs t n = record { to = λ ts h. h; from = λ ts h. h }
skip_compare false fs t n = skip_perhaps Compare _ fs t n

-- an expression that may be absent, and what closes it
pub perhaps_expr : (x : Form) (close : Terminal) (fs : List Form) (t : Terminal) → (t ≡ close → ⊥) → Same (perhaps x ∷ one close ∷ fs) (flat x (one close ∷ fs)) t
perhaps_expr x close fs t n = record {
  to = λ ts h.
      let cases : Begun (one close ∷ fs) (t ∷ ts) ⊎ Begun (x ∷ one close ∷ fs) (t ∷ ts) = ending h in
      elim cases [
        | inl y ↦ let parts : (t ≡ close) × Begun fs ts = ending y in absurd (n parts.0)
        | inr y ↦ (flat_alike x (one close ∷ fs)).to (t ∷ ts) y
      ];
  from = λ ts h. present x _ _ ((flat_alike x (one close ∷ fs)).from (t ∷ ts) h);
}

one_of_to : (fs gs : List Form) (t : Terminal) (ts : List Terminal) → Same fs gs t → BeginsOne (fs ∷ []) (t ∷ ts) → BeginsOne (gs ∷ []) (t ∷ ts)
one_of_to fs gs t ts s (inl h) = inl (s.to ts h)
one_of_to fs gs t ts s (inr h) = absurd h

one_of_from : (fs gs : List Form) (t : Terminal) (ts : List Terminal) → Same fs gs t → BeginsOne (gs ∷ []) (t ∷ ts) → BeginsOne (fs ∷ []) (t ∷ ts)
one_of_from fs gs t ts s (inl h) = inl (s.from ts h)
one_of_from fs gs t ts s (inr h) = absurd h

-- what follows in forms that are alike before the terminal
pub follows_alike : (a b : List Form → List Form) (t : Terminal) (r : Option Taken) → ((fs : List Form) → Same (b fs) (a fs) t) → FollowsIn a t r → FollowsIn b t r
follows_alike a b t r s h = record {
  goes_on = λ fs ts x. h.goes_on fs ts (one_of_to (b fs) (a fs) t ts (s fs) x);
  comes_from = λ fs ts x. one_of_from (b fs) (a fs) t ts (s fs) (h.comes_from fs ts x);
}

abbrev before : Next → Expected → Option Taken
before n e = Some (record { next = n; then = Some e; last = None })

-- ---- what ends an expression

pub no_argument : (t : Terminal) → (t ≡ CloseRound → ⊥) → (t ≡ Comma → ⊥) → FollowsIn (closer_forms closer.Argument) t None
no_argument CloseRound a b = absurd (a refl)
no_argument Comma a b = absurd (b refl)
no_argument _ a b = found _ _ _ (λ fs. refl)

pub no_item : (t : Terminal) → (t ≡ CloseSquare → ⊥) → (t ≡ Comma → ⊥) → FollowsIn (closer_forms closer.Item) t None
no_item CloseSquare a b = absurd (a refl)
no_item Comma a b = absurd (b refl)
no_item _ a b = found _ _ _ (λ fs. refl)

-- ---- behind a value

abbrev Behind : Bool → Closer → Terminal → Option Taken → Type 0
Behind b k t r = FollowsIn (λ fs. behind_value b (closer_forms k fs)) t r

pub place_after : (b : Bool) (k : Closer) → Behind b k OpenSquare (before (next.Part (expect.Operand false false closer.Square)) (expect.Operator b k))
place_after true closer.Bracket = found _ _ _ (λ fs. refl)
place_after false closer.Bracket = found _ _ _ (λ fs. refl)
place_after _ _ = found _ _ _ (λ fs. refl)

pub times_after : (b : Bool) (k : Closer) → Behind b k Times (to_come (next.Part (expect.Operand false b k)))
times_after true closer.Bracket = found _ _ _ (λ fs. refl)
times_after false closer.Bracket = found _ _ _ (λ fs. refl)
times_after _ _ = found _ _ _ (λ fs. refl)

pub plus_after : (b : Bool) (k : Closer) → Behind b k Plus (to_come (next.Part (expect.Operand false b k)))
plus_after true closer.Bracket = found _ _ _ (λ fs. refl)
plus_after false closer.Bracket = found _ _ _ (λ fs. refl)
plus_after _ _ = found _ _ _ (λ fs. refl)

pub minus_after : (b : Bool) (k : Closer) → Behind b k Minus (to_come (next.Part (expect.Operand false b k)))
minus_after true closer.Bracket = found _ _ _ (λ fs. refl)
minus_after false closer.Bracket = found _ _ _ (λ fs. refl)
minus_after _ _ = found _ _ _ (λ fs. refl)

pub compare_after : (k : Closer) → Behind false k Compare (to_come (next.Part (expect.Operand false true k)))
compare_after closer.Bracket = found _ _ _ (λ fs. refl)
compare_after _ = found _ _ _ (λ fs. refl)

pub no_second_compare : (k : Closer) → Behind true k Compare None
no_second_compare closer.Bracket = found _ _ _ (λ fs. refl)
no_second_compare _ = found _ _ _ (λ fs. refl)

pub and_after : (b : Bool) (k : Closer) → Behind b k And (to_come (next.Part (expect.Operand false false k)))
and_after true closer.Bracket = found _ _ _ (λ fs. refl)
and_after false closer.Bracket = found _ _ _ (λ fs. refl)
and_after _ _ = found _ _ _ (λ fs. refl)

pub or_after : (b : Bool) (k : Closer) → Behind b k Or (to_come (next.Part (expect.Operand false false k)))
or_after true closer.Bracket = found _ _ _ (λ fs. refl)
or_after false closer.Bracket = found _ _ _ (λ fs. refl)
or_after _ _ = found _ _ _ (λ fs. refl)

-- a terminal that is no operator
value_ends : (b : Bool) (t : Terminal) (fs : List Form) → (t ≡ OpenSquare → ⊥) → (t ≡ Times → ⊥) → (t ≡ Plus → ⊥) → (t ≡ Minus → ⊥) → (t ≡ Compare → ⊥) → (t ≡ And → ⊥) → (t ≡ Or → ⊥) → Same (behind_value b fs) fs t
value_ends b t fs n1 n2 n3 n4 n5 n6 n7 =
    same_trans _ _ _ _ (skip_many OpenSquare _ _ t n1) (same_trans _ _ _ _ (skip_many Times _ _ t n2) (same_trans _ _ _ _ (skip_sum _ _ t n3 n4)
    (same_trans _ _ _ _ (skip_compare b _ t n5) (same_trans _ _ _ _ (skip_many And _ _ t n6) (skip_many Or _ _ t n7)))))

pub no_operator : (b : Bool) (k : Closer) (t : Terminal) (r : Option Taken) → (t ≡ OpenSquare → ⊥) → (t ≡ Times → ⊥) → (t ≡ Plus → ⊥) → (t ≡ Minus → ⊥) → (t ≡ Compare → ⊥) → (t ≡ And → ⊥) → (t ≡ Or → ⊥) → FollowsIn (closer_forms k) t r → Behind b k t r
no_operator b k t r n1 n2 n3 n4 n5 n6 n7 h = follows_alike (closer_forms k) _ t r (λ fs. value_ends b t (closer_forms k fs) n1 n2 n3 n4 n5 n6 n7) h

-- ---- before an operand

abbrev Before : Bool → Bool → Closer → Terminal → Option Taken → Type 0
Before s b k t r = FollowsIn (forms (expect.Operand s b k)) t r

pub value_before : (s b : Bool) (k : Closer) → Before s b k Value (to_come (next.Part (expect.Operator b k)))
value_before true b k = found _ _ _ (λ fs. refl)
value_before false b k = found _ _ _ (λ fs. refl)

pub name_before : (s b : Bool) (k : Closer) → Before s b k Name (to_come (next.BehindName b k))
name_before true b k = found _ _ _ (λ fs. refl)
name_before false b k = found _ _ _ (λ fs. refl)

pub round_before : (s b : Bool) (k : Closer) → Before s b k OpenRound (before (next.Part (expect.Operand false false closer.Bracket)) (expect.Operator b k))
round_before true b k = found _ _ _ (λ fs. refl)
round_before false b k = found _ _ _ (λ fs. refl)

pub square_before : (s b : Bool) (k : Closer) → Before s b k OpenSquare (before (next.Part expect.Items) (expect.Operator b k))
square_before true b k = found _ _ _ (λ fs. refl)
square_before false b k = found _ _ _ (λ fs. refl)

pub sign_before : (b : Bool) (k : Closer) (t : Terminal) → (t ≡ Minus) ⊎ (t ≡ Not) → Before false b k t (to_come (next.Part (expect.Operand true b k)))
sign_before b k t (inl e) = rw e (found _ _ _ (λ fs. refl))
sign_before b k t (inr e) = rw e (found _ _ _ (λ fs. refl))

pub no_second_sign : (b : Bool) (k : Closer) (t : Terminal) → (t ≡ Minus) ⊎ (t ≡ Not) → Before true b k t None
no_second_sign b k t (inl e) = rw e (found _ _ _ (λ fs. refl))
no_second_sign b k t (inr e) = rw e (found _ _ _ (λ fs. refl))

pub no_operand : (s b : Bool) (k : Closer) (t : Terminal) → (t ≡ Value → ⊥) → (t ≡ Name → ⊥) → (t ≡ OpenRound → ⊥) → (t ≡ OpenSquare → ⊥) → (t ≡ Minus → ⊥) → (t ≡ Not → ⊥) → Before s b k t None
no_operand s b k Value n1 n2 n3 n4 n5 n6 = absurd (n1 refl)
no_operand s b k Name n1 n2 n3 n4 n5 n6 = absurd (n2 refl)
no_operand s b k OpenRound n1 n2 n3 n4 n5 n6 = absurd (n3 refl)
no_operand s b k OpenSquare n1 n2 n3 n4 n5 n6 = absurd (n4 refl)
no_operand s b k Minus n1 n2 n3 n4 n5 n6 = absurd (n5 refl)
no_operand s b k Not n1 n2 n3 n4 n5 n6 = absurd (n6 refl)
no_operand true b k _ n1 n2 n3 n4 n5 n6 = found _ _ _ (λ fs. refl)
no_operand false b k _ n1 n2 n3 n4 n5 n6 = found _ _ _ (λ fs. refl)

-- ---- behind a name

pub call_after : (b : Bool) (k : Closer) → Follows (branches (next.BehindName b k)) OpenRound (before (next.Part expect.Arguments) (expect.Operator b k))
call_after true closer.Bracket = found _ _ _ (λ fs. refl)
call_after false closer.Bracket = found _ _ _ (λ fs. refl)
call_after _ _ = found _ _ _ (λ fs. refl)

-- one of several branches does not begin with this terminal
two_to : (a : List Form) (c : Terminal) (fs : List Form) (t : Terminal) (ts : List Terminal) → (t ≡ c → ⊥) → BeginsOne (a ∷ (one c ∷ fs) ∷ []) (t ∷ ts) → BeginsOne (a ∷ []) (t ∷ ts)
two_to a c fs t ts n (inl h) = inl h
two_to a c fs t ts n (inr (inl h)) = let parts : (t ≡ c) × Begun fs ts = ending h in absurd (n parts.0)
two_to a c fs t ts n (inr (inr h)) = absurd h

two_from : (a b : List Form) (us : List Terminal) → BeginsOne (a ∷ []) us → BeginsOne (a ∷ b ∷ []) us
two_from a b us (inl h) = inl h
two_from a b us (inr h) = absurd h

pub no_call : (b : Bool) (k : Closer) (t : Terminal) (r : Option Taken) → (t ≡ OpenRound → ⊥) → Behind b k t r → Follows (branches (next.BehindName b k)) t r
no_call b k t r n h = record {
  goes_on = λ fs ts x. h.goes_on fs ts (two_to _ OpenRound _ t ts n x);
  comes_from = λ fs ts x. two_from _ _ _ (h.comes_from fs ts x);
}

drop_first : (c : Terminal) (fs : List Form) (bs : List (List Form)) (t : Terminal) (ts : List Terminal) → (t ≡ c → ⊥) → BeginsOne ((one c ∷ fs) ∷ bs) (t ∷ ts) → BeginsOne bs (t ∷ ts)
drop_first c fs bs t ts n (inl h) = let parts : (t ≡ c) × Begun fs ts = ending h in absurd (n parts.0)
drop_first c fs bs t ts n (inr h) = h

pub no_assignment : (t : Terminal) (r : Option Taken) → (t ≡ Assign → ⊥) → Follows (branches (next.BehindName false closer.Semicolon)) t r → Follows (branches next.BehindFirstName) t r
no_assignment t r n h = record {
  goes_on = λ fs ts x. h.goes_on fs ts (drop_first Assign _ (branches (next.BehindName false closer.Semicolon) fs) t ts n x);
  comes_from = λ fs ts x. inr (h.comes_from fs ts x);
}

-- ---- statements

abbrev In : Within → Terminal → Option Taken → Type 0
In w t r = FollowsIn (within_forms w) t r

abbrev before_two : Next → Expected → Expected → Option Taken
before_two n e l = Some (record { next = n; then = Some e; last = Some l })

pub var_in : (w : Within) → In w Var (before (next.Part expect.Variable) (expect.Statements w))
var_in within.Script = found _ _ _ (λ fs. refl)
var_in within.Block = found _ _ _ (λ fs. refl)

pub if_in : (w : Within) → In w If (before_two (next.Part expect.Condition) expect.Block (expect.Else w))
if_in within.Script = found _ _ _ (λ fs. refl)
if_in within.Block = found _ _ _ (λ fs. refl)

pub while_in : (w : Within) → In w While (before_two (next.Part expect.Condition) expect.Block (expect.Statements w))
while_in within.Script = found _ _ _ (λ fs. refl)
while_in within.Block = found _ _ _ (λ fs. refl)

pub return_in : (w : Within) → In w Return (before (next.Part expect.Returned) (expect.Statements w))
return_in within.Script = found _ _ _ (λ fs. refl)
return_in within.Block = found _ _ _ (λ fs. refl)

pub throw_in : (w : Within) → In w Throw (before (next.Part (expect.Operand false false closer.Semicolon)) (expect.Statements w))
throw_in within.Script = found _ _ _ (λ fs. refl)
throw_in within.Block = found _ _ _ (λ fs. refl)

pub try_in : (w : Within) → In w Try (before_two (next.Part expect.Block) expect.Catch (expect.Statements w))
try_in within.Script = found _ _ _ (λ fs. refl)
try_in within.Block = found _ _ _ (λ fs. refl)

pub name_in : (w : Within) → In w Name (before next.BehindFirstName (expect.Statements w))
name_in within.Script = found _ _ _ (λ fs. refl)
name_in within.Block = found _ _ _ (λ fs. refl)

pub value_in : (w : Within) → In w Value (before (next.Part (expect.Operator false closer.Semicolon)) (expect.Statements w))
value_in within.Script = found _ _ _ (λ fs. refl)
value_in within.Block = found _ _ _ (λ fs. refl)

pub round_in : (w : Within) → In w OpenRound (before_two (next.Part (expect.Operand false false closer.Bracket)) (expect.Operator false closer.Semicolon) (expect.Statements w))
round_in within.Script = found _ _ _ (λ fs. refl)
round_in within.Block = found _ _ _ (λ fs. refl)

pub square_in : (w : Within) → In w OpenSquare (before_two (next.Part expect.Items) (expect.Operator false closer.Semicolon) (expect.Statements w))
square_in within.Script = found _ _ _ (λ fs. refl)
square_in within.Block = found _ _ _ (λ fs. refl)

pub sign_in : (w : Within) (t : Terminal) → (t ≡ Minus) ⊎ (t ≡ Not) → In w t (before (next.Part (expect.Operand true false closer.Semicolon)) (expect.Statements w))
sign_in within.Script t (inl e) = rw e (found _ _ _ (λ fs. refl))
sign_in within.Script t (inr e) = rw e (found _ _ _ (λ fs. refl))
sign_in within.Block t (inl e) = rw e (found _ _ _ (λ fs. refl))
sign_in within.Block t (inr e) = rw e (found _ _ _ (λ fs. refl))

pub no_statement : (w : Within) (t : Terminal) → (t ≡ Var → ⊥) → (t ≡ If → ⊥) → (t ≡ While → ⊥) → (t ≡ Return → ⊥) → (t ≡ Throw → ⊥) → (t ≡ Try → ⊥) → (t ≡ Name → ⊥) → (t ≡ Value → ⊥) →
    (t ≡ OpenRound → ⊥) → (t ≡ OpenSquare → ⊥) → (t ≡ Minus → ⊥) → (t ≡ Not → ⊥) → (t ≡ Fn → ⊥) → (t ≡ CloseBrace → ⊥) → In w t None
no_statement w Var a b c d e f g h i j k l m n = absurd (a refl)
no_statement w If a b c d e f g h i j k l m n = absurd (b refl)
no_statement w While a b c d e f g h i j k l m n = absurd (c refl)
no_statement w Return a b c d e f g h i j k l m n = absurd (d refl)
no_statement w Throw a b c d e f g h i j k l m n = absurd (e refl)
no_statement w Try a b c d e f g h i j k l m n = absurd (f refl)
no_statement w Name a b c d e f g h i j k l m n = absurd (g refl)
no_statement w Value a b c d e f g h i j k l m n = absurd (h refl)
no_statement w OpenRound a b c d e f g h i j k l m n = absurd (i refl)
no_statement w OpenSquare a b c d e f g h i j k l m n = absurd (j refl)
no_statement w Minus a b c d e f g h i j k l m n = absurd (k refl)
no_statement w Not a b c d e f g h i j k l m n = absurd (l refl)
no_statement w Fn a b c d e f g h i j k l m n = absurd (m refl)
no_statement w CloseBrace a b c d e f g h i j k l m n = absurd (n refl)
no_statement within.Script _ a b c d e f g h i j k l m n = found _ _ _ (λ fs. refl)
no_statement within.Block _ a b c d e f g h i j k l m n = found _ _ _ (λ fs. refl)

-- ---- parts of statements

pub no_else : (w : Within) (t : Terminal) (r : Option Taken) → (t ≡ Else → ⊥) → In w t r → FollowsIn (forms (expect.Else w)) t r
no_else w t r n h = follows_alike (within_forms w) _ t r (λ fs. same_trans _ _ _ _ (skip_many Else _ _ t n) (skip_perhaps Else _ _ t n)) h

pub else_after : (w : Within) → FollowsIn (forms (expect.Else w)) Else (to_come (next.BehindElse w))
else_after within.Script = found _ _ _ (λ fs. refl)
else_after within.Block = found _ _ _ (λ fs. refl)

pub some_argument : (t : Terminal) (r : Option Taken) → (t ≡ CloseRound → ⊥) → Before false false closer.Argument t r → FollowsIn (forms expect.Arguments) t r
some_argument t r n h = follows_alike (forms (expect.Operand false false closer.Argument)) _ t r (λ fs. perhaps_expr exprs CloseRound fs t n) h

pub some_item : (t : Terminal) (r : Option Taken) → (t ≡ CloseSquare → ⊥) → Before false false closer.Item t r → FollowsIn (forms expect.Items) t r
some_item t r n h = follows_alike (forms (expect.Operand false false closer.Item)) _ t r (λ fs. perhaps_expr exprs CloseSquare fs t n) h

pub some_result : (t : Terminal) (r : Option Taken) → (t ≡ Semicolon → ⊥) → Before false false closer.Semicolon t r → FollowsIn (forms expect.Returned) t r
some_result t r n h = follows_alike (forms (expect.Operand false false closer.Semicolon)) _ t r (λ fs. perhaps_expr (part grammar.Expr) Semicolon fs t n) h

pub if_behind_else : (w : Within) → Follows (branches (next.BehindElse w)) If (before_two (next.Part expect.Condition) expect.Block (expect.Else w))
if_behind_else within.Script = found _ _ _ (λ fs. refl)
if_behind_else within.Block = found _ _ _ (λ fs. refl)

pub block_behind_else : (w : Within) → Follows (branches (next.BehindElse w)) OpenBrace (before (next.Part (expect.Statements within.Block)) (expect.Statements w))
block_behind_else within.Script = found _ _ _ (λ fs. refl)
block_behind_else within.Block = found _ _ _ (λ fs. refl)

pub nothing_behind_else : (w : Within) (t : Terminal) → (t ≡ If → ⊥) → (t ≡ OpenBrace → ⊥) → Follows (branches (next.BehindElse w)) t None
nothing_behind_else w If a b = absurd (a refl)
nothing_behind_else w OpenBrace a b = absurd (b refl)
nothing_behind_else within.Script _ a b = found _ _ _ (λ fs. refl)
nothing_behind_else within.Block _ a b = found _ _ _ (λ fs. refl)

pub closes_arguments : (t : Terminal) (r : Option Taken) → (t ≡ CloseRound → r ≡ to_come next.Done) → ((t ≡ CloseRound → ⊥) → Before false false closer.Argument t r) → FollowsIn (forms expect.Arguments) t r
closes_arguments t r same other = elim (decide t CloseRound) [
  | inl e ↦ let is : r ≡ to_come next.Done = same e in rw (e, is) (found _ _ _ (λ fs. refl))
  | inr n ↦ some_argument t r n (other n)
]

pub closes_items : (t : Terminal) (r : Option Taken) → (t ≡ CloseSquare → r ≡ to_come next.Done) → ((t ≡ CloseSquare → ⊥) → Before false false closer.Item t r) → FollowsIn (forms expect.Items) t r
closes_items t r same other = elim (decide t CloseSquare) [
  | inl e ↦ let is : r ≡ to_come next.Done = same e in rw (e, is) (found _ _ _ (λ fs. refl))
  | inr n ↦ some_item t r n (other n)
]

pub closes_return : (t : Terminal) (r : Option Taken) → (t ≡ Semicolon → r ≡ to_come next.Done) → ((t ≡ Semicolon → ⊥) → Before false false closer.Semicolon t r) → FollowsIn (forms expect.Returned) t r
closes_return t r same other = elim (decide t Semicolon) [
  | inl e ↦ let is : r ≡ to_come next.Done = same e in rw (e, is) (found _ _ _ (λ fs. refl))
  | inr n ↦ some_result t r n (other n)
]

-- one terminal alone, and then this part
one_found : (w : Terminal) (e : Expected) → FollowsIn (λ fs. one w ∷ forms e fs) w (to_come (next.Part e))
one_found w e = record {
  goes_on = λ fs ts h. to fs ts h;
  comes_from = λ fs ts h. from fs ts h;
}
  where
    to : (fs : List Form) (ts : List Terminal) → BeginsOne ((one w ∷ forms e fs) ∷ []) (w ∷ ts) → BeginsOne (forms e fs ∷ []) ts
    to fs ts (inl h) = let parts : (w ≡ w) × Begun (forms e fs) ts = ending h in inl parts.1
    to fs ts (inr h) = absurd h

    from : (fs : List Form) (ts : List Terminal) → BeginsOne (forms e fs ∷ []) ts → BeginsOne ((one w ∷ forms e fs) ∷ []) (w ∷ ts)
    from fs ts (inl h) = inl (taken w (forms e fs) ts h)
    from fs ts (inr h) = absurd h

none_found : (w : Terminal) (e : Expected) (t : Terminal) → (t ≡ w → ⊥) → FollowsIn (λ fs. one w ∷ forms e fs) t None
none_found w e t n = record {
  goes_on = λ fs ts h. to fs ts h;
  comes_from = λ fs ts h. absurd h;
}
  where
    to : (fs : List Form) (ts : List Terminal) → BeginsOne ((one w ∷ forms e fs) ∷ []) (t ∷ ts) → ⊥
    to fs ts (inl h) = let parts : (t ≡ w) × Begun (forms e fs) ts = ending h in n parts.0
    to fs ts (inr h) = h

pub only_is : (w t : Terminal) (e : Expected) (r : Option Taken) → (t ≡ w → r ≡ to_come (next.Part e)) → ((t ≡ w → ⊥) → r ≡ None) → FollowsIn (λ fs. one w ∷ forms e fs) t r
only_is w t e r same other = elim (decide t w) [
  | inl q ↦ let is : r ≡ to_come (next.Part e) = same q in rw (q, is) (one_found w e)
  | inr n ↦ let is : r ≡ None = other n in rw is (none_found w e t n)
]

pub block_is : (t : Terminal) (r : Option Taken) → FollowsIn (λ fs. one OpenBrace ∷ forms (expect.Statements within.Block) fs) t r → FollowsIn (forms expect.Block) t r
block_is t r h = follows_alike _ (forms expect.Block) t r (λ fs. record {
  to = λ ts x. (flat_alike (grammar.rule grammar.Block) fs).to (t ∷ ts) (ending x);
  from = λ ts x. by_rule grammar.Block fs _ ((flat_alike (grammar.rule grammar.Block) fs).from (t ∷ ts) x);
}) h

pub no_parameters : (t : Terminal) → (t ≡ Name → ⊥) → (t ≡ CloseRound → ⊥) → FollowsIn (forms expect.Parameters) t None
no_parameters Name a b = absurd (a refl)
no_parameters CloseRound a b = absurd (b refl)
no_parameters _ a b = found _ _ _ (λ fs. refl)

pub no_more_parameters : (t : Terminal) → (t ≡ Comma → ⊥) → (t ≡ CloseRound → ⊥) → FollowsIn (forms expect.MoreParameters) t None
no_more_parameters Comma a b = absurd (a refl)
no_more_parameters CloseRound a b = absurd (b refl)
no_more_parameters _ a b = found _ _ _ (λ fs. refl)
