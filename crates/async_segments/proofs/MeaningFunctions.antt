-- The functions of the expansion, by their names.
use Rattle.std.proofs.Common.{◌≡◌, ℕ, zero, suc, ◌+◌, Bool, true, false, List, [], ◌∷◌, ◌++◌, map, length, take, Option, Some, None, refl, sym, ap, subst, ◌∙◌, arith, append_assoc, slice_get, eq-eqb}
use Rattle.std.specs.Prelude.{cond, codes, ◌&&◌, ◌||◌}
use Rattle.std.proofs.Math.Seq.{take-append_seam}
use Rattle.page_types.specs.Tree.{Named, Expr, Block, Item, FnItem, StmtItem, TryStmt}
use Rattle.page_parts.specs.Words.{same_bytes, is_there}
use Rattle.lang_meaning.specs.OpNames.{op_named}
use Rattle.lang_meaning.specs.Evaluation.{Function, functions_of, number_of}
use Rattle.lang_ast.specs.declared.role.Role.{Role}
use Rattle.lang_ast.specs.declared.role.Role.TheVariants as role
use Rattle.lang_ast.specs.Names.{Occurrence, mention, in_stmt, inside, in_function, in_items}
use Rattle.lang_ast.specs.NameFaults.{Fault, is_function, same_scope, names_as, names_function, is_operation, is_variable, is_twice, is_unknown, is_arity, fault_of, fault_in, fault_at, IsResolved, TwiceAt, UnknownAt, ArityAt}
use Rattle.async_segments.specs.Marked.{AwaitForm, Segment, MarkedItem, AsyncFn, Plain, followed_by}
use Rattle.async_segments.specs.Names.{new_name, segment_name, rejecting_name}
use Rattle.async_segments.specs.Expanded.{variable, one, rejects, all_in_segment, end_of, store, segment_fns, later_fns, rejecting_fn, expanded, expanded_item}
use Rattle.async_segments.specs.Meaning.{AsyncFunction, async_functions, names_of_locals, Part, operand_before, later_parts, parts}
use Rattle.async_segments.proofs.ItemLemmas.{functions-append}
use Rattle.async_segments.proofs.MeaningSegments.{store_block, end_stmt}

-- a function is among these
pub record Has (fs : List Function) (g : Function) : Type 0 where
  pub place : ℕ
  pub here : slice_get fs place ≡ Some g

pub has-behind : (fs gs : List Function) (g : Function) → Has gs g → Has (fs ++ gs) g
has-behind [] gs g h = h
has-behind (f ∷ fs) gs g h = let k = has-behind fs gs g h in record { place = suc k.place; here = k.here }

pub has-first : (fs gs : List Function) (g : Function) → Has fs g → Has (fs ++ gs) g
has-first fs gs g h = record { place = h.place; here = by fs h.place h.here }
  where
    by : (fs : List Function) (k : ℕ) → slice_get fs k ≡ Some g → slice_get (fs ++ gs) k ≡ Some g
    by [] k e = absurd (cc)
    by (f ∷ fs) zero e = e
    by (f ∷ fs) (suc k) e = by fs k e

pub same-refl : (x : List ℕ) → same_bytes x x ≡ true
same-refl [] = refl
same-refl (b ∷ x) = ap (λ t. t && same_bytes x x) (eq-eqb b b refl) ∙ same-refl x

-- a name that is there has a number
pub has-number : (fs : List Function) (g : Function) (k : ℕ) → slice_get fs k ≡ Some g → is_there (number_of fs g.name) ≡ true
has-number [] g k e = absurd (cc)
has-number (f ∷ fs) g zero e =
    let same : f ≡ g = cc in
    ap (λ b. is_there {X = ℕ} (cond b (Some 0) (elim (number_of fs g.name) [ None ↦ None | Some n ↦ Some (suc n) ]))) (ap (λ h. same_bytes h.name g.name) same ∙ same-refl g.name)
has-number (f ∷ fs) g (suc k) e = by (same_bytes f.name g.name) (number_of fs g.name) (has-number fs g k e)
  where
    by : (b : Bool) (o : Option ℕ) → is_there o ≡ true → is_there {X = ℕ} (cond b (Some 0) (elim o [ None ↦ None | Some n ↦ Some (suc n) ])) ≡ true
    by true o h = refl
    by false None h = absurd (cc)
    by false (Some n) h = refl

-- ---- the functions of the segments

-- the names of the parameters
abbrev pub parameters_of : Option AwaitForm → List (List ℕ) → List (List ℕ)
parameters_of None locals = codes "p__" ∷ locals
parameters_of (Some form) locals = codes "p__" ∷ locals ++ codes "v__" ∷ []

abbrev pub body_of : AsyncFunction → ℕ → Part → Block
body_of f k part = followed_by (store_block part.stored) (followed_by (all_in_segment part.statements) (one (end_stmt f k part.awaits)))

-- what a segment becomes
abbrev pub function_of : AsyncFunction → ℕ → Part → Function
function_of f k part = record {
  name = segment_name f.name k;
  parameters = map (λ (x : Named). x.name) (map new_name (parameters_of part.stored (names_of_locals f)));
  body = one (TryStmt (body_of f k part) (new_name (codes "e__")) (one (rejects (variable (codes "e__")))));
}

-- the first segment, and a later one before these
abbrev pub first_part : AsyncFunction → Part
first_part f = record { stored = None; statements = f.first; awaits = operand_before f.others }

abbrev pub later_part : Segment → List Segment → Part
later_part s ss = record { stored = Some s.form; statements = s.statements; awaits = operand_before ss }

-- what is there is one thing
pub part-is : (a b : Part) → Some a ≡ Some b → a ≡ b
part-is a b e = cc

module _ (f : AsyncFunction) where
  abbrev L : List (List ℕ)
  L = names_of_locals f

  end-is : (k : ℕ) (ss : List Segment) → end_stmt f k (operand_before ss) ≡ end_of f.name L (k + 1) ss
  end-is k [] = refl
  end-is k (s ∷ ss) = refl

  later-is : (k : ℕ) (s : Segment) (ss : List Segment) → function_of f k (later_part s ss) ∷ functions_of (later_fns f.name L (k + 1) ss) ≡ functions_of (later_fns f.name L k (s ∷ ss))
  later-is k s ss = ap (λ z. record { name = segment_name f.name k; parameters = map (λ (x : Named). x.name) (map new_name (codes "p__" ∷ L ++ codes "v__" ∷ [])); body = one (TryStmt (followed_by (store s.form) (followed_by (all_in_segment s.statements) (one z))) (new_name (codes "e__")) (one (rejects (variable (codes "e__"))))) } ∷ functions_of (later_fns f.name L (k + 1) ss)) (end-is k ss)

  later-has : (ss : List Segment) (k i : ℕ) (part : Part) → slice_get (later_parts ss) i ≡ Some part → Has (functions_of (later_fns f.name L k ss)) (function_of f (k + i) part)
  later-has [] k i part e = absurd (cc)
  later-has (s ∷ ss) k zero part e =
      let same = part-is (later_part s ss) part e in
      let none : k + zero ≡ k = omega arith in
      subst (λ gs. Has gs (function_of f (k + zero) part)) (later-is k s ss) (record { place = 0; here = ap Some (ap (function_of f k) same ∙ sym (ap (λ j. function_of f j part) none)) })
  later-has (s ∷ ss) k (suc i) part e =
      let h = later-has ss (k + 1) i part e in
      let sum : (k + 1) + i ≡ k + suc i = omega arith in
      subst (λ gs. Has gs (function_of f (k + suc i) part)) (later-is k s ss) (record { place = suc h.place; here = h.here ∙ ap (λ j. Some (function_of f j part)) sum })

  parts-have : (k : ℕ) (part : Part) → slice_get (parts f) k ≡ Some part → Has (functions_of (segment_fns f.name L f.first f.others)) (function_of f k part)
  parts-have zero part e = record { place = 0; here = ap (λ z. Some (record { name = segment_name f.name 0; parameters = map (λ (x : Named). x.name) (map new_name (codes "p__" ∷ L)); body = one (TryStmt (followed_by (all_in_segment f.first) (one z)) (new_name (codes "e__")) (one (rejects (variable (codes "e__"))))) })) (sym (end-is 0 f.others)) ∙ ap Some (ap (function_of f 0) (part-is (first_part f) part e)) }
  parts-have (suc i) part e =
      let h = later-has f.others 1 i part e in
      let sum : 1 + i ≡ suc i = omega arith in
      record { place = suc h.place; here = h.here ∙ ap (λ j. Some (function_of f j part)) sum }

  abbrev awaits_of : Option Part → Option Expr
  awaits_of None = None
  awaits_of (Some p) = p.awaits

  -- the segment after one that waits
  later-next : (ss : List Segment) (i : ℕ) (part : Part) → slice_get (later_parts ss) i ≡ Some part → is_there part.awaits ≡ true → is_there (slice_get (later_parts ss) (suc i)) ≡ true
  later-next [] i part e w = absurd (cc)
  later-next (s ∷ []) zero part e w = let same : None ≡ part.awaits = ap awaits_of e in absurd (let no : is_there {X = Expr} None ≡ true = ap is_there same ∙ w in cc)
  later-next (s ∷ t ∷ ss) zero part e w = refl
  later-next (s ∷ ss) (suc i) part e w = later-next ss i part e w

  pub parts-next : (k : ℕ) (part : Part) → slice_get (parts f) k ≡ Some part → is_there part.awaits ≡ true → is_there (slice_get (parts f) (k + 1)) ≡ true
  parts-next zero part e w = by f.others (ap is_there (ap awaits_of e) ∙ w)
    where
      by : (ss : List Segment) → is_there (operand_before ss) ≡ true → is_there (slice_get (later_parts ss) 0) ≡ true
      by [] w = absurd (cc)
      by (s ∷ ss) w = refl
  parts-next (suc i) part e w =
      let next : suc i + 1 ≡ suc (suc i) = omega arith in
      ap (λ j. is_there (slice_get (parts f) j)) next ∙ later-next f.others i part e w

  -- the functions of the segments, and the one that rejects
  abbrev pub own_functions : List Function
  own_functions = functions_of (segment_fns f.name L f.first f.others ++ rejecting_fn f.name ∷ [])

  split-own : own_functions ≡ functions_of (segment_fns f.name L f.first f.others) ++ functions_of (rejecting_fn f.name ∷ [])
  split-own = functions-append (segment_fns f.name L f.first f.others) (rejecting_fn f.name ∷ [])

  pub part-own : (k : ℕ) (part : Part) → slice_get (parts f) k ≡ Some part → Has own_functions (function_of f k part)
  part-own k part e =
      subst (λ gs. Has gs (function_of f k part)) (sym split-own)
      (has-first (functions_of (segment_fns f.name L f.first f.others)) (functions_of (rejecting_fn f.name ∷ [])) (function_of f k part) (parts-have k part e))

  abbrev pub rejecting_function : Function
  rejecting_function = record {
    name = rejecting_name f.name;
    parameters = codes "p__" ∷ codes "r__" ∷ [];
    body = one (rejects (variable (codes "r__")));
  }

  pub rejecting-own : Has own_functions rejecting_function
  rejecting-own =
      subst (λ gs. Has gs rejecting_function) (sym split-own)
      (has-behind (functions_of (segment_fns f.name L f.first f.others)) (functions_of (rejecting_fn f.name ∷ [])) rejecting_function (record { place = 0; here = refl }))

-- they are functions of the script
pub script-has : (items : List MarkedItem) (i : ℕ) (f : AsyncFunction) → slice_get (async_functions items) i ≡ Some f → (g : Function) → Has (own_functions f) g → Has (functions_of (expanded items)) g
script-has [] i f e g h = absurd (cc)
script-has (Plain item ∷ items) i f e g h =
    subst (λ gs. Has gs g) (sym (functions-append (item ∷ []) (expanded items))) (has-behind (functions_of (item ∷ [])) (functions_of (expanded items)) g (script-has items i f e g h))
script-has (AsyncFn at x xs first others ∷ items) (suc i) f e g h =
    let these = expanded_item (AsyncFn at x xs first others) in
    subst (λ gs. Has gs g) (sym (functions-append these (expanded items))) (has-behind (functions_of these) (functions_of (expanded items)) g (script-has items i f e g h))
script-has (AsyncFn at x xs first others ∷ items) zero f e g h =
    let these = expanded_item (AsyncFn at x xs first others) in
    let here = subst (λ f. Has (own_functions f) g) (sym (first_is e)) h in
    subst (λ gs. Has gs g) (sym (functions-append these (expanded items))) (has-first (functions_of these) (functions_of (expanded items)) g (record { place = suc here.place; here = here.here }))
  where
    first_is : Some (record { name = x.name; parameters = xs; first = first; others = others }) ≡ Some f → record { name = x.name; parameters = xs; first = first; others = others } ≡ f
    first_is e = cc

-- ---- no two functions have one name

names_as-append : (kind : Role → Bool) (a b : List Occurrence) (scope : Option ℕ) (x : List ℕ) → names_as kind (a ++ b) scope x ≡ (names_as kind a scope x || names_as kind b scope x)
names_as-append kind [] b scope x = refl
names_as-append kind (o ∷ a) b scope x = by (kind o.mention.role && same_scope o.scope scope && same_bytes o.mention.name x) (names_as kind a scope x) (names_as kind (a ++ b) scope x) (names_as-append kind a b scope x)
  where
    by : (t u v : Bool) → v ≡ (u || names_as kind b scope x) → (t || v) ≡ ((t || u) || names_as kind b scope x)
    by true u v e = refl
    by false u v e = e

or-none : (a b : Bool) → (a || b) ≡ false → (a ≡ false) × (b ≡ false)
or-none true b e = absurd (cc)
or-none false b e = (refl, e)

slice_get-seam : {X : Type 0} (xs : List X) (y : X) (ys : List X) → slice_get (xs ++ y ∷ ys) (length xs) ≡ Some y
slice_get-seam [] y ys = refl
slice_get-seam (x ∷ xs) y ys = slice_get-seam xs y ys

-- a function that is no fault was not named before, and has no operation's name
abbrev fault_by : (twice : Bool) → List Occurrence → Occurrence → Option Fault
fault_by twice all o = cond twice (Some (TwiceAt o.mention.at)) (cond (is_unknown all o.mention.role o.scope o.mention.name) (Some (UnknownAt o.mention.at)) (cond (is_arity o.mention.role o.mention.name) (Some (ArityAt o.mention.at)) None))

not-twice : (twice : Bool) (all : List Occurrence) (o : Occurrence) → fault_by twice all o ≡ None → twice ≡ false
not-twice true all o e = absurd (cc)
not-twice false all o e = refl

three-false : (a b c : Bool) → (a || b || c) ≡ false → (a ≡ false) × (b ≡ false)
three-false true b c e = absurd (cc)
three-false false true c e = absurd (cc)
three-false false false c e = (refl, refl)

unfaulted : (all before : List Occurrence) (o : Occurrence) → o.mention.role ≡ role.Function → fault_of all before o ≡ None → (is_operation o.mention.name ≡ false) × (names_function before o.mention.name ≡ false)
unfaulted all before o is e =
    three-false (is_operation o.mention.name) (names_function before o.mention.name) (names_as is_variable before None o.mention.name)
    (sym (ap (λ r. is_twice all before r o.scope o.mention.name) is) ∙ not-twice (is_twice all before o.mention.role o.scope o.mention.name) all o e)

abbrev NoFaults : List Occurrence → Type 0
NoFaults all = (place : ℕ) → fault_at all place ≡ None

-- the function with a name is the one that has it
found-after : (items : List Item) (n : ℕ) (before : List Occurrence) → NoFaults (before ++ in_items n items) → (j : ℕ) (g : Function) → slice_get (functions_of items) j ≡ Some g →
    (names_function before g.name ≡ false) × (number_of (functions_of items) g.name ≡ Some j) × (is_operation g.name ≡ false)
found-after [] n before h j g e = absurd (cc)
found-after (StmtItem s ∷ items) n before h j g e =
    let further = before ++ inside None (in_stmt s) in
    let r = found-after items n further (subst NoFaults (sym (append_assoc before (inside None (in_stmt s)) (in_items n items))) h) j g e in
    ((or-none (names_function before g.name) (names_function (inside None (in_stmt s)) g.name) (sym (names_as-append is_function before (inside None (in_stmt s)) None g.name) ∙ r.0)).0, r.1, r.2)
found-after (FnItem f xs body ∷ items) n before h zero g e =
    let o : Occurrence = record { scope = None; mention = mention role.Function f } in
    let rest = inside (Some n) (in_function xs body) ++ in_items (suc n) items in
    let all = before ++ o ∷ rest in
    let here = ap (fault_in all (take (length before) all)) (sym (slice_get-seam before o rest)) ∙ h (length before) in
    let none = unfaulted all before o refl (ap (λ z. fault_of all z o) (sym (take-append_seam before (o ∷ rest))) ∙ here) in
    let same = first_is e in (
      ap (λ x. names_function before x) (sym (ap (λ k. k.name) same)) ∙ none.1,
      ap (λ k. cond (same_bytes f.name k.name) (Some 0) (elim (number_of (functions_of items) k.name) [ None ↦ None | Some m ↦ Some (suc m) ])) (sym same)
          ∙ ap (λ b. cond b (Some 0) (elim (number_of (functions_of items) f.name) [ None ↦ None | Some m ↦ Some (suc m) ])) (same-refl f.name),
      ap (λ x. is_operation x) (sym (ap (λ k. k.name) same)) ∙ none.0,
    )
  where
    first_is : Some (record { name = f.name; parameters = map (λ (x : Named). x.name) xs; body = body }) ≡ Some g → record { name = f.name; parameters = map (λ (x : Named). x.name) xs; body = body } ≡ g
    first_is e = cc
found-after (FnItem f xs body ∷ items) n before h (suc j) g e =
    let these = inside None (mention role.Function f ∷ []) ++ inside (Some n) (in_function xs body) in
    let r = found-after items (suc n) (before ++ these) (subst NoFaults (sym (append_assoc before these (in_items (suc n) items))) h) j g e in
    let parts = or-none (names_function before g.name) (names_function these g.name) (sym (names_as-append is_function before these None g.name) ∙ r.0) in
    let other = (or-none (same_bytes f.name g.name) (names_function (inside (Some n) (in_function xs body)) g.name) parts.1).0 in (
      parts.0,
      ap (λ b. cond b (Some 0) (elim (number_of (functions_of items) g.name) [ None ↦ None | Some m ↦ Some (suc m) ])) other
          ∙ ap (λ o. elim o [ None ↦ None | Some m ↦ Some (suc m) ]) r.1,
      r.2,
    )

-- the function with the name of another is that one
pub number-is : (items : List Item) → IsResolved items → (number : ℕ) (g h : Function) → Has (functions_of items) h → number_of (functions_of items) h.name ≡ Some number → slice_get (functions_of items) number ≡ Some g → h ≡ g
number-is items r number g h has e is =
    let found = (found-after items 0 [] r has.place h has.here).1 in
    let same : has.place ≡ number = place_is (sym found ∙ e) in
    function_is (sym has.here ∙ (ap (slice_get (functions_of items)) same ∙ is))
  where
    place_is : {a b : ℕ} → Some a ≡ Some b → a ≡ b
    place_is e = cc

    function_is : {a b : Function} → Some a ≡ Some b → a ≡ b
    function_is e = cc

nothing-there : {X : Type 0} (o : Option X) → is_there o ≡ false → o ≡ None
nothing-there None e = refl
nothing-there (Some x) e = absurd (cc)

-- and no function has the name of an operation
pub no-operation : (items : List Item) → IsResolved items → (h : Function) → Has (functions_of items) h → op_named h.name ≡ None
no-operation items r h has = nothing-there (op_named h.name) (found-after items 0 [] r has.place h has.here).2
