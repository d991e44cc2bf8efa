-- A call of the function that a segment became begins with what the segment needs.
use Rattle.std.proofs.Common.{◌≡◌, ℕ, zero, suc, ◌+◌, ◌/◌, ◌%◌, ◌<◌, Bool, true, false, List, [], ◌∷◌, ◌++◌, map, length, Option, Some, None, refl, sym, ap, subst, ◌∙◌, arith, slice_get, length-append, append_assoc}
use Rattle.std.specs.Prelude.{cond, codes, ◌||◌, nat_lt}
use Rattle.page_types.specs.Values.{Value, UnitValue, PromiseValue}
use Rattle.page_types.specs.Tree.{Named, Expr, Program}
use Rattle.page_parts.specs.Words.{same_bytes, is_there, digits, digit_or_more, decimal_of}
use Rattle.lang_meaning.specs.Machine.{Variable, Machine, Done, Gives, Throws, Returns, OutOfFuel, value_in}
use Rattle.lang_meaning.specs.Evaluation.{Function, functions_of, number_of, names_in, unit_variables, parameters_with, end_of_call, body_of_call}
use Rattle.lang_meaning.specs.HostSteps.{HostRules}
use Rattle.lang_place.specs.NameSets.{has_name}
use Rattle.async_segments.specs.Marked.{AwaitForm, Alone, Declared, Stored, Returned, Segment, MarkedItem, AsyncFn, Plain, followed_by, marked_item_spelling, marked_spelling}
use Rattle.async_segments.specs.Names.{new_name, segment_name, rejecting_name, holds_lines}
use Rattle.async_segments.specs.Expanded.{one, all_in_segment, expanded}
use Rattle.async_segments.specs.Script.{IsOwnName, Each}
use Rattle.async_segments.specs.Meaning.{AsyncFunction, async_functions, names_of_locals, Part, later_parts, parts, reached, value_now, kept_values, function_number, segment_run, segment}
use Rattle.async_segments.specs.Promising.{KeepsPromises, EndIsTaken, KeptIsTaken, IsTaken, called_with, begun, around_body, MeansItsSegments}
use Rattle.async_segments.proofs.MeaningServed.{TakesEnd, BindsAtWait, IsServed}
use Rattle.async_segments.proofs.MeaningOwns.{owning, run-owned}
use Rattle.page_model.proofs.Holding.Evaluation.{Holds}
use Rattle.async_segments.proofs.MeaningCalls.{BlockAssigns}
use Rattle.async_segments.proofs.MeaningReturns.{IsOwn}
use Rattle.async_segments.proofs.MeaningVariables.{own_apart}
use Rattle.async_segments.proofs.MeaningSegments.{store_block, StoresOwn, IsAwaited, end_stmt, AllThere, IsBegun, body-is-segment}
use Rattle.async_segments.proofs.MeaningOwn.{AllOwn, each-first, each-second, names-own, assigns-both, all-in-segment-own, SegmentsOwn, FunctionOwn, async-own, globals-own, none-there, lines-behind, new-apart}
use Rattle.async_segments.proofs.MeaningFunctions.{first_part, later_part, part-is, same-refl, has-number, parameters_of, body_of, function_of, parts-next, part-own, rejecting_function, rejecting-own, script-has, number-is}

-- ---- what is there

pub names-back : (xs : List (List ℕ)) → map (λ (x : Named). x.name) (map new_name xs) ≡ xs
names-back [] = refl
names-back (x ∷ xs) = ap (λ z. x ∷ z) (names-back xs)

there-by : (b : Bool) (v : Value) (o : Option Value) → is_there o ≡ true → is_there (cond b (Some v) o) ≡ true
there-by true v o e = refl
there-by false v o e = e

pub there-behind : (vs us : List Variable) (x : List ℕ) → is_there (value_in us x) ≡ true → is_there (value_in (vs ++ us) x) ≡ true
there-behind [] us x e = e
there-behind (a ∷ vs) us x e = there-by (same_bytes a.name x) a.value (value_in (vs ++ us) x) (there-behind vs us x e)

thrown-there : (names : List (List ℕ)) → is_there (value_in (unit_variables ((names ++ codes "e__" ∷ []) ++ [])) (codes "e__")) ≡ true
thrown-there [] = refl
thrown-there (x ∷ names) = there-by (same_bytes x (codes "e__")) UnitValue (value_in (unit_variables ((names ++ codes "e__" ∷ []) ++ [])) (codes "e__")) (thrown-there names)

parameter-by : (a more : Bool) (v : Value) (o : Option Value) → (a || more) ≡ true → (more ≡ true → is_there o ≡ true) → is_there (cond a (Some v) o) ≡ true
parameter-by true more v o e k = refl
parameter-by false more v o e k = k e

pub parameter-there : (names : List (List ℕ)) (vs : List Value) (rest : List Variable) (x : List ℕ) → has_name names x ≡ true → is_there (value_in (parameters_with names vs ++ rest) x) ≡ true
parameter-there [] vs rest x e = absurd (cc)
parameter-there (y ∷ names) [] rest x e = parameter-by (same_bytes y x) (has_name names x) UnitValue (value_in (parameters_with names [] ++ rest) x) e (parameter-there names [] rest x)
parameter-there (y ∷ names) (v ∷ vs) rest x e = parameter-by (same_bytes y x) (has_name names x) v (value_in (parameters_with names vs ++ rest) x) e (parameter-there names vs rest x)

pub or-more : (a b : Bool) → b ≡ true → (a || b) ≡ true
or-more true b e = refl
or-more false b e = e

pub or-here : (a b : Bool) → a ≡ true → (a || b) ≡ true
or-here true b e = refl
or-here false b e = absurd (cc)

has-more : (names more : List (List ℕ)) (x : List ℕ) → has_name names x ≡ true → has_name (names ++ more) x ≡ true
has-more [] more x e = absurd (cc)
has-more (y ∷ names) more x e = by (same_bytes y x) (has_name names x) (has_name (names ++ more) x) e (has-more names more x)
  where
    by : (a b c : Bool) → (a || b) ≡ true → (b ≡ true → c ≡ true) → (a || c) ≡ true
    by true b c e k = refl
    by false b c e k = k e

all-there : (names : List (List ℕ)) (vs : List Variable) → ((x : List ℕ) → has_name names x ≡ true → is_there (value_in vs x) ≡ true) → AllThere names vs
all-there [] vs k = tt
all-there (x ∷ names) vs k = (k x (or-here (same_bytes x x) (has_name names x) (same-refl x)), all-there names vs (λ y e. k y (or-more (same_bytes x y) (has_name names y) e)))

-- the last parameter
last-there : (names : List (List ℕ)) (vs : List Value) (v : Value) (rest : List Variable) → AllOwn names → length vs ≡ length names →
    value_in (parameters_with (names ++ codes "v__" ∷ []) (vs ++ v ∷ []) ++ rest) (codes "v__") ≡ Some v
last-there [] [] v rest own e = refl
last-there [] (u ∷ vs) v rest own e = absurd (omega arith)
last-there (x ∷ names) [] v rest own e = absurd (omega arith)
last-there (x ∷ names) (u ∷ vs) v rest own e =
    ap (λ b. cond b (Some u) (value_in (parameters_with (names ++ codes "v__" ∷ []) (vs ++ v ∷ []) ++ rest) (codes "v__"))) (own_apart x (codes "v__") own.0 refl)
    ∙ last-there names vs v rest own.1 (omega (arith, e))

-- ---- what is not there

abbrev pub AllApart : List ℕ → List (List ℕ) → Type 0
AllApart y [] = Unit {0}
AllApart y (x ∷ xs) = (same_bytes x y ≡ false) × AllApart y xs

apart-both : (y : List ℕ) (a b : List (List ℕ)) → AllApart y a → AllApart y b → AllApart y (a ++ b)
apart-both y [] b p q = q
apart-both y (x ∷ a) b p q = (p.0, apart-both y a b p.1 q)

pub apart-own : (y : List ℕ) (xs : List (List ℕ)) → AllOwn xs → holds_lines y ≡ true → AllApart y xs
apart-own y [] h lines = tt
apart-own y (x ∷ xs) h lines = (own_apart x y h.0 lines, apart-own y xs h.1 lines)

pub unit-none : (y : List ℕ) (names : List (List ℕ)) → AllApart y names → is_there (value_in (unit_variables names) y) ≡ false
unit-none y [] h = refl
unit-none y (x ∷ names) h = ap (λ b. is_there (cond b (Some UnitValue) (value_in (unit_variables names) y))) h.0 ∙ unit-none y names h.1

pub parameter-none : (y : List ℕ) (names : List (List ℕ)) (vs : List Value) (rest : List Variable) → AllApart y names → is_there (value_in rest y) ≡ false → is_there (value_in (parameters_with names vs ++ rest) y) ≡ false
parameter-none y [] vs rest h e = e
parameter-none y (x ∷ names) [] rest h e = ap (λ b. is_there (cond b (Some UnitValue) (value_in (parameters_with names [] ++ rest) y))) h.0 ∙ parameter-none y names [] rest h.1 e
parameter-none y (x ∷ names) (v ∷ vs) rest h e = ap (λ b. is_there (cond b (Some v) (value_in (parameters_with names vs ++ rest) y))) h.0 ∙ parameter-none y names vs rest h.1 e

-- a decimal has a digit
digit-some : (b : Bool) (before : ℕ → List ℕ) (n : ℕ) → 0 < length (digit_or_more b before n)
digit-some true before n = omega arith
digit-some false before n = omega (arith, length-append (before (n / 10)) ((48 + n % 10) ∷ []))

pub decimal-some : (most n : ℕ) → 0 < length (digits most n)
decimal-some zero n = omega arith
decimal-some (suc most) n = digit-some (nat_lt n 10) (digits most) n

-- a name of a new function is no name of the expansion's variables
pub record IsNew (y : List ℕ) : Type 0 where
  pub lines : holds_lines y ≡ true
  pub promise : same_bytes (codes "p__") y ≡ false
  pub awaited : same_bytes (codes "v__") y ≡ false
  pub thrown : same_bytes (codes "e__") y ≡ false

pub new-is : (f d : List ℕ) → 0 < length d → IsNew (f ++ codes "__" ++ d)
new-is f d some = record {
  lines = lines-behind f d;
  promise = new-apart 112 f d some (λ e. omega (arith, e));
  awaited = new-apart 118 f d some (λ e. omega (arith, e));
  thrown = new-apart 101 f d some (λ e. omega (arith, e));
}

-- ---- the segments of a script

later-own : (ss : List Segment) → SegmentsOwn ss → (i : ℕ) (part : Part) → slice_get (later_parts ss) i ≡ Some part → StoresOwn part.stored × BlockAssigns IsOwn part.statements
later-own [] h i part e = absurd (cc)
later-own (s ∷ ss) h zero part e = subst (λ (p : Part). StoresOwn p.stored × BlockAssigns IsOwn p.statements) (part-is (later_part s ss) part e) (h.0, h.1)
later-own (s ∷ ss) h (suc i) part e = later-own ss h.2 i part e

parts-own : (f : AsyncFunction) → FunctionOwn f.parameters f.first f.others → (k : ℕ) (part : Part) → slice_get (parts f) k ≡ Some part → StoresOwn part.stored × BlockAssigns IsOwn part.statements
parts-own f h zero part e = subst (λ (p : Part). StoresOwn p.stored × BlockAssigns IsOwn p.statements) (part-is (first_part f) part e) (tt, h.first)
parts-own f h (suc i) part e = later-own f.others h.others i part e

pub script-own : (items : List MarkedItem) → Each IsOwnName (marked_spelling items) → (i : ℕ) (f : AsyncFunction) → slice_get (async_functions items) i ≡ Some f → FunctionOwn f.parameters f.first f.others
script-own [] h i f e = absurd (cc)
script-own (Plain item ∷ items) h i f e = script-own items (each-second IsOwnName (marked_item_spelling (Plain item)) (marked_spelling items) h) i f e
script-own (AsyncFn at x xs first others ∷ items) h (suc i) f e = script-own items (each-second IsOwnName (marked_item_spelling (AsyncFn at x xs first others)) (marked_spelling items) h) i f e
script-own (AsyncFn at x xs first others ∷ items) h zero f e =
    subst (λ (f : AsyncFunction). FunctionOwn f.parameters f.first f.others) (first_is e) (async-own at x xs first others (each-first IsOwnName (marked_item_spelling (AsyncFn at x xs first others)) (marked_spelling items) h))
  where
    first_is : Some (record { name = x.name; parameters = xs; first = first; others = others }) ≡ Some f → record { name = x.name; parameters = xs; first = first; others = others } ≡ f
    first_is e = cc

-- ---- a call that begins

module _ (program : Program) (f : AsyncFunction) (k : ℕ) (part : Part) (p : ℕ) (vs : List Value) (v : Value) (own : AllOwn (names_of_locals f)) (sized : length vs ≡ length (names_of_locals f)) where
  abbrev names_inside : List (List ℕ)
  names_inside = names_in (function_of f k part).body

  abbrev frame : List Variable
  frame = parameters_with (function_of f k part).parameters (called_with part.stored p vs v) ++ unit_variables names_inside

  frame-is : (stored : Option AwaitForm) → parameters_with (map (λ (x : Named). x.name) (map new_name (parameters_of stored (names_of_locals f)))) (called_with stored p vs v) ++ unit_variables names_inside
      ≡ parameters_with (parameters_of stored (names_of_locals f)) (called_with stored p vs v) ++ unit_variables names_inside
  frame-is stored = ap (λ z. parameters_with z (called_with stored p vs v) ++ unit_variables names_inside) (names-back (parameters_of stored (names_of_locals f)))

  promise-there : (stored : Option AwaitForm) → value_in (parameters_with (parameters_of stored (names_of_locals f)) (called_with stored p vs v) ++ unit_variables names_inside) (codes "p__") ≡ Some (PromiseValue p)
  promise-there None = refl
  promise-there (Some form) = refl

  awaited-there : (stored : Option AwaitForm) → IsAwaited stored (parameters_with (parameters_of stored (names_of_locals f)) (called_with stored p vs v) ++ unit_variables names_inside) v
  awaited-there None = tt
  awaited-there (Some form) = last-there (names_of_locals f) vs v (unit_variables names_inside) own sized

  locals-there : (stored : Option AwaitForm) → AllThere (names_of_locals f) (parameters_with (parameters_of stored (names_of_locals f)) (called_with stored p vs v) ++ unit_variables names_inside)
  locals-there stored = all-there (names_of_locals f) _ (λ x e. parameter-there (parameters_of stored (names_of_locals f)) (called_with stored p vs v) (unit_variables names_inside) x (has-by stored x e))
    where
      has-by : (stored : Option AwaitForm) (x : List ℕ) → has_name (names_of_locals f) x ≡ true → has_name (parameters_of stored (names_of_locals f)) x ≡ true
      has-by None x e = or-more (same_bytes (codes "p__") x) (has_name (names_of_locals f) x) e
      has-by (Some form) x e = or-more (same_bytes (codes "p__") x) (has_name (names_of_locals f ++ codes "v__" ∷ []) x) (has-more (names_of_locals f) (codes "v__" ∷ []) x e)

  end-own : (awaits : Option Expr) → BlockAssigns IsOwn (one (end_stmt f k awaits))
  end-own None = (tt, tt)
  end-own (Some e) = (tt, tt)

  store-own : (stored : Option AwaitForm) → StoresOwn stored → BlockAssigns IsOwn (store_block stored)
  store-own None h = tt
  store-own (Some Alone) h = tt
  store-own (Some (Declared x)) h = (h, tt)
  store-own (Some (Stored x)) h = (h, tt)
  store-own (Some Returned) h = (tt, (tt, tt))

  function-none : StoresOwn part.stored → BlockAssigns IsOwn part.statements → (y : List ℕ) → IsNew y → is_there (value_in frame y) ≡ false
  function-none stores assigns y new =
      ap (λ z. is_there (value_in z y)) (frame-is part.stored)
      ∙ parameter-none y (parameters_of part.stored (names_of_locals f)) (called_with part.stored p vs v) (unit_variables names_inside) (parameters-apart part.stored)
      (unit-none y names_inside (apart-both y (names_in (body_of f k part) ++ codes "e__" ∷ []) [] (apart-both y (names_in (body_of f k part)) (codes "e__" ∷ []) (apart-own y (names_in (body_of f k part)) (names-own (body_of f k part)
      (assigns-both (store_block part.stored) (followed_by (all_in_segment part.statements) (one (end_stmt f k part.awaits))) (store-own part.stored stores) (assigns-both (all_in_segment part.statements) (one (end_stmt f k part.awaits)) (all-in-segment-own part.statements assigns) (end-own part.awaits)))) new.lines) (new.thrown, tt)) tt))
    where
      parameters-apart : (stored : Option AwaitForm) → AllApart y (parameters_of stored (names_of_locals f))
      parameters-apart None = (new.promise, apart-own y (names_of_locals f) own new.lines)
      parameters-apart (Some form) = (new.promise, apart-both y (names_of_locals f) (codes "v__" ∷ []) (apart-own y (names_of_locals f) own new.lines) (new.awaited, tt))

  begins : (globals : List Variable) → AllOwn (map (λ a. a.name) globals) → StoresOwn part.stored → BlockAssigns IsOwn part.statements →
      (is_there part.awaits ≡ true → is_there (number_of (functions_of program.items) (segment_name f.name (k + 1))) ≡ true) → is_there (number_of (functions_of program.items) (rejecting_name f.name)) ≡ true →
      IsBegun program f k part p v frame globals
  begins globals owns stores assigns next rejecting = record {
    promise = ap (λ z. value_in z (codes "p__")) (frame-is part.stored) ∙ promise-there part.stored;
    awaited = subst (λ z. IsAwaited part.stored z v) (sym (frame-is part.stored)) (awaited-there part.stored);
    thrown = there-behind (parameters_with (function_of f k part).parameters (called_with part.stored p vs v)) (unit_variables names_inside) (codes "e__") (thrown-there (names_in (body_of f k part)));
    locals = subst (λ z. AllThere (names_of_locals f) z) (sym (frame-is part.stored)) (locals-there part.stored);
    next = λ e. let new = new-is f.name (decimal_of (k + 1)) (decimal-some (k + 1) (k + 1)) in
        record { local = function-none stores assigns (segment_name f.name (k + 1)) new; global = none-there globals (segment_name f.name (k + 1)) owns new.lines; number = next e };
    rejecting = λ e. let new = subst IsNew (append_assoc f.name (codes "__") (codes "r")) (new-is f.name (codes "r") (omega arith)) in
        record { local = function-none stores assigns (rejecting_name f.name) new; global = none-there globals (rejecting_name f.name) owns new.lines; number = rejecting };
    stores = stores;
    assigns = assigns;
  }

some-there : {X : Type 0} (o : Option X) → is_there o ≡ true → (x : X) × (o ≡ Some x)
some-there None e = absurd (cc)
some-there (Some x) e = (x, refl)

-- ---- the host serves the segment

module _ {H : Type 0} (rules : HostRules H) (made : H → ℕ → Type 0) (takes : H → List Value → Type 0) (keeps : KeepsPromises rules made takes) (program : Program) (p : ℕ) where
  end-served : (m : Machine H) (d : Done H) → Holds (owning rules program (λ h. made h p) (λ ask h. keeps.stays ask h p)) m d → EndIsTaken takes p d → TakesEnd rules p d
  end-served m (Gives v n) h t = tt
  end-served m (Throws v n) h t = keeps.rejects n.host p v h.1 t
  end-served m (Returns v n) h t = keeps.resolves n.host p v h.1 t
  end-served m (OutOfFuel n) h t = tt

  wait-served : (f : AsyncFunction) (k : ℕ) (d : Done H) → KeptIsTaken takes f p d → BindsAtWait rules program f k p d
  wait-served f k (Gives q m) t = λ fits. (
    keeps.binds m.host (function_number program (segment_name f.name (k + 1))) (kept_values f p m) t fits,
    keeps.binds m.host (function_number program (rejecting_name f.name)) (PromiseValue p ∷ []) (keeps.alone m.host (PromiseValue p) (map (value_now m) (names_of_locals f)) t) refl,
  )
  wait-served f k (Throws v m) t = tt
  wait-served f k (Returns v m) t = tt
  wait-served f k (OutOfFuel m) t = tt

  served : (depth : ℕ) (f : AsyncFunction) (k : ℕ) (part : Part) (v : Value) (m : Machine H) → made m.host p → IsTaken takes (around_body rules program depth) f k part p v m → IsServed rules (around_body rules program depth) f k part p v m
  served depth f k part v m owned t = record {
    settles = end-served m (segment_run (around_body rules program depth) f k part p v m) (run-owned rules program (λ h. made h p) (λ ask h. keeps.stays ask h p) depth f k part p v m owned) t.end;
    binds = wait-served f k (reached (around_body rules program depth) part v m) t.kept;
  }

pub means-its-segments : {H : Type 0} (rules : HostRules H) (made : H → ℕ → Type 0) (takes : H → List Value → Type 0) → KeepsPromises rules made takes → MeansItsSegments rules made takes
means-its-segments rules made takes keeps bytes written e names resolved i k f part found here depth number g promise vs awaited m named is sized state owned taken =
    let owns = subst (Each IsOwnName) e.source.script.marked.spelled e.source.script.names in
    let program : Program = record { items = expanded e.items; names = names } in
    let own = script-own e.items owns i f found in
    let part-of = parts-own f own k part here in
    let same = number-is (expanded e.items) resolved number g (function_of f k part) (script-has e.items i f found (function_of f k part) (part-own f k part here)) named is in
    let globals = subst AllOwn (sym state) (globals-own e.items owns) in
    let rejecting = script-has e.items i f found (rejecting_function f) (rejecting-own f) in
    let next = λ (w : is_there part.awaits ≡ true).
    (let after = some-there (slice_get (parts f) (k + 1)) (parts-next f k part here w) in
    let has = script-has e.items i f found (function_of f (k + 1) after.0) (part-own f (k + 1) after.0 after.1) in
    has-number (functions_of (expanded e.items)) (function_of f (k + 1) after.0) has.place has.here) in
    let begun-here = begins program f k part promise vs awaited own.locals sized m.globals globals part-of.0 part-of.1 next (has-number (functions_of (expanded e.items)) (rejecting_function f) rejecting.place rejecting.here) in
    subst (λ (g : Function). IsTaken takes (around_body rules program depth) f k part promise awaited (begun g (called_with part.stored promise vs awaited) m) →
    body_of_call (around_body rules program depth) (Some g) (called_with part.stored promise vs awaited) m ≡ end_of_call (segment (around_body rules program depth) f k part promise awaited (begun g (called_with part.stored promise vs awaited) m))) same
    (λ t. body-is-segment rules program depth f k part promise awaited (frame program f k part promise vs awaited own.locals sized) m.open_calls m.globals begun-here (begun (function_of f k part) (called_with part.stored promise vs awaited) m)
    (record { frame = frame program f k part promise vs awaited own.locals sized; is_open = refl; same = λ x. refl; new = λ x h. refl; names = λ x. refl })
    (served rules made takes keeps program promise depth f k part awaited (begun (function_of f k part) (called_with part.stored promise vs awaited) m) owned t)) taken
