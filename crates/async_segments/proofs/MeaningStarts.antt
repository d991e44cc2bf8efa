-- An async function makes a promise, calls its first segment and gives the promise.
use Rattle.std.proofs.Common.{◌≡◌, ℕ, zero, suc, Bool, true, false, List, [], ◌∷◌, ◌++◌, map, Option, Some, None, refl, sym, ap, subst, ◌∙◌, slice_get, append_assoc}
use Rattle.std.specs.Prelude.{cond, codes}
use Rattle.std.proofs.lemmas.List.{append-nil}
use Rattle.page_types.specs.declared.FaultName.TheVariants.{TypeError}
use Rattle.page_types.specs.declared.Op.TheVariants.{MakePromise}
use Rattle.page_types.specs.Values.{Value, UnitValue, FunValue, no_values}
use Rattle.page_types.specs.Tree.{Named, Program, Expr, UnitLiteral, ReturnStmt}
use Rattle.page_parts.specs.Words.{same_bytes, is_there, without, decimal_of}
use Rattle.lang_ast.specs.Seen.{exprs_of}
use Rattle.lang_place.specs.NameSets.{has_name}
use Rattle.lang_meaning.specs.Machine.{Variable, Machine, Done, Gives, Throws, Returns, OutOfFuel, and_then, given, finish, value_in, locals, assigned, with_local, with_value_in}
use Rattle.lang_meaning.specs.OpNames.{op_named}
use Rattle.lang_meaning.specs.Evaluation.{Around, Function, functions_of, number_of, named_value, called, call_of, eval, eval_all, exec_block, unit_variables, parameters_with, opened, end_of_call, body_of_call, calls}
use Rattle.lang_meaning.specs.HostSteps.{HostRules, host_operations}
use Rattle.async_segments.specs.Marked.{MarkedItem, AsyncFn, Plain}
use Rattle.async_segments.specs.Names.{spellings, segment_name}
use Rattle.async_segments.specs.Expanded.{variables, call, promise, one, first_values, starting_body, expanded, expanded_item}
use Rattle.async_segments.specs.Script.{IsOwnName, Each}
use Rattle.async_segments.specs.Meaning.{AsyncFunction, async_functions, names_of_locals, value_now, function_number, first_values_now, starts}
use Rattle.async_segments.specs.Promising.{begun, around_body, MeansItsStarts}
use Rattle.async_segments.proofs.ItemLemmas.{functions-append}
use Rattle.async_segments.proofs.MeaningCalls.{Same, KeptBy, around_at, calls-kept, operations-kept, with-same}
use Rattle.async_segments.proofs.MeaningVariables.{with-here, eval-is, eval-now, eval-function, AreThere}
use Rattle.async_segments.proofs.MeaningOwn.{AllOwn, globals-own, none-there}
use Rattle.async_segments.proofs.MeaningFunctions.{Has, has-first, has-behind, has-number, first_part, function_of, part-own, script-has, number-is, no-operation}
use Rattle.async_segments.proofs.MeaningBegins.{new-is, decimal-some, parameter-there, parameter-none, there-behind, apart-own, unit-none, or-here, or-more, script-own}
use Rattle.async_segments.proofs.MeaningFunctions.{same-refl}

-- what an async function becomes
abbrev pub starting_function : AsyncFunction → Function
starting_function f = record {
  name = f.name;
  parameters = map (λ (x : Named). x.name) f.parameters;
  body = starting_body f.name (spellings f.parameters) (names_of_locals f);
}

starts-has : (items : List MarkedItem) (i : ℕ) (f : AsyncFunction) → slice_get (async_functions items) i ≡ Some f → Has (functions_of (expanded items)) (starting_function f)
starts-has [] i f e = absurd (cc)
starts-has (Plain item ∷ items) i f e =
    subst (λ gs. Has gs (starting_function f)) (sym (functions-append (item ∷ []) (expanded items))) (has-behind (functions_of (item ∷ [])) (functions_of (expanded items)) (starting_function f) (starts-has items i f e))
starts-has (AsyncFn at x xs first others ∷ items) (suc i) f e =
    let these = expanded_item (AsyncFn at x xs first others) in
    subst (λ gs. Has gs (starting_function f)) (sym (functions-append these (expanded items))) (has-behind (functions_of these) (functions_of (expanded items)) (starting_function f) (starts-has items i f e))
starts-has (AsyncFn at x xs first others ∷ items) zero f e =
    let these = expanded_item (AsyncFn at x xs first others) in
    subst (λ gs. Has gs (starting_function f)) (sym (functions-append these (expanded items)))
    (has-first (functions_of these) (functions_of (expanded items)) (starting_function f) (record { place = 0; here = ap (λ g. Some (starting_function g)) (first_is e) }))
  where
    first_is : Some (record { name = x.name; parameters = xs; first = first; others = others }) ≡ Some f → record { name = x.name; parameters = xs; first = first; others = others } ≡ f
    first_is e = cc

-- ---- the arguments of the first segment

module _ {H : Type 0} (w : Around H) where
  eval-names : (xs : List (List ℕ)) (es : List Expr) (vs : List Value) (next : List Value → Machine H → Done H) (m : Machine H) → AreThere w xs m →
      eval_all w (exprs_of (variables xs ++ es)) vs next m ≡ eval_all w (exprs_of es) (vs ++ map (value_now m) xs) next m
  eval-names [] es vs next m h = ap (λ z. eval_all w (exprs_of es) z next m) (sym (append-nil vs))
  eval-names (x ∷ xs) es vs next m h =
      ap (λ d. and_then d (λ v m. eval_all w (exprs_of (variables xs ++ es)) (vs ++ v ∷ []) next m)) (eval-now w m x h.0)
      ∙ (eval-names xs es (vs ++ value_now m x ∷ []) next m h.1 ∙ ap (λ z. eval_all w (exprs_of es) z next m) (append_assoc vs (value_now m x ∷ []) (map (value_now m) xs)))

  eval-units : (xs : List (List ℕ)) (vs : List Value) (next : List Value → Machine H → Done H) (m : Machine H) →
      eval_all w (exprs_of (map (λ x. UnitLiteral) xs)) vs next m ≡ next (vs ++ map (λ x. UnitValue) xs) m
  eval-units [] vs next m = ap (λ z. next z m) (sym (append-nil vs))
  eval-units (x ∷ xs) vs next m = eval-units xs (vs ++ UnitValue ∷ []) next m ∙ ap (λ z. next z m) (append_assoc vs (UnitValue ∷ []) (map (λ x. UnitValue) xs))

gives-is : {H : Type 0} (v u : Value) (m n : Machine H) → Gives v m ≡ Gives u n → v ≡ u
gives-is v u m n e = cc

-- ---- the body

module _ {H : Type 0} (rules : HostRules H) (program : Program) (n : ℕ) (f : AsyncFunction) (is_no_operation : op_named (segment_name f.name 0) ≡ None) where
  abbrev w : Around H
  w = around_at rules program n

  abbrev others : List (List ℕ)
  others = without (has_name (spellings f.parameters)) (names_of_locals f)

  -- what is known of a state in which the promise is there
  record Ready (q : Value) (m : Machine H) : Type 0 where
    promise : value_in (locals m.open_calls) (codes "p__") ≡ Some q
    parameters : AreThere w (spellings f.parameters) m
    local : is_there (value_in (locals m.open_calls) (segment_name f.name 0)) ≡ false
    global : is_there (value_in m.globals (segment_name f.name 0)) ≡ false
    number : is_there (number_of (functions_of program.items) (segment_name f.name 0)) ≡ true

  abbrev first_number : ℕ
  first_number = function_number program (segment_name f.name 0)

  called-first : (q : Value) (m : Machine H) → Ready q m →
      eval w (call (segment_name f.name 0) (promise ∷ first_values (spellings f.parameters) (names_of_locals f))) m ≡ calls program (host_operations rules) n first_number (q ∷ first_values_now f m) m
  called-first q m r =
      ap (λ d. and_then d (λ v m'. eval_all w (exprs_of (first_values (spellings f.parameters) (names_of_locals f))) (v ∷ []) (call_of w (segment_name f.name 0) m) m')) (eval-is w m (codes "p__") q r.promise)
      ∙ (eval-names w (spellings f.parameters) (map (λ x. UnitLiteral) others) (q ∷ []) (call_of w (segment_name f.name 0) m) m r.parameters
      ∙ (eval-units w others (q ∷ map (value_now m) (spellings f.parameters)) (call_of w (segment_name f.name 0) m) m
      ∙ (ap (λ o. elim o [ Some op ↦ w.operate op (q ∷ first_values_now f m) m | None ↦ given (named_value program m (segment_name f.name 0)) TypeError m (λ g m'. called w.call g (q ∷ first_values_now f m) m') ]) is_no_operation
      ∙ named (named_value program m (segment_name f.name 0)) (eval-function w m (segment_name f.name 0) r.local r.global r.number))))
    where
      named : (o : Option Value) → given o TypeError m Gives ≡ Gives (FunValue first_number no_values) m →
          given o TypeError m (λ g m'. called w.call g (q ∷ first_values_now f m) m') ≡ calls program (host_operations rules) n first_number (q ∷ first_values_now f m) m
      named None e = absurd (cc)
      named (Some v) e = ap (λ z. called w.call z (q ∷ first_values_now f m) m) (gives-is v (FunValue first_number no_values) m m e)

  -- the first segment, and then the promise
  abbrev called_then : Value → Machine H → Done H
  called_then q m = and_then (calls program (host_operations rules) n first_number (q ∷ first_values_now f m) m) (λ u r. Returns q r)

  after-call : (q : Value) (m : Machine H) → Ready q m → (d : Done H) → KeptBy (Same m) d →
      and_then (and_then d (λ v r. finish r)) (λ u r. exec_block w (one (ReturnStmt (Some promise))) r) ≡ and_then d (λ u r. Returns q r)
  after-call q m ready (Gives v r) h =
      ap (λ d. and_then (and_then d Returns) (λ u r. finish r)) (eval-is w r (codes "p__") q (ap (λ z. value_in (locals z) (codes "p__")) h.open_calls ∙ ready.promise))
  after-call q m ready (Throws v r) h = refl
  after-call q m ready (Returns v r) h = absurd h
  after-call q m ready (OutOfFuel r) h = refl

  rest-is : (q : Value) (m : Machine H) → Ready q m → and_then (and_then (eval w (call (segment_name f.name 0) (promise ∷ first_values (spellings f.parameters) (names_of_locals f))) m) (λ v r. finish r)) (λ u r. exec_block w (one (ReturnStmt (Some promise))) r) ≡ called_then q m
  rest-is q m ready =
      ap (λ d. and_then (and_then d (λ v r. finish r)) (λ u r. exec_block w (one (ReturnStmt (Some promise))) r)) (called-first q m ready)
      ∙ after-call q m ready (calls program (host_operations rules) n first_number (q ∷ first_values_now f m) m) (calls-kept rules program n first_number (q ∷ first_values_now f m) m)

  -- the body, from the promise on
  from-promise : (m : Machine H) (d : Done H) → KeptBy (Same m) d → ((q : Value) (r : Machine H) → Same m r → Ready q (assigned r (codes "p__") q)) →
      and_then (and_then d (λ v r. finish (assigned r (codes "p__") v))) (λ u r. and_then (and_then (eval w (call (segment_name f.name 0) (promise ∷ first_values (spellings f.parameters) (names_of_locals f))) r) (λ v r. finish r)) (λ u r. exec_block w (one (ReturnStmt (Some promise))) r))
      ≡ and_then d (λ q r. called_then q (assigned r (codes "p__") q))
  from-promise m (Gives q r) h ready = rest-is q (assigned r (codes "p__") q) (ready q r h)
  from-promise m (Throws v r) h ready = refl
  from-promise m (Returns v r) h ready = absurd h
  from-promise m (OutOfFuel r) h ready = refl

  body-starts : (m : Machine H) → ((q : Value) (r : Machine H) → Same m r → Ready q (assigned r (codes "p__") q)) → exec_block w (starting_body f.name (spellings f.parameters) (names_of_locals f)) m ≡ starts w f m
  body-starts m ready = from-promise m (w.operate MakePromise [] m) (operations-kept rules (calls program (host_operations rules) n) (calls-kept rules program n) MakePromise [] m) ready

-- ---- a call that begins

module _ {H : Type 0} (rules : HostRules H) (program : Program) (n : ℕ) (f : AsyncFunction) (no : op_named (segment_name f.name 0) ≡ None) (args : List Value) (m : Machine H)
    (own : AllOwn (spellings f.parameters)) (global : is_there (value_in m.globals (segment_name f.name 0)) ≡ false) (number : is_there (number_of (functions_of program.items) (segment_name f.name 0)) ≡ true) where
  abbrev frame : List Variable
  frame = parameters_with (map (λ (x : Named). x.name) f.parameters) args ++ unit_variables (codes "p__" ∷ [])

  promise-in : is_there (value_in frame (codes "p__")) ≡ true
  promise-in = there-behind (parameters_with (map (λ (x : Named). x.name) f.parameters) args) (unit_variables (codes "p__" ∷ [])) (codes "p__") refl

  first-out : is_there (value_in frame (segment_name f.name 0)) ≡ false
  first-out =
      let new = new-is f.name (decimal_of 0) (decimal-some 0 0) in
      parameter-none (segment_name f.name 0) (spellings f.parameters) args (unit_variables (codes "p__" ∷ [])) (apart-own (segment_name f.name 0) (spellings f.parameters) own new.lines) (unit-none (segment_name f.name 0) (codes "p__" ∷ []) (new.promise, tt))

  module _ (q : Value) (r : Machine H) (s : Same (opened frame m) r) where
    abbrev after : Machine H
    after = record r { open_calls = with_local r.open_calls (codes "p__") q }

    after-is : assigned r (codes "p__") q ≡ after
    after-is = ap (λ b. cond b (record r { open_calls = with_local r.open_calls (codes "p__") q }) (record r { globals = with_value_in r.globals (codes "p__") q })) (ap (λ z. is_there (value_in (locals z) (codes "p__"))) s.open_calls ∙ promise-in)

    locals-are : locals after.open_calls ≡ with_value_in frame (codes "p__") q
    locals-are = ap (λ z. locals (with_local z (codes "p__") q)) s.open_calls

    there-still : (x : List ℕ) (b : Bool) → is_there (value_in frame x) ≡ b → is_there (value_in (locals after.open_calls) x) ≡ b
    there-still x b e = ap (λ z. is_there (value_in z x)) locals-are ∙ (with-same frame (codes "p__") q x ∙ e)

    parameters-still : (names : List (List ℕ)) → ((x : List ℕ) → has_name names x ≡ true → has_name (spellings f.parameters) x ≡ true) → AreThere (around_at rules program n) names after
    parameters-still [] k = tt
    parameters-still (x ∷ names) k = (
      there-still x true (parameter-there (spellings f.parameters) args (unit_variables (codes "p__" ∷ [])) x (k x (or-here (same_bytes x x) (has_name names x) (same-refl x)))),
      parameters-still names (λ y e. k y (or-more (same_bytes x y) (has_name names y) e)),
    )

    ready-after : Ready rules program n f no q after
    ready-after = record {
      promise = ap (λ z. value_in z (codes "p__")) locals-are ∙ with-here frame (codes "p__") q promise-in;
      parameters = parameters-still (spellings f.parameters) (λ x e. e);
      local = there-still (segment_name f.name 0) false first-out;
      global = s.globals (segment_name f.name 0) ∙ global;
      number = number;
    }

  ready : (q : Value) (r : Machine H) → Same (opened frame m) r → Ready rules program n f no q (assigned r (codes "p__") q)
  ready q r s = subst (Ready rules program n f no q) (sym (after-is q r s)) (ready-after q r s)

  starting : body_of_call (around_at rules program n) (Some (starting_function f)) args m ≡ end_of_call (starts (around_at rules program n) f (begun (starting_function f) args m))
  starting = ap end_of_call (body-starts rules program n f no (opened frame m) ready)

pub means-its-starts : {H : Type 0} (rules : HostRules H) → MeansItsStarts rules
means-its-starts rules bytes written e names resolved i f found depth number g args m named is state =
    let owns = subst (Each IsOwnName) e.source.script.marked.spelled e.source.script.names in
    let program : Program = record { items = expanded e.items; names = names } in
    let own = script-own e.items owns i f found in
    let has = starts-has e.items i f found in
    let same = number-is (expanded e.items) resolved number g (starting_function f) has named is in
    let first = script-has e.items i f found (function_of f 0 (first_part f)) (part-own f 0 (first_part f) refl) in
    let globals = subst AllOwn (sym state) (globals-own e.items owns) in
    let new = new-is f.name (decimal_of 0) (decimal-some 0 0) in
    let no = no-operation (expanded e.items) resolved (function_of f 0 (first_part f)) first in
    subst (λ (g : Function). body_of_call (around_body rules program depth) (Some g) args m ≡ end_of_call (starts (around_body rules program depth) f (begun g args m))) same
    (starting rules program depth f no args m own.parameters (none-there m.globals (segment_name f.name 0) globals new.lines) (has-number (functions_of (expanded e.items)) (function_of f 0 (first_part f)) first.place first.here))
