-- The variables of a call of a segment: those that the source names may change, those that the expansion adds do not.
use Rattle.std.proofs.Common.{◌≡◌, ℕ, Bool, true, false, List, [], ◌∷◌, ◌++◌, map, Option, Some, None, refl, sym, ap, ◌∙◌, append_assoc}
use Rattle.std.specs.Prelude.{cond, unwrap_or}
use Rattle.std.proofs.lemmas.List.{append-nil}
use Rattle.page_types.specs.declared.FaultName.TheVariants.{TypeError}
use Rattle.page_types.specs.Values.{Value, UnitValue, FunValue, no_values}
use Rattle.page_types.specs.Tree.{Name}
use Rattle.page_parts.specs.Words.{same_bytes, is_there}
use Rattle.lang_ast.specs.Seen.{exprs_of}
use Rattle.lang_meaning.specs.Machine.{Variable, Machine, Done, Gives, and_then, given, value_in, locals, assigned, with_local, with_value_in, or_else}
use Rattle.lang_meaning.specs.Evaluation.{Around, functions_of, number_of, function_value, eval, eval_all}
use Rattle.async_segments.specs.Names.{new_name, holds_lines}
use Rattle.async_segments.specs.Expanded.{variables}
use Rattle.async_segments.specs.Meaning.{value_now, function_number}
use Rattle.async_segments.proofs.SignLemmas.{same_is}
use Rattle.async_segments.proofs.MeaningCalls.{SameNames, IsStable, with-same}
use Rattle.async_segments.proofs.MeaningReturns.{IsOwn}

-- ---- lists of variables

apart_by : (a x y : List ℕ) (b : Bool) → same_bytes a x ≡ true → same_bytes x y ≡ false → same_bytes a y ≡ b → b ≡ false
apart_by a x y b e f g = sym g ∙ (ap (λ z. same_bytes z y) (same_is a x e) ∙ f)

-- another variable is as it was
pub with-apart : (xs : List Variable) (x : List ℕ) (v : Value) (y : List ℕ) → same_bytes x y ≡ false → value_in (with_value_in xs x v) y ≡ value_in xs y
with-apart [] x v y e = refl
with-apart (a ∷ more) x v y e = by_name (with-apart more x v y e) (same_bytes a.name x) refl
  where
    by_name : value_in (with_value_in more x v) y ≡ value_in more y → (b : Bool) → same_bytes a.name x ≡ b → value_in (cond b (record a { value = v } ∷ more) (a ∷ with_value_in more x v)) y ≡ value_in (a ∷ more) y
    by_name r true f =
        let other = apart_by a.name x y (same_bytes a.name y) f e refl in
        ap (λ b. cond b (Some v) (value_in more y)) other ∙ sym (ap (λ b. cond b (Some a.value) (value_in more y)) other)
    by_name r false f = ap (λ o. cond (same_bytes a.name y) (Some a.value) o) r

-- the variable itself
pub with-here : (xs : List Variable) (x : List ℕ) (v : Value) → is_there (value_in xs x) ≡ true → value_in (with_value_in xs x v) x ≡ Some v
with-here [] x v e = absurd (cc)
with-here (a ∷ more) x v e = by_name (with-here more x v) (same_bytes a.name x) refl e
  where
    by_name : (is_there (value_in more x) ≡ true → value_in (with_value_in more x v) x ≡ Some v) → (b : Bool) → same_bytes a.name x ≡ b → is_there (cond b (Some a.value) (value_in more x)) ≡ true
        → value_in (cond b (record a { value = v } ∷ more) (a ∷ with_value_in more x v)) x ≡ Some v
    by_name r true f e = ap (λ b. cond b (Some v) (value_in more x)) f
    by_name r false f e = ap (λ b. cond b (Some a.value) (value_in (with_value_in more x v) x)) f ∙ r e

-- a name of the source is none of the expansion
pub own_apart : (x y : List ℕ) → IsOwn x → holds_lines y ≡ true → same_bytes x y ≡ false
own_apart x y own lines = by (same_bytes x y) refl
  where
    by : (b : Bool) → same_bytes x y ≡ b → b ≡ false
    by true e = let f : false ≡ true = sym own ∙ (ap holds_lines (same_is x y e) ∙ lines) in absurd (cc)
    by false e = refl

-- ---- a call that has begun

-- A call began with these variables, above these open calls, where the global variables had these names.
pub record Fits {H : Type 0} (xs : List Variable) (rest : List (List Variable)) (globals : List Variable) (m : Machine H) : Type 0 where
  pub frame : List Variable
  pub is_open : m.open_calls ≡ frame ∷ rest
  pub same : SameNames xs frame
  pub new : (x : List ℕ) → holds_lines x ≡ true → value_in frame x ≡ value_in xs x
  pub names : SameNames globals m.globals

module _ {H : Type 0} (xs : List Variable) (rest : List (List Variable)) (globals : List Variable) where
  pub fits-stable : IsStable {H = H} (Fits xs rest globals)
  fits-stable m n h s = record { frame = h.frame; is_open = s.open_calls ∙ h.is_open; same = h.same; new = h.new; names = λ x. s.globals x ∙ h.names x }

  pub fits-assign : (m : Machine H) (x : List ℕ) (v : Value) → IsOwn x → Fits xs rest globals m → Fits xs rest globals (assigned m x v)
  fits-assign m x v own h = by_name (is_there (value_in (locals m.open_calls) x))
    where
      by_name : (b : Bool) → Fits xs rest globals (cond b (record m { open_calls = with_local m.open_calls x v }) (record m { globals = with_value_in m.globals x v }))
      by_name true = record {
        frame = with_value_in h.frame x v;
        is_open = ap (λ z. with_local z x v) h.is_open;
        same = λ y. with-same h.frame x v y ∙ h.same y;
        new = λ y lines. with-apart h.frame x v y (own_apart x y own lines) ∙ h.new y lines;
        names = h.names;
      }
      by_name false = record { frame = h.frame; is_open = h.is_open; same = h.same; new = h.new; names = λ y. with-same m.globals x v y ∙ h.names y }

  -- a variable of the expansion
  pub fits-new : (m : Machine H) (x : List ℕ) → holds_lines x ≡ true → Fits xs rest globals m → value_in (locals m.open_calls) x ≡ value_in xs x
  fits-new m x lines h = ap (λ z. value_in (locals z) x) h.is_open ∙ h.new x lines

  -- any variable that is there
  pub fits-there : (m : Machine H) (x : List ℕ) (b : Bool) → is_there (value_in xs x) ≡ b → Fits xs rest globals m → is_there (value_in (locals m.open_calls) x) ≡ b
  fits-there m x b e h = ap (λ z. is_there (value_in (locals z) x)) h.is_open ∙ (h.same x ∙ e)

-- ---- names as expressions

module _ {H : Type 0} (w : Around H) where
  pub eval-is : (m : Machine H) (x : List ℕ) (v : Value) → value_in (locals m.open_calls) x ≡ Some v → eval w (Name (new_name x)) m ≡ Gives v m
  eval-is m x v e = ap (λ o. given (or_else (or_else o (value_in m.globals x)) (function_value (number_of (functions_of w.program.items) x))) TypeError m Gives) e

  pub eval-now : (m : Machine H) (x : List ℕ) → is_there (value_in (locals m.open_calls) x) ≡ true → eval w (Name (new_name x)) m ≡ Gives (value_now m x) m
  eval-now m x e = by (value_in (locals m.open_calls) x) e
    where
      by : (o : Option Value) → is_there o ≡ true → given (or_else (or_else o (value_in m.globals x)) (function_value (number_of (functions_of w.program.items) x))) TypeError m Gives ≡ Gives (unwrap_or o UnitValue) m
      by None e = absurd (cc)
      by (Some v) e = refl

  -- the name of a function, which no variable has
  pub eval-function : (m : Machine H) (x : List ℕ) → is_there (value_in (locals m.open_calls) x) ≡ false → is_there (value_in m.globals x) ≡ false →
      is_there (number_of (functions_of w.program.items) x) ≡ true → eval w (Name (new_name x)) m ≡ Gives (FunValue (function_number w.program x) no_values) m
  eval-function m x e f g = by (value_in (locals m.open_calls) x) (value_in m.globals x) (number_of (functions_of w.program.items) x) e f g
    where
      by : (o u : Option Value) (k : Option ℕ) → is_there o ≡ false → is_there u ≡ false → is_there k ≡ true → given (or_else (or_else o u) (function_value k)) TypeError m Gives ≡ Gives (FunValue (unwrap_or k 0) no_values) m
      by (Some v) u k e f g = absurd (cc)
      by None (Some v) k e f g = absurd (cc)
      by None None None e f g = absurd (cc)
      by None None (Some i) e f g = refl

  -- all of these are local variables
  abbrev pub AreThere : List (List ℕ) → Machine H → Type 0
  AreThere [] m = Unit {0}
  AreThere (x ∷ xs) m = (is_there (value_in (locals m.open_calls) x) ≡ true) × AreThere xs m

  pub eval-all-now : (xs : List (List ℕ)) (vs : List Value) (next : List Value → Machine H → Done H) (m : Machine H) → AreThere xs m →
      eval_all w (exprs_of (variables xs)) vs next m ≡ next (vs ++ map (value_now m) xs) m
  eval-all-now [] vs next m h = ap (λ z. next z m) (sym (append-nil vs))
  eval-all-now (x ∷ xs) vs next m h =
      ap (λ d. and_then d (λ v m. eval_all w (exprs_of (variables xs)) (vs ++ v ∷ []) next m)) (eval-now m x h.0)
      ∙ (eval-all-now xs (vs ++ value_now m x ∷ []) next m h.1 ∙ ap (λ z. next z m) (append_assoc vs (value_now m x ∷ []) (map (value_now m) xs)))
