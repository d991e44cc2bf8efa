-- Around a page from which no other numbers come, the functions of an expansion mean their segments.
use Rattle.std.proofs.Common.{◌≡◌, ℕ, Bool, true, false, ◌&&◌, ◌||◌, List, [], ◌∷◌, ◌++◌, Option, Some, None, refl, subst, arith, eqb-true}
use Rattle.std.proofs.lemmas.Bool.Decides.{nat_tests}
use Rattle.std.specs.Prelude.{◌==◌}
use Rattle.page_types.specs.Values.{Value, UnitValue, BoolValue, IntValue, TextValue, ListValue, FunValue, PromiseValue, SignalValue, ControllerValue, DeadlineValue, FaultValue, Values, no_values, with_value}
use Rattle.page_types.specs.Tree.{Program}
use Rattle.page_parts.specs.Words.{has_number}
use Rattle.lang_meaning.specs.Machine.{Variable, Machine, Done, Gives, Throws, Returns, OutOfFuel}
use Rattle.lang_meaning.specs.Evaluation.{names_in, unit_variables, parameters_with, opened}
use Rattle.page_model.specs.Operations.{was_given, is_known, are_known, all_known}
use Rattle.page_model.specs.PageHost.{Hosting, page_rules}
use Rattle.page_model.specs.Numbers.{Each, Made, IsGiven, IsKnown, VariablesAreKnown}
use Rattle.page_model.specs.Numbers as Numbers
use Rattle.page_model.proofs.GivenNumbers.Growing.{Each-append, IsKnown-grows, held, InScriptPromises}
use Rattle.page_model.proofs.Holding.Evaluation.{Holds}
use Rattle.async_segments.specs.Marked.{AwaitForm}
use Rattle.async_segments.specs.Expanded.{expanded}
use Rattle.async_segments.specs.Meaning.{AsyncFunction, names_of_locals, reached, kept_values, segment_run}
use Rattle.async_segments.specs.Promising.{EndIsTaken, KeptIsTaken, called_with, around_body}
use Rattle.async_segments.specs.OnPage.{IsMade, AreKnown, AllAreGiven, MeansItsSegmentsOnPage}
use Rattle.async_segments.proofs.MeaningBegins.{means-its-segments}
use Rattle.async_segments.proofs.PageServing.{keeps-promises}
use Rattle.async_segments.proofs.KnownRuns.{made_in, GoodHost, knowing, reached-known, run-known, values-now-known}

both : (a b : Bool) → a ≡ true → b ≡ true → (a && b) ≡ true
both true true h k = refl
both true false h k = absurd (cc)
both false b h k = absurd (cc)

given : (last number : ℕ) → IsGiven last number → was_given last number ≡ true
given last number h = let low = h.from_one in let high = h.to_last in grind (arith, nat_tests, low, high)

mutual
  known : (n : Made) (v : Value) → IsKnown n v → is_known n.promises n.signals v ≡ true
  known n UnitValue h = refl
  known n (BoolValue b) h = refl
  known n (IntValue i) h = refl
  known n (TextValue bs) h = refl
  known n (ListValue vs) h = row n vs h
  known n (FunValue f vs) h = row n vs h
  known n (PromiseValue k) h = given n.promises k h
  known n (SignalValue k) h = given n.signals k h
  known n (ControllerValue k) h = given n.signals k h
  known n (DeadlineValue t) h = refl
  known n (FaultValue name bs) h = refl

  row : (n : Made) (vs : Values) → Numbers.AreKnown n vs → are_known n.promises n.signals vs ≡ true
  row n no_values h = refl
  row n (with_value v vs) h = both (is_known n.promises n.signals v) (are_known n.promises n.signals vs) (known n v h.0) (row n vs h.1)

all : (n : Made) (args : List Value) → Each (IsKnown n) args → all_known n.promises n.signals args ≡ true
all n [] h = refl
all n (v ∷ args) h = both (is_known n.promises n.signals v) (all_known n.promises n.signals args) (known n v h.0) (all n args h.1)

-- a promise that `promise` made was given out
made-by : (n : Made) (p : ℕ) (ks : List ℕ) → Each (IsGiven n.promises) ks → has_number ks p ≡ true → IsGiven n.promises p
made-by n p [] h e = absurd (cc)
made-by n p (k ∷ ks) h e = by (k == p) refl e (made-by n p ks h.1)
  where
    by : (b : Bool) → (k == p) ≡ b → (b || has_number ks p) ≡ true → (has_number ks p ≡ true → IsGiven n.promises p) → IsGiven n.promises p
    by true f e q = subst (IsGiven n.promises) (eqb-true k p f) h.0
    by false f e q = q e

end-taken : (program : Program) (m : Machine Hosting) (p : ℕ) → IsKnown (made_in m) (PromiseValue p) → (d : Done Hosting) → Holds (knowing program) m d → EndIsTaken AreKnown p d
end-taken program m p k (Gives v r) h = tt
end-taken program m p k (Throws v r) h = all (made_in r) (PromiseValue p ∷ v ∷ []) (IsKnown-grows (made_in m) (made_in r) h.0 (PromiseValue p) k, (h.2, tt))
end-taken program m p k (Returns v r) h = all (made_in r) (PromiseValue p ∷ v ∷ []) (IsKnown-grows (made_in m) (made_in r) h.0 (PromiseValue p) k, (h.2, tt))
end-taken program m p k (OutOfFuel r) h = tt

kept-taken : (program : Program) (n : ℕ) (m : Machine Hosting) (f : AsyncFunction) (p : ℕ) → IsKnown (made_in m) (PromiseValue p) → (d : Done Hosting) → Holds (knowing program) m d → KeptIsTaken AreKnown f p d
kept-taken program n m f p k (Gives v r) h = all (made_in r) (kept_values f p r) (IsKnown-grows (made_in m) (made_in r) h.0 (PromiseValue p) k, values-now-known program n r h.1 (names_of_locals f))
kept-taken program n m f p k (Throws v r) h = tt
kept-taken program n m f p k (Returns v r) h = tt
kept-taken program n m f p k (OutOfFuel r) h = tt

-- ---- the variables of a call

parameters-known : (n : Made) (xs : List (List ℕ)) (vs : List Value) → Each (IsKnown n) vs → VariablesAreKnown n (parameters_with xs vs)
parameters-known n [] vs h = tt
parameters-known n (x ∷ xs) [] h = (tt, parameters-known n xs [] tt)
parameters-known n (x ∷ xs) (v ∷ vs) h = (h.0, parameters-known n xs vs h.1)

units-known : (n : Made) (xs : List (List ℕ)) → VariablesAreKnown n (unit_variables xs)
units-known n [] = tt
units-known n (x ∷ xs) = (tt, units-known n xs)

arguments-known : (n : Made) (stored : Option AwaitForm) (p : ℕ) (vs : List Value) (v : Value) → IsKnown n (PromiseValue p) → Each (IsKnown n) vs → IsKnown n v → Each (IsKnown n) (called_with stored p vs v)
arguments-known n None p vs v k h g = (k, h)
arguments-known n (Some form) p vs v k h g = (k, Each-append (IsKnown n) vs (v ∷ []) h (g, tt))

good-host : (m : Machine Hosting) → AllAreGiven m → GoodHost m
good-host m h = ((held (made_in m) m.host.page h.page, h.folds), h.globals, h.open_calls)

pub means-on-page : MeansItsSegmentsOnPage
means-on-page bytes written e names resolved i k f part found here depth number g p vs v m named is sized state made all_given vs_known v_known =
    let program : Program = record { items = expanded e.items; names = names } in
    let good = good-host m all_given in
    let kp : IsKnown (made_in m) (PromiseValue p) = made-by (made_in m) p m.host.page.script_promises (good.0.0 InScriptPromises) made in
    let args = called_with part.stored p vs v in
    let frame = parameters_with g.parameters args ++ unit_variables (names_in g.body) in
    let frame_known = Each-append (λ (x : Variable). IsKnown (made_in m) x.value) (parameters_with g.parameters args) (unit_variables (names_in g.body)) (parameters-known (made_in m) g.parameters args (arguments-known (made_in m) part.stored p vs v kp vs_known v_known)) (units-known (made_in m) (names_in g.body)) in
    let opened_good : GoodHost (opened frame m) = (good.0, good.1, (frame_known, good.2)) in
    means-its-segments page_rules IsMade AreKnown keeps-promises bytes written e names resolved i k f part found here depth number g p vs v m named is sized state made
    (record {
      end = end-taken program (opened frame m) p kp (segment_run (around_body page_rules program depth) f k part p v (opened frame m)) (run-known program depth f k part p v (opened frame m) opened_good v_known kp);
      kept = kept-taken program depth (opened frame m) f p kp (reached (around_body page_rules program depth) part v (opened frame m)) (reached-known program depth part v (opened frame m) opened_good v_known);
    })
