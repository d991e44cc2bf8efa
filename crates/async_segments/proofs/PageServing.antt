-- A page is a host of promises.
use Rattle.std.proofs.Common.{◌≡◌, ℕ, Bool, true, false, List, [], ◌∷◌, Some, None, refl, ap, ◌∙◌}
use Rattle.std.specs.Prelude.{cond, Ok, length, ◌&&◌, nat_le}
use Rattle.page_types.specs.declared.FaultName.TheVariants.{TypeError, RangeError}
use Rattle.page_types.specs.declared.Op.TheVariants.{Bind, ResolveOp, RejectOp}
use Rattle.page_types.specs.Values.{Value, Values, UnitValue, ListValue, FunValue, PromiseValue, no_values, with_value, items_of, values_of}
use Rattle.page_parts.specs.Words.{is_there}
use Rattle.page_parts.specs.Kinds.{within_limits, weight, nesting}
use Rattle.lang_meaning.specs.Machine.{branch, throw_fault}
use Rattle.lang_meaning.specs.Evaluation.{answered, need}
use Rattle.lang_meaning.specs.HostSteps.{StepValue}
use Rattle.page_model.specs.PagePromises as promises
use Rattle.page_model.specs.Operations.{does, all_known, are_known, is_known}
use Rattle.page_model.specs.PageHost.{Hosting, bare, done_step, step_op, step_fault, page_rules}
use Rattle.async_segments.specs.Promising.{AnswersAtOnce, Binds, KeepsPromises}
use Rattle.async_segments.specs.OnPage.{AreKnown, IsMade, table_rules, AreAny}
use Rattle.async_segments.proofs.MadeFolds.{stays-made, stays-by-table}

-- by the table of operations
resolves-table : (h : Hosting) (p : ℕ) (v : Value) → IsMade h p → AnswersAtOnce table_rules ResolveOp (PromiseValue p ∷ v ∷ []) h
resolves-table h p v made = (UnitValue, ap (λ b. (done_step h.folds (branch b (bare h.page) (does (promises.resolve p v)) (throw_fault TypeError))).step) made)

rejects-table : (h : Hosting) (p : ℕ) (v : Value) → IsMade h p → AnswersAtOnce table_rules RejectOp (PromiseValue p ∷ v ∷ []) h
rejects-table h p v made = (UnitValue, ap (λ b. (done_step h.folds (branch b (bare h.page) (does (promises.reject p v)) (throw_fault TypeError))).step) made)

-- where the values are known
resolves : (h : Hosting) (p : ℕ) (v : Value) → IsMade h p → AreKnown h (PromiseValue p ∷ v ∷ []) → AnswersAtOnce page_rules ResolveOp (PromiseValue p ∷ v ∷ []) h
unfolding resolves-table
resolves h p v made known = (
  UnitValue,
  ap (λ b. (cond b (step_op h.folds ResolveOp (PromiseValue p ∷ v ∷ []) h.page) (step_fault h.folds TypeError h.page)).step) known
      ∙ (resolves-table h p v made).1,
)

rejects : (h : Hosting) (p : ℕ) (v : Value) → IsMade h p → AreKnown h (PromiseValue p ∷ v ∷ []) → AnswersAtOnce page_rules RejectOp (PromiseValue p ∷ v ∷ []) h
unfolding rejects-table
rejects h p v made known = (
  UnitValue,
  ap (λ b. (cond b (step_op h.folds RejectOp (PromiseValue p ∷ v ∷ []) h.page) (step_fault h.folds TypeError h.page)).step) known
      ∙ (rejects-table h p v made).1,
)

known-list : (a b : ℕ) (vs : List Value) → are_known a b (values_of vs) ≡ all_known a b vs
known-list a b [] = refl
known-list a b (v ∷ vs) = ap (λ t. is_known a b v && t) (known-list a b vs)

-- the arguments of `bind`
known-both : (a b : ℕ) (g : ℕ) (vs : List Value) → all_known a b vs ≡ true → all_known a b (FunValue g no_values ∷ ListValue (values_of vs) ∷ []) ≡ true
known-both a b g vs e = ap (λ t. t && true) (known-list a b vs ∙ e)

items-back : (vs : List Value) → values_of (items_of (values_of vs)) ≡ values_of vs
items-back [] = refl
items-back (v ∷ vs) = ap (with_value v) (items-back vs)

-- the bound arguments weigh as the list does
bound-by : (h : Hosting) (g : ℕ) (V : Values) (fits : Bool) → is_there {X = Value} (cond fits (Some (ListValue V)) None) ≡ true →
    done_step h.folds (answered (need (cond fits (Some (FunValue g V)) None) RangeError Ok) (bare h.page)) ≡ record { step = StepValue (FunValue g V); host = h }
bound-by h g V true e = refl
bound-by h g V false e = absurd (cc)

binds-table : (h : Hosting) (g : ℕ) (vs : List Value) → is_there (within_limits (ListValue (values_of vs))) ≡ true → Binds table_rules g vs h
binds-table h g vs fits =
    ap (λ V. done_step h.folds (answered (need (within_limits (FunValue g V)) RangeError Ok) (bare h.page))) (items-back vs)
    ∙ bound-by h g (values_of vs) (nat_le (weight (ListValue (values_of vs))) 65536 && nat_le (nesting (ListValue (values_of vs))) 64) fits

binds : (h : Hosting) (g : ℕ) (vs : List Value) → AreKnown h vs → is_there (within_limits (ListValue (values_of vs))) ≡ true → Binds page_rules g vs h
binds h g vs known fits =
    ap (λ b. cond b (step_op h.folds Bind (FunValue g no_values ∷ ListValue (values_of vs) ∷ []) h.page) (step_fault h.folds TypeError h.page)) (known-both (length h.page.notices.promises) (length h.page.signals) g vs known)
    ∙ binds-table h g vs fits

and-first : (a b : Bool) → (a && b) ≡ true → a ≡ true
and-first true b e = refl
and-first false b e = absurd (cc)

pub keeps-promises : KeepsPromises page_rules IsMade AreKnown
keeps-promises = record {
  stays = λ ask h p made. stays-made p ask h made;
  resolves = resolves;
  rejects = rejects;
  binds = binds;
  alone = λ h v vs known. ap (λ t. t && true) (and-first (is_known (length h.page.notices.promises) (length h.page.signals) v) (all_known (length h.page.notices.promises) (length h.page.signals) vs) known);
}

pub table-keeps-promises : KeepsPromises table_rules IsMade AreAny
table-keeps-promises = record {
  stays = λ ask h p made. stays-by-table p ask h made;
  resolves = λ h p v made any. resolves-table h p v made;
  rejects = λ h p v made any. rejects-table h p v made;
  binds = λ h g vs any fits. binds-table h g vs fits;
  alone = λ h v vs any. tt;
}
