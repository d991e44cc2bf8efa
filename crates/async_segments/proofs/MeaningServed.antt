-- A host serves a segment: it settles the promise where the segment ends, and binds where it waits.
use Rattle.std.proofs.Common.{◌≡◌, ℕ, ◌+◌, true, [], ◌∷◌}
use Rattle.page_types.specs.declared.Op.TheVariants.{ResolveOp, RejectOp}
use Rattle.page_types.specs.Values.{Value, ListValue, PromiseValue, values_of}
use Rattle.page_types.specs.Tree.{Program}
use Rattle.page_parts.specs.Words.{is_there}
use Rattle.page_parts.specs.Kinds.{within_limits}
use Rattle.lang_meaning.specs.Machine.{Machine, Done, Gives, Throws, Returns, OutOfFuel}
use Rattle.lang_meaning.specs.Evaluation.{Around}
use Rattle.lang_meaning.specs.HostSteps.{HostRules}
use Rattle.async_segments.specs.Names.{segment_name, rejecting_name}
use Rattle.async_segments.specs.Meaning.{AsyncFunction, Part, reached, kept_values, function_number, segment_run}
use Rattle.async_segments.specs.Promising.{AnswersAtOnce, Binds}

-- `resolve` takes what a segment returns, and `reject` what it throws, as both do where the promise was made by `promise`
abbrev pub TakesEnd : {H : Type 0} → HostRules H → ℕ → Done H → Type 0
TakesEnd rules promise (Gives v m) = Unit {0}
TakesEnd rules promise (Throws v m) = AnswersAtOnce rules RejectOp (PromiseValue promise ∷ v ∷ []) m.host
TakesEnd rules promise (Returns v m) = AnswersAtOnce rules ResolveOp (PromiseValue promise ∷ v ∷ []) m.host
TakesEnd rules promise (OutOfFuel m) = Unit {0}

-- it does so where a segment waits
abbrev pub BindsAtWait : {H : Type 0} → HostRules H → Program → AsyncFunction → ℕ → ℕ → Done H → Type 0
BindsAtWait rules program f k promise (Gives q m) =
    is_there (within_limits (ListValue (values_of (kept_values f promise m)))) ≡ true →
    Binds rules (function_number program (segment_name f.name (k + 1))) (kept_values f promise m) m.host ×
    Binds rules (function_number program (rejecting_name f.name)) (PromiseValue promise ∷ []) m.host
BindsAtWait rules program f k promise (Throws v m) = Unit {0}
BindsAtWait rules program f k promise (Returns v m) = Unit {0}
BindsAtWait rules program f k promise (OutOfFuel m) = Unit {0}

-- both, for a segment in a state
pub record IsServed {H : Type 0} (rules : HostRules H) (w : Around H) (f : AsyncFunction) (k : ℕ) (part : Part) (promise : ℕ)
    (awaited : Value) (m : Machine H) : Type 0 where
  pub settles : TakesEnd rules promise (segment_run w f k part promise awaited m)
  pub binds : BindsAtWait rules w.program f k promise (reached w part awaited m)
