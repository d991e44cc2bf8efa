-- What a function of the parser decides: which part stands at the front of the symbols, and where it ends; or that none does.
use Rattle.std.specs.Prelude.{◌≡◌, ⊤, List, Result, Ok, Err}
use Rattle.lang_parse.specs.declared.error.ParseError.{ParseError}
use Rattle.lang_parse.specs.declared.error.ParseError.TheVariants.{NoParse, OutOfMemory}
use Rattle.lang_parse.specs.Symbols.{Symbol}

-- nothing is read, where the rest is to stop
pub record Never {X : Type 0} (R : X → List Symbol → List Symbol → Type 0) (Stop : List Symbol → Type 0) (ks : List Symbol) : Type 0 where
  pub none : (x : X) (end : List Symbol) → R x ks end → Stop end → ⊥

-- whatever is read, the rest is this one, where it is to stop
pub record Ends {X : Type 0} (R : X → List Symbol → List Symbol → Type 0) (Stop : List Symbol → Type 0)
    (ks rest : List Symbol) : Type 0 where
  pub same : (x : X) (end : List Symbol) → R x ks end → Stop end → end ≡ rest

-- nothing is read, unless memory ran out
abbrev pub Fails : {X : Type 0} → (X → List Symbol → List Symbol → Type 0) → (List Symbol → Type 0) → List Symbol → ParseError → Type 0
Fails R Stop ks (NoParse left) = Never R Stop ks
Fails R Stop ks OutOfMemory = ⊤

-- what was returned is read, and its rest is the only one; or nothing is read, unless memory ran out
abbrev pub Decides : {X Y : Type 0} → (X → List Symbol → List Symbol → Type 0) → (List Symbol → Type 0) → List Symbol
    → (Y → X × List Symbol) → Result Y ParseError → Type 0
Decides R Stop ks seen (Ok y) = R (seen y).0 ks (seen y).1 × Ends R Stop ks (seen y).1
Decides R Stop ks seen (Err e) = Fails R Stop ks e
