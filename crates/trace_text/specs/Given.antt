-- Lines that are given to an object one after another: what it tells then, also where one is not taken.
use Rattle.std.specs.Prelude.{◌≡◌, ◌≤◌, ◌⊎◌, ⊤, ℕ, List, [], ◌∷◌, is_some, Option, Some, None, option_and_then}
use Rattle.page_types.specs.Counts.{raised, Rose}
use Rattle.trace_text.specs.Line.{Line}
use Rattle.trace_text.specs.declared.lines.NoLine.{NoLine}
use Rattle.trace_text.specs.declared.lines.NoLine.TheVariants.{Failed, Differs, OutOfMemory}

-- How an object goes on from what it tells: after a line that it took (none where the line differs
-- from what it keeps), and what may stand after a line that failed.
pub record Keeping (T : Type 0) : Type 1 where
  pub rule : T → Line → Option T
  pub left : (before : T) → Line → (after : T) → Type 0

-- what is told after a line
abbrev pub next : {T : Type 0} → Keeping T → Option T → Line → Option T
next k told line = option_and_then (λ t. k.rule t line) told

-- what is told after these lines, in order
abbrev pub after_all : {T : Type 0} → Keeping T → Option T → List Line → Option T
after_all k told [] = told
after_all k told (line ∷ lines) = after_all k (next k told line) lines

-- what may be told after a line that failed
abbrev pub Leaves : {T : Type 0} → Keeping T → (before : Option T) → Line → (after : Option T) → Type 0
Leaves k None line after = after ≡ None
Leaves {T} k (Some t) line after = (u : T) × (after ≡ Some u) × k.left t line u

-- the line was not taken, for this reason
abbrev pub NotTaken : {T : Type 0} → Keeping T → NoLine → (told : Option T) → Line → (after : Option T) → Type 0
NotTaken k Failed told line after = Leaves k told line after
NotTaken k Differs told line after = (after ≡ told) × (next k told line ≡ None)
NotTaken k OutOfMemory told line after = after ≡ told

abbrev pub IsMemory : NoLine → Type 0
IsMemory Failed = ⊥
IsMemory Differs = ⊥
IsMemory OutOfMemory = ⊤

-- Of these lines the first ones were taken, and no more: the next one was not taken, for this reason.
-- Memory may also be wanted behind the last one.
abbrev pub StopsAmong : {T : Type 0} → Keeping T → NoLine → (told : Option T) → List Line → (after : Option T) → Type 0
StopsAmong k why told [] after = IsMemory why × (after ≡ told)
StopsAmong k why told (line ∷ lines) after = NotTaken k why told line after ⊎ StopsAmong k why (next k told line) lines after

-- What a contract sees of an object that takes lines: what it tells, where it tells, and its two counts.
pub record Seen (T : Type 0) : Type 0 where
  pub told : Option T
  pub faults : ℕ
  pub refusals : ℕ

-- all of these lines were taken, in order; or the call stopped among them, for this reason
abbrev pub GivesTold : {T : Type 0} → Keeping T → (told : Option T) → List Line → Option NoLine → (after : Option T) → Type 0
GivesTold k told lines None after = (after ≡ after_all k told lines) × (is_some after ≡ is_some told)
GivesTold k told lines (Some why) after = StopsAmong k why told lines after

-- the count of refusals after a call
abbrev pub line_refusals : ℕ → Option NoLine → ℕ
line_refusals before None = before
line_refusals before (Some Failed) = before
line_refusals before (Some Differs) = raised before
line_refusals before (Some OutOfMemory) = before

-- The call gave these lines, or stopped among them for this reason. Failed comes only where the count
-- of faults rose, and the refusals are exactly the answers Differs.
pub record Gives {T : Type 0} (k : Keeping T) (old : Seen T) (lines : List Line) (why : Option NoLine) (new : Seen T) : Type 0 where
  pub told : GivesTold k old.told lines why new.told
  pub later : old.faults ≤ new.faults
  pub failed : why ≡ Some Failed → Rose old.faults new.faults
  pub differs : new.refusals ≡ line_refusals old.refusals why
