-- Host closures that are fired among lines: what a run has done to them where it stopped. Ours
use Rattle.std.specs.Prelude.{◌≡◌, ◌⊎◌, ℕ, Bool, true, false, List}
use Rattle.std.specs.List.{list_any}
use Rattle.page_types.specs.declared.HostMark.TheVariants.{Fired, Dropped}
use Rattle.page_parts.specs.HostClosures.{HostClosure}
use Rattle.page_laws.specs.CallLaws.{is_answer_of}
use Rattle.page_laws.specs.ClosureMarks.{HasMark}
use Rattle.trace_text.specs.Line.{Line, Head, Of}

-- whether a line tells that closure number k answered
abbrev pub tells_answer : (k : ℕ) → Line → Bool
tells_answer k (Head form) = false
tells_answer k (Of e) = is_answer_of k e.event

-- whether one of these lines does
abbrev pub has_told : (k : ℕ) → List Line → Bool
has_told k lines = list_any (tells_answer k) lines

-- A closure is fired only where it was so before or one of these lines tells its answer, and dropped only where it was so before.
pub record FiresAmong (lines : List Line) (before after : List HostClosure) : Type 0 where
  pub fired : (k : ℕ) → HasMark Fired after k → HasMark Fired before k ⊎ has_told k lines ≡ true
  pub dropped : (k : ℕ) → HasMark Dropped after k → HasMark Dropped before k
