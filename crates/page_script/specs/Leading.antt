-- The combinators of the code, when an element may report, and what may become an item.
use Rattle.std.specs.Prelude.{◌≡◌, ℕ, false, ◌<◌, ◌≤◌, ◌+◌, ◌^◌, length, Option, Some, None, List, map}
use Rattle.page_parts.specs.Words.{numbered, with_numbered}
use Rattle.page_parts.specs.Combinators.{Report, with_report}
use Rattle.promise_core.specs.Held.{IsMade}
use Rattle.promise_combine.specs.Reports.{has_reported}
use Rattle.page_notices.specs.Steps.{held}
use Rattle.page_model.specs.State as m
use Rattle.page_model.specs.State.{Page}
use Rattle.page_types.specs.Values.{Value}
use Rattle.page_parts.specs.Kinds.{promise_in}
use Rattle.page_model.specs.PageCombinators.{no_combining, combining_at, with_combining}
use Rattle.page_script.specs.declared.combiner.Combining.{Combining}
use Rattle.page_script.specs.Script.{Script}

abbrev pub combining_seen : Combining → m.Combining
combining_seen c = record { combine = c.combine; result = c.result }

-- the combinators as they are seen, and the one with number n
abbrev pub all_seen : List Combining → List m.Combining
all_seen cs = map combining_seen cs

abbrev pub combining_in : List Combining → ℕ → m.Combining
combining_in cs n = numbered (all_seen cs) n no_combining

-- a combinator with one more report
abbrev pub reported : Report → m.Combining → m.Combining
reported r c = record c { combine = with_report r c.combine }

-- a report was noted at combinator number n
abbrev pub IsNotedAt : ℕ → Report → (old new : List Combining) → Type 0
IsNotedAt n r old new = all_seen new ≡ with_numbered (all_seen old) n (reported r (combining_in old n))

-- a report is noted at combinator number n, what it brings not yet
abbrev pub noted_at : ℕ → Report → Page → Page
noted_at n r p = with_combining n (reported r (combining_at p n)) p

-- the element of combinator number n at a place may report: the combinator was made, the place is one of it and has not reported
pub record MayReport (n place : ℕ) (cs : List Combining) : Type 0 where
  pub counted : 0 < n
  pub made : n ≤ length cs
  pub within : place < (combining_in cs n).combine.count
  pub fresh : has_reported place (combining_in cs n).combine ≡ false

-- a value may become the item of a combinator: a promise was made, and for any other value one more promise is left
abbrev pub IsItemBy : Option ℕ → Script → Type 0
IsItemBy None s = length s.notices.promises + 1 < 2 ^ 32
IsItemBy (Some n) s = IsMade (held s.notices) n

abbrev pub IsItem : Value → Script → Type 0
IsItem v s = IsItemBy (promise_in v) s
