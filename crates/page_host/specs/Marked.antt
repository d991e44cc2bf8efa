-- What a page tells the script machine besides its page and its lines: what must be known of the lines and of the run when a call ends.
use Rattle.std.specs.Prelude.{◌≡◌, ◌≤◌, ◌⊎◌, ℕ, Option, Some, None, is_some}
use Rattle.lang_meaning.specs.HostSteps.{Stepped, HostRules, Ask}
use Rattle.page_types.specs.Counts.{Rose}
use Rattle.trace_text.specs.declared.lines.NoLine.{NoLine}
use Rattle.trace_text.specs.declared.lines.NoLine.TheVariants.{Failed}
use Rattle.trace_text.specs.Given.{Keeping, Seen, line_refusals}
use Rattle.page_state.specs.Standing.{PortNow}
use Rattle.page_rules.specs.Lined.{Lined, lined_rules, LeavesLines}

-- ---- Ours: what a call of the script machine leaves as it is

-- what was seen of the lines when the call began, and when the run ends at the latest
pub record Mark (T : Type 0) : Type 0 where
  pub since : Seen T
  pub until : ℕ

-- the page that hands its lines on, its mark, and what its host port tells
pub record Marked (T : Type 0) : Type 0 where
  pub lined : Lined T
  pub mark : Mark T
  pub port : PortNow

abbrev pub marked : {T : Type 0} → Mark T → PortNow → Lined T → Marked T
marked mark port l = record { lined = l; mark = mark; port = port }

-- a step of the page leaves the rest
abbrev pub marked_step : {T : Type 0} → Marked T → Stepped (Lined T) → Stepped (Marked T)
marked_step before s = record { step = s.step; host = record before { lined = s.host } }

-- the rules of the page with its mark: the mark and the host port stay
abbrev pub marked_rules : {T : Type 0} → Keeping T → HostRules (Marked T)
marked_rules k = record {
  op = λ op args h. marked_step h ((lined_rules k).op op args h.lined);
  resume = λ ticket end h. marked_step h ((lined_rules k).resume ticket end h.lined);
}

-- a page that had stopped stays so, for the same reason
pub record StaysStopped {T : Type 0} (before after : Lined T) : Type 0 where
  pub why : NoLine
  pub stopped : before.stopped ≡ Some why
  pub same : after ≡ before

-- what a refused ask may leave: the mark and the host port stay; the page had stopped before, or it stops among its lines
pub record LeavesMarked {T : Type 0} (k : Keeping T) (ask : Ask) (before after : Marked T) : Type 0 where
  pub mark : after.mark ≡ before.mark
  pub port : after.port ≡ before.port
  pub lines : StaysStopped before.lined after.lined ⊎ LeavesLines k ask before.lined after.lined

-- ---- Ours: the counts of the lines

-- From the one moment to the other no line was at fault where the page has not stopped. Else it stopped for this reason alone.
pub record IsSince {T : Type 0} (before : Seen T) (stopped : Option NoLine) (now : Seen T) : Type 0 where
  pub later : before.faults ≤ now.faults
  pub failed : stopped ≡ Some Failed → Rose before.faults now.faults
  pub refusals : now.refusals ≡ line_refusals before.refusals stopped
  pub is_told : stopped ≡ None → is_some now.told ≡ is_some before.told
