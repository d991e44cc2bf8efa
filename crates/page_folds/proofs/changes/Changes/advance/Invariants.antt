use Rattle.std.proofs.Common.{◌≡◌, ℕ, List, length}
use Rattle.page_parts.specs.Listeners.{Listener}
use Rattle.page_parts.specs.AbortGraph.{Signals}
use Rattle.page_folds.specs.Steps.{changes_from}
use Rattle.page_folds.specs.Seen.{pieces_of}
use Rattle.page_folds.specs.AtRest.{at_rest}
use Rattle.page_folds.proofs.changes.Changes.advance.Given as goal

abbrev pub invariant-loop-level : goal.invariant-loop-level
invariant-loop-level l = record {
  same :
      (ls : List Listener) (ss : Signals ℕ) →
      changes_from l.priority (pieces_of l.levels.items) (record { listeners = ls; signals = ss; prios = l.prios })
      ≡ changes_from l.priority (pieces_of l.initial.levels.items) (record { listeners = ls; signals = ss; prios = l.initial.prios });
  rest : at_rest l.prios ≡ at_rest l.initial.prios;
}

abbrev pub decreases-loop-level : goal.decreases-loop-level
decreases-loop-level l = length (pieces_of l.levels.items)
