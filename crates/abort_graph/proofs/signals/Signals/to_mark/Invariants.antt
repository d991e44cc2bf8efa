use Rattle.std.proofs.Common.{◌≡◌, ◌++◌, ◌∷◌, filter, not, drop}
use Rattle.page_parts.specs.AbortGraph as parts
use Rattle.abort_graph.proofs.signals.Signals.to_mark.Given as goal

abbrev pub invariant-loop-dependent : goal.invariant-loop-dependent
invariant-loop-dependent g l =
    l.signals.items ++ filter (λ d. not (parts.is_aborted l.self d)) (drop l.dependent-index l.dependents) ≡ l.s ∷ filter (λ d. not (parts.is_aborted l.self d)) l.dependents
