use Rattle.std.proofs.Common.{List, Option, ℕ, [], sym, subst}
use Rattle.std.proofs.lemmas.List.Elements.{All-from_recursion}
use Rattle.page_parts.specs.Timers.{TimerId, ActiveTimer}
use Rattle.timer_map.specs.Counted.{entries_of}
use Rattle.timer_map.specs.Kept.{AreIdsKept, IsKept}
use Rattle.timer_map.proofs.CountedLemmas.{entries_distinct, nothing_numbered}
use Rattle.timer_map.proofs.IdLemmas.{IsSmall}
use Rattle.timer_map.proofs.timers.Timers.new.Goals as goal

no_ids : AreIdsKept 0 []
no_ids =
    let none : List (Option ℕ) = [] in
    record {
      distinct = entries_distinct none;
      small = All-from_recursion IsSmall [] tt;
      numbered = nothing_numbered (λ (e : TimerId). e.handle);
    }

pub invariant_of-result : goal.invariant_of-result
invariant_of-result c =
    let ids = subst (λ ps. AreIdsKept 0 (entries_of ps)) (sym c.new.ensures.items) no_ids in
    let none : IsKept 0 [] = record { numbered = nothing_numbered (λ (t : ActiveTimer). t.start); by_due = tt } in
    record { ids = ids; active = subst (IsKept 0) (sym c.new-2.ensures) none }
