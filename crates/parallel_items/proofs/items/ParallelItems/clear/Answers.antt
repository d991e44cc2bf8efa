use Rattle.std.proofs.Common.{◌∙◌, List, nat_eq, sym, subst, ap, is_some}
use Rattle.std.proofs.lemmas.List.Sorted.{IsPermutation-refl}
use Rattle.std.specs.List.Sorted.{IsPermutation}
use Rattle.std.specs.Map.{remove_entry}
use Rattle.timer_map.specs.Counted.{entries_of}
use Rattle.page_parts.specs.Timers.{Timers, has_id, clear}
use Rattle.parallel_items.specs.InParallel.{InParallel, TimerOwner}
use Rattle.parallel_items.specs.Kept.{AreKeptInRows}
use Rattle.parallel_items.specs.Steps.{owner_of, id_cleared}
use Rattle.parallel_items.specs.contracts.items.ParallelItems.{the_view}
use Rattle.parallel_items.specs.Seen.{steps_of}
use Rattle.parallel_items.proofs.KeptLemmas.{kept_cleared, owners_removed}
use Rattle.parallel_items.proofs.TimerLemmas.{owner_found, some_is_there}
use Rattle.parallel_items.proofs.items.ParallelItems.clear.Goals as goal

pub invariant_of-self : goal.invariant_of-self
invariant_of-self c =
    let i = c.self.inside in
    let rows = c.self.invariant.in_rows in
    let parts = kept_cleared i.timers (steps_of i.completions) i.delayed.keys (entries_of i.owners.items) c.self.invariant.parts c.args.id (entries_of c.take.new.places.items) (subst (IsPermutation (remove_entry (nat_eq c.args.id) (entries_of i.owners.items))) (sym c.take.ensures.left) (IsPermutation-refl _)) in
    subst (λ (t : Timers). AreKeptInRows t i.completions i.delayed.keys (entries_of c.take.new.places.items)) (sym c.clear.ensures.gone)
    (record { in_rows = record { started = rows.started; active = rows.active }; parts = parts })

pub returns-clause-registration : goal.returns-clause-registration
returns-clause-registration c =
    c.take.ensures.value ∙ sym (owner_found c.args.id _ _ c.self.invariant.parts.owners_numbered) ∙ ap (λ (s : InParallel). owner_of c.args.id s.owners) c.self.view_is

pub returns-clause-was : goal.returns-clause-was
returns-clause-was c =
    ap is_some (c.take.ensures.value ∙ sym (owner_found c.args.id _ _ c.self.invariant.parts.owners_numbered))
    ∙ some_is_there _ ∙ sym (c.self.invariant.parts.owners c.args.id)
    ∙ ap (λ (s : InParallel). has_id c.args.id s.waiting.timers) c.self.view_is

pub returns-clause-cleared : goal.returns-clause-cleared
returns-clause-cleared c =
    let i = c.self.inside in
    let v : InParallel = the_view i in
    ap (λ (t : Timers). the_view (record i { timers = t; owners = c.take.new.places })) c.clear.ensures.gone
    ∙ ap (λ (owners : List TimerOwner). record v { waiting = record v.waiting { timers = clear c.args.id i.timers }; owners = owners })
    (owners_removed c.args.id i.timers.ids_made (entries_of i.owners.items) (entries_of c.take.new.places.items) c.self.invariant.parts.owners_numbered (subst (IsPermutation (remove_entry (nat_eq c.args.id) (entries_of i.owners.items))) (sym c.take.ensures.left) (IsPermutation-refl _)))
    ∙ ap (id_cleared c.args.id) c.self.view_is
