use Rattle.std.proofs.Common.{◌≡◌, ◌<◌, ◌∙◌, length, heap_items, List, Option, sym, ap, arith}
use Rattle.std.proofs.lemmas.List.Sorted.{length_permutation}
use Rattle.std.specs.declared.cmp.Reverse.{Reverse}
use Rattle.page_parts.specs.Words.{is_there}
use Rattle.page_model.specs.Parallel.{Item, first_item_of}
use Rattle.parallel_items.specs.Items.{idle_items, taken_of, left_of}
use Rattle.parallel_items.specs.declared.idle.IdleTimeout.{IdleTimeout}
use Rattle.parallel_items.specs.Seen.{idle_in_order}
use Rattle.parallel_items.specs.Views.{IdleTimers}
use Rattle.parallel_items.proofs.IdleLemmas.{first_idle, no_idle, idle_left, idle_kept_popped}
use Rattle.parallel_items.proofs.idle.IdleTimeouts.take_first.Goals as goal

pub returns-in_err-first-clause-taken : goal.returns-in_err-first-clause-taken
returns-in_err-first-clause-taken c =
    let empty : length (heap_items c.self.inside.waiting) ≡ 0 = omega (arith, c.self.inside.waiting.data.ok.0, c.in_err-first.ensures.none) in
    let none = no_idle c.self.inside.last (heap_items c.self.inside.waiting) empty in
    λ cs. rw c.from_residual.ensures (sym (ap (λ (o : Option Item). taken_of o cs) none) ∙ ap (λ (t : IdleTimers). taken_of (first_item_of (idle_items t.timers)) cs) c.self.view_is)

pub returns-in_err-first-clause-some : goal.returns-in_err-first-clause-some
returns-in_err-first-clause-some c =
    let empty : length (heap_items c.self.inside.waiting) ≡ 0 = omega (arith, c.self.inside.waiting.data.ok.0, c.in_err-first.ensures.none) in
    let none = no_idle c.self.inside.last (heap_items c.self.inside.waiting) empty in
    rw c.from_residual.ensures (sym (ap is_there none) ∙ ap (λ (t : IdleTimers). is_there (first_item_of (idle_items t.timers))) c.self.view_is)

pub returns-in_err-first-clause-left : goal.returns-in_err-first-clause-left
returns-in_err-first-clause-left c =
    let empty : length (heap_items c.self.inside.waiting) ≡ 0 = omega (arith, c.self.inside.waiting.data.ok.0, c.in_err-first.ensures.none) in
    let none = no_idle c.self.inside.last (heap_items c.self.inside.waiting) empty in
    λ w. sym (ap (λ (t : IdleTimers). left_of (first_item_of (idle_items t.timers)) (record w { idle_timers = t.timers })) c.self.view_is)
    ∙ ap (λ (o : Option Item). left_of o (record w { idle_timers = idle_in_order c.self.inside.last (heap_items c.self.inside.waiting) })) none
    ∙ ap (λ (ts : List (Reverse IdleTimeout)). record w { idle_timers = idle_in_order c.self.inside.last ts }) (sym c.in_err-first.ensures.unchanged.0)

pub invariant_of-self-2 : goal.invariant_of-self-2
invariant_of-self-2 c =
    let e = c.in_ok-first.ensures in
    idle_kept_popped c.self.inside.last c.in_ok-first.first _ _ c.self.invariant e.permutation (e.heap_order c.self.invariant.heap).0

pub returns-clause-taken : goal.returns-clause-taken
returns-clause-taken c =
    let e = c.in_ok-first.ensures in
    let x = c.in_ok-first.first in
    let some : 0 < length (heap_items c.self.inside.waiting) = omega (arith, length_permutation _ _ e.permutation) in
    let first = first_idle c.self.inside.last x _ c.self.invariant some e.top (e.heap_order c.self.invariant.heap).1 in
    λ cs. sym (ap (λ (o : Option Item). taken_of o cs) first) ∙ ap (λ (t : IdleTimers). taken_of (first_item_of (idle_items t.timers)) cs) c.self.view_is

pub returns-clause-left : goal.returns-clause-left
returns-clause-left c =
    let e = c.in_ok-first.ensures in
    let x = c.in_ok-first.first in
    let some : 0 < length (heap_items c.self.inside.waiting) = omega (arith, length_permutation _ _ e.permutation) in
    let first = first_idle c.self.inside.last x _ c.self.invariant some e.top (e.heap_order c.self.invariant.heap).1 in
    λ w. sym (ap (λ (t : IdleTimers). left_of (first_item_of (idle_items t.timers)) (record w { idle_timers = t.timers })) c.self.view_is)
    ∙ idle_left c.self.inside.last x _ _ c.self.invariant e.permutation first w

pub returns-clause-some : goal.returns-clause-some
returns-clause-some c =
    let e = c.in_ok-first.ensures in
    let x = c.in_ok-first.first in
    let some : 0 < length (heap_items c.self.inside.waiting) = omega (arith, length_permutation _ _ e.permutation) in
    let first = first_idle c.self.inside.last x _ c.self.invariant some e.top (e.heap_order c.self.invariant.heap).1 in
    sym (ap is_there first) ∙ ap (λ (t : IdleTimers). is_there (first_item_of (idle_items t.timers))) c.self.view_is
