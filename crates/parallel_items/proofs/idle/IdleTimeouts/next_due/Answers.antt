use Rattle.std.proofs.Common.{◌≡◌, ◌∙◌, arith, length, heap_items, sym, ap}
use Rattle.page_model.specs.Parallel.{first_item_of}
use Rattle.parallel_items.specs.Items.{idle_items, due_of}
use Rattle.parallel_items.specs.Views.{IdleTimers}
use Rattle.parallel_items.proofs.IdleLemmas.{first_idle, no_idle}
use Rattle.parallel_items.proofs.idle.IdleTimeouts.next_due.Goals as goal

pub returns-in_err-first : goal.returns-in_err-first
returns-in_err-first c =
    let empty : length (heap_items c.self.inside.waiting) ≡ 0 = omega (arith, c.in_err-first.ensures.item.3) in
    let none = no_idle c.self.inside.last (heap_items c.self.inside.waiting) empty in
    rw c.from_residual.ensures (sym (ap due_of none) ∙ ap (λ (t : IdleTimers). due_of (first_item_of (idle_items t.timers))) c.self.view_is)

pub returns : goal.returns
returns c =
    let e = c.in_ok-first.ensures in
    let first = first_idle c.self.inside.last c.in_ok-first.first.now (heap_items c.self.inside.waiting) c.self.invariant e.item.3.0 e.lookup (e.greatest c.self.invariant.heap) in
    sym (ap due_of first) ∙ ap (λ (t : IdleTimers). due_of (first_item_of (idle_items t.timers))) c.self.view_is
