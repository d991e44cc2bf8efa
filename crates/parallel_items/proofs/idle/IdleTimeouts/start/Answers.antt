use Rattle.std.proofs.Common.{◌+◌, ◌*◌, ◌∙◌, ◌<◌, ◌++◌, ◌∷◌, [], ap, sym, subst}
use Rattle.parallel_items.specs.Views.{IdleTimers}
use Rattle.parallel_items.proofs.IdleLemmas.{idle_kept, idle_started}
use Rattle.parallel_items.proofs.idle.IdleTimeouts.start.Goals as goal

above : (c : goal.After-self-1) → c.self.inside.last < c.args.handle
above c = subst (λ (t : IdleTimers). t.last < c.args.handle) (sym c.self.view_is) c.requires.handle

pub invariant_of-self-2 : goal.invariant_of-self-2
invariant_of-self-2 c =
    idle_kept c.self.inside.last (c.args.now.0 + c.args.ms * 1000) c.args.handle c.args.registration _ _ c.self.invariant (above c) c.in_ok-push.ensures.permutation c.in_ok-push.ensures.heap_order

pub returns-clause-started : goal.returns-clause-started
returns-clause-started c =
    let above = subst (λ (t : IdleTimers). t.last < c.args.handle) (sym c.self.view_is) c.requires.handle in
    idle_started c.self.inside.last (c.args.now.0 + c.args.ms * 1000) c.args.handle c.args.registration _ _ c.self.invariant above c.in_ok-push.ensures.permutation
    ∙ ap (λ (t : IdleTimers). t.timers ++ record { due = c.args.now.0 + c.args.ms * 1000; handle = c.args.handle; registration = c.args.registration } ∷ []) c.self.view_is
