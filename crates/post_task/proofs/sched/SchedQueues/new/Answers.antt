use Rattle.std.proofs.Common.{length, sym, ◌∙◌, ap}
use Rattle.post_task.proofs.Places.{placed_none}
use Rattle.post_task.proofs.sched.SchedQueues.new.Goals as goal

pub invariant_of-queues : goal.invariant_of-queues
invariant_of-queues g c =
    (ap length c.new-3.ensures ∙ sym (ap length c.new.ensures.items), placed_none c.new.result.items c.new-2.result c.new.ensures.items c.new-2.ensures.empty)

pub returns-clause-kept : goal.returns-clause-kept
returns-clause-kept g c = c.in_ok-add_fixed.ensures.kept

pub returns-clause-empty : goal.returns-clause-empty
returns-clause-empty g c = c.in_ok-add_fixed.ensures.empty

pub returns-clause-made : goal.returns-clause-made
returns-clause-made g c = c.in_ok-add_fixed.ensures.made

pub returns-clause-signals : goal.returns-clause-signals
returns-clause-signals g c = c.in_ok-add_fixed.ensures.signals

pub returns-clause-lists : goal.returns-clause-lists
returns-clause-lists g c = c.in_ok-add_fixed.ensures.lists

pub returns-in_err-add_fixed-clause-lists : goal.returns-in_err-add_fixed-clause-lists
returns-in_err-add_fixed-clause-lists g c = c.in_err-add_fixed.ensures.lists
