use Rattle.std.proofs.Common.{sym, ap, ◌∙◌}
use Rattle.lang_meaning.specs.OpNames.{op_named}
use Rattle.page_interp.proofs.OpIndex.{no_ops, one_more_op}
use Rattle.page_interp.proofs.operations.Operations.new.Goals as goal

pub loop-name-init : goal.loop-name-init
loop-name-init c = no_ops c.new-ops.result c.new-ops.ensures.empty

pub loop-name-preserved : goal.loop-name-preserved
loop-name-preserved c = one_more_op c.in_ok-key.key.items c.operation_named.result c.loop-name.ops c.insert.new.self (c.operation_named.ensures ∙ ap op_named (sym (c.in_ok-key.ensures.items ∙ c.bytes.ensures.bytes))) c.in_ok-insert.ensures.updates c.loop-name.invariant
