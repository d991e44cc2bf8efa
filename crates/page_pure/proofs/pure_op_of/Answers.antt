use Rattle.std.proofs.Common.{map, length}
use Rattle.page_values.specs.Seen.{seen}
use Rattle.lang_meaning.specs.PureOperations.{argument}
use Rattle.page_pure.proofs.NumberedSteps.{argument_numbered, push_numbered}
use Rattle.page_pure.proofs.pure_op_of.Goals as goal

pub returns-in_ok-push_onto-in-Push-clause-numbered : goal.returns-in_ok-push_onto-in-Push-clause-numbered
returns-in_ok-push_onto-in-Push-clause-numbered c =
    let vs = map seen c.args.args.items in
    let count = length c.args.names.now in
    rw (c.in_ok-push_onto-in-Push.ensures, c.both-list.ensures.first, c.both-list.ensures.second)
    (push_numbered count (argument vs 0) (argument vs 1) (argument_numbered count vs 0 c.requires.numbered) (argument_numbered count vs 1 c.requires.numbered))
