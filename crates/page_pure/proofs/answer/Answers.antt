use Rattle.std.proofs.Common.{map, length}
use Rattle.page_values.specs.Seen.{seen}
use Rattle.page_pure.proofs.NumberedSteps.{argument_numbered}
use Rattle.page_pure.proofs.answer.Goals as goal

pub spelling-requires : goal.spelling-requires
spelling-requires c = rw c.argument.ensures (argument_numbered (length c.args.names.now) (map seen c.args.args.now.items) 0 c.requires.numbered)
