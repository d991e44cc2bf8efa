use Rattle.std.proofs.Common.{sym}
use Rattle.page_interp.proofs.operations.Operations.named.Goals as goal

pub returns-in-Some : goal.returns-in-Some
returns-in-Some c = c.args.self.now.named c.args.name.now _ (rw c.bytes.ensures.bytes at (sym c.in-Some.ensures.value))
