use Rattle.std.proofs.Common.{refl}
use Rattle.page_interp.specs.Frames.{stacked}
use Rattle.page_interp.proofs.AtOnce.{unit_back}
use Rattle.page_interp.proofs.BlockSteps.{same_then}
use Rattle.page_interp.proofs.blocks.from_rest.Goals as goal

pub returns-in-Some-clause-ok : goal.returns-in-Some-clause-ok
returns-in-Some-clause-ok g c = c.in-Some.ensures.returns (stacked c.args.run.now.stack.items) c.args.rest refl

pub returns-in-None-clause-ok : goal.returns-in-None-clause-ok
returns-in-None-clause-ok g c = rw (unit_back c.args.run.now.store c.returned.new.store c.in-None.ensures.globals) at c.from_block.ensures.ok

pub returns-in-None-clause-same : goal.returns-in-None-clause-same
returns-in-None-clause-same g c = same_then c.from_block.result _ _ _ c.from_block.ensures.same (unit_back c.args.run.now.store c.returned.new.store c.in-None.ensures.globals)
