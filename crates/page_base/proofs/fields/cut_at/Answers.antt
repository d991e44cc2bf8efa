use Rattle.std.proofs.Common.{◌+◌}
use Rattle.page_base.proofs.Cutting.{cut_by, rest_is}
use Rattle.page_base.proofs.fields.cut_at.Goals as goal

pub returns-in_default-clause-parts : goal.returns-in_default-clause-parts
returns-in_default-clause-parts c = cut_by c.args.byte c.args.text.now _ c.in_default.ensures

pub returns-clause-parts : goal.returns-clause-parts
returns-clause-parts c = rw (rest_is (c.in-Some.at + 1) c.args.text.now) (cut_by c.args.byte c.args.text.now _ c.in-Some.ensures)
