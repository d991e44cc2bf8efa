use Rattle.std.proofs.Common.{sym, ◌∙◌, Some, None}
use Rattle.page_values.specs.Seen.{seen}
use Rattle.signal_operations.proofs.Parsing.{other-given, unit-none}
use Rattle.signal_operations.proofs.arguments.priority_or_unit.Goals as goal

pub returns-then-is_unit : goal.returns-then-is_unit
returns-then-is_unit c = unit-none (seen c.args.value.now) (sym c.is_unit.ensures ∙ c.if-is_unit.true)

pub returns-in-Some : goal.returns-in-Some
returns-in-Some c = other-given (seen c.args.value.now) (Some c.in-Some.priority) (sym c.is_unit.ensures ∙ c.if-is_unit.false) c.in-Some.ensures

pub returns-in-None : goal.returns-in-None
returns-in-None c = other-given (seen c.args.value.now) None (sym c.is_unit.ensures ∙ c.if-is_unit.false) c.in-None.ensures
