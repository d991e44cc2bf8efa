use Rattle.std.proofs.Common.{true, false, sym, ◌∙◌}
use Rattle.page_types.specs.declared.FaultName.TheVariants.{RangeError}
use Rattle.page_parts.specs.Kinds.{a_fault}
use Rattle.page_values.specs.Seen.{seen}
use Rattle.promise_core.specs.Seen.{settled_seen}
use Rattle.page_state.proofs.Combined.{Does-passing, Does-rejected}
use Rattle.page_state.proofs.state.PageState.pass_on.Goals as goal

pub returns-then-not-may_pass : goal.returns-then-not-may_pass
returns-then-not-may_pass g c =
    Does-passing c.args.into (settled_seen c.args.how) (seen c.args.value) false c.args.self.now (sym c.if-not-may_pass.true ∙ c.may_pass.ensures)
    (Does-rejected c.args.into (seen c.range_error-reason.result) (a_fault RangeError) c.args.self.now c.range_error-reason.ensures c.settle.ensures)

pub returns : goal.returns
returns g c =
    Does-passing c.args.into (settled_seen c.args.how) (seen c.args.value) true c.args.self.now (sym c.if-not-may_pass.false ∙ c.may_pass.ensures) c.passed_on.ensures
