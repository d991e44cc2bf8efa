use Rattle.std.proofs.Common.{refl}
use Rattle.page_state.specs.Standing.{page_of}
use Rattle.page_state.proofs.Waiting.{is_of}
use Rattle.page_state.proofs.state.PageState.first_numbers.Goals as goal

pub returns-clause-numbers : goal.returns-clause-numbers
returns-clause-numbers g c = c.first_numbers.ensures.numbers (page_of c.args.self.now) (is_of c.self.inside.tasks c.args.self.now c.self.view_is refl c.self.invariant.0)

pub returns-clause-runnable : goal.returns-clause-runnable
returns-clause-runnable g c = c.first_numbers.ensures.runnable (page_of c.args.self.now) (is_of c.self.inside.tasks c.args.self.now c.self.view_is refl c.self.invariant.0)
