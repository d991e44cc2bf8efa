use Rattle.std.proofs.Common.{false}
use Rattle.std.specs.Option.{option_map}
use Rattle.page_parts.specs.Kinds.{func_in}
use Rattle.page_values.specs.Seen.{seen, seen_func}
use Rattle.page_model.specs.Operations.{then_made}
use Rattle.page_state.proofs.Handled.{Does-same_handlers}
use Rattle.page_state.proofs.Telling.{Does-wanted, wanted-still}
use Rattle.page_state.proofs.state.PageState.then_made.Goals as goal

pub returns-in_err-registration-clause-does : goal.returns-in_err-registration-clause-does
returns-in_err-registration-clause-does g c =
    Does-wanted g.L.Lines.keeping (then_made c.args.p (seen c.args.fulfilled) (seen c.args.rejected)) c.args.self.now c.args.self.now _ _ c.from_residual.ensures.1 (wanted-still c.in_err-registration.ensures.memory)

pub returns-clause-does : goal.returns-clause-does
returns-clause-does g c =
    Does-same_handlers c.args.p (option_map seen_func c.function_of-first.result) (option_map seen_func c.function_of-second.result) (func_in (seen c.args.fulfilled)) (func_in (seen c.args.rejected)) false _ c.args.self.now
    c.in_ok-registration.ensures.made c.function_of-first.ensures c.function_of-second.ensures c.handlers_made.ensures.does
