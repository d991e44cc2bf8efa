use Rattle.std.proofs.Common.{true, ap, ◌∙◌}
use Rattle.std.specs.Option.{option_map}
use Rattle.page_parts.specs.Kinds.{func_in}
use Rattle.page_values.specs.declared.Value.{Value}
use Rattle.page_values.specs.Seen.{seen, seen_func}
use Rattle.page_model.specs.Operations.{finally_made}
use Rattle.page_state.proofs.Handled.{Does-same_handlers}
use Rattle.page_state.proofs.Telling.{Does-wanted, wanted-still}
use Rattle.page_state.proofs.state.PageState.finally_made.Goals as goal

pub returns-in_err-second_handler-clause-does : goal.returns-in_err-second_handler-clause-does
returns-in_err-second_handler-clause-does g c =
    Does-wanted g.L.Lines.keeping (finally_made c.args.p (seen c.args.handler)) c.args.self.now c.args.self.now _ _ c.from_residual.ensures.1 (wanted-still c.in_err-second_handler.ensures.memory)

pub returns-in_err-registration-clause-does : goal.returns-in_err-registration-clause-does
returns-in_err-registration-clause-does g c =
    Does-wanted g.L.Lines.keeping (finally_made c.args.p (seen c.args.handler)) c.args.self.now c.args.self.now _ _ c.from_residual-in_err-registration.ensures.1 (wanted-still c.in_err-registration.ensures.memory)

pub returns-clause-does : goal.returns-clause-does
returns-clause-does g c =
    let f = func_in (seen c.args.handler) in
    Does-same_handlers c.args.p (option_map seen_func c.function_of-first.result) (option_map seen_func c.function_of-second.result) f f true _ c.args.self.now
    c.in_ok-registration.ensures.made c.function_of-first.ensures (c.function_of-second.ensures ∙ ap (λ (v : Value). func_in (seen v)) c.in_ok-second_handler.ensures.copy) c.handlers_made.ensures.does
