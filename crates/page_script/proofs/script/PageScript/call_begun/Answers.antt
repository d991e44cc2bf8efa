use Rattle.std.proofs.Common.{◌∷◌, refl}
use Rattle.page_types.specs.Events.{Call}
use Rattle.page_model.specs.Invoke.{call_begun}
use Rattle.page_script.proofs.Lifting.{Does-line, Does-wants}
use Rattle.page_script.proofs.script.PageScript.call_begun.Goals as goal

pub returns-in_err-open_call : goal.returns-in_err-open_call
returns-in_err-open_call g c =
    Does-wants g.L.Lines.keeping (call_begun c.args.r) c.args.self.now c.open_call.new.self _ _ c.from_residual.ensures.1 c.in_err-open_call.ensures.memory

pub returns : goal.returns
returns g c = Does-line (λ p. record p { calls = c.args.r ∷ p.calls }) (Call c.args.r) c.args.self.now c.open_call.new.self refl c.in_ok-open_call.ensures.open c.emit.ensures
