use Rattle.std.proofs.Common.{refl, Some, None}
use Rattle.page_types.specs.declared.RegKind.TheVariants.{Listener as ListenerKind}
use Rattle.page_model.specs.State.{last_registration}
use Rattle.page_model.specs.Invoke.{register}
use Rattle.page_events.specs.Seen.{seen_target}
use Rattle.page_values.specs.Seen.{seen_func}
use Rattle.page_state.specs.SignalActs.{listening}
use Rattle.page_state.proofs.Acting.{Does-next, Does-leave, Does-silent}
use Rattle.page_state.proofs.Telling.{Does-wanted}
use Rattle.page_state.proofs.Handled.{Does-read}
use Rattle.page_state.proofs.state.PageState.listener_added.Goals as goal

pub returns-in_err-r-clause-does : goal.returns-in_err-r-clause-does
returns-in_err-r-clause-does g c =
    let G = listening (seen_target c.args.target) c.args.name.now in
    Does-leave (register ListenerKind (Some (seen_func c.args.callback)) None) (λ p. G (last_registration p) p) _ (λ es p. refl) c.from_residual.ensures.1 c.in_err-r.ensures.does

pub returns-in_err-listen-clause-does : goal.returns-in_err-listen-clause-does
returns-in_err-listen-clause-does g c =
    let G = listening (seen_target c.args.target) c.args.name.now in
    Does-next (register ListenerKind (Some (seen_func c.args.callback)) None) (λ p. G (last_registration p) p) (λ es p. refl) c.in_ok-r.ensures.does
    (Does-read G last_registration c.in_ok-r.r c.register_as.new.self c.in_ok-r.ensures.number
    (Does-wanted g.L.Lines.keeping (G c.in_ok-r.r) c.register_as.new.self c.listen.new.self _ _ c.from_residual-in_err-listen.ensures.1 c.in_err-listen.ensures.memory))

pub returns-clause-does : goal.returns-clause-does
returns-clause-does g c =
    let G = listening (seen_target c.args.target) c.args.name.now in
    Does-next (register ListenerKind (Some (seen_func c.args.callback)) None) (λ p. G (last_registration p) p) (λ es p. refl) c.in_ok-r.ensures.does
    (Does-read G last_registration c.in_ok-r.r c.register_as.new.self c.in_ok-r.ensures.number
    (Does-silent g.L.Lines.keeping (G c.in_ok-r.r) c.register_as.new.self _ refl c.in_ok-listen.ensures.added))
