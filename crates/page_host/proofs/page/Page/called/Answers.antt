use Rattle.std.proofs.Common.{map, ap, ◌∙◌}
use Rattle.std.specs.Option.{option_map}
use Rattle.page_values.specs.Seen.{seen, seen_func}
use Rattle.page_model.specs.State.{the_registration}
use Rattle.page_model.specs.Invoke.{callback_of}
use Rattle.page_state.specs.Standing.{page_of}
use Rattle.page_host.specs.PageNow.{PageNow}
use Rattle.page_host.specs.StateActs.{RanOut}
use Rattle.page_host.specs.Moments.{how_of}
use Rattle.page_host.proofs.Quiet.{call_begun-quiet}
use Rattle.page_host.proofs.Composing.{acted-ready, runs-exit, runs-wanted}
use Rattle.page_host.proofs.CallingBack.{called-does, called-stops}
use Rattle.page_host.proofs.page.Page.called.Goals as goal

pub wanting-requires : goal.wanting-requires
wanting-requires g c = c.requires.running

pub call_begun-requires : goal.call_begun-requires
call_begun-requires g c = c.requires.running

pub call_back-requires : goal.call_back-requires
call_back-requires g c = acted-ready c.args.machine.now (call_begun-quiet c.args.r) c.in_ok-call_begun.ensures c.requires

pub returns-in_default : goal.returns-in_default
returns-in_default g c = runs-wanted _ _ _ _ c.wanting.ensures.why c.wanting.ensures.stopped

pub returns-in_err-call_begun : goal.returns-in_err-call_begun
returns-in_err-call_begun g c =
    runs-exit _ how_of c.from_residual.ensures.1 (called-stops c.args.r c.args.second (map seen c.args.args.items) RanOut c.in_err-call_begun.ensures)

pub returns : goal.returns
returns g c =
    called-does c.args.r c.args.second (map seen c.args.args.items) (option_map seen_func c.in-Ok.fun) (c.in-Ok.ensures ∙ ap (λ (p : PageNow g.row.L.Denot). callback_of c.args.second (the_registration (page_of p.state) c.args.r)) c.self.view_is) c.in_ok-call_begun.ensures c.call_back.ensures
