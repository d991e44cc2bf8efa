use Rattle.std.proofs.Common.{ap, sym, ◌∙◌}
use Rattle.std.specs.Option.{option_map}
use Rattle.promise_core.specs.Seen.{settled_seen, reaction_seen}
use Rattle.page_model.specs.PagePromises.{promise_at}
use Rattle.page_state.specs.Standing.{page_of}
use Rattle.page_host.specs.PageNow.{PageNow}
use Rattle.page_host.specs.StateActs.{RanOut}
use Rattle.page_host.specs.Moments.{how_of}
use Rattle.page_host.proofs.Composing.{runs-exit, runs-wanted}
use Rattle.page_host.proofs.Reactions.{led}
use Rattle.page_host.proofs.page.Page.react.Goals as goal

pub returns-in_default : goal.returns-in_default
returns-in_default g c = runs-wanted _ RanOut _ _ c.wanting.ensures.why c.wanting.ensures.stopped

pub returns-in_err-lead_into : goal.returns-in_err-lead_into
returns-in_err-lead_into g c =
    let outcome = c.in-Ok.ensures ∙ ap (λ (p : PageNow g.row.L.Denot). (promise_at (page_of p.state) c.args.of).outcome) c.self.view_is in
    runs-exit _ how_of c.from_residual.ensures.1
    (led c.args.of (reaction_seen c.args.reaction) (settled_seen c.in-Some.how) (sym outcome ∙ ap (option_map settled_seen) c.in-Some.is) c.in_default-registration.is c.requires c.in_err-lead_into.ensures)

pub returns-in_default-registration : goal.returns-in_default-registration
returns-in_default-registration g c =
    let outcome = c.in-Ok.ensures ∙ ap (λ (p : PageNow g.row.L.Denot). (promise_at (page_of p.state) c.args.of).outcome) c.self.view_is in
    led c.args.of (reaction_seen c.args.reaction) (settled_seen c.in-Some.how) (sym outcome ∙ ap (option_map settled_seen) c.in-Some.is) c.in_default-registration.is c.requires c.in_ok-lead_into.ensures
