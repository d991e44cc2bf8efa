use Rattle.std.proofs.Common.{not, ap, sym, ◌∙◌}
use Rattle.promise_core.specs.Seen.{settled_seen, reaction_seen}
use Rattle.page_values.specs.Seen.{seen_func}
use Rattle.page_host.specs.Moments.{how_of}
use Rattle.page_host.proofs.Checkpoints.{handler-absent, handler-there}
use Rattle.page_host.proofs.Composing.{runs-exit}
use Rattle.page_host.proofs.Reactions.{absent, there, handler-of}
use Rattle.page_host.proofs.page.Page.react_then.Goals as goal

pub returns-in_err-settle : goal.returns-in_err-settle
returns-in_err-settle g c =
    let none = absent _ _ c.callback_of.result (c.is_none.ensures ∙ ap not c.if-is_none.true) c.callback_of.ensures in
    runs-exit _ how_of c.from_residual.ensures.1
    (handler-absent c.args.r (reaction_seen c.args.reaction) (settled_seen c.args.how) (sym (handler-of c.args.r c.args.how c.is_err.ensures.value c.self.view_is) ∙ none) c.requires c.in_err-settle.ensures)

pub returns-then-is_none : goal.returns-then-is_none
returns-then-is_none g c =
    let none = absent _ _ c.callback_of.result (c.is_none.ensures ∙ ap not c.if-is_none.true) c.callback_of.ensures in
    handler-absent c.args.r (reaction_seen c.args.reaction) (settled_seen c.args.how) (sym (handler-of c.args.r c.args.how c.is_err.ensures.value c.self.view_is) ∙ none) c.requires c.in_ok-settle.ensures

pub returns : goal.returns
returns g c =
    let some = there _ _ c.callback_of.result (c.is_none.ensures ∙ ap not c.if-is_none.false) c.callback_of.ensures in
    handler-there c.args.r (seen_func some.0.now) (reaction_seen c.args.reaction) (settled_seen c.args.how) (sym (handler-of c.args.r c.args.how c.is_err.ensures.value c.self.view_is) ∙ some.1) c.handle.ensures
