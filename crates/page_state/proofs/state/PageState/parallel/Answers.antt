use Rattle.std.proofs.Common.{sym, ◌∙◌}
use Rattle.page_state.proofs.Items.{Does-more, Does-all, Does-stopped, fewer}
use Rattle.page_state.proofs.state.PageState.parallel.Goals as goal

pub items-init : goal.items-init
items-init g c = λ why new h. h

pub items-preserved : goal.items-preserved
items-preserved g c = λ why new h.
    c.items.invariant why new (Does-more c.items.self (sym c.if-branch.true ∙ c.in_ok-take_item.ensures.due) c.in_ok-take_item.ensures.does h)

pub items-smaller : goal.items-smaller
items-smaller g c = fewer c.items.self (sym c.if-branch.true ∙ c.in_ok-take_item.ensures.due) c.in_ok-take_item.ensures.does

pub returns-in_err-take_item : goal.returns-in_err-take_item
returns-in_err-take_item g c = c.items.invariant _ _ (Does-stopped c.items.self _ c.from_residual.ensures.1 c.in_err-take_item.ensures.does)

pub returns : goal.returns
returns g c = c.items.invariant _ _ (Does-all c.items.self (sym c.if-branch.false ∙ c.in_ok-take_item.ensures.due) c.in_ok-take_item.ensures.does)
