use Rattle.page_state.specs.FoldActs.{change_step, hosting_of}
use Rattle.page_state.proofs.Reaching.{Reaches-wants}
use Rattle.page_state.proofs.Begun.{change-more, change-idle, not-opened, is-opened}
use Rattle.page_state.proofs.state.PageState.begin_change.Goals as goal

pub returns-in_err-change_opened : goal.returns-in_err-change_opened
returns-in_err-change_opened g c =
    Reaches-wants (change_step c.args.s c.args.priority (hosting_of c.args.self.now)) c.args.self.now c.change_opened.new.self _ _ c.from_residual.ensures.1 c.in_err-change_opened.ensures.memory

pub returns-then-not-branch : goal.returns-then-not-branch
returns-then-not-branch g c =
    let e = c.in_ok-change_opened.ensures in
    change-idle c.args.self.now c.change_opened.new.self c.args.s c.args.priority (g.L.Lines.seen c.args.lines.now) e.given e.still
    (not-opened c.in_ok-change_opened.field-0 _ e.answer c.if-not-branch.true) e.opened

pub returns : goal.returns
returns g c =
    let e = c.in_ok-change_opened.ensures in
    change-more c.args.self.now c.change_opened.new.self c.args.s c.args.priority _ e.given e.still
    (is-opened c.in_ok-change_opened.field-0 _ e.answer c.if-not-branch.false) e.opened c.reach.ensures
