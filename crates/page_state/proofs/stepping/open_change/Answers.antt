use Rattle.std.proofs.Common.{sym, subst}
use Rattle.page_signals.specs.Signalling.{Signalling}
use Rattle.page_folds.specs.AtRest.{ChangedAlone}
use Rattle.page_state.proofs.FoldStepping.{opened-alone}
use Rattle.page_state.proofs.stepping.open_change.Goals as goal

pub returns-in-Ok-clause-selected : goal.returns-in-Ok-clause-selected
returns-in-Ok-clause-selected g c =
    let old = c.args.signals.now in
    let s = c.args.s in
    let P : Signalling → Type 0 = λ st. ChangedAlone s old.prios st.prios in
    c.select_changed.ensures.selected old.prios (subst P (sym c.in-Ok.ensures.opened) (opened-alone s c.args.priority old))
