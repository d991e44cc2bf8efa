use Rattle.std.proofs.Common.{sym, subst}
use Rattle.page_signals.specs.Signalling.{Signalling}
use Rattle.page_state.specs.Selecting.{AreSelectedBy}
use Rattle.page_state.proofs.Priorities.{given-selected}
use Rattle.page_state.proofs.state.PageState.give.Goals as goal
use Rattle.page_state.proofs.state.PageState.give.Goals.{in-Ok, in-Err}

pub invariant_of-self : goal.invariant_of-self
invariant_of-self g c =
    let rooms = c.self.inside.tasks.priorities in
    let P : Signalling → Type 0 = λ st. AreSelectedBy st.prios rooms in (
      elim c.match-give.branch [
        | in-Ok w ↦ subst P (sym w.in-Ok.ensures.given) (given-selected c.args.s c.args.priority c.self.inside.signals.prios rooms c.self.invariant.0)
        | in-Err w ↦ subst P (sym w.in-Err.ensures.err) c.self.invariant.0
      ],
      c.self.invariant.1,
    )
