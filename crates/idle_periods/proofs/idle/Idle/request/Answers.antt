use Rattle.std.proofs.Common.{◌∙◌, add-one, arith}
use Rattle.idle_periods.proofs.CallbackLemmas.{insert_last, rise_pushed, beyond_pushed, up_to_pushed}
use Rattle.idle_periods.proofs.idle.Idle.request.Goals as goal

pub invariant_of-self-2 : goal.invariant_of-self-2
invariant_of-self-2 c =
    let last = c.self.inside.last_handle in
    let es = c.self.inside.callbacks.entries in
    let new = c.in_ok-insert.ensures.entries ∙ insert_last 0 last c.args.registration es c.self.invariant.0 in
    rw new (rise_pushed 0 last c.args.registration es c.self.invariant.0, omega (arith, c.self.invariant.1))

pub returns-clause-stored : goal.returns-clause-stored
returns-clause-stored c =
    let last = c.self.inside.last_handle in
    let es = c.self.inside.callbacks.entries in
    let new = c.in_ok-insert.ensures.entries ∙ insert_last 0 last c.args.registration es c.self.invariant.0 in
    let pending = beyond_pushed c.self.inside.last_runnable last c.args.registration es c.self.invariant.1 in
    let runnable = up_to_pushed c.self.inside.last_runnable last c.args.registration es c.self.invariant.1 in
    rw (← c.self.view_is, new, pending, runnable, add-one)
