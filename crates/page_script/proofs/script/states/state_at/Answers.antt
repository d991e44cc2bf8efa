use Rattle.page_model.specs.SchedulerTasks.{no_state}
use Rattle.page_script.specs.Seen.{state_seen}
use Rattle.page_script.proofs.Numbering.{numbered_there, numbered_absent}
use Rattle.page_script.proofs.script.states.state_at.Goals as goal

pub returns-in-Some-get : goal.returns-in-Some-get
returns-in-Some-get c =
    let read = c.in-Some-get.ensures.lookup in
    numbered_there state_seen no_state c.args.states.now c.args.n c.in-Some.index c.in-Some-get.state.now c.in-Some.ensures.0 c.in-Some.ensures.1 read.3.0 read.1

pub returns-in-None : goal.returns-in-None
returns-in-None c =
    numbered_absent state_seen no_state c.args.states.now c.args.n c.in-Some.index c.in-Some.ensures.0 c.in-Some.ensures.1 c.in-None.ensures.lookup.3
