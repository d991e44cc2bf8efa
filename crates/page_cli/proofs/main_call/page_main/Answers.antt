use Rattle.page_cli.proofs.Completing.{asked-complete}
use Rattle.page_cli.proofs.main_call.page_main.Goals as goal

pub returns-clause-err : goal.returns-clause-err
returns-clause-err g c = rw (c.asked_in-asked.ensures, c.deref.ensures.value) at c.complain.ensures

pub returns-clause-completes : goal.returns-clause-completes
returns-clause-completes g c =
    let ran = c.carry_out-ran.ensures in
    let same = rw (c.deref.ensures.value) at c.asked_in-asked.ensures in
    asked-complete c.a_trace_is_read.ensures _ _ _ _ _ _ _ _ _ _ _ _ same ran.answers ran.read ran.write
