use Rattle.std.proofs.Common.{sym, subst, None}
use Rattle.trace_text.specs.Acts.{Does}
use Rattle.trace_text.proofs.Doing.{Does-last}
use Rattle.page_notices.specs.Seen.{waiting_seen}
use Rattle.page_script.specs.Script.{Script}
use Rattle.page_script.specs.ScriptActs.{on, on_script}
use Rattle.page_script.specs.Jobs.{oldest_begun}
use Rattle.page_script.proofs.Calling.{Does-begun, Does-no_job}
use Rattle.page_script.proofs.script.PageScript.next_job.Goals as goal

pub returns-in_default-clause-does : goal.returns-in_default-clause-does
returns-in_default-clause-does g c =
    let k = g.L.Lines.keeping in
    let s = c.args.self.now in
    let seen = g.L.Lines.seen c.args.lines.now in
    let P : Script → Type 0 = λ t. Does k (on s seen) (on_script oldest_begun) None (on t seen) in
    subst P (sym (c.take_job.ensures.stays c.in_default.is)) (Does-no_job k s seen c.in_default.ensures.none)

pub returns-in_err-emit-clause-does : goal.returns-in_err-emit-clause-does
returns-in_err-emit-clause-does g c =
    Does-last _ c.from_residual.ensures.1 (Does-begun (waiting_seen c.in-Some.job) c.args.self.now c.take_job.new.self c.in-Some.ensures.none c.in_err-emit.ensures)

pub returns-clause-does : goal.returns-clause-does
returns-clause-does g c = Does-begun (waiting_seen c.in-Some.job) c.args.self.now c.take_job.new.self c.in-Some.ensures.none c.in_ok-emit.ensures
