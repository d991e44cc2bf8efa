use Rattle.trace_text.proofs.Doing.{Does-last}
use Rattle.promise_core.specs.Seen.{settled_seen}
use Rattle.page_script.specs.Marks.{settled_at_once}
use Rattle.page_script.proofs.Lifting.{Does-wants}
use Rattle.page_script.proofs.Making.{Does-settled_new, settled_new-count}
use Rattle.page_script.proofs.script.PageScript.settled_promise.Goals as goal

pub returns-in_err-p-clause-does : goal.returns-in_err-p-clause-does
returns-in_err-p-clause-does g c =
    Does-wants g.L.Lines.keeping (settled_at_once (settled_seen c.args.how)) c.args.self.now c.make_marked.new.self _ _ c.from_residual.ensures.1 c.in_err-p.ensures.memory

pub returns-in_err-settle-clause-does : goal.returns-in_err-settle-clause-does
returns-in_err-settle-clause-does g c =
    Does-last _ c.from_residual-in_err-settle.ensures.1
    (Does-settled_new (settled_seen c.args.how) c.args.self.now c.make_marked.new.self c.in_ok-p.p c.in_ok-p.ensures.number c.in_ok-p.ensures.made c.in_err-settle.ensures)

pub returns-clause-does : goal.returns-clause-does
returns-clause-does g c = Does-settled_new (settled_seen c.args.how) c.args.self.now c.make_marked.new.self c.in_ok-p.p c.in_ok-p.ensures.number c.in_ok-p.ensures.made c.in_ok-settle.ensures

pub returns-clause-count : goal.returns-clause-count
returns-clause-count g c = settled_new-count (settled_seen c.args.how) c.args.self.now c.make_marked.new.self c.in_ok-p.p c.in_ok-p.ensures.made c.in_ok-settle.ensures
