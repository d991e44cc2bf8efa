use Rattle.page_model.specs.PagePromises.{follow}
use Rattle.promise_core.specs.Seen.{settled_seen}
use Rattle.page_notices.proofs.Timing.{Does-memory}
use Rattle.page_script.specs.ScriptActs.{on_script}
use Rattle.page_script.proofs.script.PageScript.follow_if_made.Goals as goal

pub returns-then-not-may_settle : goal.returns-then-not-may_settle
returns-then-not-may_settle g c =
    Does-memory g.L.Lines.keeping (on_script (follow c.args.p (settled_seen c.args.how))) c.args.self.now c.args.self.now (g.L.Lines.seen c.args.lines.now)
