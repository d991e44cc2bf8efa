use Rattle.std.proofs.Common.{length}
use Rattle.page_parts.specs.Promises.{the_promise}
use Rattle.page_parts.specs.Notices.{settle_promise}
use Rattle.promise_core.specs.Seen.{settled_seen}
use Rattle.page_notices.specs.Seen.{current}
use Rattle.page_notices.specs.Changes.{settling}
use Rattle.page_notices.proofs.Changing.{settling-named}
use Rattle.page_notices.proofs.Telling.{Does-settled, named-brought, made-brought}
use Rattle.page_notices.proofs.Timing.{Does-memory}
use Rattle.page_notices.specs.Steps.{timed}
use Rattle.page_notices.proofs.notices.Notices.settle.Goals as goal

pub tell-requires-clause-named : goal.tell-requires-clause-named
tell-requires-clause-named g c =
    let s = c.args.self.now in
    let how = settled_seen c.args.how in
    let q = the_promise s.promises c.args.p in
    named-brought (length c.args.names.now) c.args.p (settling c.args.p q how) c.in-Ok.change s c.resolved_or_rejected.new.self c.requires.made.counted c.requires.made.within c.in-Ok.ensures
    (settling-named (length c.args.names.now) c.args.p q how c.requires.named)

pub returns : goal.returns
returns g c =
    Does-settled c.args.at.0 (current c.args.level c.args.state) c.args.names.now c.args.p (settled_seen c.args.how) c.in-Ok.change c.args.self.now c.resolved_or_rejected.new.self c.requires.made.counted c.requires.made.within c.in-Ok.ensures c.tell.ensures

pub tell-requires-clause-made : goal.tell-requires-clause-made
tell-requires-clause-made g c =
    let s = c.args.self.now in
    made-brought c.args.p (settling c.args.p (the_promise s.promises c.args.p) (settled_seen c.args.how)) c.in-Ok.change s c.resolved_or_rejected.new.self c.requires.made.counted c.requires.made.within c.in-Ok.ensures

pub returns-in_default : goal.returns-in_default
returns-in_default g c =
    Does-memory g.L.Lines.keeping (timed c.args.at.0 (settle_promise (current c.args.level c.args.state) c.args.names.now c.args.p (settled_seen c.args.how))) c.args.self.now c.resolved_or_rejected.new.self (g.L.Lines.seen c.args.lines.now)
