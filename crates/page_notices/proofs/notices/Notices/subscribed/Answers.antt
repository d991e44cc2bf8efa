use Rattle.std.proofs.Common.{length}
use Rattle.promise_core.specs.Seen.{reaction_seen}
use Rattle.page_notices.proofs.Changing.{brought_reaction}
use Rattle.page_notices.proofs.notices.Notices.subscribed.Goals as goal

pub returns : goal.returns
returns c =
    let s = c.self.inside in
    brought_reaction c.subscribe.result c.args.p (reaction_seen c.args.r) s.promises c.subscribe.new.self s.jobs s.jobs_made s.noted.noted (length s.promises.promises) c.args.self.now c.self.view_is c.requires.counted c.requires.within c.self.invariant.within c.subscribe.ensures.ok
