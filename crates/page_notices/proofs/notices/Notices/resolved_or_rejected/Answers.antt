use Rattle.page_parts.specs.Promises.{resolve, reject}
use Rattle.page_values.specs.Seen.{seen}
use Rattle.page_notices.proofs.Changing.{brought, resolve-marks, reject-marks}
use Rattle.page_notices.proofs.notices.Notices.resolved_or_rejected.Goals as goal

pub returns-in-Ok : goal.returns-in-Ok
returns-in-Ok c =
    let s = c.self.inside in
    rw c.in-Ok.is
    (brought c.resolve.result (λ q. resolve c.args.p q (seen c.in-Ok.v)) (λ q. resolve-marks c.args.p q (seen c.in-Ok.v)) c.args.p s.promises c.resolve.new.self s.jobs s.jobs_made s.noted.noted c.args.self.now c.self.view_is c.requires.counted c.requires.within c.resolve.ensures.ok)

pub returns-in-Err : goal.returns-in-Err
returns-in-Err c =
    let s = c.self.inside in
    rw c.in-Err.is
    (brought c.reject.result (λ q. reject c.args.p q (seen c.in-Err.reason)) (λ q. reject-marks c.args.p q (seen c.in-Err.reason)) c.args.p s.promises c.reject.new.self s.jobs s.jobs_made s.noted.noted c.args.self.now c.self.view_is c.requires.counted c.requires.within c.reject.ensures.ok)
