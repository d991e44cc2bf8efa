use Rattle.std.proofs.Common.{◌-◌, ◌<◌, refl, arith}
use Rattle.promise_core.proofs.Records.{handled_read, handled_absent}
use Rattle.promise_core.proofs.promises.is_handled.Goals as goal

pub returns-in-Some : goal.returns-in-Some
returns-in-Some c =
    let counted : 0 < c.args.p = omega (arith, c.if-p-eq0.false) in
    handled_read c.args.records.now c.args.p (c.args.p - 1) c.in-Some.record.now counted refl c.in-Some.ensures.lookup.3.0 c.in-Some.ensures.lookup.1

pub returns-in-None : goal.returns-in-None
returns-in-None c =
    let counted : 0 < c.args.p = omega (arith, c.if-p-eq0.false) in
    handled_absent c.args.records.now c.args.p (c.args.p - 1) counted refl c.in-None.ensures.lookup.3
