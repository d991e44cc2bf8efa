use Rattle.std.proofs.Common.{length, ap, arith}
use Rattle.async_segments.specs.Written.{names_of}
use Rattle.async_segments.proofs.ItemLemmas.{writes_async, too_many_locals, length-names_of}
use Rattle.async_segments.proofs.items.write_marked_function.Goals as goal

pub returns-then-bytes-gt-MOST_NAME_BYTES-clause-refused : goal.returns-then-bytes-gt-MOST_NAME_BYTES-clause-refused
returns-then-bytes-gt-MOST_NAME_BYTES-clause-refused c = λ refused at small.
    let e = ap length c.bytes.ensures.bytes in omega (arith, small.0, e, c.if-bytes-gt-MOST_NAME_BYTES.true)

pub returns-then-len-gt-MOST_LOCALS-clause-refused : goal.returns-then-len-gt-MOST_LOCALS-clause-refused
returns-then-len-gt-MOST_LOCALS-clause-refused c = λ refused at small.
    too_many_locals c.args.function.now (names_of c.in_ok-locals.locals.items) at c.in_ok-locals.ensures (let e = length-names_of c.in_ok-locals.locals.items in omega (arith, e, c.if-len-gt-MOST_LOCALS.true)) small

pub returns-clause-written : goal.returns-clause-written
returns-clause-written c = λ at. writes_async c.args.function.now (names_of c.in_ok-locals.locals.items) _ _ _ at c.in_ok-locals.ensures
    (let e = ap length c.bytes.ensures.bytes in omega (arith, e, c.if-bytes-gt-MOST_NAME_BYTES.false))
    (let e = length-names_of c.in_ok-locals.locals.items in omega (arith, e, c.if-len-gt-MOST_LOCALS.false))
    c.in_ok-write_async.ensures.written c.in_ok-write_async.ensures.count
