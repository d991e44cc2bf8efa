use Rattle.std.proofs.Common.{ap}
use Rattle.lang_ast.specs.Seen.{seen_stmt}
use Rattle.async_segments.specs.Segments.{step_symbols, next_count}
use Rattle.async_segments.specs.Written.{names_of}
use Rattle.async_segments.proofs.Writing.{adds_as}
use Rattle.async_segments.proofs.segments.write_step.Goals as goal

pub returns-in_ok-write_await-in-Some-clause-written : goal.returns-in_ok-write_await-in-Some-clause-written
returns-in_ok-write_await-in-Some-clause-written c = adds_as (ap (step_symbols c.args.function.now (names_of c.args.locals.now.items) c.args.awaits (seen_stmt c.args.stmt.now)) c.in-Some.ensures.found) c.in_ok-write_await-in-Some.ensures

pub returns-in_ok-write_await-in-Some-clause-count : goal.returns-in_ok-write_await-in-Some-clause-count
returns-in_ok-write_await-in-Some-clause-count c = ap (next_count c.args.awaits) c.in-Some.ensures.found

pub returns-in_ok-write_stmt-in-None-clause-written : goal.returns-in_ok-write_stmt-in-None-clause-written
returns-in_ok-write_stmt-in-None-clause-written c = adds_as (ap (step_symbols c.args.function.now (names_of c.args.locals.now.items) c.args.awaits (seen_stmt c.args.stmt.now)) c.in-None.ensures.found) c.in_ok-write_stmt-in-None.ensures

pub returns-in_ok-write_stmt-in-None-clause-count : goal.returns-in_ok-write_stmt-in-None-clause-count
returns-in_ok-write_stmt-in-None-clause-count c = ap (next_count c.args.awaits) c.in-None.ensures.found
