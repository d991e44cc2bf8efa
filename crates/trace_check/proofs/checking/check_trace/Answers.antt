use Rattle.std.proofs.Common.{◌≡◌, arith, suc, ◌+◌}
use Rattle.lang_ast.specs.SeenProgram.{seen_program}
use Rattle.arrivals_text.specs.Seen.{settings_of}
use Rattle.host_jobs.specs.ToldTable.{closures_of}
use Rattle.trace_text.specs.Comparing.{kept_in}
use Rattle.trace_check.proofs.Judging.{yes-where}
use Rattle.trace_check.proofs.Found.{if-ok, found, never-failed}
use Rattle.trace_check.proofs.ArrivedValues.{holds-no-numbers}
use Rattle.trace_check.proofs.OwnLaws.{legal-lawful}
use Rattle.trace_check.proofs.checking.check_trace.Goals as goal

pub verdict_by-requires : goal.verdict_by-requires
verdict_by-requires g c =
    never-failed (seen_program c.args.program.now) (settings_of c.args.setup.now).setup (closures_of c.args.hosts.now) c.args.trace.now
    (kept_in c.run_again-replayed.result.lines) c.run_again-replayed.result.lines.refusals c.run_again-replayed.result.outcome
    (rw (c.new-lines.ensures, c.items.ensures.content) at c.run_again-replayed.ensures)

pub returns-clause-verdict : goal.returns-clause-verdict
returns-clause-verdict g c =
    let counted : c.matched.result + 1 ≡ suc c.run_again-replayed.result.lines.matched = let met = c.matched.ensures in omega (arith, met) in
    if-ok c.verdict_by.result
    (λ verdict is.
    found (seen_program c.args.program.now) (settings_of c.args.setup.now).setup (closures_of c.args.hosts.now) c.args.trace.now
    (kept_in c.run_again-replayed.result.lines) c.run_again-replayed.result.lines.refusals c.run_again-replayed.result.outcome (c.matched.result + 1) verdict
    (rw (c.new-lines.ensures, c.items.ensures.content) at c.run_again-replayed.ensures) (rw c.items.ensures.content at c.items.ensures.whole) counted is)
    c.verdict_by.ensures

pub returns-clause-legal : goal.returns-clause-legal
returns-clause-legal g c =
    if-ok c.verdict_by.result
    (λ verdict is. yes-where (seen_program c.args.program.now) (settings_of c.args.setup.now).setup (closures_of c.args.hosts.now) c.args.trace.now verdict is)
    (returns-clause-verdict g c)

pub returns-clause-laws : goal.returns-clause-laws
returns-clause-laws g c =
    if-ok c.verdict_by.result
    (λ verdict legal is.
    legal-lawful (seen_program c.args.program.now) (settings_of c.args.setup.now).setup (closures_of c.args.hosts.now) c.args.trace.now
    (holds-no-numbers c.args.setup.now) (legal.0 is))
    (returns-clause-legal g c)
