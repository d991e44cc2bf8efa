use Rattle.std.proofs.Common.{ap, sym, subst, Err}
use Rattle.lang_ast.specs.SeenProgram.{seen_program}
use Rattle.arrivals_text.specs.Seen.{settings_of}
use Rattle.host_jobs.specs.ToldTable.{closures_of}
use Rattle.trace_text.specs.Trace.{IsBadLine}
use Rattle.trace_text.proofs.TracesRead.{refused_head, err_same, fault_line}
use Rattle.trace_check.proofs.FoundInText.{text-never-failed, text-found}
use Rattle.trace_check.proofs.checking.check_text.Goals as goal

pub returns-in_default-clause-bad : goal.returns-in_default-clause-bad
returns-in_default-clause-bad g c = λ line is. refused_head c.args.bytes.now line.line (sym (fault_line _ line (err_same _ _ is))) c.in_default.ensures

pub returns-in-Err-clause-bad : goal.returns-in-Err-clause-bad
returns-in-Err-clause-bad g c = λ line is.
    subst (λ bytes. IsBadLine bytes line.line) (sym c.in-Some.ensures.1) (c.in-Err.ensures.bad line (ap Err (err_same _ _ is)))

pub verdict_by-requires : goal.verdict_by-requires
verdict_by-requires g c =
    text-never-failed (seen_program c.args.program.now) (settings_of c.args.setup.now).setup (closures_of c.args.hosts.now) c.in-Some.form c.in-Some.text.now _ c.in-Ok.ensures.found
    c.replay_choices-replayed.result.lines.kept c.replay_choices-replayed.result.lines.refusals c.replay_choices-replayed.result.outcome
    (rw c.new-lines.ensures at c.replay_choices-replayed.ensures)

pub returns-in-Ok-verdict_by-clause-verdict : goal.returns-in-Ok-verdict_by-clause-verdict
returns-in-Ok-verdict_by-clause-verdict g c =
    rw c.in-Some.ensures.1
    (text-found (seen_program c.args.program.now) (settings_of c.args.setup.now).setup (closures_of c.args.hosts.now) c.in-Some.form c.in-Some.text.now _ c.in-Ok.ensures.found
    c.replay_choices-replayed.result.lines.kept c.replay_choices-replayed.result.lines.refusals c.replay_choices-replayed.result.outcome
    (rw c.new-lines.ensures at c.replay_choices-replayed.ensures) _ _ c.next_line.ensures c.in-Ok-verdict_by.ensures)
