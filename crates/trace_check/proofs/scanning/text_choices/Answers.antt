use Rattle.std.proofs.Common.{sym, subst}
use Rattle.trace_text.specs.Trace.{IsBadLine}
use Rattle.trace_text.proofs.TracesRead.{refused_head, err_same, fault_line}
use Rattle.trace_check.proofs.scanning.text_choices.Goals as goal

pub returns-in_default-clause-bad : goal.returns-in_default-clause-bad
returns-in_default-clause-bad c = λ line is. refused_head c.args.bytes.now line.line (sym (fault_line _ line (err_same _ _ is))) c.in_default.ensures

pub returns-clause-bad : goal.returns-clause-bad
returns-clause-bad c = λ line is. subst (λ bytes. IsBadLine bytes line.line) (sym c.in-Some.ensures.1) (c.choices_behind.ensures.bad line is)
