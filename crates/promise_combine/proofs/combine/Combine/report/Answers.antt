use Rattle.std.proofs.Common.{ap, sym, ◌∙◌}
use Rattle.std.specs.Prelude.{is_some}
use Rattle.promise_core.specs.Seen.{settled_seen}
use Rattle.promise_combine.proofs.Answering.{is_some-map}
use Rattle.promise_combine.proofs.combine.Combine.report.Goals as goal

pub note-requires-clause-answers : goal.note-requires-clause-answers
note-requires-clause-answers c =
    c.is_some.ensures ∙ (sym (is_some-map settled_seen c.in_ok-answer.answer) ∙ ap is_some c.in_ok-answer.ensures.answer)
