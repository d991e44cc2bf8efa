use Rattle.std.proofs.Common.{sym, subst, inl, inr, None}
use Rattle.page_values.specs.Seen.{seen}
use Rattle.page_model.specs.Invoke.{report_after}
use Rattle.trace_text.specs.Acts.{Does}
use Rattle.page_script.specs.declared.parts.WhenReported.{WhenReported}
use Rattle.page_script.specs.Reports.{when_seen}
use Rattle.page_script.specs.ScriptActs.{on, on_script}
use Rattle.page_script.proofs.Lifting.{Does-idle}
use Rattle.page_script.proofs.script.PageScript.report_after.Goals as goal

pub returns-in-BeforeCheckpoint : goal.returns-in-BeforeCheckpoint
returns-in-BeforeCheckpoint g c =
    let k = g.L.Lines.keeping in
    let s = c.args.self.now in
    let seen_lines = g.L.Lines.seen c.args.lines.now in
    let P : WhenReported → Type 0 = λ w. Does k (on s seen_lines) (on_script (report_after (when_seen w) (seen c.args.value.now))) None (on s seen_lines) in
    elim c.in-BeforeCheckpoint.is [ inl e ↦ subst P (sym e) (Does-idle k s seen_lines) | inr e ↦ subst P (sym e) (Does-idle k s seen_lines) ]
