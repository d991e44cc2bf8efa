use Rattle.std.proofs.Common.{length, refl, ap, sym, ◌∙◌}
use Rattle.lang_ast.specs.Steps.{seen_outcome}
use Rattle.page_script.specs.Reports.{when_seen}
use Rattle.page_signals.specs.Steps.{is_calling_in, when_in}
use Rattle.page_state.specs.Standing.{Standing}
use Rattle.page_state.specs.FoldActs.{resume_step, hosting_of}
use Rattle.page_state.proofs.Reaching.{Reaches-wants}
use Rattle.page_state.proofs.Begun.{resume-none, resume-more, resume-stop}
use Rattle.page_state.proofs.state.PageState.resume_innermost.Goals as goal

pub returns-then-open_count-eq0 : goal.returns-then-open_count-eq0
returns-then-open_count-eq0 g c =
    resume-none c.args.self.now (seen_outcome c.args.end) (g.L.Lines.seen c.args.lines.now)
    (ap (λ (t : Standing). length t.folds) (sym c.self.view_is) ∙ sym c.open_count.ensures.count ∙ c.if-open_count-eq0.true)

pub returns-then-not-is_calling : goal.returns-then-not-is_calling
returns-then-not-is_calling g c =
    let s = c.args.self.now in
    Reaches-wants (resume_step (seen_outcome c.args.end) (hosting_of s)) s s (g.L.Lines.seen c.args.lines.now) _ refl (record { memory = refl; port = refl })

pub returns-in_err-callback_ended : goal.returns-in_err-callback_ended
returns-in_err-callback_ended g c =
    resume-stop c.args.self.now (seen_outcome c.args.end) (when_seen c.in_script-when.result) _
    (ap (λ (t : Standing). is_calling_in t.folds) (sym c.self.view_is) ∙ sym c.is_calling.ensures ∙ c.if-not-is_calling.false)
    (c.in_script-when.ensures ∙ c.when.ensures ∙ ap (λ (t : Standing). when_in t.folds) c.self.view_is)
    c.from_residual.ensures.1 c.in_err-callback_ended.ensures

pub returns : goal.returns
returns g c =
    resume-more c.args.self.now (seen_outcome c.args.end) (when_seen c.in_script-when.result) _
    (ap (λ (t : Standing). is_calling_in t.folds) (sym c.self.view_is) ∙ sym c.is_calling.ensures ∙ c.if-not-is_calling.false)
    (c.in_script-when.ensures ∙ c.when.ensures ∙ ap (λ (t : Standing). when_in t.folds) c.self.view_is)
    c.in_ok-callback_ended.ensures c.reach.ensures
