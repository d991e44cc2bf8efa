use Rattle.std.proofs.Common.{None, Some, ◌∙◌, ap}
use Rattle.std.specs.Prelude.{find, ◌==◌}
use Rattle.page_model.specs.State.{Element}
use Rattle.page_model.specs.PageCombinators.{lead_into}
use Rattle.promise_core.specs.Seen.{settled_seen}
use Rattle.page_notices.proofs.Timing.{Does-memory}
use Rattle.page_script.specs.Script.{Script}
use Rattle.page_script.specs.ScriptActs.{on_script}
use Rattle.page_script.proofs.Reporting.{Does-led}
use Rattle.page_script.proofs.script.PageScript.lead_into.Goals as goal

pub returns-then-not-is_promise : goal.returns-then-not-is_promise
returns-then-not-is_promise g c =
    Does-memory g.L.Lines.keeping (on_script (lead_into c.args.into (settled_seen c.args.how))) c.args.self.now c.args.self.now (g.L.Lines.seen c.args.lines.now)

pub returns-in-None : goal.returns-in-None
returns-in-None g c =
    let into = c.args.into in
    Does-led into (settled_seen c.args.how) c.args.self.now None (c.in-None.ensures ∙ ap (λ (s : Script). find (λ e. e.promise == into) s.elements) c.self.view_is) c.follow_if_made.ensures

pub returns-in-Some : goal.returns-in-Some
returns-in-Some g c =
    let into = c.args.into in
    let e : Element = record { promise = into; combinator = c.in-Some.combinator; place = c.in-Some.place } in
    Does-led into (settled_seen c.args.how) c.args.self.now (Some e) (c.in-Some.ensures ∙ ap (λ (s : Script). find (λ e. e.promise == into) s.elements) c.self.view_is) c.report_for.ensures
