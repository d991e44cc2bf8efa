use Rattle.std.proofs.Common.{◌≡◌, ℕ, Option, refl, ap, subst, ◌∙◌}
use Rattle.page_types.specs.declared.End.{End}
use Rattle.page_types.specs.declared.End.TheVariants.{Done, Fuel, Clock}
use Rattle.page_types.specs.Events.{EndLine}
use Rattle.page_model.specs.State.{Page, emit}
use Rattle.trace_text.specs.declared.lines.NoLine.{NoLine}
use Rattle.trace_text.specs.Given.{Keeping, Seen}
use Rattle.trace_text.specs.Acts.{At}
use Rattle.page_state.specs.Standing.{Standing, page_of}
use Rattle.page_state.specs.PageActs.{at, on_page, changed_by, Does}
use Rattle.page_host.specs.PageNow.{PageNow}
use Rattle.page_host.specs.Turning.{time_up, run_ended}
use Rattle.page_state.proofs.Telling.{Does-told}
use Rattle.page_host.proofs.StopLemmas.{does-stopped}
use Rattle.page_host.proofs.page.Page.finish.Goals as goal

time_up-silent : (until : ℕ) (end : End) (p : Page) → (time_up until end p).events ≡ p.events
time_up-silent until Done p = refl
time_up-silent until Fuel p = refl
time_up-silent until Clock p = refl

-- the line comes behind the change of the time
ends : {L T : Type 0} {k : Keeping T} (seen : L → Seen T) (until : ℕ) (end : End) (old mid : PageNow L) {why : Option NoLine} {new : At Standing T}
    → mid ≡ record old { state = changed_by (time_up until end) old.state }
    → Does k (at mid.state (seen mid.lines)) (on_page (emit (EndLine end))) why new → Does k (at old.state (seen old.lines)) (on_page (run_ended until end)) why new
ends {L = L} {k = k} seen until end old mid {why = why} {new = new} is h =
    Does-told (time_up until end) (λ p. EndLine end) (EndLine end) old.state mid.state (time_up-silent until end (page_of old.state)) (ap (λ (p : PageNow L). p.state) is) refl
    (subst (λ (lines : L). Does k (at mid.state (seen lines)) (on_page (emit (EndLine end))) why new) (ap (λ (p : PageNow L). p.lines) is) h)

pub returns-clause-does : goal.returns-clause-does
returns-clause-does g c =
    does-stopped c.finish-done.result c.or_stop.result c.or_stop.ensures.answer
    (ends g.L.Lines.seen c.args.self.now.until c.args.end c.args.self.now _ (c.self.view_is ∙ c.pass_to_end.ensures) c.finish-done.ensures)
