use Rattle.std.proofs.Common.{◌<◌, ◌≤◌, length, get_or, false, ap, sym, subst, ◌∙◌, List, Bool}
use Rattle.page_parts.specs.Words.{has_number}
use Rattle.page_parts.specs.Combinators.{Combine}
use Rattle.promise_combine.specs.Reports.{has_reported}
use Rattle.promise_combine.proofs.Outcomes.{places-reports_of}
use Rattle.promise_combine.proofs.Marking.{may_report-there, may_report-past}
use Rattle.promise_combine.proofs.combine.Combine.may_report.Goals as goal

pub returns-in-Some : goal.returns-in-Some
returns-in-Some c =
    let inside = c.self.inside in
    let place = c.args.place in
    let read = c.in-Some.ensures.lookup.3 in
    may_report-there c.args.self.now (length inside.outcomes.items) place inside.order.items inside.reported.items c.in-Some.reported.now c.self.invariant.2
    (ap (λ (s : Combine). s.count) c.self.view_is)
    (sym (ap (has_reported place) c.self.view_is) ∙ ap (λ ks. has_number ks place) (places-reports_of inside.outcomes.items inside.order.items))
    (subst (λ (ms : List Bool). place < length ms) c.deref.ensures.value read.0)
    (read.1 false ∙ ap (λ ms. get_or ms place false) c.deref.ensures.value)

pub returns-in-None : goal.returns-in-None
returns-in-None c =
    let inside = c.self.inside in
    may_report-past c.args.self.now (length inside.outcomes.items) c.args.place inside.order.items inside.reported.items c.self.invariant.2 (ap (λ (s : Combine). s.count) c.self.view_is)
    (subst (λ (ms : List Bool). length ms ≤ c.args.place) c.deref.ensures.value c.in-None.ensures.lookup.3)
