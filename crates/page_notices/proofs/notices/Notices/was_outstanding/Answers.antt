use Rattle.std.proofs.Common.{◌∙◌, ap, sym, not, ◌&&◌}
use Rattle.page_parts.specs.Promises.{the_promise}
use Rattle.page_parts.specs.Notices.{is_outstanding}
use Rattle.page_notices.proofs.Marking.{has_number-unhandled}
use Rattle.page_notices.proofs.notices.Notices.was_outstanding.Goals as goal

pub returns-then-has : goal.returns-then-has
returns-then-has c =
    let s = c.self.inside in
    let p = c.args.p in
    ap not c.handled.ensures ∙ ap (λ b. b && not (the_promise s.promises.promises p).handled) (sym c.if-has.true ∙ c.has.ensures) ∙ sym (has_number-unhandled s.promises.promises s.noted.noted p)
    ∙ ap (is_outstanding p) c.self.view_is

pub returns-else-has : goal.returns-else-has
returns-else-has c =
    let s = c.self.inside in
    let p = c.args.p in
    c.if-has.false ∙ ap (λ b. b && not (the_promise s.promises.promises p).handled) (sym c.if-has.false ∙ c.has.ensures) ∙ sym (has_number-unhandled s.promises.promises s.noted.noted p)
    ∙ ap (is_outstanding p) c.self.view_is
