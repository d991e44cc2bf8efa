use Rattle.std.proofs.Common.{ap, sym, ◌∙◌, true, false}
use Rattle.parallel_items.specs.Items.{first_waiting, due_of}
use Rattle.parallel_items.proofs.FirstLemmas.{frame_is_first}
use Rattle.page_state.specs.Standing.{Standing, page_of}
use Rattle.page_state.specs.ItemActs.{before_due}
use Rattle.page_state.proofs.Items.{first_by}
use Rattle.page_state.proofs.state.PageState.first_frame.Goals as goal

pub returns-then-is_before-clause-some : goal.returns-then-is_before-clause-some
returns-then-is_before-clause-some g c =
    let t = c.in_ok-frame.frame.0 in
    let s = c.args.self.now in
    first_by t true s (frame_is_first t (page_of s)) (sym c.in_ok-frame.ensures)
    (ap (before_due t) (sym (c.next_due.ensures ∙ ap (λ (s : Standing). due_of (first_waiting s.waiting)) c.self.view_is)) ∙ sym c.is_before.ensures ∙ c.if-is_before.true)

pub returns-else-is_before-clause-none : goal.returns-else-is_before-clause-none
returns-else-is_before-clause-none g c =
    let t = c.in_ok-frame.frame.0 in
    let s = c.args.self.now in
    first_by t false s (frame_is_first t (page_of s)) (sym c.in_ok-frame.ensures)
    (ap (before_due t) (sym (c.next_due.ensures ∙ ap (λ (s : Standing). due_of (first_waiting s.waiting)) c.self.view_is)) ∙ sym c.is_before.ensures ∙ c.if-is_before.false)
