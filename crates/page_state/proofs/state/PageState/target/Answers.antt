use Rattle.std.proofs.Common.{ℕ, Option, ap, sym, ◌∙◌}
use Rattle.std.specs.Prelude.{option_map}
use Rattle.page_base.specs.declared.moment.Micros.{Micros}
use Rattle.page_parts.specs.Words.{least}
use Rattle.page_model.specs.Parallel.{first_item}
use Rattle.parallel_items.specs.Items.{first_waiting, due_of}
use Rattle.parallel_items.proofs.FirstLemmas.{due_of_page}
use Rattle.page_state.specs.Standing.{Standing, page_of}
use Rattle.page_state.proofs.state.PageState.target.Goals as goal

pub returns-clause-moment : goal.returns-clause-moment
returns-clause-moment g c =
    let s = c.args.self.now in
    let moment : Option Micros → Option ℕ = λ o. option_map (λ (m : Micros). m.0) o in
    c.sooner-2.ensures
    ∙ ap (λ (o : Option ℕ). least o (moment c.in_ok-idle.idle))
    (c.sooner.ensures
    ∙ ap (λ (o : Option ℕ). least o (moment c.next_frame.result)) (c.next_due.ensures ∙ ap (λ (s : Standing). due_of (first_waiting s.waiting)) c.self.view_is)
    ∙ ap (λ (o : Option ℕ). least (due_of (first_waiting s.waiting)) o) c.next_frame.ensures
    ∙ sym (due_of_page (page_of s)))
    ∙ ap (λ (o : Option ℕ). least (due_of (first_item (page_of s))) o) c.in_ok-idle.ensures.moment
