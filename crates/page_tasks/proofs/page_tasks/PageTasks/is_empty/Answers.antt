use Rattle.std.proofs.Common.{ℕ, Option, ◌∙◌, ap}
use Rattle.std.specs.Prelude.{is_some, not}
use Rattle.std.specs.List.{list_all}
use Rattle.page_tasks.proofs.Firsts.{none_in}
use Rattle.page_tasks.proofs.page_tasks.PageTasks.is_empty.Goals as goal

pub returns : goal.returns
returns g c p is = c.has_none.ensures ∙ ap (list_all (λ (o : Option ℕ). not (is_some o))) (c.first_numbers.ensures.numbers p is) ∙ none_in p
