use Rattle.std.proofs.Common.{◌∙◌, sym, ap}
use Rattle.std.specs.Option.{option_map}
use Rattle.page_parts.specs.Words.{is_there}
use Rattle.page_model.specs.Parallel.{first_item_of}
use Rattle.parallel_items.specs.InParallel.{InParallel, Waiting}
use Rattle.parallel_items.specs.Items.{answer_items}
use Rattle.parallel_items.specs.Seen.{taken_seen}
use Rattle.parallel_items.specs.contracts.items.ParallelItems.{the_view}
use Rattle.parallel_items.proofs.FirstLemmas.{seen_takes}
use Rattle.parallel_items.proofs.items.ParallelItems.take_answer.Goals as goal

pub returns-in_err-task : goal.returns-in_err-task
returns-in_err-task c =
    let v : InParallel = the_view c.self.inside in
    let e = c.in_err-task.ensures in
    let none = ap (option_map taken_seen) c.from_residual.ensures in
    seen_takes (λ (s : InParallel). first_item_of (answer_items s.waiting.host_answers)) v _ _ _ c.self.view_is
    (record { taken = none ∙ e.taken v.waiting.completions; some = ap is_there none ∙ e.some; left = sym (ap (λ (w : Waiting). record v { waiting = w }) (e.left v.waiting)) })

pub returns : goal.returns
returns c =
    let v : InParallel = the_view c.self.inside in
    let e = c.in_ok-task.ensures in
    seen_takes (λ (s : InParallel). first_item_of (answer_items s.waiting.host_answers)) v _ _ _ c.self.view_is
    (record { taken = e.taken v.waiting.completions; some = e.some; left = sym (ap (λ (w : Waiting). record v { waiting = w }) (e.left v.waiting)) })
