use Rattle.std.proofs.Common.{◌∙◌, ap}
use Rattle.std.specs.Option.{option_map}
use Rattle.page_parts.specs.Words.{is_there}
use Rattle.parallel_items.specs.Seen.{taken_seen}
use Rattle.parallel_items.proofs.items.ParallelItems.take_completion.Goals as goal

pub returns-in_err-completion : goal.returns-in_err-completion
returns-in_err-completion c =
    let e = c.in_err-completion.ensures in
    let none = ap (option_map taken_seen) c.from_residual.ensures in
    record { taken = none ∙ e.taken; some = ap is_there none ∙ e.some; left = e.left }

pub returns : goal.returns
returns c = let e = c.in_ok-completion.ensures in record { taken = e.taken; some = e.some; left = e.left }
