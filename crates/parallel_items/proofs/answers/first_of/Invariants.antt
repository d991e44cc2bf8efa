use Rattle.std.proofs.Common.{◌≡◌, take}
use Rattle.std.specs.Option.{option_map}
use Rattle.page_model.specs.Parallel.{first_item_of}
use Rattle.parallel_items.specs.declared.taken.HostAnswer.{HostAnswer}
use Rattle.parallel_items.specs.Items.{answer_item, answer_items}
use Rattle.parallel_items.specs.Seen.{answer_seen, answers_of}
use Rattle.parallel_items.proofs.answers.first_of.Given as goal

abbrev pub invariant-loop-answer : goal.invariant-loop-answer
invariant-loop-answer l =
    option_map (λ (a : HostAnswer). answer_item (answer_seen a)) l.first ≡ first_item_of (answer_items (answers_of (take l.answer-index l.answers)))
