use Rattle.std.proofs.Common.{◌≡◌, drop, find, eqb}
use Rattle.parallel_items.specs.declared.taken.HostAnswer.{HostAnswer}
use Rattle.parallel_items.proofs.answers.asked_by.Given as goal

abbrev pub invariant-loop-answer : goal.invariant-loop-answer
invariant-loop-answer l =
    find (λ (a : HostAnswer). eqb a.task.registration l.registration) (drop l.answer-index l.answers)
    ≡ find (λ (a : HostAnswer). eqb a.task.registration l.registration) l.answers
