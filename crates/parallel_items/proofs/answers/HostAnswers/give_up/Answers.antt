use Rattle.std.proofs.Common.{not, eqb, ◌∙◌, ap, rules}
use Rattle.std.proofs.lemmas.Fn.{filter_same}
use Rattle.page_parts.specs.Words.{without}
use Rattle.parallel_items.specs.declared.taken.HostAnswer.{HostAnswer}
use Rattle.parallel_items.specs.Seen.{answers_of}
use Rattle.parallel_items.proofs.ClassLemmas.{answers_left}
use Rattle.parallel_items.proofs.answers.HostAnswers.give_up.Goals as goal

pub returns : goal.returns
returns c =
    let left = filter_same _ (λ (a : HostAnswer). not (eqb a.task.registration c.args.registration)) _ (λ x b f h. search rules) _ _ c.retain.ensures.filtered in
    ap answers_of left ∙ answers_left c.args.registration _ ∙ ap (without (λ a. eqb a.task.registration c.args.registration)) c.self.view_is
