use Rattle.std.proofs.Common.{ap, sym, ◌∙◌, Option}
use Rattle.page_parts.specs.Words.{is_there}
use Rattle.page_model.specs.Parallel.{Item, due_item}
use Rattle.parallel_items.specs.Items.{first_waiting}
use Rattle.parallel_items.specs.Seen.{taken_seen}
use Rattle.page_state.proofs.Acting.{Does-last}
use Rattle.page_state.proofs.Items.{Does-item, Does-no_item}
use Rattle.page_state.proofs.state.PageState.take_waiting.Goals as goal

pub returns-in_err-do_taken-in-Some-clause-does : goal.returns-in_err-do_taken-in-Some-clause-does
returns-in_err-do_taken-in-Some-clause-does g c =
    let s = c.args.self.now in
    Does-last _ c.from_residual.ensures.1
    (Does-item s c.take_due.new.self (due_item s.script.now (first_waiting s.waiting)) (taken_seen c.in-Some.taken) (ap (due_item s.script.now) c.requires) c.in-Some.ensures.taken
    c.in-Some.ensures.left c.in_err-do_taken-in-Some.ensures)

pub returns-in_ok-do_taken-in-Some-clause-does : goal.returns-in_ok-do_taken-in-Some-clause-does
returns-in_ok-do_taken-in-Some-clause-does g c =
    let s = c.args.self.now in
    Does-item s c.take_due.new.self (due_item s.script.now (first_waiting s.waiting)) (taken_seen c.in-Some.taken) (ap (due_item s.script.now) c.requires) c.in-Some.ensures.taken
    c.in-Some.ensures.left c.in_ok-do_taken-in-Some.ensures

pub returns-in-None-clause-does : goal.returns-in-None-clause-does
returns-in-None-clause-does g c =
    let s = c.args.self.now in
    Does-no_item s c.take_due.new.self (due_item s.script.now (first_waiting s.waiting)) _ (ap (due_item s.script.now) c.requires) c.in-None.ensures.some c.in-None.ensures.left

pub returns-in-None-clause-due : goal.returns-in-None-clause-due
returns-in-None-clause-due g c =
    c.in-None.ensures.some ∙ ap (λ (o : Option Item). is_there (due_item c.args.self.now.script.now o)) (sym c.requires)
