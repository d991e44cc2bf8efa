use Rattle.std.proofs.Common.{ap, length, map, ◌∙◌}
use Rattle.page_values.specs.Seen.{seen}
use Rattle.page_model.specs.PageCombinators.{race_made}
use Rattle.page_state.specs.Standing.{Standing, page_of}
use Rattle.page_state.proofs.Acting.{Does-last}
use Rattle.page_state.proofs.Lifted.{new_promise-one}
use Rattle.page_state.proofs.Telling.{Does-wanted}
use Rattle.page_state.proofs.Combined.{Does-race}
use Rattle.page_state.proofs.state.PageState.race_made.Goals as goal

pub returns-in_err-into-clause-does : goal.returns-in_err-into-clause-does
returns-in_err-into-clause-does g c =
    Does-wanted g.L.Lines.keeping (race_made (map seen c.args.items.now)) c.args.self.now c.new_promise.new.self _ _ c.from_residual.ensures.1 c.in_err-into.ensures.memory

pub returns-in_err-all_subscribed-clause-does : goal.returns-in_err-all_subscribed-clause-does
returns-in_err-all_subscribed-clause-does g c =
    Does-last _ c.from_residual-in_err-all_subscribed.ensures.1
    (Does-race c.in_ok-into.into (map seen c.args.items.now) c.args.self.now c.new_promise.new.self c.in_ok-into.ensures.made c.in_ok-into.ensures.number c.in_err-all_subscribed.ensures)

pub returns-clause-does : goal.returns-clause-does
returns-clause-does g c =
    Does-race c.in_ok-into.into (map seen c.args.items.now) c.args.self.now c.new_promise.new.self c.in_ok-into.ensures.made c.in_ok-into.ensures.number c.in_ok-all_subscribed.ensures

pub returns-clause-first : goal.returns-clause-first
returns-clause-first g c =
    c.in_ok-into.ensures.number ∙ ap (λ (s : Standing). length s.script.notices.promises) c.in_ok-into.ensures.made ∙ new_promise-one (page_of c.args.self.now)
