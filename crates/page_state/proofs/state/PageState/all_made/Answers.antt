use Rattle.std.proofs.Common.{map, sym}
use Rattle.std.proofs.lemmas.List.{length-map}
use Rattle.page_values.specs.Seen.{seen}
use Rattle.promise_combine.specs.Seen.{kind_seen}
use Rattle.page_state.proofs.Acting.{Does-last}
use Rattle.page_state.proofs.Combined.{Does-all, Does-all_stops}
use Rattle.page_state.proofs.state.PageState.all_made.Goals as goal

pub returns-in_err-made-clause-does : goal.returns-in_err-made-clause-does
returns-in_err-made-clause-does g c =
    Does-all_stops (kind_seen c.args.kind) _ (map seen c.args.items.now) c.args.self.now _ (sym (length-map c.args.items.now seen)) c.from_residual.ensures.1 c.in_err-made.ensures.does

pub returns-in_err-elements_made-clause-does : goal.returns-in_err-elements_made-clause-does
returns-in_err-elements_made-clause-does g c =
    Does-last _ c.from_residual-in_err-elements_made.ensures.1
    (Does-all (kind_seen c.args.kind) _ c.in_ok-made.made.combinator (map seen c.args.items.now) c.args.self.now c.combinator_made.new.self (sym (length-map c.args.items.now seen)) c.in_ok-made.ensures.combinator c.in_ok-made.ensures.does
    c.in_err-elements_made.ensures)

pub returns-clause-does : goal.returns-clause-does
returns-clause-does g c =
    Does-all (kind_seen c.args.kind) _ c.in_ok-made.made.combinator (map seen c.args.items.now) c.args.self.now c.combinator_made.new.self (sym (length-map c.args.items.now seen)) c.in_ok-made.ensures.combinator c.in_ok-made.ensures.does
    c.in_ok-elements_made.ensures
