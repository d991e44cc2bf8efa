use Rattle.std.proofs.Common.{sym, ◌∙◌, arith}
use Rattle.page_model.specs.Parallel.{parallel}
use Rattle.page_state.specs.Standing.{page_of}
use Rattle.loop_turn.specs.Waiting.{items_taken}
use Rattle.loop_turn.proofs.PageExits.{acts-nothing, acts-same, no-items, some-items}
use Rattle.loop_turn.proofs.finding.take_items.Goals as goal

pub returns-then-turns-eq0 : goal.returns-then-turns-eq0
returns-then-turns-eq0 g c =
    acts-nothing g.L.Lines.keeping g.L.Lines.seen c.args.page.now items_taken tt (no-items (page_of c.args.page.now.state) (sym c.turns.ensures ∙ c.if-turns-eq0.true))

pub returns : goal.returns
returns g c =
    acts-same parallel items_taken (some-items (page_of c.args.page.now.state) (let some = c.if-turns-eq0.false in let turns = c.turns.ensures in omega (arith, some, turns)))
    (record { does = c.parallel.ensures.does; stops = c.parallel.ensures.stops; fuel = c.parallel.ensures.fuel; setting = c.parallel.ensures.same })
