use Rattle.std.proofs.Common.{refl}
use Rattle.promise_combine.specs.Seen.{kind_seen}
use Rattle.page_model.specs.PageCombinators.{combinator_made}
use Rattle.page_script.proofs.Touching.{combinator_made-only}
use Rattle.page_state.proofs.Acting.{Does-wants}
use Rattle.page_state.proofs.Lifted.{Does-lifted}
use Rattle.page_state.proofs.Combined.{combined-number, combined-last}
use Rattle.page_state.proofs.Combined.{combined-first}
use Rattle.page_state.proofs.state.PageState.combinator_made.Goals as goal

pub returns-then-promises_made-clause-does : goal.returns-then-promises_made-clause-does
returns-then-promises_made-clause-does g c =
    Does-wants g.L.Lines.keeping (combinator_made (kind_seen c.args.kind) c.args.count) c.args.self.now c.args.self.now (g.L.Lines.seen c.args.lines.now) refl

pub returns-clause-does : goal.returns-clause-does
returns-clause-does g c =
    Does-lifted (combinator_made (kind_seen c.args.kind) c.args.count) (combinator_made-only (kind_seen c.args.kind) c.args.count) c.self.view_is c.combine.ensures.does

pub returns-clause-combinator : goal.returns-clause-combinator
returns-clause-combinator g c = combined-number (kind_seen c.args.kind) c.args.count _ c.combine.new.self _ c.combine.ensures.does c.combine.ensures.combinator

pub returns-clause-last : goal.returns-clause-last
returns-clause-last g c = combined-last (kind_seen c.args.kind) c.args.count _ c.combine.new.self _ c.combine.ensures.does c.combine.ensures.promise

pub returns-clause-first : goal.returns-clause-first
returns-clause-first g c = combined-first c.combine.result c.self.view_is c.combine.ensures.promise
