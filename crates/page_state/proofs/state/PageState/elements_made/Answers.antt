use Rattle.std.proofs.Common.{◌+◌, refl, add-one, arith}
use Rattle.page_model.specs.PageCombinators.{element_made}
use Rattle.page_state.proofs.Combined.{element_made-adds, Does-more, Does-stops, Does-no_more}
use Rattle.page_state.proofs.state.PageState.elements_made.Goals as goal

pub loop-value-init : goal.loop-value-init
loop-value-init g c = record { place = refl; rest = λ why new h. h }

pub returns-in_err-element_of : goal.returns-in_err-element_of
returns-in_err-element_of g c =
    c.loop-value.invariant.rest _ _
    (Does-stops (element_made c.args.combinator) (element_made-adds c.args.combinator) c.args.items.now c.loop-value.value-index c.loop-value.place c.value-item.result c.loop-value.self _ (omega arith) c.value-item.is c.from_residual.ensures.1 c.in_err-element_of.ensures)

pub loop-value-preserved : goal.loop-value-preserved
loop-value-preserved g c = record {
  place = omega arith;
  rest = λ why new h.
      c.loop-value.invariant.rest why new
      (Does-more (element_made c.args.combinator) (element_made-adds c.args.combinator) c.args.items.now c.loop-value.value-index c.loop-value.place (c.loop-value.place + 1) c.value-item.result c.loop-value.self c.element_of.new.self (add-one c.loop-value.place) (omega arith) c.value-item.is c.in_ok-element_of.ensures h);
}

pub returns : goal.returns
returns g c =
    c.loop-value.invariant.rest _ _
    (Does-no_more g.L.Lines.keeping (element_made c.args.combinator) c.args.items.now c.loop-value.value-index c.loop-value.place c.loop-value.self (g.L.Lines.seen c.loop-value.lines) (omega arith))
