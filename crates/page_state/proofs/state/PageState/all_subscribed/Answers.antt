use Rattle.std.proofs.Common.{◌+◌, add-one, arith}
use Rattle.page_model.specs.PageCombinators.{subscribe_into}
use Rattle.page_state.proofs.Combined.{subscribe_into-adds, Does-more, Does-stops, Does-no_more}
use Rattle.page_state.proofs.state.PageState.all_subscribed.Goals as goal

pub loop-value-init : goal.loop-value-init
loop-value-init g c = record { rest = λ why new h. h }

pub returns-in_err-subscribed_of : goal.returns-in_err-subscribed_of
returns-in_err-subscribed_of g c =
    c.loop-value.invariant.rest _ _
    (Does-stops (subscribe_into c.args.into) (subscribe_into-adds c.args.into) c.args.items.now c.loop-value.value-index c.loop-value.value-index c.value-item.result c.loop-value.self _ (omega arith) c.value-item.is c.from_residual.ensures.1 c.in_err-subscribed_of.ensures)

pub loop-value-preserved : goal.loop-value-preserved
loop-value-preserved g c = record {
  rest = λ why new h.
      c.loop-value.invariant.rest why new
      (Does-more (subscribe_into c.args.into) (subscribe_into-adds c.args.into) c.args.items.now c.loop-value.value-index c.loop-value.value-index (c.loop-value.value-index + 1) c.value-item.result c.loop-value.self c.subscribed_of.new.self (add-one c.loop-value.value-index) (omega arith) c.value-item.is c.in_ok-subscribed_of.ensures h);
}

pub returns : goal.returns
returns g c =
    c.loop-value.invariant.rest _ _
    (Does-no_more g.L.Lines.keeping (subscribe_into c.args.into) c.args.items.now c.loop-value.value-index c.loop-value.value-index c.loop-value.self (g.L.Lines.seen c.loop-value.lines) (omega arith))
