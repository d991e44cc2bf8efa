use Rattle.std.proofs.Common.{sym, ◌∙◌}
use Rattle.page_interp.proofs.NameIndex.{sought_none, sought_here, sought_on, sought_all}
use Rattle.page_interp.proofs.names.first_place.Goals as goal

pub loop-place-init : goal.loop-place-init
loop-place-init c = sought_none _ _

pub loop-place-preserved : goal.loop-place-preserved
loop-place-preserved c =
    sought_on c.args.names.now c.loop-place.place c.index-names-place.result c.args.name.now c.index-names-place.is c.loop-place-test.true (sym c.same_text.ensures ∙ c.if-same_text.false) c.loop-place.invariant

pub returns : goal.returns
returns c = sym (sought_all c.args.names.now c.loop-place.place c.args.name.now c.loop-place-test.false c.loop-place.invariant)

pub returns-then-same_text : goal.returns-then-same_text
returns-then-same_text c =
    sym (sought_here c.args.names.now c.loop-place.place c.index-names-place.result c.args.name.now c.index-names-place.is c.loop-place-test.true (sym c.same_text.ensures ∙ c.if-same_text.true) c.loop-place.invariant)
