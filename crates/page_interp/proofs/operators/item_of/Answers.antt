use Rattle.std.specs.Int.{w64}
use Rattle.std.proofs.lemmas.Int.{to_z-of_z}
use Rattle.page_interp.proofs.Frames.{place_here, place_past}
use Rattle.page_interp.proofs.operators.item_of.Goals as goal

pub returns-then-place-items : goal.returns-then-place-items
returns-then-place-items c = place_here c.args.items.now _ c.args.n c.index-items-place.result (to_z-of_z w64 c.args.n c.ranges.n) c.if-n-lt0.false c.index-items-place.is c.if-place-items.true

pub returns : goal.returns
returns c = place_past c.args.items.now _ c.args.n (to_z-of_z w64 c.args.n c.ranges.n) c.if-n-lt0.false c.if-place-items.false
