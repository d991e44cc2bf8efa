use Rattle.page_interp.specs.Direct.{names_there}
use Rattle.page_interp.proofs.DirectSteps.{if_so, compare_gives}
use Rattle.page_interp.proofs.at_once.truth.Goals as goal

pub returns-in-Compare : goal.returns-in-Compare
returns-in-Compare c = if_so c.direct_compare.result c.direct_compare.ensures
    (λ b h. compare_gives (names_there c.args.code.now c.args.store.now c.args.current.now) _ _ _ _ _ _ _ c.in-Compare.is c.deref.ensures c.deref-in-Compare.ensures h)
