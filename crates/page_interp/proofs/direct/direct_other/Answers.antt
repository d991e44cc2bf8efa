use Rattle.page_interp.specs.Direct.{names_there}
use Rattle.page_interp.proofs.DirectSteps.{ok_so, compare_gives, whole_sum_gives, text_gives, true_gives, false_gives, name_in}
use Rattle.page_interp.proofs.direct.direct_other.Goals as goal

pub returns-in-Sum : goal.returns-in-Sum
returns-in-Sum c = ok_so c.text_sum.result c.text_sum.ensures
    (λ v h. whole_sum_gives _ _ _ _ _ _ _ c.in-Sum.is c.deref.ensures c.deref-in-Sum.ensures.value h)

pub returns-in_ok-copy_text-in-Text : goal.returns-in_ok-copy_text-in-Text
returns-in_ok-copy_text-in-Text c = rw c.in_ok-copy_text-in-Text.ensures (text_gives _ _ _ c.in-Text.is)

pub returns-in-True : goal.returns-in-True
returns-in-True c = true_gives _ _ c.in-True.is

pub returns-in-False : goal.returns-in-False
returns-in-False c = false_gives _ _ c.in-False.is

pub returns-in-Some : goal.returns-in-Some
returns-in-Some c = compare_gives (names_there c.args.code.now c.args.store.now c.args.current.now) _ _ _ _ _ _ _ c.in-Compare.is c.deref-in-Compare.ensures c.deref-in-Compare-2.ensures c.in-Some.ensures

pub returns-in-Name : goal.returns-in-Name
returns-in-Name c = name_in (names_there c.args.code.now c.args.store.now c.args.current.now) _ _ c.named.result c.in-Name.is c.named.ensures
