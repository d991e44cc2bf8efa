use Rattle.std.proofs.Common.{◌≡◌, Some, Ok, sym, ◌∙◌, rules}
use Rattle.std.proofs.lemmas.Int.{to_z-of_z}
use mir.Val.{SFits, to_z, of_z}
use mir.Syntax.{w64}
use Rattle.page_types.specs.Values.{IntValue}
use Rattle.page_parts.specs.Kinds.{list_in}
use Rattle.lang_meaning.specs.Evaluation.{place_in, sum_answer}
use Rattle.page_values.specs.Seen.{seen, seen_all}
use Rattle.page_interp.specs.Answers.{int_product}
use Rattle.page_interp.specs.Direct.{names_there}
use Rattle.page_interp.proofs.DirectSteps.{if_so, number_gives, name_gives, paren_gives, post_gives, sum_gives, product_gives, item_gives, term_gives, factor_gives, item_is, product_is, int_there}
use Rattle.page_interp.proofs.direct.+direct.Goals as goal

pub int-returns-in-Number : goal.int-returns-in-Number
int-returns-in-Number t c = let f : SFits w64 c.in-Number.n = search rules in rw to_z-of_z (number_gives _ _ _ c.in-Number.is)

pub int-returns-in-Paren : goal.int-returns-in-Paren
int-returns-in-Paren t c = if_so c.int.result c.int.ensures (λ n h. paren_gives _ _ _ _ _ c.in-Paren.is c.deref.ensures h)

pub int-returns-in_ok-total-in-Sum : goal.int-returns-in_ok-total-in-Sum
int-returns-in_ok-total-in-Sum t c =
    let f : SFits w64 c.in_ok-total-in-Sum.total = search rules in
    if_so c.sum_in.result c.sum_in.ensures (λ n h. sum_gives _ _ _ _ _ _ (IntValue (to_z w64 (of_z w64 c.in_ok-total-in-Sum.total))) _ c.in-Sum.is c.deref-in-Sum.ensures c.deref-in-Sum-2.ensures.value
    (rw (to_z-of_z w64 c.in_ok-total-in-Sum.total f) c.in_ok-total-in-Sum.ensures) h)

pub int-returns-in_ok-total-in-Product : goal.int-returns-in_ok-total-in-Product
int-returns-in_ok-total-in-Product t c =
    let f : SFits w64 c.in_ok-total-in-Product.total = search rules in
    if_so c.product_in.result c.product_in.ensures (λ n h. product_gives _ _ _ _ _ _ (IntValue (to_z w64 (of_z w64 c.in_ok-total-in-Product.total))) _ c.in-Product.is c.deref-in-Product.ensures c.deref-in-Product-2.ensures.value
    (rw (to_z-of_z w64 c.in_ok-total-in-Product.total f) c.in_ok-total-in-Product.ensures) h)

pub item-returns-in-Name : goal.item-returns-in-Name
item-returns-in-Name t c = if_so c.variable.result c.variable.ensures (λ v h. name_gives _ _ _ _ c.in-Name.is h)

pub item-returns-in-Paren : goal.item-returns-in-Paren
item-returns-in-Paren t c = if_so c.item.result c.item.ensures (λ v h. paren_gives _ _ _ _ _ c.in-Paren.is c.deref.ensures h)

pub item-returns-in_ok-list-in-Post : goal.item-returns-in_ok-list-in-Post
item-returns-in_ok-list-in-Post t c = if_so c.item_in.result c.item_in.ensures (λ v h. post_gives _ _ _ _ _ _ _ _ c.in-Post.is c.deref-in-Post.ensures c.deref-in-Post-2.ensures.value (c.in_ok-list-in-Post.ensures) h)

pub item_in-loop-place-preserved : goal.item_in-loop-place-preserved
item_in-loop-place-preserved t c =
    let n : SFits w64 c.in_ok-n.n = search rules in
    let at : place_in (seen_all c.items.result.now) c.in_ok-n.n ≡ Some (seen c.in_ok-value.value.now) = sym (rw to_z-of_z at c.in_ok-value.ensures) in
    let list : list_in (seen c.loop-place.value.now) ≡ Some (seen_all c.items.result.now) = rw c.items.ensures.items c.in_ok-items.ensures in
    c.loop-place.invariant ∙ item_gives (names_there c.args.code.now c.args.store.now c.args.current.now) _ _ c.in-Some.place.now (IntValue c.in_ok-n.n) (seen c.loop-place.value.now) (seen c.in_ok-value.value.now)
    c.in-Some.ensures.cases.0 c.in_ok-n.ensures (item_is _ _ _ c.in_ok-n.n list at)

pub sum_in-loop-term-preserved : goal.sum_in-loop-term-preserved
sum_in-loop-term-preserved t c =
    let n : SFits w64 c.in_ok-n.n = search rules in
    let f : SFits w64 c.in_ok-total.total = search rules in
    let e : sum_answer c.in-Some.term.now.0 (IntValue (to_z w64 c.loop-term.total-bits)) (IntValue c.in_ok-n.n) ≡ Ok (IntValue c.in_ok-total.total) = rw to_z-of_z at c.in_ok-total.ensures in
    c.loop-term.invariant ∙ term_gives (names_there c.args.code.now c.args.store.now c.args.current.now) _ _ c.in-Some.term.now (IntValue c.in_ok-n.n) (IntValue (to_z w64 c.loop-term.total-bits)) (IntValue (to_z w64 (of_z w64 c.in_ok-total.total)))
    c.in-Some.ensures.cases.0 c.in_ok-n.ensures (rw to_z-of_z e)

pub product_in-loop-factor-preserved : goal.product_in-loop-factor-preserved
product_in-loop-factor-preserved t c =
    let n : SFits w64 c.in_ok-n.n = search rules in
    let f : SFits w64 c.in_ok-total.total = search rules in
    let e : Some c.in_ok-total.total ≡ int_product c.in-Some.factor.now.0 (to_z w64 c.loop-factor.total-bits) c.in_ok-n.n = rw to_z-of_z at c.in_ok-total.ensures in
    c.loop-factor.invariant ∙ factor_gives (names_there c.args.code.now c.args.store.now c.args.current.now) _ _ c.in-Some.factor.now (IntValue c.in_ok-n.n) (IntValue (to_z w64 c.loop-factor.total-bits)) (IntValue (to_z w64 (of_z w64 c.in_ok-total.total)))
    c.in-Some.ensures.cases.0 c.in_ok-n.ensures (rw to_z-of_z (product_is c.in-Some.factor.now.0 (to_z w64 c.loop-factor.total-bits) c.in_ok-n.n _ e))

pub int-returns-in_ok-variable-in-Name : goal.int-returns-in_ok-variable-in-Name
int-returns-in_ok-variable-in-Name t c = int_there (names_there c.args.code.now c.args.store.now c.args.current.now) _ _ _ c.as_int.result c.in-Name.is c.in_ok-variable-in-Name.ensures c.as_int.ensures
