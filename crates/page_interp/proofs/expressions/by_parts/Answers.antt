use Rattle.std.proofs.Common.{Ok, rules}
use Rattle.std.proofs.lemmas.Int.{to_z-of_z}
use mir.Val.{SFits}
use mir.Syntax.{w64}
use Rattle.page_types.specs.Values.{TextValue}
use Rattle.page_interp.proofs.SmallSteps.{pushed_moves, answer_moves, if_moves, pushes_moves, stays_moves}
use Rattle.page_interp.proofs.ExprSteps.{or_pushes, and_pushes, sum_pushes, product_pushes, post_pushes, compare_pushes, unary_pushes, number_stays, text_stays, true_stays, false_stays, unit_stays, paren_stays, list_stays}
use Rattle.page_interp.proofs.NameSteps.{name_goes}
use Rattle.page_interp.proofs.AtOnce.{call_at}
use Rattle.page_interp.proofs.BlockSteps.{leads_after}
use Rattle.page_interp.proofs.expressions.by_parts.Goals as goal

pub returns-in-Or-clause-ok : goal.returns-in-Or-clause-ok
returns-in-Or-clause-ok g c = if_moves _ _ _ _ _ _ _ _ (pushed_moves _ _ _ _ _ _ c.wait.ensures.pushed c.wait.ensures.next (pushes_moves g.H.Host.rules _ (or_pushes _ _ _ _ _ c.in-Or.is c.deref-in-Or.ensures c.deref.ensures.value)))

pub returns-in-And-clause-ok : goal.returns-in-And-clause-ok
returns-in-And-clause-ok g c = if_moves _ _ _ _ _ _ _ _ (pushed_moves _ _ _ _ _ _ c.wait-in-And.ensures.pushed c.wait-in-And.ensures.next (pushes_moves g.H.Host.rules _ (and_pushes _ _ _ _ _ c.in-And.is c.deref-in-And-2.ensures c.deref-in-And.ensures.value)))

pub returns-in-Sum-clause-ok : goal.returns-in-Sum-clause-ok
returns-in-Sum-clause-ok g c = if_moves _ _ _ _ _ _ _ _ (pushed_moves _ _ _ _ _ _ c.wait-in-Sum.ensures.pushed c.wait-in-Sum.ensures.next (pushes_moves g.H.Host.rules _ (sum_pushes _ _ _ _ _ c.in-Sum.is c.deref-in-Sum-2.ensures c.deref-in-Sum.ensures.value)))

pub returns-in-Product-clause-ok : goal.returns-in-Product-clause-ok
returns-in-Product-clause-ok g c = if_moves _ _ _ _ _ _ _ _ (pushed_moves _ _ _ _ _ _ c.wait-in-Product.ensures.pushed c.wait-in-Product.ensures.next (pushes_moves g.H.Host.rules _ (product_pushes _ _ _ _ _ c.in-Product.is c.deref-in-Product-2.ensures c.deref-in-Product.ensures.value)))

pub returns-in-Post-clause-ok : goal.returns-in-Post-clause-ok
returns-in-Post-clause-ok g c = if_moves _ _ _ _ _ _ _ _ (pushed_moves _ _ _ _ _ _ c.wait-in-Post.ensures.pushed c.wait-in-Post.ensures.next (pushes_moves g.H.Host.rules _ (post_pushes _ _ _ _ _ c.in-Post.is c.deref-in-Post-2.ensures c.deref-in-Post.ensures.value)))

pub returns-in-Compare-clause-ok : goal.returns-in-Compare-clause-ok
returns-in-Compare-clause-ok g c = if_moves _ _ _ _ _ _ _ _ (pushed_moves _ _ _ _ _ _ c.wait-in-Compare.ensures.pushed c.wait-in-Compare.ensures.next (pushes_moves g.H.Host.rules _ (compare_pushes _ _ _ _ _ _ c.in-Compare.is c.deref-in-Compare-2.ensures c.deref-in-Compare.ensures)))

pub returns-in-Unary-clause-ok : goal.returns-in-Unary-clause-ok
returns-in-Unary-clause-ok g c = if_moves _ _ _ _ _ _ _ _ (pushed_moves _ _ _ _ _ _ c.wait-in-Unary.ensures.pushed c.wait-in-Unary.ensures.next (pushes_moves g.H.Host.rules _ (unary_pushes _ _ _ _ c.in-Unary.is c.deref-in-Unary.ensures)))

pub returns-in-Number-clause-ok : goal.returns-in-Number-clause-ok
returns-in-Number-clause-ok g c = let f : SFits w64 c.in-Number.n = search rules in rw to_z-of_z ((stays_moves g.H.Host.rules _ (number_stays _ _ c.in-Number.is)).goes _ _ _)

pub returns-in-Text-clause-ok : goal.returns-in-Text-clause-ok
returns-in-Text-clause-ok g c = if_moves _ _ _ _ _ _ _ _ (answer_moves c.come.result _ (Ok (TextValue c.in-Text.t)) _ _ _ c.come.ensures.ok c.text.ensures (λ f h. stays_moves g.H.Host.rules _ (text_stays _ _ f c.in-Text.is h)))

pub returns-in-True-clause-ok : goal.returns-in-True-clause-ok
returns-in-True-clause-ok g c = (stays_moves g.H.Host.rules _ (true_stays _ c.in-True.is)).goes _ _ _

pub returns-in-False-clause-ok : goal.returns-in-False-clause-ok
returns-in-False-clause-ok g c = (stays_moves g.H.Host.rules _ (false_stays _ c.in-False.is)).goes _ _ _

pub returns-in-Unit-clause-ok : goal.returns-in-Unit-clause-ok
returns-in-Unit-clause-ok g c = (stays_moves g.H.Host.rules _ (unit_stays _ c.in-Unit.is)).goes _ _ _

pub returns-in-Name-clause-ok : goal.returns-in-Name-clause-ok
returns-in-Name-clause-ok g c = name_goes g.H.Host.rules c.args.code.now c.args.store.now c.args.current.now _ c.come-in-Name.result _ _ _ c.in-Name.is c.come-in-Name.ensures.ok c.name_value.ensures

pub returns-in-Call-clause-ok : goal.returns-in-Call-clause-ok
returns-in-Call-clause-ok g c = call_at g.H.Host.rules c.args.code.now c.args.store.now c.args.current.now c.from_call.result _ _ _ _ _ _ c.in-Call.is c.deref-in-Call.ensures.value c.from_call.ensures.ok

pub returns-in-Paren-clause-ok : goal.returns-in-Paren-clause-ok
returns-in-Paren-clause-ok g c = (stays_moves g.H.Host.rules _ (paren_stays _ _ _ c.in-Paren.is c.deref-in-Paren.ensures)).goes _ _ _

pub returns-in-List-clause-ok : goal.returns-in-List-clause-ok
returns-in-List-clause-ok g c = leads_after g.H.Host.rules c.args.code.now c.args.store.now c.args.current.now c.next_in_row.result c.args.store.now c.args.current.now _ (stays_moves g.H.Host.rules _ (list_stays _ _ _ _ c.in-List.is c.deref-in-List.ensures.value c.new-values.ensures.items)) c.next_in_row.ensures.ok
