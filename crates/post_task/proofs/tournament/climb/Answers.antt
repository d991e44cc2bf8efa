use Rattle.std.proofs.Common.{◌≡◌, ℕ, ◌-◌, ◌/◌, List, length, sym, subst, ◌∙◌, ap, arith, map}
use Rattle.post_task.specs.declared.tournament.Node.{Node}
use Rattle.post_task.specs.Tree.{IsRight, IsRightBut, own_of}
use Rattle.post_task.proofs.Trees.{right_above, right_all, mended_own, mended_length}
use Rattle.post_task.proofs.tournament.climb.Goals as goal

pub loop-at-preserved : goal.loop-at-preserved
loop-at-preserved c =
    let nodes = c.loop-at.nodes in
    let at = c.loop-at.at in
    let P : List Node → Type 0 = λ ns. IsRightBut ((at - 1) / 2) ns in
    let sizes : length c.mend.new.nodes ≡ length nodes = ap length c.mend.ensures ∙ mended_length nodes at in
    let i = c.loop-at.invariant.inside in
    record {
      inside = omega (arith, sizes, i);
      right = subst P (sym c.mend.ensures) (right_above nodes at c.loop-at-test.true i c.loop-at.invariant.right);
      own = ap (λ ns. map own_of ns) c.mend.ensures ∙ mended_own nodes at ∙ c.loop-at.invariant.own;
    }

pub returns-clause-right : goal.returns-clause-right
returns-clause-right c =
    let nodes = c.loop-at.nodes in
    let top : c.loop-at.at ≡ 0 = omega arith in
    let P : List Node → Type 0 = λ ns. IsRight ns in
    let Q : ℕ → Type 0 = λ n. IsRightBut n nodes in
    let i = c.loop-at.invariant.inside in
    subst P (sym c.mend-2.ensures) (right_all nodes (omega (arith, i)) (subst Q top c.loop-at.invariant.right))
