use Rattle.std.proofs.Common.{◌≡◌, ◌++◌, [], ◌∷◌, cond, List, is_ok, ap, sym, subst, ◌∙◌}
use Rattle.post_task.specs.declared.tournament.Node.{Node}
use Rattle.post_task.specs.Tree.{no_node, IsRight}
use Rattle.post_task.proofs.Trees.{right_push}
use Rattle.post_task.proofs.tournament.Tournament.push.Goals as goal

pub invariant_of-self-2 : goal.invariant_of-self-2
invariant_of-self-2 c =
    let old = c.self.inside.nodes.items in
    let before = c.reserve.new.self.items in
    let pushed : c.push.new.self.items ≡ old ++ no_node ∷ [] =
    c.push.ensures.items ∙ ap (λ b. cond b (before ++ no_node ∷ []) before) (ap is_ok c.unwrap.ensures) ∙ ap (λ xs. xs ++ no_node ∷ []) c.in_ok-reserve.ensures.items in
    let P : List Node → Type 0 = λ ns. IsRight ns in
    subst P (sym pushed) (right_push old c.self.invariant)
