use Rattle.std.proofs.Common.{List, Option, subst, ◌∙◌, ap}
use Rattle.std.specs.Prelude.{MatchOption}
use Rattle.post_task.specs.declared.tournament.Head.{Head}
use Rattle.post_task.specs.Tournament.{HasNone, Wins}
use Rattle.post_task.specs.Tree.{best_at}
use Rattle.post_task.proofs.Trees.{first_knows}
use Rattle.post_task.proofs.tournament.Tournament.winner.Goals as goal

pub returns : goal.returns
returns c =
    let P : List (Option Head) → Type 0 = λ heads. MatchOption c.best.result (HasNone heads) (Wins heads) in
    subst P c.self.view_is (first_knows c.self.inside.nodes.items c.self.invariant c.best.result (c.best.ensures ∙ ap (λ ns. best_at ns 0) c.deref.ensures.value))
