use Rattle.std.proofs.Common.{◌≡◌, ◌<◌, List, Option, length, map, set, sym, ◌∙◌, ap, subst, arith}
use Rattle.std.proofs.lemmas.List.{map-set, length-map, length-set, with_items_is}
use Rattle.std.specs.Vec.{with_item}
use Rattle.post_task.specs.declared.tournament.Head.{Head}
use Rattle.post_task.specs.declared.tournament.Node.{Node}
use Rattle.post_task.specs.Tree.{own_of, IsRightBut}
use Rattle.post_task.proofs.Trees.{right_but_set, node_within}
use Rattle.post_task.proofs.tournament.Tournament.set.Goals as goal

pub returns : goal.returns
returns c =
    let sizes : length c.climb.new.nodes ≡ length c.self.inside.nodes.items = c.climb.auto.nodes ∙ ap length c.deref_mut.ensures.value ∙ length-set c.self.inside.nodes.items c.args.place _ in
    let node : Node = record { own = c.args.head; best = c.index_mut.result.now.best } in
    ap (map own_of) (with_items_is (with_item c.self.inside.nodes c.args.place node) c.climb.new.nodes (sizes ∙ sym c.self.inside.nodes.ok.0))
    ∙ c.climb.ensures.own
    ∙ ap (map own_of) c.deref_mut.ensures.value
    ∙ map-set own_of c.self.inside.nodes.items c.args.place _
    ∙ ap (λ (heads : List (Option Head)). set heads c.args.place c.args.head) c.self.view_is

pub climb-requires-clause-right : goal.climb-requires-clause-right
climb-requires-clause-right c =
    let items = c.self.inside.nodes.items in
    let place = c.args.place in
    let node : Node = record { own = c.args.head; best = c.index_mut.result.now.best } in
    let same = ap length c.self.view_is in
    let inside = c.requires in
    let within : place < length items = omega (arith, same, inside, length-map items own_of) in
    let best = ap (λ (n : Node). n.best) (c.index_mut.ensures.value ∙ node_within items place c.index_mut.result.now within) in
    let P : List Node → Type 0 = λ nodes. IsRightBut place nodes in
    subst P (sym c.deref_mut.ensures.value) (right_but_set items place node within best c.self.invariant)

pub climb-requires-clause-inside : goal.climb-requires-clause-inside
climb-requires-clause-inside c =
    let items = c.self.inside.nodes.items in
    let node : Node = record { own = c.args.head; best = c.index_mut.result.now.best } in
    let same = ap length c.self.view_is in
    let inside = c.requires in
    let set_is = ap length c.deref_mut.ensures.value in
    omega (arith, same, inside, set_is, length-map items own_of, length-set items c.args.place node)
