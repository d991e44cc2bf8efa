use Rattle.std.proofs.Common.{not, ap, ◌∙◌}
use Rattle.page_parts.specs.Words.{is_empty, has_number}
use Rattle.keyed_list.specs.Listed.{keys_in}
use Rattle.keyed_list.proofs.ListedLemmas.{is_listed}
use Rattle.keyed_list.proofs.list.KeyedList.contains.Goals as goal

pub returns : goal.returns
returns g c =
    let key = c.args.key in
    c.has_places.ensures ∙ ap (λ ks. not (is_empty ks)) (c.self.invariant.by_key key) ∙ is_listed key c.self.inside.listed.entries
    ∙ ap (λ es. has_number (keys_in es) key) c.self.view_is
