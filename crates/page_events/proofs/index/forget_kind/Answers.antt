use Rattle.std.proofs.Common.{◌≡◌, None, ap, ◌∙◌, rules}
use Rattle.std.specs.BTreeMap.{get}
use Rattle.page_events.specs.Indexed.{kind_cmp, registrations_of}
use Rattle.page_events.proofs.IndexLemmas.{none_left}
use Rattle.page_events.proofs.index.forget_kind.Goals as goal

pub returns-in_default : goal.returns-in_default
returns-in_default c = λ q.
    let old = c.args.kinds.now in
    let kind = c.args.kind.now in
    let none : get kind_cmp old kind ≡ None = search rules in
    let same : c.get_mut.follows.lender-at-none ≡ old = search rules in
    ap (λ m. registrations_of m q) same ∙ none_left old kind q c.args.place none
