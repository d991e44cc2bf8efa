use Rattle.std.proofs.Common.{◌≡◌, [], sym, subst, rules}
use Rattle.std.specs.Option.{IfSome, IfNone}
use Rattle.page_parts.specs.Words.{and_last}
use Rattle.keyed_list.specs.declared.keyed.Keyed.{Keyed}
use Rattle.keyed_list.specs.Listed.{places_in}
use Rattle.keyed_list.proofs.ListedLemmas.{taken_back, less}
use Rattle.page_events.specs.declared.listener.Kind.{Kind}
use Rattle.page_events.specs.Indexed.{AreKinds, AddsRegistration}
use Rattle.page_events.proofs.IndexLemmas.{kinds_put, kinds_same}
use Rattle.page_events.proofs.index.put.Goals as goal

pub returns-in-Err-clause-err : goal.returns-in-Err-clause-err
returns-in-Err-clause-err c =
    let place = c.in_ok-place.place in
    let l : Keyed Kind = record { key = c.from-key.result; item = c.args.own } in
    let pushed : c.push.new.self ≡ and_last c.args.listed.now (place, l) = c.in_ok-place.ensures.pushed in
    let new = c.take_last.new.self in
    taken_back c.args.listed.now new place l c.take_last.result c.in_ok-place.ensures.behind
    (subst (λ es. IfSome c.take_last.result (λ t. places_in es l.key ≡ and_last (places_in new l.key) t.place)) pushed c.take_last.ensures.last)
    (subst (λ es. IfSome c.take_last.result (λ t. new ≡ less t.place es)) pushed c.take_last.ensures.gone)
    (subst (λ es. IfNone c.take_last.result (places_in es l.key ≡ [])) pushed c.take_last.ensures.none)

pub returns-in-Err-clause-kinds : goal.returns-in-Err-clause-kinds
returns-in-Err-clause-kinds c =
    subst (λ es. AreKinds es c.note_kind.new.kinds) (sym (returns-in-Err-clause-err c))
    (kinds_same c.args.listed.now c.args.kinds.now c.note_kind.new.kinds c.requires.kinds c.in-Err.ensures.err)

pub returns-clause-kinds : goal.returns-clause-kinds
returns-clause-kinds c =
    let place = c.in_ok-place.place in
    let l : Keyed Kind = record { key = c.from-key.result; item = c.args.own } in
    let pushed : c.push.new.self ≡ and_last c.args.listed.now (place, l) = c.in_ok-place.ensures.pushed in
    let noted : AddsRegistration c.args.kind place c.args.registration c.args.kinds.now c.note_kind.new.kinds = search rules in
    let adds : AddsRegistration c.args.kind place l.key c.args.kinds.now c.note_kind.new.kinds =
    subst (λ r. AddsRegistration c.args.kind place r c.args.kinds.now c.note_kind.new.kinds) (sym c.from-key.ensures) noted in
    subst (λ es. AreKinds es c.note_kind.new.kinds) (sym pushed)
    (kinds_put c.args.listed.now place l c.args.kind c.args.kinds.now c.note_kind.new.kinds c.in_ok-place.ensures.behind c.requires.kinds c.requires.signal c.requires.name adds)
