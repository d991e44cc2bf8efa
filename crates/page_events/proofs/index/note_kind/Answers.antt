use Rattle.std.proofs.Common.{◌≡◌, [], List, ℕ, Option, None, Some, cond, nat_cmp, sym, ap, ◌∙◌, rules}
use Rattle.std.specs.BTreeMap.{BTreeMap, get, is_at, insert_entry}
use Rattle.page_events.specs.declared.listener.Kind.{Kind}
use Rattle.page_events.specs.Indexed.{kind_cmp, registrations_of, SameRegistrations}
use Rattle.page_events.proofs.IndexLemmas.{now_known, as_before}
use Rattle.page_events.proofs.index.note_kind.Goals as goal

pub returns-in_err-insert-clause-err : goal.returns-in_err-insert-clause-err
returns-in_err-insert-clause-err c =
    let old = c.args.kinds.now in
    let new = c.get_mut.follows.lender c.insert.new.self in
    let updates : (q : _) → get kind_cmp new q ≡ cond (is_at (kind_cmp c.args.kind) q) (Some c.insert.new.self) (get kind_cmp old q) = ((c.get_mut.follows.holds c.insert.new.self).3 (search rules)).0 in
    let had : get kind_cmp old c.args.kind ≡ Some c.in-Some.own.now = search rules in
    let same : SameRegistrations old new = as_before old new c.args.kind c.insert.new.self updates c.in-Some.own.now had c.in_err-insert.ensures.err in
    search rules

pub returns-clause-noted : goal.returns-clause-noted
returns-clause-noted c = λ q.
    let old = c.args.kinds.now in
    let none : get kind_cmp old c.args.kind ≡ None = search rules in
    let kept : c.get_mut.follows.lender-at-none ≡ old = search rules in
    let updates : (p : Kind) → get kind_cmp c.insert-3.new.self p ≡ cond (is_at (kind_cmp c.args.kind) p) (Some c.insert-2.new.self) (get kind_cmp old p) =
    λ p. c.in_ok-insert-3.ensures.updates.0 p ∙ ap (λ m. cond (is_at (kind_cmp c.args.kind) p) (Some c.insert-2.new.self) (get kind_cmp m p)) kept in
    let no : registrations_of old c.args.kind ≡ [] = ap (λ (o : Option (BTreeMap ℕ ℕ)). elim o as (λ _. List (ℕ × ℕ)) [ None ↦ [] | Some b ↦ b.entries ]) none in
    now_known old c.insert-3.new.self c.args.kind c.insert-2.new.self updates q
    ∙ ap (λ es. cond (is_at (kind_cmp c.args.kind) q) es (registrations_of old q)) (c.in_ok-insert-2.ensures.entries ∙ ap (λ es. insert_entry nat_cmp es c.args.place c.args.registration) c.new-own.ensures.empty ∙ ap (λ es. insert_entry nat_cmp es c.args.place c.args.registration) (sym no))
