use Rattle.std.proofs.Common.{◌≡◌, List, [], ℕ, Option, None, Some, sym, ap, ◌∙◌, rules}
use Rattle.std.specs.BTreeMap.{BTreeMap, get}
use Rattle.std.specs.Map.{values_of}
use Rattle.std.specs.declared.alloc.Global.{Global}
use Rattle.std.specs.declared.collections.VecDeque.{VecDeque}
use Rattle.page_parts.specs.Listeners.{snapshot}
use Rattle.page_events.specs.Seen.{listeners_of, seen_target}
use Rattle.page_events.specs.Indexed.{kind_cmp, registrations_of}
use Rattle.page_events.proofs.IndexLemmas.{registrations_are}
use Rattle.page_events.proofs.listeners.Listeners.begin.Goals as goal
use Rattle.page_events.proofs.listeners.Listeners.begin.Goals.{in-Some+in_ok-left-in-Some, in-None}

pub returns : goal.returns
returns c =
    let kind = c.in_ok-kind.kind in
    let there : values_of (registrations_of c.self.inside.kinds kind) ≡ snapshot (seen_target c.args.target) c.args.name.now c.args.self.now =
    ap values_of (c.self.invariant kind) ∙ registrations_are c.self.inside.listed kind.signal kind.name.items
    ∙ ap (λ t. snapshot t kind.name.items (listeners_of c.self.inside.listed)) c.in_ok-kind.ensures.target
    ∙ ap (λ n. snapshot (seen_target c.args.target) n (listeners_of c.self.inside.listed)) c.in_ok-kind.ensures.name
    ∙ ap (snapshot (seen_target c.args.target) c.args.name.now) c.self.view_is in
    elim c.match-get.branch [
      | in-Some+in_ok-left-in-Some w ↦
          let had : get kind_cmp c.self.inside.kinds kind ≡ Some w.in-Some.own.now = search rules in
          ap (λ (d : VecDeque ℕ Global). d.items) w.left-is ∙ w.in_ok-left-in-Some.ensures
          ∙ sym (ap (λ (o : Option (BTreeMap ℕ ℕ)). values_of (elim o as (λ _. List (ℕ × ℕ)) [ None ↦ [] | Some b ↦ b.entries ])) had) ∙ there
      | in-None w ↦
          let none : get kind_cmp c.self.inside.kinds kind ≡ None = search rules in
          ap (λ (d : VecDeque ℕ Global). d.items) w.left-is ∙ w.new-left.ensures.items
          ∙ sym (ap (λ (o : Option (BTreeMap ℕ ℕ)). values_of (elim o as (λ _. List (ℕ × ℕ)) [ None ↦ [] | Some b ↦ b.entries ])) none) ∙ there
    ]
