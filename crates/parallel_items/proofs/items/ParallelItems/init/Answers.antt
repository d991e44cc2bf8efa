use Rattle.std.proofs.Common.{◌≡◌, ◌∙◌, ◌++◌, ◌∷◌, [], ℕ, suc, true, false, List, Option, Some, None, sym, subst, ap, refl, unwrap_or, is_some, not, w64}
use Rattle.std.proofs.lemmas.Int.{to_z-of_z}
use Rattle.std.proofs.lemmas.List.Sorted.{IsPermutation-refl}
use Rattle.std.specs.List.Sorted.{IsPermutation}
use Rattle.page_parts.specs.Timers.{Timers, Armed, armed, with_armed, has_id}
use Rattle.page_model.specs.State.{Completing}
use Rattle.timer_map.specs.Counted.{entries_of}
use Rattle.timer_map.specs.Rows.{with_due}
use Rattle.timer_map.specs.Seen.{seen_armed}
use Rattle.parallel_items.specs.InParallel.{InParallel, TimerOwner}
use Rattle.parallel_items.specs.Kept.{AreKeptInRows}
use Rattle.parallel_items.specs.Seen.{owners_of}
use Rattle.parallel_items.specs.Steps.{timer_started, timer_steps}
use Rattle.parallel_items.specs.contracts.items.ParallelItems.{the_view}
use Rattle.parallel_items.proofs.InitLemmas.{queue_timer, steps_started, first_kept, first_owners, again_kept, same_owners}
use Rattle.parallel_items.proofs.StartedLemmas.{Row}
use Rattle.parallel_items.proofs.items.ParallelItems.init.Goals as goal

stay : (old new : List (ℕ × ℕ)) → new ≡ old → IsPermutation old new
stay old new same = subst (IsPermutation old) (sym same) (IsPermutation-refl old)

none_from : (o : Option ℕ) → is_some o ≡ false → o ≡ None
none_from None e = refl
none_from (Some x) e = cc

some_from : (o : Option ℕ) → is_some o ≡ true → (x : ℕ) × (o ≡ Some x)
some_from None e = let never : ⊥ = cc in absurd never
some_from (Some x) e = (x, refl)

pub invariant_of-self-then-is_none : goal.invariant_of-self-then-is_none
invariant_of-self-then-is_none c =
    let i = c.self.inside in
    let t = i.timers in
    let b = seen_armed c.would_arm-armed.result in
    let e = c.would_arm-armed.ensures in
    let room = stay _ _ c.in_ok-make_place.ensures.same in
    let held = entries_of i.owners.items in
    let more = entries_of c.make_place.new.places.items in
    let start = ap (λ (a : Armed). a.start) e in
    let added = c.in_ok-add.ensures.added
    ∙ ap (λ z. with_due b.due (b.start, queue_timer b c.args.registration c.args.repeats z) i.completions) (to_z-of_z w64 c.args.timeout c.ranges.timeout) in
    let none = none_from c.args.again (c.is_none.ensures ∙ ap not c.if-is_none.true) in
    let id = ap (λ (a : Armed). a.id) e ∙ ap (λ o. unwrap_or o (suc t.ids_made)) none in
    let is = c.in_default.ensures.set ∙ ap (λ (a : Armed). with_armed c.args.again a t) (sym e) ∙ ap (λ o. with_armed o b t) none in
    subst (λ (u : Timers). AreKeptInRows u c.add.new.self i.delayed.keys (entries_of c.put.new.places.items)) (sym is)
    (subst (λ (rs : List Row). AreKeptInRows (with_armed None b t) rs i.delayed.keys (entries_of c.put.new.places.items)) (sym added)
    (first_kept t i.completions i.delayed.keys held more c.self.invariant room b c.args.registration c.args.repeats c.args.timeout start id (entries_of c.put.new.places.items) c.put.ensures))

pub invariant_of-self-else-is_none : goal.invariant_of-self-else-is_none
invariant_of-self-else-is_none c =
    let i = c.self.inside in
    let t = i.timers in
    let b = seen_armed c.would_arm-armed.result in
    let e = c.would_arm-armed.ensures in
    let room = stay _ _ c.in_ok-make_place.ensures.same in
    let held = entries_of i.owners.items in
    let more = entries_of c.make_place.new.places.items in
    let start = ap (λ (a : Armed). a.start) e in
    let added = c.in_ok-add.ensures.added
    ∙ ap (λ z. with_due b.due (b.start, queue_timer b c.args.registration c.args.repeats z) i.completions) (to_z-of_z w64 c.args.timeout c.ranges.timeout) in
    let some = some_from c.args.again (c.is_none.ensures ∙ ap not c.if-is_none.false) in
    let is = c.in_default.ensures.set ∙ ap (λ (a : Armed). with_armed c.args.again a t) (sym e) ∙ ap (λ o. with_armed o b t) some.1 in
    let id = ap (λ (a : Armed). a.id) e ∙ ap (λ o. unwrap_or o (suc t.ids_made)) some.1 in
    let there = ap (λ (s : InParallel). has_id some.0 s.waiting.timers) c.self.view_is ∙ c.requires.again some.0 some.1 in
    subst (λ (u : Timers). AreKeptInRows u c.add.new.self i.delayed.keys more) (sym is)
    (subst (λ (rs : List Row). AreKeptInRows (with_armed (Some some.0) b t) rs i.delayed.keys more) (sym added)
    (again_kept t i.completions i.delayed.keys held more c.self.invariant room b c.args.registration c.args.repeats c.args.timeout start some.0 id there))

pub returns-then-is_none-clause-started : goal.returns-then-is_none-clause-started
returns-then-is_none-clause-started c =
    let i = c.self.inside in
    let t = i.timers in
    let b = seen_armed c.would_arm-armed.result in
    let e = c.would_arm-armed.ensures in
    let room = stay _ _ c.in_ok-make_place.ensures.same in
    let held = entries_of i.owners.items in
    let more = entries_of c.make_place.new.places.items in
    let start = ap (λ (a : Armed). a.start) e in
    let added = c.in_ok-add.ensures.added
    ∙ ap (λ z. with_due b.due (b.start, queue_timer b c.args.registration c.args.repeats z) i.completions) (to_z-of_z w64 c.args.timeout c.ranges.timeout) in
    let none = none_from c.args.again (c.is_none.ensures ∙ ap not c.if-is_none.true) in
    let id = ap (λ (a : Armed). a.id) e ∙ ap (λ o. unwrap_or o (suc t.ids_made)) none in
    let is = c.in_default.ensures.set ∙ ap (λ (a : Armed). with_armed c.args.again a t) (sym e) ∙ ap (λ o. with_armed o b t) none in
    let v : InParallel = the_view i in
    let owners = first_owners t i.completions i.delayed.keys held more c.self.invariant room b c.args.registration c.args.repeats c.args.timeout start id (entries_of c.put.new.places.items) c.put.ensures in
    let last = timer_steps b c.args.registration c.args.repeats c.args.timeout in
    ap (λ (u : Timers). the_view (record i { timers = u; completions = c.add.new.self; owners = c.put.new.places })) is
    ∙ ap (λ (rs : List Row). the_view (record i { timers = with_armed None b t; completions = rs; owners = c.put.new.places })) added
    ∙ ap (λ (cs : List Completing). record v { waiting = record v.waiting { timers = with_armed None b t; completions = cs }; owners = owners_of b.id (entries_of c.put.new.places.items) }) (steps_started t i.completions i.delayed.keys held more c.self.invariant room b c.args.registration c.args.repeats c.args.timeout start)
    ∙ ap (λ (os : List TimerOwner). record v { waiting = record v.waiting { timers = with_armed None b t; completions = v.waiting.completions ++ last ∷ [] }; owners = os }) owners
    ∙ ap (λ o. timer_started o b c.args.registration c.args.repeats c.args.timeout v) (sym none)
    ∙ ap (λ (a : Armed). timer_started c.args.again a c.args.registration c.args.repeats c.args.timeout v) (e ∙ ap (λ z. armed c.args.again z c.args.nesting c.args.now.0 t) (to_z-of_z w64 c.args.timeout c.ranges.timeout))
    ∙ ap (λ (s : InParallel). timer_started c.args.again (armed c.args.again c.args.timeout c.args.nesting c.args.now.0 s.waiting.timers) c.args.registration c.args.repeats c.args.timeout s) c.self.view_is

pub returns-else-is_none-clause-started : goal.returns-else-is_none-clause-started
returns-else-is_none-clause-started c =
    let i = c.self.inside in
    let t = i.timers in
    let b = seen_armed c.would_arm-armed.result in
    let e = c.would_arm-armed.ensures in
    let room = stay _ _ c.in_ok-make_place.ensures.same in
    let held = entries_of i.owners.items in
    let more = entries_of c.make_place.new.places.items in
    let start = ap (λ (a : Armed). a.start) e in
    let added = c.in_ok-add.ensures.added
    ∙ ap (λ z. with_due b.due (b.start, queue_timer b c.args.registration c.args.repeats z) i.completions) (to_z-of_z w64 c.args.timeout c.ranges.timeout) in
    let some = some_from c.args.again (c.is_none.ensures ∙ ap not c.if-is_none.false) in
    let is = c.in_default.ensures.set ∙ ap (λ (a : Armed). with_armed c.args.again a t) (sym e) ∙ ap (λ o. with_armed o b t) some.1 in
    let v : InParallel = the_view i in
    let owners = same_owners t i.completions i.delayed.keys held more c.self.invariant room b c.args.registration c.args.repeats c.args.timeout start in
    let last = timer_steps b c.args.registration c.args.repeats c.args.timeout in
    ap (λ (u : Timers). the_view (record i { timers = u; completions = c.add.new.self; owners = c.make_place.new.places })) is
    ∙ ap (λ (rs : List Row). the_view (record i { timers = with_armed (Some some.0) b t; completions = rs; owners = c.make_place.new.places })) added
    ∙ ap (λ (cs : List Completing). record v { waiting = record v.waiting { timers = with_armed (Some some.0) b t; completions = cs }; owners = owners_of t.ids_made (entries_of c.make_place.new.places.items) }) (steps_started t i.completions i.delayed.keys held more c.self.invariant room b c.args.registration c.args.repeats c.args.timeout start)
    ∙ ap (λ (os : List TimerOwner). record v { waiting = record v.waiting { timers = with_armed (Some some.0) b t; completions = v.waiting.completions ++ last ∷ [] }; owners = os }) owners
    ∙ ap (λ o. timer_started o b c.args.registration c.args.repeats c.args.timeout v) (sym some.1)
    ∙ ap (λ (a : Armed). timer_started c.args.again a c.args.registration c.args.repeats c.args.timeout v) (e ∙ ap (λ z. armed c.args.again z c.args.nesting c.args.now.0 t) (to_z-of_z w64 c.args.timeout c.ranges.timeout))
    ∙ ap (λ (s : InParallel). timer_started c.args.again (armed c.args.again c.args.timeout c.args.nesting c.args.now.0 s.waiting.timers) c.args.registration c.args.repeats c.args.timeout s) c.self.view_is
