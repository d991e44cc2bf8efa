use Rattle.std.proofs.Common.{◌≡◌, ℕ, ◌+◌, ◌++◌, [], ◌∷◌, None, cond, List, Option, length, is_ok, sym, ◌∙◌, ap, subst, length-append}
use Rattle.post_task.specs.declared.level.Level.{Level}
use Rattle.post_task.specs.Levels.{Sched, ArePlaced, ListsRise, place_of, StandsNext}
use Rattle.post_task.specs.declared.tournament.Head.{Head}
use Rattle.post_task.proofs.Places.{placed_push, placed_still, placed_undone, was_ok, was_err}
use Rattle.post_task.proofs.sched.SchedQueues.put.Goals as goal

pub invariant_of-self-2 : goal.invariant_of-self-2
invariant_of-self-2 g c =
    let items = c.self.inside.levels.items in
    let level = c.args.level in
    let before = c.reserve.new.self.items in
    let e = ap (λ (s : Sched). s.levels) c.self.view_is in
    let pushed : c.push-2.new.self.items ≡ items ++ level ∷ [] =
    c.push-2.ensures.items ∙ ap (λ b. cond b (before ++ level ∷ []) before) (ap is_ok c.unwrap.ensures) ∙ ap (λ xs. xs ++ level ∷ []) c.in_ok-reserve.ensures.items in
    let made : c.push.new.self ≡ c.self.inside.heads ++ None ∷ [] = was_ok c.push.result (sym c.is_err.ensures.value ∙ c.if-is_err.false) c.push.ensures.made in
    let len : c.len.result ≡ length items = c.len.ensures ∙ c.in_ok-reserve.ensures.len ∙ c.self.inside.levels.ok.0 in
    let R : List Level → Type 0 = λ ls. ListsRise ls → ListsRise (ls ++ level ∷ []) in
    let N : List Level → Type 0 = λ ls. StandsNext level.source ls in
    let P : List Level → Type 0 = λ ls. ArePlaced ls c.note_place.new.signals in (
      ap length made ∙ length-append c.self.inside.heads (None ∷ []) ∙ ap (λ (n : ℕ). n + 1) c.self.invariant.0 ∙ sym (ap length pushed ∙ length-append items (level ∷ [])),
      subst P (sym pushed)
          (placed_push items level c.self.inside.signals c.note_place.new.signals c.len.result c.self.invariant.1 (subst R (sym e) c.requires.rising c.self.invariant.1.rising)
          (ap (λ (ls : List Level). place_of ls level.source) e ∙ c.requires.fresh) (subst N (sym e) c.requires.next) len c.in_ok-note_place.ensures.noted),
    )

pub invariant_of-self : goal.invariant_of-self
invariant_of-self g c =
    let same : c.reserve.new.self.items ≡ c.self.inside.levels.items = c.in_err-reserve.ensures.items in
    let P : List Level → Type 0 = λ ls. ArePlaced ls c.self.inside.signals in
    (c.self.invariant.0 ∙ sym (ap length same), subst P (sym {A = List Level} same) c.self.invariant.1)

pub invariant_of-self-in_err-note_place : goal.invariant_of-self-in_err-note_place
invariant_of-self-in_err-note_place g c =
    let same : c.reserve.new.self.items ≡ c.self.inside.levels.items = c.in_ok-reserve.ensures.items in
    let P : List Level → Type 0 = λ ls. ArePlaced ls c.note_place.new.signals in (
      c.self.invariant.0 ∙ sym (ap length same),
      subst P (sym {A = List Level} same) (placed_still c.self.inside.levels.items c.self.inside.signals c.note_place.new.signals c.self.invariant.1 c.in_err-note_place.ensures.err),
    )

pub invariant_of-self-then-is_err : goal.invariant_of-self-then-is_err
invariant_of-self-then-is_err g c =
    let items = c.self.inside.levels.items in
    let same : c.reserve.new.self.items ≡ c.self.inside.levels.items = c.in_ok-reserve.ensures.items in
    let heads : c.push.new.self ≡ c.self.inside.heads = was_err c.push.result (sym c.is_err.ensures.value ∙ c.if-is_err.true) c.push.ensures.err in
    let fresh = ap (λ (s : Sched). place_of s.levels c.args.level.source) c.self.view_is ∙ c.requires.fresh in
    let P : List Level → Type 0 = λ ls. ArePlaced ls c.forget_place.new.signals in (
      ap length heads ∙ c.self.invariant.0 ∙ sym (ap length same),
      subst P (sym {A = List Level} same)
          (placed_undone items c.args.level.source c.self.inside.signals c.note_place.new.signals c.forget_place.new.signals c.len.result c.self.invariant.1 fresh
          c.in_ok-note_place.ensures.noted c.forget_place.ensures),
    )

pub returns-then-is_err-clause-err : goal.returns-then-is_err-clause-err
returns-then-is_err-clause-err g c =
    let sched : List Level → List (Option Head) → Sched = λ levels heads. record { levels = levels; heads = heads } in
    let heads : c.push.new.self ≡ c.self.inside.heads = was_err c.push.result (sym c.is_err.ensures.value ∙ c.if-is_err.true) c.push.ensures.err in
    ap (λ (levels : List Level). sched levels c.push.new.self) c.in_ok-reserve.ensures.items ∙ ap (sched c.self.inside.levels.items) heads ∙ c.self.view_is

pub returns-clause-levels : goal.returns-clause-levels
returns-clause-levels g c =
    let level = c.args.level in
    let before = c.reserve.new.self.items in
    c.push-2.ensures.items
    ∙ ap (λ b. cond b (before ++ level ∷ []) before) (ap is_ok c.unwrap.ensures)
    ∙ ap (λ xs. xs ++ level ∷ []) (c.in_ok-reserve.ensures.items ∙ ap (λ (s : Sched). s.levels) c.self.view_is)

pub returns-clause-head : goal.returns-clause-head
returns-clause-head g c =
    was_ok c.push.result (sym c.is_err.ensures.value ∙ c.if-is_err.false) c.push.ensures.made
    ∙ ap (λ (s : Sched). s.heads ++ None ∷ []) c.self.view_is
