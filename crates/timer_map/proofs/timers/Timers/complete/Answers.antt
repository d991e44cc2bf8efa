use Rattle.std.proofs.Common.{◌≡◌, ◌≤◌, ℕ, List, Option, Some, None, eqb, refl, ◌∙◌, sym, ap, subst}
use Rattle.std.specs.Option.{option_map}
use Rattle.std.proofs.lemmas.Map.Keys.{le_from_not_gt}
use Rattle.page_parts.specs.Timers.{Timers, ActiveTimer, first_of, first_timer, next_due}
use Rattle.page_parts.specs.Words.{without}
use Rattle.timer_map.specs.Due.{due_timer, after_due}
use Rattle.timer_map.specs.Kept.{IsKept}
use Rattle.timer_map.specs.Rows.{first_due, after_first}
use Rattle.timer_map.specs.Seen.{seen_timer, timers_in_order}
use Rattle.timer_map.proofs.DueLemmas.{first_is_due, kept_popped, timers_popped, due_first, after_timer, due_of_first}
use Rattle.timer_map.proofs.timers.Timers.complete.Goals as goal

-- a first one that is due is the timer that completes
module _ (t : Timers) (now due last : ℕ) (es : List (ℕ × ℕ)) (kept : IsKept last es) (view : timers_in_order last es ≡ t.active) (next : Some due ≡ next_due t) (le : due ≤ now) where
  first_one : (e : ℕ × ℕ) → first_due es ≡ Some e → due_timer now t ≡ Some (seen_timer e)
  first_one e first =
      let is : first_timer t ≡ Some (seen_timer e) = ap first_of (sym view) ∙ first_is_due last es kept ∙ ap (option_map seen_timer) first in
      due_first now t (seen_timer e) is (subst (λ n. n ≤ now) (due_of_first due t (seen_timer e) is next) le)

  no_first : first_due es ≡ None → ⊥
  no_first none =
      let is : first_timer t ≡ None = ap first_of (sym view) ∙ first_is_due last es kept ∙ ap (option_map seen_timer) none in
      let no : next_due t ≡ None = ap (option_map (λ (a : ActiveTimer). a.due)) is in cc

  taken : option_map (λ (e : ℕ × ℕ). e.1) (first_due es) ≡ option_map (λ (a : ActiveTimer). a.start) (due_timer now t)
  taken = by (first_due es) refl
    where
      by : (r : Option (ℕ × ℕ)) → first_due es ≡ r → option_map (λ (e : ℕ × ℕ). e.1) r ≡ option_map (λ (a : ActiveTimer). a.start) (due_timer now t)
      by None none = absurd (no_first none)
      by (Some e) first = sym (ap (option_map (λ (a : ActiveTimer). a.start)) (first_one e first))

  left : record t { active = timers_in_order last (after_first es) } ≡ after_due now t
  left = by (first_due es) refl
    where
      by : (r : Option (ℕ × ℕ)) → first_due es ≡ r → record t { active = timers_in_order last (after_first es) } ≡ after_due now t
      by None none = absurd (no_first none)
      by (Some e) first =
          let gone = timers_popped last e es kept first in
          ap (λ (active : List ActiveTimer). record t { active = active }) (gone ∙ ap (without (λ (a : ActiveTimer). eqb a.start e.1)) view)
          ∙ sym (after_timer now t (seen_timer e) (first_one e first))

pub invariant_of-self : goal.invariant_of-self
invariant_of-self c =
    let active = kept_popped c.self.inside.starts_made c.self.inside.active c.self.invariant.active in
    record { ids = c.self.invariant.ids; active = subst (IsKept c.self.inside.starts_made) (sym c.take_first.ensures.left) active }

pub returns-clause-start : goal.returns-clause-start
returns-clause-start c =
    let le = le_from_not_gt _ _ (sym c.gt.ensures ∙ c.if-gt.false) in
    c.take_first.ensures.value
    ∙ taken c.args.self.now c.args.now.0 _ c.self.inside.starts_made c.self.inside.active c.self.invariant.active (ap (λ (t : Timers). t.active) c.self.view_is) c.in_ok-next_due.ensures le

pub returns-clause-gone : goal.returns-clause-gone
returns-clause-gone c =
    let le = le_from_not_gt _ _ (sym c.gt.ensures ∙ c.if-gt.false) in
    let view = ap (λ (t : Timers). t.active) c.self.view_is in
    let last = c.self.inside.starts_made in
    ap (λ (t : Timers). record t { active = timers_in_order last c.take_first.new.self }) c.self.view_is
    ∙ ap (λ es. record c.args.self.now { active = timers_in_order last es }) c.take_first.ensures.left
    ∙ left c.args.self.now c.args.now.0 _ last c.self.inside.active c.self.invariant.active view c.in_ok-next_due.ensures le
