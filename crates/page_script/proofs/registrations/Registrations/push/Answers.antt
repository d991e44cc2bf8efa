use Rattle.std.proofs.Common.{◌≡◌, ℕ, ◌+◌, ◌∷◌, [], List, true, false, cond, Option, Some, is_some, not, length, map, nat_eq, ap, sym, subst, ◌∙◌}
use Rattle.std.specs.Prelude.{◌==◌}
use Rattle.std.specs.Map.{lookup}
use Rattle.std.proofs.lemmas.List.{length-map, map-append}
use Rattle.page_model.specs.State as model
use Rattle.timer_map.specs.Counted.{entries_of}
use Rattle.page_script.specs.Seen.{registration_seen}
use Rattle.page_script.specs.TimerIds.{AreFirst}
use Rattle.page_script.proofs.TimerIdLemmas.{kept-stays, kept-comes, place_put}
use Rattle.page_script.proofs.registrations.Registrations.push.Goals as goal

pub invariant_of-self-then-is_none : goal.invariant_of-self-then-is_none
invariant_of-self-then-is_none c =
    let i = c.self.inside in
    let places = c.make_place.new.places.items in
    let xs = map registration_seen i.list.items in
    let x = registration_seen c.args.registration in
    let kept : ℕ → Option ℕ = λ id. lookup (nat_eq id) (entries_of places) in
    let next : ℕ → Option ℕ = λ id. lookup (nat_eq id) (entries_of c.put.new.places.items) in
    let first : AreFirst kept xs = subst (λ (es : List (ℕ × ℕ)). AreFirst (λ id. lookup (nat_eq id) es) xs) (sym c.in_ok-make_place.ensures.same) c.self.invariant in
    let is = ap (map registration_seen) c.in_ok-push.ensures.items ∙ map-append registration_seen i.list.items (c.args.registration ∷ []) in
    let number : c.len-r.result ≡ length xs + 1 = c.len-r.ensures ∙ c.in_ok-push.ensures.len ∙ ap (λ n. n + 1) (i.list.ok.0 ∙ sym (length-map i.list.items registration_seen)) in
    let absent : is_some (kept x.timer_id) ≡ false = sym (ap is_some c.value_of.ensures) ∙ c.is_none.ensures ∙ ap not c.if-is_none.true in
    let puts : (id : ℕ) → next id ≡ cond (x.timer_id == id) (Some (length xs + 1)) (kept id) =
    λ id. place_put x.timer_id c.len-r.result places c.put.new.places.items c.put.ensures id ∙ ap (λ r. cond (nat_eq x.timer_id id) (Some r) (kept id)) number in
    subst (λ (ys : List model.Registration). AreFirst next ys) (sym is) (kept-comes kept next xs x first absent puts)

pub invariant_of-self-else-is_none : goal.invariant_of-self-else-is_none
invariant_of-self-else-is_none c =
    let i = c.self.inside in
    let xs = map registration_seen i.list.items in
    let x = registration_seen c.args.registration in
    let kept : ℕ → Option ℕ = λ id. lookup (nat_eq id) (entries_of c.make_place.new.places.items) in
    let first : AreFirst kept xs = subst (λ (es : List (ℕ × ℕ)). AreFirst (λ id. lookup (nat_eq id) es) xs) (sym c.in_ok-make_place.ensures.same) c.self.invariant in
    let is = ap (map registration_seen) c.in_ok-push.ensures.items ∙ map-append registration_seen i.list.items (c.args.registration ∷ []) in
    let there : is_some (kept x.timer_id) ≡ true = sym (ap is_some c.value_of.ensures) ∙ c.is_none.ensures ∙ ap not c.if-is_none.false in
    subst (λ (ys : List model.Registration). AreFirst kept ys) (sym is) (kept-stays kept xs x first there)
