-- Which sources are runnable by a view.
use Rattle.std.proofs.Common.{◌≡◌, ℕ, Bool, true, false, ◌&&◌, cond, List, [], ◌∷◌, Option, Some, None, is_some, refl, ap, sym, ◌∙◌, arith, eqb}
use Rattle.std.specs.List.{list_any, cons_option}
use Rattle.std.specs.Option.{option_map}
use Rattle.page_types.specs.declared.Source.{Source}
use Rattle.page_types.specs.declared.Source.TheVariants.{User, Net, Dom, Timer, Render, Sched, Idle}
use Rattle.page_parts.specs.Sources.{default_list, source_number, same_source}
use Rattle.page_parts.specs.WrittenChoices.{Runnable, is_runnable}
use Rattle.loop_policy.specs.Views.{first_of, listed, runnables}
use Rattle.loop_policy.specs.declared.view.View.{View}
use Rattle.std.proofs.lemmas.Bool.Decides.{nat_tests}

numbered_source : ℕ → Source
numbered_source n =
    cond (eqb n 0) User (cond (eqb n 1) Render (cond (eqb n 2) Sched (cond (eqb n 3) Timer (cond (eqb n 4) Net (cond (eqb n 5) Dom Idle)))))

number_of_source : (s : Source) → numbered_source (source_number s) ≡ s
unfolding numbered_source
number_of_source User = refl
number_of_source Net = refl
number_of_source Dom = refl
number_of_source Timer = refl
number_of_source Render = refl
number_of_source Sched = refl
number_of_source Idle = refl

pub same_is : (a b : Source) → same_source a b ≡ true → a ≡ b
same_is a b h =
    let e : source_number a ≡ source_number b = grind (arith, nat_tests) in
    sym (number_of_source a) ∙ ap numbered_source e ∙ number_of_source b

pub same_itself : (a : Source) → same_source a a ≡ true
same_itself User = refl
same_itself Net = refl
same_itself Dom = refl
same_itself Timer = refl
same_itself Render = refl
same_itself Sched = refl
same_itself Idle = refl

-- a source is runnable where it is in the list and has a first task
found_first : (x : Source) (rs : List Runnable) (s : Source) (o : Option ℕ) (b : Bool) → same_source x s ≡ b
    → is_runnable (cons_option (option_map (λ n. record { source = x; first = n }) o) rs) s ≡ cond (b && is_some o) true (is_runnable rs s)
found_first x rs s None true t = refl
found_first x rs s None false t = refl
found_first x rs s (Some n) true t = grind (arith, t)
found_first x rs s (Some n) false t = grind (arith, t)

found_step : (first : Source → Option ℕ) (x : Source) (xs : List Source) (s : Source) (b : Bool) → same_source x s ≡ b
    → is_runnable (listed first xs) s ≡ (list_any (λ y. same_source y s) xs && is_some (first s))
    → is_runnable (listed first (x ∷ xs)) s ≡ (list_any (λ y. same_source y s) (x ∷ xs) && is_some (first s))
found_step first x xs s true t more =
    let is = same_is x s t in
    let one = found_first x (listed first xs) s (first x) true t in
    rw (one, more, is) (elim (is_some (first s)) as (λ v. cond v true (list_any (λ y. same_source y s) xs && v) ≡ (list_any (λ y. same_source y s) (s ∷ xs) && v)) [ true ↦ rw (same_itself s) refl | false ↦ grind arith ])
found_step first x xs s false t more = rw (found_first x (listed first xs) s (first x) false t, more, t) refl

pub found_listed : (first : Source → Option ℕ) (xs : List Source) (s : Source) → is_runnable (listed first xs) s ≡ (list_any (λ y. same_source y s) xs && is_some (first s))
found_listed first [] s = refl
found_listed first (x ∷ xs) s = found_step first x xs s (same_source x s) refl (found_listed first xs s)

default_has : (s : Source) → list_any (λ y. same_source y s) default_list ≡ true
default_has User = refl
default_has Net = refl
default_has Dom = refl
default_has Timer = refl
default_has Render = refl
default_has Sched = refl
default_has Idle = refl

pub found : (view : View) (s : Source) → is_runnable (runnables view) s ≡ is_some (first_of view.first s)
unfolding runnables
found view s = found_listed (first_of view.first) default_list s ∙ ap (λ b. b && is_some (first_of view.first s)) (default_has s)
