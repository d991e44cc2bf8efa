-- The active timers and their completion steps.
use Rattle.std.proofs.Common.{◌≡◌, ℕ, ◌+◌, ◌≤◌, Bool, true, false, cond, not, ◌&&◌, ◌||◌, List, [], ◌∷◌, ◌++◌, map, find, Option, Some, None, is_some, nat_eq, nat_lt, eqb, refl, sym, subst, ◌∙◌, ap, true≢false, arith}
use Rattle.std.proofs.lemmas.Bool.{eqb-true}
use Rattle.std.proofs.lemmas.List.{map-append}
use Rattle.std.specs.List.{AllByRecursion, list_any}
use Rattle.std.specs.Map.{lookup}
use Rattle.std.specs.Option.{option_map}
use Rattle.page_parts.specs.Timers.{Timers, TimerId, ActiveTimer, first_from, first_of, first_timer, next_due, completed, has_id, with_id}
use Rattle.page_parts.specs.Words.{is_there, without}
use Rattle.page_model.specs.State.{Completing}
use Rattle.page_model.specs.PageSignals.{is_delay_of}
use Rattle.page_model.specs.PageTime.{completion_of}
use Rattle.page_model.specs.Parallel.{first_item_from, first_item_of}
use Rattle.timer_map.specs.Due.{due_timer, after_due}
use Rattle.timer_map.specs.InOrder.{in_order}
use Rattle.timer_map.specs.Kept.{AreNumbered}
use Rattle.timer_map.proofs.DueLemmas.{due_first, after_timer}
use Rattle.timer_map.proofs.OrderLemmas.{without_none}
use Rattle.parallel_items.specs.declared.completion.Completion as code
use Rattle.parallel_items.specs.InParallel.{TimerOwner}
use Rattle.parallel_items.specs.Items.{timer_item, timer_items}
use Rattle.parallel_items.specs.Steps.{owner_of}
use Rattle.parallel_items.specs.Kept.{how_many, delays_of, HaveSteps, AreDelays, HaveOwners}
use Rattle.parallel_items.specs.Seen.{completion_seen, completing_seen, completings_of, owner_seen, owners_of}
use Rattle.parallel_items.proofs.ClassLemmas.{find_map, map_without}
use Rattle.parallel_items.proofs.IdleLemmas.{Rise, in_order_rises}
use Rattle.parallel_items.proofs.MapLemmas.{key, found_in_order}

map_map : {X Y Z : Type 0} (f : X → Y) (g : Y → Z) (xs : List X) → map g (map f xs) ≡ map (λ x. g (f x)) xs
map_map f g [] = refl
map_map f g (x ∷ xs) = ap (λ zs. g (f x) ∷ zs) (map_map f g xs)

abbrev start_of : ActiveTimer → ℕ
start_of t = t.start

abbrev start_in : Completing → ℕ
start_in c = c.start

-- ---- the first active timer

-- where the start numbers rise, the first one in the list of the least due time was started first of those
timer_from : (high : ℕ) (a : ActiveTimer) (ts : List ActiveTimer) → Rise a.start (map start_of ts) high
    → first_item_from (timer_item a) (timer_items ts) ≡ timer_item (first_from a ts)
timer_from high a [] rise = refl
timer_from high a (b ∷ ts) rise = by (nat_lt b.due a.due) (eqb b.due a.due) refl (timer_from high b ts rise.1) (timer_from high a ts (weaker ts rise.1))
  where
    weaker : (us : List ActiveTimer) → Rise b.start (map start_of us) high → Rise a.start (map start_of us) high
    weaker [] r = let less = rise.0 in omega (arith, r, less)
    weaker (u ∷ us) r = (let less = rise.0 in let more = r.0 in omega (arith, less, more), r.1)

    not_less : nat_lt b.start a.start ≡ false
    not_less = let less = rise.0 in grind (arith, less)

    by : (x : Bool) (e : Bool) → (s : nat_lt b.start a.start ≡ nat_lt b.start a.start)
        → first_item_from (timer_item b) (timer_items ts) ≡ timer_item (first_from b ts)
        → first_item_from (timer_item a) (timer_items ts) ≡ timer_item (first_from a ts)
        → first_item_from (cond x (timer_item b) (timer_item a)) (timer_items ts) ≡ timer_item (first_from (cond (x || (e && nat_lt b.start a.start)) b a) ts)
    by true e s p q = p
    by false true s p q = q ∙ sym (ap (λ y. timer_item (first_from (cond y b a) ts)) not_less)
    by false false s p q = q

pub timer_is_first : (high : ℕ) (ts : List ActiveTimer) → Rise 0 (map start_of ts) high → first_item_of (timer_items ts) ≡ option_map timer_item (first_of ts)
timer_is_first high [] rise = refl
timer_is_first high (a ∷ ts) rise = ap Some (timer_from high a ts rise.1)

there_map : {X Y : Type 0} (f : X → Y) (o : Option X) → is_there (option_map f o) ≡ is_there o
there_map f None = refl
there_map f (Some x) = refl

-- ---- what completes

pub record Completes (t : Timers) (due start : ℕ) : Type 0 where
  pub timer : ActiveTimer
  pub first : first_timer t ≡ Some timer
  pub is_start : timer.start ≡ start
  pub after : after_due due t ≡ completed start t

-- the timer that completes at the next due time is the first one
pub completes : (t : Timers) (due start : ℕ) → Some due ≡ next_due t → Some start ≡ option_map (λ (x : ActiveTimer). x.start) (due_timer due t) → Completes t due start
completes t due start next done = by (first_timer t) refl
  where
    by : (o : Option ActiveTimer) → first_timer t ≡ o → Completes t due start
    by None e =
        let is : next_due t ≡ None = ap (option_map (λ (a : ActiveTimer). a.due)) e in
        let never : ⊥ = cc in absurd never
    by (Some x) e =
        let is : next_due t ≡ Some x.due = ap (option_map (λ (a : ActiveTimer). a.due)) e in
        let same : due ≡ x.due = cc in
        let due_is = due_first due t x e (omega (arith, same)) in
        let has : option_map (λ (x : ActiveTimer). x.start) (due_timer due t) ≡ Some x.start = ap (option_map (λ (x : ActiveTimer). x.start)) due_is in
        let start_is : x.start ≡ start = cc in
        record { timer = x; first = e; is_start = start_is; after = after_timer due t x due_is ∙ ap (λ n. completed n t) start_is }

-- ---- completion steps in the order of start

pub starts_are : (last : ℕ) (es : List (ℕ × code.Completion)) → map start_in (completings_of last es) ≡ map key (in_order key last es)
starts_are last es = map_map completing_seen start_in (in_order key last es)

pub starts_rise : (last : ℕ) (es : List (ℕ × code.Completion)) → Rise 0 (map start_in (completings_of last es)) last
starts_rise last es = subst (λ ns. Rise 0 ns last) (sym (starts_are last es)) (in_order_rises key last es)

pub completion_found : (start last : ℕ) (es : List (ℕ × code.Completion)) → AreNumbered key last es
    → completion_of (completings_of last es) start ≡ option_map completion_seen (lookup (nat_eq start) es)
completion_found start last es kept =
    ap (option_map (λ (c : Completing). c.completion)) (find_map completing_seen (λ (c : Completing). eqb c.start start) (in_order key last es))
    ∙ by (find (λ (e : ℕ × code.Completion). eqb e.0 start) (in_order key last es))
    ∙ sym (ap (option_map completion_seen) (found_in_order start last es kept))
  where
    by : (o : Option (ℕ × code.Completion)) → option_map (λ (c : Completing). c.completion) (option_map completing_seen o) ≡ option_map completion_seen (option_map (λ (e : ℕ × code.Completion). e.1) o)
    by None = refl
    by (Some e) = refl

pub owner_found : (id last : ℕ) (es : List (ℕ × ℕ)) → AreNumbered key last es → owner_of id (owners_of last es) ≡ lookup (nat_eq id) es
owner_found id last es kept =
    ap (option_map (λ (o : TimerOwner). o.registration)) (find_map owner_seen (λ (o : TimerOwner). eqb o.id id) (in_order key last es))
    ∙ by (find (λ (e : ℕ × ℕ). eqb e.0 id) (in_order key last es))
    ∙ sym (found_in_order id last es kept)
  where
    by : (o : Option (ℕ × ℕ)) → option_map (λ (o : TimerOwner). o.registration) (option_map owner_seen o) ≡ option_map (λ (e : ℕ × ℕ). e.1) o
    by None = refl
    by (Some e) = refl

-- ---- the completion steps are those of the active timers

pub steps_pushed : (ts : List ActiveTimer) (cs : List Completing) (t : ActiveTimer) (c : Completing) → t.start ≡ c.start → HaveSteps ts cs → HaveSteps (ts ++ t ∷ []) (cs ++ c ∷ [])
steps_pushed ts cs t c same steps =
    map-append start_of ts (t ∷ []) ∙ ap (λ ns. ns ++ t.start ∷ []) steps ∙ ap (λ n. map start_in cs ++ n ∷ []) same ∙ sym (map-append start_in cs (c ∷ []))

pub steps_left : (start : ℕ) (ts : List ActiveTimer) (cs : List Completing) → HaveSteps ts cs
    → HaveSteps (without (λ (t : ActiveTimer). eqb t.start start) ts) (without (λ (c : Completing). eqb c.start start) cs)
steps_left start ts cs steps =
    map_without start_of (λ n. eqb n start) ts ∙ ap (without (λ n. eqb n start)) steps ∙ sym (map_without start_in (λ n. eqb n start) cs)

-- ---- delayed posts

plus : (a b d n : ℕ) → b ≡ n + d → a + b ≡ (a + n) + d
plus a b d n e = omega (arith, e)

count_pushed : {X : Type 0} (test : X → Bool) (xs : List X) (x : X) → how_many test (xs ++ x ∷ []) ≡ how_many test xs + cond (test x) 1 0
count_pushed test [] x = by (test x)
  where
    by : (b : Bool) → cond b 1 0 + 0 ≡ 0 + cond b 1 0
    by true = refl
    by false = refl
count_pushed test (y ∷ xs) x = plus (cond (test y) 1 0) (how_many test (xs ++ x ∷ [])) (cond (test x) 1 0) (how_many test xs) (count_pushed test xs x)

pub there_counts : {X : Type 0} (test : X → Bool) (xs : List X) → is_there (find test xs) ≡ nat_lt 0 (how_many test xs)
there_counts test [] = refl
there_counts test (x ∷ xs) = by (test x) (there_counts test xs)
  where
    by : (b : Bool) → is_there (find test xs) ≡ nat_lt 0 (how_many test xs) → is_there (cond b (Some x) (find test xs)) ≡ nat_lt 0 (cond b 1 0 + how_many test xs)
    by true rest = let above : nat_lt 0 (1 + how_many test xs) ≡ true = grind arith in sym above
    by false rest = rest ∙ ap (nat_lt 0) (omega arith)

pub one_counts : (b : Bool) → nat_lt 0 (cond b 1 0) ≡ b
one_counts true = refl
one_counts false = refl

pub delays_pushed : (set new : List ℕ) (cs : List Completing) (c : Completing) → AreDelays set cs
    → ((r : ℕ) → list_any (nat_eq r) new ≡ (list_any (nat_eq r) set || is_delay_of r c.completion))
    → ((r : ℕ) → is_delay_of r c.completion ≡ true → is_there (find (λ (d : Completing). is_delay_of r d.completion) cs) ≡ false)
    → AreDelays new (cs ++ c ∷ [])
delays_pushed set new cs c delays is once = λ r.
    count_pushed (λ (d : Completing). is_delay_of r d.completion) cs c
    ∙ ap (λ n. n + cond (is_delay_of r c.completion) 1 0) (delays r)
    ∙ by (list_any (nat_eq r) set) (is_delay_of r c.completion) (λ is_one. sym (one_counts (list_any (nat_eq r) set)) ∙ sym (ap (nat_lt 0) (delays r)) ∙ sym (there_counts (λ (d : Completing). is_delay_of r d.completion) cs) ∙ once r is_one)
    ∙ sym (ap (λ b. cond b 1 0) (is r))
  where
    by : (a d : Bool) → (d ≡ true → a ≡ false) → cond a 1 0 + cond d 1 0 ≡ cond (a || d) 1 0
    by true true apart = absurd (true≢false (apart refl))
    by true false apart = refl
    by false true apart = refl
    by false false apart = refl

apart_above : (s low high : ℕ) → s ≤ low → (cs : List Completing) → Rise low (map start_in cs) high → AllByRecursion (λ (c : Completing). eqb c.start s ≡ false) cs
apart_above s low high le [] rise = tt
apart_above s low high le (c ∷ cs) rise = (let less = rise.0 in grind (arith, less, le), apart_above s c.start high (let less = rise.0 in omega (arith, less, le)) cs rise.1)

swapped : (a b n d : ℕ) → n ≡ b → a ≡ d → a + b ≡ n + d
swapped a b n d e f = omega (arith, e, f)

count_left : (test : Completing → Bool) (s low high : ℕ) (x : Completing) (cs : List Completing) → Rise low (map start_in cs) high
    → find (λ (c : Completing). eqb c.start s) cs ≡ Some x → how_many test cs ≡ how_many test (without (λ (c : Completing). eqb c.start s) cs) + cond (test x) 1 0
count_left test s low high x [] rise found = let never : ⊥ = cc in absurd never
count_left test s low high x (c ∷ cs) rise found = by (eqb c.start s) refl found (λ f. count_left test s c.start high x cs rise.1 f)
  where
    by : (b : Bool) → eqb c.start s ≡ b → cond b (Some c) (find (λ (c : Completing). eqb c.start s) cs) ≡ Some x
        → (find (λ (c : Completing). eqb c.start s) cs ≡ Some x → how_many test cs ≡ how_many test (without (λ (c : Completing). eqb c.start s) cs) + cond (test x) 1 0)
        → cond (test c) 1 0 + how_many test cs
        ≡ how_many test (cond b (without (λ (c : Completing). eqb c.start s) cs) (c ∷ without (λ (c : Completing). eqb c.start s) cs)) + cond (test x) 1 0
    by true e f rest =
        let same : c ≡ x = cc in
        let others = without_none (λ (c : Completing). eqb c.start s) cs (apart_above s c.start high (let is = eqb-true c.start s e in omega (arith, is)) cs rise.1) in
        let counts : how_many test (without (λ (c : Completing). eqb c.start s) cs) ≡ how_many test cs = ap (how_many test) others in
        let one : cond (test c) 1 0 ≡ cond (test x) 1 0 = ap (λ (d : Completing). cond (test d) 1 0) same in
        swapped (cond (test c) 1 0) (how_many test cs) (how_many test (without (λ (c : Completing). eqb c.start s) cs)) (cond (test x) 1 0) counts one
    by false e f rest = plus (cond (test c) 1 0) (how_many test cs) (cond (test x) 1 0) (how_many test (without (λ (c : Completing). eqb c.start s) cs)) (rest f)

pub delays_left : (set new : List ℕ) (s high : ℕ) (x : Completing) (cs : List Completing) → Rise 0 (map start_in cs) high
    → find (λ (c : Completing). eqb c.start s) cs ≡ Some x → AreDelays set cs
    → ((r : ℕ) → list_any (nat_eq r) new ≡ (list_any (nat_eq r) set && not (is_delay_of r x.completion)))
    → AreDelays new (without (λ (c : Completing). eqb c.start s) cs)
delays_left set new s high x cs rise found delays is = λ r.
    by (list_any (nat_eq r) set) (is_delay_of r x.completion) (delays_of r (without (λ (c : Completing). eqb c.start s) cs))
    (sym (delays r) ∙ count_left (λ (d : Completing). is_delay_of r d.completion) s 0 high x cs rise found)
    ∙ sym (ap (λ b. cond b 1 0) (is r))
  where
    by : (a d : Bool) (n : ℕ) → cond a 1 0 ≡ n + cond d 1 0 → n ≡ cond (a && not d) 1 0
    by true true n e = omega (arith, e)
    by true false n e = omega (arith, e)
    by false true n e = let never : ⊥ = omega (arith, e) in absurd never
    by false false n e = omega (arith, e)

-- ---- owners

module _ {X : Type 0} (number : X → ℕ) where
  there_pushed : (n : ℕ) (xs : List X) (x : X) → is_there (find (λ y. eqb (number y) n) (xs ++ x ∷ [])) ≡ (is_there (find (λ y. eqb (number y) n) xs) || eqb (number x) n)
  there_pushed n [] x = by (eqb (number x) n)
    where
      by : (b : Bool) → is_there (cond b (Some x) None) ≡ b
      by true = refl
      by false = refl
  there_pushed n (y ∷ xs) x = by (eqb (number y) n) (there_pushed n xs x)
    where
      by : (b : Bool) → is_there (find (λ y. eqb (number y) n) (xs ++ x ∷ [])) ≡ (is_there (find (λ y. eqb (number y) n) xs) || eqb (number x) n)
          → is_there (cond b (Some y) (find (λ y. eqb (number y) n) (xs ++ x ∷ []))) ≡ (is_there (cond b (Some y) (find (λ y. eqb (number y) n) xs)) || eqb (number x) n)
      by true rest = refl
      by false rest = rest

  there_left : (n k : ℕ) (xs : List X) → is_there (find (λ y. eqb (number y) n) (without (λ y. eqb (number y) k) xs)) ≡ (is_there (find (λ y. eqb (number y) n) xs) && not (eqb k n))
  there_left n k [] = refl
  there_left n k (x ∷ xs) = by (eqb (number x) k) refl (eqb (number x) n) refl (eqb k n) refl (there_left n k xs)
    where
      by : (a : Bool) → eqb (number x) k ≡ a → (b : Bool) → eqb (number x) n ≡ b → (c : Bool) → eqb k n ≡ c
          → is_there (find (λ y. eqb (number y) n) (without (λ y. eqb (number y) k) xs)) ≡ (is_there (find (λ y. eqb (number y) n) xs) && not (eqb k n))
          → is_there (find (λ y. eqb (number y) n) (cond a (without (λ y. eqb (number y) k) xs) (x ∷ without (λ y. eqb (number y) k) xs)))
          ≡ (is_there (cond b (Some x) (find (λ y. eqb (number y) n) xs)) && not c)
      by true e true f true g rest = rest ∙ ap (λ b. is_there (find (λ y. eqb (number y) n) xs) && not b) g ∙ none (is_there (find (λ y. eqb (number y) n) xs))
        where
          none : (b : Bool) → (b && false) ≡ false
          none true = refl
          none false = refl
      by true e true f false g rest = let never : ⊥ = grind (arith, e, f, g) in absurd never
      by true e false f true g rest = let never : ⊥ = grind (arith, e, f, g) in absurd never
      by true e false f false g rest = rest ∙ ap (λ b. is_there (find (λ y. eqb (number y) n) xs) && not b) g
      by false e true f true g rest = let never : ⊥ = grind (arith, e, f, g) in absurd never
      by false e true f false g rest = ap (λ b. is_there (cond b (Some x) (find (λ y. eqb (number y) n) (without (λ y. eqb (number y) k) xs)))) f
      by false e false f c g rest = ap (λ b. is_there (cond b (Some x) (find (λ y. eqb (number y) n) (without (λ y. eqb (number y) k) xs)))) f ∙ rest ∙ ap (λ b. is_there (find (λ y. eqb (number y) n) xs) && not b) g

abbrev id_of : TimerId → ℕ
id_of e = e.id

abbrev owned_id : TimerOwner → ℕ
owned_id o = o.id

-- the ids after one was set
id_set : (id n handle : ℕ) (ids : List TimerId) → is_there (find (λ (e : TimerId). eqb e.id id) (with_id n handle ids))
    ≡ ((is_there (find (λ (e : TimerId). eqb e.id id) ids) && not (eqb n id)) || eqb n id)
id_set id n handle ids =
    there_pushed id_of id (without (λ (e : TimerId). eqb e.id n) ids) (record { id = n; handle = handle })
    ∙ ap (λ b. b || eqb n id) (there_left id_of id n ids)

-- an id that is new
pub owners_pushed : (t s : Timers) (n handle r : ℕ) (owners : List TimerOwner) → s.ids ≡ with_id n handle t.ids → HaveOwners t owners
    → HaveOwners s (owners ++ record { id = n; registration = r } ∷ [])
owners_pushed t s n handle r owners is have = λ id.
    ap (λ ids. is_there (find (λ (e : TimerId). eqb e.id id) ids)) is ∙ id_set id n handle t.ids
    ∙ ap (λ b. (b && not (eqb n id)) || eqb n id) (have id ∙ there_map (λ (o : TimerOwner). o.registration) (find (λ (o : TimerOwner). eqb o.id id) owners))
    ∙ same (is_there (find (λ (o : TimerOwner). eqb o.id id) owners)) (eqb n id)
    ∙ sym (there_pushed owned_id id owners (record { id = n; registration = r }))
    ∙ sym (there_map (λ (o : TimerOwner). o.registration) (find (λ (o : TimerOwner). eqb o.id id) (owners ++ record { id = n; registration = r } ∷ [])))
  where
    same : (a b : Bool) → ((a && not b) || b) ≡ (a || b)
    same true true = refl
    same true false = refl
    same false true = refl
    same false false = refl

-- one that is there already
pub owners_again : (t s : Timers) (n handle : ℕ) (owners : List TimerOwner) → s.ids ≡ with_id n handle t.ids → has_id n t ≡ true → HaveOwners t owners → HaveOwners s owners
owners_again t s n handle owners is there have = λ id.
    ap (λ ids. is_there (find (λ (e : TimerId). eqb e.id id) ids)) is ∙ id_set id n handle t.ids
    ∙ same (has_id id t) (eqb n id) (λ e. ap (λ m. has_id m t) (sym (eqb-true n id e)) ∙ there)
    ∙ have id
  where
    same : (a b : Bool) → (b ≡ true → a ≡ true) → ((a && not b) || b) ≡ a
    same true true gives = refl
    same true false gives = refl
    same false true gives = sym (gives refl)
    same false false gives = refl

-- one that leaves
pub owners_left : (t s : Timers) (n : ℕ) (owners : List TimerOwner) → s.ids ≡ without (λ (e : TimerId). eqb e.id n) t.ids → HaveOwners t owners
    → HaveOwners s (without (λ (o : TimerOwner). eqb o.id n) owners)
owners_left t s n owners is have = λ id.
    ap (λ ids. is_there (find (λ (e : TimerId). eqb e.id id) ids)) is ∙ there_left id_of id n t.ids
    ∙ ap (λ b. b && not (eqb n id)) (have id ∙ there_map (λ (o : TimerOwner). o.registration) (find (λ (o : TimerOwner). eqb o.id id) owners))
    ∙ sym (there_left owned_id id n owners)
    ∙ sym (there_map (λ (o : TimerOwner). o.registration) (find (λ (o : TimerOwner). eqb o.id id) (without (λ (o : TimerOwner). eqb o.id n) owners)))

pub some_is_there : {X : Type 0} (o : Option X) → is_some o ≡ is_there o
some_is_there None = refl
some_is_there (Some x) = refl
