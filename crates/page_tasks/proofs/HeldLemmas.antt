-- The lists of the pool hold the queued tasks and nothing else.
use Rattle.std.proofs.Common.{◌≡◌, ◌≢◌, ◌⊎◌, ℕ, suc, ◌+◌, ◌<◌, Bool, true, false, cond, nat_lt, List, [], ◌∷◌, ◌++◌, map, length, filter, get_or, Option, eqb, IsTrue, refl, sym, ◌∙◌, ap, subst, inl, inr, arith, length-append}
use Rattle.std.specs.List.{AllByRecursion}
use Rattle.std.proofs.Math.ListN.{set, length-set}
use Rattle.std.proofs.lemmas.List.{get_or-set_same, get_or-set_other}
use Rattle.std.proofs.lemmas.Bool.{eqb-true}
use Rattle.std.proofs.lemmas.Bool.Decides.{nat_tests}
use Rattle.page_types.specs.declared.Source.{Source}
use Rattle.page_types.specs.declared.Source.TheVariants.{User, Net, Dom, Timer, Render, Sched, Idle}
use Rattle.page_parts.specs.Sources.{default_list, same_source}
use Rattle.page_model.specs.State.{Task, SchedTask}
use Rattle.task_pool.specs.Lists.{Entry, Lists, list_of, all_of, count}
use Rattle.task_pool.proofs.Places.{length_set}
use Rattle.task_queues.specs.declared.queues.Queues.{Queues}
use Rattle.task_queues.specs.BySource.{list_number, tasks_of, IsApart}
use Rattle.task_queues.specs.OneList.{SourcedTask, BySource, sourced, is_of, with_task, in_order as by_number, of_each, merged}
use Rattle.post_task.specs.Waiting.{Waiting, Among}
use Rattle.post_task.specs.Levels.{Sched as SchedLevels, Queue, all_queues, Lone, in_queue, of_queue, waiting_in, waiting, AreKept}
use Rattle.post_task.specs.InOrder.{in_order, put_in}
use Rattle.post_task.proofs.Best.{InQueues, among_queue}
use Rattle.post_task.proofs.InOrder.{to_order, from_order}
use Rattle.page_fields.specs.Fields.{task_of}
use Rattle.page_tasks.specs.declared.page_task.PageTask.{PageTask}
use Rattle.page_tasks.specs.declared.page_task.PageTask.TheVariants.{OfSource, OfScheduler}
use Rattle.page_tasks.specs.declared.asked.Asked.{Asked}
use Rattle.task_pool.specs.declared.pool.Ticket.{Ticket}
use Rattle.page_tasks.specs.Seen.{steps_in, has_steps}
use Rattle.page_tasks.specs.Standing.{seen_in, tasks_in, sched_task_in, sched_tasks_in, IsStanding}
use Rattle.page_tasks.specs.Held.{IsIn, IsTaskOf, IsSchedTaskOf, IsQueued, StandsIn, Holds}
use Rattle.page_tasks.proofs.Beside.{list_within}

abbrev Entries : Type 0
Entries = List (Entry PageTask)

-- ---- in a list

in_map : {X Y : Type 0} (f : X → Y) (x : X) (xs : List X) → IsIn x xs → IsIn (f x) (map f xs)
in_map f x [] i = absurd i
in_map f x (y ∷ ys) i = elim i [ inl e ↦ inl (ap f e) | inr j ↦ inr (in_map f x ys j) ]

of_map : {X Y : Type 0} (f : X → Y) (y : Y) (xs : List X) → IsIn y (map f xs) → (x : X) × IsIn x xs × (f x ≡ y)
of_map f y [] i = absurd i
of_map f y (x ∷ xs) i = elim i [ inl e ↦ (x, inl refl, e) | inr j ↦ let r = of_map f y xs j in (r.0, inr r.1, r.2) ]

of_filter : {X : Type 0} (p : X → Bool) (x : X) (xs : List X) → IsIn x (filter p xs) → IsIn x xs
of_filter p x [] i = absurd i
of_filter p x (y ∷ ys) i = by (p y) (of_filter p x ys) i
  where
    by : (b : Bool) → (IsIn x (filter p ys) → IsIn x ys) → IsIn x (cond b (y ∷ filter p ys) (filter p ys)) → (y ≡ x) ⊎ IsIn x ys
    by true rest i = elim i [ inl e ↦ inl e | inr j ↦ inr (rest j) ]
    by false rest i = inr (rest i)

in_filter : {X : Type 0} (p : X → Bool) (x : X) (xs : List X) → IsIn x xs → p x ≡ true → IsIn x (filter p xs)
in_filter p x [] i keep = absurd i
in_filter {X} p x (y ∷ ys) i keep = by (p y) refl (λ j. in_filter p x ys j keep) i
  where
    by : (b : Bool) → p y ≡ b → (IsIn x ys → IsIn x (filter p ys)) → (y ≡ x) ⊎ IsIn x ys → IsIn x (cond b (y ∷ filter p ys) (filter p ys))
    by true is rest i = elim i [ inl e ↦ inl e | inr j ↦ inr (rest j) ]
    by false is rest i = elim i [ inl e ↦ absurd (let h : p x ≡ false = subst (λ (u : X). p u ≡ false) e is in cc) | inr j ↦ rest j ]

all_in : {X : Type 0} (P : X → Type 0) (x : X) (xs : List X) → AllByRecursion P xs → IsIn x xs → P x
all_in P x [] all i = absurd i
all_in P x (y ∷ ys) all i = elim i [ inl e ↦ subst P e all.0 | inr j ↦ all_in P x ys all.1 j ]

from_among : (w : Waiting PageTask) (ws : List (Waiting PageTask)) → Among w ws → IsIn w ws
from_among w [] i = absurd i
from_among w (x ∷ xs) i = elim i [ inl e ↦ inl e | inr j ↦ inr (from_among w xs j) ]

to_among : (w : Waiting PageTask) (ws : List (Waiting PageTask)) → IsIn w ws → Among w ws
to_among w [] i = absurd i
to_among w (x ∷ xs) i = elim i [ inl e ↦ inl e | inr j ↦ inr (to_among w xs j) ]

-- ---- which list it is

same_or_not : (m n : ℕ) → (m ≡ n) ⊎ (m ≢ n)
same_or_not m n = by (eqb m n) refl
  where
    by : (b : Bool) → eqb m n ≡ b → (m ≡ n) ⊎ (m ≢ n)
    by true e = inl (eqb-true m n e)
    by false e = inr (λ h. let s : eqb m n ≡ true = grind (arith, nat_tests, h) in cc)

module _ (queues : Queues PageTask) (l : ℕ) where
  abbrev OfSome : Type 0
  OfSome = (s : Source) × (s ≢ Sched) × (l ≡ list_number queues s)

  apart_by : l ≢ queues.user.0 → l ≢ queues.net.0 → l ≢ queues.dom.0 → l ≢ queues.timer.0 → l ≢ queues.render.0 → l ≢ queues.idle.0 → IsApart queues l
  apart_by a b c d e f User other = a
  apart_by a b c d e f Net other = b
  apart_by a b c d e f Dom other = c
  apart_by a b c d e f Timer other = d
  apart_by a b c d e f Render other = e
  apart_by a b c d e f Idle other = f
  apart_by a b c d e f Sched other = absurd (other refl)

  of_source : OfSome ⊎ IsApart queues l
  of_source = elim (same_or_not l queues.user.0) [
    | inl e ↦ inl (User, (λ h. cc), e)
    | inr a ↦ elim (same_or_not l queues.net.0) [
      | inl e ↦ inl (Net, (λ h. cc), e)
      | inr b ↦ elim (same_or_not l queues.dom.0) [
        | inl e ↦ inl (Dom, (λ h. cc), e)
        | inr c ↦ elim (same_or_not l queues.timer.0) [
          | inl e ↦ inl (Timer, (λ h. cc), e)
          | inr d ↦ elim (same_or_not l queues.render.0) [
            | inl e ↦ inl (Render, (λ h. cc), e)
            | inr f ↦ elim (same_or_not l queues.idle.0) [
              | inl e ↦ inl (Idle, (λ h. cc), e)
              | inr g ↦ inr (apart_by a b c d f g)
            ]
          ]
        ]
      ]
    ]
  ]

of_queues : (l : ℕ) (qs : List Queue) → ((q : Queue) × InQueues q qs × (q.list ≡ l)) ⊎ Lone l qs
of_queues l [] = inr tt
of_queues l (q ∷ qs) = elim (same_or_not q.list l) [
  | inl e ↦ inl (q, inl refl, e)
  | inr h ↦ elim (of_queues l qs) [ inl r ↦ inl (r.0, inr r.1, r.2) | inr lone ↦ inr (h, lone) ]
]

list_is : (queues : Queues PageTask) (pool : Lists PageTask) (s : Source) → s ≢ Sched → tasks_of queues pool s ≡ list_of pool (list_number queues s)
list_is queues pool User other = refl
list_is queues pool Net other = refl
list_is queues pool Dom other = refl
list_is queues pool Timer other = refl
list_is queues pool Render other = refl
list_is queues pool Idle other = refl
list_is queues pool Sched other = absurd (other refl)

-- ---- each entry is a queued task, and each queued task an entry

module _ (pool : Lists PageTask) (queues : Queues PageTask) (sched : SchedLevels) (tickets : ℕ → Option Ticket) (asked : List Asked) (made : ℕ) (st : IsStanding pool queues sched tickets asked made) where
  abbrev lists : BySource PageTask
  lists = tasks_of queues pool

  of_steps : (s : Source) (entry : Entry PageTask) → IsIn entry (lists s) → (item : PageTask) → entry.item ≡ item → IsTaskOf (task_of steps_in (sourced s entry)) entry.number item
  of_steps s entry i (OfSource steps) is = (refl, ap steps_in is)
  of_steps s entry i (OfScheduler t) is =
      absurd (let h : IsTrue (has_steps entry.item) = all_in (λ (e : Entry PageTask). IsTrue (has_steps e.item)) entry (lists s) (st.tasks.steps s) i in let g = ap has_steps is in cc)

  as_task : (s : Source) (entry : Entry PageTask) → IsIn entry (lists s) → IsQueued (seen_in pool queues sched made) entry.number entry.item
  as_task s entry i =
      let t = sourced s entry in
      let here : IsIn t (filter (is_of s) (merged lists)) = subst (λ (ts : List (SourcedTask PageTask)). IsIn t ts) (sym (st.tasks.one.each s)) (in_map (sourced s) entry (lists s) i) in
      record { one = inl (task_of steps_in t, in_map (task_of steps_in) t (merged lists) (of_filter (is_of s) t (merged lists) here), of_steps s entry i entry.item refl) }

  as_sched : (q : Queue) (entry : Entry PageTask) → InQueues q (all_queues sched.levels) → IsIn entry (list_of pool q.list) → IsQueued (seen_in pool queues sched made) entry.number entry.item
  as_sched q entry i e =
      let w = in_queue q entry in
      let waits : Among w (waiting sched.levels pool) = among_queue pool (all_queues sched.levels) q w i (to_among w (of_queue pool q) (in_map (in_queue q) entry (list_of pool q.list) e)) in
      let k = st.scheduled.each w waits in
      let there = in_map sched_task_in w (in_order (waiting sched.levels pool)) (from_among w (in_order (waiting sched.levels pool)) (to_order w (waiting sched.levels pool) waits)) in
      record { one = inr (sched_task_in w, there, subst (λ (x : PageTask). IsSchedTaskOf (sched_task_in w) entry.number x) (sym k.posted) refl) }

  each_is : (entry : Entry PageTask) → StandsIn pool entry → IsQueued (seen_in pool queues sched made) entry.number entry.item
  each_is entry in' = elim (of_source queues in'.list) [
    | inl s ↦ as_task s.0 entry (subst (λ (es : Entries). IsIn entry es) (sym (list_is queues pool s.0 s.1)) (subst (λ (l : ℕ). IsIn entry (list_of pool l)) s.2 in'.stands))
    | inr apart ↦ elim (of_queues in'.list (all_queues sched.levels)) [
      | inl q ↦ as_sched q.0 entry q.1 (subst (λ (l : ℕ). IsIn entry (list_of pool l)) (sym q.2) in'.stands)
      | inr lone ↦ absurd (subst (λ (es : Entries). IsIn entry es) (st.lists.others in'.list apart lone) in'.stands)
    ]
  ]

  stands_in : (s : Source) (entry : Entry PageTask) → IsIn entry (lists s) → StandsIn pool entry
  stands_in User entry i = record { list = list_number queues User; stands = i }
  stands_in Net entry i = record { list = list_number queues Net; stands = i }
  stands_in Dom entry i = record { list = list_number queues Dom; stands = i }
  stands_in Timer entry i = record { list = list_number queues Timer; stands = i }
  stands_in Render entry i = record { list = list_number queues Render; stands = i }
  stands_in Idle entry i = record { list = list_number queues Idle; stands = i }
  stands_in Sched entry i = absurd i

  same_itself : (s : Source) → same_source s s ≡ true
  same_itself User = refl
  same_itself Net = refl
  same_itself Dom = refl
  same_itself Timer = refl
  same_itself Render = refl
  same_itself Sched = refl
  same_itself Idle = refl

  tasks_stand : (t : Task) → IsIn t (tasks_in lists) → (entry : Entry PageTask) × StandsIn pool entry × IsTaskOf t entry.number entry.item
  tasks_stand t i =
      let r = of_map (task_of steps_in) t (merged lists) i in
      let s = r.0.source in
      let here = subst (λ (ts : List (SourcedTask PageTask)). IsIn r.0 ts) (st.tasks.one.each s) (in_filter (is_of s) r.0 (merged lists) r.1 (same_itself s)) in
      let e = of_map (sourced s) r.0 (lists s) here in
      let same : task_of steps_in (sourced s e.0) ≡ t = ap (task_of steps_in) e.2 ∙ r.2 in
      (e.0, stands_in s e.0 e.1, subst (λ (x : Task). IsTaskOf x e.0.number e.0.item) same (of_steps s e.0 e.1 e.0.item refl))

  of_append : (w : Waiting PageTask) (xs ys : List (Waiting PageTask)) → IsIn w (xs ++ ys) → IsIn w xs ⊎ IsIn w ys
  of_append w [] ys i = inr i
  of_append w (x ∷ xs) ys i = elim i [ inl e ↦ inl (inl e) | inr j ↦ elim (of_append w xs ys j) [ inl k ↦ inl (inr k) | inr k ↦ inr k ] ]

  from_waiting : (w : Waiting PageTask) (qs : List Queue) → IsIn w (waiting_in pool qs) → (q : Queue) × (entry : Entry PageTask) × IsIn entry (list_of pool q.list) × (in_queue q entry ≡ w)
  from_waiting w [] i = absurd i
  from_waiting w (q ∷ qs) i = elim (of_append w (of_queue pool q) (waiting_in pool qs) i) [
    | inl j ↦ let r = of_map (in_queue q) w (list_of pool q.list) j in (q, r.0, r.1, r.2)
    | inr j ↦ from_waiting w qs j
  ]

  sched_stand : (t : SchedTask) → IsIn t (sched_tasks_in (waiting sched.levels pool)) → (entry : Entry PageTask) × StandsIn pool entry × IsSchedTaskOf t entry.number entry.item
  sched_stand t i =
      let ws = waiting sched.levels pool in
      let r = of_map sched_task_in t (in_order ws) i in
      let waits : Among r.0 ws = from_order r.0 ws (to_among r.0 (in_order ws) r.1) in
      let k = st.scheduled.each r.0 waits in
      let f = from_waiting r.0 (all_queues sched.levels) (from_among r.0 ws waits) in
      let item : f.1.item ≡ r.0.item = ap (λ (w : Waiting PageTask). w.item) f.3 in
      let number : f.1.number ≡ r.0.order = ap (λ (w : Waiting PageTask). w.order) f.3 in (
        f.1,
        record { list = f.0.list; stands = f.2 },
        subst (λ (x : PageTask). IsSchedTaskOf t f.1.number x) (sym (item ∙ k.posted))
            (sym (ap (λ (n : ℕ). record (sched_task_in r.0) { order = n }) number ∙ r.2)),
      )

-- ---- as many

abbrev Apart : ℕ → List ℕ → Type 0
Apart n [] = Unit {0}
Apart n (m ∷ ms) = (m ≢ n) × Apart n ms

abbrev Differ : List ℕ → Type 0
Differ [] = Unit {0}
Differ (n ∷ ns) = Apart n ns × Differ ns

abbrev lengths : List Entries → List ℕ → ℕ
lengths ls [] = 0
lengths ls (n ∷ ns) = length (get_or ls n []) + lengths ls ns

none_counted : (ls : List Entries) → ((l : ℕ) → get_or ls l [] ≡ []) → count ls ≡ 0
none_counted [] none = refl
none_counted (x ∷ xs) none = omega (arith, length-append x (all_of xs), ap length (none 0), none_counted xs (λ l. none (suc l)))

lengths_set : (ls : List Entries) (n : ℕ) (ns : List ℕ) → Apart n ns → lengths (set ls n []) ns ≡ lengths ls ns
lengths_set ls n [] a = refl
lengths_set ls n (m ∷ ms) a =
    ap (λ (es : Entries). length es + lengths (set ls n []) ms) (get_or-set_other ls n m [] [] a.0)
    ∙ ap (λ (k : ℕ). length (get_or ls m []) + k) (lengths_set ls n ms a.1)

counted : (ls : List Entries) (ns : List ℕ) → Differ ns → AllByRecursion (λ (n : ℕ). n < length ls) ns → ((l : ℕ) → Apart l ns → get_or ls l [] ≡ []) → count ls ≡ lengths ls ns
counted ls [] d within none = none_counted ls (λ l. none l tt)
counted ls (n ∷ ns) d within none =
    let rest = counted (set ls n []) ns d.1 (subst (λ (k : ℕ). AllByRecursion (λ (m : ℕ). m < k) ns) (sym (length-set ls n [])) within.1) (λ l a. elim (same_or_not l n) [
      | inl e ↦ ap (λ (k : ℕ). get_or (set ls n []) k []) e ∙ get_or-set_same ls n [] [] within.0
      | inr h ↦ get_or-set_other ls n l [] [] h ∙ none l (λ e. h (sym e), a)
    ]) in
    omega (arith, rest, lengths_set ls n ns d.0, length_set ls n [] within.0)

with_length : (t : SourcedTask PageTask) (ts : List (SourcedTask PageTask)) → length (with_task t ts) ≡ suc (length ts)
with_length t [] = refl
with_length t (u ∷ us) = by (nat_lt u.number t.number) (with_length t us)
  where
    by : (b : Bool) → length (with_task t us) ≡ suc (length us) → length (cond b (u ∷ with_task t us) (t ∷ u ∷ us)) ≡ suc (suc (length us))
    by true rest = ap (λ (n : ℕ). suc n) rest
    by false rest = refl

by_number_length : (ts : List (SourcedTask PageTask)) → length (by_number ts) ≡ length ts
by_number_length [] = refl
by_number_length (t ∷ ts) = with_length t (by_number ts) ∙ ap (λ (n : ℕ). suc n) (by_number_length ts)

put_length : (t : Waiting PageTask) (ts : List (Waiting PageTask)) → length (put_in t ts) ≡ suc (length ts)
put_length t [] = refl
put_length t (u ∷ us) = by (nat_lt t.order u.order) (put_length t us)
  where
    by : (b : Bool) → length (put_in t us) ≡ suc (length us) → length (cond b (t ∷ u ∷ us) (u ∷ put_in t us)) ≡ suc (suc (length us))
    by true rest = refl
    by false rest = ap (λ (n : ℕ). suc n) rest

order_length : (ts : List (Waiting PageTask)) → length (in_order ts) ≡ length ts
order_length [] = refl
order_length (t ∷ ts) = put_length t (in_order ts) ∙ ap (λ (n : ℕ). suc n) (order_length ts)

map_length : {X Y : Type 0} (f : X → Y) (xs : List X) → length (map f xs) ≡ length xs
map_length f [] = refl
map_length f (x ∷ xs) = ap (λ (n : ℕ). suc n) (map_length f xs)

waiting_length : (pool : Lists PageTask) (qs : List Queue) → length (waiting_in pool qs) ≡ lengths pool.lists (map (λ (q : Queue). q.list) qs)
waiting_length pool [] = refl
waiting_length pool (q ∷ qs) = omega (arith, length-append (of_queue pool q) (waiting_in pool qs), map_length (in_queue q) (list_of pool q.list), waiting_length pool qs)

lone_apart : (l : ℕ) (qs : List Queue) → Lone l qs → Apart l (map (λ (q : Queue). q.list) qs)
lone_apart l [] lone = tt
lone_apart l (q ∷ qs) lone = (lone.0, lone_apart l qs lone.1)

apart_lone : (l : ℕ) (qs : List Queue) → Apart l (map (λ (q : Queue). q.list) qs) → Lone l qs
apart_lone l [] a = tt
apart_lone l (q ∷ qs) a = (a.0, apart_lone l qs a.1)

kept_differ : (pool : Lists PageTask) (qs : List Queue) → AreKept pool qs → Differ (map (λ (q : Queue). q.list) qs)
kept_differ pool [] k = tt
kept_differ pool (q ∷ qs) k = (lone_apart q.list qs k.2, kept_differ pool qs k.3)

kept_within : (pool : Lists PageTask) (qs : List Queue) → AreKept pool qs → AllByRecursion (λ (n : ℕ). n < length pool.lists) (map (λ (q : Queue). q.list) qs)
kept_within pool [] k = tt
kept_within pool (q ∷ qs) k = (k.0, kept_within pool qs k.3)

of_each_length : (lists : BySource PageTask) (s : Source) (more : List Source) → length (of_each lists (s ∷ more)) ≡ length (lists s) + length (of_each lists more)
of_each_length lists s more = omega (arith, length-append (map (sourced s) (lists s)) (of_each lists more), map_length (sourced s) (lists s))

tasks_length : (lists : BySource PageTask) → lists Sched ≡ []
    → length (tasks_in lists) ≡ length (lists User) + (length (lists Net) + (length (lists Dom) + (length (lists Timer) + (length (lists Render) + length (lists Idle)))))
tasks_length lists none =
    omega (
      arith,
      map_length (task_of steps_in) (merged lists),
      by_number_length (of_each lists default_list),
      of_each_length lists User (Render ∷ Sched ∷ Timer ∷ Net ∷ Dom ∷ Idle ∷ []),
      of_each_length lists Render (Sched ∷ Timer ∷ Net ∷ Dom ∷ Idle ∷ []),
      of_each_length lists Sched (Timer ∷ Net ∷ Dom ∷ Idle ∷ []),
      of_each_length lists Timer (Net ∷ Dom ∷ Idle ∷ []),
      of_each_length lists Net (Dom ∷ Idle ∷ []),
      of_each_length lists Dom (Idle ∷ []),
      of_each_length lists Idle [],
      ap length none,
    )

module _ (pool : Lists PageTask) (queues : Queues PageTask) (sched : SchedLevels) (tickets : ℕ → Option Ticket) (asked : List Asked) (made : ℕ) (st : IsStanding pool queues sched tickets asked made) where
  abbrev of_sched : List ℕ
  of_sched = map (λ (q : Queue). q.list) (all_queues sched.levels)

  abbrev all_numbers : List ℕ
  all_numbers = queues.user.0 ∷ queues.net.0 ∷ queues.dom.0 ∷ queues.timer.0 ∷ queues.render.0 ∷ queues.idle.0 ∷ of_sched

  beside_sched : (s : Source) → s ≢ Sched → Apart (list_number queues s) of_sched
  beside_sched s other = lone_apart (list_number queues s) (all_queues sched.levels) (st.lists.apart s other)

  less_differs : (m n : ℕ) → m < n → n ≢ m
  less_differs m n h e = absurd (omega (arith, h, e))

  all_differ : Differ all_numbers
  all_differ =
      let r0 = queues.rising.0 in
      let r1 = queues.rising.1 in
      let r2 = queues.rising.2 in
      let r3 = queues.rising.3 in
      let r4 = queues.rising.4 in
      let d = λ (m n : ℕ) (h : m < n). less_differs m n h in
      let u = queues.user.0 in let n = queues.net.0 in let o = queues.dom.0 in let t = queues.timer.0 in let r = queues.render.0 in let i = queues.idle.0 in (
        (d u n r0, (d u o (omega (arith, r0, r1)), (d u t (omega (arith, r0, r1, r2)), (d u r (omega (arith, r0, r1, r2, r3)), (d u i (omega (arith, r0, r1, r2, r3, r4)), beside_sched User (λ h. cc)))))),
        (
          (d n o r1, (d n t (omega (arith, r1, r2)), (d n r (omega (arith, r1, r2, r3)), (d n i (omega (arith, r1, r2, r3, r4)), beside_sched Net (λ h. cc))))),
          (
            (d o t r2, (d o r (omega (arith, r2, r3)), (d o i (omega (arith, r2, r3, r4)), beside_sched Dom (λ h. cc)))),
            (
              (d t r r3, (d t i (omega (arith, r3, r4)), beside_sched Timer (λ h. cc))),
              ((d r i r4, beside_sched Render (λ h. cc)), (beside_sched Idle (λ h. cc), kept_differ pool (all_queues sched.levels) st.lists.kept.lists)),
            ),
          ),
        ),
      )

  all_within : AllByRecursion (λ (n : ℕ). n < length pool.lists) all_numbers
  all_within =
      let w = λ (s : Source) (other : s ≢ Sched). list_within queues pool s st.lists.stand other in
      (w User (λ h. cc), (w Net (λ h. cc), (w Dom (λ h. cc), (w Timer (λ h. cc), (w Render (λ h. cc), (w Idle (λ h. cc), kept_within pool (all_queues sched.levels) st.lists.kept.lists))))))

  other_empty : (l : ℕ) → Apart l all_numbers → get_or pool.lists l [] ≡ []
  other_empty l a =
      st.lists.others l
      (apart_by queues l (λ e. a.0 (sym e)) (λ e. a.1.0 (sym e)) (λ e. a.1.1.0 (sym e)) (λ e. a.1.1.1.0 (sym e)) (λ e. a.1.1.1.1.0 (sym e)) (λ e. a.1.1.1.1.1.0 (sym e)))
      (apart_lone l (all_queues sched.levels) a.1.1.1.1.1.1)

  many_are : count pool.lists ≡ length (tasks_in (tasks_of queues pool)) + length (sched_tasks_in (waiting sched.levels pool))
  many_are =
      let ws = waiting sched.levels pool in
      omega (
        arith,
        counted pool.lists all_numbers all_differ all_within other_empty,
        tasks_length (tasks_of queues pool) refl,
        map_length sched_task_in (in_order ws),
        order_length ws,
        waiting_length pool (all_queues sched.levels),
      )

  pub holds : Holds pool (seen_in pool queues sched made)
  holds =
      record {
        each = each_is pool queues sched tickets asked made st;
        tasks = tasks_stand pool queues sched tickets asked made st;
        sched_tasks = sched_stand pool queues sched tickets asked made st;
        many = many_are;
      }
