-- What is asked of hosts, and by which priorities scheduler tasks are selected.
use Rattle.std.proofs.Common.{◌≡◌, ◌≤◌, ◌<◌, ℕ, zero, suc, length, arith, Bool, true, false, cond, List, [], ◌∷◌, ◌++◌, ◌+◌, map, append_assoc, drop, get_or, refl, sym, ◌∙◌, ap, subst, Option, Some, None, is_some}
use Rattle.std.specs.Prelude.{find, ◌==◌, ◌||◌, slice_get, unwrap_or, nat_eq}
use Rattle.std.specs.Option.{option_map, option_map_or}
use Rattle.std.specs.Map.{lookup}
use Rattle.page_base.specs.declared.moment.Micros.{Micros}
use Rattle.page_parts.specs.Words.{is_there, numbered}
use Rattle.page_model.specs.State.{Registration, no_registration, Task, HostTask}
use Rattle.page_model.specs.PageSignals.{is_for, host_task_of, task_in_net}
use Rattle.page_model.specs.Operations.{latency_of}
use Rattle.page_tasks.specs.Queued.{Queued, IsOf}
use Rattle.page_state.specs.Seen.{latency_seen}
use Rattle.arrivals_text.specs.SeenParts.{latency_of as given_latency}
use Rattle.std.proofs.lemmas.List.{at_drop_more, map-append}
use Rattle.page_state.specs.Selecting.{AreSelectedBy}
use Rattle.page_state.specs.Standing.{Standing, TaskFields, page_of}

same-way : (a b : ℕ) → nat_eq a b ≡ (b == a)
same-way a b = grind arith

-- the latency at a number
pub latency_found : (k : ℕ) (ls : List (ℕ × Micros)) → latency_of (map latency_seen ls) k ≡ option_map_or (λ (m : Micros). m.0) (lookup (nat_eq k) ls) 0
latency_found k [] = refl
latency_found k (l ∷ ls) = by (nat_eq k l.0) (l.0 == k) (same-way k l.0) (latency_found k ls)
  where
    by : (b c : Bool) → b ≡ c → latency_of (map latency_seen ls) k ≡ option_map_or (λ (m : Micros). m.0) (lookup (nat_eq k) ls) 0
        → cond c l.1.0 (latency_of (map latency_seen ls) k) ≡ option_map_or (λ (m : Micros). m.0) (cond b (Some l.1) (lookup (nat_eq k) ls)) 0
    by true true e rest = refl
    by false false e rest = rest
    by true false e rest = absurd (cc)
    by false true e rest = absurd (cc)

pub is-none : {X : Type 0} (o : Option X) → is_some o ≡ false → o ≡ None
is-none None e = refl
is-none (Some x) e = absurd (cc)

pub none_there : {X : Type 0} (o : Option X) → is_there o ≡ false → o ≡ None
none_there None none = refl
none_there (Some x) none = Prim.cc

-- a page has the tasks that are queued
pub is_of : (q : Queued) (s : Standing) {view : Standing} → view ≡ s → view.tasks ≡ record { tasks = q.tasks; sched_tasks = q.sched_tasks; tasks_made = q.tasks_made }
    → AreSelectedBy view.signals.prios q.priorities → IsOf q (page_of s)
is_of q s {view = view} e tasks selected =
    let P : Standing → Type 0 = λ t. IsOf q (page_of t) in
    subst P e (record {
      tasks = ap (λ (t : TaskFields). t.tasks) tasks;
      sched_tasks = ap (λ (t : TaskFields). t.sched_tasks) tasks;
      tasks_made = ap (λ (t : TaskFields). t.tasks_made) tasks;
      priorities = selected.each;
    })

-- ---- a registration that was never made has no signal

beyond : (xs : List Registration) (n : ℕ) → length xs ≤ n → slice_get xs n ≡ None
beyond [] n h = refl
beyond (x ∷ xs) zero h = absurd (omega arith)
beyond (x ∷ xs) (suc n) h = beyond xs n (omega arith)

pub unregistered : (xs : List Registration) (r : ℕ) → ((0 < r) × (r ≤ length xs) → ⊥) → numbered xs r no_registration ≡ no_registration
unregistered xs zero never = refl
unregistered xs (suc n) never =
    let more : suc n ≤ length xs → ⊥ = λ h. never (omega arith, h) in
    let few : length xs ≤ n = omega (arith, more) in
    ap (λ (o : Option Registration). unwrap_or o no_registration) (beyond xs n few)

-- ---- what waits for a registration

pub mapped_there : {X Y : Type 0} (f : X → Y) (o : Option X) → is_there (option_map f o) ≡ is_there o
mapped_there f None = refl
mapped_there f (Some x) = refl

for_there : (r : ℕ) (o : Option HostTask) → is_for r o ≡ true → is_there o ≡ true
for_there r None for = Prim.cc
for_there r (Some t) for = refl

-- what is found has a host task
pub asked_there : (r : ℕ) (ts : List Task) → is_there (task_in_net (find (λ t. is_for r (host_task_of t.steps)) ts)) ≡ is_there (find (λ t. is_for r (host_task_of t.steps)) ts)
asked_there r [] = refl
asked_there r (t ∷ ts) = by (is_for r (host_task_of t.steps)) refl (asked_there r ts)
  where
    by : (b : Bool) → is_for r (host_task_of t.steps) ≡ b
        → is_there (task_in_net (find (λ t. is_for r (host_task_of t.steps)) ts)) ≡ is_there (find (λ t. is_for r (host_task_of t.steps)) ts)
        → is_there (task_in_net (cond b (Some t) (find (λ t. is_for r (host_task_of t.steps)) ts)))
        ≡ is_there (cond b (Some t) (find (λ t. is_for r (host_task_of t.steps)) ts))
    by true e rest = for_there r (host_task_of t.steps) e
    by false e rest = rest

pub or_second : (a b c : Bool) → a ≡ false → c ≡ b → c ≡ (a || b)
or_second true b c e same = Prim.cc
or_second false b c e same = same

-- one more latency stands behind those so far
pub one-more : (es : List (ℕ × Micros)) (hs : List (ℕ × ℕ)) (i : ℕ) (d : ℕ × ℕ) (new : List (ℕ × Micros)) → i < length hs
    → new ≡ es ++ ((get_or hs i d).0, record { 0 = (get_or hs i d).1 }) ∷ []
    → map latency_seen es ++ map given_latency (drop i hs) ≡ map given_latency hs
    → map latency_seen new ++ map given_latency (drop (i + 1) hs) ≡ map given_latency hs
one-more es hs i d new within pushed inv =
    let rest = map given_latency (drop (i + 1) hs) in
    let x : ℕ × Micros = ((get_or hs i d).0, record { 0 = (get_or hs i d).1 }) in
    ap (λ ys. map latency_seen ys ++ rest) pushed
    ∙ (ap (λ ys. ys ++ rest) (map-append latency_seen es (x ∷ []))
    ∙ (append_assoc (map latency_seen es) (latency_seen x ∷ []) rest
    ∙ (sym (at_drop_more (λ ys. map latency_seen es ++ map given_latency ys) hs i d within) ∙ inv)))
