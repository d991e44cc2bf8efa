-- Scheduler tasks are selected by the priorities of the signals, also where one is given a priority or follows another.
use Rattle.std.proofs.Common.{◌≡◌, ℕ, Bool, true, false, [], ◌∷◌, Option, Some, None, option_map, refl, ap, ◌∙◌, cond, List}
use Rattle.std.specs.Prelude.{◌==◌}
use Rattle.page_types.specs.declared.Priority.{Priority}
use Rattle.page_parts.specs.Words.{and_last}
use Rattle.page_parts.specs.TaskSignals.{PrioRecord, Prios, record_of, priority_of, changed_at, give, depend}
use Rattle.page_tasks.specs.Queued.{SignalPriority}
use Rattle.page_state.specs.Selecting.{AreSelectedBy}

-- a change of records that leaves priorities
pub same-prio : (s t : ℕ) (f : PrioRecord → PrioRecord) (ps : Prios) → ((r : PrioRecord) → (f r).signal ≡ r.signal) → ((r : PrioRecord) → (f r).priority ≡ r.priority) → priority_of (changed_at s f ps) t ≡ priority_of ps t
same-prio s t f [] g h = refl
same-prio s t f (x ∷ ps) g h = by_test (x.signal == s) (same-prio s t f ps g h)
  where
    rest : Bool → PrioRecord → Option Priority
    rest b r = option_map (λ r. r.priority) (cond b (Some r) (record_of (changed_at s f ps) t))

    by_number : (c : Bool) (r : PrioRecord) → r.priority ≡ x.priority → priority_of (changed_at s f ps) t ≡ priority_of ps t → option_map (λ r. r.priority) (cond c (Some r) (record_of (changed_at s f ps) t)) ≡ option_map (λ r. r.priority) (cond c (Some x) (record_of ps t))
    by_number true r e k = ap Some e
    by_number false r e k = k

    by_test : (b : Bool) → priority_of (changed_at s f ps) t ≡ priority_of ps t → option_map (λ r. r.priority) (cond ((cond b (f x) x).signal == t) (Some (cond b (f x) x)) (record_of (changed_at s f ps) t)) ≡ option_map (λ r. r.priority) (cond (x.signal == t) (Some x) (record_of ps t))
    by_test true k = ap {A = ℕ} {B = Option Priority} (λ n. option_map (λ r. r.priority) (cond (n == t) (Some (f x)) (record_of (changed_at s f ps) t))) (g x) ∙ by_number (x.signal == t) (f x) (h x) k
    by_test false k = by_number (x.signal == t) x refl k

-- a further record leaves the priorities that there are
given-prio : (x : PrioRecord) (t : ℕ) (priority : Priority) (ps : Prios) → priority_of ps t ≡ Some priority → priority_of (and_last ps x) t ≡ Some priority
given-prio x t priority [] h = Prim.cc
given-prio x t priority (y ∷ ps) h = by_test (y.signal == t) (given-prio x t priority ps) h
  where
    by_test : (b : Bool) → (priority_of ps t ≡ Some priority → priority_of (and_last ps x) t ≡ Some priority)
        → option_map (λ r. r.priority) (cond b (Some y) (record_of ps t)) ≡ Some priority
        → option_map (λ r. r.priority) (cond b (Some y) (record_of (and_last ps x) t)) ≡ Some priority
    by_test true rest e = e
    by_test false rest e = rest e

-- a signal is given a priority
pub given-selected : (s : ℕ) (priority : Priority) (ps : Prios) (priorities : List SignalPriority) → AreSelectedBy ps priorities → AreSelectedBy (give s priority ps) priorities
given-selected s priority ps priorities h =
    let x : PrioRecord = record { signal = s; priority = priority; follows = None; followers = []; changing = false } in
    record { each = λ t own found. given-prio x t own ps (h.each t own found) }

-- a signal follows another
pub depending-selected : (s on : ℕ) (ps : Prios) (priorities : List SignalPriority) → AreSelectedBy ps priorities → AreSelectedBy (depend s on ps) priorities
depending-selected s on ps priorities h =
    record {
      each = λ t own found.
          same-prio s t (λ r. record r { follows = Some on }) (changed_at on (λ r. record r { followers = and_last r.followers s }) ps) (λ r. refl) (λ r. refl)
          ∙ same-prio on t (λ r. record r { followers = and_last r.followers s }) ps (λ r. refl) (λ r. refl)
          ∙ h.each t own found;
    }
