-- Priorities of signals, where one is given or changed.
use Rattle.std.proofs.Common.{◌≡◌, ℕ, ◌<◌, Bool, true, false, [], ◌∷◌, Option, Some, None, option_map, refl, ap, sym, ◌∙◌, cond, arith, unwrap_or}
use Rattle.std.proofs.lemmas.Bool.{eqb-true, eq-eqb}
use Rattle.std.specs.Prelude.{◌==◌}
use Rattle.page_types.specs.declared.Priority.{Priority}
use Rattle.page_parts.specs.Words.{and_last, is_there}
use Rattle.page_parts.specs.TaskSignals.{PrioRecord, Prios, record_of, priority_of, changed_at, give, begun, ended, depend}
use Rattle.page_model.specs.Numbers.{Made, Each, PrioIsGiven}
use Rattle.page_laws.specs.Scheduling.{PrioSet}
use Rattle.page_laws.proofs.Finding.{false_true, same_number}

-- a signal that was not made has no priority
pub fresh-prio : (n : Made) (ps : Prios) (s : ℕ) → Each (PrioIsGiven n) ps → n.signals < s → priority_of ps s ≡ None
fresh-prio n [] s h le = refl
fresh-prio n (x ∷ ps) s h le =
    ap {A = Bool} {B = Option Priority} (λ b. option_map (λ r. r.priority) (cond b (Some x) (record_of ps s))) (same_number x.signal s (λ e. let last = h.0.signal.to_last in absurd (omega (arith, le, e, last))))
    ∙ fresh-prio n ps s h.1 le

-- a change of records that leaves priorities
pub same-prio : (s t : ℕ) (f : PrioRecord → PrioRecord) (ps : Prios) → ((r : PrioRecord) → (f r).signal ≡ r.signal) → ((r : PrioRecord) → (f r).priority ≡ r.priority) → priority_of (changed_at s f ps) t ≡ priority_of ps t
same-prio s t f [] g h = refl
same-prio s t f (x ∷ ps) g h = by_test (x.signal == s) (same-prio s t f ps g h)
  where
    rest : Bool → PrioRecord → Option Priority
    rest b r = option_map (λ r. r.priority) (cond b (Some r) (record_of (changed_at s f ps) t))

    by_number : (c : Bool) (r : PrioRecord) → r.priority ≡ x.priority → priority_of (changed_at s f ps) t ≡ priority_of ps t → option_map (λ r. r.priority) (cond c (Some r) (record_of (changed_at s f ps) t)) ≡ option_map (λ r. r.priority) (cond c (Some x) (record_of ps t))
    by_number true r e k = ap Some e
    by_number false r e k = k

    by_test : (b : Bool) → priority_of (changed_at s f ps) t ≡ priority_of ps t → option_map (λ r. r.priority) (cond ((cond b (f x) x).signal == t) (Some (cond b (f x) x)) (record_of (changed_at s f ps) t)) ≡ option_map (λ r. r.priority) (cond (x.signal == t) (Some x) (record_of ps t))
    by_test true k = ap {A = ℕ} {B = Option Priority} (λ n. option_map (λ r. r.priority) (cond (n == t) (Some (f x)) (record_of (changed_at s f ps) t))) (g x) ∙ by_number (x.signal == t) (f x) (h x) k
    by_test false k = by_number (x.signal == t) x refl k

-- and one of the record of s alone
others-prio : (s t : ℕ) (f : PrioRecord → PrioRecord) (ps : Prios) → ((r : PrioRecord) → (f r).signal ≡ r.signal) → (s == t) ≡ false → priority_of (changed_at s f ps) t ≡ priority_of ps t
others-prio s t f [] g h = refl
others-prio s t f (x ∷ ps) g h = by_test (x.signal == s) refl (others-prio s t f ps g h)
  where
    by_number : (c : Bool) → priority_of (changed_at s f ps) t ≡ priority_of ps t → option_map (λ r. r.priority) (cond c (Some x) (record_of (changed_at s f ps) t)) ≡ option_map (λ r. r.priority) (cond c (Some x) (record_of ps t))
    by_number true k = refl
    by_number false k = k

    by_test : (b : Bool) → (x.signal == s) ≡ b → priority_of (changed_at s f ps) t ≡ priority_of ps t → option_map (λ r. r.priority) (cond ((cond b (f x) x).signal == t) (Some (cond b (f x) x)) (record_of (changed_at s f ps) t)) ≡ option_map (λ r. r.priority) (cond (x.signal == t) (Some x) (record_of ps t))
    by_test true q k =
        let other : (x.signal == t) ≡ false = ap {A = ℕ} {B = Bool} (λ n. n == t) (eqb-true x.signal s q) ∙ h in
        ap {A = ℕ} {B = Option Priority} (λ n. option_map (λ r. r.priority) (cond (n == t) (Some (f x)) (record_of (changed_at s f ps) t))) (g x)
        ∙ (ap {A = Bool} {B = Option Priority} (λ c. option_map (λ r. r.priority) (cond c (Some (f x)) (record_of (changed_at s f ps) t))) other
        ∙ (k ∙ sym (ap {A = Bool} {B = Option Priority} (λ c. option_map (λ r. r.priority) (cond c (Some x) (record_of ps t))) other)))
    by_test false q k = by_number (x.signal == t) k

-- the priority of s is then this one
own-prio : (s : ℕ) (f : PrioRecord → PrioRecord) (ps : Prios) (priority other : Priority) → ((r : PrioRecord) → (f r).signal ≡ r.signal) → ((r : PrioRecord) → (f r).priority ≡ priority) → priority_of (changed_at s f ps) s ≡ Some other → other ≡ priority
own-prio s f [] priority other g h e = Prim.cc
own-prio s f (x ∷ ps) priority other g h e = by_test (x.signal == s) refl e (own-prio s f ps priority other g h)
  where
    by_test : (b : Bool) → (x.signal == s) ≡ b → option_map (λ r. r.priority) (cond ((cond b (f x) x).signal == s) (Some (cond b (f x) x)) (record_of (changed_at s f ps) s)) ≡ Some other → (priority_of (changed_at s f ps) s ≡ Some other → other ≡ priority) → other ≡ priority
    by_test true q e rest =
        let here : option_map (λ r. r.priority) (cond ((f x).signal == s) (Some (f x)) (record_of (changed_at s f ps) s)) ≡ Some (f x).priority = ap {A = Bool} {B = Option Priority} (λ c. option_map (λ r. r.priority) (cond c (Some (f x)) (record_of (changed_at s f ps) s))) (ap {A = ℕ} {B = Bool} (λ n. n == s) (g x) ∙ q) in
        sym (ap {A = Option Priority} {B = Priority} (λ o. unwrap_or o other) (sym here ∙ e)) ∙ h x
    by_test false q e rest = rest (sym (ap {A = Bool} {B = Option Priority} (λ c. option_map (λ r. r.priority) (cond c (Some x) (record_of (changed_at s f ps) s))) q) ∙ e)

-- what has a priority keeps one
kept-prio : (s t : ℕ) (f : PrioRecord → PrioRecord) (ps : Prios) → ((r : PrioRecord) → (f r).signal ≡ r.signal) → is_there (priority_of ps t) ≡ true → is_there (priority_of (changed_at s f ps) t) ≡ true
kept-prio s t f [] g h = h
kept-prio s t f (x ∷ ps) g h = by_test (x.signal == s) (kept-prio s t f ps g)
  where
    by_number : (c : Bool) (r : PrioRecord) → is_there (option_map (λ r. r.priority) (cond c (Some x) (record_of ps t))) ≡ true → (is_there (priority_of ps t) ≡ true → is_there (priority_of (changed_at s f ps) t) ≡ true) → is_there (option_map (λ r. r.priority) (cond c (Some r) (record_of (changed_at s f ps) t))) ≡ true
    by_number true r e k = refl
    by_number false r e k = k e

    by_test : (b : Bool) → (is_there (priority_of ps t) ≡ true → is_there (priority_of (changed_at s f ps) t) ≡ true) → is_there (option_map (λ r. r.priority) (cond ((cond b (f x) x).signal == t) (Some (cond b (f x) x)) (record_of (changed_at s f ps) t))) ≡ true
    by_test true k = ap {A = ℕ} {B = Bool} (λ n. is_there (option_map (λ r. r.priority) (cond (n == t) (Some (f x)) (record_of (changed_at s f ps) t)))) (g x) ∙ by_number (x.signal == t) (f x) h k
    by_test false k = by_number (x.signal == t) x h k

pub begun-set : (s : ℕ) (priority : Priority) (ps : Prios) → PrioSet s priority ps (begun s priority ps)
begun-set s priority ps =
    record {
      others = λ t h. others-prio s t (λ r. record r { priority = priority; changing = true }) ps (λ r. refl) h;
      own = λ other e. own-prio s (λ r. record r { priority = priority; changing = true }) ps priority other (λ r. refl) (λ r. refl) e;
      kept = λ t h. kept-prio s t (λ r. record r { priority = priority; changing = true }) ps (λ r. refl) h;
    }

pub ended-same : (s : ℕ) (ps : Prios) (t : ℕ) → priority_of (ended s ps) t ≡ priority_of ps t
ended-same s ps t = same-prio s t (λ r. record r { changing = false }) ps (λ r. refl) (λ r. refl)

pub depend-same : (s on : ℕ) (ps : Prios) (t : ℕ) → priority_of (depend s on ps) t ≡ priority_of ps t
depend-same s on ps t =
    same-prio s t (λ r. record r { follows = Some on }) (changed_at on (λ r. record r { followers = and_last r.followers s }) ps) (λ r. refl) (λ r. refl)
    ∙ same-prio on t (λ r. record r { followers = and_last r.followers s }) ps (λ r. refl) (λ r. refl)

-- one more at the end
last-prio : (s t : ℕ) (x : PrioRecord) (ps : Prios) → (x.signal == t) ≡ false → priority_of (and_last ps x) t ≡ priority_of ps t
last-prio s t x [] h = ap {A = Bool} {B = Option Priority} (λ c. option_map (λ r. r.priority) (cond c (Some x) None)) h
last-prio s t x (y ∷ ps) h = by_number (y.signal == t) (last-prio s t x ps h)
  where
    by_number : (c : Bool) → priority_of (and_last ps x) t ≡ priority_of ps t → option_map (λ r. r.priority) (cond c (Some y) (record_of (and_last ps x) t)) ≡ option_map (λ r. r.priority) (cond c (Some y) (record_of ps t))
    by_number true k = refl
    by_number false k = k

last-own : (t : ℕ) (x : PrioRecord) (ps : Prios) → x.signal ≡ t → priority_of ps t ≡ None → priority_of (and_last ps x) t ≡ Some x.priority
last-own t x [] e h = ap {A = Bool} {B = Option Priority} (λ c. option_map (λ r. r.priority) (cond c (Some x) None)) (eq-eqb x.signal t e)
last-own t x (y ∷ ps) e h = by_number (y.signal == t) h (last-own t x ps e)
  where
    by_number : (c : Bool) → option_map (λ r. r.priority) (cond c (Some y) (record_of ps t)) ≡ None → (priority_of ps t ≡ None → priority_of (and_last ps x) t ≡ Some x.priority) → option_map (λ r. r.priority) (cond c (Some y) (record_of (and_last ps x) t)) ≡ Some x.priority
    by_number true h k = Prim.cc
    by_number false h k = k h

last-kept : (t : ℕ) (x : PrioRecord) (ps : Prios) → is_there (priority_of ps t) ≡ true → is_there (priority_of (and_last ps x) t) ≡ true
last-kept t x [] h = absurd (false_true h)
last-kept t x (y ∷ ps) h = by_number (y.signal == t) h (last-kept t x ps)
  where
    by_number : (c : Bool) → is_there (option_map (λ r. r.priority) (cond c (Some y) (record_of ps t))) ≡ true → (is_there (priority_of ps t) ≡ true → is_there (priority_of (and_last ps x) t) ≡ true) → is_there (option_map (λ r. r.priority) (cond c (Some y) (record_of (and_last ps x) t))) ≡ true
    by_number true h k = refl
    by_number false h k = k h

pub give-set : (s : ℕ) (priority : Priority) (ps : Prios) → priority_of ps s ≡ None → PrioSet s priority ps (give s priority ps)
give-set s priority ps h =
    record {
      others = λ t e. last-prio s t (record { signal = s; priority = priority; follows = None; followers = []; changing = false }) ps e;
      own = λ other e. ap {A = Option Priority} {B = Priority} (λ o. unwrap_or o other) (sym e ∙ last-own s (record { signal = s; priority = priority; follows = None; followers = []; changing = false }) ps refl h);
      kept = λ t e. last-kept t (record { signal = s; priority = priority; follows = None; followers = []; changing = false }) ps e;
    }
