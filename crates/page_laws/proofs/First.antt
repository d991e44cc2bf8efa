-- The scheduler's first task goes before every other, as a page has it and as the lines tell it.
use Rattle.std.proofs.Common.{◌≡◌, ◌⊎◌, inl, inr, ℕ, ◌≤◌, ◌<◌, ◌+◌, ◌*◌, Bool, true, false, List, [], ◌∷◌, ◌&&◌, ◌||◌, not, Option, Some, None, refl, sym, subst, ap, ◌∙◌, cond, arith, nat_lt, nat_le, option_map, unwrap_or}
use Rattle.std.proofs.lemmas.Bool.{ltb-true, ltb-false, leb-false, eqb-true, eq-eqb}
use Rattle.std.specs.Prelude.{◌==◌, filter}
use Rattle.std.specs.List.{list_all}
use Rattle.page_types.specs.declared.Priority.{Priority}
use Rattle.page_types.specs.declared.Priority.TheVariants.{Background, UserVisible, UserBlocking}
use Rattle.page_parts.specs.Words.{and_last, without, is_there}
use Rattle.page_parts.specs.TaskSignals.{rank, priority_of}
use Rattle.page_model.specs.State.{Page, PrioSource, Fixed, OfSignal, SchedTask}
use Rattle.page_model.specs.SchedulerTasks.{queue_name, first_of, first_sched_from, goes_before}
use Rattle.page_model.specs.SchedulerTasks as sched
use Rattle.page_model.specs.Numbers.{Each}
use Rattle.page_laws.specs.History.{History, is_some_and}
use Rattle.page_laws.specs.SchedulerLaws.{Enqueued, rank_of, queue_priority, priority_now, effective, goes_first, precedes, has_task}
use Rattle.page_laws.specs.Scheduling.{HasPriority}
use Rattle.page_laws.proofs.Finding.{false_true, true_false}

-- ---- lists

-- the line of a scheduler task
abbrev pub line_of : SchedTask → Enqueued
line_of t = record { registration = t.registration; queue = queue_name t.source; continuation = t.continuation; order = t.order }

-- the tasks as lines, the last one first, in front of others
abbrev pub turned : List SchedTask → List Enqueued → List Enqueued
turned [] others = others
turned (t ∷ ts) others = turned ts (line_of t ∷ others)

pub turned-last : (ts : List SchedTask) (t : SchedTask) (others : List Enqueued) → turned (and_last ts t) others ≡ line_of t ∷ turned ts others
turned-last [] t others = refl
turned-last (u ∷ ts) t others = turned-last ts t (line_of u ∷ others)

-- those that are kept are those that are not gone
pub turned-filter : (keep : Enqueued → Bool) (gone : SchedTask → Bool) (ts : List SchedTask) (others : List Enqueued) → ((t : SchedTask) → keep (line_of t) ≡ not (gone t)) → filter keep (turned ts others) ≡ turned (without gone ts) (filter keep others)
turned-filter keep gone [] others h = refl
turned-filter keep gone (t ∷ ts) others h = turned-filter keep gone ts (line_of t ∷ others) h ∙ by_test (gone t) (h t)
  where
    by_test : (b : Bool) → keep (line_of t) ≡ not b → turned (without gone ts) (cond (keep (line_of t)) (line_of t ∷ filter keep others) (filter keep others)) ≡ turned (cond b (without gone ts) (t ∷ without gone ts)) (filter keep others)
    by_test true e = ap {A = Bool} {B = List Enqueued} (λ c. turned (without gone ts) (cond c (line_of t ∷ filter keep others) (filter keep others))) e
    by_test false e = ap {A = Bool} {B = List Enqueued} (λ c. turned (without gone ts) (cond c (line_of t ∷ filter keep others) (filter keep others))) e

pub turned-all : (test : Enqueued → Bool) (ts : List SchedTask) (others : List Enqueued) → Each (λ t. test (line_of t) ≡ true) ts → list_all test others ≡ true → list_all test (turned ts others) ≡ true
turned-all test [] others h k = k
turned-all test (t ∷ ts) others h k = turned-all test ts (line_of t ∷ others) h.1 (ap {A = Bool} {B = Bool} (λ b. b && list_all test others) h.0 ∙ k)

-- where one of them passes, one is found
no-task : (test : Enqueued → Bool) (us : List Enqueued) → has_task (filter test us) ≡ false → Each (λ u. test u ≡ false) us
no-task test [] h = tt
no-task test (u ∷ us) h = by_test (test u) refl h (no-task test us)
  where
    by_test : (b : Bool) → test u ≡ b → has_task (cond b (u ∷ filter test us) (filter test us)) ≡ false → (has_task (filter test us) ≡ false → Each (λ u. test u ≡ false) us) → test u ≡ false × Each (λ u. test u ≡ false) us
    by_test true q h rest = absurd (true_false h)
    by_test false q h rest = (q, rest h)

each-turned : (P : Enqueued → Type 0) (ts : List SchedTask) (others : List Enqueued) → Each P (turned ts others) → Each P others × Each (λ t. P (line_of t)) ts
each-turned P [] others h = (h, tt)
each-turned P (t ∷ ts) others h = let k = each-turned P ts (line_of t ∷ others) h in (k.0.1, (k.0.0, k.1))

-- ---- the first task

-- a pair of priority and order goes before another, or is the same
abbrev pub Leads : ℕ → ℕ → ℕ → ℕ → Type 0
Leads n o m k = (m < n) ⊎ (n ≡ m × o ≤ k)

leads-then : (n o m k l j : ℕ) → Leads n o m k → Leads m k l j → Leads n o l j
leads-then n o m k l j (inl a) (inl b) = inl (omega (arith, a, b))
leads-then n o m k l j (inl a) (inr b) = let e = b.0 in inl (omega (arith, a, e))
leads-then n o m k l j (inr a) (inl b) = let e = a.0 in inl (omega (arith, e, b))
leads-then n o m k l j (inr a) (inr b) = let x = a.1 in let y = b.1 in inr (a.0 ∙ b.0, omega (arith, x, y))

leads-first : (n o m k : ℕ) → Leads n o m k → goes_first n o m k ≡ true
leads-first n o m k (inl a) = ap {A = Bool} {B = Bool} (λ b. b || ((n == m) && nat_le o k)) (lt-is m n a)
  where
    lt-is : (m n : ℕ) → m < n → nat_lt m n ≡ true
    lt-is m n le = by_test (nat_lt m n) refl
      where
        by_test : (b : Bool) → nat_lt m n ≡ b → nat_lt m n ≡ true
        by_test true q = q
        by_test false q = let no = ltb-false m n q in absurd (omega (arith, le, no))
leads-first n o m k (inr a) = by_test (nat_lt m n) (ap {A = Bool} {B = Bool} (λ b. b && nat_le o k) (eq-eqb n m a.0) ∙ le-is a.1)
  where
    le-is : o ≤ k → nat_le o k ≡ true
    le-is le = by_it (nat_le o k) refl
      where
        by_it : (b : Bool) → nat_le o k ≡ b → nat_le o k ≡ true
        by_it true q = q
        by_it false q = let no = leb-false o k q in absurd (omega (arith, le, no))

    by_test : (b : Bool) → (n == m) && nat_le o k ≡ true → b || ((n == m) && nat_le o k) ≡ true
    by_test true e = refl
    by_test false e = e

abbrev pub LeadsIn : Page → SchedTask → SchedTask → Type 0
LeadsIn p t u = Leads (sched.effective p t) t.order (sched.effective p u) u.order

-- of two tasks the one that goes before leads, and else the other
before-leads : (p : Page) (b a : SchedTask) → goes_before p b a ≡ true → LeadsIn p b a
before-leads p b a h = by_test (nat_lt (sched.effective p a) (sched.effective p b)) refl h
  where
    by_equal : (c : Bool) → (sched.effective p b == sched.effective p a) ≡ c → c && nat_lt b.order a.order ≡ true → LeadsIn p b a
    by_equal true q h = let lt = ltb-true b.order a.order h in inr (eqb-true (sched.effective p b) (sched.effective p a) q, omega (arith, lt))
    by_equal false q h = absurd (false_true h)

    by_test : (c : Bool) → nat_lt (sched.effective p a) (sched.effective p b) ≡ c → c || ((sched.effective p b == sched.effective p a) && nat_lt b.order a.order) ≡ true → LeadsIn p b a
    by_test true q h = inl (ltb-true (sched.effective p a) (sched.effective p b) q)
    by_test false q h = by_equal (sched.effective p b == sched.effective p a) refl h

other-leads : (p : Page) (b a : SchedTask) → goes_before p b a ≡ false → LeadsIn p a b
other-leads p b a h = by_test (nat_lt (sched.effective p a) (sched.effective p b)) refl h
  where
    at_same : (m n : ℕ) → n ≤ m → (n < m → ⊥) → m ≡ n
    at_same m n le not_less = by_it (nat_lt n m) refl
      where
        by_it : (c : Bool) → nat_lt n m ≡ c → m ≡ n
        by_it true e = absurd (not_less (ltb-true n m e))
        by_it false e = let le1 = ltb-false n m e in omega (arith, le, le1)

    by_less : (c : Bool) → nat_lt (sched.effective p b) (sched.effective p a) ≡ c → (sched.effective p b == sched.effective p a) ≡ false → (sched.effective p a < sched.effective p b → ⊥) → LeadsIn p a b
    by_less true e q not_less = inl (ltb-true (sched.effective p b) (sched.effective p a) e)
    by_less false e q not_less =
        absurd (false_true (sym q ∙ eq-eqb (sched.effective p b) (sched.effective p a) (at_same (sched.effective p b) (sched.effective p a) (ltb-false (sched.effective p b) (sched.effective p a) e) not_less)))

    by_order : (c d : Bool) → (sched.effective p b == sched.effective p a) ≡ c → nat_lt b.order a.order ≡ d → c && d ≡ false → (sched.effective p a < sched.effective p b → ⊥) → LeadsIn p a b
    by_order true true q r h not_less = absurd (true_false h)
    by_order true false q r h not_less = let le = ltb-false b.order a.order r in inr (sym (eqb-true (sched.effective p b) (sched.effective p a) q), omega (arith, le))
    by_order false d q r h not_less = by_less (nat_lt (sched.effective p b) (sched.effective p a)) refl q not_less

    by_test : (c : Bool) → nat_lt (sched.effective p a) (sched.effective p b) ≡ c → c || ((sched.effective p b == sched.effective p a) && nat_lt b.order a.order) ≡ false → LeadsIn p a b
    by_test true q h = absurd (true_false h)
    by_test false q h = by_order (sched.effective p b == sched.effective p a) (nat_lt b.order a.order) refl refl h (λ lt. let le = ltb-false (sched.effective p a) (sched.effective p b) q in absurd (omega (arith, lt, le)))

leads-same : (p : Page) (t : SchedTask) → LeadsIn p t t
leads-same p t = inr (refl, omega arith)

-- the first of these leads each of them
first-leads : (p : Page) (a : SchedTask) (ts : List SchedTask) → LeadsIn p (first_sched_from p a ts) a × Each (LeadsIn p (first_sched_from p a ts)) ts
first-leads p a [] = (leads-same p a, tt)
first-leads p a (b ∷ ts) = by_test (goes_before p b a) refl (λ c. first-leads p c ts)
  where
    whole : (c : SchedTask) → LeadsIn p c a → LeadsIn p c b → LeadsIn p (first_sched_from p c ts) c × Each (LeadsIn p (first_sched_from p c ts)) ts → LeadsIn p (first_sched_from p c ts) a × Each (LeadsIn p (first_sched_from p c ts)) (b ∷ ts)
    whole c x y h = (
      leads-then (sched.effective p (first_sched_from p c ts)) (first_sched_from p c ts).order (sched.effective p c) c.order (sched.effective p a) a.order h.0 x,
      (leads-then (sched.effective p (first_sched_from p c ts)) (first_sched_from p c ts).order (sched.effective p c) c.order (sched.effective p b) b.order h.0 y, h.1),
    )

    by_test : (g : Bool) → goes_before p b a ≡ g → ((c : SchedTask) → LeadsIn p (first_sched_from p c ts) c × Each (LeadsIn p (first_sched_from p c ts)) ts) → LeadsIn p (first_sched_from p (cond g b a) ts) a × Each (LeadsIn p (first_sched_from p (cond g b a) ts)) (b ∷ ts)
    by_test true q rest = whole b (before-leads p b a q) (leads-same p b) (rest b)
    by_test false q rest = whole a (leads-same p a) (other-leads p b a q) (rest a)

-- and has what each of them has
first-has : (P : SchedTask → Type 0) (p : Page) (a : SchedTask) (ts : List SchedTask) → P a → Each P ts → P (first_sched_from p a ts)
first-has P p a [] x h = x
first-has P p a (b ∷ ts) x h = first-has P p (cond (goes_before p b a) b a) ts (by_test (goes_before p b a)) h.1
  where
    by_test : (c : Bool) → P (cond c b a)
    by_test true = h.0
    by_test false = x

unsome : (x y : SchedTask) → Some x ≡ Some y → x ≡ y
unsome x y e = ap {A = Option SchedTask} {B = SchedTask} (λ o. unwrap_or o x) e

pub first_of-leads : (p : Page) (ts : List SchedTask) (t : SchedTask) → first_of p ts ≡ Some t → Each (LeadsIn p t) ts
first_of-leads p [] t e = tt
first_of-leads p (a ∷ ts) t e = subst (λ (x : SchedTask). Each (LeadsIn p x) (a ∷ ts)) (unsome (first_sched_from p a ts) t e) (let h = first-leads p a ts in (h.0, h.1))

pub first_of-has : (P : SchedTask → Type 0) (p : Page) (ts : List SchedTask) (t : SchedTask) → first_of p ts ≡ Some t → Each P ts → P t
first_of-has P p [] t e h = absurd (none e)
  where
    none : None ≡ Some t → ⊥
    none e = Prim.cc
first_of-has P p (a ∷ ts) t e h = subst P (unsome (first_sched_from p a ts) t e) (first-has P p a ts h.0 h.1)

-- ---- priorities by the lines

rank-same : (q : Priority) → rank_of q ≡ rank q
rank-same Background = refl
rank-same UserVisible = refl
rank-same UserBlocking = refl

-- where the lines tell the priorities, they tell the effective one
pub effective-told : (p : Page) (past : History) (t : SchedTask) → ((s : ℕ) (q : Priority) → priority_of p.prios s ≡ Some q → priority_now past s ≡ Some q) → HasPriority p.prios t.source → effective past (line_of t) ≡ Some (sched.effective p t)
effective-told p past t k h = by_source t.source h
  where
    whole : (q : Priority) → option_map (λ q. 2 * rank_of q + cond t.continuation 1 0) (Some q) ≡ Some (2 * rank q + cond t.continuation 1 0)
    whole q = ap {A = ℕ} {B = Option ℕ} (λ n. Some (2 * n + cond t.continuation 1 0)) (rank-same q)

    by_source : (source : PrioSource) → HasPriority p.prios source → option_map (λ q. 2 * rank_of q + cond t.continuation 1 0) (queue_priority past (queue_name source)) ≡ Some (2 * rank (sched.priority_now p source) + cond t.continuation 1 0)
    by_source (Fixed q) h = whole q
    by_source (OfSignal s) h = by_priority (priority_of p.prios s) refl h
      where
        by_priority : (o : Option Priority) → priority_of p.prios s ≡ o → is_there o ≡ true → option_map (λ q. 2 * rank_of q + cond t.continuation 1 0) (priority_now past s) ≡ Some (2 * rank (unwrap_or (priority_of p.prios s) UserVisible) + cond t.continuation 1 0)
        by_priority None e x = absurd (false_true x)
        by_priority (Some q) e x =
            ap {A = Option Priority} {B = Option ℕ} (option_map (λ q. 2 * rank_of q + cond t.continuation 1 0)) (k s q e)
            ∙ (whole q ∙ sym (ap {A = Option Priority} {B = Option ℕ} (λ o. Some (2 * rank (unwrap_or o UserVisible) + cond t.continuation 1 0)) e))

pub leads-precedes : (p : Page) (past : History) (t u : SchedTask) → ((s : ℕ) (q : Priority) → priority_of p.prios s ≡ Some q → priority_now past s ≡ Some q) → HasPriority p.prios t.source → HasPriority p.prios u.source → LeadsIn p t u → precedes past (line_of t) (line_of u) ≡ true
leads-precedes p past t u k h j l =
    ap {A = Option ℕ} {B = Bool} (is_some_and (λ n. is_some_and (λ m. goes_first n t.order m u.order) (effective past (line_of u)))) (effective-told p past t k h)
    ∙ (ap {A = Option ℕ} {B = Bool} (is_some_and (λ m. goes_first (sched.effective p t) t.order m u.order)) (effective-told p past u k j) ∙ leads-first (sched.effective p t) t.order (sched.effective p u) u.order l)

-- the first task of a page is found in the lines
pub first-found : (p : Page) (past : History) (ts : List SchedTask) (t : SchedTask) → ((s : ℕ) (q : Priority) → priority_of p.prios s ≡ Some q → priority_now past s ≡ Some q) → Each (λ u. HasPriority p.prios u.source) ts → first_of p ts ≡ Some t
    → has_task (filter (λ u. (u.registration == t.registration) && list_all (precedes past u) (turned ts [])) (turned ts [])) ≡ true
first-found p past ts t k h e = by_test (has_task (filter (λ u. (u.registration == t.registration) && list_all (precedes past u) (turned ts [])) (turned ts []))) refl
  where
    all : (us : List SchedTask) → Each (LeadsIn p t) us → Each (λ u. HasPriority p.prios u.source) us → Each (λ u. precedes past (line_of t) (line_of u) ≡ true) us
    all [] x y = tt
    all (u ∷ us) x y = (leads-precedes p past t u k (first_of-has (λ u. HasPriority p.prios u.source) p ts t e h) y.0 x.0, all us x.1 y.1)

    passes : (t.registration == t.registration) && list_all (precedes past (line_of t)) (turned ts []) ≡ true
    passes = ap {A = Bool} {B = Bool} (λ b. b && list_all (precedes past (line_of t)) (turned ts [])) (eq-eqb t.registration t.registration refl) ∙ turned-all (precedes past (line_of t)) ts [] (all ts (first_of-leads p ts t e) h) refl

    by_test : (b : Bool) → has_task (filter (λ u. (u.registration == t.registration) && list_all (precedes past u) (turned ts [])) (turned ts [])) ≡ b → has_task (filter (λ u. (u.registration == t.registration) && list_all (precedes past u) (turned ts [])) (turned ts [])) ≡ true
    by_test true q = q
    by_test false q =
        let none = each-turned (λ u. (u.registration == t.registration) && list_all (precedes past u) (turned ts []) ≡ false) ts [] (no-task (λ u. (u.registration == t.registration) && list_all (precedes past u) (turned ts [])) (turned ts []) q) in
        absurd (true_false (sym passes ∙ first_of-has (λ u. (u.registration == t.registration) && list_all (precedes past (line_of u)) (turned ts []) ≡ false) p ts t e none.1))
