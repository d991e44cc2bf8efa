-- Counts of the hosts that were due and not dropped, line by line.
use Rattle.std.proofs.Common.{◌≡◌, ℕ, ◌≤◌, ◌+◌, Bool, true, false, List, [], ◌∷◌, ◌&&◌, ◌||◌, not, Option, Some, refl, sym, subst, ap, ◌∙◌, cond, length, arith}
use Rattle.std.proofs.lemmas.Bool.{eqb-true, eq-eqb, leb-false}
use Rattle.std.specs.Prelude.{◌==◌, filter}
use Rattle.page_types.specs.declared.RegKind.{RegKind}
use Rattle.page_types.specs.Events.{Event, Reg, Due, Drop}
use Rattle.page_laws.specs.History.{History, count_lines, has_kind, is_host, is_some_and, is_due_of, kind_in, kind_of, registered, registered_in, was_due, was_dropped}
use Rattle.page_laws.specs.CallLaws.{is_answer, due_hosts, dropped_due_hosts, answers_fit}
use Rattle.page_laws.proofs.Totals.{one_if, total}

-- ---- sums

pub count-total : {X : Type 0} (b : X → Bool) (xs : List X) → length (filter b xs) ≡ total (λ x. one_if (b x)) xs
count-total b [] = refl
count-total {X = X} b (x ∷ xs) = by_test (b x) (count-total b xs)
  where
    by_test : (c : Bool) → length (filter b xs) ≡ total (λ y. one_if (b y)) xs → length (cond c (x ∷ filter b xs) (filter b xs)) ≡ one_if c + total (λ y. one_if (b y)) xs
    by_test true e = omega (arith, e)
    by_test false e = omega (arith, e)

pub total-filter : {X : Type 0} (w : X → ℕ) (b : X → Bool) (xs : List X) → total w (filter b xs) ≡ total (λ x. cond (b x) (w x) 0) xs
total-filter w b [] = refl
total-filter {X = X} w b (x ∷ xs) = by_test (b x) (total-filter w b xs)
  where
    by_test : (c : Bool) → total w (filter b xs) ≡ total (λ y. cond (b y) (w y) 0) xs → total w (cond c (x ∷ filter b xs) (filter b xs)) ≡ cond c (w x) 0 + total (λ y. cond (b y) (w y) 0) xs
    by_test true e = omega (arith, e)
    by_test false e = omega (arith, e)

pub total-both : {X : Type 0} (f g h : X → ℕ) (xs : List X) → ((x : X) → f x + g x ≡ h x) → total f xs + total g xs ≡ total h xs
total-both f g h [] k = omega arith
total-both f g h (x ∷ xs) k = let e = total-both f g h xs k in let e1 = k x in omega (arith, e, e1)

pub total-most : {X : Type 0} (f g : X → ℕ) (xs : List X) → ((x : X) → f x ≤ g x) → total f xs ≤ total g xs
total-most f g [] k = omega arith
total-most f g (x ∷ xs) k = let e = total-most f g xs k in let e1 = k x in omega (arith, e, e1)

pub total-less : {X : Type 0} (f g h : X → ℕ) (xs : List X) → ((x : X) → f x ≤ g x + h x) → total f xs ≤ total g xs + total h xs
total-less f g h [] k = omega arith
total-less f g h (x ∷ xs) k = let e = total-less f g h xs k in let e1 = k x in omega (arith, e, e1)

pub total-more : {X : Type 0} (f g h : X → ℕ) (xs : List X) → ((x : X) → f x + h x ≤ g x) → total f xs + total h xs ≤ total g xs
total-more f g h [] k = omega arith
total-more f g h (x ∷ xs) k = let e = total-more f g h xs k in let e1 = k x in omega (arith, e, e1)

-- ---- the hosts that were due and not dropped

abbrev pub live_host : History → ℕ → Bool
live_host past r = has_kind is_host past r && (was_due past r && not (was_dropped past r))

abbrev pub live_hosts : History → ℕ
live_hosts past = total (λ r. one_if (live_host past r)) (registered past)

abbrev pub answers : History → ℕ
answers past = count_lines is_answer past

-- how often a number was registered
abbrev pub times : ℕ → History → ℕ
times r past = total (λ q. one_if (r == q)) (registered past)

-- how often a registration was due
abbrev pub dues : ℕ → History → ℕ
dues r past = count_lines (is_due_of r) past

-- with those that were due and dropped they are those that were due
split-hosts : (past : History) → length (dropped_due_hosts past) + live_hosts past ≡ length (due_hosts past)
split-hosts past =
    let host = has_kind is_host past in
    let due = was_due past in
    let gone = was_dropped past in
    let a = count-total gone (due_hosts past) in
    let b = total-filter (λ r. one_if (gone r)) due (filter host (registered past)) in
    let c = total-filter (λ r. cond (due r) (one_if (gone r)) 0) host (registered past) in
    let d = count-total due (filter host (registered past)) in
    let e = total-filter (λ r. one_if (due r)) host (registered past) in
    let f = total-both (λ r. cond (host r) (cond (due r) (one_if (gone r)) 0) 0) (λ r. one_if (host r && (due r && not (gone r)))) (λ r. cond (host r) (one_if (due r)) 0) (registered past) (λ r. by_tests (host r) (due r) (gone r)) in
    omega (arith, a, b, c, d, e, f)
  where
    by_tests : (p q s : Bool) → cond p (cond q (one_if s) 0) 0 + one_if (p && (q && not s)) ≡ cond p (one_if q) 0
    by_tests true true true = omega arith
    by_tests true true false = omega arith
    by_tests true false s = omega arith
    by_tests false q s = omega arith

-- the answers are no more than these
pub answers-pass : (past : History) (n : ℕ) → answers past + n ≤ live_hosts past → answers_fit past ≡ true
answers-pass past n le = by_test (answers_fit past) refl
  where
    by_test : (b : Bool) → answers_fit past ≡ b → answers_fit past ≡ true
    by_test true q = q
    by_test false q =
        let more = leb-false (answers past + length (dropped_due_hosts past)) (length (due_hosts past)) q in
        let e = split-hosts past in
        absurd (omega (arith, le, more, e))

-- ---- lines that change them

one_most : (b : Bool) → one_if b ≤ 1
one_most true = omega arith
one_most false = omega arith

-- a registration more: those before are live as they were
pub made-live : (r now : ℕ) (k : RegKind) (by : Option ℕ) (past : History) → times r past ≤ 0 → live_hosts past ≤ live_hosts (record { time = now; event = Reg r k by } ∷ past)
made-live r now k by past none =
    let a = total-less (λ q. one_if (live_host past q)) (λ q. one_if (is_some_and is_host (cond (r == q) (Some k) (kind_of past q)) && (was_due past q && not (was_dropped past q)))) (λ q. one_if (r == q)) (registered past) (λ q. by_tests (r == q) (kind_of past q) (was_due past q && not (was_dropped past q))) in
    omega (arith, a, none)
  where
    by_tests : (b : Bool) (o : Option RegKind) (m : Bool) → one_if (is_some_and is_host o && m) ≤ one_if (is_some_and is_host (cond b (Some k) o) && m) + one_if b
    by_tests true o m = let a = one_most (is_some_and is_host o && m) in omega (arith, a)
    by_tests false o m = omega arith

-- something is due
pub due-live : (r now : ℕ) (past : History) → live_hosts past ≤ live_hosts (record { time = now; event = Due r } ∷ past)
due-live r now past = total-most (λ q. one_if (live_host past q)) (λ q. one_if (has_kind is_host past q && (((r == q) || was_due past q) && not (was_dropped past q)))) (registered past) (λ q. by_tests (has_kind is_host past q) (r == q) (was_due past q) (not (was_dropped past q)))
  where
    by_tests : (h b d n : Bool) → one_if (h && (d && n)) ≤ one_if (h && ((b || d) && n))
    by_tests false b d n = omega arith
    by_tests true b false n = omega arith
    by_tests true true true n = omega arith
    by_tests true false true n = omega arith

-- a host is due for the first time, and was not dropped
pub host-live : (r now : ℕ) (past : History) → has_kind is_host past r ≡ true → was_due past r ≡ false → was_dropped past r ≡ false → live_hosts past + times r past ≤ live_hosts (record { time = now; event = Due r } ∷ past)
host-live r now past host not_yet stays =
    total-more (λ q. one_if (live_host past q)) (λ q. one_if (has_kind is_host past q && (((r == q) || was_due past q) && not (was_dropped past q)))) (λ q. one_if (r == q)) (registered past) (λ q. by_number q (r == q) refl)
  where
    by_tests : (h d n : Bool) → h ≡ true → d ≡ false → n ≡ false → one_if (h && (d && not n)) + 1 ≤ one_if (h && ((true || d) && not n))
    by_tests true false false x y z = omega arith
    by_tests true true n x y z = Prim.cc
    by_tests true false true x y z = Prim.cc
    by_tests false d n x y z = Prim.cc

    by_number : (q : ℕ) (b : Bool) → (r == q) ≡ b → one_if (live_host past q) + one_if b ≤ one_if (has_kind is_host past q && ((b || was_due past q) && not (was_dropped past q)))
    by_number q true e =
        subst (λ (n : ℕ). one_if (live_host past n) + 1 ≤ one_if (has_kind is_host past n && ((true || was_due past n) && not (was_dropped past n)))) (eqb-true r q e)
        (by_tests (has_kind is_host past r) (was_due past r) (was_dropped past r) host not_yet stays)
    by_number q false e = omega arith

-- a cancel takes one at most
pub drop-live : (r now : ℕ) (past : History) → live_hosts past ≤ live_hosts (record { time = now; event = Drop r } ∷ past) + times r past
drop-live r now past =
    total-less (λ q. one_if (live_host past q)) (λ q. one_if (has_kind is_host past q && (was_due past q && not ((r == q) || was_dropped past q)))) (λ q. one_if (r == q)) (registered past) (λ q. by_tests (has_kind is_host past q) (was_due past q) (r == q) (was_dropped past q))
  where
    by_tests : (h d b n : Bool) → one_if (h && (d && not n)) ≤ one_if (h && (d && not (b || n))) + one_if b
    by_tests h d true n = let a = one_most (h && (d && not n)) in omega (arith, a)
    by_tests h d false n = omega arith

-- and none where it was no host that was due and not dropped
pub drop-none : (r now : ℕ) (past : History) → live_host past r ≡ false → live_hosts past ≤ live_hosts (record { time = now; event = Drop r } ∷ past)
drop-none r now past none =
    total-most (λ q. one_if (live_host past q)) (λ q. one_if (has_kind is_host past q && (was_due past q && not ((r == q) || was_dropped past q)))) (registered past) (λ q. by_number q (r == q) refl)
  where
    by_number : (q : ℕ) (b : Bool) → (r == q) ≡ b → one_if (live_host past q) ≤ one_if (has_kind is_host past q && (was_due past q && not (b || was_dropped past q)))
    by_number q true e =
        let z : one_if (live_host past q) ≡ 0 = ap one_if (ap {A = ℕ} {B = Bool} (live_host past) (sym (eqb-true r q e)) ∙ none) in
        omega (arith, z)
    by_number q false e = omega arith

-- ---- registrations and due lines

pub times-more : (q r now : ℕ) (k : RegKind) (by : Option ℕ) (past : History) → times r (record { time = now; event = Reg q k by } ∷ past) ≡ one_if (r == q) + times r past
times-more q r now k by past = refl

-- a registration with a kind stands in the lines
pub kind-times : (past : History) (r : ℕ) (k : RegKind) → kind_of past r ≡ Some k → 1 ≤ times r past
kind-times [] r k h = Prim.cc
kind-times (e ∷ past) r k h = by_line e.event (kind-times past r k) h
  where
    by_test : (q : ℕ) (j : RegKind) (b : Bool) → (q == r) ≡ b → (kind_of past r ≡ Some k → 1 ≤ times r past) → cond b (Some j) (kind_of past r) ≡ Some k → 1 ≤ one_if (r == q) + times r past
    by_test q j true e rest h = let one : one_if (r == q) ≡ 1 = ap one_if (eq-eqb r q (sym (eqb-true q r e))) in omega (arith, one)
    by_test q j false e rest h = let le = rest h in omega (arith, le)

    by_line : (e : Event) → (kind_of past r ≡ Some k → 1 ≤ times r past) → kind_in r e (kind_of past r) ≡ Some k → 1 ≤ total (λ q. one_if (r == q)) (registered_in e (registered past))
    by_line (Reg q j by) rest h = by_test q j (q == r) refl rest h
    by_line e rest h = rest h

pub dues-more : (q r now : ℕ) (past : History) → dues r (record { time = now; event = Due q } ∷ past) ≡ one_if (q == r) + dues r past
dues-more q r now past = by_test (q == r)
  where
    others : History
    others = filter (λ e. is_due_of r e.event) past

    by_test : (b : Bool) → length (cond b (record { time = now; event = Due q } ∷ others) others) ≡ one_if b + length others
    by_test true = omega arith
    by_test false = omega arith

pub dues-none : (past : History) (r : ℕ) → dues r past ≤ 0 → was_due past r ≡ false
dues-none [] r h = refl
dues-none (e ∷ past) r h = by_test (is_due_of r e.event) h (dues-none past r)
  where
    others : History
    others = filter (λ e. is_due_of r e.event) past

    by_test : (b : Bool) → length (cond b (e ∷ others) others) ≤ 0 → (dues r past ≤ 0 → was_due past r ≡ false) → b || was_due past r ≡ false
    by_test true h rest = absurd (omega (arith, h))
    by_test false h rest = rest h
