-- When calls end: from the last line to the first, and not before they begin.
use Rattle.std.proofs.Common.{◌≡◌, ◌≤◌, ℕ, zero, suc, true, false, List, [], ◌∷◌, ◌++◌, get_or, refl, sym, ap, ◌∙◌, arith, append_assoc}
use Rattle.std.specs.Prelude.{IsTrue, ◌&&◌, not, nat_le}
use Rattle.std.proofs.lemmas.Bool.{false≢true}
use Rattle.std.proofs.lemmas.Bool.Decides.{nat_tests}
use Rattle.page_types.specs.Events.{Event, Call, Ret, Throw, EndLine, Stamped}
use Rattle.trace_text.specs.Trace.{is_end, are_in_order, ends, is_whole}
use Rattle.trace_text.proofs.Behind.{left, right, both}
use Rattle.trace_export.specs.Calls.{left_at, end_by, end_of}
use Rattle.trace_export.specs.Ends.{ends_of, Known, first_or, without_first, known_with}

-- ---- from the last line to the first

-- what is known of some last events
pub record IsKnown (tail : List Stamped) (known : Known) : Type 0 where
  pub ends : known.ends ≡ ends_of tail
  pub left : (n : ℕ) → end_of n tail ≡ get_or known.left n known.last

first_is : (ns : List ℕ) (d : ℕ) → get_or ns 0 d ≡ first_or d ns
first_is [] d = refl
first_is (n ∷ ns) d = refl

rest_is : (ns : List ℕ) (n d : ℕ) → get_or ns (suc n) d ≡ get_or (without_first ns) n d
rest_is [] n d = refl
rest_is (m ∷ ns) n d = refl

left_first : (n time : ℕ) (later : ℕ → ℕ) (ns : List ℕ) (d : ℕ) → ((m : ℕ) → later m ≡ get_or ns m d) → left_at n time later ≡ get_or (time ∷ ns) n d
left_first zero time later ns d known = refl
left_first (suc n) time later ns d known = known n

pub known_none : IsKnown [] (record { ends = []; left = []; last = 0 })
known_none = record { ends = refl; left = λ n. refl }

known_more : (event : Event) (time : ℕ) (tail : List Stamped) (known : Known) → IsKnown tail known → IsKnown (record { time = time; event = event } ∷ tail) (known_with event time known)
known_more (Call r) time tail known is = record {
  ends = ap (λ n. n ∷ known.ends) (sym (is.left 0 ∙ first_is known.left known.last)) ∙ ap (λ ns. end_of 0 tail ∷ ns) is.ends;
  left = λ n. is.left (suc n) ∙ rest_is known.left n known.last;
}
known_more Ret time tail known is = record { ends = is.ends; left = λ n. left_first n time (λ m. end_of m tail) known.left known.last is.left }
known_more (Throw v) time tail known is = record { ends = is.ends; left = λ n. left_first n time (λ m. end_of m tail) known.left known.last is.left }
known_more (EndLine end) time tail known is = record { ends = is.ends; left = λ n. refl }
known_more event time tail known is = record { ends = is.ends; left = is.left }

-- the last events behind those that are left
pub record IsBehind (all rest : List Stamped) (known : Known) : Type 0 where
  pub tail : List Stamped
  pub whole : all ≡ rest ++ tail
  pub is : IsKnown tail known

pub behind_more : (all rest before : List Stamped) (e : Stamped) (known : Known) → rest ≡ before ++ e ∷ [] → IsBehind all rest known → IsBehind all before (known_with e.event e.time known)
behind_more all rest before e known cut behind = record {
  tail = e ∷ behind.tail;
  whole = behind.whole ∙ ap (λ es. es ++ behind.tail) cut ∙ append_assoc before (e ∷ []) behind.tail;
  is = known_more e.event e.time behind.tail known behind.is;
}

pub behind_all : (all : List Stamped) (known : Known) → IsBehind all [] known → known.ends ≡ ends_of all
behind_all all known behind = behind.is.ends ∙ ap ends_of (sym behind.whole)

-- ---- no call ends before it begins

late_by : (event : Event) (n time from : ℕ) (later : ℕ → ℕ) → from ≤ time → (is_end event ≡ false → (m : ℕ) → from ≤ later m) → from ≤ end_by event n time later
late_by (Call r) n time from later here more = more refl (suc n)
late_by Ret zero time from later here more = here
late_by Ret (suc n) time from later here more = more refl n
late_by (Throw v) zero time from later here more = here
late_by (Throw v) (suc n) time from later here more = more refl n
late_by (EndLine end) n time from later here more = here
late_by event n time from later here more = more refl n

pub whole_behind : (e next : Stamped) (es : List Stamped) → IsTrue (is_whole (e ∷ next ∷ es)) → IsTrue (is_whole (next ∷ es))
whole_behind e next es whole =
    both (are_in_order (next ∷ es)) (ends (next ∷ es))
    (right (not (is_end e.event) && nat_le e.time next.time) (are_in_order (next ∷ es)) (left (are_in_order (e ∷ next ∷ es)) (ends (next ∷ es)) whole))
    (right (are_in_order (e ∷ next ∷ es)) (ends (next ∷ es)) whole)

later_order : (a b c : ℕ) → nat_le a b ≡ true → b ≤ c → a ≤ c
later_order a b c h k = grind (arith, nat_tests)

pub first_order : (e next : Stamped) (es : List Stamped) → IsTrue (is_whole (e ∷ next ∷ es)) → nat_le e.time next.time ≡ true
first_order e next es whole =
    right (not (is_end e.event)) (nat_le e.time next.time)
    (left (not (is_end e.event) && nat_le e.time next.time) (are_in_order (next ∷ es)) (left (are_in_order (e ∷ next ∷ es)) (ends (next ∷ es)) whole))

-- a call that is open before some events ends with the first of them, or later
pub late : (es : List Stamped) (e : Stamped) → IsTrue (is_whole (e ∷ es)) → (n : ℕ) → e.time ≤ end_of n (e ∷ es)
late [] e whole n = late_by e.event n e.time e.time (λ m. end_of m []) (omega arith) (λ not m. absurd (false≢true (sym not ∙ whole)))
late (next ∷ es) e whole n =
    late_by e.event n e.time e.time (λ m. end_of m (next ∷ es)) (omega arith)
    (λ not_end m. later_order e.time next.time (end_of m (next ∷ es)) (first_order e next es whole) (late es next (whole_behind e next es whole) m))

-- and so does one that begins just before them
pub late_call : (e next : Stamped) (es : List Stamped) → IsTrue (is_whole (e ∷ next ∷ es)) → e.time ≤ end_of 0 (next ∷ es)
late_call e next es whole = later_order e.time next.time (end_of 0 (next ∷ es)) (first_order e next es whole) (late es next (whole_behind e next es whole) 0)
