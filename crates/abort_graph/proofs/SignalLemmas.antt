-- The signals of the code at their numbers.
use Rattle.std.proofs.Common.{◌≡◌, ℕ, zero, suc, add-one, ◌-◌, ◌+◌, ◌<◌, ◌≤◌, List, [], ◌∷◌, ◌++◌, length, take, None, Some, Result, Ok, Err, OnErr, get_or, slice_set, slice_index_or, refl, sym, ap, ◌∙◌, arith}
use Rattle.std.specs.Prelude.{slice_get, unwrap_or, ◌==◌}
use Rattle.std.specs.Option.{option_map}
use Rattle.std.proofs.Common.{◌⊎◌, inl, inr}
use Rattle.std.proofs.lemmas.Bool.{cases_lt}
use Rattle.std.proofs.lemmas.Option.{slice_get-map, slice_get_read, slice_get_past}
use Rattle.std.proofs.lemmas.List.{map-set, map-append, set_past, length-map, take_more}
use Rattle.std.proofs.Math.Seq.{map-set_same}
use Rattle.page_parts.specs.Words.{with_numbered, and_last, without}
use Rattle.page_parts.specs.AbortGraph as parts
use Rattle.page_parts.specs.AbortGraph.{SignalRecord, Signals, fresh_signal, the_signal}
use Rattle.abort_graph.specs.declared.signal.Signal.{Signal}
use Rattle.abort_graph.specs.Seen.{signal_seen, signals_of}
use Rattle.abort_graph.specs.Dependents.{new_signal}

-- what an error leaves
pub leaves : {T E P : Type 0} (r : Result T E) → P → OnErr r P
leaves (Ok x) p = tt
leaves (Err e) p = p

-- the signal that is read at the place of its number
pub signal_there : {R : Type 0} (ss : List (Signal R)) (s i : ℕ) (r : Signal R) → s ≡ i + 1 → slice_get ss i ≡ Some r → the_signal (signals_of ss) s ≡ signal_seen r
signal_there ss s i r at found =
    ap (the_signal (signals_of ss)) (at ∙ add-one i)
    ∙ ap (λ o. unwrap_or o fresh_signal) (slice_get-map signal_seen ss i ∙ ap (option_map signal_seen) found)

pub signal_read : {R : Type 0} (ss : List (Signal R)) (s i : ℕ) (r : Signal R) → s ≡ i + 1 → i < length ss → r ≡ slice_index_or ss i r → the_signal (signals_of ss) s ≡ signal_seen r
signal_read ss s i r at within read = signal_there ss s i r at (slice_get_read ss (length ss) i r refl within read)

-- where no signal is there
pub signal_absent : {R : Type 0} (ss : List (Signal R)) (s : ℕ) → (1 ≤ s → length ss < s) → the_signal (signals_of ss) s ≡ fresh_signal
signal_absent ss zero past = refl
signal_absent ss (suc n) past =
    ap (λ o. unwrap_or o fresh_signal) (slice_get-map signal_seen ss n ∙ ap (option_map signal_seen) (slice_get_past ss n (omega (arith, past (omega arith)))))

-- nothing is written where no signal is
pub nothing_written : {R : Type 0} (ss : List (Signal R)) (s : ℕ) (q : SignalRecord R) → (1 ≤ s → length ss < s) → signals_of ss ≡ with_numbered (signals_of ss) s q
nothing_written ss zero q past = refl
nothing_written ss (suc n) q past = sym (set_past (signals_of ss) n q (omega (arith, past (omega arith), length-map ss signal_seen)))

-- a signal is changed at its place
pub changed : {R : Type 0} (f : SignalRecord R → SignalRecord R) (ss : List (Signal R)) (s i : ℕ) (r new : Signal R) → s ≡ i + 1 → i < length ss → r ≡ slice_index_or ss i r
    → signal_seen new ≡ f (signal_seen r) → signals_of (slice_set ss i new) ≡ with_numbered (signals_of ss) s (f (the_signal (signals_of ss) s))
changed f ss s i r new at within read made =
    let known = signal_there ss s i r at (slice_get_read ss (length ss) i r refl within read) in
    map-set signal_seen ss i new ∙ ap (slice_set (signals_of ss) i) (made ∙ ap f (sym known))
    ∙ sym (ap (λ n. with_numbered (signals_of ss) n (f (the_signal (signals_of ss) s))) (at ∙ add-one i))

-- a signal that is seen as the one that stood there leaves all as it was
pub same_there : {R : Type 0} (ss : List (Signal R)) (i : ℕ) (r new : Signal R) → r ≡ slice_index_or ss i r → signal_seen new ≡ signal_seen r → signals_of (slice_set ss i new) ≡ signals_of ss
same_there ss i r new is same = map-set_same signal_seen ss i new r (same ∙ ap signal_seen is)

-- ---- a dependent signal joins, and leaves

-- the last dependent signal leaves
abbrev pub without_last : {R : Type 0} → SignalRecord R → SignalRecord R
without_last q = record q { dependents = take (length q.dependents - 1) q.dependents }

abbrev pub with_last : {R : Type 0} → ℕ → SignalRecord R → SignalRecord R
with_last d q = record q { dependents = and_last q.dependents d }

long_by_one : {X : Type 0} (xs : List X) (x : X) → length (xs ++ x ∷ []) ≡ suc (length xs)
long_by_one [] x = refl
long_by_one (y ∷ ys) x = ap suc (long_by_one ys x)

take_front : {X : Type 0} (xs : List X) (x : X) → take (length xs) (xs ++ x ∷ []) ≡ xs
take_front [] x = refl
take_front (y ∷ ys) x = ap (λ rest. y ∷ rest) (take_front ys x)

take_most : {X : Type 0} (xs : List X) (x : X) → take (length (xs ++ x ∷ []) - 1) (xs ++ x ∷ []) ≡ xs
take_most xs x = let n : length (xs ++ x ∷ []) - 1 ≡ length xs = omega (arith, long_by_one xs x) in ap (λ k. take k (xs ++ x ∷ [])) n ∙ take_front xs x

seen_take : {R : Type 0} (n : ℕ) (ss : List (Signal R)) → signals_of (take n ss) ≡ take n (signals_of ss)
seen_take zero ss = refl
seen_take (suc n) [] = refl
seen_take (suc n) (s ∷ ss) = ap (λ rest. signal_seen s ∷ rest) (seen_take n ss)

-- a signal comes last
pub last_put : {R : Type 0} (ss new : List (Signal R)) (x : Signal R) (q : SignalRecord R) (old : Signals R) → new ≡ ss ++ x ∷ [] → signal_seen x ≡ q → signals_of ss ≡ old → signals_of new ≡ and_last old q
last_put ss new x q old is seen view =
    ap signals_of is ∙ map-append signal_seen ss (x ∷ []) ∙ ap (λ p. signals_of ss ++ p ∷ []) seen ∙ ap (λ before. before ++ q ∷ []) view

-- the last signal leaves
pub last_left : {R : Type 0} (ss new : List (Signal R)) (old : Signals R) (q : SignalRecord R) → signals_of ss ≡ and_last old q → new ≡ take (length ss - 1) ss → signals_of new ≡ old
last_left ss new old q last is =
    ap signals_of is ∙ seen_take (length ss - 1) ss ∙ ap (λ n. take (n - 1) (signals_of ss)) (sym (length-map ss signal_seen))
    ∙ ap (λ xs. take (length xs - 1) xs) last ∙ take_most old q

set_over : {X : Type 0} (xs : List X) (i : ℕ) (x y : X) → slice_set (slice_set xs i x) i y ≡ slice_set xs i y
set_over [] i x y = refl
set_over (z ∷ zs) zero x y = refl
set_over (z ∷ zs) (suc i) x y = ap (λ rest. z ∷ rest) (set_over zs i x y)

set_own : {X : Type 0} (xs : List X) (i : ℕ) (d : X) → slice_set xs i (unwrap_or (slice_get xs i) d) ≡ xs
set_own [] i d = refl
set_own (z ∷ zs) zero d = refl
set_own (z ∷ zs) (suc i) d = ap (λ rest. z ∷ rest) (set_own zs i d)

get_set : {X : Type 0} (xs : List X) (i : ℕ) (x d : X) → i < length xs → unwrap_or (slice_get (slice_set xs i x) i) d ≡ x
get_set [] i x d within = absurd (omega (arith, within))
get_set (z ∷ zs) zero x d within = refl
get_set (z ∷ zs) (suc i) x d within = get_set zs i x d (omega (arith, within))

-- who joined last leaves, and all is as it was
pub left_again : {R : Type 0} (ss joined : Signals R) (s d : ℕ) → joined ≡ with_numbered ss s (with_last d (the_signal ss s))
    → with_numbered joined s (without_last (the_signal joined s)) ≡ ss
left_again ss joined zero d is = is
left_again ss joined (suc n) d is = by (cases_lt n (length ss))
  where
    by : (n < length ss) ⊎ (length ss ≤ n) → with_numbered joined (suc n) (without_last (the_signal joined (suc n))) ≡ ss
    by (inr past) =
        let unchanged : joined ≡ ss = is ∙ set_past ss n _ past in
        ap (λ x. with_numbered x (suc n) (without_last (the_signal x (suc n)))) unchanged ∙ set_past ss n _ past
    by (inl within) =
        let there : the_signal joined (suc n) ≡ with_last d (the_signal ss (suc n)) = ap (λ x. the_signal x (suc n)) is ∙ get_set ss n _ _ within in
        let back : without_last (the_signal joined (suc n)) ≡ the_signal ss (suc n) =
        ap without_last there ∙ ap (λ ds. record (the_signal ss (suc n)) { dependents = ds }) (take_most (the_signal ss (suc n)).dependents d) in
        ap (with_numbered joined (suc n)) back ∙ ap (λ x. with_numbered x (suc n) (the_signal ss (suc n))) is ∙ set_over ss n _ _ ∙ set_own ss n fresh_signal

-- one more source
pub with_dependent-last : {R : Type 0} (d : ℕ) (xs : List ℕ) (x : ℕ) (ss : Signals R)
    → parts.with_dependent d (xs ++ x ∷ []) ss ≡ with_numbered (parts.with_dependent d xs ss) x (with_last d (the_signal (parts.with_dependent d xs ss) x))
with_dependent-last d [] x ss = refl
with_dependent-last d (y ∷ xs) x ss = with_dependent-last d xs x _

-- a signal that was put last has joined its sources
pub last_joined : {R : Type 0} (n : ℕ) (sources kept : List ℕ) (old put new : Signals R) → n ≡ length old + 1 → kept ≡ sources
    → put ≡ and_last old (new_signal None kept) → new ≡ parts.with_dependent n sources put → new ≡ parts.depend_on sources old
last_joined n sources kept old put new number same is joined =
    let last : Signals _ = and_last old (new_signal None sources) in
    let count : n ≡ length last = omega (arith, number, long_by_one old (new_signal None sources)) in
    joined ∙ ap (parts.with_dependent n sources) (is ∙ ap (λ ns. and_last old (new_signal None ns)) same) ∙ ap (λ m. parts.with_dependent m sources last) count

-- ---- the loops

-- one more source was joined
pub joined_more : {R : Type 0} (d i x : ℕ) (sources : List ℕ) (before now new : Signals R) → i < length sources → x ≡ get_or sources i 0
    → now ≡ parts.with_dependent d (take i sources) before → new ≡ with_numbered now x (with_last d (the_signal now x))
    → new ≡ parts.with_dependent d (take (i + 1) sources) before
joined_more d i x sources before now new within at is made =
    made ∙ ap (λ ss. with_numbered ss x (with_last d (the_signal ss x))) is
    ∙ sym (ap (λ xs. parts.with_dependent d xs before) (take_more sources i 0 within ∙ ap (λ y. take i sources ++ y ∷ []) (sym at)) ∙ with_dependent-last d (take i sources) x before)

-- one more source was left
pub left_more : {R : Type 0} (d left x : ℕ) (sources : List ℕ) (before now new : Signals R) → 0 < left → left ≤ length sources → x ≡ get_or sources (left - 1) 0
    → now ≡ parts.with_dependent d (take left sources) before → new ≡ with_numbered now x (without_last (the_signal now x))
    → new ≡ parts.with_dependent d (take (left - 1) sources) before
left_more d left x sources before now new some within at is made =
    let again : left - 1 + 1 ≡ left = omega (arith, some) in
    let less : left - 1 < length sources = omega (arith, some, within) in
    let joined : now ≡ with_numbered (parts.with_dependent d (take (left - 1) sources) before) x (with_last d (the_signal (parts.with_dependent d (take (left - 1) sources) before) x)) =
    is ∙ ap (λ k. parts.with_dependent d (take k sources) before) (sym again) ∙ ap (λ xs. parts.with_dependent d xs before) (take_more sources (left - 1) 0 less ∙ ap (λ y. take (left - 1) sources ++ y ∷ []) (sym at))
    ∙ with_dependent-last d (take (left - 1) sources) x before in
    made ∙ left_again (parts.with_dependent d (take (left - 1) sources) before) now x d joined

-- ---- what the calls do to one signal

abbrev pub with_more : {R : Type 0} → ℕ → SignalRecord R → SignalRecord R
with_more a q = record q { algorithms = and_last q.algorithms a }

abbrev pub with_less : {R : Type 0} → ℕ → SignalRecord R → SignalRecord R
with_less a q = record q { algorithms = without (λ b. b == a) q.algorithms }

abbrev pub with_none : {R : Type 0} → SignalRecord R → SignalRecord R
with_none q = record q { algorithms = [] }

abbrev pub with_the_reason : {R : Type 0} → R → SignalRecord R → SignalRecord R
with_the_reason v q = record q { reason = Some v }
