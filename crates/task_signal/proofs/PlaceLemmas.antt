-- Where the record of a signal is.
use Rattle.std.proofs.Common.{◌≡◌, ℕ, suc, ◌<◌, Bool, true, false, cond, List, [], ◌∷◌, ◌++◌, length, Option, Some, None, is_some, eqb, nat_eq, get_or, slice_set, refl, sym, ap, ◌∙◌, arith}
use Rattle.std.specs.List.{AllByRecursion, IsDistinct, list_any}
use Rattle.std.specs.Option.{option_map}
use Rattle.std.proofs.lemmas.Map.Keys.{IsDistinct-head, IsDistinct-tail}
use Rattle.page_parts.specs.TaskSignals.{PrioRecord, Prios, record_of, changed_at}
use Rattle.task_signal.specs.Places.{place_in, signals}

-- the record at the place of a signal is its record
pub found : (s i : ℕ) (ps : Prios) → place_in (signals ps) s ≡ Some i → (i < length ps) × ((d : PrioRecord) → record_of ps s ≡ Some (get_or ps i d))
found s i [] h = cc
found s i (r ∷ ps) h = by (λ j p. found s j ps p) (eqb r.signal s) refl (place_in (signals ps) s) refl h
  where
    by : ((j : ℕ) → place_in (signals ps) s ≡ Some j → (j < length ps) × ((d : PrioRecord) → record_of ps s ≡ Some (get_or ps j d)))
        → (b : Bool) → eqb r.signal s ≡ b → (o : Option ℕ) → place_in (signals ps) s ≡ o → cond b (Some 0) (option_map suc o) ≡ Some i
        → (i < length (r ∷ ps)) × ((d : PrioRecord) → record_of (r ∷ ps) s ≡ Some (get_or (r ∷ ps) i d))
    by again true e o p h = let z : i ≡ 0 = cc in (rw z (omega arith), λ d. rw (z, e) refl)
    by again false e None p h = cc
    by again false e (Some j) p h =
        let z : i ≡ suc j = cc in
        let rest = again j p in
        (rw z (omega (arith, rest.0)), λ d. rw (z, e) (rest.1 d))

-- a signal with no place has no record
pub missing : (s : ℕ) (ps : Prios) → place_in (signals ps) s ≡ None → record_of ps s ≡ None
missing s [] h = refl
missing s (r ∷ ps) h = by (missing s ps) (eqb r.signal s) refl (place_in (signals ps) s) refl h
  where
    by : (place_in (signals ps) s ≡ None → record_of ps s ≡ None)
        → (b : Bool) → eqb r.signal s ≡ b → (o : Option ℕ) → place_in (signals ps) s ≡ o → cond b (Some 0) (option_map suc o) ≡ None → record_of (r ∷ ps) s ≡ None
    by again true e o p h = cc
    by again false e None p h = rw e (again p)
    by again false e (Some j) p h = cc

-- who has a record has a place
pub has_place : (s : ℕ) (ps : Prios) → is_some (option_map (λ (r : PrioRecord). r.priority) (record_of ps s)) ≡ true → is_some (place_in (signals ps) s) ≡ true
has_place s ps h = by (place_in (signals ps) s) refl
  where
    by : (o : Option ℕ) → place_in (signals ps) s ≡ o → is_some o ≡ true
    by (Some i) e = refl
    by None e = let none = missing s ps e in cc

-- a change at a signal that none of the records has changes nothing
changed_nowhere : (s : ℕ) (f : PrioRecord → PrioRecord) (ps : Prios) → place_in (signals ps) s ≡ None → changed_at s f ps ≡ ps
changed_nowhere s f [] h = refl
changed_nowhere s f (r ∷ ps) h = by (changed_nowhere s f ps) (eqb r.signal s) refl (place_in (signals ps) s) refl h
  where
    by : (place_in (signals ps) s ≡ None → changed_at s f ps ≡ ps)
        → (b : Bool) → eqb r.signal s ≡ b → (o : Option ℕ) → place_in (signals ps) s ≡ o → cond b (Some 0) (option_map suc o) ≡ None → changed_at s f (r ∷ ps) ≡ r ∷ ps
    by again true e o p h = cc
    by again false e None p h = rw e (ap (λ rest. r ∷ rest) (again p))
    by again false e (Some j) p h = cc

none_later : (s m : ℕ) (ms : List ℕ) → eqb m s ≡ true → AllByRecursion (λ y. nat_eq m y ≡ false) ms → place_in ms s ≡ None
none_later s m [] e apart = refl
none_later s m (n ∷ ms) e apart =
    let other : eqb n s ≡ false = grind (arith, e, apart.0) in
    rw (other, none_later s m ms e apart.1) refl

-- a change at a signal changes the record at its place
pub changed_there : (s i : ℕ) (f : PrioRecord → PrioRecord) (ps : Prios) (d : PrioRecord) → place_in (signals ps) s ≡ Some i → IsDistinct nat_eq (signals ps)
    → slice_set ps i (f (get_or ps i d)) ≡ changed_at s f ps
changed_there s i f [] d h apart = cc
changed_there s i f (r ∷ ps) d h apart =
    by (λ j p. changed_there s j f ps d p (IsDistinct-tail nat_eq r.signal (signals ps) apart)) (eqb r.signal s) refl (place_in (signals ps) s) refl h
  where
    by : ((j : ℕ) → place_in (signals ps) s ≡ Some j → slice_set ps j (f (get_or ps j d)) ≡ changed_at s f ps)
        → (b : Bool) → eqb r.signal s ≡ b → (o : Option ℕ) → place_in (signals ps) s ≡ o → cond b (Some 0) (option_map suc o) ≡ Some i
        → slice_set (r ∷ ps) i (f (get_or (r ∷ ps) i d)) ≡ changed_at s f (r ∷ ps)
    by again true e o p h =
        let z : i ≡ 0 = cc in
        let none = none_later s r.signal (signals ps) e (IsDistinct-head nat_eq r.signal (signals ps) apart) in
        rw (z, e, changed_nowhere s f ps none) refl
    by again false e None p h = cc
    by again false e (Some j) p h =
        let z : i ≡ suc j = cc in
        rw (z, e) (ap (λ rest. r ∷ rest) (again j p))

pub unchanged : (s : ℕ) (f : PrioRecord → PrioRecord) (ps : Prios) → place_in (signals ps) s ≡ None → ps ≡ changed_at s f ps
unchanged s f ps h = sym (changed_nowhere s f ps h)

-- a change that keeps the signals keeps their places
pub signals_kept : (s : ℕ) (f : PrioRecord → PrioRecord) → ((r : PrioRecord) → (f r).signal ≡ r.signal) → (ps : Prios) → signals (changed_at s f ps) ≡ signals ps
signals_kept s f keeps [] = refl
signals_kept s f keeps (r ∷ ps) = by (signals_kept s f keeps ps) (eqb r.signal s)
  where
    by : signals (changed_at s f ps) ≡ signals ps → (b : Bool) → (cond b (f r) r).signal ∷ signals (changed_at s f ps) ≡ r.signal ∷ signals ps
    by again true = rw (keeps r) (ap (λ ms. r.signal ∷ ms) again)
    by again false = ap (λ ms. r.signal ∷ ms) again

-- a new signal at the end
pub place_of_last : (q s : ℕ) (ms : List ℕ) → place_in ms s ≡ None → place_in (ms ++ s ∷ []) q ≡ cond (eqb s q) (Some (length ms)) (place_in ms q)
place_of_last q s [] h = refl
place_of_last q s (m ∷ ms) h = by (place_of_last q s ms) (eqb m s) refl (place_in ms s) refl h
  where
    by : (place_in ms s ≡ None → place_in (ms ++ s ∷ []) q ≡ cond (eqb s q) (Some (length ms)) (place_in ms q))
        → (b : Bool) → eqb m s ≡ b → (o : Option ℕ) → place_in ms s ≡ o → cond b (Some 0) (option_map suc o) ≡ None
        → place_in (m ∷ ms ++ s ∷ []) q ≡ cond (eqb s q) (Some (length (m ∷ ms))) (place_in (m ∷ ms) q)
    by again true e o p h = cc
    by again false e (Some j) p h = cc
    by again false e None p h = last (again p) (eqb s q) refl (eqb m q) refl
      where
        last : place_in (ms ++ s ∷ []) q ≡ cond (eqb s q) (Some (length ms)) (place_in ms q)
            → (b : Bool) → eqb s q ≡ b → (c : Bool) → eqb m q ≡ c
            → cond c (Some 0) (option_map suc (place_in (ms ++ s ∷ []) q)) ≡ cond b (Some (suc (length ms))) (cond c (Some 0) (option_map suc (place_in ms q)))
        last rest true x true y = let never : ⊥ = grind (arith, x, y, e) in absurd never
        last rest true x false y = ap (option_map suc) (rest ∙ ap (λ b. cond b (Some (length ms)) (place_in ms q)) x)
        last rest false x true y = refl
        last rest false x false y = ap (option_map suc) (rest ∙ ap (λ b. cond b (Some (length ms)) (place_in ms q)) x)

pub distinct_last : (s : ℕ) (ms : List ℕ) → place_in ms s ≡ None → list_any (nat_eq s) ms ≡ false
distinct_last s [] h = refl
distinct_last s (m ∷ ms) h = by (distinct_last s ms) (eqb m s) refl (place_in ms s) refl h
  where
    by : (place_in ms s ≡ None → list_any (nat_eq s) ms ≡ false)
        → (b : Bool) → eqb m s ≡ b → (o : Option ℕ) → place_in ms s ≡ o → cond b (Some 0) (option_map suc o) ≡ None → list_any (nat_eq s) (m ∷ ms) ≡ false
    by again true e o p h = cc
    by again false e (Some j) p h = cc
    by again false e None p h =
        let other : nat_eq s m ≡ false = grind (arith, e) in
        rw other (again p)

-- who has no record has no place
pub has_none : (s : ℕ) (ps : Prios) → option_map (λ (r : PrioRecord). r.priority) (record_of ps s) ≡ None → place_in (signals ps) s ≡ None
has_none s ps h = by (place_in (signals ps) s) refl
  where
    by : (o : Option ℕ) → place_in (signals ps) s ≡ o → o ≡ None
    by None e = refl
    by (Some i) e = there ps e h
      where
        there : (ps : Prios) → place_in (signals ps) s ≡ Some i → option_map (λ (r : PrioRecord). r.priority) (record_of ps s) ≡ None → Some i ≡ None
        there [] e h = cc
        there (r ∷ ps) e h = let is = (found s i (r ∷ ps) e).1 r in cc
