-- Items by place, and their index.
use Rattle.std.proofs.Common.{◌≡◌, ℕ, ◌<◌, ◌+◌, Bool, true, false, cond, not, ◌||◌, List, [], ◌∷◌, ◌++◌, filter, length, Option, Some, None, eqb, refl, sym, ap, subst, ◌∙◌, arith, nat_cmp}
use Rattle.std.proofs.lemmas.Bool.Decides.{nat_tests}
use Rattle.std.proofs.lemmas.Map.Keys.{sorted_head, sorted_tail}
use Rattle.std.specs.BTreeMap.{BTreeMap, get, is_at, insert_entry}
use Rattle.std.specs.List.{AllByRecursion}
use Rattle.std.specs.Map.{keys_of, lookup, remove_entry}
use Rattle.std.specs.Option.{IsSome, IfSome, IfNone, option_map}
use Rattle.std.specs.Ordering.{is_eq}
use Rattle.std.specs.declared.alloc.Global.{Global}
use Rattle.std.specs.declared.cmp.Ordering.TheVariants.{Greater, Less}
use Rattle.std.specs.declared.vec.Vec.{Vec}
use Rattle.page_parts.specs.Words.{and_last, is_empty, has_number}
use Rattle.keyed_list.specs.declared.keyed.Keyed.{Keyed}
use Rattle.keyed_list.specs.declared.keyed.Taken.{Taken}
use Rattle.keyed_list.specs.Listed.{keys_in, places_in, places_of, others, AreBelow, AreOrdered, ArePlaces, AddsPlace, DropsPlace, remove_each}

-- the order of numbers finds equal ones
pub number_same : (a b : ℕ) → is_eq (nat_cmp a b) ≡ eqb a b
number_same a b = grind (arith, nat_tests)

-- ---- entries of a map

greater_is : (a b : ℕ) → a < b → nat_cmp b a ≡ Greater
greater_is a b h = grind (arith, h)

not_at : (a b : ℕ) → a < b → is_at (nat_cmp b) a ≡ false
not_at a b h = ap is_eq (greater_is a b h)

apart : (a b : ℕ) → nat_cmp a b ≡ Less → is_at (nat_cmp b) a ≡ false
apart a b h = let g : nat_cmp b a ≡ Greater = grind (arith, h) in ap is_eq g

is_here : (a : ℕ) → is_at (nat_cmp a) a ≡ true
is_here a = grind (arith, nat_tests)

module _ {X : Type 0} where
  -- an entry behind all others
  pub insert_last : (es : List (ℕ × X)) (s : ℕ) (x : X) → AllByRecursion (λ (e : ℕ × X). e.0 < s) es → insert_entry nat_cmp es s x ≡ es ++ (s, x) ∷ []
  insert_last [] s x below = refl
  insert_last (e ∷ es) s x below = rw (greater_is e.0 s below.0) (ap (λ rest. e ∷ rest) (insert_last es s x below.1))

  -- it leaves again
  pub remove_last : (es : List (ℕ × X)) (s : ℕ) (x : X) → AllByRecursion (λ (e : ℕ × X). e.0 < s) es → remove_entry (is_at (nat_cmp s)) (es ++ (s, x) ∷ []) ≡ es
  remove_last [] s x below = rw (is_here s) refl
  remove_last (e ∷ es) s x below = rw (not_at e.0 s below.0) (ap (λ rest. e ∷ rest) (remove_last es s x below.1))

  -- entries with later places leave the first one
  passed : (e : ℕ × X) (es : List (ℕ × X)) (ks : List ℕ) → AllByRecursion (λ k. nat_cmp e.0 k ≡ Less) ks → remove_each ks (e ∷ es) ≡ e ∷ remove_each ks es
  passed e es [] later = refl
  passed e es (k ∷ ks) later = rw (apart e.0 k later.0) (passed e (remove_entry (is_at (nat_cmp k)) es) ks later.1)

-- no item, by the length
pub empty_len : (n : ℕ) (xs : List ℕ) → n ≡ length xs → eqb n 0 ≡ is_empty xs
empty_len n [] h = rw h refl
empty_len n (x ∷ xs) h = grind (arith, h)

-- all of a list are, so its last one is
last_is : (P : ℕ → Type 0) (ks : List ℕ) (p : ℕ) → AllByRecursion P (and_last ks p) → P p
last_is P [] p all = all.0
last_is P (k ∷ ks) p all = last_is P ks p all.1

-- what stands before one last number is one list
same_front : (p : ℕ) (xs ys : List ℕ) → and_last xs p ≡ and_last ys p → xs ≡ ys
same_front p [] [] h = refl
same_front p [] (y ∷ []) h = cc
same_front p [] (y ∷ z ∷ ys) h = cc
same_front p (x ∷ []) [] h = cc
same_front p (x ∷ z ∷ xs) [] h = cc
same_front p (x ∷ xs) (y ∷ ys) h =
    let head : x ≡ y = cc in
    let tail : and_last xs p ≡ and_last ys p = cc in
    ap (λ z. z ∷ xs) head ∙ ap (λ zs. y ∷ zs) (same_front p xs ys tail)

-- and what comes last
same_last : (xs ys : List ℕ) (a b : ℕ) → and_last xs a ≡ and_last ys b → a ≡ b
same_last [] [] a b h = cc
same_last [] (y ∷ []) a b h = cc
same_last [] (y ∷ z ∷ ys) a b h = cc
same_last (x ∷ []) [] a b h = cc
same_last (x ∷ z ∷ xs) [] a b h = cc
same_last (x ∷ xs) (y ∷ ys) a b h = let tail : and_last xs a ≡ and_last ys b = cc in same_last xs ys a b tail

has_some : (ks : List ℕ) (p : ℕ) → not (is_empty (and_last ks p)) ≡ true
has_some [] p = refl
has_some (k ∷ ks) p = refl

never_none : (ks : List ℕ) (p : ℕ) → and_last ks p ≡ [] → ⊥
never_none [] p h = cc
never_none (k ∷ ks) p h = cc

-- ---- the index by keys

-- what it had of a key that lost its last place
pub dropped_is : (key p : ℕ) (old new : BTreeMap ℕ (Vec ℕ Global)) → DropsPlace key p old new → places_of old key ≡ and_last (places_of new key) p
dropped_is key p old new drops =
    let same : eqb key key ≡ true = grind (arith, nat_tests) in
    drops key ∙ ap (λ b. cond b (and_last (places_of new key) p) (places_of new key)) same

-- ---- items

module _ {T : Type 0} where
  -- an item behind all others
  places_last : (es : List (ℕ × Keyed T)) (s : ℕ) (l : Keyed T) (r : ℕ)
      → places_in (es ++ (s, l) ∷ []) r ≡ cond (eqb l.key r) (and_last (places_in es r) s) (places_in es r)
  places_last [] s l r = by (eqb l.key r)
    where
      by : (b : Bool) → keys_of (cond b ((s, l) ∷ []) []) ≡ cond b (s ∷ []) []
      by true = refl
      by false = refl
  places_last (e ∷ es) s l r = by (eqb e.1.key r) (eqb l.key r) (places_last es s l r)
    where
      rest : List (ℕ × Keyed T)
      rest = filter (λ (e : ℕ × Keyed T). eqb e.1.key r) (es ++ (s, l) ∷ [])

      own : List (ℕ × Keyed T)
      own = filter (λ (e : ℕ × Keyed T). eqb e.1.key r) es

      by : (b c : Bool) → keys_of rest ≡ cond c (and_last (keys_of own) s) (keys_of own)
          → keys_of (cond b (e ∷ rest) rest) ≡ cond c (and_last (keys_of (cond b (e ∷ own) own)) s) (keys_of (cond b (e ∷ own) own))
      by true true h = ap (λ ks. e.0 ∷ ks) h
      by true false h = ap (λ ks. e.0 ∷ ks) h
      by false true h = h
      by false false h = h

  -- its own key has one more place
  pub places_own : (es : List (ℕ × Keyed T)) (s : ℕ) (l : Keyed T) → places_in (and_last es (s, l)) l.key ≡ and_last (places_in es l.key) s
  places_own es s l =
      let same : eqb l.key l.key ≡ true = grind (arith, nat_tests) in
      places_last es s l l.key ∙ ap (λ b. cond b (and_last (places_in es l.key) s) (places_in es l.key)) same

  pub places_put : (es : List (ℕ × Keyed T)) (s : ℕ) (l : Keyed T) (old new : BTreeMap ℕ (Vec ℕ Global))
      → ArePlaces es old → AddsPlace l.key s old new → ArePlaces (and_last es (s, l)) new
  places_put es s l old new places adds r =
      adds r ∙ ap (λ ks. cond (eqb l.key r) (and_last ks s) ks) (places r) ∙ sym (places_last es s l r)

  pub below_put : (n : ℕ) (es : List (ℕ × Keyed T)) (l : Keyed T) → AreBelow n es → AreBelow (n + 1) (and_last es (n, l))
  below_put n [] l below = (omega arith, tt)
  below_put n (e ∷ es) l below = (omega (arith, below.0), below_put n es l below.1)

  -- whether a key has an item
  pub is_listed : (r : ℕ) (es : List (ℕ × Keyed T)) → not (is_empty (places_in es r)) ≡ has_number (keys_in es) r
  is_listed r [] = refl
  is_listed r (e ∷ es) = by (eqb e.1.key r) (is_listed r es)
    where
      own : List (ℕ × Keyed T)
      own = filter (λ (e : ℕ × Keyed T). eqb e.1.key r) es

      by : (b : Bool) → not (is_empty (keys_of own)) ≡ has_number (keys_in es) r → not (is_empty (keys_of (cond b (e ∷ own) own))) ≡ (b || has_number (keys_in es) r)
      by true h = refl
      by false h = h

  -- ---- all with one key are taken out

  later_places : (s r : ℕ) (es : List (ℕ × Keyed T)) → AllByRecursion (λ k. nat_cmp s k ≡ Less) (keys_of es) → AllByRecursion (λ k. nat_cmp s k ≡ Less) (places_in es r)
  later_places s r [] later = tt
  later_places s r (e ∷ es) later = by (eqb e.1.key r) (later_places s r es later.1)
    where
      own : List (ℕ × Keyed T)
      own = filter (λ (e : ℕ × Keyed T). eqb e.1.key r) es

      by : (b : Bool) → AllByRecursion (λ k. nat_cmp s k ≡ Less) (keys_of own) → AllByRecursion (λ k. nat_cmp s k ≡ Less) (keys_of (cond b (e ∷ own) own))
      by true h = (later.0, h)
      by false h = h

  pub all_taken : (r : ℕ) (es : List (ℕ × Keyed T)) → AreOrdered es → remove_each (places_in es r) es ≡ others r es
  all_taken r [] ordered = refl
  all_taken r (e ∷ es) ordered = by (eqb e.1.key r) (all_taken r es (sorted_tail nat_cmp e.0 (keys_of es) ordered))
    where
      own : List (ℕ × Keyed T)
      own = filter (λ (e : ℕ × Keyed T). eqb e.1.key r) es

      by : (b : Bool) → remove_each (keys_of own) es ≡ others r es → remove_each (keys_of (cond b (e ∷ own) own)) (e ∷ es) ≡ cond b (others r es) (e ∷ others r es)
      by true h = ap (λ b. remove_each (keys_of own) (cond b es (e ∷ remove_entry (is_at (nat_cmp e.0)) es))) (is_here e.0) ∙ h
      by false h = passed e es (keys_of own) (later_places e.0 r es (sorted_head nat_cmp e.0 (keys_of es) ordered)) ∙ ap (λ rest. e ∷ rest) h

  pub below_others : (n r : ℕ) (es : List (ℕ × Keyed T)) → AreBelow n es → AreBelow n (others r es)
  below_others n r [] below = tt
  below_others n r (e ∷ es) below = by (eqb e.1.key r) (below_others n r es below.1)
    where
      by : (b : Bool) → AreBelow n (others r es) → AreBelow n (cond b (others r es) (e ∷ others r es))
      by true h = h
      by false h = (below.0, h)

  places_others : (r q : ℕ) (es : List (ℕ × Keyed T)) → places_in (others r es) q ≡ cond (eqb r q) [] (places_in es q)
  places_others r q [] = by (eqb r q)
    where
      none : List (ℕ × Keyed T)
      none = []

      by : (b : Bool) → places_in none q ≡ cond b [] (places_in none q)
      by true = refl
      by false = refl
  places_others r q (e ∷ es) = by (eqb e.1.key r) refl (eqb e.1.key q) refl (eqb r q) refl (places_others r q es)
    where
      own : List (ℕ × Keyed T)
      own = filter (λ (e : ℕ × Keyed T). eqb e.1.key q) es

      by : (b : Bool) → eqb e.1.key r ≡ b → (c : Bool) → eqb e.1.key q ≡ c → (d : Bool) → eqb r q ≡ d → places_in (others r es) q ≡ cond d [] (keys_of own)
          → places_in (cond b (others r es) (e ∷ others r es)) q ≡ cond d [] (keys_of (cond c (e ∷ own) own))
      by true h c k true m again = again
      by true h true k false m again = let never : ⊥ = grind (arith, h, k, m) in absurd never
      by true h false k false m again = again
      by false h true k true m again = let never : ⊥ = grind (arith, h, k, m) in absurd never
      by false h true k false m again = rw k (ap (λ ks. e.0 ∷ ks) again)
      by false h false k true m again = rw k again
      by false h false k false m again = rw k again

  pub places_taken : (r : ℕ) (es : List (ℕ × Keyed T)) (old new : BTreeMap ℕ (Vec ℕ Global)) → ArePlaces es old
      → ((q : ℕ) → get nat_cmp new q ≡ cond (is_at (nat_cmp r) q) None (get nat_cmp old q)) → ArePlaces (others r es) new
  places_taken r es old new places updates q = by (eqb r q) refl
    where
      by : (b : Bool) → eqb r q ≡ b → places_of new q ≡ places_in (others r es) q
      by b e =
          ap (λ (o : Option (Vec ℕ Global)). elim o as (λ _. List ℕ) [ None ↦ [] | Some v ↦ v.items ]) (updates q ∙ ap (λ x. cond x None (get nat_cmp old q)) (number_same r q))
          ∙ either (eqb r q) (get nat_cmp old q) ∙ ap (λ ks. cond (eqb r q) [] ks) (places q) ∙ sym (places_others r q es)
        where
          either : (b : Bool) (o : Option (Vec ℕ Global))
              → (elim (cond b None o) as (λ _. List ℕ) [ None ↦ [] | Some v ↦ v.items ]) ≡ cond b [] (elim o as (λ _. List ℕ) [ None ↦ [] | Some v ↦ v.items ])
          either true o = refl
          either false o = refl

  -- ---- the last one with a key is taken out

  -- what it leaves
  abbrev pub less : ℕ → List (ℕ × Keyed T) → List (ℕ × Keyed T)
  less p es = remove_entry (is_at (nat_cmp p)) es

  -- what stands at a place has this key
  abbrev pub HasKey : ℕ → ℕ → List (ℕ × Keyed T) → Type 0
  HasKey key p es = option_map (λ (l : Keyed T). l.key) (lookup (is_at (nat_cmp p)) es) ≡ Some key

  -- each other key keeps its places, and this one all but the last
  abbrev pub KeepsPlaces : ℕ → ℕ → List (ℕ × Keyed T) → Type 0
  KeepsPlaces key p es = (q : ℕ) → places_in es q ≡ cond (eqb key q) (and_last (places_in (less p es) q) p) (places_in (less p es) q)

  -- a place behind the first one
  later_key : (key p : ℕ) (e : ℕ × Keyed T) (es : List (ℕ × Keyed T)) → nat_cmp e.0 p ≡ Less → HasKey key p es → HasKey key p (e ∷ es)
  later_key key p e es later has = rw (apart e.0 p later) has

  later_kept : (key p : ℕ) (e : ℕ × Keyed T) (es : List (ℕ × Keyed T)) → nat_cmp e.0 p ≡ Less → KeepsPlaces key p es → KeepsPlaces key p (e ∷ es)
  later_kept key p e es later kept q = rw (apart e.0 p later) (by (eqb e.1.key q) (eqb key q) (kept q))
    where
      own : List (ℕ × Keyed T)
      own = filter (λ (e : ℕ × Keyed T). eqb e.1.key q) es

      rest : List (ℕ × Keyed T)
      rest = filter (λ (e : ℕ × Keyed T). eqb e.1.key q) (less p es)

      by : (b c : Bool) → keys_of own ≡ cond c (and_last (keys_of rest) p) (keys_of rest)
          → keys_of (cond b (e ∷ own) own) ≡ cond c (and_last (keys_of (cond b (e ∷ rest) rest)) p) (keys_of (cond b (e ∷ rest) rest))
      by true true h = ap (λ ks. e.0 ∷ ks) h
      by true false h = ap (λ ks. e.0 ∷ ks) h
      by false true h = h
      by false false h = h

  -- the first one is the last one with its key
  first_key : (key p : ℕ) (e : ℕ × Keyed T) (es : List (ℕ × Keyed T)) → e.1.key ≡ key → e.0 ≡ p → HasKey key p (e ∷ es)
  first_key key p e es own here = rw (← here, is_here e.0) (ap (λ k. Some k) own)

  first_kept : (key p : ℕ) (e : ℕ × Keyed T) (es : List (ℕ × Keyed T)) → e.1.key ≡ key → e.0 ≡ p → places_in es key ≡ [] → KeepsPlaces key p (e ∷ es)
  first_kept key p e es own here none q = rw (← here, is_here e.0) (by (eqb key q) refl)
    where
      rest : List (ℕ × Keyed T)
      rest = filter (λ (e : ℕ × Keyed T). eqb e.1.key q) es

      tested : eqb e.1.key q ≡ eqb key q
      tested = ap (λ k. eqb k q) own

      by : (c : Bool) → eqb key q ≡ c → keys_of (cond (eqb e.1.key q) (e ∷ rest) rest) ≡ cond c (and_last (keys_of rest) e.0) (keys_of rest)
      by true h =
          let same : key ≡ q = grind (arith, nat_tests, h) in
          let no : keys_of rest ≡ [] = ap (places_in es) (sym same) ∙ none in
          rw (tested ∙ h) (ap (λ ks. e.0 ∷ ks) no ∙ sym (ap (λ ks. and_last ks e.0) no))
      by false h = rw (tested ∙ h) refl

  pub last_taken : (key p : ℕ) (ks : List ℕ) (es : List (ℕ × Keyed T)) → AreOrdered es → places_in es key ≡ and_last ks p → HasKey key p es × KeepsPlaces key p es
  last_taken key p [] [] ordered is = cc
  last_taken key p (k ∷ ks) [] ordered is = cc
  last_taken key p ks (e ∷ es) ordered is = by (λ ks is. last_taken key p ks es (sorted_tail nat_cmp e.0 (keys_of es) ordered) is) (eqb e.1.key key) refl ks is
    where
      own : List (ℕ × Keyed T)
      own = filter (λ (e : ℕ × Keyed T). eqb e.1.key key) es

      Again : Type 0
      Again = (ks : List ℕ) → places_in es key ≡ and_last ks p → HasKey key p es × KeepsPlaces key p es

      later : AllByRecursion (λ k. nat_cmp e.0 k ≡ Less) (places_in es key)
      later = later_places e.0 key es (sorted_head nat_cmp e.0 (keys_of es) ordered)

      behind : Again → (ks : List ℕ) → places_in es key ≡ and_last ks p → HasKey key p (e ∷ es) × KeepsPlaces key p (e ∷ es)
      behind again ks is =
          let before : nat_cmp e.0 p ≡ Less = last_is (λ k. nat_cmp e.0 k ≡ Less) ks p (subst (AllByRecursion (λ k. nat_cmp e.0 k ≡ Less)) is later) in
          let was : HasKey key p es × KeepsPlaces key p es = again ks is in
          (later_key key p e es before was.0, later_kept key p e es before was.1)

      by : Again → (b : Bool) → eqb e.1.key key ≡ b → (ks : List ℕ) → keys_of (cond b (e ∷ own) own) ≡ and_last ks p → HasKey key p (e ∷ es) × KeepsPlaces key p (e ∷ es)
      by again true h [] is =
          let same : e.1.key ≡ key = grind (arith, nat_tests, h) in
          let here : e.0 ≡ p = cc in
          let none : places_in es key ≡ [] = cc in
          (first_key key p e es same here, first_kept key p e es same here none)
      by again true h (k ∷ ks) is = let rest : places_in es key ≡ and_last ks p = cc in behind again ks rest
      by again false h ks is = behind again ks is

  -- so something stands there
  pub is_there : (key p : ℕ) (es : List (ℕ × Keyed T)) → HasKey key p es → IsSome (lookup (is_at (nat_cmp p)) es)
  is_there key p es has = by (lookup (is_at (nat_cmp p)) es) has
    where
      by : (o : Option (Keyed T)) → option_map (λ (l : Keyed T). l.key) o ≡ Some key → IsSome o
      by None h = cc
      by (Some l) h = refl

  pub key_is : (key p : ℕ) (es : List (ℕ × Keyed T)) (l : Keyed T) → HasKey key p es → lookup (is_at (nat_cmp p)) es ≡ Some l → l.key ≡ key
  key_is key p es l has found =
      let is : Some l.key ≡ Some key = sym (ap (option_map (λ (l : Keyed T). l.key)) found) ∙ has in cc

  -- and it is now that of the items that are left
  pub places_dropped : (key p : ℕ) (es : List (ℕ × Keyed T)) (old new : BTreeMap ℕ (Vec ℕ Global)) → ArePlaces es old → DropsPlace key p old new → KeepsPlaces key p es → ArePlaces (less p es) new
  places_dropped key p es old new places drops kept q = by (eqb key q) (sym (drops q) ∙ places q ∙ kept q)
    where
      by : (b : Bool) → cond b (and_last (places_of new q) p) (places_of new q) ≡ cond b (and_last (places_in (less p es) q) p) (places_in (less p es) q) → places_of new q ≡ places_in (less p es) q
      by true h = same_front p (places_of new q) (places_in (less p es) q) h
      by false h = h

  pub below_less : (n p : ℕ) (es : List (ℕ × Keyed T)) → AreBelow n es → AreBelow n (less p es)
  below_less n p [] below = tt
  below_less n p (e ∷ es) below = by (is_at (nat_cmp p) e.0) (below_less n p es below.1)
    where
      by : (b : Bool) → AreBelow n (less p es) → AreBelow n (cond b es (e ∷ less p es))
      by true h = below.1
      by false h = (below.0, h)

  -- an item with a key is none of the others
  pub others_less : (key p : ℕ) (es : List (ℕ × Keyed T)) (l : Keyed T) → lookup (is_at (nat_cmp p)) es ≡ Some l → l.key ≡ key → others key (less p es) ≡ others key es
  others_less key p [] l found own = refl
  others_less key p (e ∷ es) l found own = by (is_at (nat_cmp p) e.0) (eqb e.1.key key) refl found (λ f. others_less key p es l f own)
    where
      by : (b c : Bool) → eqb e.1.key key ≡ c → cond b (Some e.1) (lookup (is_at (nat_cmp p)) es) ≡ Some l
          → (lookup (is_at (nat_cmp p)) es ≡ Some l → others key (less p es) ≡ others key es)
          → others key (cond b es (e ∷ less p es)) ≡ cond c (others key es) (e ∷ others key es)
      by true true k found again = refl
      by true false k found again =
          let is : e.1 ≡ l = cc in
          let same : e.1.key ≡ key = ap (λ (x : Keyed T). x.key) is ∙ own in
          let never : ⊥ = grind (arith, nat_tests, k, same) in absurd never
      by false true k found again = rw k (again found)
      by false false k found again = rw k (ap (λ rest. e ∷ rest) (again found))

  -- where no item has a key, all are others
  pub all_others : (key : ℕ) (es : List (ℕ × Keyed T)) → places_in es key ≡ [] → others key es ≡ es
  all_others key [] none = refl
  all_others key (e ∷ es) none = by (eqb e.1.key key) none (all_others key es)
    where
      own : List (ℕ × Keyed T)
      own = filter (λ (e : ℕ × Keyed T). eqb e.1.key key) es

      by : (b : Bool) → keys_of (cond b (e ∷ own) own) ≡ [] → (places_in es key ≡ [] → others key es ≡ es) → cond b (others key es) (e ∷ others key es) ≡ e ∷ es
      by true none again = cc
      by false none again = ap (λ rest. e ∷ rest) (again none)

  pub has_number_last : (key p : ℕ) (ks : List ℕ) (es : List (ℕ × Keyed T)) → places_in es key ≡ and_last ks p → has_number (keys_in es) key ≡ true
  has_number_last key p ks es is = sym (is_listed key es) ∙ ap (λ ks. not (is_empty ks)) is ∙ has_some ks p

  pub has_number_none : (key : ℕ) (es : List (ℕ × Keyed T)) → places_in es key ≡ [] → has_number (keys_in es) key ≡ false
  has_number_none key es none = sym (is_listed key es) ∙ ap (λ ks. not (is_empty ks)) none

  -- an item that was just pushed is the last one with its key, and leaves what was there before
  pub taken_back : (es new : List (ℕ × Keyed T)) (s : ℕ) (l : Keyed T) (o : Option (Taken T)) → AreBelow s es
      → IfSome o (λ t. places_in (and_last es (s, l)) l.key ≡ and_last (places_in new l.key) t.place)
      → IfSome o (λ t. new ≡ less t.place (and_last es (s, l)))
      → IfNone o (places_in (and_last es (s, l)) l.key ≡ []) → new ≡ es
  taken_back es new s l None below last gone none =
      absurd (never_none (places_in es l.key) s (sym (places_own es s l) ∙ none))
  taken_back es new s l (Some t) below last gone none =
      let at : s ≡ t.place = same_last (places_in es l.key) (places_in new l.key) s t.place (sym (places_own es s l) ∙ last) in
      gone ∙ ap (λ p. less p (and_last es (s, l))) (sym at) ∙ remove_last es s l below
