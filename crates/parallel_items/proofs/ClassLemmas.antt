-- The first item of one class, in the order of the class.
use Rattle.std.proofs.Common.{◌≡◌, ℕ, suc, ◌<◌, Bool, true, false, cond, not, ◌&&◌, List, [], ◌∷◌, ◌++◌, map, filter, find, take, get_or, length, ◌+◌, Option, Some, None, nat_lt, nat_le, eqb, slice_get, refl, sym, subst, ap, ◌∙◌, arith}
use Rattle.std.proofs.lemmas.List.{map-append, take_more}
use Rattle.std.specs.List.{AllByRecursion}
use Rattle.std.specs.Option.{option_map}
use Rattle.std.specs.BTreeMap.{insert_entry}
use Rattle.std.specs.Ordering.{nat_cmp, ordering_then, match_ordering}
use Rattle.std.specs.declared.cmp.Ordering.{Ordering}
use Rattle.std.specs.declared.cmp.Ordering.TheVariants.{Less, Greater}
use Rattle.page_base.specs.declared.moment.Micros.{Micros}
use Rattle.arrivals_text.specs.SeenParts.{arrival_of}
use Rattle.arrivals_text.specs.declared.arrival.Arrival as read
use Rattle.page_parts.specs.Setup.{Arrival, are_in_order, is_not_after}
use Rattle.page_parts.specs.Words.{without, without_numbered}
use Rattle.page_model.specs.State as model
use Rattle.page_model.specs.Parallel.{Item, ArrivalItem, first_item_from, first_item_of, arrival_items, with_arrival}
use Rattle.parallel_items.specs.declared.taken.HostAnswer.{HostAnswer}
use Rattle.parallel_items.specs.Items.{answer_item, answer_items, due_of, earlier, left_of}
use Rattle.parallel_items.specs.InParallel.{Waiting}
use Rattle.parallel_items.specs.Seen.{answer_seen, answers_of, arrivals_of}
use Rattle.page_tasks.specs.Seen.{host_task}
use Rattle.parallel_items.specs.Kept.{IsPlaced, AreArrivalsKept}
use Rattle.parallel_items.proofs.FirstLemmas.{first_append}

-- ---- host answers

-- the first of a part of the answers, with one more
pub answers_more : (xs : List HostAnswer) (x : HostAnswer)
    → first_item_of (answer_items (answers_of (xs ++ x ∷ []))) ≡ earlier (first_item_of (answer_items (answers_of xs))) (Some (answer_item (answer_seen x)))
answers_more xs x =
    ap (λ ys. first_item_of (answer_items ys)) (map-append answer_seen xs (x ∷ []))
    ∙ ap first_item_of (map-append answer_item (answers_of xs) (answer_seen x ∷ []))
    ∙ first_append (answer_items (answers_of xs)) (answer_item (answer_seen x) ∷ [])

-- the same of the answers of a list up to a place
pub first_with_more : (xs : List HostAnswer) (i : ℕ) (d : HostAnswer) (o : Option HostAnswer) (y : HostAnswer) → i < length xs
    → option_map (λ (a : HostAnswer). answer_item (answer_seen a)) o ≡ first_item_of (answer_items (answers_of (take i xs)))
    → Some (answer_item (answer_seen y)) ≡ earlier (option_map (λ (a : HostAnswer). answer_item (answer_seen a)) o) (Some (answer_item (answer_seen (get_or xs i d))))
    → Some (answer_item (answer_seen y)) ≡ first_item_of (answer_items (answers_of (take (i + 1) xs)))
first_with_more xs i d o y less before is =
    is ∙ ap (λ (p : Option Item). earlier p (Some (answer_item (answer_seen (get_or xs i d))))) before
    ∙ sym (answers_more (take i xs) (get_or xs i d))
    ∙ sym (ap (λ (ys : List HostAnswer). first_item_of (answer_items (answers_of ys))) (take_more xs i d less))

pub answers_left : (r : ℕ) (xs : List HostAnswer)
    → answers_of (filter (λ (a : HostAnswer). not (eqb a.task.registration r)) xs) ≡ without (λ a. eqb a.task.registration r) (answers_of xs)
answers_left r [] = refl
answers_left r (x ∷ xs) = by (eqb x.task.registration r) (answers_left r xs)
  where
    by : (b : Bool) → answers_of (filter (λ (a : HostAnswer). not (eqb a.task.registration r)) xs) ≡ without (λ a. eqb a.task.registration r) (answers_of xs)
        → answers_of (cond (not b) (x ∷ filter (λ (a : HostAnswer). not (eqb a.task.registration r)) xs) (filter (λ (a : HostAnswer). not (eqb a.task.registration r)) xs))
        ≡ cond b (without (λ a. eqb a.task.registration r) (answers_of xs)) (answer_seen x ∷ without (λ a. eqb a.task.registration r) (answers_of xs))
    by true rest = rest
    by false rest = ap (λ ys. answer_seen x ∷ ys) rest

-- what stands first in a map of a list
pub find_map : {X Y : Type 0} (f : X → Y) (test : Y → Bool) (xs : List X) → find test (map f xs) ≡ option_map f (find (λ x. test (f x)) xs)
find_map f test [] = refl
find_map f test (x ∷ xs) = by (test (f x)) (find_map f test xs)
  where
    by : (b : Bool) → find test (map f xs) ≡ option_map f (find (λ x. test (f x)) xs)
        → cond b (Some (f x)) (find test (map f xs)) ≡ option_map f (cond b (Some x) (find (λ x. test (f x)) xs))
    by true rest = refl
    by false rest = rest

-- what is left of a map of a list
pub map_without : {X Y : Type 0} (f : X → Y) (test : Y → Bool) (xs : List X) → map f (without (λ x. test (f x)) xs) ≡ without test (map f xs)
map_without f test [] = refl
map_without f test (x ∷ xs) = by (test (f x)) (map_without f test xs)
  where
    by : (b : Bool) → map f (without (λ x. test (f x)) xs) ≡ without test (map f xs)
        → map f (cond b (without (λ x. test (f x)) xs) (x ∷ without (λ x. test (f x)) xs)) ≡ cond b (without test (map f xs)) (f x ∷ without test (map f xs))
    by true rest = rest
    by false rest = ap (λ ys. f x ∷ ys) rest

-- ---- arrivals

left_of_and : (x y : Bool) → (x && y) ≡ true → x ≡ true
left_of_and true y e = refl
left_of_and false y e = cc

right_of : (x y : Bool) → (x && y) ≡ true → y ≡ true
right_of true y e = e
right_of false y e = cc

both_of : (x y : Bool) → x ≡ true → y ≡ true → (x && y) ≡ true
both_of true y e f = f
both_of false y e f = cc

arrival_first : (a : Arrival) (n m : ℕ) (more : List Arrival) → is_not_after a.at more ≡ true → are_in_order more ≡ true
    → first_item_from (record { due = a.at; what = ArrivalItem n a }) (arrival_items m more) ≡ record { due = a.at; what = ArrivalItem n a }
arrival_first a n m [] first order = refl
arrival_first a n m (b ∷ more) first order =
    let stays : nat_lt b.at a.at ≡ false = grind (arith, first) in
    let here : Item = record { due = a.at; what = ArrivalItem n a } in
    let there : Item = record { due = b.at; what = ArrivalItem m b } in
    let rest : is_not_after a.at more ≡ true = by more order in
    let others : are_in_order more ≡ true = right_of (is_not_after b.at more) (are_in_order more) order in
    ap (λ t. first_item_from (cond t there here) (arrival_items (suc m) more)) stays ∙ arrival_first a n (suc m) more rest others
  where
    by : (more : List Arrival) → (is_not_after b.at more && are_in_order more) ≡ true → is_not_after a.at more ≡ true
    by [] order = refl
    by (c ∷ more) order = grind (arith, first, order)

-- the first arrival is the first item
pub first_arrival : (a : Arrival) (more : List Arrival) → are_in_order (a ∷ more) ≡ true
    → first_item_of (arrival_items 1 (a ∷ more)) ≡ Some (record { due = a.at; what = ArrivalItem 1 a })
first_arrival a more order =
    ap Some (arrival_first a 1 2 more (left_of_and (is_not_after a.at more) (are_in_order more) order) (right_of (is_not_after a.at more) (are_in_order more) order))

-- what a registration asked, in the code's list and in the model's
pub pending_seen : (r : ℕ) (xs : List HostAnswer) (o : Option HostAnswer) → o ≡ find (λ (a : HostAnswer). eqb a.task.registration r) xs
    → option_map host_task (option_map (λ (a : HostAnswer). a.task) o) ≡ option_map (λ (a : model.HostAnswer). a.task) (find (λ (a : model.HostAnswer). eqb a.task.registration r) (answers_of xs))
pending_seen r xs o is =
    same o ∙ ap (λ (p : Option HostAnswer). option_map (λ (a : model.HostAnswer). a.task) (option_map answer_seen p)) is
    ∙ sym (ap (option_map (λ (a : model.HostAnswer). a.task)) (find_map answer_seen (λ (a : model.HostAnswer). eqb a.task.registration r) xs))
  where
    same : (o : Option HostAnswer) → option_map host_task (option_map (λ (a : HostAnswer). a.task) o) ≡ option_map (λ (a : model.HostAnswer). a.task) (option_map answer_seen o)
    same None = refl
    same (Some a) = refl

-- ---- arrivals in the code's map

-- the order of its keys: by time, and then by number
abbrev pub place_cmp : Micros × ℕ → Micros × ℕ → Ordering
place_cmp x y = ordering_then (nat_cmp x.0.0 y.0.0) (nat_cmp x.1 y.1)

abbrev Entry : Type 0
Entry = (Micros × ℕ) × read.Arrival

first_entry : (made : ℕ) (e : Entry) (es : List Entry) → AreArrivalsKept made (e ∷ es)
    → first_item_of (arrival_items 1 (arrivals_of (e ∷ es))) ≡ Some (record { due = e.1.at.0; what = ArrivalItem 1 (arrival_of e.1) })
first_entry made e es kept = first_arrival (arrival_of e.1) (arrivals_of es) kept.in_order

-- the moment at which the first entry is due
pub due_at_first : (made : ℕ) (k : Micros × ℕ) (a : read.Arrival) (es : List Entry) → AreArrivalsKept made es → slice_get es 0 ≡ Some (k, a)
    → Some k.0.0 ≡ due_of (first_item_of (arrival_items 1 (arrivals_of es)))
due_at_first made k a [] kept first = cc
due_at_first made k a (e ∷ es) kept first =
    let same : e ≡ (k, a) = cc in
    ap Some (sym (ap (λ (f : Entry). f.0.0.0) same) ∙ kept.placed.0.0) ∙ sym (ap due_of (first_entry made e es kept))

-- the first entry leaves
pub arrival_taken : (made : ℕ) (k : Micros × ℕ) (a : read.Arrival) (old new : List Entry) → AreArrivalsKept made old → old ≡ (k, a) ∷ new
    → first_item_of (arrival_items 1 (arrivals_of old)) ≡ Some (record { due = a.at.0; what = ArrivalItem 1 (arrival_of a) })
arrival_taken made k a old new kept is =
    ap (λ (es : List Entry). first_item_of (arrival_items 1 (arrivals_of es))) is
    ∙ first_entry made (k, a) new (subst (AreArrivalsKept made) is kept)

pub kept_without_first : (made : ℕ) (e : Entry) (new : List Entry) → AreArrivalsKept made (e ∷ new) → AreArrivalsKept made new
kept_without_first made e new kept =
    record { placed = kept.placed.1; in_order = right_of (is_not_after e.1.at.0 (arrivals_of new)) (are_in_order (arrivals_of new)) kept.in_order }

-- ---- a further arrival

-- where it goes in the order of the keys
before_it : (made at : ℕ) (e : Entry) → IsPlaced made e → nat_le e.1.at.0 at ≡ true → ordering_then (nat_cmp at e.0.0.0) (nat_cmp (made + 1) e.0.1) ≡ Greater
before_it made at e placed h = let same = placed.0 in let le = placed.1 in grind (arith, h, same, le)

behind_it : (made at : ℕ) (e : Entry) → IsPlaced made e → nat_le e.1.at.0 at ≡ false → ordering_then (nat_cmp at e.0.0.0) (nat_cmp (made + 1) e.0.1) ≡ Less
behind_it made at e placed h = let same = placed.0 in grind (arith, h, same)

module _ (made : ℕ) (a : read.Arrival) where
  abbrev key : Micros × ℕ
  key = (a.at, made + 1)

  pub arrivals_inserted : (es : List Entry) → AllByRecursion (IsPlaced made) es → arrivals_of (insert_entry place_cmp es key a) ≡ with_arrival (arrival_of a) (arrivals_of es)
  arrivals_inserted [] placed = refl
  arrivals_inserted (e ∷ es) placed = by (nat_le e.1.at.0 a.at.0) refl (arrivals_inserted es placed.1)
    where
      by : (b : Bool) → nat_le e.1.at.0 a.at.0 ≡ b → arrivals_of (insert_entry place_cmp es key a) ≡ with_arrival (arrival_of a) (arrivals_of es)
          → arrivals_of (match_ordering (place_cmp key e.0) ((key, a) ∷ e ∷ es) ((e.0, a) ∷ es) (e ∷ insert_entry place_cmp es key a))
          ≡ cond b (arrival_of e.1 ∷ with_arrival (arrival_of a) (arrivals_of es)) (arrival_of a ∷ arrival_of e.1 ∷ arrivals_of es)
      by true t rest =
          ap (λ o. arrivals_of (match_ordering o ((key, a) ∷ e ∷ es) ((e.0, a) ∷ es) (e ∷ insert_entry place_cmp es key a))) (before_it made a.at.0 e placed.0 t)
          ∙ ap (λ ys. arrival_of e.1 ∷ ys) rest
      by false t rest = ap (λ o. arrivals_of (match_ordering o ((key, a) ∷ e ∷ es) ((e.0, a) ∷ es) (e ∷ insert_entry place_cmp es key a))) (behind_it made a.at.0 e placed.0 t)

  one_more : (e : Entry) → IsPlaced made e → IsPlaced (made + 1) e
  one_more e placed = (placed.0, omega (arith, placed.1))

  all_more : (es : List Entry) → AllByRecursion (IsPlaced made) es → AllByRecursion (IsPlaced (made + 1)) es
  all_more [] placed = tt
  all_more (e ∷ es) placed = (one_more e placed.0, all_more es placed.1)

  pub placed_inserted : (es : List Entry) → AllByRecursion (IsPlaced made) es → AllByRecursion (IsPlaced (made + 1)) (insert_entry place_cmp es key a)
  placed_inserted [] placed = ((refl, omega arith), tt)
  placed_inserted (e ∷ es) placed = by (nat_le e.1.at.0 a.at.0) refl (placed_inserted es placed.1)
    where
      by : (b : Bool) → nat_le e.1.at.0 a.at.0 ≡ b → AllByRecursion (IsPlaced (made + 1)) (insert_entry place_cmp es key a)
          → AllByRecursion (IsPlaced (made + 1)) (match_ordering (place_cmp key e.0) ((key, a) ∷ e ∷ es) ((e.0, a) ∷ es) (e ∷ insert_entry place_cmp es key a))
      by true t rest =
          subst (λ o. AllByRecursion (IsPlaced (made + 1)) (match_ordering o ((key, a) ∷ e ∷ es) ((e.0, a) ∷ es) (e ∷ insert_entry place_cmp es key a)))
          (sym (before_it made a.at.0 e placed.0 t)) (one_more e placed.0, rest)
      by false t rest =
          subst (λ o. AllByRecursion (IsPlaced (made + 1)) (match_ordering o ((key, a) ∷ e ∷ es) ((e.0, a) ∷ es) (e ∷ insert_entry place_cmp es key a)))
          (sym (behind_it made a.at.0 e placed.0 t)) ((refl, omega arith), (one_more e placed.0, all_more es placed.1))

-- the order stays
pub in_order_with : (a : Arrival) (arrivals : List Arrival) → are_in_order arrivals ≡ true → are_in_order (with_arrival a arrivals) ≡ true
in_order_with a [] order = refl
in_order_with a (b ∷ more) order = by (nat_le b.at a.at) refl (in_order_with a more rest)
  where
    rest : are_in_order more ≡ true
    rest = right_of (is_not_after b.at more) (are_in_order more) order

    behind : nat_le b.at a.at ≡ true → (cs : List Arrival) → is_not_after b.at cs ≡ true → is_not_after b.at (with_arrival a cs) ≡ true
    behind le [] first = le
    behind le (c ∷ cs) first = side (nat_le c.at a.at)
      where
        side : (x : Bool) → is_not_after b.at (cond x (c ∷ with_arrival a cs) (a ∷ c ∷ cs)) ≡ true
        side true = first
        side false = le

    by : (x : Bool) → nat_le b.at a.at ≡ x → are_in_order (with_arrival a more) ≡ true → are_in_order (cond x (b ∷ with_arrival a more) (a ∷ b ∷ more)) ≡ true
    by true le after = both_of _ _ (behind le more (left_of_and (is_not_after b.at more) (are_in_order more) order)) after
    by false le after = let first : nat_le a.at b.at ≡ true = grind (arith, le) in both_of _ _ first order

pub kept_inserted : (made : ℕ) (a : read.Arrival) (es : List Entry) → AreArrivalsKept made es → AreArrivalsKept (made + 1) (insert_entry place_cmp es (a.at, made + 1) a)
kept_inserted made a es kept =
    record {
      placed = placed_inserted made a es kept.placed;
      in_order = ap are_in_order (arrivals_inserted made a es kept.placed) ∙ in_order_with (arrival_of a) (arrivals_of es) kept.in_order;
    }

-- what is left after the first one
pub arrival_left : (made : ℕ) (k : Micros × ℕ) (a : read.Arrival) (old new : List Entry) → AreArrivalsKept made old → old ≡ (k, a) ∷ new → (w : Waiting)
    → left_of (first_item_of (arrival_items 1 (arrivals_of old))) (record w { arrivals = arrivals_of old }) ≡ record w { arrivals = arrivals_of new }
arrival_left made k a old new kept is w =
    ap (λ (o : Option Item). left_of o (record w { arrivals = arrivals_of old })) (arrival_taken made k a old new kept is)
    ∙ ap (λ (es : List Entry). record w { arrivals = without_numbered 1 (arrivals_of es) }) is

-- ---- arrivals in the order in which they stand in a list

not_before : (b x : Arrival) (xs rest : List Arrival) → are_in_order (b ∷ xs ++ x ∷ rest) ≡ true → nat_le b.at x.at ≡ true
not_before b x [] rest order = left_of_and (nat_le b.at x.at) (are_in_order (x ∷ rest)) order
not_before b x (c ∷ xs) rest order =
    let first = left_of_and (nat_le b.at c.at) (are_in_order (c ∷ xs ++ x ∷ rest)) order in
    let next = not_before c x xs rest (right_of (nat_le b.at c.at) (are_in_order (c ∷ xs ++ x ∷ rest)) order) in
    grind (arith, first, next)

-- the next one goes last
pub with_next : (x : Arrival) (xs rest : List Arrival) → are_in_order (xs ++ x ∷ rest) ≡ true → with_arrival x xs ≡ xs ++ x ∷ []
with_next x [] rest order = refl
with_next x (b ∷ xs) rest order =
    let le = not_before b x xs rest order in
    let more = with_next x xs rest (right_of (is_not_after b.at (xs ++ x ∷ rest)) (are_in_order (xs ++ x ∷ rest)) order) in
    ap (λ t. cond t (b ∷ with_arrival x xs) (x ∷ b ∷ xs)) le ∙ ap (λ ys. b ∷ ys) more
