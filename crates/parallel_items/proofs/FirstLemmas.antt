-- The first item of several classes, one behind the other.
use Rattle.std.proofs.Common.{◌≡◌, ℕ, ◌<◌, Bool, true, false, cond, not, ◌&&◌, List, [], ◌∷◌, ◌++◌, map, Option, Some, None, is_some, nat_eq, nat_lt, nat_le, ◌≤◌, true≢false, refl, sym, subst, ap, ◌∙◌, arith}
use Rattle.std.proofs.lemmas.Bool.{eq-eqb, eqb-true}
use Rattle.std.specs.Option.{option_map, option_eq}
use Rattle.page_base.specs.declared.moment.Micros.{Micros}
use Rattle.page_parts.specs.Setup.{Arrival}
use Rattle.page_parts.specs.Words.{is_empty, is_there, least}
use Rattle.page_model.specs.State.{Page, emit}
use Rattle.page_model.specs.PageTime.{clear_id, clear_timer, registration_with_id, next_frame}
use Rattle.page_model.specs.Parallel.{Item, FrameItem, first_item, frame_items, first_item_from, first_item_of, arrival_items, due_item}
use Rattle.parallel_items.specs.InParallel.{Waiting, TimerOwner, InParallel, waiting_of}
use Rattle.parallel_items.specs.Items.{waiting_items, first_waiting, nothing_waits, answer_items, timer_items, idle_items, due_of, earlier, Taken, Takes}
use Rattle.parallel_items.specs.Laws.{is_before, AreOwners, cleared_by}
use Rattle.parallel_items.specs.Steps.{owner_of}
use Rattle.page_types.specs.Events.{Drop}

-- ---- of two items

-- the one that is due earlier, a where they are due together
abbrev sooner : Item → Item → Item
sooner a b = cond (nat_lt b.due a.due) b a

sooner_assoc : (a b c : Item) → sooner (sooner a b) c ≡ sooner a (sooner b c)
sooner_assoc a b c = by (nat_lt b.due a.due) refl (nat_lt c.due b.due) refl
  where
    by : (x : Bool) → nat_lt b.due a.due ≡ x → (y : Bool) → nat_lt c.due b.due ≡ y → sooner (cond x b a) c ≡ sooner a (cond y c b)
    by true e true f = let less : nat_lt c.due a.due ≡ true = grind (arith, e, f) in rw (f, less)
    by true e false f = rw (f, e)
    by false e true f = refl
    by false e false f = let more : nat_lt c.due a.due ≡ false = grind (arith, e, f) in rw (more, e)

pub earlier_assoc : (a b c : Option Item) → earlier a (earlier b c) ≡ earlier (earlier a b) c
earlier_assoc None b c = refl
earlier_assoc (Some a) None c = refl
earlier_assoc (Some a) (Some b) None = refl
earlier_assoc (Some a) (Some b) (Some c) = ap Some (sym (sooner_assoc a b c))

-- ---- of a list

from_sooner : (a b : Item) (more : List Item) → first_item_from (sooner a b) more ≡ sooner a (first_item_from b more)
from_sooner a b [] = refl
from_sooner a b (c ∷ more) = ap (λ x. first_item_from x more) (sooner_assoc a b c) ∙ from_sooner a (sooner b c) more

pub first_cons : (a : Item) (more : List Item) → first_item_of (a ∷ more) ≡ earlier (Some a) (first_item_of more)
first_cons a [] = refl
first_cons a (b ∷ more) = ap Some (from_sooner a b more)

-- the first item of two classes is the earlier one of their firsts
pub first_append : (xs ys : List Item) → first_item_of (xs ++ ys) ≡ earlier (first_item_of xs) (first_item_of ys)
first_append [] ys = refl
first_append (x ∷ xs) ys =
    first_cons x (xs ++ ys) ∙ ap (earlier (Some x)) (first_append xs ys) ∙ earlier_assoc (Some x) (first_item_of xs) (first_item_of ys)
    ∙ sym (ap (λ o. earlier o (first_item_of ys)) (first_cons x xs))

pub due_earlier : (a b : Option Item) → due_of (earlier a b) ≡ least (due_of a) (due_of b)
due_earlier None b = refl
due_earlier (Some a) None = refl
due_earlier (Some a) (Some b) = by (nat_lt b.due a.due)
  where
    by : (x : Bool) → due_of (Some (cond x b a)) ≡ Some (cond x b.due a.due)
    by true = refl
    by false = refl

-- ---- which class it is of

-- the first one of two, where it is due when the earlier one is
pub chosen_left : (a b : Option Item) → due_of a ≡ due_of (earlier a b) → earlier a b ≡ a
chosen_left None None e = refl
chosen_left None (Some b) e = let never : ⊥ = cc in absurd never
chosen_left (Some a) None e = refl
chosen_left (Some a) (Some b) e = by (nat_lt b.due a.due) refl e
  where
    by : (x : Bool) → nat_lt b.due a.due ≡ x → Some a.due ≡ due_of (Some (cond x b a)) → Some (cond x b a) ≡ Some a
    by true t e = let same : a.due ≡ b.due = cc in let never : ⊥ = grind (arith, t, same) in absurd never
    by false t e = refl

-- and else the other
pub chosen_right : (a b : Option Item) → (due_of a ≡ due_of (earlier a b) → ⊥) → earlier a b ≡ b
chosen_right None b other = refl
chosen_right (Some a) None other = absurd (other refl)
chosen_right (Some a) (Some b) other = by (nat_lt b.due a.due) other
  where
    by : (x : Bool) → (Some a.due ≡ due_of (Some (cond x b a)) → ⊥) → Some (cond x b a) ≡ Some b
    by true other = refl
    by false other = absurd (other refl)

-- ---- the four classes

module _ (w : Waiting) where
  abbrev pub arrival : Option Item
  arrival = first_item_of (arrival_items 1 w.arrivals)

  abbrev pub answer : Option Item
  answer = first_item_of (answer_items w.host_answers)

  abbrev pub timer : Option Item
  timer = first_item_of (timer_items w.timers.active)

  abbrev pub idle : Option Item
  idle = first_item_of (idle_items w.idle_timers)

  pub first_of_four : first_waiting w ≡ earlier (earlier (earlier arrival answer) timer) idle
  first_of_four =
      let a = arrival_items 1 w.arrivals in
      let b = answer_items w.host_answers in
      let c = timer_items w.timers.active in
      let d = idle_items w.idle_timers in
      first_append (a ++ b ++ c) d
      ∙ ap (λ o. earlier o idle) (first_append (a ++ b) c ∙ ap (λ o. earlier o timer) (first_append a b))

  -- the others after the first class, and after the second
  abbrev from_timers : Option Item
  from_timers = earlier timer idle

  abbrev from_answers : Option Item
  from_answers = earlier answer from_timers

  pub first_by_classes : first_waiting w ≡ earlier arrival from_answers
  first_by_classes =
      first_of_four ∙ sym (earlier_assoc (earlier arrival answer) timer idle) ∙ sym (earlier_assoc arrival answer from_timers)

  pub is_arrival : due_of arrival ≡ due_of (first_waiting w) → first_waiting w ≡ arrival
  is_arrival e = first_by_classes ∙ chosen_left arrival from_answers (e ∙ ap due_of first_by_classes)

  no_arrival : (due_of arrival ≡ due_of (first_waiting w) → ⊥) → first_waiting w ≡ from_answers
  no_arrival other = first_by_classes ∙ chosen_right arrival from_answers (λ e. other (e ∙ sym (ap due_of first_by_classes)))

  module _ (other : due_of arrival ≡ due_of (first_waiting w) → ⊥) where
    pub is_answer : due_of answer ≡ due_of (first_waiting w) → first_waiting w ≡ answer
    is_answer e = no_arrival other ∙ chosen_left answer from_timers (e ∙ ap due_of (no_arrival other))

    no_answer : (due_of answer ≡ due_of (first_waiting w) → ⊥) → first_waiting w ≡ from_timers
    no_answer another = no_arrival other ∙ chosen_right answer from_timers (λ e. another (e ∙ sym (ap due_of (no_arrival other))))

    module _ (another : due_of answer ≡ due_of (first_waiting w) → ⊥) where
      pub is_timer : due_of timer ≡ due_of (first_waiting w) → first_waiting w ≡ timer
      is_timer e = no_answer another ∙ chosen_left timer idle (e ∙ ap due_of (no_answer another))

      pub is_idle : (due_of timer ≡ due_of (first_waiting w) → ⊥) → first_waiting w ≡ idle
      is_idle third = no_answer another ∙ chosen_right timer idle (λ e. third (e ∙ sym (ap due_of (no_answer another))))

-- ---- with the rendering opportunity

pub first_of_page : (p : Page) → first_item p ≡ earlier (first_waiting (waiting_of p)) (first_item_of (frame_items (next_frame p)))
first_of_page p = first_append (waiting_items (waiting_of p)) (frame_items (next_frame p))

pub frame_is_first : (t : ℕ) (p : Page) → next_frame p ≡ Some t
    → first_item p ≡ cond (is_before t (first_waiting (waiting_of p))) (Some (record { due = t; what = FrameItem })) (first_waiting (waiting_of p))
frame_is_first t p is =
    first_of_page p ∙ ap (λ o. earlier (first_waiting (waiting_of p)) (first_item_of (frame_items o))) is
    ∙ by (first_waiting (waiting_of p))
  where
    side : (i : Item) (x : Bool) → Some (cond x (record { due = t; what = FrameItem }) i) ≡ cond x (Some (record { due = t; what = FrameItem })) (Some i)
    side i true = refl
    side i false = refl

    by : (o : Option Item) → earlier o (Some (record { due = t; what = FrameItem })) ≡ cond (is_before t o) (Some (record { due = t; what = FrameItem })) o
    by None = refl
    by (Some i) = side i (nat_lt t i.due)

-- ---- that there is one

pub there_is_first : (xs : List Item) → is_there (first_item_of xs) ≡ not (is_empty xs)
there_is_first [] = refl
there_is_first (x ∷ xs) = refl

empty_append : {X : Type 0} (xs ys : List X) → is_empty (xs ++ ys) ≡ (is_empty xs && is_empty ys)
empty_append [] ys = refl
empty_append (x ∷ xs) ys = refl

empty_map : {X Y : Type 0} (f : X → Y) (xs : List X) → is_empty (map f xs) ≡ is_empty xs
empty_map f [] = refl
empty_map f (x ∷ xs) = refl

-- nothing goes on where there is no first item
pub first_of_nothing : (w : Waiting) → is_there (first_waiting w) ≡ not (nothing_waits w)
first_of_nothing w =
    let a = arrival_items 1 w.arrivals in
    let b = answer_items w.host_answers in
    let c = timer_items w.timers.active in
    let d = idle_items w.idle_timers in
    let each = ap (λ x. x && is_empty b && is_empty c && is_empty d) (empty_arrivals 1 w.arrivals)
    ∙ ap (λ x. is_empty w.arrivals && x && is_empty c && is_empty d) (empty_map _ w.host_answers)
    ∙ ap (λ x. is_empty w.arrivals && is_empty w.host_answers && x && is_empty d) (empty_map _ w.timers.active)
    ∙ ap (λ x. is_empty w.arrivals && is_empty w.host_answers && is_empty w.timers.active && x) (empty_map _ w.idle_timers) in
    there_is_first (waiting_items w)
    ∙ ap not (empty_append (a ++ b ++ c) d
    ∙ ap (λ x. x && is_empty d) (empty_append (a ++ b) c ∙ ap (λ x. x && is_empty c) (empty_append a b))
    ∙ each)
  where
    empty_arrivals : (n : ℕ) (arrivals : List Arrival) → is_empty (arrival_items n arrivals) ≡ is_empty arrivals
    empty_arrivals n [] = refl
    empty_arrivals n (a ∷ more) = refl

-- ---- the first item, where it is due

pub due_of_four : (w : Waiting) → due_of (first_waiting w) ≡ least (least (least (due_of (arrival w)) (due_of (answer w))) (due_of (timer w))) (due_of (idle w))
due_of_four w =
    ap due_of (first_of_four w)
    ∙ due_earlier (earlier (earlier (arrival w) (answer w)) (timer w)) (idle w)
    ∙ ap (λ x. least x (due_of (idle w))) (due_earlier (earlier (arrival w) (answer w)) (timer w) ∙ ap (λ x. least x (due_of (timer w))) (due_earlier (arrival w) (answer w)))

pub none_first : (o : Option Item) → None ≡ due_of o → o ≡ None
none_first None e = refl
none_first (Some i) e = cc

pub not_due : (now due : ℕ) (o : Option Item) → Some due ≡ due_of o → now < due → due_item now o ≡ None
not_due now due None e less = refl
not_due now due (Some i) e less =
    let same : due ≡ i.due = cc in
    let test : nat_le i.due now ≡ false = grind (arith, same, less) in
    ap (λ b. cond b (Some i) None) test

pub is_due : (now due : ℕ) (o : Option Item) → Some due ≡ due_of o → due ≤ now → due_item now o ≡ o
is_due now due None e le = refl
is_due now due (Some i) e le =
    let same : due ≡ i.due = cc in
    let test : nat_le i.due now ≡ true = grind (arith, same, le) in
    ap (λ b. cond b (Some i) None) test

pub some_map : {X Y : Type 0} (f : X → Y) (o : Option X) → is_some o ≡ is_some (option_map f o)
some_map f None = refl
some_map f (Some x) = refl

pub some_due : (o : Option Item) → is_some (due_of o) ≡ is_there o
some_due None = refl
some_due (Some i) = refl

pub not_same : (a b : Bool) → not a ≡ not b → a ≡ b
not_same true true e = refl
not_same true false e = cc
not_same false true e = cc
not_same false false e = refl

-- moments that are compared

pub same_due : (a b : Option Micros) → option_eq (λ (x y : Micros). nat_eq x.0 y.0) a b ≡ true → option_map (λ (m : Micros). m.0) a ≡ option_map (λ (m : Micros). m.0) b
same_due None None e = refl
same_due None (Some y) e = cc
same_due (Some x) None e = cc
same_due (Some x) (Some y) e = ap Some (eqb-true x.0 y.0 e)

pub other_due : (a b : Option Micros) → option_eq (λ (x y : Micros). nat_eq x.0 y.0) a b ≡ false → option_map (λ (m : Micros). m.0) a ≡ option_map (λ (m : Micros). m.0) b → ⊥
other_due None None e same = true≢false e
other_due None (Some y) e same = let never : ⊥ = cc in never
other_due (Some x) None e same = let never : ⊥ = cc in never
other_due (Some x) (Some y) e same =
    let is : x.0 ≡ y.0 = cc in
    true≢false (sym (eq-eqb x.0 y.0 is) ∙ e)

abbrev moment : Option Micros → Option ℕ
moment m = option_map (λ (m : Micros). m.0) m

-- the least of the moments of the four classes
pub least_of_four : (w : Waiting) (a b c d x y z : Option Micros)
    → option_map (λ (m : Micros). m.0) a ≡ due_of (arrival w) → option_map (λ (m : Micros). m.0) b ≡ due_of (answer w)
    → option_map (λ (m : Micros). m.0) c ≡ due_of (timer w) → option_map (λ (m : Micros). m.0) d ≡ due_of (idle w)
    → option_map (λ (m : Micros). m.0) x ≡ least (option_map (λ (m : Micros). m.0) a) (option_map (λ (m : Micros). m.0) b)
    → option_map (λ (m : Micros). m.0) y ≡ least (option_map (λ (m : Micros). m.0) x) (option_map (λ (m : Micros). m.0) c)
    → option_map (λ (m : Micros). m.0) z ≡ least (option_map (λ (m : Micros). m.0) y) (option_map (λ (m : Micros). m.0) d)
    → option_map (λ (m : Micros). m.0) z ≡ due_of (first_waiting w)
least_of_four w a b c d x y z ea eb ec ed ex ey ez =
    let two = ex ∙ ap (λ t. least t (moment b)) ea ∙ ap (least (due_of (arrival w))) eb in
    let three = ey ∙ ap (λ t. least t (moment c)) two ∙ ap (least (least (due_of (arrival w)) (due_of (answer w)))) ec in
    ez ∙ ap (λ t. least t (moment d)) three ∙ ap (least (least (least (due_of (arrival w)) (due_of (answer w))) (due_of (timer w)))) ed
    ∙ sym (due_of_four w)

-- ---- an item is taken

pub seen_takes : (item : InParallel → Option Item) (old seen : InParallel) (given : Option Taken) (new : InParallel) → old ≡ seen
    → Takes (item old) old given new → Takes (item seen) seen given new
seen_takes item old seen given new is takes = subst (λ s. Takes (item s) s given new) is takes

pub same_takes : (item other : Option Item) (old : InParallel) (given : Option Taken) (new : InParallel) → other ≡ item
    → Takes item old given new → Takes other old given new
same_takes item other old given new is takes = subst (λ o. Takes o old given new) (sym is) takes

pub takes_none : (item : Option Item) (old : InParallel) → item ≡ None → Takes item old None old
takes_none item old is = subst (λ o. Takes o old None old) (sym is) (record { taken = refl; some = refl; left = refl })

pub due_of_page : (p : Page) → due_of (first_item p) ≡ least (due_of (first_waiting (waiting_of p))) (next_frame p)
due_of_page p =
    ap due_of (first_of_page p) ∙ due_earlier (first_waiting (waiting_of p)) (first_item_of (frame_items (next_frame p)))
    ∙ ap (least (due_of (first_waiting (waiting_of p)))) (by (next_frame p))
  where
    by : (o : Option ℕ) → due_of (first_item_of (frame_items o)) ≡ o
    by None = refl
    by (Some t) = refl

-- ---- an id is cleared

pub clears_timer : (id : ℕ) (owners : List TimerOwner) (p : Page) → AreOwners owners p → clear_timer id p ≡ cleared_by (owner_of id owners) id p
clears_timer id owners p are =
    ap (λ b. cond b (emit (Drop (registration_with_id id 1 p.registrations)) (clear_id id p)) p) (sym (are.there id)) ∙ by (owner_of id owners) refl
  where
    by : (o : Option ℕ) → owner_of id owners ≡ o → cond (is_there o) (emit (Drop (registration_with_id id 1 p.registrations)) (clear_id id p)) p ≡ cleared_by o id p
    by None e = refl
    by (Some r) e = ap (λ n. emit (Drop n) (clear_id id p)) (are.named id r e)
