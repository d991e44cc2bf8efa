-- What waits once a list has changed.
use Rattle.std.proofs.Common.{◌≡◌, ◌≢◌, ◌⊎◌, ℕ, ◌≤◌, ◌<◌, true, false, cond, not, List, [], ◌∷◌, ◌++◌, map, length, drop, Option, Some, None, refl, sym, ◌∙◌, ap, subst, inl, inr, arith}
use Rattle.std.specs.List.{find, filter}
use Rattle.std.specs.Option.{option_map, option_or}
use Rattle.std.proofs.lemmas.List.{append_assoc, map-append}
use Rattle.std.proofs.lemmas.List.Elements.{filter-append}
use Rattle.std.proofs.lemmas.List.Folds.{find-append}
use Rattle.cell_room.specs.declared.room.Cell.{Cell}
use Rattle.task_pool.specs.Lists.{Entry, Lists, list_of, in_cell, without, numbered, entry_of}
use Rattle.task_pool.specs.Taken.{taken, taken_from, Leaves}
use Rattle.task_pool.specs.declared.pool.Unlinked.{Unlinked}
use Rattle.task_pool.proofs.Changes.{set_elsewhere}
use Rattle.post_task.specs.Waiting.{Waiting, Among, Inserted, ordered, has_cell, lacks_cell}
use Rattle.post_task.specs.Levels.{Queue, in_queue, of_queue, waiting_in, Above, Rises, Lone, AreKept}
use Rattle.post_task.proofs.Best.{InQueues, among_queue}

pub lone_in : (n : ℕ) (qs : List Queue) (q : Queue) → Lone n qs → InQueues q qs → q.list ≢ n
lone_in n [] q l i = absurd i
lone_in n (p ∷ ps) q l i = elim i [ inl e ↦ λ x. l.0 (ap (λ (y : Queue). y.list) e ∙ x) | inr j ↦ lone_in n ps q l.1 j ]

module _ {T : Type 0} where
  -- ---- the lists stay kept

  above_without : (c : Cell) (n : ℕ) (es : List (Entry T)) → Above n es → Above n (without c es)
  above_without c n [] a = tt
  above_without c n (e ∷ es) a =
      let r = above_without c n es a.1 in
      elim (in_cell c e) as (λ t. Above n (cond (not t) (e ∷ without c es) (without c es))) [ true ↦ r | false ↦ (a.0, r) ]

  pub rises_without : (c : Cell) (es : List (Entry T)) → Rises es → Rises (without c es)
  rises_without c [] r = tt
  rises_without c (e ∷ es) r =
      let s = rises_without c es r.1 in
      elim (in_cell c e) as (λ t. Rises (cond (not t) (e ∷ without c es) (without c es))) [ true ↦ s | false ↦ (above_without c e.number es r.0, s) ]

  pub rises_drop : (es : List (Entry T)) → Rises es → Rises (drop 1 es)
  rises_drop [] r = tt
  rises_drop (e ∷ es) r = r.1

  abbrev pub AllBelow : ℕ → List (Entry T) → Type 0
  AllBelow n [] = Unit {0}
  AllBelow n (e ∷ es) = (e.number < n) × AllBelow n es

  above_push : (n : ℕ) (es : List (Entry T)) (e : Entry T) → Above n es → n < e.number → Above n (es ++ e ∷ [])
  above_push n [] e a h = (h, tt)
  above_push n (x ∷ xs) e a h = (a.0, above_push n xs e a.1 h)

  pub rises_push : (es : List (Entry T)) (e : Entry T) → Rises es → AllBelow e.number es → Rises (es ++ e ∷ [])
  rises_push [] e r b = (tt, tt)
  rises_push (x ∷ xs) e r b = (above_push x.number xs e r.0 b.0, rises_push xs e r.1 b.1)

  each_below : (q : Queue) (n : ℕ) (es : List (Entry T)) → ((u : Waiting T) → Among u (map (in_queue q) es) → u.order < n) → AllBelow n es
  each_below q n [] h = tt
  each_below q n (e ∷ es) h = (h (in_queue q e) (inl refl), each_below q n es (λ u a. h u (inr a)))

  pub queue_below : (pool : Lists T) (qs : List Queue) (q : Queue) (n : ℕ) → InQueues q qs → ((u : Waiting T) → Among u (waiting_in pool qs) → u.order < n) → AllBelow n (list_of pool q.list)
  queue_below pool qs q n i h = each_below q n (list_of pool q.list) (λ u a. h u (among_queue pool qs q u i a))

  pub kept_each : (old new : Lists T) (qs : List Queue) → length old.lists ≤ length new.lists → ((l : ℕ) → Rises (list_of old l) → Rises (list_of new l)) → AreKept old qs → AreKept new qs
  kept_each old new [] more h k = tt
  kept_each old new (q ∷ qs) more h k = (omega (arith, k.0, more), h q.list k.1, k.2, kept_each old new qs more h k.3)

  pub inside : (pool : Lists T) (qs : List Queue) (q : Queue) → AreKept pool qs → InQueues q qs → q.list < length pool.lists
  inside pool [] q k i = absurd i
  inside pool (p ∷ ps) q k i = elim i [ inl e ↦ subst (λ (x : Queue). x.list < length pool.lists) e k.0 | inr j ↦ inside pool ps q k.3 j ]

  pub rising : (pool : Lists T) (qs : List Queue) (q : Queue) → AreKept pool qs → InQueues q qs → Rises (list_of pool q.list)
  rising pool [] q k i = absurd i
  rising pool (p ∷ ps) q k i = elim i [ inl e ↦ subst (λ (x : Queue). Rises (list_of pool x.list)) e k.1 | inr j ↦ rising pool ps q k.3 j ]

  -- ---- one list has one task more

  same_waiting : (old new : Lists T) (n : ℕ) (qs : List Queue) → Lone n qs → ((l : ℕ) → l ≢ n → list_of new l ≡ list_of old l) → waiting_in new qs ≡ waiting_in old qs
  same_waiting old new n [] l h = refl
  same_waiting old new n (q ∷ qs) l h =
      ap (λ (es : List (Entry T)). map (in_queue q) es ++ waiting_in new qs) (h q.list l.0) ∙ ap (λ (w : List (Waiting T)). of_queue old q ++ w) (same_waiting old new n qs l.1 h)

  inserted_here : (old new : Lists T) (q : Queue) (qs : List Queue) (front back : List (Entry T)) (e : Entry T) → Lone q.list qs → ((l : ℕ) → l ≢ q.list → list_of new l ≡ list_of old l)
      → list_of old q.list ≡ front ++ back → list_of new q.list ≡ front ++ e ∷ back → Inserted (in_queue q e) (waiting_in old (q ∷ qs)) (waiting_in new (q ∷ qs))
  inserted_here old new q qs front back e lone others before after =
      let rest : waiting_in new qs ≡ waiting_in old qs = same_waiting old new q.list qs lone others in
      let f = in_queue q in
      record {
        front = map f front;
        back = map f back ++ waiting_in old qs;
        before =
            ap (λ (es : List (Entry T)). map f es ++ waiting_in old qs) before
            ∙ ap (λ (w : List (Waiting T)). w ++ waiting_in old qs) (map-append f front back)
            ∙ append_assoc (map f front) (map f back) (waiting_in old qs);
        after =
            ap (λ (es : List (Entry T)). map f es ++ waiting_in new qs) after
            ∙ ap (λ (w : List (Waiting T)). map f (front ++ e ∷ back) ++ w) rest
            ∙ ap (λ (w : List (Waiting T)). w ++ waiting_in old qs) (map-append f front (e ∷ back))
            ∙ append_assoc (map f front) (map f (e ∷ back)) (waiting_in old qs);
      }

  pub inserted : (pool old new : Lists T) (qs : List Queue) (q : Queue) (front back : List (Entry T)) (e : Entry T) → AreKept pool qs → InQueues q qs → ((l : ℕ) → l ≢ q.list → list_of new l ≡ list_of old l)
      → list_of old q.list ≡ front ++ back → list_of new q.list ≡ front ++ e ∷ back → Inserted (in_queue q e) (waiting_in old qs) (waiting_in new qs)
  inserted pool old new [] q front back e k i others before after = absurd i
  inserted pool old new (p ∷ ps) q front back e k i others before after =
      elim i [
        | inl same ↦
            let P : Queue → Type 0 = λ x. Lone x.list ps in
            let Q : Queue → Type 0 = λ x. Inserted (in_queue q e) (waiting_in old (x ∷ ps)) (waiting_in new (x ∷ ps)) in
            subst Q (sym same) (inserted_here old new q ps front back e (subst P same k.2) others before after)
        | inr j ↦
            let r = inserted pool old new ps q front back e k.3 j others before after in
            let m = of_queue old p in
            let here : of_queue new p ≡ m = ap (map (in_queue p)) (others p.list (λ x. lone_in p.list ps q k.2 j (sym x))) in
            record {
              front = m ++ r.front;
              back = r.back;
              before = ap (λ (w : List (Waiting T)). m ++ w) r.before ∙ sym (append_assoc m r.front r.back);
              after = ap (λ (w : List (Waiting T)). w ++ waiting_in new ps) here ∙ ap (λ (w : List (Waiting T)). m ++ w) r.after ∙ sym (append_assoc m r.front (in_queue q e ∷ r.back));
            }
      ]

  -- ---- a task is taken out by its cell

  map_without : (c : Cell) (q : Queue) (es : List (Entry T)) → map (in_queue q) (without c es) ≡ filter (lacks_cell c) (map (in_queue q) es)
  map_without c q [] = refl
  map_without c q (e ∷ es) =
      let r = map_without c q es in
      elim (in_cell c e) as (λ t. map (in_queue q) (cond (not t) (e ∷ without c es) (without c es)) ≡ cond (not t) (in_queue q e ∷ filter (lacks_cell c) (map (in_queue q) es)) (filter (lacks_cell c) (map (in_queue q) es))) [
        | true ↦ r
        | false ↦ ap (λ (w : List (Waiting T)). in_queue q e ∷ w) r
      ]

  pub waiting_without : (c : Cell) (old new : Lists T) (qs : List Queue) → ((l : ℕ) → list_of new l ≡ without c (list_of old l)) → waiting_in new qs ≡ filter (lacks_cell c) (waiting_in old qs)
  waiting_without c old new [] h = refl
  waiting_without c old new (q ∷ qs) h =
      ap (λ (es : List (Entry T)). map (in_queue q) es ++ waiting_in new qs) (h q.list)
      ∙ ap (λ (w : List (Waiting T)). w ++ waiting_in new qs) (map_without c q (list_of old q.list))
      ∙ ap (λ (w : List (Waiting T)). filter (lacks_cell c) (of_queue old q) ++ w) (waiting_without c old new qs h)
      ∙ sym (filter-append (lacks_cell c) (of_queue old q) (waiting_in old qs))

  -- the queue of a task that is found
  pub record InQueue (c : Cell) (pool : Lists T) (qs : List Queue) (w : Waiting T) : Type 0 where
    queue : Queue
    queued : InQueues queue qs
    entry : Entry T
    found : find (in_cell c) (list_of pool queue.list) ≡ Some entry
    is : in_queue queue entry ≡ w

  map_find : (c : Cell) (q : Queue) (es : List (Entry T)) → find (has_cell c) (map (in_queue q) es) ≡ option_map (in_queue q) (find (in_cell c) es)
  map_find c q [] = refl
  map_find c q (e ∷ es) =
      let r = map_find c q es in
      elim (in_cell c e) as (λ t. cond t (Some (in_queue q e)) (find (has_cell c) (map (in_queue q) es)) ≡ option_map (in_queue q) (cond t (Some e) (find (in_cell c) es))) [ true ↦ refl | false ↦ r ]

  task_is : (v w : Waiting T) → Some v ≡ Some w → v ≡ w
  task_is v w h = cc

  no_task : (w : Waiting T) → None ≡ Some w → ⊥
  no_task w h = cc

  from_either : (c : Cell) (pool : Lists T) (q : Queue) (qs : List Queue) (o : Option (Entry T)) (rest : Option (Waiting T)) (w : Waiting T) → find (in_cell c) (list_of pool q.list) ≡ o → option_or (option_map (in_queue q) o) rest ≡ Some w → InQueue c pool (q ∷ qs) w ⊎ (rest ≡ Some w)
  from_either c pool q qs None rest w is h = inr h
  from_either c pool q qs (Some e) rest w is h = inl (record { queue = q; queued = inl refl; entry = e; found = is; is = task_is (in_queue q e) w h })

  find_waiting : (c : Cell) (pool : Lists T) (qs : List Queue) (w : Waiting T) → find (has_cell c) (waiting_in pool qs) ≡ Some w → InQueue c pool qs w
  find_waiting c pool [] w h = absurd (no_task w h)
  find_waiting c pool (q ∷ qs) w h =
      let split : option_or (option_map (in_queue q) (find (in_cell c) (list_of pool q.list))) (find (has_cell c) (waiting_in pool qs)) ≡ Some w =
      ap (λ (o : Option (Waiting T)). option_or o (find (has_cell c) (waiting_in pool qs))) (sym (map_find c q (list_of pool q.list))) ∙ sym (find-append (has_cell c) (of_queue pool q) (waiting_in pool qs)) ∙ h in
      elim (from_either c pool q qs (find (in_cell c) (list_of pool q.list)) (find (has_cell c) (waiting_in pool qs)) w refl split) [
        | inl f ↦ f
        | inr r ↦ let f = find_waiting c pool qs w r in record { queue = f.queue; queued = inr f.queued; entry = f.entry; found = f.found; is = f.is }
      ]

  none_then : (o : Option (Entry T)) (result : Option (ℕ × T)) → result ≡ option_map numbered o → (o ≢ None → ⊥) → result ≡ None
  none_then None result is h = is
  none_then (Some e) result is h = absurd (h (λ x. cc))

  pub removed : (c : Cell) (pool : Lists T) (qs : List Queue) (out : Option (Unlinked T)) (o : Option (Waiting T)) → find (has_cell c) (waiting_in pool qs) ≡ o → option_map taken out ≡ option_map numbered (entry_of pool c)
      → ((l : ℕ) (e : Entry T) → find (in_cell c) (list_of pool l) ≡ Some e → out ≡ Some (taken_from l e)) → (entry_of pool c ≢ None → find (has_cell c) (waiting_in pool qs) ≢ None) → option_map taken out ≡ option_map ordered o
  removed c pool qs out None at is there ours = none_then (entry_of pool c) (option_map taken out) is (λ live. ours live at)
  removed c pool qs out (Some w) at is there ours =
      let f = find_waiting c pool qs w at in
      ap (option_map taken) (there f.queue.list f.entry f.found) ∙ ap (λ (v : Waiting T). Some (ordered v)) f.is

  no_numbers : (out : Unlinked T) → Some (taken out) ≡ None → ⊥
  no_numbers out h = cc

  unlinked_is : (a b : Unlinked T) → Some a ≡ Some b → a ≡ b
  unlinked_is a b h = cc

  -- the list that a task was taken out of is that of a queue
  pub removed_from : (c : Cell) (pool : Lists T) (qs : List Queue) (out : Unlinked T) (o : Option (Waiting T)) → find (has_cell c) (waiting_in pool qs) ≡ o → Some (taken out) ≡ option_map numbered (entry_of pool c)
      → ((l : ℕ) (e : Entry T) → find (in_cell c) (list_of pool l) ≡ Some e → Some out ≡ Some (taken_from l e)) → (entry_of pool c ≢ None → find (has_cell c) (waiting_in pool qs) ≢ None) → (q : Queue) × InQueues q qs × (out.list.0 ≡ q.list)
  removed_from c pool qs out None at is there ours = absurd (no_numbers out (removed c pool qs (Some out) None at is there ours))
  removed_from c pool qs out (Some w) at is there ours =
      let f = find_waiting c pool qs w at in
      (f.queue, f.queued, ap (λ (u : Unlinked T). u.list.0) (unlinked_is out (taken_from f.queue.list f.entry) (there f.queue.list f.entry f.found)))

  pub removed_others : (c : Cell) (old new : Lists T) (qs : List Queue) (out : Unlinked T) → Some (taken out) ≡ option_map numbered (entry_of old c)
      → ((l : ℕ) (e : Entry T) → find (in_cell c) (list_of old l) ≡ Some e → Some out ≡ Some (taken_from l e)) → (entry_of old c ≢ None → find (has_cell c) (waiting_in old qs) ≢ None) → Leaves c out.list.0 old new
      → (l : ℕ) → Lone l qs → list_of new l ≡ list_of old l
  removed_others c old new qs out is there ours leaves l lone =
      let from = removed_from c old qs out (find (has_cell c) (waiting_in old qs)) refl is there ours in
      set_elsewhere old new out.list.0 (without c (list_of old out.list.0)) leaves.lists l (λ same. lone_in l qs from.0 lone from.1 (sym (same ∙ from.2)))
