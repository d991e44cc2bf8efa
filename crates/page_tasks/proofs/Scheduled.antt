-- The scheduler tasks that wait, as calls change them.
use Rattle.std.proofs.Common.{◌≡◌, ◌≢◌, ◌⊎◌, ℕ, suc, ◌+◌, ◌<◌, Bool, true, false, cond, not, List, [], ◌∷◌, ◌++◌, map, Option, None, Some, eqb, eq-eqb, refl, sym, ◌∙◌, ap, subst, inl, inr, arith}
use Rattle.std.specs.Prelude.{unwrap_or}
use Rattle.std.specs.List.{find, filter}
use Rattle.std.specs.Option.{is_some}
use Rattle.std.proofs.lemmas.Bool.{eqb-true}
use Rattle.std.proofs.lemmas.Bool.Decides.{nat_tests}
use Rattle.std.proofs.lemmas.List.{map-append}
use Rattle.page_types.specs.declared.Priority.TheVariants.{UserVisible}
use Rattle.page_parts.specs.Words.{and_last, without, is_there}
use Rattle.page_model.specs.State as Model
use Rattle.cell_room.specs.declared.room.Cell.{Cell}
use Rattle.task_pool.specs.Lists.{same_cell}
use Rattle.task_pool.specs.declared.pool.Ticket.{Ticket}
use Rattle.task_pool.proofs.CellTests.{same_cell-refl, same_cell-false, cell_cases}
use Rattle.post_task.specs.declared.level.Level.{Level}
use Rattle.post_task.specs.declared.level.PrioSource.{PrioSource}
use Rattle.post_task.specs.Waiting.{Waiting, Among, Inserted, has_cell, lacks_cell}
use Rattle.post_task.specs.Levels.{priority_in, new_task}
use Rattle.post_task.specs.InOrder.{in_order, AreLater, OrdersRise}
use Rattle.post_task.proofs.InOrder.{enqueued_last, taken_out, removed_by_cell, to_order, from_order}
use Rattle.post_task.proofs.Waits.{among_inserted}
use Rattle.page_tasks.specs.declared.page_task.PageTask.{PageTask}
use Rattle.page_tasks.specs.declared.page_task.PageTask.TheVariants.{OfScheduler}
use Rattle.page_tasks.specs.Seen.{registration_in, prio_source}
use Rattle.page_tasks.specs.Standing.{sched_task_in, sched_tasks_in, IsKnown, WaitsIn, AreScheduled}

-- ---- numbers and options

pub same_number : (n : ℕ) → eqb n n ≡ true
same_number n = eq-eqb n n refl

other_number : (m n : ℕ) → m ≢ n → eqb m n ≡ false
other_number m n h = grind (arith, nat_tests, h)

pub turned : (m n : ℕ) → eqb m n ≡ eqb n m
turned m n = grind (arith, nat_tests)

pub inside : {X : Type 0} (a b : X) → Some a ≡ Some b → a ≡ b
inside a b e = ap (λ o. unwrap_or o a) e

pub not_there : {X : Type 0} (a : X) → None ≡ Some a → ⊥
not_there a e = cc

-- ---- among

abbrev pub Waits : Type 0
Waits = Waiting PageTask

front_among : (t u : Waits) (front back : List Waits) → Among u (front ++ back) → Among u (front ++ t ∷ back)
front_among t u [] back i = inr i
front_among t u (x ∷ xs) back i = elim i [ inl e ↦ inl e | inr j ↦ inr (front_among t u xs back j) ]

itself_among : (t : Waits) (front back : List Waits) → Among t (front ++ t ∷ back)
itself_among t [] back = inl refl
itself_among t (x ∷ xs) back = inr (itself_among t xs back)

pub among_more : (t u : Waits) (xs ys : List Waits) → Inserted t xs ys → Among u xs → Among u ys
among_more t u xs ys i a = subst (λ (w : List Waits). Among u w) (sym i.after) (front_among t u i.front i.back (subst (λ (w : List Waits). Among u w) i.before a))

pub inserted_among : (t : Waits) (xs ys : List Waits) → Inserted t xs ys → Among t ys
inserted_among t xs ys i = subst (λ (w : List Waits). Among t w) (sym i.after) (itself_among t i.front i.back)

module _ (p : Waits → Bool) where
  pub among_filter : (w : Waits) (xs : List Waits) → Among w (filter p xs) → Among w xs × (p w ≡ true)
  among_filter w [] i = absurd i
  among_filter w (x ∷ xs) i = by (p x) refl (among_filter w xs) i
    where
      by : (b : Bool) → p x ≡ b → (Among w (filter p xs) → Among w xs × (p w ≡ true)) → Among w (cond b (x ∷ filter p xs) (filter p xs)) → Among w (x ∷ xs) × (p w ≡ true)
      by true is rest i = elim i [ inl e ↦ (inl e, subst (λ (u : Waits). p u ≡ true) e is) | inr j ↦ (inr (rest j).0, (rest j).1) ]
      by false is rest i = (inr (rest i).0, (rest i).1)

  pub filter_among : (w : Waits) (xs : List Waits) → Among w xs → p w ≡ true → Among w (filter p xs)
  filter_among w [] i keep = absurd i
  filter_among w (x ∷ xs) i keep = by (p x) refl (λ j. filter_among w xs j keep) i
    where
      by : (b : Bool) → p x ≡ b → (Among w xs → Among w (filter p xs)) → Among w (x ∷ xs) → Among w (cond b (x ∷ filter p xs) (filter p xs))
      by true is rest i = elim i [ inl e ↦ inl e | inr j ↦ inr (rest j) ]
      by false is rest i = elim i [ inl e ↦ absurd (let h : p w ≡ false = subst (λ (u : Waits). p u ≡ false) e is in cc) | inr j ↦ rest j ]

  later_filter : (n : ℕ) (xs : List Waits) → AreLater n xs → AreLater n (filter p xs)
  later_filter n [] l = tt
  later_filter n (x ∷ xs) l = by (p x) (later_filter n xs l.1)
    where
      by : (b : Bool) → AreLater n (filter p xs) → AreLater n (cond b (x ∷ filter p xs) (filter p xs))
      by true rest = (l.0, rest)
      by false rest = rest

  pub rise_filter : (xs : List Waits) → OrdersRise xs → OrdersRise (filter p xs)
  rise_filter [] r = tt
  rise_filter (x ∷ xs) r = by (p x) (rise_filter xs r.1)
    where
      by : (b : Bool) → OrdersRise (filter p xs) → OrdersRise (cond b (x ∷ filter p xs) (filter p xs))
      by true rest = (later_filter x.order xs r.0, rest)
      by false rest = rest

  filter_all : (xs : List Waits) → ((w : Waits) → Among w xs → p w ≡ true) → filter p xs ≡ xs
  filter_all [] all = refl
  filter_all (x ∷ xs) all = ap (λ (b : Bool). cond b (x ∷ filter p xs) (filter p xs)) (all x (inl refl)) ∙ ap (λ (ys : List Waits). x ∷ ys) (filter_all xs (λ w i. all w (inr i)))

  filter_one : (t : Waits) (front back : List Waits) → p t ≡ false → ((w : Waits) → Among w (front ++ back) → p w ≡ true) → filter p (front ++ t ∷ back) ≡ front ++ back
  filter_one t [] back gone all = ap (λ (b : Bool). cond b (t ∷ filter p back) (filter p back)) gone ∙ filter_all back all
  filter_one t (x ∷ xs) back gone all =
      ap (λ (b : Bool). cond b (x ∷ filter p (xs ++ t ∷ back)) (filter p (xs ++ t ∷ back))) (all x (inl refl))
      ∙ ap (λ (ys : List Waits). x ∷ ys) (filter_one t xs back gone (λ w i. all w (inr i)))

-- ---- orders

later_last : (n : ℕ) (t : Waits) (xs : List Waits) → n < t.order → AreLater n xs → AreLater n (xs ++ t ∷ [])
later_last n t [] h l = (h, tt)
later_last n t (x ∷ xs) h l = (l.0, later_last n t xs h l.1)

rise_last : (t : Waits) (xs : List Waits) → OrdersRise xs → ((u : Waits) → Among u xs → u.order < t.order) → OrdersRise (xs ++ t ∷ [])
rise_last t [] r all = (tt, tt)
rise_last t (x ∷ xs) r all = (later_last x.order t xs (all x (inl refl)) r.0, rise_last t xs r.1 (λ u i. all u (inr i)))

later_than : (n : ℕ) (u : Waits) (xs : List Waits) → AreLater n xs → Among u xs → n < u.order
later_than n u [] l i = absurd i
later_than n u (x ∷ xs) l i = elim i [ inl e ↦ subst (λ (w : Waits). n < w.order) e l.0 | inr j ↦ later_than n u xs l.1 j ]

not_twice : (t : Waits) (front back : List Waits) → OrdersRise (front ++ t ∷ back) → Among t (front ++ back) → ⊥
not_twice t [] back r i = absurd (omega (arith, later_than t.order t back r.0 i))
not_twice t (x ∷ xs) back r i =
    elim i [
      | inl e ↦ let h = later_than x.order t (xs ++ t ∷ back) r.0 (itself_among t xs back) in let o = ap (λ (w : Waits). w.order) e in absurd (omega (arith, h, o))
      | inr j ↦ not_twice t xs back r.1 j
    ]

-- a task that was taken out waits no more
once_inserted : (t : Waits) (xs ys : List Waits) → Inserted t xs ys → OrdersRise (in_order ys) → Among t xs → ⊥
once_inserted t xs ys i r a =
    let o = taken_out t ys xs i in
    not_twice t o.front o.back (subst (λ (w : List Waits). OrdersRise w) o.after r) (subst (λ (w : List Waits). Among t w) o.before (to_order t xs a))

-- ---- a task is enqueued

module _ (levels : List Level) (ws more : List Waits) (tickets after : ℕ → Option Ticket) (i j made n r : ℕ) (source : PrioSource) (continuation : Bool) (cell : Cell) where
  abbrev pub new_one : Waits
  new_one = new_task levels cell source continuation n (OfScheduler (record { registration = r; source = source; continuation = continuation }))

  pub record IsPut : Type 0 where
    pub next : n ≡ suc made
    pub inserted : Inserted new_one ws more
    pub generation : cell.generation ≡ i
    pub inserts : j ≡ i + 1
    pub none : tickets r ≡ None
    pub ticket : (q : ℕ) → after q ≡ cond (eqb r q) (Some (record { 0 = cell })) (tickets q)
    pub priority : priority_in levels source ≡ Some (unwrap_or (priority_in levels source) UserVisible)

  module _ (a : AreScheduled levels ws tickets i made) (put : IsPut) where
    earlier : (u : Waits) → Among u ws → u.order < n
    earlier u in' = omega (arith, (a.each u in').below, put.next)

    order_is : in_order more ≡ in_order ws ++ new_one ∷ []
    order_is = enqueued_last new_one ws more put.inserted earlier

    other_registration : (w : Waits) → Among w ws → eqb r (registration_in w.item) ≡ false
    other_registration w in' = other_number r (registration_in w.item) (λ e. not_there (record { 0 = w.cell }) (sym put.none ∙ ap tickets e ∙ (a.each w in').ticket))

    known_now : (w : Waits) → (new_one ≡ w) ⊎ Among w ws → IsKnown levels after j n w
    known_now w which = elim which [
      | inl e ↦ subst (λ (u : Waits). IsKnown levels after j n u) e (record {
        posted = refl;
        priority = put.priority;
        ticket = put.ticket r ∙ ap (λ (b : Bool). cond b (Some (record { 0 = cell })) (tickets r)) (same_number r);
        below = omega arith;
        older = omega (arith, put.generation, put.inserts);
      })
      | inr in' ↦ let k = a.each w in' in record {
        posted = k.posted;
        priority = k.priority;
        ticket = put.ticket (registration_in w.item) ∙ ap (λ (b : Bool). cond b (Some (record { 0 = cell })) (tickets (registration_in w.item))) (other_registration w in') ∙ k.ticket;
        below = omega (arith, k.below, put.next);
        older = omega (arith, k.older, put.inserts);
      }
    ]

    apart_cell : (w : Waits) → Among w ws → w.cell ≡ cell → ⊥
    apart_cell w in' e = let g = ap (λ (c : Cell). c.generation) e in absurd (omega (arith, (a.each w in').older, put.generation, g))

    same_cells : (u v : Waits) → (new_one ≡ u) ⊎ Among u ws → (new_one ≡ v) ⊎ Among v ws → u.cell ≡ v.cell → u ≡ v
    same_cells u v p q e = elim p [
      | inl x ↦ elim q [ inl y ↦ sym x ∙ y | inr y ↦ absurd (apart_cell v y (sym e ∙ sym (ap (λ (w : Waits). w.cell) x))) ]
      | inr x ↦ elim q [ inl y ↦ absurd (apart_cell u x (e ∙ sym (ap (λ (w : Waits). w.cell) y))) | inr y ↦ a.cells u v x y e ]
    ]

    waits_now : (q : ℕ) (t : Ticket) (b : Bool) → eqb r q ≡ b → cond b (Some (record { 0 = cell })) (tickets q) ≡ Some t → WaitsIn q t.0 more
    waits_now q t true is e =
        record {
          task = new_one;
          waits = inserted_among new_one ws more put.inserted;
          cell_is = ap (λ (x : Ticket). x.0) (inside (record { 0 = cell }) t e);
          registration = eqb-true r q is;
        }
    waits_now q t false is e =
        let k = a.known q t e in
        record { task = k.task; waits = among_more new_one k.task ws more put.inserted k.waits; cell_is = k.cell_is; registration = k.registration }

    pub put_scheduled : AreScheduled levels more after j n
    put_scheduled =
        record {
          rise = subst (λ (xs : List Waits). OrdersRise xs) (sym order_is) (rise_last new_one (in_order ws) a.rise (λ u in'. earlier u (from_order u ws in')));
          each = λ w in'. known_now w (among_inserted new_one w ws more put.inserted in');
          cells = λ u v p q e. same_cells u v (among_inserted new_one u ws more put.inserted p) (among_inserted new_one v ws more put.inserted q) e;
          known = λ q t e. waits_now q t (eqb r q) refl (sym (put.ticket q) ∙ e);
        }

    pub put_seen : sched_tasks_in more ≡ and_last (sched_tasks_in ws) (record { registration = r; source = prio_source source; continuation = continuation; order = n })
    put_seen = ap (map sched_task_in) order_is ∙ map-append sched_task_in (in_order ws) (new_one ∷ [])

-- ---- a registration's task leaves

module _ (r : ℕ) (cell : Cell) where
  left_of : (xs : List Waits) → ((w : Waits) → Among w xs → has_cell cell w ≡ eqb (registration_in w.item) r) → map sched_task_in (filter (lacks_cell cell) xs) ≡ without (λ t. eqb t.registration r) (map sched_task_in xs)
  left_of [] same = refl
  left_of (x ∷ xs) same = ap (λ (b : Bool). map sched_task_in (cond (not b) (x ∷ filter (lacks_cell cell) xs) (filter (lacks_cell cell) xs))) (same x (inl refl)) ∙ by (eqb (registration_in x.item) r) (left_of xs (λ w i. same w (inr i)))
    where
      by : (b : Bool) → map sched_task_in (filter (lacks_cell cell) xs) ≡ without (λ t. eqb t.registration r) (map sched_task_in xs)
          → map sched_task_in (cond (not b) (x ∷ filter (lacks_cell cell) xs) (filter (lacks_cell cell) xs)) ≡ cond b (without (λ t. eqb t.registration r) (map sched_task_in xs)) (sched_task_in x ∷ without (λ t. eqb t.registration r) (map sched_task_in xs))
      by true rest = rest
      by false rest = ap (λ (ts : List Model.SchedTask). sched_task_in x ∷ ts) rest

module _ (r : ℕ) where
  abbrev pub is_for : Model.SchedTask → Bool
  is_for t = eqb t.registration r

  found : (w : Waits) (xs : List Waits) → Among w xs → registration_in w.item ≡ r → is_there (find is_for (map sched_task_in xs)) ≡ true
  found w [] i e = absurd i
  found w (x ∷ xs) i e = by (eqb (registration_in x.item) r) refl i (λ j. found w xs j e)
    where
      by : (b : Bool) → eqb (registration_in x.item) r ≡ b → Among w (x ∷ xs) → (Among w xs → is_there (find is_for (map sched_task_in xs)) ≡ true) → is_there (cond b (Some (sched_task_in x)) (find is_for (map sched_task_in xs))) ≡ true
      by true is i rest = refl
      by false is i rest = elim i [
        | inl s ↦ absurd (let h : eqb (registration_in x.item) r ≡ true = ap (λ (u : Waits). eqb (registration_in u.item) r) s ∙ ap (λ (m : ℕ). eqb m r) e ∙ same_number r in cc)
        | inr j ↦ rest j
      ]

  none_found : (xs : List Waits) → ((w : Waits) → Among w xs → eqb (registration_in w.item) r ≡ false) → find is_for (map sched_task_in xs) ≡ None
  none_found [] none = refl
  none_found (x ∷ xs) none = ap (λ (b : Bool). cond b (Some (sched_task_in x)) (find is_for (map sched_task_in xs))) (none x (inl refl)) ∙ none_found xs (λ w i. none w (inr i))

  none_left : (xs : List Waits) → ((w : Waits) → Among w xs → eqb (registration_in w.item) r ≡ false) → without is_for (map sched_task_in xs) ≡ map sched_task_in xs
  none_left [] none = refl
  none_left (x ∷ xs) none =
      ap (λ (b : Bool). cond b (without is_for (map sched_task_in xs)) (sched_task_in x ∷ without is_for (map sched_task_in xs))) (none x (inl refl))
      ∙ ap (λ (ts : List Model.SchedTask). sched_task_in x ∷ ts) (none_left xs (λ w i. none w (inr i)))

module _ (levels : List Level) (ws : List Waits) (tickets : ℕ → Option Ticket) (inserts made : ℕ) (a : AreScheduled levels ws tickets inserts made) (r : ℕ) where
  none_for : tickets r ≡ None → (w : Waits) → Among w (in_order ws) → eqb (registration_in w.item) r ≡ false
  none_for none w i = other_number (registration_in w.item) r (λ e. not_there (record { 0 = w.cell }) (sym none ∙ sym (ap tickets e) ∙ (a.each w (from_order w ws i)).ticket))

  -- no ticket, no task
  pub no_task : tickets r ≡ None → find (is_for r) (sched_tasks_in ws) ≡ None
  no_task none = none_found r (in_order ws) (none_for none)

  pub nothing_left : tickets r ≡ None → without (is_for r) (sched_tasks_in ws) ≡ sched_tasks_in ws
  nothing_left none = none_left r (in_order ws) (none_for none)

  pub there_is : (t : Ticket) → tickets r ≡ Some t → is_there (find (is_for r) (sched_tasks_in ws)) ≡ true
  there_is t e = let k = a.known r t e in found r k.task (in_order ws) (to_order k.task ws k.waits) k.registration

  pub is_there_by : (o : Option Ticket) → tickets r ≡ o → is_some o ≡ is_there (find (is_for r) (sched_tasks_in ws))
  is_there_by None e = sym (ap is_there (no_task e))
  is_there_by (Some t) e = sym (there_is t e)

  pub no_ticket : find (is_for r) (sched_tasks_in ws) ≡ None → tickets r ≡ None
  no_ticket none = by (tickets r) refl
    where
      by : (o : Option Ticket) → tickets r ≡ o → o ≡ None
      by None e = refl
      by (Some t) e = absurd (let h = there_is t e in let g = ap is_there none in cc)

  module _ (t : Ticket) (there : tickets r ≡ Some t) where
    has_is : (w : Waits) → Among w ws → has_cell t.0 w ≡ eqb (registration_in w.item) r
    has_is w i =
        let k = a.known r t there in
        elim (cell_cases w.cell t.0) [
          | inl e ↦ let same : w ≡ k.task = a.cells w k.task i k.waits (e ∙ sym k.cell_is) in
              let reg : registration_in w.item ≡ r = ap (λ (u : Waits). registration_in u.item) same ∙ k.registration in
              ap (λ (c : Cell). same_cell c t.0) e ∙ same_cell-refl t.0 ∙ sym (ap (λ (m : ℕ). eqb m r) reg ∙ same_number r)
          | inr h ↦ same_cell-false w.cell t.0 h ∙ sym (other_number (registration_in w.item) r (λ e. h (ap (λ (x : Ticket). x.0) (inside (record { 0 = w.cell }) t (sym (a.each w i).ticket ∙ ap tickets e ∙ there)))))
        ]

    order_left : in_order (filter (lacks_cell t.0) ws) ≡ filter (lacks_cell t.0) (in_order ws)
    order_left = removed_by_cell t.0 ws

    pub left_seen : sched_tasks_in (filter (lacks_cell t.0) ws) ≡ without (is_for r) (sched_tasks_in ws)
    left_seen = ap (map sched_task_in) order_left ∙ left_of r t.0 (in_order ws) (λ w i. has_is w (from_order w ws i))

    lacks_is : (w : Waits) → Among w ws → lacks_cell t.0 w ≡ not (eqb (registration_in w.item) r)
    lacks_is w i = ap not (has_is w i)

    not_its : (b : Bool) → not b ≡ true → b ≡ false
    not_its true e = absurd (cc)
    not_its false e = refl

    module _ (after : ℕ → Option Ticket) (gone : (q : ℕ) → after q ≡ cond (eqb r q) None (tickets q)) where
      other_one : (w : Waits) → Among w (filter (lacks_cell t.0) ws) → eqb r (registration_in w.item) ≡ false
      other_one w i =
          let f = among_filter (lacks_cell t.0) w ws i in
          turned r (registration_in w.item) ∙ not_its (eqb (registration_in w.item) r) (sym (lacks_is w f.0) ∙ f.1)

      still_known : (w : Waits) → Among w (filter (lacks_cell t.0) ws) → IsKnown levels after inserts made w
      still_known w i =
          let k = a.each w (among_filter (lacks_cell t.0) w ws i).0 in
          record {
            posted = k.posted;
            priority = k.priority;
            ticket = gone (registration_in w.item) ∙ ap (λ (b : Bool). cond b None (tickets (registration_in w.item))) (other_one w i) ∙ k.ticket;
            below = k.below;
            older = k.older;
          }

      still_waits : (q : ℕ) (u : Ticket) (b : Bool) → eqb r q ≡ b → cond b None (tickets q) ≡ Some u → WaitsIn q u.0 (filter (lacks_cell t.0) ws)
      still_waits q u true is e = absurd (not_there u e)
      still_waits q u false is e =
          let k = a.known q u e in
          let keeps : lacks_cell t.0 k.task ≡ true = lacks_is k.task k.waits ∙ ap not (ap (λ (m : ℕ). eqb m r) k.registration ∙ turned q r ∙ is) in
          record { task = k.task; waits = filter_among (lacks_cell t.0) k.task ws k.waits keeps; cell_is = k.cell_is; registration = k.registration }

      pub left_scheduled : AreScheduled levels (filter (lacks_cell t.0) ws) after inserts made
      left_scheduled =
          record {
            rise = subst (λ (xs : List Waits). OrdersRise xs) (sym order_left) (rise_filter (lacks_cell t.0) (in_order ws) a.rise);
            each = still_known;
            cells = λ u v p q e. a.cells u v (among_filter (lacks_cell t.0) u ws p).0 (among_filter (lacks_cell t.0) v ws q).0 e;
            known = λ q u e. still_waits q u (eqb r q) refl (sym (gone q) ∙ e);
          }

  -- a task that was taken out has left its cell
  pub taken_by_cell : (t : Waits) (left : List Waits) → Inserted t left ws → left ≡ filter (lacks_cell t.cell) ws
  taken_by_cell t left i =
      let here : lacks_cell t.cell t ≡ false = ap not (same_cell-refl t.cell) in
      let apart : (w : Waits) → Among w left → lacks_cell t.cell w ≡ true = λ w in'.
      ap not (same_cell-false w.cell t.cell (λ e. once_inserted t left ws i a.rise (subst (λ (u : Waits). Among u left) (a.cells w t (among_more t w left ws i in') (inserted_among t left ws i) e) in'))) in
      i.before
      ∙ sym (ap (filter (lacks_cell t.cell)) i.after
      ∙ filter_one (lacks_cell t.cell) t i.front i.back here (λ w in'. apart w (subst (λ (xs : List Waits). Among w xs) (sym i.before) in')))
