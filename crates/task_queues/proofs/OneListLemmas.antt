-- The lists of all sources and the one list of tasks.
use Rattle.std.proofs.Common.{◌≡◌, ◌≢◌, ℕ, ◌<◌, Bool, true, false, cond, List, [], ◌∷◌, ◌++◌, map, Option, None, Some, drop, filter, eqb, ltb, refl, sym, subst, ap, ◌∙◌, arith}
use Rattle.std.specs.List.{AllByRecursion, find}
use Rattle.std.specs.Option.{option_map}
use Rattle.std.proofs.lemmas.Bool.{eqb-true, lt-ltb}
use Rattle.std.proofs.lemmas.Bool.Decides.{nat_tests}
use Rattle.std.proofs.lemmas.List.{map-append}
use Rattle.std.proofs.lemmas.List.Elements.{filter-append}
use Rattle.page_types.specs.declared.Source.{Source}
use Rattle.page_types.specs.declared.Source.TheVariants.{User, Net, Dom, Timer, Render, Sched, Idle}
use Rattle.page_parts.specs.Sources.{default_list, source_number, same_source}
use Rattle.page_parts.specs.Words.{and_last, without}
use Rattle.task_pool.specs.Lists.{Entry, first_entry}
use Rattle.task_queues.specs.OneList.{SourcedTask, sourced, is_of, with_task, in_order, of_each, merged, Rise, IsOneList, ListIs}

-- ---- sources

numbered_source : ℕ → Source
numbered_source n = cond (eqb n 0) User (cond (eqb n 1) Render (cond (eqb n 2) Sched (cond (eqb n 3) Timer (cond (eqb n 4) Net (cond (eqb n 5) Dom Idle)))))

number_of_source : (s : Source) → numbered_source (source_number s) ≡ s
unfolding numbered_source
number_of_source User = refl
number_of_source Net = refl
number_of_source Dom = refl
number_of_source Timer = refl
number_of_source Render = refl
number_of_source Sched = refl
number_of_source Idle = refl

same_is : (a b : Source) → same_source a b ≡ true → a ≡ b
same_is a b e = sym (number_of_source a) ∙ ap numbered_source (eqb-true (source_number a) (source_number b) e) ∙ number_of_source b

same_self : (s : Source) → same_source s s ≡ true
same_self User = refl
same_self Net = refl
same_self Dom = refl
same_self Timer = refl
same_self Render = refl
same_self Sched = refl
same_self Idle = refl

same_number : (n : ℕ) → eqb n n ≡ true
same_number n = grind (arith)

less_differs : (m n : ℕ) → m < n → eqb m n ≡ false
less_differs m n less = grind (arith, nat_tests)

not_less : (m n : ℕ) → m < n → ltb n m ≡ false
not_less m n less = grind (arith, nat_tests)

module _ {T : Type 0} where
  -- ---- what holds of each task

  all_kept : (P : SourcedTask T → Type 0) (p : SourcedTask T → Bool) (ts : List (SourcedTask T)) → AllByRecursion P ts → AllByRecursion P (filter p ts)
  all_kept P p [] all = tt
  all_kept P p (t ∷ ts) all = by (p t) (all_kept P p ts all.1)
    where
      by : (b : Bool) → AllByRecursion P (filter p ts) → AllByRecursion P (cond b (t ∷ filter p ts) (filter p ts))
      by true rest = (all.0, rest)
      by false rest = rest

  all_without : (P : SourcedTask T → Type 0) (p : SourcedTask T → Bool) (ts : List (SourcedTask T)) → AllByRecursion P ts → AllByRecursion P (without p ts)
  all_without P p [] all = tt
  all_without P p (t ∷ ts) all = by (p t) (all_without P p ts all.1)
    where
      by : (b : Bool) → AllByRecursion P (without p ts) → AllByRecursion P (cond b (without p ts) (t ∷ without p ts))
      by true rest = rest
      by false rest = (all.0, rest)

  all_joined : (P : SourcedTask T → Type 0) (ts us : List (SourcedTask T)) → AllByRecursion P ts → AllByRecursion P us → AllByRecursion P (ts ++ us)
  all_joined P [] us all more = more
  all_joined P (t ∷ ts) us all more = (all.0, all_joined P ts us all.1 more)

  all_with : (P : SourcedTask T → Type 0) (t : SourcedTask T) (ts : List (SourcedTask T)) → P t → AllByRecursion P ts → AllByRecursion P (with_task t ts)
  all_with P t [] here all = (here, tt)
  all_with P t (u ∷ us) here all = by (ltb u.number t.number) (all_with P t us here all.1)
    where
      by : (b : Bool) → AllByRecursion P (with_task t us) → AllByRecursion P (cond b (u ∷ with_task t us) (t ∷ u ∷ us))
      by true rest = (all.0, rest)
      by false rest = (here, all)

  all_in_order : (P : SourcedTask T → Type 0) (ts : List (SourcedTask T)) → AllByRecursion P ts → AllByRecursion P (in_order ts)
  all_in_order P [] all = tt
  all_in_order P (t ∷ ts) all = all_with P t (in_order ts) all.0 (all_in_order P ts all.1)

  -- ---- no task

  pub none_is_one_list : (lists : Source → List (Entry T)) → ((s : Source) → lists s ≡ []) → IsOneList lists []
  none_is_one_list lists none = record { rise = tt; each = λ s. ap (map (sourced s)) (sym (none s)) }

  -- ---- the first task of a source

  first_task_in : List (SourcedTask T) → Option (SourcedTask T)
  first_task_in [] = None
  first_task_in (t ∷ ts) = Some t

  found_first : (p : SourcedTask T → Bool) (ts : List (SourcedTask T)) → find p ts ≡ first_task_in (filter p ts)
  unfolding first_task_in
  found_first p [] = refl
  found_first p (t ∷ ts) = by (p t) (found_first p ts)
    where
      by : (b : Bool) → find p ts ≡ first_task_in (filter p ts) → cond b (Some t) (find p ts) ≡ first_task_in (cond b (t ∷ filter p ts) (filter p ts))
      by true rest = refl
      by false rest = rest

  first_of_map : (s : Source) (es : List (Entry T)) → first_task_in (map (sourced s) es) ≡ option_map (sourced s) (first_entry es)
  unfolding first_task_in
  first_of_map s [] = refl
  first_of_map s (e ∷ es) = refl

  pub first_is : (lists : Source → List (Entry T)) (tasks : List (SourcedTask T)) (s : Source) → IsOneList lists tasks → find (is_of s) tasks ≡ option_map (sourced s) (first_entry (lists s))
  first_is lists tasks s one = found_first (is_of s) tasks ∙ ap first_task_in (one.each s) ∙ first_of_map s (lists s)

  -- ---- a task behind all others

  appended_none : (us : List (SourcedTask T)) → us ++ [] ≡ us
  appended_none [] = refl
  appended_none (u ∷ us) = ap (λ (l : List (SourcedTask T)). u ∷ l) (appended_none us)

  rise_last : (t : SourcedTask T) (ts : List (SourcedTask T)) → Rise ts → AllByRecursion (λ u. u.number < t.number) ts → Rise (ts ++ t ∷ [])
  rise_last t [] rise all = (tt, tt)
  rise_last t (u ∷ us) rise all =
      (all_joined (λ (w : SourcedTask T). u.number < w.number) us (t ∷ []) rise.0 (all.0, tt), rise_last t us rise.1 all.1)

  pub queued_is_last : (old new : Source → List (Entry T)) (tasks : List (SourcedTask T)) (s : Source) (e : Entry T) → IsOneList old tasks → AllByRecursion (λ t. t.number < e.number) tasks
      → ListIs s (old s ++ e ∷ []) old new → IsOneList new (and_last tasks (sourced s e))
  queued_is_last old new tasks s e one all is = record { rise = rise_last (sourced s e) tasks one.rise all; each = λ o. by o (same_source s o) refl }
    where
      by : (o : Source) (b : Bool) → same_source s o ≡ b → filter (is_of o) (tasks ++ sourced s e ∷ []) ≡ map (sourced o) (new o)
      by o true same =
          let there : o ≡ s = sym (same_is s o same) in
          let list : new o ≡ old o ++ e ∷ [] = subst (λ (x : Source). new x ≡ old x ++ e ∷ []) (sym there) is.own in
          let here : filter (is_of o) (sourced s e ∷ []) ≡ sourced s e ∷ [] = rw same in
          filter-append (is_of o) tasks (sourced s e ∷ [])
          ∙ ap (λ (us : List (SourcedTask T)). filter (is_of o) tasks ++ us) (here ∙ ap (λ (x : Source). sourced x e ∷ []) (sym there))
          ∙ ap (λ (us : List (SourcedTask T)). us ++ sourced o e ∷ []) (one.each o)
          ∙ sym (ap (map (sourced o)) list ∙ map-append (sourced o) (old o) (e ∷ []))
      by o false other =
          let here : filter (is_of o) (sourced s e ∷ []) ≡ [] = rw other in
          let apart : o ≢ s = λ h. let yes = same_self s in let e2 : same_source s o ≡ true = subst (λ (x : Source). same_source s x ≡ true) (sym h) yes in cc in
          filter-append (is_of o) tasks (sourced s e ∷ [])
          ∙ ap (λ (us : List (SourcedTask T)). filter (is_of o) tasks ++ us) here
          ∙ ap (λ (us : List (SourcedTask T)). us ++ []) (one.each o)
          ∙ appended_none (map (sourced o) (old o))
          ∙ ap (map (sourced o)) (sym (is.others o apart))

  -- ---- the first task of a source leaves

  none_has : (n : ℕ) (ts : List (SourcedTask T)) → AllByRecursion (λ t. n < t.number) ts → without (λ t. eqb t.number n) ts ≡ ts
  none_has n [] all = refl
  none_has n (t ∷ ts) all = by (eqb t.number n) refl (none_has n ts all.1)
    where
      by : (b : Bool) → eqb t.number n ≡ b → without (λ t. eqb t.number n) ts ≡ ts → cond b (without (λ t. eqb t.number n) ts) (t ∷ without (λ t. eqb t.number n) ts) ≡ t ∷ ts
      by true e rest = let same : t.number ≡ n = eqb-true t.number n e in absurd (omega (arith, same, all.0))
      by false e rest = ap (λ (l : List (SourcedTask T)). t ∷ l) rest

  found_has : (P : SourcedTask T → Type 0) (p : SourcedTask T → Bool) (ts : List (SourcedTask T)) (t : SourcedTask T) → AllByRecursion P ts → find p ts ≡ Some t → P t
  found_has P p [] t all found = let never : ⊥ = cc in absurd never
  found_has P p (u ∷ us) t all found = by (p u) (found_has P p us t all.1) found
    where
      by : (b : Bool) → (find p us ≡ Some t → P t) → cond b (Some u) (find p us) ≡ Some t → P t
      by true rest found = let same : u ≡ t = cc in subst P same all.0
      by false rest found = rest found

  -- the tasks of a source without their first one, and those of another source
  abbrev left_of : Bool → List (SourcedTask T) → List (SourcedTask T)
  left_of true ts = drop 1 ts
  left_of false ts = ts

  first_left : (u : SourcedTask T) (us : List (SourcedTask T)) (b : Bool) → us ≡ left_of b (cond b (u ∷ us) us)
  first_left u us true = refl
  first_left u us false = refl

  other_left : (s o : Source) (u : SourcedTask T) (us more : List (SourcedTask T)) → same_source u.source s ≡ false → (b : Bool) → same_source s o ≡ b → us ≡ left_of b more
      → cond (same_source u.source o) (u ∷ us) us ≡ left_of b (cond (same_source u.source o) (u ∷ more) more)
  other_left s o u us more other true e rest =
      let here : same_source u.source o ≡ false = subst (λ (x : Source). same_source u.source x ≡ false) (same_is s o e) other in
      rw (here) rest
  other_left s o u us more other false e rest = ap (λ (l : List (SourcedTask T)). cond (same_source u.source o) (u ∷ l) l) rest

  left_by_source : (s o : Source) (ts : List (SourcedTask T)) (t : SourcedTask T) → Rise ts → find (is_of s) ts ≡ Some t
      → filter (is_of o) (without (λ u. eqb u.number t.number) ts) ≡ left_of (same_source s o) (filter (is_of o) ts)
  left_by_source s o [] t rise found = let never : ⊥ = cc in absurd never
  left_by_source s o (u ∷ us) t rise found = by (same_source u.source s) refl found (left_by_source s o us t rise.1)
    where
      by : (b : Bool) → same_source u.source s ≡ b → cond b (Some u) (find (is_of s) us) ≡ Some t
          → (find (is_of s) us ≡ Some t → filter (is_of o) (without (λ w. eqb w.number t.number) us) ≡ left_of (same_source s o) (filter (is_of o) us))
          → filter (is_of o) (cond (eqb u.number t.number) (without (λ w. eqb w.number t.number) us) (u ∷ without (λ w. eqb w.number t.number) us))
          ≡ left_of (same_source s o) (cond (same_source u.source o) (u ∷ filter (is_of o) us) (filter (is_of o) us))
      by true own found rest =
          let is : u ≡ t = cc in
          let here : eqb u.number t.number ≡ true = ap (λ (w : SourcedTask T). eqb u.number w.number) (sym is) ∙ same_number u.number in
          let none = none_has u.number us rise.0 in
          let none' : without (λ w. eqb w.number t.number) us ≡ us = subst (λ (w : SourcedTask T). without (λ x. eqb x.number w.number) us ≡ us) is none in
          let source : same_source s o ≡ same_source u.source o = ap (λ (x : Source). same_source x o) (sym (same_is u.source s own)) in
          rw (here, none', source) (first_left u (filter (is_of o) us) (same_source u.source o))
      by false own found rest =
          let less : u.number < t.number = found_has (λ w. u.number < w.number) (is_of s) us t rise.0 found in
          let here = less_differs u.number t.number less in
          rw here (other_left s o u (filter (is_of o) (without (λ w. eqb w.number t.number) us)) (filter (is_of o) us) own (same_source s o) refl (rest found))

  rise_without : (p : SourcedTask T → Bool) (ts : List (SourcedTask T)) → Rise ts → Rise (without p ts)
  rise_without p [] rise = tt
  rise_without p (t ∷ ts) rise = by (p t) (rise_without p ts rise.1)
    where
      by : (b : Bool) → Rise (without p ts) → Rise (cond b (without p ts) (t ∷ without p ts))
      by true rest = rest
      by false rest = (all_without (λ u. t.number < u.number) p ts rise.0, rest)

  dropped_map : (s : Source) (es : List (Entry T)) → drop 1 (map (sourced s) es) ≡ map (sourced s) (drop 1 es)
  dropped_map s [] = refl
  dropped_map s (e ∷ es) = refl

  pub taken_is_first : (old new : Source → List (Entry T)) (tasks : List (SourcedTask T)) (s : Source) (e : Entry T) → IsOneList old tasks → first_entry (old s) ≡ Some e
      → ListIs s (drop 1 (old s)) old new → IsOneList new (without (λ t. eqb t.number e.number) tasks)
  taken_is_first old new tasks s e one first is = record { rise = rise_without (λ t. eqb t.number e.number) tasks one.rise; each = λ o. by o (same_source s o) refl }
    where
      found : find (is_of s) tasks ≡ Some (sourced s e)
      found = first_is old tasks s one ∙ ap (option_map (sourced s)) first

      by : (o : Source) (b : Bool) → same_source s o ≡ b → filter (is_of o) (without (λ t. eqb t.number e.number) tasks) ≡ map (sourced o) (new o)
      by o true same =
          let there : o ≡ s = sym (same_is s o same) in
          let list : new o ≡ drop 1 (old o) = subst (λ (x : Source). new x ≡ drop 1 (old x)) (sym there) is.own in
          left_by_source s o tasks (sourced s e) one.rise found
          ∙ ap (λ b. left_of b (filter (is_of o) tasks)) same
          ∙ ap (λ (l : List (SourcedTask T)). drop 1 l) (one.each o)
          ∙ dropped_map o (old o)
          ∙ ap (map (sourced o)) (sym list)
      by o false other =
          let apart : o ≢ s = λ h. let yes = same_self s in let e2 : same_source s o ≡ true = subst (λ (x : Source). same_source s x ≡ true) (sym h) yes in cc in
          left_by_source s o tasks (sourced s e) one.rise found
          ∙ ap (λ b. left_of b (filter (is_of o) tasks)) other
          ∙ one.each o
          ∙ ap (map (sourced o)) (sym (is.others o apart))

  -- ---- merging

  -- a task is put in somewhere
  data PutIn (t : SourcedTask T) : List (SourcedTask T) → List (SourcedTask T) → Type 0 where
    InFront : {ts : List (SourcedTask T)} → PutIn t ts (t ∷ ts)
    Behind : {u : SourcedTask T} {ts us : List (SourcedTask T)} → PutIn t ts us → PutIn t (u ∷ ts) (u ∷ us)

  put_behind : (t : SourcedTask T) (before ts us : List (SourcedTask T)) → PutIn t ts us → PutIn t (before ++ ts) (before ++ us)
  put_behind t [] ts us put = put
  put_behind t (u ∷ before) ts us put = Behind (put_behind t before ts us put)

  least_first : (t : SourcedTask T) (ts : List (SourcedTask T)) → AllByRecursion (λ u. t.number < u.number) ts → with_task t ts ≡ t ∷ ts
  least_first t [] all = refl
  least_first t (u ∷ us) all =
      let here = not_less t.number u.number all.0 in
      rw here

  put_is_first : (t : SourcedTask T) (ts us : List (SourcedTask T)) → PutIn t ts us → AllByRecursion (λ u. t.number < u.number) ts → in_order us ≡ t ∷ in_order ts
  put_is_first t ts [] put all = elim put [ ]
  put_is_first t ts (_ ∷ _) InFront all = least_first t (in_order ts) (all_in_order (λ u. t.number < u.number) ts all)
  put_is_first t (u ∷ ts) (_ ∷ us) (Behind put) all =
      let here : ltb t.number u.number ≡ true = lt-ltb t.number u.number all.0 in
      ap (with_task u) (put_is_first t ts us put all.1) ∙ rw here

  -- the tasks of some sources, picked out of all
  abbrev picked : List (SourcedTask T) → List Source → List (SourcedTask T)
  picked ts [] = []
  picked ts (s ∷ more) = filter (is_of s) ts ++ picked ts more

  picked_is : (lists : Source → List (Entry T)) (tasks : List (SourcedTask T)) (sources : List Source) → IsOneList lists tasks → of_each lists sources ≡ picked tasks sources
  picked_is lists tasks [] one = refl
  picked_is lists tasks (s ∷ more) one =
      ap (λ (l : List (SourcedTask T)). l ++ of_each lists more) (sym (one.each s)) ∙ ap (λ (l : List (SourcedTask T)). filter (is_of s) tasks ++ l) (picked_is lists tasks more one)

  all_picked : (P : SourcedTask T → Type 0) (ts : List (SourcedTask T)) (sources : List Source) → AllByRecursion P ts → AllByRecursion P (picked ts sources)
  all_picked P ts [] all = tt
  all_picked P ts (s ∷ more) all = all_joined P (filter (is_of s) ts) (picked ts more) (all_kept P (is_of s) ts all) (all_picked P ts more all)

  -- each task is picked once
  picked_once : (n : ℕ) (s : Source) (x : T) (ts : List (SourcedTask T)) → let t : SourcedTask T = record { number = n; source = s; item = x } in PutIn t (picked ts default_list) (picked (t ∷ ts) default_list)
  picked_once n s x ts = at s
    where
      of : Source → List (SourcedTask T)
      of o = filter (is_of o) ts

      at : (s : Source) → let t : SourcedTask T = record { number = n; source = s; item = x } in PutIn t (picked ts default_list) (picked (t ∷ ts) default_list)
      at User = InFront
      at Render = put_behind _ (of User) _ _ InFront
      at Sched = put_behind _ (of User) _ _ (put_behind _ (of Render) _ _ InFront)
      at Timer = put_behind _ (of User) _ _ (put_behind _ (of Render) _ _ (put_behind _ (of Sched) _ _ InFront))
      at Net = put_behind _ (of User) _ _ (put_behind _ (of Render) _ _ (put_behind _ (of Sched) _ _ (put_behind _ (of Timer) _ _ InFront)))
      at Dom =
          put_behind _ (of User) _ _ (put_behind _ (of Render) _ _ (put_behind _ (of Sched) _ _ (put_behind _ (of Timer) _ _ (put_behind _ (of Net) _ _ InFront))))
      at Idle =
          put_behind _ (of User) _ _ (put_behind _ (of Render) _ _ (put_behind _ (of Sched) _ _ (put_behind _ (of Timer) _ _ (put_behind _ (of Net) _ _ (put_behind _ (of Dom) _ _ InFront)))))

  ordered_again : (ts : List (SourcedTask T)) → Rise ts → in_order (picked ts default_list) ≡ ts
  ordered_again [] rise = refl
  ordered_again (t ∷ ts) rise =
      put_is_first t (picked ts default_list) (picked (t ∷ ts) default_list) (picked_once t.number t.source t.item ts) (all_picked (λ u. t.number < u.number) ts default_list rise.0)
      ∙ ap (λ (l : List (SourcedTask T)). t ∷ l) (ordered_again ts rise.1)

  pub merged_is : (lists : Source → List (Entry T)) (tasks : List (SourcedTask T)) → IsOneList lists tasks → merged lists ≡ tasks
  merged_is lists tasks one = ap in_order (picked_is lists tasks default_list one) ∙ ordered_again tasks one.rise
