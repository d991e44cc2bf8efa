-- Callbacks with rising handles.
use Rattle.std.proofs.Common.{◌≡◌, ℕ, ◌+◌, ◌<◌, ◌≤◌, Bool, true, false, cond, List, [], ◌∷◌, ◌++◌, Option, Some, None, filter, length, slice_get, not, ◌&&◌, ◌↔◌, IsTrue, eqb, nat_le, nat_lt, nat_cmp, refl, sym, subst, ◌∙◌, ap, true≢false, arith}
use Rattle.std.specs.BTreeMap.{insert_entry, is_at}
use Rattle.std.specs.Map.{lookup, remove_entry}
use Rattle.std.specs.Option.{option_map}
use Rattle.page_parts.specs.Frames.{Callback, callback_in, without_handle}
use Rattle.page_parts.specs.Words.{is_empty}
use Rattle.page_parts.specs.IdleCallbacks.{Idle, cancel}
use Rattle.idle_periods.specs.Runnable.{first_in, popped}
use Rattle.idle_periods.specs.Seen.{callbacks_of, up_to, beyond, HandlesRise}

-- ---- the order of the handles

rise_bound : (low high : ℕ) (es : List (ℕ × ℕ)) → HandlesRise low es high → low ≤ high
rise_bound low high [] rise = rise
rise_bound low high (e ∷ es) rise = omega (arith, rise.0, rise_bound e.0 high es rise.1)

-- a lower bound may fall
pub rise_weaker : (low least high : ℕ) → least ≤ low → (es : List (ℕ × ℕ)) → HandlesRise low es high → HandlesRise least es high
rise_weaker low least high le [] rise = omega arith
rise_weaker low least high le (e ∷ es) rise = (omega (arith, rise.0), rise.1)

-- a callback with the next handle goes last
pub rise_pushed : (low high registration : ℕ) (es : List (ℕ × ℕ)) → HandlesRise low es high → HandlesRise low (es ++ (high + 1, registration) ∷ []) (high + 1)
rise_pushed low high registration [] rise = (omega arith, omega arith)
rise_pushed low high registration (e ∷ es) rise = (rise.0, rise_pushed e.0 high registration es rise.1)

pub insert_last : (low high registration : ℕ) (es : List (ℕ × ℕ)) → HandlesRise low es high → insert_entry nat_cmp es (high + 1) registration ≡ es ++ (high + 1, registration) ∷ []
insert_last low high registration [] rise = refl
insert_last low high registration (e ∷ es) rise =
    let le = rise_bound e.0 high es rise.1 in
    let rest = insert_last e.0 high registration es rise.1 in
    grind (arith, le, rest)

-- a callback leaves
pub rise_removed : (handle low high : ℕ) (es : List (ℕ × ℕ)) → HandlesRise low es high → HandlesRise low (remove_entry (is_at (nat_cmp handle)) es) high
rise_removed handle low high [] rise = rise
rise_removed handle low high (e ∷ es) rise =
    elim (is_at (nat_cmp handle) e.0) as (λ b. HandlesRise low (cond b es (e ∷ remove_entry (is_at (nat_cmp handle)) es)) high) [
      | true ↦ rise_weaker e.0 low high (omega (arith, rise.0)) es rise.1
      | false ↦ (rise.0, rise_removed handle e.0 high es rise.1)
    ]

-- ---- one handle

-- the registration that a look-up finds
pub found_seen : (handle : ℕ) (es : List (ℕ × ℕ)) → lookup (is_at (nat_cmp handle)) es ≡ option_map (λ (c : Callback). c.registration) (callback_in (callbacks_of es) handle)
found_seen handle [] = refl
found_seen handle (e ∷ es) = let rest = found_seen handle es in grind (arith, rest)

-- a handle that is not above the others' is among none of them
pub passed : (handle low high : ℕ) (es : List (ℕ × ℕ)) → handle ≤ low → HandlesRise low es high → without_handle handle (callbacks_of es) ≡ callbacks_of es
passed handle low high [] le rise = refl
passed handle low high (e ∷ es) le rise =
    let above : handle < e.0 = omega (arith, rise.0) in
    let rest = passed handle e.0 high es (omega arith) rise.1 in
    grind (arith, above, rest)

-- its callback leaves where its entry does
pub left_removed : (handle low high : ℕ) (es : List (ℕ × ℕ)) → HandlesRise low es high
    → callbacks_of (remove_entry (is_at (nat_cmp handle)) es) ≡ without_handle handle (callbacks_of es)
left_removed handle low high [] rise = refl
left_removed handle low high (e ∷ es) rise = by (is_at (nat_cmp handle) e.0) refl (eqb e.0 handle) refl (left_removed handle e.0 high es rise.1)
  where
    by : (b : Bool) → is_at (nat_cmp handle) e.0 ≡ b → (c : Bool) → eqb e.0 handle ≡ c
        → callbacks_of (remove_entry (is_at (nat_cmp handle)) es) ≡ without_handle handle (callbacks_of es)
        → callbacks_of (cond b es (e ∷ remove_entry (is_at (nat_cmp handle)) es))
        ≡ cond c (without_handle handle (callbacks_of es)) (record { handle = e.0; registration = e.1 } ∷ without_handle handle (callbacks_of es))
    by true t true f rest = let le : handle ≤ e.0 = grind (arith, f) in sym (passed handle e.0 high es le rise.1)
    by true t false f rest = let never : ⊥ = grind (arith, t, f) in absurd never
    by false t true f rest = let never : ⊥ = grind (arith, t, f) in absurd never
    by false t false f rest = ap (λ cs. record { handle = e.0; registration = e.1 } ∷ cs) rest

-- a number above the handles has no callback
pub above_absent : (handle low high : ℕ) (es : List (ℕ × ℕ)) → high < handle → HandlesRise low es high → callback_in (callbacks_of es) handle ≡ None
above_absent handle low high [] above rise = refl
above_absent handle low high (e ∷ es) above rise =
    let le = rise_bound e.0 high es rise.1 in
    let rest = above_absent handle e.0 high es above rise.1 in
    grind (arith, le, above, rest)

-- and nothing is left out
above_stays : (handle low high : ℕ) (es : List (ℕ × ℕ)) → high < handle → HandlesRise low es high → without_handle handle (callbacks_of es) ≡ callbacks_of es
above_stays handle low high [] above rise = refl
above_stays handle low high (e ∷ es) above rise =
    let le = rise_bound e.0 high es rise.1 in
    let rest = above_stays handle e.0 high es above rise.1 in
    grind (arith, le, above, rest)

-- ---- the runnable ones and the pending ones

-- the callback of a handle leaves some of them
pub filter_without : (test : Callback → Bool) (handle : ℕ) (cs : List Callback) → filter test (without_handle handle cs) ≡ without_handle handle (filter test cs)
filter_without test handle [] = refl
filter_without test handle (c ∷ cs) = by (eqb c.handle handle) refl (test c) refl (filter_without test handle cs)
  where
    by : (b : Bool) → eqb c.handle handle ≡ b → (t : Bool) → test c ≡ t → filter test (without_handle handle cs) ≡ without_handle handle (filter test cs)
        → filter test (cond b (without_handle handle cs) (c ∷ without_handle handle cs)) ≡ without_handle handle (cond t (c ∷ filter test cs) (filter test cs))
    by true e true t rest = rw e rest
    by true e false t rest = rest
    by false e true t rest = rw (e, t, rest)
    by false e false t rest = rw t rest

-- a number above the handles leaves both lists as they are
pub above_kept : (handle last low high : ℕ) (es : List (ℕ × ℕ)) → high < handle → HandlesRise low es high
    → (without_handle handle (beyond last (callbacks_of es)) ≡ beyond last (callbacks_of es)) × (without_handle handle (up_to last (callbacks_of es)) ≡ up_to last (callbacks_of es))
above_kept handle last low high es above rise =
    let stays = above_stays handle low high es above rise in (
      sym (filter_without (λ callback. nat_lt last callback.handle) handle (callbacks_of es)) ∙ ap (beyond last) stays,
      sym (filter_without (λ callback. nat_le callback.handle last) handle (callbacks_of es)) ∙ ap (up_to last) stays,
    )

none_up_to : (last low high : ℕ) (es : List (ℕ × ℕ)) → last ≤ low → HandlesRise low es high → up_to last (callbacks_of es) ≡ []
none_up_to last low high [] le rise = refl
none_up_to last low high (e ∷ es) le rise =
    let above : last < e.0 = omega (arith, rise.0) in
    let rest = none_up_to last e.0 high es (omega arith) rise.1 in
    grind (arith, above, rest)

all_beyond : (last low high : ℕ) (es : List (ℕ × ℕ)) → last ≤ low → HandlesRise low es high → beyond last (callbacks_of es) ≡ callbacks_of es
all_beyond last low high [] le rise = refl
all_beyond last low high (e ∷ es) le rise =
    let above : last < e.0 = omega (arith, rise.0) in
    let rest = all_beyond last e.0 high es (omega arith) rise.1 in
    grind (arith, above, rest)

-- both are all
pub joined : (last low high : ℕ) (es : List (ℕ × ℕ)) → HandlesRise low es high → up_to last (callbacks_of es) ++ beyond last (callbacks_of es) ≡ callbacks_of es
joined last low high [] rise = refl
joined last low high (e ∷ es) rise = by (nat_le e.0 last) refl (nat_lt last e.0) refl (joined last e.0 high es rise.1)
  where
    by : (b : Bool) → nat_le e.0 last ≡ b → (c : Bool) → nat_lt last e.0 ≡ c → up_to last (callbacks_of es) ++ beyond last (callbacks_of es) ≡ callbacks_of es
        → cond b (record { handle = e.0; registration = e.1 } ∷ up_to last (callbacks_of es)) (up_to last (callbacks_of es))
        ++ cond c (record { handle = e.0; registration = e.1 } ∷ beyond last (callbacks_of es)) (beyond last (callbacks_of es))
        ≡ record { handle = e.0; registration = e.1 } ∷ callbacks_of es
    by true t true f rest = let never : ⊥ = grind (arith, t, f) in absurd never
    by true t false f rest = ap (λ cs. record { handle = e.0; registration = e.1 } ∷ cs) rest
    by false t true f rest =
        let le : last ≤ e.0 = grind (arith, f) in
        let none = none_up_to last e.0 high es le rise.1 in
        let all = all_beyond last e.0 high es le rise.1 in
        rw (none, all)
    by false t false f rest = let never : ⊥ = grind (arith, t, f) in absurd never

-- once all are runnable, none is pending
pub all_up_to : (low high : ℕ) (es : List (ℕ × ℕ)) → HandlesRise low es high → up_to high (callbacks_of es) ≡ callbacks_of es
all_up_to low high [] rise = refl
all_up_to low high (e ∷ es) rise =
    let le = rise_bound e.0 high es rise.1 in
    let rest = all_up_to e.0 high es rise.1 in
    grind (arith, le, rest)

pub none_beyond : (low high : ℕ) (es : List (ℕ × ℕ)) → HandlesRise low es high → beyond high (callbacks_of es) ≡ []
none_beyond low high [] rise = refl
none_beyond low high (e ∷ es) rise =
    let le = rise_bound e.0 high es rise.1 in
    let rest = none_beyond e.0 high es rise.1 in
    grind (arith, le, rest)

-- ---- a request

pub beyond_pushed : (last high registration : ℕ) (es : List (ℕ × ℕ)) → last ≤ high
    → beyond last (callbacks_of (es ++ (high + 1, registration) ∷ [])) ≡ beyond last (callbacks_of es) ++ record { handle = high + 1; registration = registration } ∷ []
beyond_pushed last high registration [] le = let above : nat_lt last (high + 1) ≡ true = grind (arith, le) in rw above
beyond_pushed last high registration (e ∷ es) le = by (nat_lt last e.0) (beyond_pushed last high registration es le)
  where
    by : (b : Bool) → beyond last (callbacks_of (es ++ (high + 1, registration) ∷ [])) ≡ beyond last (callbacks_of es) ++ record { handle = high + 1; registration = registration } ∷ []
        → cond b (record { handle = e.0; registration = e.1 } ∷ beyond last (callbacks_of (es ++ (high + 1, registration) ∷ []))) (beyond last (callbacks_of (es ++ (high + 1, registration) ∷ [])))
        ≡ cond b (record { handle = e.0; registration = e.1 } ∷ beyond last (callbacks_of es)) (beyond last (callbacks_of es)) ++ record { handle = high + 1; registration = registration } ∷ []
    by true rest = ap (λ cs. record { handle = e.0; registration = e.1 } ∷ cs) rest
    by false rest = rest

pub up_to_pushed : (last high registration : ℕ) (es : List (ℕ × ℕ)) → last ≤ high
    → up_to last (callbacks_of (es ++ (high + 1, registration) ∷ [])) ≡ up_to last (callbacks_of es)
up_to_pushed last high registration [] le = let above : nat_le (high + 1) last ≡ false = grind (arith, le) in rw above
up_to_pushed last high registration (e ∷ es) le = by (nat_le e.0 last) (up_to_pushed last high registration es le)
  where
    by : (b : Bool) → up_to last (callbacks_of (es ++ (high + 1, registration) ∷ [])) ≡ up_to last (callbacks_of es)
        → cond b (record { handle = e.0; registration = e.1 } ∷ up_to last (callbacks_of (es ++ (high + 1, registration) ∷ []))) (up_to last (callbacks_of (es ++ (high + 1, registration) ∷ [])))
        ≡ cond b (record { handle = e.0; registration = e.1 } ∷ up_to last (callbacks_of es)) (up_to last (callbacks_of es))
    by true rest = ap (λ cs. record { handle = e.0; registration = e.1 } ∷ cs) rest
    by false rest = rest

-- ---- whether there are some

pub empty_test : (b : Bool) (es : List (ℕ × ℕ)) → IsTrue b ↔ (length es ≡ 0) → b ≡ is_empty es
empty_test true [] h = refl
empty_test false [] h = h.1 refl
empty_test true (e ∷ es) h = let none = h.0 refl in let never : ⊥ = omega (arith, none) in absurd never
empty_test false (e ∷ es) h = refl

pub waits_seen : (last : ℕ) (es : List (ℕ × ℕ)) → not (is_empty es) ≡ not (is_empty (beyond last (callbacks_of es)) && is_empty (up_to last (callbacks_of es)))
waits_seen last [] = refl
waits_seen last (e ∷ es) = by (nat_le e.0 last) refl (nat_lt last e.0) refl
  where
    by : (b : Bool) → nat_le e.0 last ≡ b → (c : Bool) → nat_lt last e.0 ≡ c
        → true ≡ not (is_empty (cond c (record { handle = e.0; registration = e.1 } ∷ beyond last (callbacks_of es)) (beyond last (callbacks_of es)))
        && is_empty (cond b (record { handle = e.0; registration = e.1 } ∷ up_to last (callbacks_of es)) (up_to last (callbacks_of es))))
    by b t true f = refl
    by false t false f = let never : ⊥ = grind (arith, t, f) in absurd never
    by true t false f = both (is_empty (beyond last (callbacks_of es)))
      where
        both : (b : Bool) → true ≡ not (b && false)
        both true = refl
        both false = refl

-- ---- the first runnable one

pub runnable_first : (last low high : ℕ) (es : List (ℕ × ℕ)) (first : ℕ × ℕ) → HandlesRise low es high → slice_get es 0 ≡ Some first
    → nat_le first.0 last ≡ not (is_empty (up_to last (callbacks_of es)))
runnable_first last low high [] first rise is = let never : ⊥ = cc in absurd never
runnable_first last low high (e ∷ es) first rise is = let same : e ≡ first = cc in ap (λ (p : ℕ × ℕ). nat_le p.0 last) (sym same) ∙ by (nat_le e.0 last) refl
  where
    by : (b : Bool) → nat_le e.0 last ≡ b → b ≡ not (is_empty (cond b (record { handle = e.0; registration = e.1 } ∷ up_to last (callbacks_of es)) (up_to last (callbacks_of es))))
    by true t = refl
    by false t = let le : last ≤ e.0 = grind (arith, t) in let none = none_up_to last e.0 high es le rise.1 in rw none

module _ (last high handle registration : ℕ) (es rest : List (ℕ × ℕ)) (is : es ≡ (handle, registration) ∷ rest) (rise : HandlesRise 0 es high) where
  split : HandlesRise 0 ((handle, registration) ∷ rest) high
  split = subst (λ es. HandlesRise 0 es high) is rise

  pub rise_popped : HandlesRise 0 rest high
  rise_popped = rise_weaker handle 0 high (omega arith) rest split.1

  pub first_popped : true ≡ not (is_empty (up_to last (callbacks_of es))) → first_in (up_to last (callbacks_of es)) ≡ Some (record { handle = handle; registration = registration })
  first_popped some = rw is (by (nat_le handle last) refl (some ∙ ap (λ es. not (is_empty (up_to last (callbacks_of es)))) is))
    where
      by : (b : Bool) → nat_le handle last ≡ b
          → true ≡ not (is_empty (cond b (record { handle = handle; registration = registration } ∷ up_to last (callbacks_of rest)) (up_to last (callbacks_of rest))))
          → first_in (cond b (record { handle = handle; registration = registration } ∷ up_to last (callbacks_of rest)) (up_to last (callbacks_of rest)))
          ≡ Some (record { handle = handle; registration = registration })
      by true t some = refl
      by false t some =
          let le : last ≤ handle = grind (arith, t) in
          let none = none_up_to last handle high rest le split.1 in
          let never : true ≡ false = some ∙ ap (λ cs. not (is_empty cs)) none in
          absurd (true≢false never)

  left : callbacks_of rest ≡ without_handle handle (callbacks_of es)
  left =
      let itself : eqb handle handle ≡ true = grind arith in
      rw (is, itself) (sym (passed handle handle high rest (omega arith) split.1))

  pub left_popped : (test : Callback → Bool) → filter test (callbacks_of rest) ≡ without_handle handle (filter test (callbacks_of es))
  left_popped test = ap (filter test) left ∙ filter_without test handle (callbacks_of es)

  pub taken : true ≡ not (is_empty (up_to last (callbacks_of es)))
      → let after : Idle = record { pending = beyond last (callbacks_of rest); runnable = up_to last (callbacks_of rest); made = high } in
      after ≡ popped (record { pending = beyond last (callbacks_of es); runnable = up_to last (callbacks_of es); made = high })
  taken some =
      let i : Idle = record { pending = beyond last (callbacks_of es); runnable = up_to last (callbacks_of es); made = high } in
      let pending = left_popped (λ callback. nat_lt last callback.handle) in
      let runnable = left_popped (λ callback. nat_le callback.handle last) in
      let after : Idle = record { pending = beyond last (callbacks_of rest); runnable = up_to last (callbacks_of rest); made = high } in
      let gone : after ≡ cancel handle i = rw (pending, runnable) in
      gone ∙ sym (ap (λ (r : Option Callback). elim r [ None ↦ i | Some callback ↦ cancel callback.handle i ]) (first_popped some))
