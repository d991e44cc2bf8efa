-- The next callback of a frame.
use Rattle.std.proofs.Common.{◌≡◌, ℕ, Bool, true, false, cond, List, [], ◌∷◌, Option, Some, None, eqb, refl, sym, subst, ap}
use Rattle.std.proofs.lemmas.Bool.{eqb-true}
use Rattle.std.specs.Option.{option_map}
use Rattle.page_parts.specs.Frames.{Frames, Callback, callback_in, without_handle, cancel}
use Rattle.raf_frames.specs.FrameInProgress.{FrameInProgress, first_waiting, behind_first, after_next}

-- the registration that a map has at a handle
abbrev pub registration_in : Frames → ℕ → Option ℕ
registration_in f handle = option_map (λ (c : Callback). c.registration) (callback_in f.callbacks handle)

-- the callback of a handle has that handle
pub handle_found : (handle : ℕ) (cs : List Callback) (callback : Callback) → callback_in cs handle ≡ Some callback → callback.handle ≡ handle
handle_found handle [] callback found = cc
handle_found handle (c ∷ cs) callback found = by (eqb c.handle handle) refl (handle_found handle cs callback) found
  where
    by : (b : Bool) → eqb c.handle handle ≡ b → (callback_in cs handle ≡ Some callback → callback.handle ≡ handle)
        → cond b (Some c) (callback_in cs handle) ≡ Some callback → callback.handle ≡ handle
    by true e rest found = let same : c ≡ callback = cc in subst (λ (d : Callback). d.handle ≡ handle) same (eqb-true c.handle handle e)
    by false e rest found = rest found

without_absent : (handle : ℕ) (cs : List Callback) → callback_in cs handle ≡ None → without_handle handle cs ≡ cs
without_absent handle [] none = refl
without_absent handle (c ∷ cs) none = by (eqb c.handle handle) (without_absent handle cs) none
  where
    by : (b : Bool) → (callback_in cs handle ≡ None → without_handle handle cs ≡ cs) → cond b (Some c) (callback_in cs handle) ≡ None
        → cond b (without_handle handle cs) (c ∷ without_handle handle cs) ≡ c ∷ cs
    by true rest none = let never : ⊥ = cc in absurd never
    by false rest none = ap (λ l. c ∷ l) (rest none)

found_registration : (r : Option Callback) (registration : ℕ) → Some registration ≡ option_map (λ (c : Callback). c.registration) r
    → (callback : Callback) × (r ≡ Some callback) × (callback.registration ≡ registration)
found_registration None registration e = let never : ⊥ = cc in absurd never
found_registration (Some callback) registration e = let same : callback.registration ≡ registration = cc in (callback, refl, same)

none_found : (r : Option Callback) → None ≡ option_map (λ (c : Callback). c.registration) r → r ≡ None
none_found None e = refl
none_found (Some callback) e = let never : ⊥ = cc in absurd never

-- the first handle that is left is in the map
pub first_found : (cs : List Callback) (handle registration : ℕ) (left rest : List ℕ) → left ≡ handle ∷ rest
    → Some registration ≡ option_map (λ (c : Callback). c.registration) (callback_in cs handle)
    → (callback : Callback) × (first_waiting cs left ≡ Some callback) × (callback.handle ≡ handle) × (callback.registration ≡ registration) × (behind_first cs left ≡ rest)
first_found cs handle registration left rest is found = from (found_registration (callback_in cs handle) registration found)
  where
    from : (callback : Callback) × (callback_in cs handle ≡ Some callback) × (callback.registration ≡ registration)
        → (callback : Callback) × (first_waiting cs left ≡ Some callback) × (callback.handle ≡ handle) × (callback.registration ≡ registration) × (behind_first cs left ≡ rest)
    from f =
        let first : first_waiting cs left ≡ Some f.0 = rw (is, first_waiting, f.1) in
        let behind : behind_first cs left ≡ rest = rw (is, behind_first, f.1) in
        (f.0, first, handle_found handle cs f.0 f.1, f.2, behind)

-- it is not, and is passed over
pub first_passed : (cs : List Callback) (handle : ℕ) (left rest : List ℕ) → left ≡ handle ∷ rest
    → None ≡ option_map (λ (c : Callback). c.registration) (callback_in cs handle)
    → (without_handle handle cs ≡ cs) × (first_waiting cs rest ≡ first_waiting cs left) × (behind_first cs rest ≡ behind_first cs left)
first_passed cs handle left rest is none = from (none_found (callback_in cs handle) none)
  where
    from : callback_in cs handle ≡ None
        → (without_handle handle cs ≡ cs) × (first_waiting cs rest ≡ first_waiting cs left) × (behind_first cs rest ≡ behind_first cs left)
    from absent =
        let first : first_waiting cs left ≡ first_waiting cs rest = rw (is, first_waiting, absent) in
        let behind : behind_first cs left ≡ behind_first cs rest = rw (is, behind_first, absent) in
        (without_absent handle cs absent, sym first, sym behind)

-- the next callback leaves the map
pub taken : (f : FrameInProgress) (callback : Callback) (handle : ℕ) (rest : List ℕ) → first_waiting f.map.callbacks f.left ≡ Some callback → callback.handle ≡ handle
    → behind_first f.map.callbacks f.left ≡ rest → let after : FrameInProgress = record { map = cancel handle f.map; left = rest } in after ≡ after_next f
taken f callback handle rest first is behind = rw (first, is, behind)
