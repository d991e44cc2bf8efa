-- Signals that are made and given a priority, and registrations that listen or are watched.
use Rattle.std.proofs.Common.{◌≡◌, ℕ, Bool, true, false, cond, refl, ap, ◌∙◌, Option, Some, None, List, []}
use Rattle.page_types.specs.declared.Priority.{Priority}
use Rattle.page_parts.specs.AbortGraph as graph
use Rattle.page_types.specs.declared.RegKind.{RegKind}
use Rattle.page_parts.specs.Kinds.{Func}
use Rattle.page_model.specs.State.{Page, Registration, OfKind, last_registration}
use Rattle.page_model.specs.Invoke.{register_as}
use Rattle.page_model.specs.PagePromises.{last_promise}
use Rattle.page_model.specs.Operations.{with_signals, last_signal, any_made}
use Rattle.page_model.specs.PageSignals.{give_priority, watch, drop_registration}
use Rattle.trace_text.specs.Given.{Keeping, Seen}
use Rattle.page_script.specs.PageActs.{OnlyAdds}
use Rattle.page_script.proofs.Lifting.{OnlyScript-adds}
use Rattle.page_script.proofs.Touching.{register_as-only}
use Rattle.page_state.specs.Standing.{Standing, page_of}
use Rattle.page_state.specs.PageActs.{on_page, changed_by, read_by, at, Does}
use Rattle.page_state.specs.SignalActs.{depending}
use Rattle.page_state.proofs.Handled.{OnlyAdds-then}

-- ---- what only adds lines

pub depending-adds : (s : ℕ) (follows : Option ℕ) → OnlyAdds (depending s follows)
depending-adds s None es p = refl
depending-adds s (Some on) es p = refl

pub prioritised-adds : (priority : Priority) (follows : Option ℕ) → OnlyAdds (λ p. depending (last_signal p) follows (give_priority (last_signal p) priority p))
prioritised-adds priority None es p = refl
prioritised-adds priority (Some on) es p = refl

pub watch-quiet : (signal : Option ℕ) (r : ℕ) (s : Standing) → (watch signal r (page_of s)).events ≡ []
watch-quiet None r s = refl
watch-quiet (Some n) r s = refl

pub depending-quiet : (n : ℕ) (follows : Option ℕ) (s : Standing) → (depending n follows (page_of s)).events ≡ []
depending-quiet n None s = refl
depending-quiet n (Some on) s = refl

-- ---- the signal of `taskAny`

pub any_made-is : (of : List ℕ) (priority : Priority) (follows : Option ℕ) (p : Page)
    → (let q = with_signals (graph.any of) p in depending (last_signal q) follows (give_priority (last_signal q) priority q)) ≡ any_made of priority follows p
any_made-is of priority None p = refl
any_made-is of priority (Some on) p = refl

-- ---- the number of the last signal stays

pub same-signals : {T : Type 0} {k : Keeping T} (f : Page → Page) {mid new : Standing} {old end : Seen T} → ((p : Page) → last_signal (f p) ≡ last_signal p)
    → Does k (at mid old) (on_page f) None (at new end) → read_by last_signal new ≡ read_by last_signal mid
unfolding on_page
same-signals f {mid = mid} same h = ap (read_by last_signal) (h.acts.state refl) ∙ same (page_of mid)

pub depending-signals : (n : ℕ) (follows : Option ℕ) (s : Standing) → read_by last_signal (changed_by (depending n follows) s) ≡ read_by last_signal s
depending-signals n None s = refl
depending-signals n (Some on) s = refl

-- ---- the registration of what has a promise and a signal

-- the registration with this promise
abbrev pub promising : RegKind → Option Func → Option ℕ → (promise : ℕ) → Registration
promising kind f signal n =
    record { role = OfKind kind; callback = f; second_callback = None; timer_id = 0; promise = n; signal = signal; finally = false }

pub last_watched-adds : (signal : Option ℕ) → OnlyAdds (λ p. watch signal (last_registration p) p)
last_watched-adds None es p = refl
last_watched-adds (Some s) es p = refl

-- it is made, and its abort steps are added to the signal
abbrev pub watched_with : RegKind → Option Func → Option ℕ → (promise : ℕ) → Page → Page
watched_with kind f signal n p =
    let registered = register_as kind (promising kind f signal n) p in watch signal (last_registration registered) registered

pub watched_with-adds : (kind : RegKind) (f : Option Func) (signal : Option ℕ) → OnlyAdds (λ p. watched_with kind f signal (last_promise p) p)
watched_with-adds kind f signal es p =
    let x = promising kind f signal (last_promise p) in
    OnlyAdds-then (register_as kind x) (λ q. watch signal (last_registration q) q) (OnlyScript-adds (register_as kind x) (register_as-only kind x)) (last_watched-adds signal) es p

-- ---- abort steps

-- a registration is dropped where it had not begun
abbrev pub dropped_if : Bool → (registration : ℕ) → Page → Page
dropped_if has_not_begun r = cond has_not_begun (drop_registration r) (λ q. q)

pub dropped_if-adds : (b : Bool) (r : ℕ) → OnlyAdds (dropped_if b r)
dropped_if-adds true r es p = refl
dropped_if-adds false r es p = refl
