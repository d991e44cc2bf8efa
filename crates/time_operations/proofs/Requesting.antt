-- Callbacks that are registered, and then requested.
use Rattle.std.proofs.Common.{◌≡◌, ◌==◌, ℕ, Bool, ap, refl, ◌∙◌, ◌+◌, add-one, Option, Some, None, Result, ℤ}
use Rattle.std.specs.Result.{IsErrAnd, result_err}
use Rattle.page_types.specs.declared.RegKind.{RegKind}
use Rattle.page_types.specs.declared.RegKind.TheVariants.{Frame as FrameKind, Idle as IdleKind}
use Rattle.page_parts.specs.Kinds.{Func}
use Rattle.page_model.specs.State.{Registration, last_registration}
use Rattle.page_model.specs.PageTime.{init_timer, request_frame, request_idle, idle_timeout}
use Rattle.page_model.specs.Invoke.{register_as}
use Rattle.page_model.specs.Operations.{timer_registered, timer_set, frame_requested, idle_requested}
use Rattle.page_model.proofs.Adding.Lines.{cond_of-adds}
use Rattle.trace_text.specs.declared.lines.NoLine.{NoLine}
use Rattle.trace_text.specs.Given.{Keeping, Seen}
use Rattle.trace_text.specs.Acts.{At}
use Rattle.page_script.specs.PageActs.{OnlyAdds}
use Rattle.page_state.specs.Standing.{Standing, page_of}
use Rattle.page_state.specs.PageActs.{on_page, at, Does}
use Rattle.page_state.specs.TimeActs.{idle_asked}
use Rattle.time_operations.specs.Rows.{callback_of_kind}
use Rattle.page_state.proofs.Acting.{Does-is, Does-next, Does-leave}
use Rattle.page_state.proofs.Handled.{Does-read}

-- the same registration
pub Does-same_registration : {T : Type 0} {k : Keeping T} (kind : RegKind) (x y : Registration) (s : Standing) {old : Seen T} {new : At Standing T} {why : Option NoLine} → x ≡ y
    → Does k (at s old) (on_page (register_as kind x)) why new → Does k (at s old) (on_page (register_as kind y)) why new
Does-same_registration kind x y s {old = old} is h = Does-is (register_as kind x) (register_as kind y) (at s old) (ap (λ z. register_as kind z (page_of s)) is) h

-- ---- a timer

init-adds : (repeats : Bool) (timeout : ℤ) → OnlyAdds (λ p. init_timer None (last_registration p) repeats timeout p)
init-adds repeats timeout es p = refl

module _ {T : Type 0} {k : Keeping T} (kind : RegKind) (repeats : Bool) (f : Func) (timeout : ℤ) (id : ℕ) (s : Standing) (is : id ≡ s.waiting.timers.ids_made + 1) where
  -- the registration has the id that the timer will get
  registered : {old : Seen T} {new : At Standing T} {why : Option NoLine} → Does k (at s old) (on_page (register_as kind (callback_of_kind kind f id))) why new
      → Does k (at s old) (on_page (timer_registered kind f)) why new
  registered {old = old} h =
      Does-is (register_as kind (callback_of_kind kind f id)) (timer_registered kind f) (at s old)
      (ap (λ n. register_as kind (callback_of_kind kind f n) (page_of s)) (is ∙ add-one s.waiting.timers.ids_made)) h

  pub Does-timer : (r : ℕ) (mid : Standing) {old seen : Seen T} {new : At Standing T} {why : Option NoLine} → r ≡ last_registration (page_of mid)
      → Does k (at s old) (on_page (register_as kind (callback_of_kind kind f id))) None (at mid seen)
      → Does k (at mid seen) (on_page (init_timer None r repeats timeout)) why new → Does k (at s old) (on_page (timer_set kind repeats f timeout)) why new
  Does-timer r mid number made h =
      Does-next (timer_registered kind f) (λ p. init_timer None (last_registration p) repeats timeout p) (init-adds repeats timeout) (registered made)
      (Does-read (λ n p. init_timer None n repeats timeout p) last_registration r mid number h)

  -- the registration stopped
  pub Does-no_timer : {X : Type 0} (r : Result X NoLine) {old : Seen T} {new : At Standing T} {why : NoLine} → IsErrAnd r (λ e. e ≡ why)
      → Does k (at s old) (on_page (register_as kind (callback_of_kind kind f id))) (Some why) new
      → Does k (at s old) (on_page (timer_set kind repeats f timeout)) (result_err r) new
  Does-no_timer r stops made =
      Does-leave (timer_registered kind f) (λ p. init_timer None (last_registration p) repeats timeout p) r (init-adds repeats timeout) stops (registered made)

-- ---- a frame callback

frame-adds : OnlyAdds (λ p. request_frame (last_registration p) p)
frame-adds es p = refl

module _ {T : Type 0} {k : Keeping T} (f : Func) (s : Standing) where
  pub Does-frame : (r : ℕ) (mid : Standing) {old seen : Seen T} {new : At Standing T} {why : Option NoLine} → r ≡ last_registration (page_of mid)
      → Does k (at s old) (on_page (register_as FrameKind (callback_of_kind FrameKind f 0))) None (at mid seen)
      → Does k (at mid seen) (on_page (request_frame r)) why new → Does k (at s old) (on_page (frame_requested f)) why new
  Does-frame r mid number made h =
      Does-next (register_as FrameKind (callback_of_kind FrameKind f 0)) (λ p. request_frame (last_registration p) p) frame-adds made
      (Does-read request_frame last_registration r mid number h)

  pub Does-no_frame : {X : Type 0} (r : Result X NoLine) {old : Seen T} {new : At Standing T} {why : NoLine} → IsErrAnd r (λ e. e ≡ why)
      → Does k (at s old) (on_page (register_as FrameKind (callback_of_kind FrameKind f 0))) (Some why) new
      → Does k (at s old) (on_page (frame_requested f)) (result_err r) new
  Does-no_frame r stops made =
      Does-leave (register_as FrameKind (callback_of_kind FrameKind f 0)) (λ p. request_frame (last_registration p) p) r frame-adds stops made

-- ---- an idle callback

idle-adds : (ms : ℕ) → OnlyAdds (λ p. request_idle ms (last_registration p) p)
idle-adds ms es p = cond_of-adds es (ms == 0) (λ q. q) (idle_timeout ms (last_registration p)) (λ q. refl) (λ q. refl) (idle_asked (last_registration p) p)

module _ {T : Type 0} {k : Keeping T} (f : Func) (ms : ℕ) (s : Standing) where
  pub Does-idle_callback : (r : ℕ) (mid : Standing) {old seen : Seen T} {new : At Standing T} {why : Option NoLine} → r ≡ last_registration (page_of mid)
      → Does k (at s old) (on_page (register_as IdleKind (callback_of_kind IdleKind f 0))) None (at mid seen)
      → Does k (at mid seen) (on_page (request_idle ms r)) why new → Does k (at s old) (on_page (idle_requested f ms)) why new
  Does-idle_callback r mid number made h =
      Does-next (register_as IdleKind (callback_of_kind IdleKind f 0)) (λ p. request_idle ms (last_registration p) p) (idle-adds ms) made
      (Does-read (request_idle ms) last_registration r mid number h)

  pub Does-no_idle_callback : {X : Type 0} (r : Result X NoLine) {old : Seen T} {new : At Standing T} {why : NoLine} → IsErrAnd r (λ e. e ≡ why)
      → Does k (at s old) (on_page (register_as IdleKind (callback_of_kind IdleKind f 0))) (Some why) new
      → Does k (at s old) (on_page (idle_requested f ms)) (result_err r) new
  Does-no_idle_callback r stops made =
      Does-leave (register_as IdleKind (callback_of_kind IdleKind f 0)) (λ p. request_idle ms (last_registration p) p) r (idle-adds ms) stops made
