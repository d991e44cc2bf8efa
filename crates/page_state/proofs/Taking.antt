-- Callbacks that are cancelled, and idle periods that start.
use Rattle.std.proofs.Common.{◌≡◌, ℕ, [], refl, sym, ◌∙◌, ap, Option, Some, None}
use Rattle.std.specs.Prelude.{option_map}
use Rattle.page_types.specs.Events.{Drop}
use Rattle.page_parts.specs.Frames.{callback_in}
use Rattle.page_parts.specs.Timers.{next_due}
use Rattle.page_model.specs.State.{Page, emit}
use Rattle.page_model.specs.PageTime as model
use Rattle.trace_text.specs.declared.lines.NoLine.{NoLine}
use Rattle.trace_text.specs.Given.{Keeping, Seen}
use Rattle.trace_text.specs.Acts.{At}
use Rattle.page_frames.specs.Fields.{fields_of, with_fields}
use Rattle.page_frames.specs.Steps.{frame_registration, frame_gone, idle_registration, idle_gone, period_to_start}
use Rattle.page_frames.specs.Laws.{dropped_by, started_by}
use Rattle.page_frames.proofs.PageLemmas.{cancels_frame, cancels_idle, starts_period}
use Rattle.page_state.specs.Standing.{Standing, page_of}
use Rattle.page_state.specs.PageActs.{on_page, changed_by, at, Does}
use Rattle.page_state.proofs.Acting.{Does-is, Does-idle, Does-silent}
use Rattle.page_state.proofs.Telling.{Does-told}

-- ---- a callback leaves, with its line where it was there

module _ {T : Type 0} {k : Keeping T} (cancel : Page → Page) (taken : Page → Page) (registration : Page → Option ℕ)
    (is : (p : Page) → cancel p ≡ dropped_by (registration p) (taken p)) (silent : (s : Standing) → (taken (page_of s)).events ≡ [])
    (s mid : Standing) where
  Does-cancelled : (r : ℕ) {old : Seen T} {new : At Standing T} {why : Option NoLine} → Some r ≡ registration (page_of s) → mid ≡ changed_by taken s
      → Does k (at mid old) (on_page (emit (Drop r))) why new → Does k (at s old) (on_page cancel) why new
  Does-cancelled r {old = old} there gone h =
      Does-is (λ p. emit (Drop r) (taken p)) cancel (at s old) (ap (λ o. dropped_by o (taken (page_of s))) there ∙ sym (is (page_of s)))
      (Does-told taken (λ p. Drop r) (Drop r) s mid (silent s) gone refl h)

  Does-not_there : (seen : Seen T) → None ≡ registration (page_of s) → mid ≡ changed_by taken s → Does k (at s seen) (on_page cancel) None (at mid seen)
  Does-not_there seen none gone =
      Does-is taken cancel (at s seen) (ap (λ o. dropped_by o (taken (page_of s))) none ∙ sym (is (page_of s)))
      (Does-silent k taken s seen (silent s) gone)

module _ {T : Type 0} (handle : ℕ) where
  pub Does-cancelled_frame : {k : Keeping T} (r : ℕ) (s mid : Standing) {old : Seen T} {new : At Standing T} {why : Option NoLine}
      → Some r ≡ option_map (λ c. c.registration) (callback_in (page_of s).frames.callbacks handle) → mid ≡ changed_by (model.without_frame handle) s
      → Does k (at mid old) (on_page (emit (Drop r))) why new → Does k (at s old) (on_page (model.cancel_frame handle)) why new
  Does-cancelled_frame r s mid there gone h =
      Does-cancelled (model.cancel_frame handle) (λ p. with_fields (frame_gone handle (fields_of p)) p) (λ p. frame_registration handle (fields_of p)) (cancels_frame handle) (λ s. refl) s mid r there gone h

  pub Does-no_frame : (k : Keeping T) (s mid : Standing) (seen : Seen T)
      → None ≡ option_map (λ c. c.registration) (callback_in (page_of s).frames.callbacks handle) → mid ≡ changed_by (model.without_frame handle) s
      → Does k (at s seen) (on_page (model.cancel_frame handle)) None (at mid seen)
  Does-no_frame k s mid seen none gone =
      Does-not_there (model.cancel_frame handle) (λ p. with_fields (frame_gone handle (fields_of p)) p) (λ p. frame_registration handle (fields_of p)) (cancels_frame handle) (λ s. refl) s mid seen none gone

  pub Does-cancelled_idle : {k : Keeping T} (r : ℕ) (s mid : Standing) {old : Seen T} {new : At Standing T} {why : Option NoLine}
      → Some r ≡ option_map (λ c. c.registration) (model.idle_callback handle (page_of s)) → mid ≡ changed_by (model.without_idle handle) s
      → Does k (at mid old) (on_page (emit (Drop r))) why new → Does k (at s old) (on_page (model.cancel_idle handle)) why new
  Does-cancelled_idle r s mid there gone h =
      Does-cancelled (model.cancel_idle handle) (λ p. with_fields (idle_gone handle (fields_of p)) p) (λ p. idle_registration handle (fields_of p)) (cancels_idle handle) (λ s. refl) s mid r there gone h

  pub Does-no_idle : (k : Keeping T) (s mid : Standing) (seen : Seen T)
      → None ≡ option_map (λ c. c.registration) (model.idle_callback handle (page_of s)) → mid ≡ changed_by (model.without_idle handle) s
      → Does k (at s seen) (on_page (model.cancel_idle handle)) None (at mid seen)
  Does-no_idle k s mid seen none gone =
      Does-not_there (model.cancel_idle handle) (λ p. with_fields (idle_gone handle (fields_of p)) p) (λ p. idle_registration handle (fields_of p)) (cancels_idle handle) (λ s. refl) s mid seen none gone

-- ---- an idle period starts, where it may

pub Does-started : {T : Type 0} {k : Keeping T} (end : ℕ) (s : Standing) {old : Seen T} {new : At Standing T} {why : Option NoLine}
    → Some end ≡ period_to_start s.script.now (next_due s.waiting.timers) s.frames
    → Does k (at s old) (on_page (model.period_begun end)) why new → Does k (at s old) (on_page model.start_period) why new
Does-started end s {old = old} may h =
    let p = page_of s in
    Does-is (model.period_begun end) model.start_period (at s old) (ap (λ o. started_by o (fields_of p) p) may ∙ sym (starts_period p)) h

pub Does-delayed : {T : Type 0} (k : Keeping T) (s : Standing) (seen : Seen T)
    → None ≡ period_to_start s.script.now (next_due s.waiting.timers) s.frames → Does k (at s seen) (on_page model.start_period) None (at s seen)
Does-delayed k s seen none =
    let p = page_of s in
    Does-is (λ p. p) model.start_period (at s seen) (ap (λ o. started_by o (fields_of p) p) none ∙ sym (starts_period p)) (Does-idle k s seen)
