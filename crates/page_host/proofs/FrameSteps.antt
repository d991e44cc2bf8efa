-- The steps of a frame's task, from what is done one after another.
use Rattle.std.specs.Result.{IsErrAnd, result_err}
use Rattle.std.proofs.Common.{◌≡◌, ℕ, false, List, [], ◌∷◌, refl, sym, ◌∙◌, ap, subst, Option, Some, None, Result}
use Rattle.std.specs.Prelude.{pos}
use Rattle.page_types.specs.Values.{Value, IntValue, UnitValue}
use Rattle.page_types.specs.Events.{Stamped, Frame}
use Rattle.lang_meaning.specs.Machine.{Done, afterwards, finish}
use Rattle.lang_meaning.proofs.Following.{afterwards-follows}
use Rattle.page_parts.specs.Frames.{Callback, callback_in, keys}
use Rattle.page_frames.specs.Fields.{fields_of}
use Rattle.page_frames.specs.Steps.{frame_registration}
use Rattle.page_frames.specs.Laws.{frame_called}
use Rattle.page_frames.proofs.PageLemmas.{calls_frame}
use Rattle.page_model.specs.State.{Page, State, on_page, emit}
use Rattle.page_model.specs.PageTime.{without_frame}
use Rattle.page_model.specs.PageSignals.{each_in_turn}
use Rattle.page_model.specs.Invoke.{Ways, in_task, invoke}
use Rattle.page_model.specs.Tasks.{frame_callback, run_frame}
use Rattle.page_model.specs.Additions.{after, AddsAll}
use Rattle.page_model.proofs.Adding.Runs.{WaysAdd, invoke-adds, each_in_turn-adds}
use Rattle.lang_meaning.specs.Machine.{Caller}
use Rattle.trace_text.specs.declared.lines.NoLine.{NoLine}
use Rattle.trace_text.specs.Given.{Keeping, Seen}
use Rattle.page_state.specs.Standing.{page_of}
use Rattle.page_interp.specs.MachineNow.{MachineNow}
use Rattle.page_host.specs.PageNow.{PageNow}
use Rattle.page_host.specs.StateActs.{How, Gave}
use Rattle.page_host.specs.Moments.{state_of, calling, CanCall}
use Rattle.page_host.specs.Doing.{Acts, Runs, did_how}
use Rattle.page_host.specs.Tasking.{regardless}
use Rattle.page_host.specs.declared.did.Did.{Did}
use Rattle.page_host.proofs.Composing.{runs-act_then, runs-is}
use Rattle.page_host.proofs.TaskRuns.{task-adds, runs-work, work-exit}
use Rattle.page_host.specs.Tasking.{frame_visit as visit}

called-adds : (es : List Stamped) (w : Ways) → WaysAdd es w → (t : ℕ) (o : Option Callback) → AddsAll es (frame_callback w t o)
called-adds es w a t None m = refl
called-adds es w a t (Some c) m = invoke-adds es w a c.registration false (IntValue (pos t) ∷ []) (on_page (without_frame c.handle) m)

pub visit-adds : (m : MachineNow) (t : ℕ) (es : List Stamped) (key : ℕ) → AddsAll es (visit (in_task (calling m)) t key)
visit-adds m t es key s = called-adds es (in_task (calling m)) (task-adds m es) t (callback_in s.host.frames.callbacks key) s

keys-adds : (m : MachineNow) (t : ℕ) (ks : List ℕ) (es : List Stamped) → AddsAll es (each_in_turn ks (visit (in_task (calling m)) t))
keys-adds m t ks es = each_in_turn-adds es ks (visit (in_task (calling m)) t) (visit-adds m t es)

module _ {L T : Type 0} {k : Keeping T} {seen : L → Seen T} {m : MachineNow} (t : ℕ) {p : PageNow L} where
  frame_as : (ks : List ℕ) → ks ≡ keys (page_of p.state).frames → {p' : PageNow L} {m' : MachineNow} {why : Option NoLine} {how : How}
      → Runs k seen (λ call s. each_in_turn ks (visit (in_task call) t) (on_page (emit (Frame t)) s)) why how m p m' p' → Runs k seen (λ call. run_frame (in_task call) t) why how m p m' p'
  frame_as ks are h =
      runs-is (λ call s. each_in_turn ks (visit (in_task call) t) (on_page (emit (Frame t)) s)) (λ call. run_frame (in_task call) t)
      (λ call. ap (λ ks. each_in_turn ks (visit (in_task call) t) (on_page (emit (Frame t)) (state_of m p))) are) h

  pub frame-begun : (ks : List ℕ) → ks ≡ keys (page_of p.state).frames → {q : PageNow L} → Acts k seen (emit (Frame t)) None p q → {p' : PageNow L} {m' : MachineNow} {why : Option NoLine} {how : How}
      → Runs k seen (λ call. each_in_turn ks (visit (in_task call) t)) why how m q m' p' → Runs k seen (λ call. run_frame (in_task call) t) why how m p m' p'
  frame-begun ks are a h = frame_as ks are (runs-act_then (emit (Frame t)) (λ call. each_in_turn ks (visit (in_task call) t)) (keys-adds m t ks) a h)

  pub frame-exit : {q : PageNow L} {why : NoLine} (r : Result Did NoLine) → IsErrAnd r (λ e. e ≡ why) → Acts k seen (emit (Frame t)) (Some why) p q → Runs k seen (λ call. run_frame (in_task call) t) (result_err r) (did_how r) m p m q
  frame-exit r is a =
      let ks = keys (page_of p.state).frames in
      frame_as ks refl (work-exit (emit (Frame t)) (λ call. each_in_turn ks (visit (in_task call) t)) r (keys-adds m t ks) is a)

  visited : (key : ℕ) (o : Option ℕ) → o ≡ frame_registration key (fields_of (page_of p.state)) → {p' : PageNow L} {m' : MachineNow} {why : Option NoLine} {how : How}
      → Runs k seen (λ call s. regardless (frame_called (in_task call) t o) (on_page (without_frame key) s)) why how m p m' p' → Runs k seen (λ call. regardless (visit (in_task call) t key)) why how m p m' p'
  visited key o is h =
      let s = state_of m p in
      runs-is (λ call s. regardless (frame_called (in_task call) t o) (on_page (without_frame key) s)) (λ call. regardless (visit (in_task call) t key))
      (λ call. ap (λ o. regardless (frame_called (in_task call) t o) (on_page (without_frame key) s)) is ∙ sym (ap (λ (d : Done Page). afterwards d finish) (calls_frame (in_task call) t key s))) h

  module _ (key : ℕ) {q : PageNow L} (gone : Acts k seen (without_frame key) None p q) where
    pub key-none : CanCall m p → None ≡ frame_registration key (fields_of (page_of p.state)) → Runs k seen (λ call. regardless (visit (in_task call) t key)) None (Gave UnitValue) m p m q
    key-none ready none = visited key None none (runs-work (without_frame key) m (λ x. refl) ready gone)

    pub key-called : (r : ℕ) → Some r ≡ frame_registration key (fields_of (page_of p.state)) → (args : List Value) → args ≡ IntValue (pos t) ∷ [] → {p' : PageNow L} {m' : MachineNow} {why : Option NoLine} {how : How}
        → Runs k seen (λ call. regardless (invoke (in_task call) r false args)) why how m q m' p' → Runs k seen (λ call. regardless (visit (in_task call) t key)) why how m p m' p'
    key-called r is args are {p' = p'} {m' = m'} {why = why} {how = how} h =
        let P : List Value → Type 0 = λ vs. Runs k seen (λ call. regardless (invoke (in_task call) r false vs)) why how m q m' p' in
        visited key (Some r) is
        (runs-act_then (without_frame key) (λ call. regardless (invoke (in_task call) r false (IntValue (pos t) ∷ [])))
        (λ es s. afterwards-follows (after es) _ _ finish finish (invoke-adds es (in_task (calling m)) (task-adds m es) r false (IntValue (pos t) ∷ []) s) (λ s. refl)) gone (subst P are h))

    -- its registration is there, whatever comes of want of memory
    pub key-wanting : (r : ℕ) → Some r ≡ frame_registration key (fields_of (page_of p.state)) → {p' : PageNow L} {m' : MachineNow} {why : Option NoLine} {how : How}
        → ((step : Caller Page → State → Done Page) → Runs k seen step why how m q m' p') → Runs k seen (λ call. regardless (visit (in_task call) t key)) why how m p m' p'
    key-wanting r is h = key-called r is (IntValue (pos t) ∷ []) refl (h (λ call. regardless (invoke (in_task call) r false (IntValue (pos t) ∷ []))))
