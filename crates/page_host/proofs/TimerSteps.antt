-- The steps of a timer's task, from what is done one after another.
use Rattle.std.specs.Result.{IsErrAnd, result_err}
use Rattle.std.proofs.Common.{◌≡◌, ℕ, Bool, true, false, cond, List, [], refl, sym, ◌∙◌, ap, Option, Some, None, Result}
use Rattle.page_types.specs.Values.{UnitValue}
use Rattle.page_types.specs.Events.{Stamped}
use Rattle.lang_meaning.specs.Machine.{Done, afterwards, finish, branch}
use Rattle.lang_meaning.proofs.Following.{afterwards-follows, branch-follows}
use Rattle.page_parts.specs.Timers.{is_live}
use Rattle.page_model.specs.State.{Page, State, TimerTask, on_page}
use Rattle.page_model.specs.PageTime.{init_timer, clear_id}
use Rattle.page_model.specs.Invoke.{Ways, in_task, invoke}
use Rattle.page_model.specs.Tasks.{initialised_again, timer_goes_on, where_live, run_timer}
use Rattle.page_model.specs.Additions.{after, AddsAll}
use Rattle.page_model.proofs.Adding.Runs.{WaysAdd, invoke-adds}
use Rattle.lang_meaning.specs.Machine.{Caller}
use Rattle.trace_text.specs.declared.lines.NoLine.{NoLine}
use Rattle.trace_text.specs.Given.{Keeping, Seen}
use Rattle.page_state.specs.Standing.{page_of}
use Rattle.page_interp.specs.MachineNow.{MachineNow}
use Rattle.page_host.specs.PageNow.{PageNow}
use Rattle.page_host.specs.StateActs.{How, Gave, RanOut}
use Rattle.page_host.specs.Moments.{state_of, calling, CanCall}
use Rattle.page_host.specs.Doing.{Acts, Runs, did_how}
use Rattle.page_host.specs.Tasking.{regardless}
use Rattle.page_host.specs.declared.did.Did.{Did}
use Rattle.page_host.proofs.Composing.{runs-act_then, runs-is}
use Rattle.page_host.proofs.TaskRuns.{task-adds, runs-true, runs-false, runs-nothing, runs-work, work-exit, call-then, call-exit, call-dry}
use Rattle.page_host.proofs.Calm.{Calm, calm-same, cond-calm}
use Rattle.page_host.specs.Tasking.{level_set, timer_over}

where_live-adds : (es : List Stamped) (t : TimerTask) (next : State → Done Page) → AddsAll es next → AddsAll es (where_live t next)
where_live-adds es t next h m = branch-follows (after es) (is_live t.id t.handle m.host.timers) next finish next finish h (λ m. refl) m

goes_on-adds : (es : List Stamped) (t : TimerTask) → AddsAll es (where_live t (timer_goes_on t))
goes_on-adds es t = where_live-adds es t (timer_goes_on t) (branch-follows (after es) t.repeats _ _ _ _ (λ m. refl) (λ m. refl))

-- the callback, and what comes behind it
abbrev live_steps : Ways → TimerTask → State → Done Page
live_steps w t m = afterwards (invoke w t.registration false [] m) (where_live t (timer_goes_on t))

live-adds : (es : List Stamped) (w : Ways) → WaysAdd es w → (t : TimerTask) → AddsAll es (live_steps w t)
live-adds es w a t m =
    afterwards-follows (after es) (invoke w t.registration false [] m) _ (where_live t (timer_goes_on t)) (where_live t (timer_goes_on t)) (invoke-adds es w a t.registration false [] m) (goes_on-adds es t)

-- what comes behind it is the page's own work
over-is : (t : TimerTask) (s : State) → finish (on_page (timer_over t) s) ≡ where_live t (timer_goes_on t) s
over-is t s = by (is_live t.id t.handle s.host.timers) t.repeats
  where
    by : (b c : Bool)
        → finish (on_page (λ p. cond b (cond c (init_timer (Some t.id) t.registration t.repeats t.timeout p) (clear_id t.id p)) p) s)
        ≡ branch b s (λ m. branch c m (initialised_again t) (λ m. finish (on_page (clear_id t.id) m))) finish
    by true true = refl
    by true false = refl
    by false c = refl

-- which of them it is
pub over-dead : (t : TimerTask) (p : Page) → is_live t.id t.handle p.timers ≡ false → p ≡ timer_over t p
over-dead t p dead = sym (ap (λ b. cond b (cond t.repeats (init_timer (Some t.id) t.registration t.repeats t.timeout p) (clear_id t.id p)) p) dead)

pub over-again : (t : TimerTask) (p : Page) → is_live t.id t.handle p.timers ≡ true → t.repeats ≡ true → init_timer (Some t.id) t.registration t.repeats t.timeout p ≡ timer_over t p
over-again t p live again =
    sym (ap (λ b. cond b (cond t.repeats (init_timer (Some t.id) t.registration t.repeats t.timeout p) (clear_id t.id p)) p) live ∙ ap (λ b. cond b (init_timer (Some t.id) t.registration t.repeats t.timeout p) (clear_id t.id p)) again)

pub over-cleared : (t : TimerTask) (p : Page) → is_live t.id t.handle p.timers ≡ true → t.repeats ≡ false → clear_id t.id p ≡ timer_over t p
over-cleared t p live once =
    sym (ap (λ b. cond b (cond t.repeats (init_timer (Some t.id) t.registration t.repeats t.timeout p) (clear_id t.id p)) p) live ∙ ap (λ b. cond b (init_timer (Some t.id) t.registration t.repeats t.timeout p) (clear_id t.id p)) once)

pub level-calm : (n : ℕ) (p : Page) → Calm p (level_set n p)
level-calm n p = calm-same p (level_set n p) refl

pub over-calm : (t : TimerTask) (p : Page) → Calm p (timer_over t p)
over-calm t p =
    cond-calm (is_live t.id t.handle p.timers) p _ p
    (cond-calm t.repeats p (init_timer (Some t.id) t.registration t.repeats t.timeout p) (clear_id t.id p) (calm-same p _ refl) (calm-same p _ refl))
    (calm-same p p refl)

module _ {L T : Type 0} {k : Keeping T} {seen : L → Seen T} {m : MachineNow} (t : TimerTask) {p q : PageNow L} (begun : Acts k seen (level_set t.level) None p q) where
  at_begin : (next : Caller Page → State → Done Page) {p' : PageNow L} {m' : MachineNow} {why : Option NoLine} {how : How} → ((es : List Stamped) → AddsAll es (next (calling m))) → Runs k seen (λ call. where_live t (next call)) why how m q m' p'
      → Runs k seen (λ call s. where_live t (next call) (on_page (level_set t.level) s)) why how m p m' p'
  at_begin next only h = runs-act_then (level_set t.level) (λ call. where_live t (next call)) (λ es. where_live-adds es t (next (calling m)) (only es)) begun h

  -- the id is not in the map with its handle
  pub timer-dead : CanCall m q → false ≡ is_live t.id t.handle (page_of q.state).timers → Runs k seen (λ call. run_timer (in_task call) t) None (Gave UnitValue) m p m q
  timer-dead ready dead =
      at_begin (λ call. live_steps (in_task call) t) (λ es. live-adds es (in_task (calling m)) (task-adds m es) t)
      (runs-false (λ s. is_live t.id t.handle s.host.timers) (λ call. live_steps (in_task call) t) (λ call. finish) (sym dead) (runs-nothing m q ready))

  module _ (live : true ≡ is_live t.id t.handle (page_of q.state).timers) where
    at_live : {p' : PageNow L} {m' : MachineNow} {why : Option NoLine} {how : How} → Runs k seen (λ call. live_steps (in_task call) t) why how m q m' p' → Runs k seen (λ call. run_timer (in_task call) t) why how m p m' p'
    at_live h =
        at_begin (λ call. live_steps (in_task call) t) (λ es. live-adds es (in_task (calling m)) (task-adds m es) t)
        (runs-true (λ s. is_live t.id t.handle s.host.timers) (λ call. live_steps (in_task call) t) (λ call. finish) (sym live) h)

    pub timer-exit : {q1 : PageNow L} {m1 : MachineNow} {why : NoLine} {how : How} (r : Result Did NoLine) → IsErrAnd r (λ e. e ≡ why)
        → Runs k seen (λ call. regardless (invoke (in_task call) t.registration false [])) (Some why) how m q m1 q1 → Runs k seen (λ call. run_timer (in_task call) t) (result_err r) (did_how r) m p m1 q1
    timer-exit r is h = at_live (call-exit (λ call. invoke (in_task call) t.registration false []) (λ call. where_live t (timer_goes_on t)) (λ es. goes_on-adds es t) r is h)

    pub timer-dry : {q1 : PageNow L} {m1 : MachineNow} → Runs k seen (λ call. regardless (invoke (in_task call) t.registration false [])) None RanOut m q m1 q1
        → Runs k seen (λ call. run_timer (in_task call) t) None RanOut m p m1 q1
    timer-dry h = at_live (call-dry (λ call. invoke (in_task call) t.registration false []) (λ call. where_live t (timer_goes_on t)) (λ es. goes_on-adds es t) h)

    module _ {q1 q2 : PageNow L} {m1 : MachineNow} (gone : Runs k seen (λ call. regardless (invoke (in_task call) t.registration false [])) None (Gave UnitValue) m q m1 q1) where
      at_over : {why : Option NoLine} {how : How} → Runs k seen (λ call s. finish (on_page (timer_over t) s)) why how m1 q1 m1 q2 → Runs k seen (λ call. run_timer (in_task call) t) why how m p m1 q2
      at_over h =
          at_live
          (call-then (λ call. invoke (in_task call) t.registration false []) (λ call. where_live t (timer_goes_on t)) (λ es. goes_on-adds es t) gone
          (runs-is (λ call s. finish (on_page (timer_over t) s)) (λ call. where_live t (timer_goes_on t)) (λ call. over-is t (state_of m1 q1)) h))

      pub timer-over_exit : {why : NoLine} (r : Result Did NoLine) → IsErrAnd r (λ e. e ≡ why) → Acts k seen (timer_over t) (Some why) q1 q2 → Runs k seen (λ call. run_timer (in_task call) t) (result_err r) (did_how r) m p m1 q2
      timer-over_exit r is a = at_over (work-exit (timer_over t) (λ call. finish) r (λ es s. refl) is a)

      pub timer-done : Acts k seen (timer_over t) None q1 q2 → Runs k seen (λ call. run_timer (in_task call) t) None (Gave UnitValue) m p m1 q2
      timer-done a = at_over (runs-work (timer_over t) m1 (λ x. (over-calm t x).now) (gone.ready refl tt) a)
