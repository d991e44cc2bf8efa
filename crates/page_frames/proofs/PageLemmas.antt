-- The calls on the fields as what the model's page does.
use Rattle.std.proofs.Common.{◌≡◌, ℕ, ◌==◌, Bool, true, false, cond, not, List, [], ◌∷◌, ◌++◌, Option, Some, None, eqb, refl, sym, ap, ◌∙◌}
use Rattle.std.specs.Prelude.{pos, option_map}
use Rattle.std.proofs.lemmas.Bool.{eqb-true}
use Rattle.page_types.specs.Values.{IntValue, DeadlineValue}
use Rattle.page_types.specs.Events.{Drop, Frame}
use Rattle.page_types.specs.declared.Source.TheVariants.{Idle}
use Rattle.page_parts.specs.Words.{is_empty}
use Rattle.page_parts.specs.Frames.{Callback, callback_in, without_handle, keys}
use Rattle.page_parts.specs.IdleCallbacks as IdleCallbacks
use Rattle.page_parts.specs.IdleCallbacks.{waiting_callback}
use Rattle.page_parts.specs.Timers.{next_due}
use Rattle.lang_meaning.specs.Machine.{Done, Gives, Throws, Returns, OutOfFuel, afterwards, finish}
use Rattle.idle_periods.specs.Runnable.{first_in}
use Rattle.page_model.specs.State.{InvokeIdle, Page, State, on_page, emit, queue_task}
use Rattle.page_model.specs.Invoke.{Ways, invoke}
use Rattle.page_model.specs.PageSignals.{each_in_turn}
use Rattle.page_model.specs.PageTime as model
use Rattle.page_model.specs.PageTime.{idle_timeout}
use Rattle.page_model.specs.SchedulerTasks.{with_state}
use Rattle.page_model.specs.Tasks.{run_frame, frame_callback, background, invoke_idle_again, idle_called, timed_out}
use Rattle.page_frames.specs.Fields.{FrameFields, fields_of, with_fields}
use Rattle.page_frames.specs.Steps.{frame_registration, frame_gone, idle_requested, idle_registration, idle_gone, has_runnable, first_registration, first_gone, idle_start_set, period_to_start, deadline_from, time_left}
use Rattle.page_frames.specs.Laws.{on_fields, dropped_by, key_visited, frame_called, idle_invoked, started_by, deadline_told, first_called}

-- ---- one handle

-- what is found has the handle
handle_found : (handle : ℕ) (c : Callback) (cs : List Callback) → callback_in cs handle ≡ Some c → c.handle ≡ handle
handle_found handle c [] found = cc
handle_found handle c (d ∷ cs) found = by (eqb d.handle handle) refl (handle_found handle c cs) found
  where
    by : (b : Bool) → eqb d.handle handle ≡ b → (callback_in cs handle ≡ Some c → c.handle ≡ handle)
        → cond b (Some d) (callback_in cs handle) ≡ Some c → c.handle ≡ handle
    by true same rest found = let is : d ≡ c = cc in sym (ap (λ (e : Callback). e.handle) is) ∙ eqb-true d.handle handle same
    by false same rest found = rest found

-- where none is found, none leaves
none_leaves : (handle : ℕ) (cs : List Callback) → callback_in cs handle ≡ None → without_handle handle cs ≡ cs
none_leaves handle [] none = refl
none_leaves handle (d ∷ cs) none = by (eqb d.handle handle) (none_leaves handle cs) none
  where
    by : (b : Bool) → (callback_in cs handle ≡ None → without_handle handle cs ≡ cs)
        → cond b (Some d) (callback_in cs handle) ≡ None
        → cond b (without_handle handle cs) (d ∷ without_handle handle cs) ≡ d ∷ cs
    by true rest none = let never : ⊥ = cc in absurd never
    by false rest none = ap (λ (ds : List Callback). d ∷ ds) (rest none)

-- where none is found in two lists, none is in either
none_in_first : (handle : ℕ) (cs ds : List Callback) → callback_in (cs ++ ds) handle ≡ None → callback_in cs handle ≡ None
none_in_first handle [] ds none = refl
none_in_first handle (c ∷ cs) ds none = by (eqb c.handle handle) (none_in_first handle cs ds) none
  where
    by : (b : Bool) → (callback_in (cs ++ ds) handle ≡ None → callback_in cs handle ≡ None)
        → cond b (Some c) (callback_in (cs ++ ds) handle) ≡ None → cond b (Some c) (callback_in cs handle) ≡ None
    by true rest none = none
    by false rest none = rest none

none_in_second : (handle : ℕ) (cs ds : List Callback) → callback_in (cs ++ ds) handle ≡ None → callback_in ds handle ≡ None
none_in_second handle [] ds none = none
none_in_second handle (c ∷ cs) ds none = by (eqb c.handle handle) (none_in_second handle cs ds) none
  where
    by : (b : Bool) → (callback_in (cs ++ ds) handle ≡ None → callback_in ds handle ≡ None)
        → cond b (Some c) (callback_in (cs ++ ds) handle) ≡ None → callback_in ds handle ≡ None
    by true rest none = let never : ⊥ = cc in absurd never
    by false rest none = rest none

-- ---- frames

module _ (handle : ℕ) (p : Page) where
  -- where the handle is not there, the page stays as it is
  frame_stays : callback_in p.frames.callbacks handle ≡ None → with_fields (frame_gone handle (fields_of p)) p ≡ p
  frame_stays none =
      ap (λ (cs : List Callback). record p { frames = record p.frames { callbacks = cs } }) (none_leaves handle p.frames.callbacks none)

  pub cancels_frame : model.cancel_frame handle p ≡ dropped_by (frame_registration handle (fields_of p)) (with_fields (frame_gone handle (fields_of p)) p)
  cancels_frame = by (callback_in p.frames.callbacks handle) refl
    where
      by : (o : Option Callback) → callback_in p.frames.callbacks handle ≡ o
          → elim o [ None ↦ p | Some c ↦ emit (Drop c.registration) (model.without_frame handle p) ]
          ≡ dropped_by (option_map (λ c. c.registration) o) (with_fields (frame_gone handle (fields_of p)) p)
      by None is = sym (frame_stays is)
      by (Some c) is = refl

pub calls_frame : (w : Ways) (t key : ℕ) (m : State) → frame_callback w t (callback_in m.host.frames.callbacks key) m ≡ key_visited w t key m
calls_frame w t key m = by (callback_in m.host.frames.callbacks key) refl
  where
    by : (o : Option Callback) → callback_in m.host.frames.callbacks key ≡ o
        → frame_callback w t o m ≡ frame_called w t (option_map (λ c. c.registration) o) (on_fields (frame_gone key) m)
    by None is = sym (ap (λ (p : Page). finish (on_page (λ q. p) m)) (frame_stays key m.host is))
    by (Some c) is =
        ap (λ (n : ℕ). invoke w c.registration false (IntValue (pos t) ∷ []) (on_page (model.without_frame n) m))
        (handle_found key c m.host.frames.callbacks is)

-- what is done afterwards alike in every state is done alike
same_afterwards : (done : Done Page) (next next' : State → Done Page) → ((m : State) → next m ≡ next' m) → afterwards done next ≡ afterwards done next'
same_afterwards (Gives v m) next next' same = same m
same_afterwards (Throws v m) next next' same = same m
same_afterwards (Returns v m) next next' same = same m
same_afterwards (OutOfFuel m) next next' same = refl

same_in_turn : (step step' : ℕ → State → Done Page) → ((n : ℕ) (m : State) → step n m ≡ step' n m)
    → (ns : List ℕ) (m : State) → each_in_turn ns step m ≡ each_in_turn ns step' m
same_in_turn step step' same [] m = refl
same_in_turn step step' same (n ∷ ns) m =
    ap (λ (done : Done Page). afterwards done (λ m. each_in_turn ns step m)) (same n m)
    ∙ same_afterwards (step' n m) (λ m. each_in_turn ns step m) (λ m. each_in_turn ns step' m) (same_in_turn step step' same ns)

pub runs_frame : (w : Ways) (t : ℕ) (m : State) → run_frame w t m ≡ each_in_turn (keys m.host.frames) (key_visited w t) (on_page (emit (Frame t)) m)
runs_frame w t m =
    same_in_turn (λ key m. frame_callback w t (callback_in m.host.frames.callbacks key) m) (key_visited w t) (calls_frame w t)
    (keys m.host.frames) (on_page (emit (Frame t)) m)

-- ---- idle callbacks

pub requests_idle : (ms registration : ℕ) (p : Page)
    → model.request_idle ms registration p
    ≡ cond (ms == 0) (with_fields (idle_requested registration (fields_of p)) p) (idle_timeout ms registration (with_fields (idle_requested registration (fields_of p)) p))
requests_idle ms registration p = by (ms == 0)
  where
    requested : Page
    requested = with_fields (idle_requested registration (fields_of p)) p

    by : (b : Bool) → cond b (λ (q : Page). q) (idle_timeout ms registration) requested ≡ cond b requested (idle_timeout ms registration requested)
    by true = refl
    by false = refl

module _ (handle : ℕ) (p : Page) where
  idle_stays : waiting_callback handle p.idle ≡ None → with_fields (idle_gone handle (fields_of p)) p ≡ p
  idle_stays none =
      let runnable = none_leaves handle p.idle.runnable (none_in_first handle p.idle.runnable p.idle.pending none) in
      let pending = none_leaves handle p.idle.pending (none_in_second handle p.idle.runnable p.idle.pending none) in
      ap (λ (cs : List Callback). record p { idle = record p.idle { runnable = cs; pending = without_handle handle p.idle.pending } }) runnable
      ∙ ap (λ (cs : List Callback). record p { idle = record p.idle { pending = cs } }) pending

  pub cancels_idle : model.cancel_idle handle p ≡ dropped_by (idle_registration handle (fields_of p)) (with_fields (idle_gone handle (fields_of p)) p)
  cancels_idle = by (waiting_callback handle p.idle) refl
    where
      by : (o : Option Callback) → waiting_callback handle p.idle ≡ o
          → elim o [ None ↦ p | Some c ↦ emit (Drop c.registration) (model.without_idle handle p) ]
          ≡ dropped_by (option_map (λ c. c.registration) o) (with_fields (idle_gone handle (fields_of p)) p)
      by None is = sym (idle_stays is)
      by (Some c) is = refl

pub times_out : (w : Ways) (handle : ℕ) (m : State)
    → timed_out w (model.idle_callback handle m.host) m
    ≡ idle_invoked w (idle_registration handle (fields_of m.host)) (Some m.host.now) (on_fields (idle_gone handle) m)
times_out w handle m = by (waiting_callback handle m.host.idle) refl
  where
    by : (o : Option Callback) → waiting_callback handle m.host.idle ≡ o
        → timed_out w o m ≡ idle_invoked w (option_map (λ c. c.registration) o) (Some m.host.now) (on_fields (idle_gone handle) m)
    by None is = sym (ap (λ (p : Page). finish (on_page (λ q. p) m)) (idle_stays handle m.host is))
    by (Some c) is =
        ap (λ (n : ℕ). invoke w c.registration false (DeadlineValue (Some m.host.now) ∷ []) (on_page (with_state background) (on_page (model.without_idle n) m)))
        (handle_found handle c (m.host.idle.runnable ++ m.host.idle.pending) is)

-- ---- idle periods

starts_where : (b : Bool) (end : ℕ) (p : Page) → cond b (model.period_begun end p) p ≡ started_by (cond b (Some end) None) (fields_of p) p
starts_where true end p = refl
starts_where false end p = refl

pub starts_period : (p : Page) → model.start_period p ≡ started_by (period_to_start p.now (next_due p.timers) (fields_of p)) (fields_of p) p
starts_period p = starts_where _ (deadline_from p.last_idle_start (next_due p.timers) (fields_of p)) p

same_fields : (now : ℕ) (o : Option ℕ) (f : FrameFields) (p : Page) → started_by o f (record p { last_idle_start = now }) ≡ started_by o f p
same_fields now None f p = refl
same_fields now (Some end) f p = refl

pub steps_idle : (p : Page) → let set = idle_start_set p.now (fields_of p) in
    model.idle_step p ≡ started_by (period_to_start p.now (next_due p.timers) set) set p
steps_idle p =
    let set = idle_start_set p.now (fields_of p) in
    starts_period (record p { last_idle_start = p.now }) ∙ same_fields p.now (period_to_start p.now (next_due p.timers) set) set p

pub remains : (fixed : Option ℕ) (p : Page) → model.time_remaining fixed p ≡ time_left fixed p.now (next_due p.timers) (fields_of p)
remains None p = refl
remains (Some moment) p = refl

pub invokes_again : (p : Page) → invoke_idle_again p ≡ cond (has_runnable (fields_of p)) (queue_task Idle InvokeIdle p) p
invokes_again p = by (is_empty p.idle.runnable)
  where
    by : (b : Bool) → cond b p (queue_task Idle InvokeIdle p) ≡ cond (not b) (queue_task Idle InvokeIdle p) p
    by true = refl
    by false = refl

-- the first runnable callback leaves by its handle
first_leaves : (c : Callback) (others : List Callback) (p : Page) → p.idle.runnable ≡ c ∷ others → model.without_idle c.handle p ≡ with_fields (first_gone (fields_of p)) p
first_leaves c others p is =
    sym (ap (λ (cs : List Callback). record p { idle = elim (first_in cs) [ None ↦ p.idle | Some d ↦ IdleCallbacks.cancel d.handle p.idle ] }) is)

pub first_is : (c : Callback) (others : List Callback) (p : Page) → p.idle.runnable ≡ c ∷ others
    → (first_registration (fields_of p) ≡ Some c.registration) × (model.without_idle c.handle p ≡ with_fields (first_gone (fields_of p)) p)
first_is c others p is = (ap (λ (cs : List Callback). option_map (λ (d : Callback). d.registration) (first_in cs)) is, first_leaves c others p is)

pub calls_idle : (w : Ways) (m : State) → idle_called w m.host.idle.runnable m ≡ first_called w (first_registration (fields_of m.host)) m
calls_idle w m = by m.host.idle.runnable refl
  where
    by : (cs : List Callback) → m.host.idle.runnable ≡ cs → idle_called w cs m ≡ first_called w (option_map (λ c. c.registration) (first_in cs)) m
    by [] is = refl
    by (c ∷ others) is =
        let told = on_page deadline_told m in
        ap
        (λ (p : Page). afterwards
        (invoke w c.registration false (DeadlineValue None ∷ []) (on_page (with_state background) (on_page (λ q. p) told)))
        (λ m. finish (on_page invoke_idle_again m)))
        (first_leaves c others told.host is)
