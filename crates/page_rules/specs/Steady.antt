-- What stays of a page, whatever a script asks of it, and how far its time goes on.
use Rattle.std.specs.Prelude.{◌≡◌, ℕ, ◌+◌, ◌≤◌, Bool, false, List}
use Rattle.page_types.specs.Values.{Value}
use Rattle.page_types.specs.Tree.{Program}
use Rattle.lang_meaning.specs.Machine.{Machine}
use Rattle.lang_meaning.specs.Evaluation.{call_from_outside}
use Rattle.lang_meaning.specs.HostSteps.{Ask, AskOp, AskResume, on_ask, is_busy, host_operations}
use Rattle.lang_meaning.specs.Asks.{host_after}
use Rattle.page_model.specs.State.{Page}
use Rattle.page_model.specs.Folds.{Reached, Finished, Calls}
use Rattle.page_model.specs.PageHost.{Hosting, page_rules}
use Rattle.trace_text.specs.Given.{Keeping}
use Rattle.page_rules.specs.Lined.{Lined, lined_rules}

-- ---- Ours: what stays of a page

-- within a turn: the forms of its rules and of its trace, the script's names, the number of turns, the refresh period and the latencies
pub record Stays (before after : Page) : Type 0 where
  pub form : after.form ≡ before.form
  pub trace : after.trace ≡ before.trace
  pub turns : after.turns ≡ before.turns
  pub names : after.names ≡ before.names
  pub refresh_period : after.refresh_period ≡ before.refresh_period
  pub latencies : after.latencies ≡ before.latencies

-- and within a script: the current level and scheduling state, whether a checkpoint is performed, what is to arrive, and the moments of the
-- last opportunity and of the idle period
pub record StaysInScript (before after : Page) : Type 0 where
  pub stays : Stays before after
  pub level : after.level ≡ before.level
  pub scheduling : after.scheduling ≡ before.scheduling
  pub performing : after.performing ≡ before.performing
  pub arrivals : after.arrivals ≡ before.arrivals
  pub last_opportunity : after.last_opportunity ≡ before.last_opportunity
  pub last_idle_start : after.last_idle_start ≡ before.last_idle_start
  pub idle_period_end : after.idle_period_end ≡ before.idle_period_end
  pub scheduling_states : after.scheduling_states ≡ before.scheduling_states

-- ---- Ours: how far its time goes on

-- the time goes on by so many microseconds at most
pub record TakesAtMost (most : ℕ) (before after : Page) : Type 0 where
  pub later : before.now ≤ after.now
  pub soon : after.now ≤ before.now + most

-- what stays within a turn, and the time
pub record Steady (before after : Page) : Type 0 where
  pub stays : Stays before after
  pub now : after.now ≡ before.now

-- what stays within a script, and the time
pub record SteadyInScript (before after : Page) : Type 0 where
  pub stays : StaysInScript before after
  pub now : after.now ≡ before.now

-- the time goes on, or is the same
abbrev pub IsNotBefore : (before after : Page) → Type 0
IsNotBefore before after = before.now ≤ after.now

-- whether `busy` is asked for
abbrev pub asks_busy : Ask → Bool
asks_busy (AskOp op args) = is_busy op
asks_busy (AskResume ticket end) = false

-- ---- Ours: the page after an ask and after a call, of a host that keeps its events and of one that hands its lines on

-- the page after it was asked
abbrev pub asked_page : Ask → Hosting → Page
asked_page ask h = (on_ask page_rules ask h).host.page

-- the page after a call of a script's function
abbrev pub called_page : Program → (f : ℕ) → (args : List Value) → Machine Hosting → Page
called_page program f args m = (host_after (call_from_outside program (host_operations page_rules) f args m)).page

-- the same around a page that hands its lines on
abbrev pub asked_lined : {T : Type 0} → Keeping T → Ask → Lined T → Page
asked_lined k ask l = (on_ask (lined_rules k) ask l).host.hosting.page

abbrev pub called_lined : {T : Type 0} → Keeping T → Program → (f : ℕ) → (args : List Value) → Machine (Lined T) → Page
called_lined k program f args m = (host_after (call_from_outside program (host_operations (lined_rules k)) f args m)).hosting.page

-- the page that an open fold has come to
abbrev pub reached_page : Reached → Page
reached_page (Finished p) = p
reached_page (Calls f fold p) = p

-- ---- Ours: what the laws say of each function, ask and call

-- f takes no time, and leaves what stays within a script
abbrev pub IsSteady : (f : Page → Page) → Type 0
IsSteady f = (p : Page) → SteadyInScript p (f p)

-- an ask of a page that hands its lines on takes no time, but for `busy`
abbrev pub IsSteadyUnlessBusy : {T : Type 0} → Keeping T → Ask → Lined T → Type 0
IsSteadyUnlessBusy k ask l = asks_busy ask ≡ false → SteadyInScript l.hosting.page (asked_lined k ask l)

-- the page before each call of a script's function stands so to the one after it
abbrev pub HoldsOverCalls : (stands : (before after : Page) → Type 0) → Program → (f : ℕ) → Type 0
HoldsOverCalls stands program f =
    (args : List Value) (m : Machine Hosting) → stands m.host.page (called_page program f args m)

-- the same around a page that hands its lines on
abbrev pub HoldsOverLined : {T : Type 0} → (stands : (before after : Page) → Type 0) → Keeping T → Program → (f : ℕ) → Type 0
HoldsOverLined {T} stands k program f =
    (args : List Value) (m : Machine (Lined T)) → stands m.host.hosting.page (called_lined k program f args m)
