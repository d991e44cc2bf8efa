-- What a page in code does to itself, and then turns.
use Rattle.std.proofs.Common.{◌≡◌, ℕ, List, [], refl, sym, ◌∙◌, ap, Option, Some, None}
use Rattle.page_types.specs.Events.{Stamped}
use Rattle.page_types.specs.declared.End.{End}
use Rattle.lang_meaning.specs.Machine.{Variable, hosted}
use Rattle.page_model.specs.State.{Page, State}
use Rattle.page_model.specs.State as model
use Rattle.page_model.specs.Additions.{turned_after, TurnAdds}
use Rattle.page_model.specs.Turns.{Turned, Ended}
use Rattle.trace_text.specs.declared.lines.NoLine.{NoLine}
use Rattle.trace_text.specs.Given.{Keeping, Seen, Gives as TakesLines}
use Rattle.page_script.specs.PageActs.{bare, lines_of}
use Rattle.page_state.specs.Standing.{Standing, PortNow, page_of}
use Rattle.page_state.specs.PageActs.{at, on_page, Does}
use Rattle.loop_turn.specs.Firing.{FiresAmong}
use Rattle.loop_turn.specs.Outcomes.{Shown, Outcome, Finished, Reached, Turns}
use Rattle.loop_turn.proofs.Fired.{fires-none}
use Rattle.loop_turn.proofs.TurnSteps.{Turns-behind, Turns-behind_stop, Turns-ended}

-- a script's global variables, no open call, so much fuel, and the page
abbrev pub around : List Variable → ℕ → Standing → State
around globals fuel s = record { globals = globals; open_calls = []; fuel = fuel; host = page_of s }

-- what is seen of the lines of a page, and the closures at its port
abbrev pub port_at : {T : Type 0} → Standing → Seen T → Shown T
port_at s seen = record { seen = seen; closures = s.at_port }

module _ {T : Type 0} {k : Keeping T} {s s' : Standing} {old new : Seen T} (f : Page → Page) where
  does-lines : {why : Option NoLine} → Does k (at s old) (on_page f) why (at s' new) → TakesLines k old (lines_of (f (page_of s)).events) why new
  unfolding on_page
  does-lines h = h.acts.lines

  does-fires : {why : Option NoLine} → Does k (at s old) (on_page f) why (at s' new) → FiresAmong (lines_of (f (page_of s)).events) s.at_port s'.at_port
  does-fires h = fires-none (lines_of (f (page_of s)).events) (ap (λ (p : PortNow). p.closures) h.port)

  does-page : Does k (at s old) (on_page f) None (at s' new) → page_of s' ≡ bare (f (page_of s))
  unfolding on_page
  does-page h = ap page_of (h.acts.state refl)

module _ {C T : Type 0} {k : Keeping T} (globals : List Variable) (fuel : ℕ) {s s' : Standing} {old new : Seen T} (f : Page → Page) (next : State → Turned C)
    (only : (es : List Stamped) → TurnAdds es next) where
  -- the page's own work, and then the turn
  pub Turns-page : {why : Option NoLine} {how : Outcome} {reached : Reached C T} → Does k (at s old) (on_page f) None (at s' new)
      → Turns k (port_at s' new) (next (around globals fuel s')) why how reached → Turns k (port_at s old) (next (model.on_page f (around globals fuel s))) why how reached
  Turns-page h rest =
      let es = (f (page_of s)).events in
      let m = model.on_page f (around globals fuel s) in
      Turns-behind es (next m) (next (around globals fuel s'))
      (only es (hosted bare m) ∙ ap (λ p. turned_after es (next (record m { host = p }))) (sym (does-page f h))) (does-lines f h) (does-fires f h) rest

  -- the page's own work stopped, where the turn would have come
  pub Turns-page_stop : {why : NoLine} (how : Outcome) (state : State) (held : C) → Does k (at s old) (on_page f) (Some why) (at s' new)
      → Turns k (port_at s old) (next (model.on_page f (around globals fuel s))) (Some why) how (record { state = state; held = held; shown = port_at s' new })
  Turns-page_stop how state held h =
      let es = (f (page_of s)).events in
      let m = model.on_page f (around globals fuel s) in
      Turns-behind_stop es (next m) (next (hosted bare m)) how (record { state = state; held = held; shown = port_at s' new }) (only es (hosted bare m)) (does-lines f h) (does-fires f h)

-- the page's own work, with which the run ends
pub Turns-finish : {C T : Type 0} {k : Keeping T} (globals : List Variable) (fuel : ℕ) {s s' : Standing} {old new : Seen T} (f : Page → Page) (end : End) (c : C)
    → Does k (at s old) (on_page f) None (at s' new)
    → Turns k (port_at s old) (Ended end (model.on_page f (around globals fuel s)) c) None (Finished end) (record { state = around globals fuel s'; held = c; shown = port_at s' new })
Turns-finish globals fuel {s' = s'} {new = new} f end c h =
    Turns-page globals fuel f (λ m. Ended end m c) (λ es m. refl) h (Turns-ended end (around globals fuel s') c (port_at s' new))
