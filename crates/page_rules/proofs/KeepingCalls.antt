-- A script's call, whatever it asks of its page, leaves what stays within a script, and time does not go back. So it is around a page that
-- hands its lines on.
use Rattle.std.proofs.Common.{◌≡◌, ℕ, false, List, [], refl, ◌∙◌, le_refl, le_trans}
use Rattle.page_types.specs.Values.{Value}
use Rattle.page_types.specs.Tree.{Program}
use Rattle.lang_meaning.specs.Machine.{Machine}
use Rattle.lang_meaning.specs.HostSteps.{Ask, AskOp, AskResume}
use Rattle.lang_meaning.specs.Asks.{IsKept, unasked}
use Rattle.lang_meaning.proofs.AskOrder.{passed-before}
use Rattle.page_model.specs.State.{Page}
use Rattle.page_model.specs.PageHost.{Hosting, page_rules}
use Rattle.trace_text.specs.Given.{Keeping}
use Rattle.page_rules.specs.Lined.{Lined, bare_hosting, lined_rules}
use Rattle.page_rules.specs.Steady.{StaysInScript, SteadyInScript, IsNotBefore, asks_busy, asked_page, called_page, asked_lined, called_lined}
use Rattle.page_rules.proofs.KeepingFolds.{Soon, time-stays, ask-soon, ask-steady}

stays-same : (p : Page) → StaysInScript p p
stays-same p = time-stays p p.now

stays-then : (p q r : Page) → StaysInScript p q → StaysInScript q r → StaysInScript p r
stays-then p q r h k = record {
  stays = record {
    form = k.stays.form ∙ h.stays.form;
    trace = k.stays.trace ∙ h.stays.trace;
    turns = k.stays.turns ∙ h.stays.turns;
    names = k.stays.names ∙ h.stays.names;
    refresh_period = k.stays.refresh_period ∙ h.stays.refresh_period;
    latencies = k.stays.latencies ∙ h.stays.latencies;
  };
  level = k.level ∙ h.level;
  scheduling = k.scheduling ∙ h.scheduling;
  performing = k.performing ∙ h.performing;
  arrivals = k.arrivals ∙ h.arrivals;
  last_opportunity = k.last_opportunity ∙ h.last_opportunity;
  last_idle_start = k.last_idle_start ∙ h.last_idle_start;
  idle_period_end = k.idle_period_end ∙ h.idle_period_end;
  scheduling_states = k.scheduling_states ∙ h.scheduling_states;
}

-- whatever events two pages have
stays-bare : (p q : Page) → StaysInScript (record p { events = [] }) q → StaysInScript p (record q { events = [] })
stays-bare p q h = record {
  stays = record {
    form = h.stays.form;
    trace = h.stays.trace;
    turns = h.stays.turns;
    names = h.stays.names;
    refresh_period = h.stays.refresh_period;
    latencies = h.stays.latencies;
  };
  level = h.level;
  scheduling = h.scheduling;
  performing = h.performing;
  arrivals = h.arrivals;
  last_opportunity = h.last_opportunity;
  last_idle_start = h.last_idle_start;
  idle_period_end = h.idle_period_end;
  scheduling_states = h.scheduling_states;
}

-- one page comes before another where this stays, and the other one's time is not earlier
abbrev pub ComesOn : Page → Page → Type 0
ComesOn p q = StaysInScript p q × IsNotBefore p q

comes_on-same : (p : Page) → ComesOn p p
comes_on-same p = (stays-same p, le_refl p.now)

comes_on-then : (p q r : Page) → ComesOn p q → ComesOn q r → ComesOn p r
comes_on-then p q r h k = (stays-then p q r h.0 k.0, le_trans h.1 k.1)

-- ---- The page that keeps its events

comes_on-kept : IsKept page_rules (λ a b. ComesOn a.page b.page)
comes_on-kept = record {
  same = λ a. comes_on-same a.page;
  both = λ a b c. comes_on-then a.page b.page c.page;
  asked = λ ask h. let soon = ask-soon ask h in (soon.0, soon.1.later);
}

pub call-comes_on : (program : Program) (f : ℕ) (args : List Value) (m : Machine Hosting) → ComesOn m.host.page (called_page program f args m)
call-comes_on program f args m = passed-before page_rules (λ a b. ComesOn a.page b.page) comes_on-kept program 256 f args m m.host (unasked refl)

-- ---- The page that hands its lines on

module _ {T : Type 0} (k : Keeping T) where
  bare-soon : (l : Lined T) (q : Page) → Soon (bare_hosting l.hosting).page q → Soon l.hosting.page (record q { events = [] })
  bare-soon l q h = (stays-bare l.hosting.page q h.0, record { later = h.1.later; soon = h.1.soon })

  pub lined-soon : (ask : Ask) (l : Lined T) → Soon l.hosting.page (asked_lined k ask l)
  lined-soon (AskOp op args) l = bare-soon l (asked_page (AskOp op args) (bare_hosting l.hosting)) (ask-soon (AskOp op args) (bare_hosting l.hosting))
  lined-soon (AskResume ticket end) l = bare-soon l (asked_page (AskResume ticket end) (bare_hosting l.hosting)) (ask-soon (AskResume ticket end) (bare_hosting l.hosting))

  pub lined-steady : (ask : Ask) (l : Lined T) → asks_busy ask ≡ false → SteadyInScript l.hosting.page (asked_lined k ask l)
  lined-steady (AskOp op args) l e = let h = ask-steady (AskOp op args) (bare_hosting l.hosting) e in record { stays = stays-bare l.hosting.page _ h.stays; now = h.now }
  lined-steady (AskResume ticket end) l e = let h = ask-steady (AskResume ticket end) (bare_hosting l.hosting) e in record { stays = stays-bare l.hosting.page _ h.stays; now = h.now }

  lined-kept : IsKept (lined_rules k) (λ a b. ComesOn a.hosting.page b.hosting.page)
  lined-kept = record {
    same = λ a. comes_on-same a.hosting.page;
    both = λ a b c. comes_on-then a.hosting.page b.hosting.page c.hosting.page;
    asked = λ ask l. let soon = lined-soon ask l in (soon.0, soon.1.later);
  }

  pub lined_call-comes_on : (program : Program) (f : ℕ) (args : List Value) (m : Machine (Lined T)) → ComesOn m.host.hosting.page (called_lined k program f args m)
  lined_call-comes_on program f args m = passed-before (lined_rules k) (λ a b. ComesOn a.hosting.page b.hosting.page) lined-kept program 256 f args m m.host (unasked refl)
