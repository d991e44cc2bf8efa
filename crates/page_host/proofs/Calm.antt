-- What the page's own work leaves: bounds, the time and the script's names.
use Rattle.std.proofs.Common.{◌≡◌, ◌<◌, ◌^◌, ℕ, map, Bool, true, false, cond, List, length, refl, sym, ◌∙◌, ap, subst, arith, Option, Some, None}
use Rattle.page_types.specs.Values.{Value}
use Rattle.page_parts.specs.Promises.{Settled}
use Rattle.page_parts.specs.AbortGraph.{remove_algorithm}
use Rattle.page_model.specs.State.{Page, the_registration}
use Rattle.page_model.specs.PagePromises as promises
use Rattle.page_model.specs.PageSignals.{run_algorithms, reason_set, unwatch}
use Rattle.page_model.specs.FoldBounds.{Counted, counted, FoldsAreBounded, HostIsBounded}
use Rattle.page_model.proofs.Bounding.Counting.{Near, near-equal, near-then, near-signals, bounded-near, alike-with, with_numbered-length, settle-leaves, run_algorithms-near, reason_set-near}
use Rattle.page_model.specs.Folds.{Fold}
use Rattle.page_rules.proofs.KeepingPages.{lasting, run_algorithms-keeps, reason_set-keeps}
use Rattle.page_rules.proofs.KeepingTurns.{settle-steady}
use Rattle.trace_text.specs.declared.lines.NoLine.{NoLine}
use Rattle.trace_text.specs.Given.{Keeping, Seen}
use Rattle.page_signals.specs.Laws.{as_fold}
use Rattle.page_state.specs.Standing.{page_of}
use Rattle.page_state.specs.PageActs.{at, on_page, Does}
use Rattle.page_state.specs.FoldActs.{hosting_of}
use Rattle.page_operations.specs.Asked.{functions_of}
use Rattle.page_host.specs.PageNow.{PageNow, IsWhole}
use Rattle.page_host.specs.Marked.{IsSince}
use Rattle.page_host.specs.Pieces.{stop_kept, stops_counted}
use Rattle.page_host.proofs.Counts.{since-given, raised-below}
use Rattle.page_host.proofs.Composing.{kept-is}

-- q is p within the same bounds, at the same time, with the same names
pub record Calm (p q : Page) : Type 0 where
  pub near : Near 0 (counted p) (counted q)
  pub now : q.now ≡ p.now
  pub names : q.names ≡ p.names

-- what is asked of a page here
pub record Held : Type 0 where
  pub counted : Counted
  pub now : ℕ
  pub names : List (List ℕ)

abbrev pub held : Page → Held
held p = record { counted = counted p; now = p.now; names = p.names }

pub calm-same : (p q : Page) → held q ≡ held p → Calm p q
calm-same p q e = record { near = near-equal (counted p) (counted q) (ap (λ h. h.counted) e); now = ap (λ h. h.now) e; names = ap (λ h. h.names) e }

pub calm-then : (p q r : Page) → Calm p q → Calm q r → Calm p r
calm-then p q r h k = record { near = near-then 0 (counted p) (counted q) (counted r) h.near k.near; now = k.now ∙ h.now; names = k.names ∙ h.names }

pub cond-calm : (b : Bool) (p q r : Page) → Calm p q → Calm p r → Calm p (cond b q r)
cond-calm true p q r h k = h
cond-calm false p q r h k = k

-- ---- promises and signals

pub settle-calm : (n : ℕ) (how : Settled) (p : Page) → Calm p (promises.settle n how p)
settle-calm n how p =
    let steady = settle-steady n how p in
    record { near = near-equal (counted p) (counted (promises.settle n how p)) (settle-leaves n how p); now = steady.now; names = steady.stays.stays.names }

pub unwatch-calm : (r : ℕ) (p : Page) → Calm p (unwatch r p)
unwatch-calm r p = by (the_registration p r).signal
  where
    by : (o : Option ℕ) → Calm p (elim o [ None ↦ p | Some s ↦ record p { signals = remove_algorithm s r p.signals } ])
    by None = calm-same p p refl
    by (Some s) = record {
      near = near-signals p (remove_algorithm s r p.signals) (with_numbered-length p.signals s _) (λ t. alike-with p.signals s t _ refl);
      now = refl;
      names = refl;
    }

pub run_algorithms-calm : (s : ℕ) (p : Page) → Calm p (run_algorithms s p)
run_algorithms-calm s p =
    let e = run_algorithms-keeps (lasting p) s p refl in
    record { near = run_algorithms-near s p; now = ap (λ l. l.staying.now) e; names = ap (λ l. l.staying.names) e }

pub reason_set-calm : (reason : Value) (ss : List ℕ) (p : Page) → Calm p (reason_set reason ss p)
reason_set-calm reason ss p =
    let e = reason_set-keeps (lasting p) reason ss p refl in
    record { near = reason_set-near reason ss p; now = ap (λ l. l.staying.now) e; names = ap (λ l. l.staying.names) e }

-- ---- the page in code

counted-below : (why : Option NoLine) (n : ℕ) → n < 2 ^ 64 → stops_counted why n < 2 ^ 64
counted-below None n h = h
counted-below (Some why) n h = raised-below n

-- after the page's own work it is whole
pub calm-whole : {L T : Type 0} {k : Keeping T} {seen : L → Seen T} {f : Page → Page} {why : Option NoLine} {p p' : PageNow L} → ((q : Page) → Calm q (f q)) → IsWhole seen p → p.stopped ≡ None → p'.stopped ≡ stop_kept why p.stopped
    → p'.stops ≡ stops_counted why p.stops → p'.fuel ≡ p.fuel → p'.functions ≡ p.functions → p'.since ≡ p.since
    → Does k (at p.state (seen p.lines)) (on_page f) why (at p'.state (seen p'.lines)) → IsWhole seen p'
unfolding on_page
calm-whole {seen = seen} {f = f} {why = why} {p = p} {p' = p'} calm whole running stopped stops fuel functions since h =
    let is : p'.stopped ≡ why = stopped ∙ kept-is why p.stopped running in
    let x = page_of p.state in
    let folds : List Fold = map as_fold p.state.folds in
    record {
      bounded = λ e.
          let s = h.acts.state (sym is ∙ e) in
          let b = whole.bounded running in
          let c = calm x in
          subst (λ s. HostIsBounded (hosting_of s)) (sym s)
          (bounded-near 0 (counted x) (counted (f x)) c.near (let r = b.0.registrations in omega (arith, r)) b.0, subst (λ ps. FoldsAreBounded ps folds) (sym c.near.prios) b.1);
      functions = λ e. ap functions_of (h.acts.state (sym is ∙ e)) ∙ (ap length (calm x).names ∙ (whole.functions running ∙ sym functions));
      fuel = let few = whole.fuel in omega (arith, fuel, few);
      stops = subst (λ (n : ℕ). n < 2 ^ 64) (sym stops) (counted-below why p.stops whole.stops);
      since =
          let before = subst (λ (o : Option NoLine). IsSince (seen p.since) o (seen p.lines)) running whole.since in
          subst (λ (o : Option NoLine). IsSince (seen p'.since) o (seen p'.lines)) (sym is)
          (subst (λ l. IsSince (seen l) why (seen p'.lines)) (sym since) (since-given why before h.acts.lines));
    }
