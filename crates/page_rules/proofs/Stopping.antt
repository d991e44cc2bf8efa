-- A script's call that was stopped has handed on a start of the lines of the whole call.
use Rattle.std.proofs.Common.{◌≡◌, ℕ, List, [], ◌∷◌, ◌++◌, append_assoc, Option, Some, refl, sym, ap, ◌∙◌, subst, inl}
use Rattle.page_types.specs.Values.{Value}
use Rattle.page_types.specs.Events.{Stamped}
use Rattle.page_types.specs.Tree.{Program}
use Rattle.lang_meaning.specs.Machine.{Machine, Done, Gives, Throws, Returns, OutOfFuel, hosted, done_hosted}
use Rattle.lang_meaning.specs.Evaluation.{calls}
use Rattle.lang_meaning.specs.HostSteps.{Ask, AskOp, AskResume, on_ask, host_operations}
use Rattle.lang_meaning.specs.Asks.{Limited, limited, stopped_at, limited_operations, Reaches, IsPassed, unasked, after_ask, IsRefused, IsKept, host_after}
use Rattle.lang_meaning.proofs.AskOrder.{asked-before}
use Rattle.page_model.specs.PageHost.{Hosting, page_rules}
use Rattle.trace_text.specs.Line.{Line}
use Rattle.trace_text.specs.declared.lines.NoLine.{NoLine}
use Rattle.trace_text.specs.declared.lines.NoLine.TheVariants.{OutOfMemory}
use Rattle.trace_text.specs.Given.{Keeping, after_all, StopsAmong}
use Rattle.trace_text.proofs.Giving.{StopsAmong-more, StopsAmong-later}
use Rattle.page_script.specs.PageActs.{lines_of}
use Rattle.page_rules.specs.Ends.{LeavesWhole}
use Rattle.page_rules.specs.Lined.{Lined, lines_in, bare_hosting, lined_rules, lined, LeavesLines}
use Rattle.page_rules.proofs.RulesAdd.{rules-add}
use Rattle.page_rules.proofs.FollowingRules.{limited_by, limited_calls-follow}
use Rattle.page_rules.proofs.Lining.{lined-follows}
use Rattle.page_script.proofs.Lifting.{lines_of-append}

-- ---- What the page has given comes before what it gives

-- the events of one page and then others
record GoesOn (a b : Hosting) : Type 0 where
  more : List Stamped
  events : b.page.events ≡ more ++ a.page.events

goes_on-kept : IsKept page_rules GoesOn
goes_on-kept = record {
  same = λ a. record { more = []; events = refl };
  both = λ a b c h g. record { more = g.more ++ h.more; events = g.events ∙ (ap (λ es. g.more ++ es) h.events ∙ sym (append_assoc g.more h.more a.page.events)) };
  asked = λ ask h. record { more = (on_ask page_rules ask (bare_hosting h)).host.page.events; events = ap (λ s. s.host.page.events) (rules-add h.page.events ask (bare_hosting h)) };
}

-- ---- Asks around the page that hands its lines on are those around the page that keeps its events

-- memory may be wanting before any of these lines, and behind the last one
wants : {T : Type 0} (k : Keeping T) (told : Option T) (lines : List Line) → StopsAmong k OutOfMemory told lines told
wants k told [] = (tt, refl)
wants k told (line ∷ lines) = inl refl

-- an ask that is reached, seen so
record ReachesToo {T : Type 0} (φ : Hosting → Lined T) (f : Machine (Limited Hosting) → Done (Limited Hosting)) (m : Machine Hosting) (n : ℕ) (ask : Ask) (before : Lined T) : Type 0 where
  page : Hosting
  reached : Reaches f m n ask page
  seen : before ≡ φ page

module _ {T : Type 0} (k : Keeping T) (told : Option T) (stopped : Option NoLine) (program : Program) (f : ℕ) (args : List Value) (m : Machine Hosting) where
  abbrev φ : Hosting → Lined T
  φ = lined k told stopped

  abbrev asks : Machine (Limited Hosting) → Done (Limited Hosting)
  asks = calls program (limited_operations page_rules) 256 f args

  abbrev lined_asks : Machine (Limited (Lined T)) → Done (Limited (Lined T))
  lined_asks = calls program (limited_operations (lined_rules k)) 256 f args

  abbrev whole : List Line
  whole = lines_of (host_after (calls program (host_operations page_rules) 256 f args m)).page.events

  reached_by : (n : ℕ) (ask : Ask) (before : Lined T) (state : Machine (Limited (Lined T))) (d : Done (Limited Hosting))
      → asks (limited (Some n) m) ≡ d → done_hosted (limited_by φ page_rules (lined_rules k) (lined-follows k told stopped)) d ≡ OutOfFuel state → state.host ≡ stopped_at ask before → ReachesToo φ asks m n ask before
  reached_by n ask before state (Gives v x) is e at = absurd (cc)
  reached_by n ask before state (Throws v x) is e at = absurd (cc)
  reached_by n ask before state (Returns v x) is e at = absurd (cc)
  reached_by n ask before state (OutOfFuel x) is e at =
      let by = limited_by φ page_rules (lined_rules k) (lined-follows k told stopped) in
      let host : by x.host ≡ stopped_at ask before = ap host_after e ∙ at in
      let asks_left : x.host.asks ≡ Some 0 = ap (λ l. l.asks) host in
      let stop : x.host.stop ≡ Some ask = ap (λ l. l.stop) host in
      record {
        page = x.host.host;
        reached = record {
          state = x;
          stops = is;
          host = ap (λ (a : Option ℕ). record { asks = a; stop = x.host.stop; host = x.host.host }) asks_left
              ∙ ap (λ (s : Option Ask). record { asks = Some 0; stop = s; host = x.host.host }) stop;
        };
        seen = sym (ap (λ l. l.host) host);
      }

  reaches-too : (n : ℕ) (ask : Ask) (before : Lined T) → Reaches lined_asks (hosted φ m) n ask before → ReachesToo φ asks m n ask before
  reaches-too n ask before r =
      reached_by n ask before r.state (asks (limited (Some n) m)) refl
      (sym (limited_calls-follow φ page_rules (lined_rules k) (lined-follows k told stopped) program 256 f args (limited (Some n) m)) ∙ r.stops) r.host

  -- the lines of the whole call begin with those before an ask that is reached, and those of the ask
  record Begins (ask : Ask) (page : Hosting) : Type 0 where
    rest : List Line
    lines : whole ≡ lines_of page.page.events ++ (lines_in (on_ask page_rules ask (bare_hosting page)) ++ rest)

  begins : (n : ℕ) (ask : Ask) (page : Hosting) → Reaches asks m n ask page → Begins ask page
  begins n ask page r =
      let goes = asked-before page_rules GoesOn goes_on-kept program 256 f args m n ask page r in
      let own = (on_ask page_rules ask (bare_hosting page)).host.page.events in
      let after_ask : (on_ask page_rules ask page).host.page.events ≡ own ++ page.page.events = ap (λ s. s.host.page.events) (rules-add page.page.events ask (bare_hosting page)) in
      record {
        rest = lines_of goes.more;
        lines = ap lines_of (goes.events ∙ ap (λ es. goes.more ++ es) after_ask)
            ∙ lines_of-append goes.more (own ++ page.page.events)
            ∙ ap (λ ls. ls ++ lines_of goes.more) (lines_of-append own page.page.events)
            ∙ append_assoc (lines_of page.page.events) (lines_of own) (lines_of goes.more);
      }

  -- where an ask was refused, the call stopped among the lines of the whole
  pub refused-among : (after : Lined T) → IsRefused (LeavesLines k) lined_asks (hosted φ m) after → LeavesWhole k told whole after
  refused-among after r =
      let t = reaches-too r.n r.ask r.before r.reached in
      let b = begins r.n r.ask t.page t.reached in
      let own = lines_in (on_ask page_rules r.ask (bare_hosting t.page)) in
      let left = subst (λ (h : Lined T). LeavesLines k r.ask h after) t.seen r.left in
      record {
        why = left.why;
        stopped = left.stopped;
        among = subst (λ ls. StopsAmong k left.why told ls after.told) (sym b.lines)
            (StopsAmong-later k left.why told (lines_of t.page.page.events) (own ++ b.rest) after.told
            (StopsAmong-more k left.why (after_all k told (lines_of t.page.page.events)) own b.rest after.told left.among));
      }

  -- where memory was wanting between two asks, the lines so far are a start of the whole
  pub passed-among : (after : Lined T) → IsPassed (lined_rules k) lined_asks (hosted φ m) after → m.host.page.events ≡ [] → StopsAmong k OutOfMemory told whole after.told
  passed-among after (unasked e) none = subst (λ t. StopsAmong k OutOfMemory told whole t) (sym (ap (λ l. l.told) e ∙ ap (λ es. after_all k told (lines_of es)) none)) (wants k told whole)
  passed-among after (after_ask n ask before r e) none =
      let t = reaches-too n ask before r in
      let b = begins n ask t.page t.reached in
      let own = lines_in (on_ask page_rules ask (bare_hosting t.page)) in
      let at : after.told ≡ after_all k (after_all k told (lines_of t.page.page.events)) own =
      ap (λ l. l.told) (e ∙ ap (λ h. (on_ask (lined_rules k) ask h).host) t.seen) ∙ told_is ask t.page in
      subst (λ ls. StopsAmong k OutOfMemory told ls after.told) (sym b.lines)
      (StopsAmong-later k OutOfMemory told (lines_of t.page.page.events) (own ++ b.rest) after.told
      (StopsAmong-later k OutOfMemory (after_all k told (lines_of t.page.page.events)) own b.rest after.told
      (subst (λ t. StopsAmong k OutOfMemory t b.rest after.told) at (wants k after.told b.rest))))
    where
      told_is : (ask : Ask) (page : Hosting) → (on_ask (lined_rules k) ask (φ page)).host.told ≡ after_all k (after_all k told (lines_of page.page.events)) (lines_in (on_ask page_rules ask (bare_hosting page)))
      told_is (AskOp op args) page = refl
      told_is (AskResume ticket end) page = refl
