-- A script around the page with its mark does what it does around the page that hands its lines on.
use Rattle.std.proofs.Common.{◌≡◌, ◌⊎◌, inl, inr, ℕ, List, Option, Some, None, refl, sym, ap, ◌∙◌, subst}
use Rattle.page_types.specs.Values.{Value}
use Rattle.page_types.specs.Tree.{Program}
use Rattle.lang_meaning.specs.Machine.{Machine, Done, Gives, Throws, Returns, OutOfFuel, hosted, done_hosted}
use Rattle.lang_meaning.specs.Evaluation.{calls, call_from_outside}
use Rattle.lang_meaning.specs.HostSteps.{HostRules, Ask, AskOp, AskResume, on_ask, host_operations}
use Rattle.lang_meaning.specs.Asks.{Limited, limited, stopped_at, limited_operations, Reaches, IsPassed, unasked, after_ask, IsRefused, host_after}
use Rattle.lang_meaning.specs.Following.{CallsFollow}
use Rattle.page_model.specs.PageHost.{Hosting, page_rules}
use Rattle.trace_text.specs.Given.{Keeping}
use Rattle.page_rules.specs.Lined.{Lined, lined, lined_rules, LeavesLines, RulesFollow}
use Rattle.page_rules.proofs.FollowingRules.{calls-follow-rules, limited_by, limited_calls-follow}
use Rattle.page_rules.proofs.Lining.{lined-follows}
use Rattle.page_state.specs.Standing.{PortNow}
use Rattle.page_host.specs.Marked.{Mark, Marked, marked, marked_rules, StaysStopped, LeavesMarked}

-- ---- Asks around one host are those around another whose rules follow

module _ {H K : Type 0} (φ : H → K) (rules : HostRules H) (rules' : HostRules K) (follow : RulesFollow φ rules rules')
    (program : Program) (f : ℕ) (args : List Value) (m : Machine H) where
  abbrev pub asks : Machine (Limited H) → Done (Limited H)
  asks = calls program (limited_operations rules) 256 f args

  abbrev pub other_asks : Machine (Limited K) → Done (Limited K)
  other_asks = calls program (limited_operations rules') 256 f args

  -- an ask that is reached, seen so
  pub record ReachesToo (n : ℕ) (ask : Ask) (before : K) : Type 0 where
    pub host : H
    pub reached : Reaches asks m n ask host
    pub seen : before ≡ φ host

  reached_by : (n : ℕ) (ask : Ask) (before : K) (state : Machine (Limited K)) (d : Done (Limited H))
      → asks (limited (Some n) m) ≡ d → done_hosted (limited_by φ rules rules' follow) d ≡ OutOfFuel state → state.host ≡ stopped_at ask before → ReachesToo n ask before
  reached_by n ask before state (Gives v x) is e at = absurd (cc)
  reached_by n ask before state (Throws v x) is e at = absurd (cc)
  reached_by n ask before state (Returns v x) is e at = absurd (cc)
  reached_by n ask before state (OutOfFuel x) is e at =
      let by = limited_by φ rules rules' follow in
      let host : by x.host ≡ stopped_at ask before = ap host_after e ∙ at in
      let asks_left : x.host.asks ≡ Some 0 = ap (λ l. l.asks) host in
      let stop : x.host.stop ≡ Some ask = ap (λ l. l.stop) host in
      record {
        host = x.host.host;
        reached = record {
          state = x;
          stops = is;
          host = ap (λ (a : Option ℕ). record { asks = a; stop = x.host.stop; host = x.host.host }) asks_left
              ∙ ap (λ (s : Option Ask). record { asks = Some 0; stop = s; host = x.host.host }) stop;
        };
        seen = sym (ap (λ l. l.host) host);
      }

  pub reaches-too : (n : ℕ) (ask : Ask) (before : K) → Reaches other_asks (hosted φ m) n ask before → ReachesToo n ask before
  reaches-too n ask before r =
      reached_by n ask before r.state (asks (limited (Some n) m)) refl
      (sym (limited_calls-follow φ rules rules' follow program 256 f args (limited (Some n) m)) ∙ r.stops) r.host

-- ---- The page with its mark

module _ {T : Type 0} (k : Keeping T) (mark : Mark T) (port : PortNow) where
  abbrev pub with_mark : Lined T → Marked T
  with_mark = marked mark port

  pub marked-follows : RulesFollow with_mark (lined_rules k) (marked_rules k)
  marked-follows (AskOp op args) l = refl
  marked-follows (AskResume ticket end) l = refl

  pub calls-marked : (program : Program) → CallsFollow with_mark (call_from_outside program (host_operations (lined_rules k))) (call_from_outside program (host_operations (marked_rules k)))
  calls-marked program = calls-follow-rules with_mark (lined_rules k) (marked_rules k) marked-follows program 256

  -- the page that hands its lines on, and what stays, of an end around the page with its mark
  unmarked : (d : Done (Lined T)) → done_hosted (λ (x : Marked T). x.lined) (done_hosted with_mark d) ≡ d
  unmarked (Gives v m) = refl
  unmarked (Throws v m) = refl
  unmarked (Returns v m) = refl
  unmarked (OutOfFuel m) = refl

  after-marked : (d : Done (Lined T)) → host_after (done_hosted with_mark d) ≡ with_mark (host_after d)
  after-marked (Gives v m) = refl
  after-marked (Throws v m) = refl
  after-marked (Returns v m) = refl
  after-marked (OutOfFuel m) = refl

  pub lined-end : (d : Done (Lined T)) (x : Done (Marked T)) → x ≡ done_hosted with_mark d → d ≡ done_hosted (λ (y : Marked T). y.lined) x
  lined-end d x e = sym (unmarked d) ∙ ap (done_hosted (λ (y : Marked T). y.lined)) (sym e)

  pub marked-end : (d : Done (Lined T)) (x : Done (Marked T)) → x ≡ done_hosted with_mark d → host_after x ≡ with_mark (host_after d)
  marked-end d x e = ap host_after e ∙ after-marked d

  -- ---- a call that was stopped

  module _ (program : Program) (f : ℕ) (args : List Value) (m : Machine (Lined T)) where
    abbrev pub lined_asks : Machine (Limited (Lined T)) → Done (Limited (Lined T))
    lined_asks = call_from_outside program (limited_operations (lined_rules k)) f args

    abbrev pub marked_asks : Machine (Limited (Marked T)) → Done (Limited (Marked T))
    marked_asks = call_from_outside program (limited_operations (marked_rules k)) f args

    reached : (n : ℕ) (ask : Ask) (before : Marked T) → Reaches marked_asks (hosted with_mark m) n ask before
        → ReachesToo with_mark (lined_rules k) (marked_rules k) marked-follows program f args m n ask before
    reached n ask before r = reaches-too with_mark (lined_rules k) (marked_rules k) marked-follows program f args m n ask before r

    -- what is left behind asks that were answered
    pub record Passed (told : Marked T) : Type 0 where
      pub lined : IsPassed (lined_rules k) lined_asks m told.lined
      pub mark_is : told.mark ≡ mark
      pub port_is : told.port ≡ port

    pub passed-too : (told : Marked T) → IsPassed (marked_rules k) marked_asks (hosted with_mark m) told → Passed told
    passed-too told (unasked e) = record { lined = unasked (ap (λ x. x.lined) e); mark_is = ap (λ x. x.mark) e; port_is = ap (λ x. x.port) e }
    passed-too told (after_ask n ask before r e) =
        let t = reached n ask before r in
        let is : told ≡ with_mark (on_ask (lined_rules k) ask t.host).host = e ∙ (ap (λ h. (on_ask (marked_rules k) ask h).host) t.seen ∙ ap (λ s. s.host) (marked-follows ask t.host)) in
        record { lined = after_ask n ask t.host t.reached (ap (λ x. x.lined) is); mark_is = ap (λ x. x.mark) is; port_is = ap (λ x. x.port) is }

-- ---- a call of a page that has not stopped, which keeps its events or hands them on

module _ {T : Type 0} (k : Keeping T) (told : Option T) (mark : Mark T) (port : PortNow)
    (program : Program) (f : ℕ) (args : List Value) (m : Machine Hosting) where
  abbrev pub φ : Hosting → Lined T
  φ = lined k told None

  -- an ask around it finds it unstopped
  pub unstopped : (n : ℕ) (ask : Ask) (before : Lined T) → Reaches (lined_asks k mark port program f args (hosted φ m)) (hosted φ m) n ask before → before.stopped ≡ None
  unstopped n ask before r = ap (λ (l : Lined T). l.stopped) (reaches-too φ page_rules (lined_rules k) (lined-follows k told None) program f args m n ask before r).seen

  -- so a refused ask stops among its lines
  stops : (ask : Ask) (before after : Lined T) → before.stopped ≡ None → StaysStopped before after ⊎ LeavesLines k ask before after → LeavesLines k ask before after
  stops ask before after e (inl h) = absurd (let s = h.stopped in cc)
  stops ask before after e (inr h) = h

  pub record Refused (after : Marked T) : Type 0 where
    pub lined : IsRefused (LeavesLines k) (lined_asks k mark port program f args (hosted φ m)) (hosted φ m) after.lined
    pub mark_is : after.mark ≡ mark
    pub port_is : after.port ≡ port

  pub refused-too : (after : Marked T) → IsRefused (LeavesMarked k) (marked_asks k mark port program f args (hosted φ m)) (hosted (with_mark k mark port) (hosted φ m)) after → Refused after
  refused-too after r =
      let t = reached k mark port program f args (hosted φ m) r.n r.ask r.before r.reached in
      let lines = subst (λ (x : Marked T). StaysStopped x.lined after.lined ⊎ LeavesLines k r.ask x.lined after.lined) t.seen r.left.lines in
      record {
        lined = record {
          n = r.n;
          ask = r.ask;
          before = t.host;
          reached = t.reached;
          left = stops r.ask t.host after.lined (unstopped r.n r.ask t.host t.reached) lines;
        };
        mark_is = r.left.mark ∙ ap (λ x. x.mark) t.seen;
        port_is = r.left.port ∙ ap (λ x. x.port) t.seen;
      }
