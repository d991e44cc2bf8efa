-- What a page tells as a host where it is asked, from what it does.
use Rattle.std.proofs.Common.{◌≡◌, inl, inr, ℕ, ◌+◌, ◌^◌, ◌≤◌, Bool, true, false, List, [], ◌∷◌, map, refl, sym, ◌∙◌, ap, subst, arith, Option, Some, None, is_some, IfSome, Ok, Err}
use Rattle.page_types.specs.Values.{Value}
use Rattle.page_types.specs.declared.Op.{Op}
use Rattle.page_types.specs.Tree.{Program}
use Rattle.page_parts.specs.Setup.{Setup}
use Rattle.page_parts.specs.HostClosures.{HostClosure}
use Rattle.page_model.specs.Turns.{first_page}
use Rattle.page_model.proofs.Bounding.FirstBounds.{first-bounded}
use Rattle.page_signals.specs.Laws.{as_fold}
use Rattle.lang_meaning.specs.HostSteps.{HostStep, StepValue, StepThrow, StepInvoke, Stepped, Ask, AskOp, AskResume, CallbackEnd, on_ask}
use Rattle.lang_ast.specs.declared.host.HostStep as code
use Rattle.lang_ast.specs.Hosts.{GivesValue, KnowsValue}
use Rattle.lang_ast.specs.Steps.{seen_step, tickets_after, Falls, AreFew, room_taken}
use Rattle.page_values.specs.declared.Value as written
use Rattle.page_values.specs.Seen.{seen}
use Rattle.page_values.specs.Written.{IsNumbered}
use Rattle.page_model.specs.Folds.{Fold}
use Rattle.page_model.specs.PageHost.{Hosting, open_tickets, tickets_then}
use Rattle.page_model.specs.FoldBounds.{IsBounded, FoldsAreBounded, HostIsBounded, FewerLeft, to_visit}
use Rattle.page_model.proofs.Bounding.HostBounds.{known-within, resume-within}
use Rattle.page_model.proofs.Stepping.Tickets.{known-accounts, resume-accounts}
use Rattle.trace_text.specs.declared.lines.NoLine.{NoLine}
use Rattle.trace_text.specs.Given.{Keeping, Seen, after_all}
use Rattle.page_rules.specs.Lined.{bare_hosting, lines_in, handed_on, lined_rules}
use Rattle.page_rules.specs.Steady.{asks_busy, asked_page}
use Rattle.page_rules.proofs.KeepingFolds.{ask-steady, ask-soon}
use Rattle.page_state.specs.Standing.{Standing, PortNow, page_of}
use Rattle.page_state.specs.PageActs.{at}
use Rattle.page_state.specs.FoldActs.{hosting_of}
use Rattle.page_operations.specs.Asked.{Asked, asked_of, AnswersValue, AnswersAlone}
use Rattle.page_host.specs.Marked.{Mark, Marked, marked, marked_step, marked_rules, LeavesMarked}
use Rattle.page_host.specs.PageNow.{PageNow, told_at, marked_at, room_at, room_of, host_now}

module _ {T : Type 0} (k : Keeping T) (old s : Standing) (before after : Seen T) (stopped : Option NoLine) (step : code.HostStep) where
  handed : (ask : Ask) → Asked k (at old before) ask (Ok step) (at s after)
      → handed_on k (told_at old before.told stopped) (asked_of ask old) ≡ record { step = seen_step step; host = told_at s after.told stopped }
  handed ask a =
      let x = asked_of ask old in
      let h = told_at old before.told stopped in
      ap (λ (y : HostStep). record { step = y; host = record h { hosting = bare_hosting x.host; told = after_all k before.told (lines_in x) } }) (sym a.step)
      ∙ (ap (λ (g : Hosting). record { step = seen_step step; host = record h { hosting = g; told = after_all k before.told (lines_in x) } }) (sym a.host)
      ∙ ap (λ (t : Option T). record { step = seen_step step; host = record h { hosting = hosting_of s; told = t } }) (sym a.lines.told.0))

  -- the rule of the page that hands its lines on
  lined-rule : (ask : Ask) → Asked k (at old before) ask (Ok step) (at s after)
      → on_ask (lined_rules k) ask (told_at old before.told stopped) ≡ record { step = seen_step step; host = told_at s after.told stopped }
  unfolding asked_of
  lined-rule (AskOp op args) a = handed (AskOp op args) a
  lined-rule (AskResume ticket end) a = handed (AskResume ticket end) a

  -- the host port stays
  same-port : (mark : Mark T) (ask : Ask) → Asked k (at old before) ask (Ok step) (at s after)
      → marked_step (marked_at mark old before.told stopped) (record { step = seen_step step; host = told_at s after.told stopped })
      ≡ record { step = seen_step step; host = marked_at mark s after.told stopped }
  same-port mark ask a =
      let lined = told_at s after.told stopped in
      ap {A = PortNow} {B = Stepped (Marked T)} (λ port. record { step = seen_step step; host = marked mark port lined }) (sym a.port)

  -- the rule of the host
  pub rule : (mark : Mark T) (ask : Ask) → Asked k (at old before) ask (Ok step) (at s after)
      → on_ask (marked_rules k) ask (marked_at mark old before.told stopped) ≡ record { step = seen_step step; host = marked_at mark s after.told stopped }
  rule mark (AskOp op args) a = ap (marked_step (marked_at mark old before.told stopped)) (lined-rule (AskOp op args) a) ∙ same-port mark (AskOp op args) a
  rule mark (AskResume ticket end) a = ap (marked_step (marked_at mark old before.told stopped)) (lined-rule (AskResume ticket end) a) ∙ same-port mark (AskResume ticket end) a

-- what the page answers with a value is answered so by the rules of the host
pub gives-value : {L T : Type 0} (k : Keeping T) (seen : L → Seen T) (p : PageNow L) (op : Op) (args : List Value)
    → AnswersValue op args p.state → GivesValue (marked_rules k) op args (host_now seen p)
unfolding asked_of
gives-value k seen p op args h = h

-- the value with which the page answers, with nothing else done, is one with which the host answers, and tells the same as before
pub knows-value : {L T : Type 0} (k : Keeping T) (lines : L → Seen T) (p : PageNow L) (op : Op) (args : List Value) (known : Option written.Value)
    → IfSome known (λ v. AnswersAlone op args (seen v) p.state) → ((count : ℕ) → IfSome known (λ v. IsNumbered count (seen v)))
    → IfSome known (KnowsValue (marked_rules k) op args (host_now lines p))
unfolding asked_of
knows-value k lines p op args None answers numbered = tt
knows-value k lines p op args (Some v) answers numbered =
    let now = host_now lines p in
    record {
      rule = ap (λ (x : Stepped Hosting). marked_step now.told (handed_on k now.told.lined x)) answers;
      numbered = numbered now.functions;
    }

few-of : (left : ℕ → ℕ) (most : ℕ) (y : HostStep) → FewerLeft left most y → Falls left most y
few-of left most (StepValue v) h = tt
few-of left most (StepThrow v) h = tt
few-of left most (StepInvoke f args ticket) h = h

are-few : (left : ℕ → ℕ) (y : HostStep) → FewerLeft left (2 ^ 64) y → AreFew left y
are-few left (StepValue v) h = tt
are-few left (StepThrow v) h = tt
are-few left (StepInvoke f args ticket) h = h

same-tickets : (y : HostStep) (tickets : List ℕ) → tickets_then y tickets ≡ tickets_after y tickets
same-tickets (StepValue v) tickets = refl
same-tickets (StepThrow v) tickets = refl
same-tickets (StepInvoke f args ticket) tickets = refl

-- ---- the room for `busy`

room-same : (n m : ℕ) (b : Bool) → m ≡ n → room_at n ≤ room_at m + room_taken b
room-same n m true e = omega (arith, ap room_at e)
room-same n m false e = omega (arith, ap room_at e)

room-less : (n m : ℕ) → m ≤ n + 1000000000 → room_at n ≤ room_at m + 1
room-less n m h = omega (arith, h)

pub not-stopped : (stopped : Option NoLine) → is_some stopped ≡ false → stopped ≡ None
not-stopped None e = refl
not-stopped (Some why) e = absurd (cc)

-- where it goes on
pub room-goes-on : (b : Bool) (old s : Standing) (stopped : Option NoLine) → stopped ≡ None
    → room_at old.script.now ≤ room_at s.script.now + room_taken b → room_of stopped old.script.now ≤ room_of stopped s.script.now + room_taken b
room-goes-on b old s None e h = h
room-goes-on b old s (Some why) e h = absurd (cc)

-- the same after a callback
pub room-resumed : (old s : Standing) (stopped : Option NoLine) → stopped ≡ None
    → room_at old.script.now ≤ room_at s.script.now + 0 → room_of stopped old.script.now ≤ room_of stopped s.script.now
room-resumed old s None e h = omega (arith, h)
room-resumed old s (Some why) e h = absurd (cc)

-- where it stops
pub room-after : (b : Bool) (old : Standing) (stopped : Option NoLine) → room_of stopped old.script.now ≤ 2 ^ 64 + room_taken b
room-after b old None = omega arith
room-after b old (Some why) = omega arith

-- what the page's rules leave to any ask
module _ {T : Type 0} (k : Keeping T) (ask : Ask) (old s : Standing) {before after : Seen T} (step : code.HostStep)
    (a : Asked k (at old before) ask (Ok step) (at s after)) where
  pub room-left : (b : Bool) → asks_busy ask ≡ b → room_at old.script.now ≤ room_at s.script.now + room_taken b
  unfolding asked_of
  room-left false e =
      room-same old.script.now s.script.now false (ap (λ (h : Hosting). h.page.now) a.host ∙ (ask-steady ask (hosting_of old) e).now)
  room-left true e =
      let now : s.script.now ≡ (asked_page ask (hosting_of old)).now = ap (λ (h : Hosting). h.page.now) a.host in
      room-less old.script.now s.script.now (omega (arith, now, (ask-soon ask (hosting_of old)).1.soon))

-- ---- an operation

module _ {T : Type 0} (k : Keeping T) (op : Op) (args : List Value) (old s : Standing) {before after : Seen T} (step : code.HostStep)
    (a : Asked k (at old before) (AskOp op args) (Ok step) (at s after)) where
  pub op-tickets : open_tickets (hosting_of s).folds ≡ tickets_after (seen_step step) (open_tickets (hosting_of old).folds)
  unfolding asked_of
  op-tickets =
      let h = hosting_of old in
      let x = asked_of (AskOp op args) old in
      ap (λ (g : Hosting). open_tickets g.folds) a.host
      ∙ (known-accounts h.folds op args h.page
      ∙ (same-tickets x.step (open_tickets h.folds) ∙ ap (λ (y : HostStep). tickets_after y (open_tickets h.folds)) (sym a.step)))

  pub op-bounded : HostIsBounded (hosting_of old) → HostIsBounded (hosting_of s)
  unfolding asked_of
  op-bounded b =
      let h = hosting_of old in
      subst HostIsBounded (sym a.host) (known-within h.folds h.page b.0 b.1 op args).0

  pub op-few : HostIsBounded (hosting_of old) → AreFew (to_visit (hosting_of s)) (seen_step step)
  unfolding asked_of
  op-few b =
      let h = hosting_of old in
      let x = asked_of (AskOp op args) old in
      subst (λ (y : HostStep). AreFew (to_visit (hosting_of s)) y) (sym a.step)
      (subst (λ (g : Hosting). AreFew (to_visit g) x.step) (sym a.host) (are-few (to_visit x.host) x.step (known-within h.folds h.page b.0 b.1 op args).1))

-- ---- a callback that has ended

module _ {T : Type 0} (k : Keeping T) (ticket : ℕ) (end : CallbackEnd) (old s : Standing) {before after : Seen T} (step : code.HostStep)
    (a : Asked k (at old before) (AskResume ticket end) (Ok step) (at s after)) where
  pub resume-tickets : (rest : List ℕ) → open_tickets (hosting_of old).folds ≡ ticket ∷ rest
      → open_tickets (hosting_of s).folds ≡ tickets_after (seen_step step) rest
  unfolding asked_of
  resume-tickets rest e =
      let h = hosting_of old in
      let x = asked_of (AskResume ticket end) old in
      ap (λ (g : Hosting). open_tickets g.folds) a.host
      ∙ (resume-accounts h.folds ticket end h.page rest e
      ∙ (same-tickets x.step rest ∙ ap (λ (y : HostStep). tickets_after y rest) (sym a.step)))

  pub resume-bounded : HostIsBounded (hosting_of old) → HostIsBounded (hosting_of s)
  unfolding asked_of
  resume-bounded b =
      let h = hosting_of old in
      subst HostIsBounded (sym a.host) (resume-within h.folds end h.page ticket b).0

  pub resume-few : HostIsBounded (hosting_of old) → AreFew (to_visit (hosting_of s)) (seen_step step)
  unfolding asked_of
  resume-few b =
      let h = hosting_of old in
      let x = asked_of (AskResume ticket end) old in
      subst (λ (y : HostStep). AreFew (to_visit (hosting_of s)) y) (sym a.step)
      (subst (λ (g : Hosting). AreFew (to_visit g) x.step) (sym a.host) (are-few (to_visit x.host) x.step (resume-within h.folds end h.page ticket b).2))

  pub resume-falls : HostIsBounded (hosting_of old) → Falls (to_visit (hosting_of s)) (to_visit (hosting_of old) ticket) (seen_step step)
  unfolding asked_of
  resume-falls b =
      let h = hosting_of old in
      let x = asked_of (AskResume ticket end) old in
      subst (λ (y : HostStep). Falls (to_visit (hosting_of s)) (to_visit h ticket) y) (sym a.step)
      (subst (λ (g : Hosting). Falls (to_visit g) (to_visit h ticket) x.step) (sym a.host)
      (few-of (to_visit x.host) (to_visit h ticket) x.step (resume-within h.folds end h.page ticket b).1))

-- ---- a stop

-- where the ask was stopped among its lines
pub stop-leaves : {T : Type 0} (k : Keeping T) (mark : Mark T) (ask : Ask) (old s : Standing) (before after : Seen T) (stopped : Option NoLine) (why : NoLine)
    → Asked k (at old before) ask (Err why) (at s after)
    → LeavesMarked k ask (marked_at mark old before.told stopped) (marked_at mark s after.told (Some why))
unfolding asked_of
stop-leaves k mark (AskOp op args) old s before after stopped why a = record { mark = refl; port = a.port; lines = inr (record { why = why; stopped = refl; among = a.lines.told }) }
stop-leaves k mark (AskResume ticket end) old s before after stopped why a = record { mark = refl; port = a.port; lines = inr (record { why = why; stopped = refl; among = a.lines.told }) }

-- where it was stopped before
pub stopped-leaves : {T : Type 0} (k : Keeping T) (mark : Mark T) (ask : Ask) (s : Standing) (told : Option T) (stopped : Option NoLine) (why : NoLine) → stopped ≡ Some why
    → LeavesMarked k ask (marked_at mark s told stopped) (marked_at mark s told (Some why))
stopped-leaves k mark ask s told stopped why e = record { mark = refl; port = refl; lines = inl (record { why = why; stopped = e; same = ap (told_at s told) (sym e) }) }

-- ---- before the first turn

pub first-bounds : (program : Program) (setup : Setup) (hosts : List HostClosure) (s : Standing) → page_of s ≡ first_page program setup hosts → s.folds ≡ []
    → HostIsBounded (hosting_of s)
first-bounds program setup hosts s e none = (
  subst IsBounded (sym e) (first-bounded program setup hosts),
  subst (λ (folds : List Fold). FoldsAreBounded (page_of s).prios folds) (sym (ap (map as_fold) none)) tt,
)
