-- What a host answers, and the callbacks that it asks for.
use Rattle.std.proofs.Common.{◌≡◌, ℕ, suc, ◌+◌, ◌-◌, ◌*◌, ◌^◌, ◌<◌, ◌≤◌, List, [], ◌∷◌, ◌++◌, map, Option, Some, None, Result, Ok, Err, IfErr, Vec, Global, refl, sym, ap, ◌∙◌, subst, arith}
use Rattle.page_types.specs.Counts.{Rose}
use Rattle.page_types.specs.declared.FaultName.{FaultName}
use Rattle.page_types.specs.declared.Op.{Op}
use Rattle.page_types.specs.Values as Model
use Rattle.page_types.specs.Values.{FaultValue, items_of}
use Rattle.page_types.specs.Tree.{Program}
use Rattle.page_parts.specs.Kinds.{Func}
use Rattle.page_values.specs.declared.Value.{Value}
use Rattle.page_values.specs.declared.Value.TheVariants as value
use Rattle.page_values.specs.Seen.{seen}
use Rattle.lang_ast.specs.Hosts.{HostNow}
use Rattle.lang_ast.specs.Steps.{AreFew, Falls, StepIsNumbered, tickets_after, AllNumbered}
use Rattle.lang_meaning.specs.Machine.{Machine, Throws}
use Rattle.lang_meaning.specs.HostSteps.{HostStep, StepValue, StepThrow, StepInvoke, CallbackEnd, CallbackThrow, HostRules, Ask, AskOp, AskResume, on_ask, asked_by, steps_by, after_callback, is_busy}
use Rattle.lang_meaning.specs.Asks.{Limited, limited, limited_host, ask_limited, unasked}
use Rattle.page_interp.specs.declared.exit.Exit.{Exit}
use Rattle.page_interp.specs.declared.exit.Exit.TheVariants as exit
use Rattle.page_interp.specs.declared.exit.Store.{Store}
use Rattle.page_interp.specs.declared.stack.Current.{Current}
use Rattle.page_interp.specs.declared.stack.Focus.{Focus}
use Rattle.page_interp.specs.declared.stack.Focus.TheVariants as focus
use Rattle.page_interp.specs.declared.stack.Frame.{Frame}
use Rattle.page_interp.specs.declared.stack.Frame.TheVariants as frame
use Rattle.page_interp.specs.Runs.{IsUnsettled, outside, IsReady, moment_of, Asks, count_of_functions, caller_of, around_of, call_given, func_of}
use Rattle.page_interp.specs.Sizes.{program_size}
use Rattle.page_interp.specs.Frames.{does, depth_of, tickets_in, first, after_all, begun, meaning_at, state_at, moment_at, focus_weight, frames_weight, steps_left, place, waiting_at, Place, Holds, IsWant, Opens, IsUncalled, Stood, Advances, Finishes, Leaves, calls_left, Answering, MayCome, steps_on, resumes}
use Rattle.page_interp.proofs.Steps.{still}
use Rattle.page_interp.proofs.Calls.{given_none, given_some, deep_call, dry_call, answered_now, thrown_now, next_of, invoked}
use Rattle.page_interp.proofs.FrameSteps.{turns_less}
use Rattle.page_interp.proofs.AskSteps.{asks_same, asks_trans, asks_once, leaves_trans, memory_finishes, dry_finishes, refused_finishes, asks_runs, never_settled}
use Rattle.std.proofs.Common.{true, false}
use Rattle.page_interp.proofs.Bodies.{bound_numbered}
use Rattle.page_interp.proofs.Numbered.{all_append}
use Rattle.std.proofs.Common.{IfOk}

-- the host has answered further, and what comes of it comes of its first answer
pub record Further {T S : Type 0} (rules : HostRules T) (leaves : Ask → T → T → Type 0) (p : Program) (left : T → ℕ → ℕ) (a : Place)
    (h0 : HostNow T S) (first : HostStep) (n : ℕ) (h : HostNow T S) (step : HostStep) : Type 0 where
  pub number : ℕ
  pub enough : MayCome a.store.fuel (left h.told) step number
  pub asks : (ns : List ℕ) → Asks (outside rules leaves p) (begun rules p ns a.frames (steps_on rules n first)) (begun rules p ns a.frames (steps_on rules number step)) (moment_at p h0 a) (moment_at p h a)

pub record Answered {T S : Type 0} (rules : HostRules T) (leaves : Ask → T → T → Type 0) (p : Program) (left : T → ℕ → ℕ) (a : Place)
    (h0 : HostNow T S) (first : HostStep) (h : HostNow T S) (step : HostStep) : Type 0 where
  pub kept : (ts : List ℕ) → Answering rules leaves p ts (left h0.told) h0 a first → Answering rules leaves p ts (left h.told) h a step
  pub further : (ts : List ℕ) (n : ℕ) → Answering rules leaves p ts (left h0.told) h0 a first → MayCome a.store.fuel (left h0.told) first n → Further rules leaves p left a h0 first n h step

enough_left : (fuel n : ℕ) (left : ℕ → ℕ) (t : ℕ) → fuel * (2 ^ 64) + (left t + 1) ≤ n → (n ≡ suc (n - 1)) × (fuel * (2 ^ 64) + left t ≤ n - 1)
enough_left fuel n left t h = (omega (arith, h), omega (arith, h))

fewer_left : (fuel k l : ℕ) (left : ℕ → ℕ) (step : HostStep) → fuel * (2 ^ 64) + l ≤ k → Falls left l step → fuel * (2 ^ 64) + calls_left left step ≤ k
fewer_left fuel k l left (StepValue v) h f = omega (arith, h)
fewer_left fuel k l left (StepThrow v) h f = omega (arith, h)
fewer_left fuel k l left (StepInvoke g args t) h f = omega (arith, h, f)

pub calls_fall : (left left1 : ℕ → ℕ) (step step1 : HostStep) (f : Model.Value) (args : List Model.Value) (t : ℕ) → step ≡ StepInvoke f args t → Falls left1 (left t) step1 → calls_left left1 step1 < calls_left left step
calls_fall left left1 step (StepValue v) f args t q h = rw q (omega arith)
calls_fall left left1 step (StepThrow v) f args t q h = rw q (omega arith)
calls_fall left left1 step (StepInvoke g ds u) f args t q h = rw q (omega (arith, h))

pub few_come : (fuel n : ℕ) (left : ℕ → ℕ) (step : HostStep) → AreFew left step → (fuel + 1) * (2 ^ 64) ≤ n → MayCome fuel left step n
few_come fuel n left (StepValue v) h k = omega (arith, k)
few_come fuel n left (StepThrow v) h k = omega (arith, k)
few_come fuel n left (StepInvoke f args t) h k = omega (arith, h, k)

-- a callback that cannot be called throws at once
uncalled : {T : Type 0} (rules : HostRules T) (p : Program) (d : ℕ) (v : Model.Value) (args : List Model.Value) (o : Option Func) (name : FaultName) → func_of (Some v) ≡ o → IsUncalled d o name
    → (m : Machine (Limited T)) → call_given (caller_of rules p d) (Some v) args m ≡ Throws (FaultValue name []) m
uncalled rules p d v args None name q u m = given_none (caller_of rules p d) (Some v) args m q ∙ ap (λ n. Throws (FaultValue n []) m) (sym u)
uncalled rules p d v args (Some f) name q u m = given_some (caller_of rules p d) (Some v) args m f q ∙ deep_call rules p d f.function (items_of f.bound ++ args) m u.1 ∙ ap (λ n. Throws (FaultValue n []) m) (sym u.0)

module _ {T S : Type 0} (rules : HostRules T) (leaves : Ask → T → T → Type 0) (p : Program) (left : T → ℕ → ℕ) where
  pub answered_first : (a : Place) (h : HostNow T S) (step : HostStep) → Answered rules leaves p left a h step h step
  answered_first a h step = record {
    kept = λ ts k. k;
    further = λ ts n k e. record { number = n; enough = e; asks = λ ns. asks_same (λ left. refl) k.ready };
  }

  -- the host is resumed with what a callback threw that could not be called
  pub answered_more : (a : Place) (h0 h h1 : HostNow T S) (first step step1 : HostStep) (v : Model.Value) (args : List Model.Value) (t : ℕ) (o : Option Func) (name : FaultName)
      → step ≡ StepInvoke v args t → func_of (Some v) ≡ o → IsUncalled a.current.depth o name → Answered rules leaves p left a h0 first h step
      → on_ask rules (AskResume t (CallbackThrow (FaultValue name []))) h.told ≡ record { step = step1; host = h1.told } → h1.refusals ≡ h.refusals → h1.functions ≡ h.functions → h.room ≤ h1.room
      → ((rest : List ℕ) → h.tickets ≡ t ∷ rest → h1.tickets ≡ tickets_after step1 rest) → AreFew (left h1.told) step1 → StepIsNumbered h.functions step1 → Falls (left h1.told) (left h.told t) step1
      → Answered rules leaves p left a h0 first h1 step1
  unfolding moment_of around_of next_of
  answered_more a h0 h h1 first step step1 v args t o name q fo u inv on r f room tickets few numbered falls = record {
    kept = λ ts k. let b = inv.kept ts k in record {
      holds = b.holds;
      ready = record { functions = f ∙ b.ready.functions; room = let z = b.ready.room in omega (arith, z, room); globals = b.ready.globals; held = tt };
      tickets = tickets _ (rw q at b.tickets);
      few = few;
      numbered = rw b.ready.functions at numbered;
    };
    further = λ ts n k e.
        let b = inv.kept ts k in
        let x = inv.further ts n k e in
        let z = enough_left a.store.fuel x.number (left h.told) t (rw q at x.enough) in
        let d : a.current.depth ≡ depth_of a.frames = b.holds.depth in
        let ready : IsReady (outside rules leaves p) (moment_at p h1 a) = record { functions = f ∙ b.ready.functions; room = let z = b.ready.room in omega (arith, z, room); globals = b.ready.globals; held = tt } in
        record {
          number = x.number - 1;
          enough = fewer_left a.store.fuel (x.number - 1) (left h.told t) (left h1.told) step1 z.1 falls;
          asks = λ ns. asks_trans (x.asks ns) (asks_trans
              (asks_same (λ left. ap (λ s. begun rules p ns a.frames (steps_on rules x.number s) (limited left (state_at p h.told a))) q
              ∙ ap (after_all rules p a.frames ns) (invoked rules (caller_of rules p (depth_of a.frames)) x.number (x.number - 1) v args t (limited left (state_at p h.told a)) z.0
              ∙ ap (after_callback (next_of rules (caller_of rules p (depth_of a.frames)) (x.number - 1)) t) (uncalled rules p (depth_of a.frames) v args o name fo (subst (λ d. IsUncalled d o name) d u) (limited left (state_at p h.told a))))) b.ready)
              (asks_once rules leaves p ts (AskResume t (CallbackThrow (FaultValue name []))) (λ d step. steps_by (ask_limited rules) d.call (x.number - 1) step) step1 h h1 a ns on r ready));
        };
  }

opened_enough : (fuel less l k : ℕ) → fuel ≡ less + 1 → fuel * (2 ^ 64) + l ≤ k → (less + 1) * (2 ^ 64) ≤ k
opened_enough fuel less l k f h = let z : (less + 1) * (2 ^ 64) ≡ fuel * (2 ^ 64) = ap (λ n. n * (2 ^ 64)) (sym f) in omega (arith, z, h)

opened_fewer : (fuel less size w fs : ℕ) → fuel ≡ less + 1 → w ≤ 2 * size → less * (2 * size + 8) + (w + (1 + (1 + fs))) < fuel * (2 * size + 8) + (2 + fs)
opened_fewer fuel less size w fs f h = let z : fuel * (2 * size + 8) ≡ less * (2 * size + 8) + (2 * size + 8) = rw f (omega arith) in omega (arith, z, h)

host_holds : (p : Program) (store : Store) (current : Current) (fs : List Frame) (t : ℕ) → Holds p (waiting_at store current fs) → Holds p (waiting_at store current (frame.Host t ∷ fs))
host_holds p store current fs t h = record { depth = h.depth; few = h.few; globals = h.globals; held = h.held; frames = (tt, omega arith, h.frames); focus = h.focus; size = h.size }

module _ {T S : Type 0} (rules : HostRules T) (leaves : Ask → T → T → Type 0) (p : Program) (ts : List ℕ) (left : ℕ → ℕ) (store : Store) (current : Current) (fs : List Frame) where
  pub value_advances : (h : HostNow T S) (step : HostStep) (v : Value) (n : ℕ) → step ≡ StepValue (seen v) → Answering rules leaves p ts left h (waiting_at store current fs) step
      → Advances rules leaves p ts (steps_on rules n step) 2 h (waiting_at store current fs) h (place store current fs (focus.Value v))
  unfolding moment_of steps_left around_of
  value_advances h step v n q k = rw q (let b = rw q at k in record {
    means = λ ns t. record { numbers = ns; enough = t; asks = asks_same (λ left. ap (after_all rules p fs ns) (answered_now rules (caller_of rules p (depth_of fs)) n (seen v) _)) b.ready };
    stood = record { holds = record { depth = b.holds.depth; few = b.holds.few; globals = b.holds.globals; held = b.holds.held; frames = b.holds.frames; focus = b.numbered; size = b.holds.size }; ready = b.ready; tickets = b.tickets };
    fewer = omega arith;
  })

  pub throw_advances : (h : HostNow T S) (step : HostStep) (v : Value) (n : ℕ) → step ≡ StepThrow (seen v) → Answering rules leaves p ts left h (waiting_at store current fs) step
      → Advances rules leaves p ts (steps_on rules n step) 2 h (waiting_at store current fs) h (place store current fs (focus.Throw v))
  unfolding moment_of steps_left around_of
  throw_advances h step v n q k = rw q (let b = rw q at k in record {
    means = λ ns t. record { numbers = ns; enough = t; asks = asks_same (λ left. ap (after_all rules p fs ns) (thrown_now rules (caller_of rules p (depth_of fs)) n (seen v) _)) b.ready };
    stood = record { holds = record { depth = b.holds.depth; few = b.holds.few; globals = b.holds.globals; held = b.holds.held; frames = b.holds.frames; focus = b.numbered; size = b.holds.size }; ready = b.ready; tickets = b.tickets };
    fewer = omega arith;
  })

  -- the body of a callback is next
  pub open_advances : (h : HostNow T S) (step : HostStep) (v : Model.Value) (args all : List Model.Value) (t : ℕ) (called : Func) (n : ℕ) (b : Place) → step ≡ StepInvoke v args t → Answering rules leaves p ts left h (waiting_at store current fs) step
      → MayCome store.fuel left step n → func_of (Some v) ≡ Some called → all ≡ items_of called.bound ++ args
      → (Holds p (waiting_at store current (frame.Host t ∷ fs)) → Opens rules p called.function all (waiting_at store current (frame.Host t ∷ fs)) b)
      → Advances rules leaves p ts (steps_on rules n step) 2 h (waiting_at store current fs) h b
  unfolding moment_of around_of next_of meaning_at steps_left
  open_advances h step v args all t called n b q k e fo al op =
      let an = rw q at k in
      let o = op (host_holds p store current fs t an.holds) in
      let z = enough_left store.fuel n left t (rw q at e) in
      let ready : IsReady (outside rules leaves p) (moment_at p h b) = record { functions = an.ready.functions; room = let r = an.ready.room in let f = o.fuel in omega (arith, r, f); globals = o.holds.globals; held = tt } in
      record {
        means = λ ns k. record {
          numbers = 0 ∷ (n - 1) ∷ ns;
          enough = rw o.frames (tt, ((let f = o.fuel in let w = z.1 in opened_enough store.fuel b.store.fuel (left t) (n - 1) f w), turns_less fs ns store.fuel b.store.fuel (let f = o.fuel in omega (arith, f)) k));
          asks = record {
            asks = 0;
            comes = λ left. ap (λ s. begun rules p ns fs (steps_on rules n s) (limited left (state_at p h.told (waiting_at store current fs)))) q
                ∙ ap (after_all rules p fs ns) (invoked rules (caller_of rules p (depth_of fs)) n (n - 1) v args t (limited left (state_at p h.told (waiting_at store current fs))) z.0
                ∙ ap (after_callback (next_of rules (caller_of rules p (depth_of fs)) (n - 1)) t) (given_some (caller_of rules p (depth_of fs)) (Some v) args _ called fo ∙ ap (λ vs. caller_of rules p (depth_of fs) called.function vs (limited left (state_at p h.told (waiting_at store current fs)))) (sym al)))
                ∙ o.means ((n - 1) ∷ ns) (limited_host left h.told);
            stands = unasked refl;
            fuel = let f = o.fuel in omega (arith, f);
            refusals = refl;
            ready = ready;
          };
        };
        stood = record { holds = o.holds; ready = ready; tickets = an.tickets ∙ rw o.frames refl };
        fewer = rw o.frames (let f = o.fuel in let l = o.light in opened_fewer store.fuel b.store.fuel (program_size p) (focus_weight b.focus) (frames_weight fs) f l);
      }

  pub push_fails : (h : HostNow T S) (step : HostStep) (n : ℕ) (store1 : Store) → Answering rules leaves p ts left h (waiting_at store current fs) step → store1.globals ≡ store.globals → store1.fuel ≤ store.fuel
      → Finishes rules leaves p ts (steps_on rules n step) h (waiting_at store current fs) exit.OutOfMemory h store1
  push_fails h step n store1 k g l = memory_finishes rules leaves p ts (steps_on rules n step) h (waiting_at store current fs) store1 k.ready g l

  -- no unit for the call of a callback
  pub open_fails : (h : HostNow T S) (step : HostStep) (v : Model.Value) (args : List Model.Value) (t : ℕ) (called : Func) (n : ℕ) (x : Exit S) (store1 : Store) → step ≡ StepInvoke v args t → Answering rules leaves p ts left h (waiting_at store current fs) step
      → MayCome store.fuel left step n → func_of (Some v) ≡ Some called → current.depth < 256 → IsWant store.fuel x → store1.globals ≡ store.globals → store1.fuel ≤ store.fuel
      → Finishes rules leaves p ts (steps_on rules n step) h (waiting_at store current fs) x h store1
  unfolding around_of next_of
  open_fails h step v args t called n exit.Fuel store1 q k e fo lt w g l =
      let z = enough_left store.fuel n left t (rw q at e) in
      let deep : depth_of fs < 256 = let d = k.holds.depth in omega (arith, d, lt) in
      dry_finishes rules leaves p ts (steps_on rules n step) h (waiting_at store current fs) store1 k.ready g l w
      (λ host. ap (λ s. steps_on rules n s (around_of rules p (depth_of fs)) (state_at p host (waiting_at store current fs))) q
      ∙ invoked rules (caller_of rules p (depth_of fs)) n (n - 1) v args t (state_at p host (waiting_at store current fs)) z.0
      ∙ ap (after_callback (next_of rules (caller_of rules p (depth_of fs)) (n - 1)) t) (given_some (caller_of rules p (depth_of fs)) (Some v) args _ called fo ∙ dry_call rules p (depth_of fs) called.function (items_of called.bound ++ args) _ deep w))
  open_fails h step v args t called n exit.OutOfMemory store1 q k e fo lt w g l = push_fails h step n store1 k g l
  open_fails h step v args t called n (exit.Throw d) store1 q k e fo lt w g l = absurd w
  open_fails h step v args t called n (exit.Return d) store1 q k e fo lt w g l = absurd w
  open_fails h step v args t called n (exit.Host stop) store1 q k e fo lt w g l = absurd w

less_fewer : (x fuel k size fs : ℕ) → fuel ≡ suc k → x < k * (2 * size + 8) + (2 + fs) → x < fuel * (2 * size + 8) + (2 + fs)
less_fewer x fuel k size fs q h = let z : fuel * (2 * size + 8) ≡ k * (2 * size + 8) + (2 * size + 8) = rw q (omega arith) in omega (arith, z, h)

pub want_unsettled : {S : Type 0} (fuel : ℕ) (x : Exit S) → IsWant fuel x → IsUnsettled x
want_unsettled fuel (exit.Throw v) w = absurd w
want_unsettled fuel (exit.Return v) w = absurd w
want_unsettled fuel exit.Fuel w = tt
want_unsettled fuel (exit.Host stop) w = absurd w
want_unsettled fuel exit.OutOfMemory w = tt

pub wants_unsettled : {S : Type 0} (fuel : ℕ) (result : Result Focus (Exit S)) → IfErr result (IsWant fuel) → IfErr result IsUnsettled
wants_unsettled fuel (Ok f) w = tt
wants_unsettled fuel (Err x) w = want_unsettled fuel x w

module _ {T S : Type 0} (rules : HostRules T) (leaves : Ask → T → T → Type 0) (p : Program) (ts : List ℕ) (left : ℕ → ℕ) (store : Store) (current : Current) (fs : List Frame) where
  pub open_leaves : (h : HostNow T S) (step : HostStep) (v : Model.Value) (args all : List Model.Value) (t : ℕ) (called : Func) (n : ℕ) (result : Result Focus (Exit S)) (store1 : Store) (current1 : Current) (fs1 : List Frame)
      → step ≡ StepInvoke v args t → Answering rules leaves p ts left h (waiting_at store current fs) step
      → MayCome store.fuel left step n → func_of (Some v) ≡ Some called → current.depth < 256 → all ≡ items_of called.bound ++ args
      → IfOk result (λ f. (g : Focus) → Holds p (place store current (frame.Host t ∷ fs) g) → AllNumbered (count_of_functions p) all → Opens rules p called.function all (place store current (frame.Host t ∷ fs) g) (place store1 current1 fs1 f))
      → IfErr result (IsWant store.fuel) → store1.globals ≡ store.globals → store1.fuel ≤ store.fuel
      → Leaves rules leaves p ts (steps_on rules n step) 2 h (waiting_at store current fs) result h store1 current1 fs1
  open_leaves h step v args all t called n (Ok f) store1 current1 fs1 q k e fo lt al op w g l =
      let numbered = (rw q at k).numbered in
      open_advances rules leaves p ts left store current fs h step v args all t called n (place store1 current1 fs1 f) q k e fo al
      (λ h. op (focus.Value value.Unit) h (rw al (all_append _ (items_of called.bound) args (bound_numbered _ (Some v) called fo numbered.0) numbered.1)))
  open_leaves h step v args all t called n (Err x) store1 current1 fs1 q k e fo lt al op w g l = open_fails rules leaves p ts left store current fs h step v args t called n x store1 q k e fo lt w g l

  -- the host refuses to go on after a callback that could not be called
  pub refuses_callback : (h h1 : HostNow T S) (step : HostStep) (v : Model.Value) (args : List Model.Value) (t : ℕ) (o : Option Func) (name : FaultName) (n : ℕ) (stop : S)
      → step ≡ StepInvoke v args t → Answering rules leaves p ts left h (waiting_at store current fs) step
      → MayCome store.fuel left step n → func_of (Some v) ≡ o → IsUncalled current.depth o name
      → Rose h.refusals h1.refusals → h1.last_stop ≡ Some stop → leaves (AskResume t (CallbackThrow (FaultValue name []))) h.told h1.told → h1.functions ≡ h.functions → h.room ≤ h1.room
      → Finishes rules leaves p ts (steps_on rules n step) h (waiting_at store current fs) (exit.Host stop) h1 store
  unfolding moment_of around_of next_of
  refuses_callback h h1 step v args t o name n stop q k e fo u r l lv f room =
      let z = enough_left store.fuel n left t (rw q at e) in
      let d : current.depth ≡ depth_of fs = k.holds.depth in
      let ready : IsReady (outside rules leaves p) (moment_at p h1 (waiting_at store current fs)) = record { functions = f ∙ k.ready.functions; room = let y = k.ready.room in omega (arith, y, room); globals = k.ready.globals; held = tt } in
      leaves_trans rules leaves p ts (steps_on rules n step) (λ d m. ask_limited rules (AskResume t (CallbackThrow (FaultValue name []))) m (steps_by (ask_limited rules) d.call (n - 1))) 2 h h (waiting_at store current fs) (Err (exit.Host stop)) h1 store current fs
      (λ ns. asks_same (λ left. ap (λ s. begun rules p ns fs (steps_on rules n s) (limited left (state_at p h.told (waiting_at store current fs)))) q
      ∙ ap (after_all rules p fs ns) (invoked rules (caller_of rules p (depth_of fs)) n (n - 1) v args t (limited left (state_at p h.told (waiting_at store current fs))) z.0
      ∙ ap (after_callback (next_of rules (caller_of rules p (depth_of fs)) (n - 1)) t) (uncalled rules p (depth_of fs) v args o name fo (subst (λ d. IsUncalled d o name) d u) (limited left (state_at p h.told (waiting_at store current fs)))))) k.ready)
      tt
      (refused_finishes rules leaves p ts (AskResume t (CallbackThrow (FaultValue name []))) (λ d step. steps_by (ask_limited rules) d.call (n - 1) step) h h1 (waiting_at store current fs) stop r l lv ready)

  -- a place with nothing more to be done next
  pub stood_waiting : (h : HostNow T S) (f : Focus) → Stood rules leaves p ts h (place store current fs f) → Stood rules leaves p ts h (waiting_at store current fs)
  stood_waiting h f k = record { holds = record { depth = k.holds.depth; few = k.holds.few; globals = k.holds.globals; held = k.holds.held; frames = k.holds.frames; focus = tt; size = omega arith }; ready = k.ready; tickets = k.tickets }

  pub less_waiting : (h : HostNow T S) (f : Focus) (k : ℕ) → store.fuel ≡ suc k → Stood rules leaves p ts h (place store current fs f) → Stood rules leaves p ts h (waiting_at (record store { fuel = k }) current fs)
  unfolding moment_of
  less_waiting h f k q st = record {
    holds = record { depth = st.holds.depth; few = st.holds.few; globals = st.holds.globals; held = st.holds.held; frames = st.holds.frames; focus = tt; size = omega arith };
    ready = record { functions = st.ready.functions; room = let r = st.ready.room in omega (arith, r, q); globals = st.ready.globals; held = tt };
    tickets = st.tickets;
  }

  -- the host has answered
  pub answers_now : (h h1 : HostNow T S) (step : HostStep) (taken : ℕ) → Holds p (waiting_at store current fs) → IsReady (outside rules leaves p) (moment_at p h (waiting_at store current fs))
      → h1.functions ≡ h.functions → h.room ≤ h1.room + taken → store.fuel + taken ≤ h.room → h1.tickets ≡ tickets_after step (tickets_in fs ts) → AreFew left step → StepIsNumbered h.functions step
      → Answering rules leaves p ts left h1 (waiting_at store current fs) step
  unfolding moment_of
  answers_now h h1 step taken k r f room le t few n = record {
    holds = k;
    ready = record { functions = f ∙ r.functions; room = omega (arith, room, le); globals = r.globals; held = tt };
    tickets = t;
    few = few;
    numbered = rw r.functions at n;
  }

  pub ready_now : (h h1 : HostNow T S) (taken : ℕ) → IsReady (outside rules leaves p) (moment_at p h (waiting_at store current fs))
      → h1.functions ≡ h.functions → h.room ≤ h1.room + taken → store.fuel + taken ≤ h.room → IsReady (outside rules leaves p) (moment_at p h1 (waiting_at store current fs))
  unfolding moment_of
  ready_now h h1 taken r f room le = record { functions = f ∙ r.functions; room = omega (arith, room, le); globals = r.globals; held = tt }

  -- the host is resumed, and answers
  pub resume_leaves : (h h1 : HostNow T S) (step : HostStep) (t : ℕ) (end : CallbackEnd) (n : ℕ) (result : Result Focus (Exit S)) (h' : HostNow T S) (store1 : Store) (current1 : Current) (fs1 : List Frame)
      → on_ask rules (AskResume t end) h.told ≡ record { step = step; host = h1.told } → h1.refusals ≡ h.refusals → IsReady (outside rules leaves p) (moment_at p h1 (waiting_at store current fs)) → IfErr result IsUnsettled
      → Leaves rules leaves p ts (steps_on rules n step) 2 h1 (waiting_at store current fs) result h' store1 current1 fs1 → Leaves rules leaves p ts (resumes rules n t end) 2 h (waiting_at store current fs) result h' store1 current1 fs1
  resume_leaves h h1 step t end n result h' store1 current1 fs1 on r k u y =
      leaves_trans rules leaves p ts (resumes rules n t end) (steps_on rules n step) 2 h h1 (waiting_at store current fs) result h' store1 current1 fs1
      (λ ns. asks_once rules leaves p ts (AskResume t end) (λ d step. steps_by (ask_limited rules) d.call n step) step h h1 (waiting_at store current fs) ns on r k) u y

  pub refuses_resume : (h h1 : HostNow T S) (t : ℕ) (end : CallbackEnd) (n : ℕ) (stop : S) → Rose h.refusals h1.refusals → h1.last_stop ≡ Some stop → leaves (AskResume t end) h.told h1.told → IsReady (outside rules leaves p) (moment_at p h1 (waiting_at store current fs))
      → Finishes rules leaves p ts (resumes rules n t end) h (waiting_at store current fs) (exit.Host stop) h1 store
  refuses_resume h h1 t end n stop r l lv k = refused_finishes rules leaves p ts (AskResume t end) (λ d step. steps_by (ask_limited rules) d.call n step) h h1 (waiting_at store current fs) stop r l lv k

  -- the host is asked for an operation, and answers
  pub op_leaves : (h h1 : HostNow T S) (step : HostStep) (op : Op) (vs : List Model.Value) (result : Result Focus (Exit S)) (h' : HostNow T S) (store1 : Store) (current1 : Current) (fs1 : List Frame)
      → on_ask rules (AskOp op vs) h.told ≡ record { step = step; host = h1.told } → h1.refusals ≡ h.refusals → IsReady (outside rules leaves p) (moment_at p h (waiting_at store current fs)) → IsReady (outside rules leaves p) (moment_at p h1 (waiting_at store current fs)) → IfErr result IsUnsettled
      → Leaves rules leaves p ts (steps_on rules (store.fuel * (2 ^ 64) + (2 ^ 64)) step) 2 h1 (waiting_at store current fs) result h' store1 current1 fs1
      → Leaves rules leaves p ts (λ d. asked_by (ask_limited rules) d.call op vs) 2 h (waiting_at store current fs) result h' store1 current1 fs1
  unfolding moment_of
  op_leaves h h1 step op vs result h' store1 current1 fs1 on r k0 k u y =
      leaves_trans rules leaves p ts (λ d. asked_by (ask_limited rules) d.call op vs) (steps_on rules (store.fuel * (2 ^ 64) + (2 ^ 64)) step) 2 h h1 (waiting_at store current fs) result h' store1 current1 fs1
      (λ ns. asks_trans (asks_same (λ left. refl) k0)
      (asks_once rules leaves p ts (AskOp op vs) (λ d step. steps_by (ask_limited rules) d.call (store.fuel * (2 ^ 64) + (2 ^ 64)) step) step h h1 (waiting_at store current fs) ns on r k)) u y

  pub op_refused : (h h1 : HostNow T S) (op : Op) (vs : List Model.Value) (stop : S) → Rose h.refusals h1.refusals → h1.last_stop ≡ Some stop → leaves (AskOp op vs) h.told h1.told
      → IsReady (outside rules leaves p) (moment_at p h (waiting_at store current fs)) → IsReady (outside rules leaves p) (moment_at p h1 (waiting_at store current fs))
      → Finishes rules leaves p ts (λ d. asked_by (ask_limited rules) d.call op vs) h (waiting_at store current fs) (exit.Host stop) h1 store
  unfolding moment_of
  op_refused h h1 op vs stop r l lv k0 k =
      leaves_trans rules leaves p ts (λ d. asked_by (ask_limited rules) d.call op vs) (λ d m. ask_limited rules (AskOp op vs) m (steps_by (ask_limited rules) d.call (store.fuel * (2 ^ 64) + (2 ^ 64)))) 2 h h (waiting_at store current fs) (Err (exit.Host stop)) h1 store current fs
      (λ ns. asks_same (λ left. refl) k0) tt
      (refused_finishes rules leaves p ts (AskOp op vs) (λ d step. steps_by (ask_limited rules) d.call (store.fuel * (2 ^ 64) + (2 ^ 64)) step) h h1 (waiting_at store current fs) stop r l lv k)

  -- an operation that is not `busy`
  pub plain_leaves : (h : HostNow T S) (op : Op) (vs : Vec Value Global) (result : Result Focus (Exit S)) (h' : HostNow T S) (store1 : Store) (current1 : Current) (fs1 : List Frame) → is_busy op ≡ false
      → Stood rules leaves p ts h (place store current fs (focus.Ask op vs)) → IfErr result IsUnsettled
      → Leaves rules leaves p ts (λ d. asked_by (ask_limited rules) d.call op (map seen vs.items)) 2 h (waiting_at store current fs) result h' store1 current1 fs1
      → Leaves rules leaves p ts (λ d. does d (focus.Ask op vs)) 2 h (place store current fs (focus.Ask op vs)) result h' store1 current1 fs1
  unfolding around_of
  plain_leaves h op vs (Ok f) h' store1 current1 fs1 b k u y = record {
    means = λ ns t. let m = y.means ns t in record { numbers = m.numbers; enough = m.enough; asks = asks_trans (asks_same (λ left. ap (after_all rules p fs ns) (rw b refl)) k.ready) m.asks };
    stood = y.stood;
    fewer = y.fewer;
  }
  plain_leaves h op vs (Err x) h' store1 current1 fs1 b k u y = record {
    runs = λ ns t. asks_runs (asks_same (λ left. ap (after_all rules p fs ns) (rw b refl)) k.ready) (y.runs ns t) (never_settled _ x u);
    tickets = never_settled _ x u;
  }

  unit_asks : (h : HostNow T S) (op : Op) (vs : Vec Value Global) (k : ℕ) (ns : List ℕ) → is_busy op ≡ true → store.fuel ≡ suc k → Stood rules leaves p ts h (place store current fs (focus.Ask op vs))
      → Asks (outside rules leaves p) (begun rules p ns fs (λ d. does d (focus.Ask op vs))) (begun rules p ns fs (λ d. asked_by (ask_limited rules) d.call op (map seen vs.items))) (moment_at p h (place store current fs (focus.Ask op vs))) (moment_at p h (waiting_at (record store { fuel = k }) current fs))
  unfolding around_of moment_of
  unit_asks h op vs k ns b q st = record {
    asks = 0;
    comes = λ left. ap (after_all rules p fs ns) (rw (b, q) refl);
    stands = unasked refl;
    fuel = omega (arith, q);
    refusals = refl;
    ready = record { functions = st.ready.functions; room = let r = st.ready.room in omega (arith, r, q); globals = st.ready.globals; held = tt };
  }

  -- `busy`, with a unit less
  pub busy_leaves : (h : HostNow T S) (op : Op) (vs : Vec Value Global) (less : Store) (k : ℕ) (result : Result Focus (Exit S)) (h' : HostNow T S) (store1 : Store) (current1 : Current) (fs1 : List Frame) → is_busy op ≡ true → store.fuel ≡ suc k → less ≡ record store { fuel = k }
      → Stood rules leaves p ts h (place store current fs (focus.Ask op vs)) → IfErr result IsUnsettled
      → Leaves rules leaves p ts (λ d. asked_by (ask_limited rules) d.call op (map seen vs.items)) 2 h (waiting_at less current fs) result h' store1 current1 fs1
      → Leaves rules leaves p ts (λ d. does d (focus.Ask op vs)) 2 h (place store current fs (focus.Ask op vs)) result h' store1 current1 fs1
  unfolding around_of moment_of
  busy_leaves h op vs less k (Ok f) h' store1 current1 fs1 b q l st u y = let z = rw l at y in record {
    means = λ ns t. let m = z.means ns (turns_less fs ns store.fuel k (omega (arith, q)) t) in record { numbers = m.numbers; enough = m.enough; asks = asks_trans (unit_asks h op vs k ns b q st) m.asks };
    stood = z.stood;
    fewer = less_fewer (steps_left p (place store1 current1 fs1 f)) store.fuel k (program_size p) (frames_weight fs) q z.fewer;
  }
  busy_leaves h op vs less k (Err x) h' store1 current1 fs1 b q l st u y = let z = rw l at y in record {
    runs = λ ns t. asks_runs (unit_asks h op vs k ns b q st) (z.runs ns (turns_less fs ns store.fuel k (omega (arith, q)) t)) (never_settled _ x u);
    tickets = never_settled _ x u;
  }

  pub busy_dry : (h : HostNow T S) (op : Op) (vs : Vec Value Global) → is_busy op ≡ true → store.fuel ≡ 0 → Stood rules leaves p ts h (place store current fs (focus.Ask op vs))
      → Finishes rules leaves p ts (λ d. does d (focus.Ask op vs)) h (place store current fs (focus.Ask op vs)) exit.Fuel h store
  unfolding around_of
  busy_dry h op vs b q k = dry_finishes rules leaves p ts (λ d. does d (focus.Ask op vs)) h (place store current fs (focus.Ask op vs)) store k.ready refl (still store.fuel) q (λ host. rw (b, q) refl)
