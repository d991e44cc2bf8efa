-- Laws of steps: a page whose callbacks nest, and the page as a host that answers by steps.
use Rattle.std.specs.Prelude.{◌≡◌, ℕ, suc, ◌^◌, ◌∷◌, if◌then◌else◌, ◌||◌, List}
use Rattle.page_types.specs.Tree.{Program}
use Rattle.page_types.specs.Values.{Value}
use Rattle.page_types.specs.declared.Op.{Op}
use Rattle.page_types.specs.declared.Priority.{Priority}
use Rattle.page_parts.specs.HostClosures.{HostClosure}
use Rattle.page_parts.specs.Listeners.{Target}
use Rattle.page_parts.specs.Setup.{Setup}
use Rattle.page_parts.specs.TaskSignals.{is_changing}
use Rattle.lang_meaning.specs.Evaluation.{calls, call_from_outside}
use Rattle.lang_meaning.specs.HostSteps.{host_operations, CallbackEnd}
use Rattle.lang_meaning.specs.Machine.{Caller, hosted}
use Rattle.page_model.specs.Choosing.{Rules}
use Rattle.page_model.specs.FoldBounds.{IsBounded, HostIsBounded, FewerLeft, to_visit}
use Rattle.page_model.specs.Folds.{Fold, go_on, begin_dispatch, begin_abort, begin_change, ChangePiece, changes_from, ChangeOf, change_fold}
use Rattle.page_model.specs.Hosted.{EndsSame, EndsBounded, call_by_steps, TurnEndsBounded}
use Rattle.page_model.specs.Invoke.{in_script, WhenReported}
use Rattle.page_model.specs.NestedFolds.{nested_fold, nested_reached}
use Rattle.page_model.specs.Operations.{page_operations}
use Rattle.page_model.specs.PageHost.{page_rules, with_folds, Hosting, open_tickets, tickets_then}
use Rattle.page_model.specs.PageSignals.{dispatch, abort, change, has_priority, change_begun}
use Rattle.page_model.specs.State.{Page, State}
use Rattle.page_model.specs.Turns.{turns, first_state, run_by}

-- ---- Ours: laws by which a page may answer by steps

-- an open fold is its next callback, that callback's end, and the fold from there
abbrev pub FoldsGoOnBySteps : Caller Page → Type 0
FoldsGoOnBySteps call =
    (fold : Fold) (m : State) → nested_fold call fold m ≡ nested_reached call (go_on fold m.host) m

-- firing an event in a script opens such a fold
abbrev pub DispatchIsAFold : Caller Page → Type 0
DispatchIsAFold call =
    (target : Target) (name : List ℕ) (args : List Value) (m : State)
    → dispatch (in_script call) target name args m
    ≡ nested_reached call (begin_dispatch target name args m.host) m

-- so does an abort
abbrev pub AbortIsAFold : Caller Page → Type 0
AbortIsAFold call =
    (s : ℕ) (reason : Value) (m : State)
    → abort (in_script call) s reason m ≡ nested_reached call (begin_abort s reason m.host) m

-- so does a priority change
abbrev pub ChangeIsAFold : Caller Page → Type 0
ChangeIsAFold call =
    (priority : Priority) (chain s : ℕ) (m : State)
    → change (in_script call) priority chain s m ≡ nested_reached call (begin_change priority chain s m.host) m

-- calls of a script around a page within bounds end as those around the page as a host
abbrev pub CallsByStepsEndSame : Program → Type 0
CallsByStepsEndSame program =
    (n : ℕ) (folds : List Fold) (f : ℕ) (args : List Value) (m : State) → IsBounded m.host
    → EndsSame folds (calls program page_operations n f args m)
    (calls program (host_operations page_rules) n f args (hosted (with_folds folds) m))

-- so do those from outside
abbrev pub CallsFromOutsideEndSame : Program → Type 0
CallsFromOutsideEndSame program =
    (folds : List Fold) (f : ℕ) (args : List Value) (m : State) → IsBounded m.host
    → EndsSame folds (call_from_outside program page_operations f args m)
    (call_from_outside program (host_operations page_rules) f args (hosted (with_folds folds) m))

-- calls of a script leave a page within bounds
abbrev pub CallsKeepBounds : Program → Type 0
CallsKeepBounds program =
    (n : ℕ) (f : ℕ) (args : List Value) (m : State) → IsBounded m.host
    → EndsBounded (calls program page_operations n f args m)

-- after an operation the host is within bounds, and where a callback comes next, how many may still come is a number of 64 bits
abbrev pub KeepsBounds : Op → List Value → Type 0
KeepsBounds op args =
    (h : Hosting) → HostIsBounded h
    → let s = page_rules.op op args h in HostIsBounded s.host × FewerLeft (to_visit s.host) (2 ^ 64) s.step

-- so it is after a callback, and where another one comes next, fewer are left than before
abbrev pub LeavesFewer : (ticket : ℕ) → CallbackEnd → Type 0
LeavesFewer ticket end =
    (h : Hosting) → HostIsBounded h
    → let s = page_rules.resume ticket end h in HostIsBounded s.host
    × FewerLeft (to_visit s.host) (to_visit h ticket) s.step × FewerLeft (to_visit s.host) (2 ^ 64) s.step

-- the next piece of a priority change is passed over, or it opens the fold of its own listeners, its followers and its end
abbrev pub ChangesGoPieceByPiece : WhenReported → Priority → Type 0
ChangesGoPieceByPiece when priority =
    (chain s : ℕ) (more : List ChangePiece) (p : Page)
    → changes_from priority (ChangeOf (suc chain) s ∷ more) p
    ≡ (if is_changing p.prios s || has_priority p.prios s priority then changes_from priority more p
    else go_on (change_fold when priority chain s more p) (change_begun s priority p))

-- an operation that calls opens one more ticket than those of the open folds
abbrev pub AccountsForTickets : Op → List Value → Type 0
AccountsForTickets op args =
    (h : Hosting)
    → let s = page_rules.op op args h in open_tickets s.host.folds ≡ tickets_then s.step (open_tickets h.folds)

-- the ticket that is resumed is no longer open, unless another callback comes under it
abbrev pub ClosesItsTicket : (ticket : ℕ) → CallbackEnd → Type 0
ClosesItsTicket ticket end =
    (h : Hosting) (rest : List ℕ) → open_tickets h.folds ≡ ticket ∷ rest
    → let s = page_rules.resume ticket end h in open_tickets s.host.folds ≡ tickets_then s.step rest

-- turns are the same where scripts are called by steps
abbrev pub TurnsByStepsAreTheSame : {C : Type 0} → Rules C → Program → Type 0
TurnsByStepsAreTheSame {C} rules program =
    (until most : ℕ) (c : C) (m : State) → IsBounded m.host
    → turns rules (call_by_steps program) until most m c
    ≡ turns rules (call_from_outside program page_operations) until most m c

-- they leave a page within bounds
abbrev pub TurnsKeepBounds : {C : Type 0} → Rules C → Program → Type 0
TurnsKeepBounds {C} rules program =
    (until most : ℕ) (c : C) (m : State) → IsBounded m.host
    → TurnEndsBounded (turns rules (call_from_outside program page_operations) until most m c)

-- a whole run is the same where scripts are called by steps
abbrev pub RunsByStepsAreTheSame : {C : Type 0} → Rules C → Program → Type 0
RunsByStepsAreTheSame {C} rules program =
    (setup : Setup) (hosts : List HostClosure) (c : C)
    → turns rules (call_by_steps program) setup.until (suc setup.fuel) (first_state program setup hosts) c
    ≡ run_by rules program setup hosts c
