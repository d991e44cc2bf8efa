-- A script around a page and around the page as a host that answers by steps.
use Rattle.std.specs.Prelude.{◌≡◌, List, []}
use Rattle.page_types.specs.Tree.{Program}
use Rattle.lang_meaning.specs.Machine.{Done, Gives, Throws, Returns, OutOfFuel, hosted, done_hosted, Caller}
use Rattle.lang_meaning.specs.Evaluation.{call_from_outside}
use Rattle.lang_meaning.specs.HostSteps.{host_operations}
use Rattle.page_model.specs.State.{Page}
use Rattle.page_model.specs.Turns.{Turned, GoesOn, Ended, Stuck}
use Rattle.page_model.specs.Folds.{Fold}
use Rattle.page_model.specs.PageHost.{Hosting, with_folds, page_rules}
use Rattle.page_model.specs.FoldBounds.{IsBounded}

-- ---- Ours: the same end, with these folds open as before. Where fuel ends within callbacks their folds are left open.
abbrev pub EndsSame : List Fold → Done Page → Done Hosting → Type 0
EndsSame folds (Gives v m) d = d ≡ Gives v (hosted (with_folds folds) m)
EndsSame folds (Throws v m) d = d ≡ Throws v (hosted (with_folds folds) m)
EndsSame folds (Returns v m) d = d ≡ Returns v (hosted (with_folds folds) m)
EndsSame folds (OutOfFuel m) d = (left_open : List Fold) × (d ≡ OutOfFuel (hosted (with_folds left_open) m))

-- the page is then within bounds
abbrev pub EndsBounded : Done Page → Type 0
EndsBounded (Gives v m) = IsBounded m.host
EndsBounded (Throws v m) = IsBounded m.host
EndsBounded (Returns v m) = IsBounded m.host
EndsBounded (OutOfFuel m) = IsBounded m.host

-- how a script's function is called by steps where no fold is open
abbrev pub call_by_steps : Program → Caller Page
call_by_steps program f args m =
    done_hosted (λ (h : Hosting). h.page) (call_from_outside program (host_operations page_rules) f args (hosted (with_folds []) m))

-- the page that a turn leaves is within bounds
abbrev pub TurnEndsBounded : {C : Type 0} → Turned C → Type 0
TurnEndsBounded (GoesOn m c) = IsBounded m.host
TurnEndsBounded (Ended end m c) = IsBounded m.host
TurnEndsBounded (Stuck at m c) = IsBounded m.host
