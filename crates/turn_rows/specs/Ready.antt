-- When a step of a page can be taken, and what the page's own work leaves of that.
use Rattle.std.specs.Prelude.{◌≡◌, ◌≤◌, [], None}
use Rattle.page_interp.specs.MachineNow.{MachineNow}
use Rattle.page_interp.specs.Machines.{functions_in}
use Rattle.page_host.specs.PageNow.{PageNow}

-- A step can be taken: the page has not stopped, no fold is open, the machine has the page's functions, and there is no more fuel than a
-- setup gives.
pub record IsReady {L : Type 0} (m : MachineNow) (p : PageNow L) : Type 0 where
  pub running : p.stopped ≡ None
  pub at_rest : p.state.folds ≡ []
  pub functions : functions_in m ≡ p.functions
  pub few : p.fuel ≤ 10000000

-- What the page does by itself leaves that: it has not stopped, no fold was opened, the functions are the same, and no fuel came.
pub record StaysReady {L : Type 0} (old new : PageNow L) : Type 0 where
  pub running : new.stopped ≡ old.stopped
  pub folds : new.state.folds ≡ old.state.folds
  pub functions : new.functions ≡ old.functions
  pub fuel : new.fuel ≤ old.fuel
