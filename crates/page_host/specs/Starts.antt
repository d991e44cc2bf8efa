-- A page before its first turn.
use Rattle.std.specs.Prelude.{◌≡◌, ℕ, ℤ, List, [], length, Option, None, Result}
use Rattle.page_types.specs.Tree.{Program}
use Rattle.page_parts.specs.Setup.{Setup}
use Rattle.page_parts.specs.HostClosures.{HostClosure}
use Rattle.page_model.specs.Turns.{first_page}
use Rattle.page_state.specs.Standing.{PortNow, page_of}
use Rattle.page_host.specs.PageNow.{PageNow}

-- it is the model's first page of this program, setup and host closures, with no open fold, the program's functions and all of its fuel,
-- and has not stopped
pub record Starts {L : Type 0} (program : Program) (setup : Setup) (hosts : List HostClosure) (p : PageNow L) : Type 0 where
  pub page : page_of p.state ≡ first_page program setup hosts
  pub folds : p.state.folds ≡ []
  pub functions : p.functions ≡ length program.names
  pub fuel : p.fuel ≡ setup.fuel
  pub until : p.until ≡ setup.until
  pub stopped : p.stopped ≡ None
  pub stops : p.stops ≡ 0

-- what the host port that is handed to a page tells
abbrev pub port_told : {P : Type 0} → (closures : P → List HostClosure) → (kept : P → Option (List (Result ℤ ℤ)))
    → (refusals : P → ℕ) → P → PortNow
port_told closures kept refusals port = record { closures = closures port; kept = kept port; refusals = refusals port }
