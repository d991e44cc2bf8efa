-- What is seen of a page with its machine.
use Rattle.std.specs.Prelude.{◌≡◌, List}
use Rattle.page_parts.specs.HostClosures.{HostClosure}
use Rattle.lang_ast.specs.declared.program.Program.{Program}
use Rattle.lang_ast.specs.SeenProgram.{seen_program}
use Rattle.lang_meaning.specs.Evaluation.{first_globals}
use Rattle.arrivals_text.specs.declared.setup.PageSetup.{PageSetup}
use Rattle.arrivals_text.specs.Seen.{settings_of}
use Rattle.page_model.specs.State.{State}
use Rattle.trace_text.specs.Given.{Seen}
use Rattle.page_host.specs.Moments.{state_of}
use Rattle.page_host.specs.Starts.{Starts}
use Rattle.loop_turn.specs.Outcomes.{Reached, Shown}
use Rattle.loop_turn.specs.TurnActs.{reached, shown}
use Rattle.loop_turn.specs.declared.live_page.LivePage.{LivePage}

-- The page is before its first turn, and the machine of its program has called nothing.
pub record IsLoaded {P L M : Type 0} (program : Program) (setup : PageSetup) (hosts : List HostClosure) (live : LivePage P L M)
    : Type 0 where
  pub page : Starts (seen_program program) (settings_of setup).setup hosts live.page
  pub script : live.machine.script ≡ program
  pub globals : live.machine.globals ≡ first_globals (seen_program program)

module _ {P L M : Type 0} where
  -- the state of the model
  abbrev pub state_in : LivePage P L M → State
  state_in live = state_of live.machine live.page

  -- what its lines and its port show
  abbrev pub shown_in : {T : Type 0} → (seen : L → Seen T) → LivePage P L M → Shown T
  shown_in seen live = shown seen live.page

  -- where a call leaves a run
  abbrev pub reached_in : {T C : Type 0} → (seen : L → Seen T) → LivePage P L M → C → Reached C T
  reached_in seen live held = reached seen live.machine live.page held
