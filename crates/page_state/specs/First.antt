-- What a page keeps before its first turn.
use Rattle.std.specs.Prelude.{◌≡◌, ℕ, List, [], ◌∷◌, map}
use Rattle.page_types.specs.Tree.{Program}
use Rattle.page_types.specs.declared.Source.TheVariants.{Dom}
use Rattle.page_parts.specs.Setup.{Setup}
use Rattle.page_parts.specs.HostClosures.{HostClosure}
use Rattle.page_model.specs.State.{RunScript}
use Rattle.page_model.specs.Turns.{first_page}
use Rattle.page_script.specs.First as script
use Rattle.page_tasks.specs.Queued.{Queued}
use Rattle.parallel_items.specs.InParallel.{only_arrivals}
use Rattle.page_state.specs.declared.state.first.FirstParts.{FirstParts}
use Rattle.page_state.specs.Seen.{latency_seen}
use Rattle.page_state.specs.Standing.{Standing, page_of}

-- it is the first page of each program whose functions have these names, with this setup and these host closures, and no fold is open
pub record IsFirst (names : List (List ℕ)) (setup : Setup) (hosts : List HostClosure) (s : Standing) : Type 0 where
  pub page : (program : Program) → program.names ≡ names → page_of s ≡ first_page program setup hosts
  pub folds : s.folds ≡ []

-- the script is the one task, with the first number
pub record HasScriptTask (q : Queued) : Type 0 where
  pub tasks : q.tasks ≡ record { number = 1; source = Dom; steps = RunScript } ∷ []
  pub sched_tasks : q.sched_tasks ≡ []
  pub made : q.tasks_made ≡ 1
  pub priorities : q.priorities ≡ []

-- the parts that take memory are those of such a page
pub record AreFirst {M : Type 0} (names : List (List ℕ)) (setup : Setup) (parts : FirstParts M) : Type 0 where
  pub script : script.IsFirst setup.form setup.trace names parts.script
  pub tasks : HasScriptTask parts.tasks
  pub waiting : parts.items.waiting ≡ only_arrivals setup.arrivals
  pub latencies : map latency_seen parts.latencies.entries ≡ setup.latencies
