-- The ten laws of a run, together.
use Rattle.std.specs.Prelude.{List}
use Rattle.page_types.specs.Events.{Stamped}
use Rattle.page_parts.specs.Setup.{Setup}
use Rattle.page_model.specs.Numbers.{HoldsNoNumbers}
use Rattle.page_model.specs.Turns.{Turned, events_of_run}
use Rattle.page_laws.specs.CallLaws.{Once, Cancel, SettleOnce, JobsInOrder, NoNesting}
use Rattle.page_laws.specs.SchedulerLaws.{PriorityOrder, EndsTruly}
use Rattle.page_laws.specs.TimerLaws.{TimersInOrder, FramesInOrder, IdleDeadlines}

-- Callbacks run once at most and not after their cancel, promises settle once, jobs run in order and inside no call; timers, frame
-- callbacks, idle callbacks and the tasks of the scheduler go in their orders; and a run ends truly.
pub record AreLawful (setup : Setup) (events : List Stamped) : Type 0 where
  pub once : Once events
  pub cancel : Cancel events
  pub settle : SettleOnce events
  pub jobs : JobsInOrder events
  pub nesting : NoNesting events
  pub timers : TimersInOrder setup.form events
  pub frames : FramesInOrder events
  pub idle : IdleDeadlines events
  pub priority : PriorityOrder events
  pub ends : EndsTruly setup.until setup.fuel events

-- a run whose arrivals carry no numbers of promises, signals or the like keeps all laws
abbrev pub KeepsLaws : {C : Type 0} → Setup → Turned C → Type 0
KeepsLaws setup run = HoldsNoNumbers setup → AreLawful setup (events_of_run run)
