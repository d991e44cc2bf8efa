-- What a function of the model's page does to the script's part, as an act.
use Rattle.std.specs.Prelude.{List, map}
use Rattle.page_model.specs.State.{Steps, Page}
use Rattle.trace_text.specs.Given.{Seen}
use Rattle.trace_text.specs.Acts.{Act, At}
use Rattle.page_script.specs.Script.{Script, script_of, holding}
use Rattle.page_script.specs.PageActs.{lines_of}

-- the script's part of what f makes of a page that has this part, and the lines of its events
unfoldable pub on_script : (Page → Page) → Act Script
on_script f s = record { state = script_of (f (holding s)); lines = lines_of (f (holding s)).events }

-- the script's part alone of what f makes of it
abbrev pub changed_by : (Page → Page) → Script → Script
changed_by f s = script_of (f (holding s))

-- what f answers of a page that has this part
abbrev pub read_by : {X : Type 0} → (Page → X) → Script → X
read_by f s = f (holding s)

-- the steps of the tasks that f queues, in order
abbrev pub queued_by : (Page → Page) → Script → List Steps
queued_by f s = map (λ t. t.steps) (f (holding s)).tasks

-- the script's part, and what is seen of the lines
abbrev pub on : {T : Type 0} → Script → Seen T → At Script T
on s seen = record { state = s; seen = seen }
