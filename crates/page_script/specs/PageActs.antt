-- A function of the model's page as an act: the page after it, and the lines that it gives. A page in code keeps no events.
use Rattle.std.specs.Prelude.{◌≡◌, List, [], ◌∷◌, ◌++◌, map, reverse}
use Rattle.page_types.specs.Events.{Stamped}
use Rattle.page_model.specs.State.{Task, Page, queue_task}
use Rattle.page_model.specs.Additions.{Adds}
use Rattle.trace_text.specs.Line.{Line, Of}
use Rattle.trace_text.specs.Given.{Seen}
use Rattle.trace_text.specs.Acts.{Act, At}
use Rattle.page_script.specs.Script.{script_of, with_script, holding}

-- the page without its events
abbrev pub bare : Page → Page
bare p = record p { events = [] }

-- the lines of these events, of which the last stands first
abbrev pub lines_of : List Stamped → List Line
lines_of events = map Of (reverse events)

-- what a function makes of a page with no events, and its lines
unfoldable pub act : (Page → Page) → Act Page
act f p = record { state = bare (f (bare p)); lines = lines_of (f (bare p)).events }

-- a page, and what is seen of the lines
abbrev pub on_page : {T : Type 0} → Page → Seen T → At Page T
on_page p seen = record { state = p; seen = seen }

-- g only adds lines, whatever stands before them
abbrev pub OnlyAdds : (Page → Page) → Type 0
OnlyAdds g = (es : List Stamped) → Adds es g

-- What a function made of the script's part alone, on the whole page: the part is the one after it, its lines come behind those of the
-- page, and every other field stays.
abbrev pub spread : (made : Page) → Page → Page
spread made p = record (with_script (script_of made) p) { events = made.events ++ p.events }

-- f reads and changes no other field than those of the script's part
abbrev pub OnlyScript : (Page → Page) → Type 0
OnlyScript f = (p : Page) → f p ≡ spread (f (holding (script_of p))) p

-- these tasks are queued in order, each with the next number
abbrev pub queue_each : List Task → Page → Page
queue_each [] p = p
queue_each (t ∷ more) p = queue_each more (queue_task t.source t.steps p)

-- f reads and changes no other field than those of the script's part, and queues tasks besides, which it gives no line
abbrev pub OnlyScriptAndTasks : (Page → Page) → Type 0
OnlyScriptAndTasks f =
    (p : Page)
    → f p ≡ queue_each (f (holding (script_of p))).tasks (spread (f (holding (script_of p))) p)
