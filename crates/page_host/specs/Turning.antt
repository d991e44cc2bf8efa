-- How a turn begins and waits and a run ends, done to the page alone. HTML, "Event loops: processing model"
use Rattle.std.specs.Prelude.{◌≡◌, ℕ, max, Bool, Option, is_some}
use Rattle.page_types.specs.declared.Source.{Source}
use Rattle.page_types.specs.declared.End.{End}
use Rattle.page_types.specs.declared.End.TheVariants.{Done, Fuel, Clock}
use Rattle.page_types.specs.Events.{EndLine, Wait}
use Rattle.page_parts.specs.Words.{is_empty}
use Rattle.page_model.specs.State.{Page, State, emit}
use Rattle.page_model.specs.Turns.{at_time, counted_turn, is_pending, turn_line}
use Rattle.page_model.specs.View.{view}
use Rattle.trace_text.specs.Acts.{Piece}
use Rattle.page_state.specs.Standing.{Standing}
use Rattle.page_state.specs.PageActs.{changed_by, on_page, read_by}
use Rattle.page_state.specs.JobActs.{turn_counted}

-- the same in a state of the model, with so much fuel left
abbrev pub page_turn : Option Source → (left : ℕ) → State → State
page_turn source left m = record m { fuel = left; host = turn_counted source m.host }

-- how the model's turn begins
abbrev pub model_turn : Option Source → (left : ℕ) → State → State
model_turn source left m = turn_line source (counted_turn left m)

-- a wait ends on a page: the reading becomes the time, and then comes its line
abbrev pub page_wait : (target reading : ℕ) → Standing → Piece Standing
page_wait target reading s = on_page (emit (Wait target)) (changed_by (at_time reading) s)

-- the model's wait ends
abbrev pub model_wait : (target reading : ℕ) → Standing → Piece Standing
model_wait target reading s = on_page (λ p. emit (Wait target) (at_time reading p)) s

-- whether no task is runnable
abbrev pub no_task_runs : Standing → Bool
no_task_runs s = read_by (λ p. is_empty (view p)) s

-- there is a moment to wait for exactly where something is pending
abbrev pub AwaitsPending : {T : Type 0} → Standing → Option T → Type 0
AwaitsPending s = λ moment. is_some moment ≡ read_by is_pending s

-- Ours: where the run ends by the clock, the time is up
abbrev pub time_up : (until : ℕ) → End → Page → Page
time_up until Done p = p
time_up until Fuel p = p
time_up until Clock p = at_time (max p.now until) p

-- the run ends, with its line
abbrev pub run_ended : (until : ℕ) → End → Page → Page
run_ended until end p = emit (EndLine end) (time_up until end p)
