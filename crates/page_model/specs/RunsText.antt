-- The text of several runs.
use Rattle.std.specs.Prelude.{ℕ, suc, if◌then◌else◌, List, [], ◌∷◌, ◌++◌, codes, nat_lt}
use Rattle.page_types.specs.Events.{Stamped}
use Rattle.page_parts.specs.Words.{decimal_of}
use Rattle.page_parts.specs.TraceText.{line_text, text_of}
use Rattle.page_model.specs.Turns.{events_of_run}
use Rattle.page_model.specs.PageRuns.{PageRun, standing}

-- ---- Ours: how the traces of windows and of loops stand in one file

-- the windows one after another, from number n on: a line with the number, and the trace in the form of the window's setup
abbrev pub windows_text : ℕ → List PageRun → List ℕ
windows_text n [] = []
windows_text n (r ∷ rs) =
    codes "window " ++ decimal_of n ++ 10 ∷ text_of (standing r).host.trace (events_of_run r.run) ++ windows_text (suc n) rs

-- an event with the number of its loop
pub record LoopEvent : Type 0 where
  pub loop : ℕ
  pub event : Stamped

-- the events of a loop
abbrev pub loop_events : ℕ → List Stamped → List LoopEvent
loop_events n [] = []
loop_events n (e ∷ es) = record { loop = n; event = e } ∷ loop_events n es

-- an event is put behind those of the same or an earlier time
abbrev pub put_event : LoopEvent → List LoopEvent → List LoopEvent
put_event x [] = x ∷ []
put_event x (y ∷ ys) = if nat_lt x.event.time y.event.time then x ∷ y ∷ ys else y ∷ put_event x ys

-- events are put one after another
abbrev pub put_events : (events more : List LoopEvent) → List LoopEvent
put_events [] ys = ys
put_events (x ∷ xs) ys = put_events xs (put_event x ys)

-- the events of all loops, from number n on, by time and then by loop; each loop's order is kept
abbrev pub all_events : ℕ → List PageRun → List LoopEvent → List LoopEvent
all_events n [] ys = ys
all_events n (r ∷ rs) ys = all_events (suc n) rs (put_events (loop_events n (events_of_run r.run)) ys)

-- their lines, each behind the number of its loop
abbrev pub loop_lines : List LoopEvent → List ℕ
loop_lines [] = []
loop_lines (x ∷ xs) = decimal_of x.loop ++ 32 ∷ line_text x.event ++ loop_lines xs

-- the merged text of the loops
abbrev pub loops_text : List PageRun → List ℕ
loops_text rs = codes "workers 1\n" ++ loop_lines (all_events 1 rs [])
