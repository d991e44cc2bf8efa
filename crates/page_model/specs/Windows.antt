-- Several windows on one loop.
use Rattle.std.specs.Prelude.{◌≡◌, ℕ, zero, suc, ◌+◌, max, Bool, false, if◌then◌else◌, not, ◌&&◌, ◌||◌, List, [], ◌∷◌, map, length, Option, Some, None, nat_lt, nat_le, find}
use Rattle.page_types.specs.Tree.{Program}
use Rattle.page_parts.specs.Words.{and_last}
use Rattle.page_parts.specs.Setup.{Setup}
use Rattle.page_parts.specs.Channels.{Channel}
use Rattle.page_model.specs.Choosing.{choice_rules}
use Rattle.page_model.specs.Gaps.{Act, Pass, Serve, Rest, Stop, act}
use Rattle.page_model.specs.PageRuns.{PageRun, first_run, caller_of, is_live, has_runnable, has_pending, some_run, least_target, carried_on, change_run, run_at, standing, route_posts, only_if}

-- ---- HTML, "Event loops: processing model": similar-origin windows share an event loop. Ours: they are served in a circle

-- the windows of a loop, its time, the moment at which it ends at the latest, how late each further wait is, and the number of the window
-- that was served last, 0 at first
pub record Windows : Type 0 where
  pub windows : List PageRun
  pub now : ℕ
  pub until : ℕ
  pub late : List ℕ
  pub served : ℕ

-- a program and its setup
pub record Script : Type 0 where
  pub program : Program
  pub setup : Setup

-- the loop has the latest end and the lateness of its first window
abbrev pub until_of : List Script → ℕ
until_of [] = 0
until_of (s ∷ more) = s.setup.until

-- the same of the lateness
abbrev pub late_of : List Script → List ℕ
late_of [] = []
late_of (s ∷ more) = s.setup.late

-- the loop before its first round
abbrev pub first_windows : List Script → Windows
first_windows scripts =
    record {
      windows = map (λ s. first_run s.program s.setup (until_of scripts)) scripts;
      now = 0;
      until = until_of scripts;
      late = late_of scripts;
      served = 0;
    }

-- an act is done for a window, where it is live
abbrev pub does_act : Act → PageRun → PageRun
does_act a r = carried_on (act choice_rules (caller_of r) r.until a) r

-- an act is done for each live window
abbrev pub each_does : Act → List PageRun → List PageRun
each_does a rs = map (does_act a) rs

-- the numbers from 1 to n
abbrev pub numbers_to : ℕ → List ℕ
numbers_to zero = []
numbers_to (suc n) = and_last (numbers_to n) (suc n)

-- whether the window with this number has a runnable task
abbrev pub is_ready : List PageRun → ℕ → Bool
is_ready rs k = elim (run_at k rs) as (λ r. Bool) [ None ↦ false | Some r ↦ has_runnable r ]

-- the first of two that is there
abbrev pub or_number : (first second : Option ℕ) → Option ℕ
or_number None k = k
or_number (Some j) k = Some j

-- the window to serve: the next one with a runnable task after the last one served, in a circle
abbrev pub next_to_serve : Windows → Option ℕ
next_to_serve w =
    or_number (find (λ k. nat_lt w.served k && is_ready w.windows k) (numbers_to (length w.windows)))
    (find (is_ready w.windows) (numbers_to (length w.windows)))

-- each live window does the idle step
abbrev pub all_rest : Windows → Windows
all_rest w = record w { windows = each_does (Rest w.now) w.windows }

-- the same where no window has a runnable task
abbrev pub rest_if_idle : Windows → Windows
rest_if_idle w = only_if (not (some_run has_runnable w.windows)) all_rest w

-- the time of a window
abbrev pub now_of : Option PageRun → ℕ → ℕ
now_of None now = now
now_of (Some r) now = (standing r).host.now

-- a window is served; the loop has its time then, and its messages are routed
abbrev pub served_by : List Channel → Option ℕ → Windows → Windows
served_by cs None w = w
served_by cs (Some k) w =
    let served = change_run k (does_act Serve) w.windows in
    rest_if_idle (record w { windows = route_posts cs k served; now = now_of (run_at k served) w.now; served = k })

-- each live window ends: where no task is runnable and nothing is pending it is done, and else the time is up
abbrev pub all_stop : ℕ → Windows → Windows
all_stop now w = record w { windows = each_does (Stop now) w.windows; now = now }

-- how late the next wait is, and the list after it
abbrev pub next_late : List ℕ → ℕ
next_late [] = 0
next_late (l ∷ more) = l

-- the further ones
abbrev pub more_late : List ℕ → List ℕ
more_late [] = []
more_late (l ∷ more) = more

-- the loop waits for a target; no line tells that
abbrev pub waits_till : ℕ → Windows → Windows
waits_till t w = record w { now = t + next_late w.late; late = more_late w.late }

-- what is done where no window has a runnable task, by the least of the targets
abbrev pub waits_for : Option ℕ → Windows → Windows
waits_for None w = all_stop w.now w
waits_for (Some t) w =
    (if nat_le w.until w.now || nat_le w.until t then all_stop (max w.now w.until) else if nat_lt w.now t then waits_till t else all_rest) w

-- the window to serve is served, unless the time is up
abbrev pub serves : List Channel → Windows → Windows
serves cs w = (if nat_le w.until w.now then all_stop (max w.now w.until) else served_by cs (next_to_serve w)) w

-- where no window has a runnable task, all end where nothing is pending, or the loop waits
abbrev pub idles : Windows → Windows
idles w = (if some_run has_pending w.windows then waits_for (least_target w.windows) else all_stop w.now) w

-- One round. Each live window takes the loop's time, and its parallel items are taken. Then a window is served, or the loop waits, or ends.
abbrev pub round : List Channel → Windows → Windows
round cs w =
    let passed = record w { windows = each_does (Pass w.now) w.windows } in
    (if some_run has_runnable passed.windows then serves cs else idles) passed

-- at most n rounds, until no window is live
abbrev pub rounds : List Channel → ℕ → Windows → Windows
rounds cs zero w = w
rounds cs (suc n) w = only_if (some_run is_live w.windows) (λ w. rounds cs n (round cs w)) w

-- these are the runs of the windows: the rounds lead to them, and each has ended
pub record AreWindowsOf (cs : List Channel) (scripts : List Script) (rs : List PageRun) : Type 0 where
  pub count : ℕ
  pub lead : (rounds cs count (first_windows scripts)).windows ≡ rs
  pub ended : some_run is_live rs ≡ false
