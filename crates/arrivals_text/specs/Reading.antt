-- How far the reading of a file has come.
use Rattle.std.specs.Prelude.{◌≡◌, ℕ, ◌+◌, ◌≤◌, Bool, true, false, if◌then◌else◌, ⊤, List, [], ◌∷◌, ◌++◌, map, Option, Some, None, Result, Ok, Err, IsTrue}
use Rattle.page_parts.specs.Setup.{are_in_order}
use Rattle.page_base.specs.Readings.{AreShort}
use Rattle.loop_policy.specs.Policies.{policy_of, is_policy}
use Rattle.page_base.specs.Fields.{◌>>=◌, where_true}
use Rattle.arrivals_text.specs.Arrivals.{Line, Settings, settings_after, line_at, says_something, place_of, may_follow}
use Rattle.arrivals_text.specs.Limits.{are_latencies, are_arrivals}
use Rattle.arrivals_text.specs.SeenParts.{latency_of, arrival_of}
use Rattle.arrivals_text.specs.declared.place.Place.{Place}
use Rattle.arrivals_text.specs.declared.place.Place.TheVariants as place
use Rattle.arrivals_text.specs.declared.draft.Draft.{Draft}
use Rattle.arrivals_text.specs.declared.fault.PageFault.{PageFault}
use Rattle.arrivals_text.specs.declared.fault.PageFault.TheVariants.{Is, OutOfMemory}

-- what one line of the file adds: nothing, or what it spells; none where it is refused
unfoldable pub step : Place → List ℕ → Option (List Line)
step last bytes =
    if says_something bytes then (line_at bytes >>= λ line. where_true (may_follow last (place_of line)) (line ∷ []))
    else Some []

abbrev pub last_place : Place → List Line → Place
last_place last [] = last
last_place last (line ∷ lines) = last_place (place_of line) lines

abbrev pub is_start : Place → Bool
is_start place.Start = true
is_start other = false

abbrev pub further : List Line → Result (List Line) ℕ → Result (List Line) ℕ
further front (Ok lines) = Ok (front ++ lines)
further front (Err good) = Err (good + 1)

-- the lines that the file spells from here on, or how many lines are read before the first one that is refused
abbrev pub goes : Place → List (List ℕ) → Result (List Line) ℕ
goes last [] = if is_start last then Err 0 else Ok []
goes last (bytes ∷ file) = elim (step last bytes) [ None ↦ Err 0 | Some lines ↦ further lines (goes (last_place last lines) file) ]

-- the settings, or the number of the refused line, after so many lines that gave these settings
abbrev pub settled : ℕ → Settings → Result (List Line) ℕ → Result Settings ℕ
settled number s (Ok lines) = Ok (settings_after s lines)
settled number s (Err good) = Err (number + good + 1)

abbrev pub draft_of : Draft → Settings
draft_of d = record {
  setup = record {
    form = d.form;
    trace = d.trace;
    policy = policy_of d.policy;
    fuel = d.fuel;
    until = d.until;
    refresh = d.refresh;
    late = d.late.items;
    latencies = map latency_of d.hosts.items;
    arrivals = map arrival_of d.arrivals.items;
  };
  room = d.room;
}

-- what was read, unless memory ran out
abbrev pub Gives : Result Draft PageFault → Result Settings ℕ → Type 0
Gives (Ok draft) wanted = wanted ≡ Ok (draft_of draft)
Gives (Err (Is fault)) wanted = wanted ≡ Err fault.line
Gives (Err OutOfMemory) wanted = ⊤

-- a line of the file was taken, or refused
abbrev pub IsTaken : Option (List Line) → Place → (old : Settings) → Option Place → (new : Settings) → Type 0
IsTaken None last old next new = next ≡ None
IsTaken (Some lines) last old next new = (next ≡ Some (last_place last lines)) × (new ≡ settings_after old lines)

-- the same of the bytes of a line that was read into a draft
abbrev pub TakesLine : Place → (bytes : List ℕ) → (old : Draft) → Option Place → (new : Draft) → Type 0
TakesLine last bytes old next new = IsTaken (step last bytes) last (draft_of old) next (draft_of new)

-- settings within their limits
pub record IsWithin (s : Settings) : Type 0 where
  pub has_form : (1 ≤ s.setup.form) × (s.setup.form ≤ 2)
  pub has_trace : (1 ≤ s.setup.trace) × (s.setup.trace ≤ 2)
  pub is_policy : IsTrue (is_policy s.setup.policy)
  pub has_fuel : (1 ≤ s.setup.fuel) × (s.setup.fuel ≤ 10000000)
  pub has_end : (1 ≤ s.setup.until) × (s.setup.until ≤ 1000000000000)
  pub has_rate : (1 ≤ s.setup.refresh) × (s.setup.refresh ≤ 240)
  pub is_short : AreShort s.setup.late
  pub has_room : s.room ≤ 1000000
  pub rises : IsTrue (are_latencies s.setup.latencies)
  pub arrives : IsTrue (are_arrivals s.setup.arrivals)
  pub in_order : IsTrue (are_in_order s.setup.arrivals)
