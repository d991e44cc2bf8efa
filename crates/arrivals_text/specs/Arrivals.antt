-- The setup that an arrivals file sets.
use Rattle.std.specs.Prelude.{◌≡◌, ℕ, ◌+◌, ◌≤◌, ◌<◌, Bool, true, false, if◌then◌else◌, not, ◌&&◌, ◌==◌, nat_lt, nat_le, List, [], ◌∷◌, ◌++◌, map, filter, take, length, Option, Some, None, option_map, filter_map, codes}
use Rattle.std.specs.List.{slice_split}
use Rattle.page_parts.specs.Words.{is_empty}
use Rattle.page_parts.specs.Setup.{Policy, Rank, Latency, Arrival, Setup}
use Rattle.page_parts.specs.Sources.{default_list}
use Rattle.page_base.specs.Fields.{behind, is_word, read_or}
use Rattle.arrivals_text.specs.Fields.{number_in, policy_at, late_at, latency_at, arrival_at}
use Rattle.arrivals_text.specs.declared.place.Place.{Place}
use Rattle.arrivals_text.specs.declared.place.Place.TheVariants as place

-- The setup of a file that sets nothing: form 1 and a trace of form 1, the default rank, 1,000,000 units of fuel, 10,000,000 microseconds,
-- 60 frames a second, and no lateness, latency or arrival.
abbrev pub default_setup : Setup
default_setup =
    record {
      form = 1;
      trace = 1;
      policy = Rank default_list;
      fuel = 1000000;
      until = 10000000;
      refresh = 60;
      late = [];
      latencies = [];
      arrivals = [];
    }

-- ---- Ours: lines

-- a line of the file, by what it sets
pub data Line : Type 0 where
  -- with the form of the run
  PageLine : ℕ → Line
  -- a trace of form 2
  TraceLine : Line
  PolicyLine : Policy → Line
  FuelLine : ℕ → Line
  UntilLine : ℕ → Line
  RefreshLine : ℕ → Line
  LateLine : List ℕ → Line
  RoomLine : ℕ → Line
  HostLine : Latency → Line
  ArrivalLine : Arrival → Line

-- the line that these bytes spell, of those on what comes from outside the page: a host's latency, or an arrival
abbrev pub outside_at : List ℕ → Option Line
outside_at bytes =
    read_or (behind (codes "host ") bytes) (λ rest. option_map HostLine (latency_at rest))
    (read_or (behind (codes "at ") bytes) (λ rest. option_map ArrivalLine (arrival_at rest)) None)

-- the same of these and of those on how exact a run is: frames a second, latenesses, or cells that a page reserves
abbrev pub detail_at : List ℕ → Option Line
detail_at bytes =
    read_or (behind (codes "refresh ") bytes) (λ rest. option_map RefreshLine (number_in 1 240 rest))
    (read_or (behind (codes "late ") bytes) (λ rest. option_map LateLine (late_at rest))
    (read_or (behind (codes "room ") bytes) (λ rest. option_map RoomLine (number_in 0 1000000 rest)) (outside_at bytes)))

-- the same of these and of those on how long a run goes on: fuel, or when it ends
abbrev pub amount_at : List ℕ → Option Line
amount_at bytes =
    read_or (behind (codes "fuel ") bytes) (λ rest. option_map FuelLine (number_in 1 10000000 rest))
    (read_or (behind (codes "until ") bytes) (λ rest. option_map UntilLine (number_in 1 1000000000000 rest)) (detail_at bytes))

-- the line that these bytes spell
unfoldable pub line_at : List ℕ → Option Line
line_at bytes =
    read_or (behind (codes "page ") bytes) (λ rest. option_map PageLine (number_in 1 2 rest))
    (if is_word (codes "trace 2") bytes then Some TraceLine
    else read_or (behind (codes "policy ") bytes) (λ rest. option_map PolicyLine (policy_at rest)) (amount_at bytes))

-- The bytes between line feeds. What stands behind the last one is a line only where it is not empty.
abbrev pub but_empty_last : List (List ℕ) → List (List ℕ)
but_empty_last [] = []
but_empty_last (line ∷ []) = if is_empty line then [] else line ∷ []
but_empty_last (line ∷ next ∷ lines) = line ∷ but_empty_last (next ∷ lines)

unfoldable pub lines_of : List ℕ → List (List ℕ)
lines_of bytes = but_empty_last (slice_split (λ b. b == 10) bytes)

-- this is the first line, and these bytes follow it
abbrev pub BeginsWith : (bytes line after : List ℕ) → Type 0
BeginsWith bytes line after = lines_of bytes ≡ line ∷ lines_of after

-- an empty line, and one that begins with `#`, says nothing
abbrev pub says_something : List ℕ → Bool
says_something [] = false
says_something (b ∷ bytes) = not (b == 35)

-- ---- Ours: the order of lines

-- the place of a line in the file
abbrev pub place_of : Line → Place
place_of (PageLine n) = place.Page
place_of TraceLine = place.Trace
place_of (PolicyLine policy) = place.Policy
place_of (FuelLine n) = place.Fuel
place_of (UntilLine n) = place.Until
place_of (RefreshLine n) = place.Refresh
place_of (LateLine late) = place.Late
place_of (RoomLine n) = place.Room
place_of (HostLine host) = place.Host host.closure
place_of (ArrivalLine arrival) = place.At arrival.at

-- the order of the places
abbrev pub rank_of : Place → ℕ
rank_of place.Start = 0
rank_of place.Page = 1
rank_of place.Trace = 2
rank_of place.Policy = 3
rank_of place.Fuel = 4
rank_of place.Until = 5
rank_of place.Refresh = 6
rank_of place.Late = 7
rank_of place.Room = 8
rank_of (place.Host k) = 9
rank_of (place.At t) = 10

-- whether a line may stand at a place: the first one is `page 1` or `page 2`, and each one comes later in the order than the one before
-- it; only `host` lines may follow each other, with rising numbers, and `at` lines, with times that do not fall
abbrev pub may_follow : (last next : Place) → Bool
may_follow place.Start next = rank_of next == 1
may_follow (place.Host k) (place.Host l) = nat_lt k l
may_follow (place.At t) (place.At u) = nat_le t u
may_follow last next = nat_lt (rank_of last) (rank_of next)

abbrev pub follow : Place → List Line → Bool
follow last [] = true
follow last (line ∷ lines) = may_follow last (place_of line) && follow (place_of line) lines

-- ---- Ours: what a file sets

-- The lines of the file that say something are these, which are one at least and follow each other.
pub record IsPage (file : List (List ℕ)) (lines : List Line) : Type 0 where
  pub spelled : map line_at (filter says_something file) ≡ map Some lines
  pub some : is_empty lines ≡ false
  pub in_order : follow place.Start lines ≡ true

-- a setup, and the number of cells that a page reserves, which changes nothing that a run does
pub record Settings : Type 0 where
  pub setup : Setup
  pub room : ℕ

-- the last of a list, else the default
abbrev pub last_or : {X : Type 0} → X → List X → X
last_or default [] = default
last_or default (x ∷ xs) = last_or x xs

abbrev pub form_in : Line → Option ℕ
form_in (PageLine n) = Some n
form_in line = None

abbrev pub trace_in : Line → Option ℕ
trace_in TraceLine = Some 2
trace_in line = None

abbrev pub policy_in : Line → Option Policy
policy_in (PolicyLine policy) = Some policy
policy_in line = None

abbrev pub fuel_in : Line → Option ℕ
fuel_in (FuelLine n) = Some n
fuel_in line = None

abbrev pub until_in : Line → Option ℕ
until_in (UntilLine n) = Some n
until_in line = None

abbrev pub refresh_in : Line → Option ℕ
refresh_in (RefreshLine n) = Some n
refresh_in line = None

abbrev pub late_in : Line → Option (List ℕ)
late_in (LateLine late) = Some late
late_in line = None

abbrev pub room_in : Line → Option ℕ
room_in (RoomLine n) = Some n
room_in line = None

abbrev pub latency_in : Line → Option Latency
latency_in (HostLine host) = Some host
latency_in line = None

abbrev pub arrival_in : Line → Option Arrival
arrival_in (ArrivalLine arrival) = Some arrival
arrival_in line = None

-- settings after further lines: each is what its line says, of which there is at most one in a page, and else as before;
-- latencies and arrivals are those of all their lines
abbrev pub settings_after : Settings → List Line → Settings
settings_after s lines = record {
  setup = record {
    form = last_or s.setup.form (filter_map form_in lines);
    trace = last_or s.setup.trace (filter_map trace_in lines);
    policy = last_or s.setup.policy (filter_map policy_in lines);
    fuel = last_or s.setup.fuel (filter_map fuel_in lines);
    until = last_or s.setup.until (filter_map until_in lines);
    refresh = last_or s.setup.refresh (filter_map refresh_in lines);
    late = last_or s.setup.late (filter_map late_in lines);
    latencies = s.setup.latencies ++ filter_map latency_in lines;
    arrivals = s.setup.arrivals ++ filter_map arrival_in lines;
  };
  room = last_or s.room (filter_map room_in lines);
}

-- before any line no cells are reserved
abbrev pub default_settings : Settings
default_settings = record { setup = default_setup; room = 0 }

-- The bytes are a file that sets this.
pub record SetsUp (bytes : List ℕ) (settings : Settings) : Type 0 where
  pub lines : List Line
  pub page : IsPage (lines_of bytes) lines
  pub sets : settings ≡ settings_after default_settings lines

-- ---- Ours: the first line that is refused in its place

-- some file that sets up a run begins with these lines
abbrev pub BeginsPage : List (List ℕ) → Type 0
BeginsPage file = (more : List (List ℕ)) × (lines : List Line) × IsPage (file ++ more) lines

-- The file sets up no run. The lines before this number begin a file that does, and with this line, if there is one, no
-- file that does can begin.
pub record IsBadLine (file : List (List ℕ)) (number : ℕ) : Type 0 where
  pub before : ℕ
  pub counted : number ≡ before + 1
  pub within : before ≤ length file
  pub begins : BeginsPage (take before file)
  pub ends : before < length file → BeginsPage (take number file) → ⊥
  pub refused : (lines : List Line) → IsPage file lines → ⊥
