-- Timers: the id map and the active timers.
use Rattle.std.specs.Prelude.{ℕ, suc, ◌+◌, ◌-◌, ◌*◌, ◌%◌, ◌^◌, Bool, false, if◌then◌else◌, ◌&&◌, ◌||◌, List, [], ◌∷◌, Option, Some, None, ℤ, pos, negsuc, nat_lt, ◌==◌, find, unwrap_or, option_map}
use Rattle.page_parts.specs.Words.{and_last, without, is_there}

-- ---- HTML, "Timers"

-- an entry of the map of setTimeout and setInterval ids: an id with its unique handle
pub record TimerId : Type 0 where
  pub id : ℕ
  pub handle : ℕ

-- an entry of the map of active timers: its start number and the moment at which it is due
pub record ActiveTimer : Type 0 where
  pub start : ℕ
  pub due : ℕ

-- the map of ids, the map of active timers, and how many ids, handles and starts were ever given
pub record Timers : Type 0 where
  pub ids : List TimerId
  pub active : List ActiveTimer  -- in the order of start
  pub ids_made : ℕ
  pub handles_made : ℕ
  pub starts_made : ℕ

-- before the script runs there is no timer
abbrev pub no_timers : Timers
no_timers = record { ids = []; active = []; ids_made = 0; handles_made = 0; starts_made = 0 }

-- ---- HTML, "Timers": timer initialisation steps. Web IDL, "long": the timeout wraps into 32 bits with a sign

-- the remainder of an integer modulo 2 ^ 32
abbrev pub modulo_word : ℤ → ℕ
modulo_word (pos n) = n % 2 ^ 32
modulo_word (negsuc n) = 2 ^ 32 - 1 - n % 2 ^ 32

-- The timeout in milliseconds: modulo 2 ^ 32 into the range of 32 bits with a sign, and 0 for one below 0.
abbrev pub milliseconds : ℤ → ℕ
milliseconds timeout = if nat_lt (modulo_word timeout) (2 ^ 31) then modulo_word timeout else 0

-- a nesting level above 5 makes a timeout 4 milliseconds at least
abbrev pub clamped : (nesting ms : ℕ) → ℕ
clamped nesting ms = if nat_lt 5 nesting && nat_lt ms 4 then 4 else ms

-- ---- HTML, "Timers": run steps after a timeout

-- an active timer is set, with the next start number
abbrev pub run_after : (ms now : ℕ) → Timers → Timers
run_after ms now t =
    record t { starts_made = suc t.starts_made; active = and_last t.active (record { start = suc t.starts_made; due = now + ms * 1000 }) }

-- ---- HTML, "Timers": timer initialisation steps

-- the map of ids with this handle at the id
abbrev pub with_id : (id handle : ℕ) → List TimerId → List TimerId
with_id id handle ids = and_last (without (λ e. e.id == id) ids) (record { id = id; handle = handle })

-- what initialising a timer gives: its id, its unique handle, its start number, its due time and its nesting level
pub record Armed : Type 0 where
  pub id : ℕ
  pub handle : ℕ
  pub start : ℕ
  pub due : ℕ
  pub level : ℕ

-- a timer is initialised, again under its id or under the next one: one level deeper than now
abbrev pub armed : Option ℕ → ℤ → (nesting now : ℕ) → Timers → Armed
armed again timeout nesting now t =
    record {
      id = unwrap_or again (suc t.ids_made);
      handle = suc t.handles_made;
      start = suc t.starts_made;
      due = now + clamped nesting (milliseconds timeout) * 1000;
      level = suc nesting;
    }

-- the timer's id and handle are set in the map, and its active timer is set
abbrev pub with_armed : Option ℕ → Armed → Timers → Timers
with_armed again a t =
    record {
      ids = with_id a.id a.handle t.ids;
      active = and_last t.active (record { start = a.start; due = a.due });
      ids_made = elim again [ None ↦ a.id | Some id ↦ t.ids_made ];
      handles_made = a.handle;
      starts_made = a.start;
    }

-- the entry of an id in the map
abbrev pub id_entry : ℕ → Timers → Option TimerId
id_entry id t = find (λ e. e.id == id) t.ids

-- whether an id is in the map
abbrev pub has_id : ℕ → Timers → Bool
has_id id t = is_there (id_entry id t)

-- ---- HTML, "Timers": clearTimeout() and clearInterval(), and the two tests of a timer's task

-- the id leaves the map, and the active timers stay
abbrev pub clear : ℕ → Timers → Timers
clear id t = record t { ids = without (λ e. e.id == id) t.ids }

-- whether the id is in the map with this handle
abbrev pub is_live : (id handle : ℕ) → Timers → Bool
is_live id handle t = elim (id_entry id t) [ None ↦ false | Some e ↦ e.handle == handle ]

-- ---- HTML, "Timers": run steps after a timeout: completion in the order of due time, then of start

-- the one of least due time among these, and of least start among those
abbrev pub first_from : ActiveTimer → List ActiveTimer → ActiveTimer
first_from a [] = a
first_from a (b ∷ more) = first_from (if nat_lt b.due a.due || ((b.due == a.due) && nat_lt b.start a.start) then b else a) more

-- the first of a list of active timers
abbrev pub first_of : List ActiveTimer → Option ActiveTimer
first_of [] = None
first_of (a ∷ more) = Some (first_from a more)

-- the active timer that completes first
abbrev pub first_timer : Timers → Option ActiveTimer
first_timer t = first_of t.active

-- the due time of that timer, none where none is active
abbrev pub next_due : Timers → Option ℕ
next_due t = option_map (λ a. a.due) (first_timer t)

-- an active timer completes: it leaves the list
abbrev pub completed : ℕ → Timers → Timers
completed start t = record t { active = without (λ a. a.start == start) t.active }
