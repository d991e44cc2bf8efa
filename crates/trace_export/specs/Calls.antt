-- The calls of a trace.
use Rattle.std.specs.Prelude.{◌≡◌, ℕ, zero, suc, ◌==◌, List, [], ◌∷◌, ◌++◌, Option, Some, None, codes, if◌then◌else◌}
use Rattle.page_types.specs.declared.RegKind.{RegKind}
use Rattle.page_types.specs.Events.{Event, Call, Ret, Throw, Reg, EndLine, Stamped}
use Rattle.page_parts.specs.Words.{decimal_of}
use Rattle.page_parts.specs.TraceText.{kind_text}

-- ---- Ours: when a call ends

-- the end of a call of which the callback returned, or threw, at this time: its own end, where no call is open that began after it
abbrev pub left_at : (zero time : ℕ) → (ℕ → ℕ) → ℕ
left_at zero time later = time
left_at (suc inner) time later = later inner

-- The same, of an event at a time: `inner` is how many calls are open that began after the call and before the event, and `later` the end
-- by what follows, where so many are open.
abbrev pub end_by : (event : Event) → (inner : ℕ) → (time : ℕ) → (later : ℕ → ℕ) → ℕ
end_by (Call r) inner time later = later (suc inner)
end_by Ret inner time later = left_at inner time later
end_by (Throw v) inner time later = left_at inner time later
end_by (EndLine end) inner time later = time
end_by event inner time later = later inner

-- When a call ends, by the events that follow, where so many calls are open that began after it. A `ret` or `throw` line ends the innermost
-- open call. A call that is open at the `end` line ends at that line's time.
abbrev pub end_of : (inner : ℕ) → List Stamped → ℕ
end_of inner [] = 0
end_of inner (e ∷ es) = end_by e.event inner e.time (λ n. end_of n es)

-- ---- Ours: the name of a call

-- what a registration is for, where this event tells it; else as told before
abbrev pub kind_by : (registration : ℕ) → Event → Option RegKind → Option RegKind
kind_by registration (Reg r kind by) before = if r == registration then Some kind else before
kind_by registration event before = before

-- what each registration is for is known as before, but for what an event tells
abbrev pub NotesKind : Event → (old new : (registration : ℕ) → Option RegKind) → Type 0
NotesKind event old new = (r : ℕ) → new r ≡ kind_by r event (old r)

-- what a registration is for, by its last `reg` line among these events, of which the last one comes first
abbrev pub kind_told : (registration : ℕ) → List Stamped → Option RegKind
kind_told registration [] = None
kind_told registration (e ∷ before) = kind_by registration e.event (kind_told registration before)

-- the word of a kind, where it is told
abbrev pub word_of : Option RegKind → List ℕ
word_of None = codes "unknown"
word_of (Some kind) = kind_text kind

-- the script is registration 1; any other call is named by its registration's kind
abbrev pub call_word_of : (registration : ℕ) → Option RegKind → List ℕ
call_word_of registration kind = if registration == 1 then codes "script" else word_of kind

-- with the number of the registration
abbrev pub name_of : (registration : ℕ) → Option RegKind → List ℕ
name_of registration kind = call_word_of registration kind ++ 32 ∷ decimal_of registration

-- ---- Ours: the calls of a trace

-- a call: its registration and its name, when it begins and when it ends
pub record CallOf : Type 0 where
  pub registration : ℕ
  pub name : List ℕ
  pub begin : ℕ
  pub end : ℕ

-- the registration that is called
abbrev pub called : Event → Option ℕ
called (Call r) = Some r
called event = None

-- the call of a registration, if one is called, and then further calls
abbrev pub with_call : (before : List Stamped) → (time : ℕ) → Option ℕ → (after : List Stamped) → List CallOf → List CallOf
with_call before time None after more = more
with_call before time (Some r) after more =
    record { registration = r; name = name_of r (kind_told r before); begin = time; end = end_of 0 after } ∷ more

-- The calls among some events, in the order of their `call` lines; `before` are the events before these, the last one first.
abbrev pub calls_behind : (before : List Stamped) → List Stamped → List CallOf
calls_behind before [] = []
calls_behind before (e ∷ after) = with_call before e.time (called e.event) after (calls_behind (e ∷ before) after)

-- the calls of a trace
abbrev pub calls_of : List Stamped → List CallOf
calls_of es = calls_behind [] es
