-- The answers of host closures by which a run goes.
use Rattle.std.specs.Prelude.{◌≡◌, ⊤, ℤ, List, [], Option, Some, None, Result, Ok, Err}
use Rattle.loop_turn.specs.declared.run_stop.RunStop.{RunStop}
use Rattle.loop_turn.specs.declared.run_stop.RunStop.TheVariants.{WriteFault, Differs, NoReading, NoChoice, NoHost, OutOfMemory}

-- ---- Ours: answers that a host port keeps, and gives one after another

-- they are those that the port keeps, where it tells them
abbrev pub AreKept : Option (List (Result ℤ ℤ)) → List (Result ℤ ℤ) → Type 0
AreKept None answers = ⊤
AreKept (Some kept) answers = answers ≡ kept

-- they may be left after a stop: where the port refused and does not tell what it keeps, there is none
abbrev pub LeftBy : RunStop → Option (List (Result ℤ ℤ)) → List (Result ℤ ℤ) → Type 0
LeftBy WriteFault told answers = AreKept told answers
LeftBy Differs told answers = AreKept told answers
LeftBy NoReading told answers = AreKept told answers
LeftBy NoChoice told answers = AreKept told answers
LeftBy NoHost None answers = answers ≡ []
LeftBy NoHost (Some kept) answers = answers ≡ kept
LeftBy OutOfMemory told answers = AreKept told answers

-- they may be left after a call
abbrev pub AreLeft : {X : Type 0} → Result X RunStop → Option (List (Result ℤ ℤ)) → List (Result ℤ ℤ) → Type 0
AreLeft (Ok x) told answers = AreKept told answers
AreLeft (Err why) told answers = LeftBy why told answers

-- Whatever answers are left after the call, there are answers before it by which it does what it should.
abbrev pub ByAnswers : {X : Type 0} → (told : Option (List (Result ℤ ℤ))) → Result X RunStop
    → (told_then : Option (List (Result ℤ ℤ))) → (List (Result ℤ ℤ) → List (Result ℤ ℤ) → Type 0) → Type 0
ByAnswers told result told_then Does =
    (left : List (Result ℤ ℤ)) → AreLeft result told_then left
    → (first : List (Result ℤ ℤ)) × AreKept told first × Does first left
