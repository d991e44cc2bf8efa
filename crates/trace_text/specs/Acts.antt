-- Acts: what a piece of a run makes of a state, and the lines that it gives. And what a call does of an act.
use Rattle.std.specs.Prelude.{◌≡◌, List, [], ◌∷◌, ◌++◌, Option, None}
use Rattle.trace_text.specs.Line.{Line}
use Rattle.trace_text.specs.declared.lines.NoLine.{NoLine}
use Rattle.trace_text.specs.Given.{Keeping, Seen, Gives}

pub record Piece (S : Type 0) : Type 0 where
  pub state : S
  pub lines : List Line

abbrev pub Act : Type 0 → Type 0
Act S = S → Piece S

-- no change, and no line
abbrev pub skip : {S : Type 0} → Act S
skip s = record { state = s; lines = [] }

-- one line
abbrev pub give : {S : Type 0} → (S → Line) → Act S
give line s = record { state = s; lines = line s ∷ [] }

-- a change, and no line
abbrev pub change : {S : Type 0} → (S → S) → Act S
change f s = record { state = f s; lines = [] }

-- one act and then another
unfoldable pub seq : {S : Type 0} → (a b : Act S) → Act S
seq a b s = record { state = (b (a s).state).state; lines = (a s).lines ++ (b (a s).state).lines }

-- the act that the state asks for
abbrev pub by : {S : Type 0} → (S → Act S) → Act S
by choose s = choose s s

-- A state, and what is seen of the lines.
pub record At (S T : Type 0) : Type 0 where
  pub state : S
  pub seen : Seen T

-- The call does the act, all of it where there is no fault of the lines; else it stopped among the act's lines.
pub record Does {S T : Type 0} (k : Keeping T) (old : At S T) (act : Act S) (why : Option NoLine) (new : At S T) : Type 0 where
  pub lines : Gives k old.seen (act old.state).lines why new.seen
  pub state : why ≡ None → new.state ≡ (act old.state).state

-- an act on a part of a state
abbrev pub lift : {R S : Type 0} → (R → S) → (S → R → R) → Act S → Act R
lift get set act r = record { state = set (act (get r)).state r; lines = (act (get r)).lines }
