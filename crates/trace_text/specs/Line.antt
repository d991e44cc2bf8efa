-- A line of a trace: its head, in a form, or an event. And its text.
use Rattle.std.specs.Prelude.{ℕ, Bool, if◌then◌else◌, List, [], ◌∷◌, ◌++◌, codes}
use Rattle.page_types.specs.Events.{Stamped}
use Rattle.page_parts.specs.TraceText.{head_text, line_text}

pub data Line : Type 0 where
  Head : ℕ → Line
  Of : Stamped → Line

abbrev pub text_of_line : Line → List ℕ
text_of_line (Head form) = head_text form
text_of_line (Of e) = line_text e

abbrev pub text_of_lines : List Line → List ℕ
text_of_lines [] = []
text_of_lines (line ∷ lines) = text_of_line line ++ text_of_lines lines

-- the word for whether a scheduler task is a continuation, behind a space
abbrev pub form_text : (continuation : Bool) → List ℕ
form_text continuation = if continuation then codes " cont" else codes " task"
