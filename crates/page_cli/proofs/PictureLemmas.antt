-- From what a trace or a script tells to what the top call answers.
use Rattle.std.proofs.Common.{◌≤◌, ℕ, List, length, Option}
use Rattle.page_types.specs.Events.{Stamped}
use Rattle.trace_text.specs.Trace.{IsTrace}
use Rattle.async_segments.specs.Script.{IsExpansion}
use Rattle.page_cli.specs.declared.names.Picture.{Picture}
use Rattle.page_cli.specs.declared.answer.Answer.{Answer}
use Rattle.page_cli.specs.declared.answer.Answer.TheVariants.{Written, WriteFault, OutOfMemory}
use Rattle.page_cli.specs.Texts.{WritesText}
use Rattle.page_cli.specs.Pictures.{IsPicture, IsToldOf, AnswersEvents, AnswersTrace, most_of}
use Rattle.page_cli.specs.Expanding.{AnswersExpand}

-- a text that is told of the events of a trace is written
pub events-told : (answer : Answer) (what : Picture) (es : List Stamped) (text : List ℕ) (old new : Option (List ℕ)) → IsPicture what es text → WritesText answer text old new → AnswersEvents answer what es old new
events-told Written what es text old new is h = (text, is, h)
events-told WriteFault what es text old new is h = (text, is, h)
events-told answer what es text old new is h = absurd h

told_of : (what : Picture) (form : ℕ) (bytes : List ℕ) (es : List Stamped) (text : List ℕ) → length bytes ≤ most_of what → IsTrace form bytes es → IsPicture what es text → IsToldOf what bytes text
told_of what form bytes es text fits is picture = record { form = form; events = es; fits = fits; is_trace = is; is_picture = picture }

-- what an answer says of the events of a trace, it says of the trace
pub trace-answers : (answer : Answer) (what : Picture) (form : ℕ) (bytes : List ℕ) (es : List Stamped) (old new : Option (List ℕ)) → length bytes ≤ most_of what → IsTrace form bytes es
    → AnswersEvents answer what es old new → AnswersTrace answer what bytes old new
trace-answers Written what form bytes es old new fits is h = record { text = h.0; is_told = told_of what form bytes es h.0 fits is h.1; wrote = h.2 }
trace-answers WriteFault what form bytes es old new fits is h = record { text = h.0; is_told = told_of what form bytes es h.0 fits is h.1; start = h.2 }
trace-answers OutOfMemory what form bytes es old new fits is h = h
trace-answers answer what form bytes es old new fits is h = absurd h

-- the expansion of a script is written
pub expansion-told : (answer : Answer) (script text : List ℕ) (old new : Option (List ℕ)) → length script ≤ 1048576 → IsExpansion script text → WritesText answer text old new → AnswersExpand answer script old new
expansion-told Written script text old new fits is h = record { text = text; fits = fits; is_expanded = is; wrote = h }
expansion-told WriteFault script text old new fits is h = record { text = text; fits = fits; is_expanded = is; start = h }
expansion-told answer script text old new fits is h = absurd h
