-- What is told of a trace, and what an answer says of it.
use Rattle.std.specs.Prelude.{◌≡◌, ◌<◌, ◌≤◌, ℕ, length, List, Option}
use Rattle.page_types.specs.Events.{Stamped}
use Rattle.page_types.specs.Told.{appended, AppendsStartOf}
use Rattle.trace_text.specs.Trace.{IsTrace, IsBadLine}
use Rattle.trace_text.specs.Summaries.{counts_of}
use Rattle.trace_export.specs.Export.{Span, spans_of, IsExport}
use Rattle.trace_blame.specs.Blame.{blame_text}
use Rattle.page_cli.specs.declared.names.Picture.{Picture}
use Rattle.page_cli.specs.declared.names.Picture.TheVariants.{Export, Blame, Counts}
use Rattle.page_cli.specs.declared.answer.WhichFile.TheVariants.{Trace}
use Rattle.page_cli.specs.declared.answer.Answer.{Answer}
use Rattle.page_cli.specs.declared.answer.Answer.TheVariants.{Written, BadTrace, TooLong, ReadFault, WriteFault, OutOfMemory}
use Rattle.page_cli.specs.Counted.{counts_text}
use Rattle.page_cli.specs.ToldFiles.{OfFile}

-- the greatest number of bytes of a trace of which this is told
abbrev pub most_of : Picture → ℕ
most_of Export = 4194304
most_of Blame = 4194304
most_of Counts = 67108864

-- The text is the export of the calls of these events, and of no other calls, so that these are read again.
pub record IsExported (es : List Stamped) (text : List ℕ) : Type 0 where
  pub export : IsExport text (spans_of es)
  pub one_reading : (spans : List Span) → IsExport text spans → spans ≡ spans_of es

-- the text that is told of the events of a trace
abbrev pub IsPicture : Picture → List Stamped → List ℕ → Type 0
IsPicture Export es text = IsExported es text
IsPicture Blame es text = text ≡ blame_text es
IsPicture Counts es text = text ≡ counts_text (counts_of es)

-- The bytes are the trace of these events, and this text is told of them.
pub record IsToldOf (what : Picture) (bytes : List ℕ) (text : List ℕ) : Type 0 where
  pub form : ℕ
  pub events : List Stamped
  pub fits : length bytes ≤ most_of what
  pub is_trace : IsTrace form bytes events
  pub is_picture : IsPicture what events text

-- the text of a trace was written, the whole of it and no more
pub record WrotePicture (what : Picture) (bytes : List ℕ) (old new : Option (List ℕ)) : Type 0 where
  pub text : List ℕ
  pub is_told : IsToldOf what bytes text
  pub wrote : new ≡ appended old text

-- a start of it was written
pub record WrotePictureStart (what : Picture) (bytes : List ℕ) (old new : Option (List ℕ)) : Type 0 where
  pub text : List ℕ
  pub is_told : IsToldOf what bytes text
  pub start : AppendsStartOf old new text

-- what an answer says of a trace
abbrev pub AnswersTrace : Answer → Picture → List ℕ → (old new : Option (List ℕ)) → Type 0
AnswersTrace Written what bytes old new = WrotePicture what bytes old new
AnswersTrace (BadTrace line) what bytes old new = (length bytes ≤ most_of what) × IsBadLine bytes line × (new ≡ old)
AnswersTrace (TooLong Trace) what bytes old new = (most_of what < length bytes) × (new ≡ old)
AnswersTrace (ReadFault Trace) what bytes old new = new ≡ old
AnswersTrace WriteFault what bytes old new = WrotePictureStart what bytes old new
AnswersTrace OutOfMemory what bytes old new = new ≡ old
AnswersTrace answer what bytes old new = ⊥

-- the same of a trace as the folder tells it, where it tells that one
abbrev pub AnswersPicture : Answer → Picture → (told : Option (List ℕ)) → (old new : Option (List ℕ)) → Type 0
AnswersPicture answer what told old new = OfFile told (λ bytes. AnswersTrace answer what bytes old new)

-- what an answer to the events of a trace says
abbrev pub AnswersEvents : Answer → Picture → List Stamped → (old new : Option (List ℕ)) → Type 0
AnswersEvents Written what es old new = (text : List ℕ) × IsPicture what es text × (new ≡ appended old text)
AnswersEvents WriteFault what es old new = (text : List ℕ) × IsPicture what es text × AppendsStartOf old new text
AnswersEvents OutOfMemory what es old new = new ≡ old
AnswersEvents answer what es old new = ⊥
