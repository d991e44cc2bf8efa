-- What an answer says of a script that is expanded.
use Rattle.std.specs.Prelude.{◌≡◌, ◌<◌, ℕ, length, List, Option}
use Rattle.page_types.specs.Told.{appended, AppendsStartOf}
use Rattle.async_segments.specs.Script.{IsExpansion, IsNoAsync}
use Rattle.page_cli.specs.declared.answer.WhichFile.TheVariants.{Script}
use Rattle.page_cli.specs.declared.answer.Answer.{Answer}
use Rattle.page_cli.specs.declared.answer.Answer.TheVariants.{Written, NotAsync, TooLong, ReadFault, WriteFault, OutOfMemory}
use Rattle.page_cli.specs.ToldFiles.{OfFile}
use Rattle.page_cli.specs.Answering.{Fits}

-- the plain script for this one was written, the whole of it and no more
pub record WroteExpansion (script : List ℕ) (old new : Option (List ℕ)) : Type 0 where
  pub text : List ℕ
  pub fits : Fits script
  pub is_expanded : IsExpansion script text
  pub wrote : new ≡ appended old text

-- a start of it was written
pub record WroteExpansionStart (script : List ℕ) (old new : Option (List ℕ)) : Type 0 where
  pub text : List ℕ
  pub fits : Fits script
  pub is_expanded : IsExpansion script text
  pub start : AppendsStartOf old new text

-- what an answer says of a script that is expanded
abbrev pub AnswersExpand : Answer → (script : List ℕ) → (old new : Option (List ℕ)) → Type 0
AnswersExpand Written script old new = WroteExpansion script old new
AnswersExpand NotAsync script old new = Fits script × IsNoAsync script × (new ≡ old)
AnswersExpand (TooLong Script) script old new = (1048576 < length script) × (new ≡ old)
AnswersExpand (ReadFault Script) script old new = new ≡ old
AnswersExpand WriteFault script old new = WroteExpansionStart script old new
AnswersExpand OutOfMemory script old new = new ≡ old
AnswersExpand answer script old new = ⊥

-- the same of a script as the folder tells it, where it tells that one
abbrev pub AnswersExpansion : Answer → (told : Option (List ℕ)) → (old new : Option (List ℕ)) → Type 0
AnswersExpansion answer told old new = OfFile told (λ bytes. AnswersExpand answer bytes old new)
