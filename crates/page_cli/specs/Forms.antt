-- The forms of words.
use Rattle.std.specs.Prelude.{⊤, ℕ, List, [], ◌∷◌, map, Option, Some, None, String, codes, option_map, string_bytes, if◌then◌else◌}
use Rattle.std.specs.declared.alloc.Global.{Global}
use Rattle.std.specs.Str.{bytes_eq}
use Rattle.arrivals_text.specs.Fields.{number_in}
use Rattle.page_cli.specs.declared.names.Picture.{Picture}
use Rattle.page_cli.specs.declared.names.Picture.TheVariants.{Export, Blame, Counts}
use Rattle.page_cli.specs.declared.answer.WhichFile.{WhichFile}
use Rattle.page_cli.specs.declared.answer.WhichFile.TheVariants.{Script, Arrivals, Trace}

-- the names of the script and of the arrivals in `run S A`
pub record RunNames : Type 0 where
  pub script : List ℕ
  pub arrivals : List ℕ

-- the names of the script, of the arrivals and of the trace in `check S A T` and in `migrate S A T`
pub record CheckNames : Type 0 where
  pub script : List ℕ
  pub arrivals : List ℕ
  pub trace : List ℕ

-- `run S A`; `check S A T` and `migrate S A T`; `storm N`, with the number; `export T`, `blame T` and `stat T`, with the name of the trace;
-- `expand S`, with the name of the script
pub data Form : Type 0 where
  RunForm : RunNames → Form
  CheckForm : CheckNames → Form
  MigrateForm : CheckNames → Form
  StormForm : ℕ → Form
  PictureForm : Picture → List ℕ → Form
  ExpandForm : List ℕ → Form

-- the words ask for a run, of a script or of a storm
abbrev pub IsRunForm : Option Form → Type 0
IsRunForm None = ⊥
IsRunForm (Some (RunForm names)) = ⊤
IsRunForm (Some (CheckForm names)) = ⊥
IsRunForm (Some (MigrateForm names)) = ⊥
IsRunForm (Some (StormForm n)) = ⊤
IsRunForm (Some (PictureForm what trace)) = ⊥
IsRunForm (Some (ExpandForm script)) = ⊥

-- the words ask for something else that is written: whether a trace is legal, its second form, what is told of one, or a plain script
abbrev pub IsTextForm : Option Form → Type 0
IsTextForm None = ⊥
IsTextForm (Some (RunForm names)) = ⊥
IsTextForm (Some (CheckForm names)) = ⊤
IsTextForm (Some (MigrateForm names)) = ⊤
IsTextForm (Some (StormForm n)) = ⊥
IsTextForm (Some (PictureForm what trace)) = ⊤
IsTextForm (Some (ExpandForm script)) = ⊤

-- what a command tells of a trace
abbrev pub picture_of : List ℕ → Option Picture
picture_of command =
    if bytes_eq command (codes "export") then Some Export
    else if bytes_eq command (codes "blame") then Some Blame
    else if bytes_eq command (codes "stat") then Some Counts
    else None

-- the number of a storm: a canonical decimal from 1 to 100,000
abbrev pub storm_number : List ℕ → Option ℕ
storm_number word = number_in 1 100000 word

-- the form of a command and one word, which names a file, or is the number of a storm
abbrev pub word_form : (command word : List ℕ) → Option Form
word_form command word =
    if bytes_eq command (codes "expand") then Some (ExpandForm word)
    else if bytes_eq command (codes "storm") then option_map StormForm (storm_number word)
    else option_map (λ what. PictureForm what word) (picture_of command)

-- the form of a command and three files
abbrev pub three_form : (command : List ℕ) → CheckNames → Option Form
three_form command names =
    if bytes_eq command (codes "check") then Some (CheckForm names)
    else if bytes_eq command (codes "migrate") then Some (MigrateForm names)
    else None

-- The form of the words behind the program's name, where they have one.
abbrev pub form_of : List (List ℕ) → Option Form
form_of [] = None
form_of (command ∷ []) = None
form_of (command ∷ word ∷ []) = word_form command word
form_of (command ∷ script ∷ arrivals ∷ []) =
    if bytes_eq command (codes "run") then Some (RunForm (record { script = script; arrivals = arrivals })) else None
form_of (command ∷ script ∷ arrivals ∷ trace ∷ []) =
    three_form command (record { script = script; arrivals = arrivals; trace = trace })
form_of (command ∷ script ∷ arrivals ∷ trace ∷ more ∷ words) = None

-- the form of the words as they are handed over
abbrev pub form_in : List (String Global) → Option Form
form_in words = form_of (map string_bytes words)

-- the name that a form gives to a file, and nothing where it has no such file
abbrev pub name_of : WhichFile → Form → List ℕ
name_of Script (RunForm names) = names.script
name_of Arrivals (RunForm names) = names.arrivals
name_of Script (CheckForm names) = names.script
name_of Arrivals (CheckForm names) = names.arrivals
name_of Trace (CheckForm names) = names.trace
name_of Script (MigrateForm names) = names.script
name_of Arrivals (MigrateForm names) = names.arrivals
name_of Trace (MigrateForm names) = names.trace
name_of Trace (PictureForm what trace) = trace
name_of Script (ExpandForm script) = script
name_of file form = []
