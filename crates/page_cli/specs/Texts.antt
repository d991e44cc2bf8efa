-- Texts that are written with one put.
use Rattle.std.specs.Prelude.{◌≡◌, ℕ, List, Option}
use Rattle.page_types.specs.Told.{appended, AppendsStartOf}
use Rattle.page_cli.specs.declared.answer.Answer.{Answer}
use Rattle.page_cli.specs.declared.answer.Answer.TheVariants.{Written, WriteFault}

-- a text was written, the whole of it and no more, or, with a fault, a start of it
abbrev pub WritesText : Answer → (text : List ℕ) → (old new : Option (List ℕ)) → Type 0
WritesText Written text old new = new ≡ appended old text
WritesText WriteFault text old new = AppendsStartOf old new text
WritesText answer text old new = ⊥
