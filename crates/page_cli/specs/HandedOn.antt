-- What is answered once the sink was told that no more comes.
use Rattle.std.specs.Prelude.{◌≡◌, ◌⊎◌, ⊤, ℕ}
use Rattle.page_types.specs.Counts.{Rose}
use Rattle.page_cli.specs.declared.answer.Answer.{Answer}
use Rattle.page_cli.specs.declared.answer.Answer.TheVariants.{Ended, Written, WriteFault}

-- ---- Ours: a sink may gather what is put, and meet a fault only where it hands that on

-- the answer is an end of a run, or that a text was written
abbrev pub IsWhole : Answer → Type 0
IsWhole (Ended end) = ⊤
IsWhole Written = ⊤
IsWhole answer = ⊥

-- The answer where not all that was put was handed on: a write fault in place of an end, and in place of a text that was written.
abbrev pub answer_unless_whole : Answer → Answer
answer_unless_whole (Ended end) = WriteFault
answer_unless_whole Written = WriteFault
answer_unless_whole answer = answer

-- the answer stays; or the count of faults rose, and it is that one
abbrev pub HandsOn : (had answer : Answer) → (before now : ℕ) → Type 0
HandsOn had answer before now = (answer ≡ had) ⊎ (Rose before now × (answer ≡ answer_unless_whole had))
