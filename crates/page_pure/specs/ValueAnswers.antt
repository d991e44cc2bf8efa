-- Answers that are values, and not faults.
use Rattle.std.specs.Prelude.{◌≡◌, ℕ, List, Some, Ok}
use Rattle.page_types.specs.Values.{Value}
use Rattle.page_types.specs.declared.Op.{Op}
use Rattle.lang_meaning.specs.Evaluation.{Answer}
use Rattle.lang_meaning.specs.PureOperations.{pure_answer}

-- ---- Ours: operations that would be answered with a value

-- the answer is a value
abbrev pub IsValue : Answer → Type 0
IsValue answer = (v : Value) × (answer ≡ Ok v)

-- this is an operation on values alone, and it answers these arguments with a value, whatever the names of functions are
abbrev pub GivesPurely : Op → List Value → Type 0
GivesPurely op args = (names : List (List ℕ)) → (v : Value) × (pure_answer names op args ≡ Some (Ok v))

-- this is an operation on values alone, and it answers these arguments with this value, whatever the names of functions are
abbrev pub AnswersPurely : Op → List Value → Value → Type 0
AnswersPurely op args v = (names : List (List ℕ)) → pure_answer names op args ≡ Some (Ok v)
