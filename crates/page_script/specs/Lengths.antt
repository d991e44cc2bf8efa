-- How many promises were made.
use Rattle.std.specs.Prelude.{◌≡◌, ◌+◌, ℕ, length}
use Rattle.page_model.specs.State.{Page}
use Rattle.page_script.specs.Script.{Script}
use Rattle.page_script.specs.ScriptActs.{changed_by}

abbrev pub made_in : Script → ℕ
made_in s = length s.notices.promises

-- f makes no promise
abbrev pub Leaves : (Page → Page) → Type 0
Leaves f = (s : Script) → made_in (changed_by f s) ≡ made_in s

-- f makes one promise
abbrev pub MakesOne : (Page → Page) → Type 0
MakesOne f = (s : Script) → made_in (changed_by f s) ≡ made_in s + 1
