-- What begins a script, by the cases of the grammar.
use Rattle.std.specs.Prelude.{List, [], ◌∷◌}
use Rattle.lang_place.specs.declared.terminal.Terminal.{Terminal}
use Rattle.lang_place.specs.Forms.{Part, Form, one, row, either, perhaps, many, part, rule}

-- The terminals begin these forms, one behind another: each form but the last that is reached is spelled whole, and what
-- is left begins that one. A form is begun by nothing and, by the cases of the grammar, by what begins its parts.
pub data Begun : List Form → List Terminal → Type 0 where
  nothing : (fs : List Form) → Begun fs []
  taken : (t : Terminal) (fs : List Form) (ts : List Terminal) → Begun fs ts → Begun (one t ∷ fs) (t ∷ ts)
  in_row : (a b : Form) (fs : List Form) (ts : List Terminal) → Begun (a ∷ b ∷ fs) ts → Begun (row a b ∷ fs) ts
  first : (a b : Form) (fs : List Form) (ts : List Terminal) → Begun (a ∷ fs) ts → Begun (either a b ∷ fs) ts
  second : (a b : Form) (fs : List Form) (ts : List Terminal) → Begun (b ∷ fs) ts → Begun (either a b ∷ fs) ts
  absent : (a : Form) (fs : List Form) (ts : List Terminal) → Begun fs ts → Begun (perhaps a ∷ fs) ts
  present : (a : Form) (fs : List Form) (ts : List Terminal) → Begun (a ∷ fs) ts → Begun (perhaps a ∷ fs) ts
  no_more : (a : Form) (fs : List Form) (ts : List Terminal) → Begun fs ts → Begun (many a ∷ fs) ts
  one_more : (a : Form) (fs : List Form) (ts : List Terminal) → Begun (a ∷ many a ∷ fs) ts → Begun (many a ∷ fs) ts
  by_rule : (p : Part) (fs : List Form) (ts : List Terminal) → Begun (rule p ∷ fs) ts → Begun (part p ∷ fs) ts
