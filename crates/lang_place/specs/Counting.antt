-- Three conditions, counted over the tokens of a script.
use Rattle.std.specs.Prelude.{ℕ, ◌+◌, ◌-◌, ◌≤◌, ◌==◌, ⊤, if◌then◌else◌, List, [], ◌∷◌, ◌++◌, length}
use Rattle.lang_tokens.specs.Seen.{TokenSeen}
use Rattle.lang_place.specs.declared.terminal.Terminal.{Terminal}
use Rattle.lang_place.specs.declared.terminal.Terminal.TheVariants.{Name, Value, Fn, Var, If, Else, While, Return, Throw, Try, Catch, OpenRound, CloseRound, OpenSquare, CloseSquare, OpenBrace, CloseBrace, Comma, Semicolon, Assign, Compare, Plus, Minus, Times, Not, And, Or, Other}
use Rattle.lang_place.specs.declared.standing.Standing.{Standing}
use Rattle.lang_place.specs.declared.standing.Standing.TheVariants.{Outside, Naming, Catching, Head, Inside}
use Rattle.lang_place.specs.Terminals.{terminal_of}
use Rattle.lang_place.specs.NameSets.{distinct}

-- how many brackets are open behind a token
abbrev pub opened : ℕ → Terminal → ℕ
opened n OpenRound = n + 1
opened n OpenSquare = n + 1
opened n OpenBrace = n + 1
opened n CloseRound = n - 1
opened n CloseSquare = n - 1
opened n CloseBrace = n - 1
opened n t = n

-- how many functions have begun
abbrev pub begun_functions : ℕ → Terminal → ℕ
begun_functions n Fn = n + 1
begun_functions n t = n

-- Where the next token stands, behind one behind which so many brackets are open. A function's block ends where no
-- bracket is open any more. Outside functions a name is that of a global variable behind `var`, and behind `catch` and a
-- bracket.
abbrev pub standing_behind : ℕ → Standing → Terminal → Standing
standing_behind n Outside Fn = Head 0
standing_behind n Outside Var = Naming
standing_behind n Outside Catch = Catching
standing_behind n Outside t = Outside
standing_behind n Naming t = Outside
standing_behind n Catching t = Naming
standing_behind n (Head names) Name = Head (names + 1)
standing_behind n (Head names) OpenBrace = Inside
standing_behind n (Head names) t = Head names
standing_behind n Inside t = if n == 0 then Outside else Inside

-- the global name that a token with this content gives
abbrev pub global_names : Standing → List ℕ → List (List ℕ)
global_names Naming content = content ∷ []
global_names Outside content = []
global_names Catching content = []
global_names (Head names) content = []
global_names Inside content = []

-- how many names the head of a function has so far
abbrev pub head_names : Standing → ℕ
head_names (Head names) = names
head_names Outside = 0
head_names Naming = 0
head_names Catching = 0
head_names Inside = 0

-- what is counted: brackets that are open, functions, names in the head of a function, and global names
pub record Counts : Type 0 where
  pub brackets : ℕ
  pub functions : ℕ
  pub standing : Standing
  pub globals : List (List ℕ)

abbrev pub no_counts : Counts
no_counts = record { brackets = 0; functions = 0; standing = Outside; globals = [] }

abbrev pub counted : Counts → Terminal → List ℕ → Counts
counted c t content = record {
  brackets = opened c.brackets t;
  functions = begun_functions c.functions t;
  standing = standing_behind (opened c.brackets t) c.standing t;
  globals = c.globals ++ global_names c.standing content;
}

-- At most 64 brackets are open and at most 4,096 functions have begun, the head of a function has its own name and those
-- of at most 8 parameters, and there are at most 4,096 different global names.
pub record IsWithin (c : Counts) : Type 0 where
  pub brackets : c.brackets ≤ 64
  pub functions : c.functions ≤ 4096
  pub parameters : head_names c.standing ≤ 9
  pub globals : length (distinct c.globals) ≤ 4096

-- so it is at each token
abbrev pub AreWithin : Counts → List TokenSeen → Type 0
AreWithin c [] = ⊤
AreWithin c (t ∷ ts) = IsWithin (counted c (terminal_of t) t.content) × AreWithin (counted c (terminal_of t) t.content) ts
