-- The terminal of each token.
use Rattle.std.specs.Prelude.{ℕ, List, [], ◌∷◌, map, if◌then◌else◌, codes}
use Rattle.page_parts.specs.Words.{same_bytes}
use Rattle.lang_tokens.specs.Seen.{TokenSeen}
use Rattle.lang_tokens.specs.declared.token.TokenKind.{TokenKind}
use Rattle.lang_tokens.specs.declared.token.TokenKind.TheVariants as kind
use Rattle.lang_place.specs.declared.terminal.Terminal.{Terminal}
use Rattle.lang_place.specs.declared.terminal.Terminal.TheVariants.{Name, Value, Fn, Var, If, Else, While, Return, Throw, Try, Catch, OpenRound, CloseRound, OpenSquare, CloseSquare, OpenBrace, CloseBrace, Comma, Semicolon, Assign, Compare, Plus, Minus, Times, Not, And, Or, Other}

abbrev pub other_word : List ℕ → Terminal
other_word bs =
    if same_bytes bs (codes "throw") then Throw
    else if same_bytes bs (codes "try") then Try
    else if same_bytes bs (codes "catch") then Catch
    else if same_bytes bs (codes "true") then Value
    else if same_bytes bs (codes "false") then Value
    else if same_bytes bs (codes "unit") then Value else Other

-- of a word
abbrev pub word_terminal : List ℕ → Terminal
word_terminal bs =
    if same_bytes bs (codes "fn") then Fn
    else if same_bytes bs (codes "var") then Var
    else if same_bytes bs (codes "if") then If
    else if same_bytes bs (codes "else") then Else
    else if same_bytes bs (codes "while") then While
    else if same_bytes bs (codes "return") then Return else other_word bs

abbrev pub long_sign : List ℕ → Terminal
long_sign bs =
    if same_bytes bs (codes "==") then Compare
    else if same_bytes bs (codes "!=") then Compare
    else if same_bytes bs (codes "<=") then Compare
    else if same_bytes bs (codes ">=") then Compare
    else if same_bytes bs (codes "&&") then And
    else if same_bytes bs (codes "||") then Or else Other

abbrev pub other_sign : List ℕ → Terminal
other_sign bs =
    if same_bytes bs (codes "/") then Times
    else if same_bytes bs (codes "%") then Times
    else if same_bytes bs (codes "!") then Not
    else if same_bytes bs (codes "<") then Compare
    else if same_bytes bs (codes ">") then Compare else long_sign bs

abbrev pub lone_sign : List ℕ → Terminal
lone_sign bs =
    if same_bytes bs (codes ",") then Comma
    else if same_bytes bs (codes ";") then Semicolon
    else if same_bytes bs (codes "=") then Assign
    else if same_bytes bs (codes "+") then Plus
    else if same_bytes bs (codes "-") then Minus
    else if same_bytes bs (codes "*") then Times else other_sign bs

-- of a sign
abbrev pub sign_terminal : List ℕ → Terminal
sign_terminal bs =
    if same_bytes bs (codes "(") then OpenRound
    else if same_bytes bs (codes ")") then CloseRound
    else if same_bytes bs (codes "[") then OpenSquare
    else if same_bytes bs (codes "]") then CloseSquare
    else if same_bytes bs (codes "{") then OpenBrace
    else if same_bytes bs (codes "}") then CloseBrace else lone_sign bs

abbrev pub terminal_by : TokenKind → List ℕ → Terminal
terminal_by kind.Name bs = Name
terminal_by kind.Word bs = word_terminal bs
terminal_by (kind.Number n) bs = Value
terminal_by kind.Text bs = Value
terminal_by kind.Sign bs = sign_terminal bs

abbrev pub terminal_of : TokenSeen → Terminal
terminal_of t = terminal_by t.kind t.content

abbrev pub terminals_of : List TokenSeen → List Terminal
terminals_of ts = map terminal_of ts
