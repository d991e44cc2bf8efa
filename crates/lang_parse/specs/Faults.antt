-- The parser's errors as callers see them.
use Rattle.std.specs.Prelude.{◌≡◌, ⊤}
use Rattle.lang_tokens.specs.Tokens.{TokenList}
use Rattle.lang_place.specs.Place.{IsPlace}
use Rattle.lang_parse.specs.declared.fault.ParseFault.{ParseFault}
use Rattle.lang_parse.specs.declared.fault.ParseFault.TheVariants as parse
use Rattle.lang_parse.specs.declared.fault.TreeFault.{TreeFault}
use Rattle.lang_parse.specs.declared.fault.TreeFault.TheVariants as fault
use Rattle.lang_parse.specs.declared.error.ParseError.{ParseError}
use Rattle.lang_parse.specs.declared.error.ParseError.TheVariants as error

abbrev pub IsNoTree : TreeFault → Type 0
IsNoTree (fault.Is none) = ⊤
IsNoTree fault.OutOfMemory = ⊥

-- a fault of each kind comes from the error of its kind
abbrev pub IsFaultOf : ParseError → TreeFault → Type 0
IsFaultOf (error.NoParse left) f = IsNoTree f
IsFaultOf error.OutOfMemory f = f ≡ fault.OutOfMemory

abbrev pub IsNoParse : ParseFault → Type 0
IsNoParse (parse.Is fault) = ⊤
IsNoParse parse.OutOfMemory = ⊥

-- a fault tells the place of the error
abbrev pub IsPlaced : TokenList → ParseFault → Type 0
IsPlaced tokens (parse.Is fault) = IsPlace tokens.items tokens.length fault.at
IsPlaced tokens parse.OutOfMemory = ⊤
