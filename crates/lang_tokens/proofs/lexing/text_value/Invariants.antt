use Rattle.std.proofs.Common.{◌≡◌, ◌++◌, drop}
use Rattle.lang_tokens.specs.Tokens.{value_of}
use Rattle.lang_tokens.proofs.Texts.{rest_value}
use Rattle.lang_tokens.proofs.lexing.text_value.Given as goal

abbrev pub invariant-loop-byte : goal.invariant-loop-byte
invariant-loop-byte l = l.value.items ++ rest_value l.after_backslash (drop l.byte-index l.bytes) ≡ value_of l.bytes
