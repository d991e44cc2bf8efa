use Rattle.std.proofs.Common.{◌≡◌, ◌++◌, drop, map}
use Rattle.page_interp.specs.CodeNames.{is_own}
use Rattle.page_interp.proofs.gathering.own_names.Given as goal

abbrev pub invariant-loop-name : goal.invariant-loop-name
invariant-loop-name l = l.own.items ++ map (is_own l.globals) (drop l.name-index l.names) ≡ map (is_own l.globals) l.names
