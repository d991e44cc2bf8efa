use Rattle.std.proofs.Common.{◌≡◌, ◌++◌, drop}
use Rattle.page_host.proofs.making.copied_names.Given as goal

-- those so far, and then those that are left, are all
abbrev pub invariant-loop-name : goal.invariant-loop-name
invariant-loop-name l = l.copies.items ++ drop l.name-index l.names ≡ l.names
