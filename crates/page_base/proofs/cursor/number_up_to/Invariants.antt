use Rattle.std.proofs.Common.{◌≡◌, ◌+◌, ◌*◌, ◌^◌, true, length}
use Rattle.std.specs.List.{list_all}
use Rattle.page_base.specs.Decimals.{is_digit, number_of}
use Rattle.page_base.proofs.cursor.number_up_to.Given as goal

abbrev pub invariant-loop-digit : goal.invariant-loop-digit
invariant-loop-digit l =
    (number_of l.digits ≡ l.number * 10 ^ length l.rest + number_of l.rest) × (list_all is_digit l.rest ≡ true)

abbrev pub decreases-loop-digit : goal.decreases-loop-digit
decreases-loop-digit l = length l.rest
