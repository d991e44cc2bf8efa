-- The program's host closures.
use Rattle.std.specs.Prelude.{ℕ, ◌%◌, ◌==◌, if◌then◌else◌, List, map, pos, negsuc}
use Rattle.std.specs.List.{range_with_len}
use Rattle.page_types.specs.declared.HostKind.TheVariants.{Square, Double, Negate, Fail}
use Rattle.page_types.specs.declared.HostMark.TheVariants.{Live}
use Rattle.page_parts.specs.HostClosures.{HostClosure}

-- closure number k: its kind by k modulo 4, and the numbers whose answer of this kind is one of 64 bits
abbrev pub closure_numbered : (k : ℕ) → HostClosure
closure_numbered k =
    if k % 4 == 0 then record { kind = Square; low = negsuc 3037000498; high = pos 3037000499; mark = Live }
    else if k % 4 == 1 then record { kind = Double; low = negsuc 4611686018427387902; high = pos 4611686018427387903; mark = Live }
    else if k % 4 == 2 then record { kind = Negate; low = negsuc 9223372036854775806; high = pos 9223372036854775807; mark = Live }
    else record { kind = Fail; low = negsuc 9223372036854775807; high = pos 9223372036854775807; mark = Live }

-- the program's closures: numbers 0 to 63
abbrev pub host_closures : List HostClosure
host_closures = map closure_numbered (range_with_len 0 64)
