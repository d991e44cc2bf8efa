-- What is told of a closure.
use Rattle.std.specs.Prelude.{ℤ, Result}
use Rattle.page_types.specs.declared.HostMark.TheVariants.{Live}
use Rattle.page_parts.specs.HostClosures.{HostClosure}
use Rattle.host_jobs.specs.declared.closure.Closure.{Closure}
use Rattle.host_jobs.specs.declared.once.HostOnce.{HostOnce}
use denote.Param.Members.{Mut}

-- a closure as it is told
abbrev pub told : Closure → HostClosure
told c = record { kind = c.kind; low = c.low; high = c.high; mark = c.mark }

-- a closure that is handed in, whatever Rust closure it holds: it is live
abbrev pub told_once : {X : Type 0} {F : X → Type 0} {calls : Mut ((x : X) × F x) (ℤ × Unit {0}) (Result ℤ ℤ)} → HostOnce X F calls
    → HostClosure
told_once once = record { kind = once.kind; low = once.low; high = once.high; mark = Live }
