-- What a page keeps where a host closure is asked, fired or dropped, and what it tells of its host port before its first turn. Ours
use Rattle.std.specs.Prelude.{◌≡◌, ℕ, ℤ, List, Option, Result, slice_get}
use Rattle.page_parts.specs.HostClosures.{HostClosure}
use Rattle.host_jobs.specs.Closures.{fired_at}
use Rattle.page_model.specs.Tasks.{fire_closure}
use Rattle.page_state.specs.Standing.{Standing, PortNow}
use Rattle.page_state.specs.PageActs.{changed_by}

-- a host port that tells this
abbrev pub telling : (closures : List HostClosure) → (kept : Option (List (Result ℤ ℤ))) → (refusals : ℕ) → PortNow
telling closures kept refusals = record { closures = closures; kept = kept; refusals = refusals }

-- the page's host closures are changed, and not those at its port
abbrev pub hosts_by : (List HostClosure → List HostClosure) → Standing → Standing
hosts_by f s = record s { hosts = f s.hosts }

-- a closure is fired, in the page and at its port; of the rest only what the port tells of its answers may have changed
abbrev pub IsFired : (closure : ℕ) → (old new : Standing) → Type 0
IsFired k old new =
    new
    ≡ record (changed_by (λ p. fire_closure k (slice_get p.hosts k) p) old) {
      at_port = fired_at old.at_port k;
      kept = new.kept;
      refusals = new.refusals;
    }
