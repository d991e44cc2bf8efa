-- Questions to host closures that wait.
use Rattle.std.proofs.Common.{◌≡◌, ℕ, ◌+◌, ℤ, refl, ap, Option, None, Some}
use Rattle.std.specs.Prelude.{slice_get, slice_set}
use Rattle.page_types.specs.Events.{Arm}
use Rattle.page_types.specs.declared.RegKind.{RegKind}
use Rattle.page_parts.specs.Kinds.{Func}
use Rattle.page_parts.specs.Words.{and_last}
use Rattle.page_parts.specs.HostClosures.{HostClosure}
use Rattle.page_model.specs.State.{Page, emit, last_registration}
use Rattle.page_model.specs.Operations.{latency_of, promised, queued_mark}
use Rattle.page_script.specs.PageActs.{OnlyAdds}
use Rattle.page_hosts.specs.Hosts.{ask_at}
use Rattle.page_state.specs.HostActs.{answer_awaited}

-- the answer of a closure is awaited for this registration, and the closure is taken
abbrev pub awaited : (closure : ℕ) → HostClosure → ℤ → (registration : ℕ) → Page → Page
awaited k c x r p =
    let due = p.now + latency_of p.latencies k in
    emit (Arm r due 0)
    (record p {
      hosts = slice_set p.hosts k (queued_mark c);
      host_answers = and_last p.host_answers (record { due = due; task = record { registration = r; closure = k; number = x } });
    })

pub awaited_last-adds : (k : ℕ) (c : HostClosure) (x : ℤ) → OnlyAdds (λ p. awaited k c x (last_registration p) p)
awaited_last-adds k c x es p = refl

-- it is the closure that has the number
pub awaited-is : (k : ℕ) (c : HostClosure) (x : ℤ) (r : ℕ) (p : Page) → slice_get p.hosts k ≡ Some c → answer_awaited k x r p ≡ awaited k c x r p
awaited-is k c x r p is =
    let due = p.now + latency_of p.latencies k in
    ap {A = Option HostClosure} (λ o. emit (Arm r due 0)
    (record p {
      hosts = ask_at k o p.hosts;
      host_answers = and_last p.host_answers (record { due = due; task = record { registration = r; closure = k; number = x } });
    })) is

-- a registration with a promise changes no closure
pub promised-hosts : (kind : RegKind) (f : Option Func) (signal : Option ℕ) (p : Page) → (promised kind f signal p).hosts ≡ p.hosts
promised-hosts kind f None p = refl
promised-hosts kind f (Some s) p = refl
