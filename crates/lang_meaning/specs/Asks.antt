-- A script up to its host's n-th ask: with the asks before it the host does what its rules say, and there the script stops.
use Rattle.std.specs.Prelude.{◌≡◌, ℕ, zero, suc, List, Option, Some, None}
use Rattle.page_types.specs.Values.{Value}
use Rattle.page_types.specs.Tree.{Program}
use Rattle.lang_meaning.specs.Machine.{Machine, Done, Gives, Throws, Returns, OutOfFuel, Operations, hosted}
use Rattle.lang_meaning.specs.HostSteps.{HostRules, Ask, on_ask, Asking, with_host, operations_by, host_operations}
use Rattle.lang_meaning.specs.Evaluation.{calls}

-- ---- Ours: what a call that is stopped has asked of its host

-- a host that is asked so many times more, or any number of times where none is written; and the ask at which it is left
pub record Limited (H : Type 0) : Type 0 where
  pub asks : Option ℕ
  pub stop : Option Ask
  pub host : H

abbrev pub limited_host : {H : Type 0} → Option ℕ → H → Limited H
limited_host asks h = record { asks = asks; stop = None; host = h }

-- the machine around this host, which is asked so many times more
abbrev pub limited : {H : Type 0} → Option ℕ → Machine H → Machine (Limited H)
limited asks m = hosted (limited_host asks) m

-- the host is left as it was before this ask
abbrev pub stopped_at : {H : Type 0} → Ask → H → Limited H
stopped_at ask h = record { asks = Some 0; stop = Some ask; host = h }

-- the host is asked, where it is asked once more; else the script stops
abbrev pub ask_once_more : {H : Type 0} → Option ℕ → HostRules H → Asking (Limited H)
ask_once_more (Some zero) rules ask m next = OutOfFuel (with_host (stopped_at ask m.host.host) m)
ask_once_more (Some (suc n)) rules ask m next =
    let s = on_ask rules ask m.host.host in next s.step (with_host (limited_host (Some n) s.host) m)
ask_once_more None rules ask m next = let s = on_ask rules ask m.host.host in next s.step (with_host (limited_host None s.host) m)

abbrev pub ask_limited : {H : Type 0} → HostRules H → Asking (Limited H)
ask_limited rules ask m next = ask_once_more m.host.asks rules ask m next

-- what operations do with such a host
abbrev pub limited_operations : {H : Type 0} → HostRules H → Operations (Limited H)
limited_operations rules = operations_by (ask_limited rules)

-- In what f does from the state m on, the host's ask number n, counted from 0, is this one, and it finds the host so.
pub record Reaches {H : Type 0} (f : Machine (Limited H) → Done (Limited H)) (m : Machine H) (n : ℕ) (ask : Ask) (before : H) : Type 0 where
  pub state : Machine (Limited H)
  pub stops : f (limited (Some n) m) ≡ OutOfFuel state
  pub host : state.host ≡ stopped_at ask before

-- The host is as after some of the asks in what f does from the state m on: none, or those up to one of them.
pub data IsPassed {H : Type 0} (rules : HostRules H) (f : Machine (Limited H) → Done (Limited H)) (m : Machine H) (host : H) : Type 0 where
  unasked : host ≡ m.host → IsPassed rules f m host
  after_ask : (n : ℕ) (ask : Ask) (before : H) → Reaches f m n ask before → host ≡ (on_ask rules ask before).host → IsPassed rules f m host

-- The host is as a refused ask may leave it, which is one of those in what f does from the state m on.
pub record IsRefused {H : Type 0} (leaves : Ask → H → H → Type 0)
    (f : Machine (Limited H) → Done (Limited H)) (m : Machine H) (host : H) : Type 0 where
  pub n : ℕ
  pub ask : Ask
  pub before : H
  pub reached : Reaches f m n ask before
  pub left : leaves ask before host

-- the host after what f does
abbrev pub host_after : {H : Type 0} → Done H → H
host_after (Gives v m) = m.host
host_after (Throws v m) = m.host
host_after (Returns v m) = m.host
host_after (OutOfFuel m) = m.host

-- an order of what hosts tell, in which a host comes before what any ask makes of it
pub record IsKept {H : Type 0} (rules : HostRules H) (order : H → H → Type 0) : Type 0 where
  pub same : (a : H) → order a a
  pub both : (a b c : H) → order a b → order b c → order a c
  pub asked : (ask : Ask) (h : H) → order h (on_ask rules ask h).host

-- what a refused ask leaves comes before what the ask makes of the host
abbrev pub IsWithin : {H : Type 0} → HostRules H → (Ask → H → H → Type 0) → (H → H → Type 0) → Type 0
IsWithin {H} rules leaves order = (ask : Ask) (before after : H) → leaves ask before after → order after (on_ask rules ask before).host

-- what f does around a limited host from any state on leaves a host that comes before what g does around the host itself
abbrev pub ComesBefore : {H : Type 0} → (H → H → Type 0) → ((Machine (Limited H) → Done (Limited H)) → Machine H → H → Type 0)
    → (Machine (Limited H) → Done (Limited H)) → (Machine H → Done H) → Type 0
ComesBefore {H} order leaves f g = (m : Machine H) (told : H) → leaves f m told → order told (host_after (g m))

-- whatever is called, what the call around a limited host leaves comes before what the whole call leaves
abbrev pub CallsGrow : {H : Type 0} → HostRules H → (order : H → H → Type 0)
    → ((Machine (Limited H) → Done (Limited H)) → Machine H → H → Type 0) → Type 0
CallsGrow rules order leaves =
    (p : Program) (n f : ℕ) (args : List Value)
    → ComesBefore order leaves (calls p (limited_operations rules) n f args) (calls p (host_operations rules) n f args)

-- the same after any of its asks
abbrev pub PassedGrow : {H : Type 0} → HostRules H → (order : H → H → Type 0) → Type 0
PassedGrow rules order = CallsGrow rules order (IsPassed rules)

-- the same after one that was refused
abbrev pub RefusedGrow : {H : Type 0} → HostRules H → (leaves : Ask → H → H → Type 0) → (order : H → H → Type 0) → Type 0
RefusedGrow rules leaves order = CallsGrow rules order (IsRefused leaves)
