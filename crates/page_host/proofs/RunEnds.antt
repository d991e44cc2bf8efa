-- How a call of the script machine ended, from what the machine promises, as a run of the page.
use Rattle.std.proofs.Common.{◌≡◌, ℕ, ◌≤◌, Vec, Some, None, Result, Ok, Err, unwrap_or, sym, ap, subst}
use Rattle.std.specs.declared.alloc.Global.{Global}
use Rattle.page_values.specs.declared.Value as held
use Rattle.page_values.specs.declared.Func.{Func}
use Rattle.page_interp.specs.MachineNow.{MachineNow}
use Rattle.page_interp.specs.Machines.{bound_args, ran_left, Means, Stands}
use Rattle.page_interp.specs.Runs.{IsDry}
use Rattle.page_interp.specs.declared.machine.Ran.{Ran}
use Rattle.page_interp.specs.declared.machine.Stopped.{Stopped}
use Rattle.page_interp.specs.declared.machine.Stopped.TheVariants as stopped
use Rattle.page_model.specs.FoldBounds.{IsBounded}
use Rattle.trace_text.specs.declared.lines.NoLine.{NoLine}
use Rattle.trace_text.specs.declared.lines.NoLine.TheVariants.{OutOfMemory}
use Rattle.trace_text.specs.Given.{Keeping, Seen}
use Rattle.page_state.specs.Standing.{page_of}
use Rattle.page_host.specs.Marked.{marked_rules, LeavesMarked}
use Rattle.page_host.specs.PageNow.{PageNow, IsWhole, host_now, room_of}
use Rattle.page_host.specs.Pieces.{WantsMemory}
use Rattle.page_host.specs.StateActs.{How}
use Rattle.page_host.specs.Moments.{how_of, CanCall}
use Rattle.page_host.specs.Doing.{Runs}
use Rattle.page_host.specs.declared.stop.PageStop.{PageStop}
use Rattle.page_host.proofs.CallEnds.{ran-runs, refused-left, halted-runs, wanting-left, wanting-runs, IsWanting}

module _ {L T : Type 0} (k : Keeping T) (seen : L → Seen T) (m : MachineNow) (p0 p : PageNow L) (fun : Func) (args : Vec held.Value Global)
    (at_entry : p0 ≡ p) (whole : IsWhole seen p0) (ready : CanCall m p) (since : seen p.since ≡ seen p.lines)
    (m' : MachineNow) (fuel : ℕ) (p' q : PageNow L) (at_end : p' ≡ q) (whole' : IsWhole seen p') (script : m'.script ≡ m.script) (less : fuel ≤ p0.fuel)
    (result : Result Ran (Stopped PageStop)) where
  bounded : IsBounded (page_of p.state)
  bounded = ((subst (λ (x : PageNow L). IsWhole seen x) at_entry whole).bounded ready.running).0

  fuel-is : p0.fuel ≡ p.fuel
  fuel-is = ap (λ (x : PageNow L). x.fuel) at_entry

  no_more : fuel ≤ p.fuel
  no_more = subst (λ (n : ℕ). fuel ≤ n) fuel-is less

  pub ok-runs : (r : Ran) → result ≡ Ok r → Means (marked_rules k) m p0.fuel (host_now seen p) fun args result m' fuel (host_now seen q) → IsDry (ran_left result) fuel
      → q.functions ≡ p.functions → fuel ≤ room_of q.stopped q.state.script.now
      → Runs k seen (λ call. call fun.function (bound_args fun args)) None (how_of {E = NoLine} (Ok r)) m p m' (record p' { fuel = fuel })
  ok-runs r is means dry functions room =
      let e = sym at_end in
      ran-runs k seen m p fun args ready since bounded m' fuel p' whole'.since script no_more PageStop r
      (subst (λ (n : ℕ). Means (marked_rules k) m n (host_now seen p) fun args (Ok r) m' fuel (host_now seen p')) fuel-is
      (subst (λ (x : PageNow L). Means (marked_rules k) m p0.fuel (host_now seen p) fun args (Ok r) m' fuel (host_now seen x)) e
      (subst (λ (x : Result Ran (Stopped PageStop)). Means (marked_rules k) m p0.fuel (host_now seen p) fun args x m' fuel (host_now seen q)) is means)))
      (subst (λ (x : Result Ran (Stopped PageStop)). IsDry (ran_left x) fuel) is dry)
      (subst (λ (x : PageNow L). x.functions ≡ p.functions) e functions)
      (subst (λ (x : PageNow L). fuel ≤ room_of x.stopped x.state.script.now) e room)

  abbrev StandsSo : ℕ → Result Ran (Stopped PageStop) → PageNow L → Type 0
  StandsSo n x y = Stands (marked_rules k) (LeavesMarked k) m n (host_now seen p) fun args x (host_now seen y)

  stands-so : (x : Result Ran (Stopped PageStop)) → result ≡ x → StandsSo p0.fuel result q → StandsSo p.fuel x p'
  stands-so x is h =
      subst (λ (n : ℕ). StandsSo n x p') fuel-is
      (subst (λ (y : PageNow L). StandsSo p0.fuel x y) (sym at_end)
      (subst (λ (z : Result Ran (Stopped PageStop)). StandsSo p0.fuel z q) is h))

  pub host-runs : (stop : PageStop) → result ≡ Err (stopped.Host stop) → StandsSo p0.fuel result q → (why : NoLine) (how : How) → why ≡ unwrap_or p'.stopped OutOfMemory
      → Runs k seen (λ call. call fun.function (bound_args fun args)) (Some why) how m p m' (record p' { fuel = fuel })
  host-runs stop is h why how told =
      halted-runs k seen m p fun args ready since bounded m' fuel p' whole'.since script no_more why how told
      (refused-left k seen m p fun args ready since bounded m' fuel p' whole'.since (stands-so (Err (stopped.Host stop)) is h))

  memory-left : result ≡ Err stopped.OutOfMemory → StandsSo p0.fuel result q → IsWanting k seen m p fun args ready since bounded m' fuel p' whole'.since
  memory-left is h = wanting-left k seen m p fun args ready since bounded m' fuel p' whole'.since (stands-so (Err stopped.OutOfMemory) is h)

  pub memory-running : result ≡ Err stopped.OutOfMemory → StandsSo p0.fuel result q → p'.stopped ≡ None
  memory-running is h = (memory-left is h).running

  pub memory-runs : {p3 : PageNow L} → result ≡ Err stopped.OutOfMemory → StandsSo p0.fuel result q → (why : NoLine) (how : How) → why ≡ OutOfMemory → WantsMemory (record p' { fuel = fuel }) p3
      → Runs k seen (λ call. call fun.function (bound_args fun args)) (Some why) how m p m' p3
  memory-runs is h why how memory w =
      wanting-runs k seen m p fun args ready since bounded m' fuel p' whole'.since script no_more why how memory (memory-left is h) w
