-- What stays of a page that is whole, where one of its fields changes.
use Rattle.std.proofs.Common.{◌≡◌, ℕ, ◌<◌, ◌≤◌, ◌^◌, arith, List, Option, Some, None, refl, sym, ◌∙◌, subst}
use Rattle.page_types.specs.Counts.{raised}
use Rattle.page_interp.specs.MachineNow.{MachineNow}
use Rattle.trace_text.specs.declared.lines.NoLine.{NoLine}
use Rattle.trace_text.specs.declared.lines.NoLine.TheVariants.{OutOfMemory}
use Rattle.trace_text.specs.Line.{Line}
use Rattle.trace_text.specs.Given.{Keeping, Seen, Gives}
use Rattle.page_state.specs.Standing.{Standing}
use Rattle.page_host.specs.PageNow.{PageNow, IsWhole}
use Rattle.page_host.specs.Marked.{IsSince}
use Rattle.page_host.specs.Moments.{CanCall}
use Rattle.page_host.proofs.Counts.{since-given, raised-below}

pub since-same : {T : Type 0} (s : Seen T) (stopped : Option NoLine) → stopped ≡ None → IsSince s stopped s
since-same s None e = record { later = omega arith; failed = λ e. absurd (cc); refusals = refl; is_told = λ e. refl }
since-same s (Some why) e = absurd (cc)

-- before the first call the lines are marked as they are
pub since-first : {L T : Type 0} (seen : L → Seen T) {since lines : L} → since ≡ lines → IsSince (seen since) None (seen lines)
since-first {L} seen {lines = lines} e = subst (λ (l : L). IsSince (seen l) None (seen lines)) (sym e) (since-same (seen lines) None refl)

since-wanting : {T : Type 0} (before : Seen T) (stopped : Option NoLine) (now : Seen T) → stopped ≡ None → IsSince before stopped now → IsSince before (Some OutOfMemory) now
since-wanting before None now e h = record { later = h.later; failed = λ e. absurd (cc); refusals = h.refusals; is_told = λ e. absurd (cc) }
since-wanting before (Some why) now e h = absurd (cc)

-- lines were given, and none was at fault
pub since-went : {T : Type 0} {k : Keeping T} {before old new : Seen T} {lines : List Line} (stopped : Option NoLine) → stopped ≡ None → IsSince before stopped old → Gives k old lines None new → IsSince before stopped new
since-went None e h g = since-given None h g
since-went (Some why) e h g = absurd (cc)

module _ {L T : Type 0} {seen : L → Seen T} where
  -- the lines are marked as they are
  pub whole-marked : (p : PageNow L) → IsWhole seen p → p.stopped ≡ None → IsWhole seen (record p { since = p.lines })
  whole-marked p h e = record { bounded = h.bounded; functions = h.functions; fuel = h.fuel; stops = h.stops; since = since-same (seen p.lines) p.stopped e }

  -- no more fuel
  pub whole-fuel : (p : PageNow L) (n : ℕ) → IsWhole seen p → n ≤ p.fuel → IsWhole seen (record p { fuel = n })
  whole-fuel p n h less = record { bounded = h.bounded; functions = h.functions; fuel = let f = h.fuel in omega (arith, f, less); stops = h.stops; since = h.since }

  -- memory is wanting
  pub whole-wanting : (p : PageNow L) (n : ℕ) → IsWhole seen p → p.stopped ≡ None → n ≡ raised p.stops → IsWhole seen (record p { stopped = Some OutOfMemory; stops = n })
  whole-wanting p n h e count = record {
    bounded = λ s. absurd (cc);
    functions = λ s. absurd (cc);
    fuel = h.fuel;
    stops = subst (λ (j : ℕ). j < 2 ^ 64) (sym count) (raised-below p.stops);
    since = since-wanting (seen p.since) p.stopped (seen p.lines) e h.since;
  }

  -- it had stopped, and stops again
  pub whole-again : (p : PageNow L) (why : NoLine) (o : Option NoLine) (n : ℕ) → IsWhole seen p → p.stopped ≡ Some why → o ≡ Some why → n ≡ raised p.stops → IsWhole seen (record p { stopped = o; stops = n })
  whole-again p why o n h e is count = record {
    bounded = λ s. absurd (cc);
    functions = λ s. absurd (cc);
    fuel = h.fuel;
    stops = subst (λ (j : ℕ). j < 2 ^ 64) (sym count) (raised-below p.stops);
    since = subst (λ (s : Option NoLine). IsSince (seen p.since) s (seen p.lines)) (e ∙ sym is) h.since;
  }

  -- it stops among lines
  pub whole-stopped : {k : Keeping T} {lines : List Line} (p : PageNow L) (s : Standing) (l : L) (why : NoLine) (o : Option NoLine) (n : ℕ) → IsWhole seen p → p.stopped ≡ None → Gives k (seen p.lines) lines (Some why) (seen l)
      → o ≡ Some why → n ≡ raised p.stops → IsWhole seen (record p { state = s; lines = l; stopped = o; stops = n })
  whole-stopped p s l why o n h e g is count = record {
    bounded = λ s. absurd (cc);
    functions = λ s. absurd (cc);
    fuel = h.fuel;
    stops = subst (λ (j : ℕ). j < 2 ^ 64) (sym count) (raised-below p.stops);
    since =
        subst (λ (x : Option NoLine). IsSince (seen p.since) x (seen l)) (sym is)
        (since-given (Some why) (subst (λ (x : Option NoLine). IsSince (seen p.since) x (seen p.lines)) e h.since) g);
  }

-- a function can be called with less fuel
pub ready-less : {L : Type 0} (m : MachineNow) (p : PageNow L) (n : ℕ) → CanCall m p → n ≤ p.fuel → CanCall m (record p { fuel = n })
ready-less m p n r less = record { running = r.running; at_rest = r.at_rest; functions = r.functions; room = let h = r.room in omega (arith, h, less) }

-- and with the lines marked
pub ready-marked : {L : Type 0} (m : MachineNow) (p : PageNow L) → CanCall m p → CanCall m (record p { since = p.lines })
ready-marked m p r = record { running = r.running; at_rest = r.at_rest; functions = r.functions; room = r.room }
