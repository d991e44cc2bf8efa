-- How callbacks and checkpoints end, as their callers are told.
use Rattle.std.proofs.Common.{◌≡◌, ◌≢◌, ℕ, Option, Some, Ok, refl, sym, subst}
use Rattle.page_interp.specs.declared.machine.Ran.{Ran}
use Rattle.page_interp.specs.declared.machine.Ran.TheVariants as ran
use Rattle.trace_text.specs.declared.lines.NoLine.{NoLine}
use Rattle.trace_text.specs.declared.lines.NoLine.TheVariants as no_line
use Rattle.lang_meaning.specs.Machine.{Done}
use Rattle.page_model.specs.State.{Page, State}
use Rattle.trace_text.specs.Given.{Keeping}
use Rattle.trace_text.specs.Acts.{At}
use Rattle.page_host.specs.PageNow.{stop_of}
use Rattle.page_host.specs.StateActs.{How, RanOut, Steps}
use Rattle.page_host.specs.Moments.{how_of, IfEnded}
use Rattle.page_host.specs.Stops.{line_fault}
use Rattle.page_host.specs.Doing.{IsOn, IsDry, IsDried, IfFinished, did_how}
use Rattle.page_host.specs.declared.did.Did.{Did}
use Rattle.page_host.specs.declared.did.Did.TheVariants as did
use Rattle.page_host.specs.declared.stop.PageStop.{PageStop}
use Rattle.page_host.specs.declared.stop.PageStop.TheVariants.{NoHost}
use Rattle.page_host.proofs.CallEnds.{fault-of}

pub ended-ready : {P : Type 0} (r : Ran) → (IsOn (how_of {E = PageStop} (Ok r)) → P) → IfEnded (Ok r) P
ended-ready (ran.Value v) h = h tt
ended-ready (ran.Throw v) h = h tt
ended-ready ran.Fuel h = tt

pub ran-dry : (r : Ran) (fuel : ℕ) → (how_of {E = NoLine} (Ok r) ≡ RanOut → fuel ≡ 0) → IsDry r fuel
ran-dry (ran.Value v) fuel h = tt
ran-dry (ran.Throw v) fuel h = tt
ran-dry ran.Fuel fuel h = h refl

pub finished-ready : {P : Type 0} (d : Did) → (IsOn (did_how {E = NoLine} (Ok d)) → P) → IfFinished {E = PageStop} (Ok d) P
finished-ready did.Finished h = h tt
finished-ready did.Fuel h = tt

pub did-dry : (d : Did) (fuel : ℕ) → (did_how {E = NoLine} (Ok d) ≡ RanOut → fuel ≡ 0) → IsDried d fuel
did-dry did.Finished fuel h = tt
did-dry did.Fuel fuel h = h refl

pub stop-no_host : (why : NoLine) (stop : PageStop) → stop ≡ stop_of why → stop ≢ NoHost
stop-no_host no_line.Failed stop e = λ h. absurd (cc)
stop-no_host no_line.Differs stop e = λ h. absurd (cc)
stop-no_host no_line.OutOfMemory stop e = λ h. absurd (cc)

pub stop-fault : (why : NoLine) (stop : PageStop) → stop ≡ stop_of why → line_fault stop ≡ Some why
stop-fault why stop e = subst (λ (s : PageStop). line_fault s ≡ Some why) (sym e) (fault-of why)

-- a step that stopped, as the caller is told
pub stop-steps : {T : Type 0} {k : Keeping T} {old new : At State T} {step : State → Done Page} {how : How} (why : NoLine) (stop : PageStop) → stop ≡ stop_of why → Steps k old step (Some why) how new → Steps k old step (line_fault stop) how new
stop-steps {k = k} {old = old} {new = new} {step = step} {how = how} why stop e h = subst (λ (o : Option NoLine). Steps k old step o how new) (sym (stop-fault why stop e)) h
