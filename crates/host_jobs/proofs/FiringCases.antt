-- What a table answers for a closure whose mark and range are known.
use Rattle.std.proofs.Common.{◌≡◌, ◌≢◌, ℕ, true, false, refl, sym, List, Some, Result}
use Rattle.std.specs.Prelude.{ℤ, slice_get}
use Rattle.std.proofs.lemmas.Bool.{false≢true}
use Rattle.page_types.specs.declared.HostMark.{HostMark}
use Rattle.page_types.specs.declared.HostMark.TheVariants as mark
use Rattle.page_parts.specs.HostClosures.{HostClosure, meets}
use Rattle.host_jobs.specs.Closures.{is_live, takes}
use Rattle.host_jobs.specs.Firing.{Fires, FiresIn, FiresMarked}
use Rattle.host_jobs.specs.declared.answer.Fired.{Fired}
use Rattle.host_jobs.specs.declared.answer.Fired.TheVariants.{Answer, Used, OutOfRange}

of_live : (m : HostMark) (c : HostClosure) (x : ℤ) (result : Fired) → is_live m ≡ true → FiresIn (takes c x) c x result → FiresMarked m c x result
of_live mark.Live c x result live fires = fires
of_live mark.Queued c x result live fires = absurd (false≢true live)
of_live mark.Fired c x result live fires = absurd (false≢true live)
of_live mark.Dropped c x result live fires = absurd (false≢true live)

of_used : (m : HostMark) (c : HostClosure) (x : ℤ) → is_live m ≡ false → m ≢ mark.Queued → FiresMarked m c x Used
of_used mark.Live c x live unqueued = absurd (false≢true (sym live))
of_used mark.Queued c x live unqueued = unqueued refl
of_used mark.Fired c x live unqueued = refl
of_used mark.Dropped c x live unqueued = refl

pub Fires-answer : (cs : List HostClosure) (k : ℕ) (c : HostClosure) (x : ℤ) (answer : Result ℤ ℤ) → slice_get cs k ≡ Some c → is_live c.mark ≡ true → takes c x ≡ true → meets c.kind x answer ≡ true → Fires cs k x (Answer answer)
Fires-answer cs k c x answer get live fit met = rw get (of_live c.mark c x (Answer answer) live (rw fit (answer, refl, met)))

pub Fires-out : (cs : List HostClosure) (k : ℕ) (c : HostClosure) (x : ℤ) → slice_get cs k ≡ Some c → is_live c.mark ≡ true → takes c x ≡ false → Fires cs k x OutOfRange
Fires-out cs k c x get live unfit = rw get (of_live c.mark c x OutOfRange live (rw unfit refl))

pub Fires-used : (cs : List HostClosure) (k : ℕ) (c : HostClosure) (x : ℤ) → slice_get cs k ≡ Some c → is_live c.mark ≡ false → c.mark ≢ mark.Queued → Fires cs k x Used
Fires-used cs k c x get dead unqueued = rw get (of_used c.mark c x dead unqueued)
