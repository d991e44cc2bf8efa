-- Delays that are started for what was made last.
use Rattle.std.proofs.Common.{◌≡◌, ℕ, Bool, true, false, cond, refl, ◌∙◌, ap, None}
use Rattle.page_types.specs.declared.RegKind.TheVariants.{Signal as SignalKind}
use Rattle.page_model.specs.State.{QueueSignal, Page, PrioSource, last_registration}
use Rattle.page_model.specs.SchedulerTasks.{enqueue}
use Rattle.page_model.specs.Invoke.{register}
use Rattle.page_model.specs.Operations.{last_signal, post_delayed}
use Rattle.page_script.specs.PageActs.{OnlyAdds}
use Rattle.signal_operations.specs.Delays.{started_after}

-- the timeout of the signal and the registration that were made last
abbrev pub timed : (milliseconds : ℕ) → Page → Page
timed ms p = started_after ms (last_registration p) (QueueSignal (last_registration p) (last_signal p)) p

pub timed-adds : (ms : ℕ) → OnlyAdds (timed ms)
timed-adds ms es p = refl

pub timed-last : (ms r s : ℕ) (p : Page) → r ≡ last_registration p → s ≡ last_signal p → started_after ms r (QueueSignal r s) p ≡ timed ms p
timed-last ms r s p last made =
    ap (λ (n : ℕ). started_after ms n (QueueSignal n s) p) last ∙ ap (λ (t : ℕ). started_after ms (last_registration p) (QueueSignal (last_registration p) t) p) made

-- the same, behind the registration of the signal
abbrev pub registered_timed : (milliseconds : ℕ) → Page → Page
registered_timed ms p = timed ms (register SignalKind None None p)

pub registered_timed-adds : (ms : ℕ) → OnlyAdds (registered_timed ms)
registered_timed-adds ms es p = refl

-- the task of the registration that was made last is enqueued, now or after a delay
abbrev pub posted_last : (now : Bool) → (milliseconds : ℕ) → PrioSource → Page → Page
posted_last now ms source p = cond now (enqueue (last_registration p) source false) (post_delayed ms (last_registration p) source) p

pub posted_last-adds : (now : Bool) (ms : ℕ) (source : PrioSource) → OnlyAdds (posted_last now ms source)
posted_last-adds true ms source es p = refl
posted_last-adds false ms source es p = refl
