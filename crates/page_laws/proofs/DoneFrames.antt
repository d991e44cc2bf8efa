-- Where a run ends for nothing is left to do, each frame callback was called or dropped.
use Rattle.std.proofs.Common.{◌≡◌, refl, Bool, true, false, not, ◌&&◌, ◌||◌, List}
use Rattle.page_types.specs.Tree.{Program}
use Rattle.page_parts.specs.Setup.{Setup}
use Rattle.page_parts.specs.HostClosures.{HostClosure}
use Rattle.page_parts.specs.IdleCallbacks as IdleCallbacks
use Rattle.page_parts.specs.Words.{is_empty}
use Rattle.page_model.specs.State.{Page}
use Rattle.page_model.specs.Turns.{first_page, is_pending}
use Rattle.page_laws.specs.SchedulerLaws.{frames_are_over}
use Rattle.page_laws.specs.Moves.{Moves}
use Rattle.page_laws.proofs.AtEnd.{done_test, moves-kept}
use Rattle.page_laws.proofs.FrameOrder.{frames_over}
use Rattle.page_laws.proofs.Scans.{Test, Kept}

-- no frame callback waits where nothing is pending
no-frames : (p : Page) → is_pending p ≡ false → is_empty p.frames.callbacks ≡ true
no-frames p h = by_tests (is_empty p.arrivals) (is_empty p.host_answers) (is_empty p.timers.active) (is_empty p.idle_timers) (is_empty p.frames.callbacks) h
  where
    by_tests : (a b c d e : Bool) → not (a && b && c && d && e) || IdleCallbacks.waits p.idle ≡ false → e ≡ true
    by_tests false b c d e h = Prim.cc
    by_tests true false c d e h = Prim.cc
    by_tests true true false d e h = Prim.cc
    by_tests true true true false e h = Prim.cc
    by_tests true true true true e h = by_last e h
      where
        by_last : (e : Bool) → not e || IdleCallbacks.waits p.idle ≡ false → e ≡ true
        by_last true h = refl
        by_last false h = Prim.cc

abbrev pub frames_over_test : Test
frames_over_test = done_test frames_are_over

pub frames_over_at_end : (program : Program) (setup : Setup) (hosts : List HostClosure) {q : Page} → Moves (first_page program setup hosts) q → Kept frames_over_test q.events
frames_over_at_end program setup hosts a = moves-kept frames_are_over a (λ r b z none. frames_over program setup hosts b (no-frames r z.1)) tt
