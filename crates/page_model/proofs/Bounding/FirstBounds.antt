-- The page before the first turn is within bounds.
use Rattle.std.proofs.Common.{◌≡◌, ℕ, zero, suc, arith, List, [], refl}
use Rattle.page_types.specs.Values.{Value}
use Rattle.page_types.specs.Tree.{Program}
use Rattle.page_parts.specs.Setup.{Setup}
use Rattle.page_parts.specs.HostClosures.{HostClosure}
use Rattle.page_parts.specs.AbortGraph.{Signals, the_signal}
use Rattle.page_model.specs.Turns.{first_page}
use Rattle.page_model.specs.FoldBounds.{times, IsBounded}

abbrev no_signals : Signals Value
no_signals = []

none_there : (i d : ℕ) → times (the_signal no_signals i).dependents d ≡ 0
none_there zero d = refl
none_there (suc zero) d = refl
none_there (suc (suc i)) d = refl

pub first-bounded : (program : Program) (setup : Setup) (hosts : List HostClosure) → IsBounded (first_page program setup hosts)
first-bounded program setup hosts =
    record {
      registrations = omega arith;
      listeners = omega arith;
      signals = omega arith;
      dependents = λ s d. let n = none_there s d in omega (arith, n);
      none_ahead = λ s d l. none_there s d;
      prios = omega arith;
      followers = λ s. tt;
    }
