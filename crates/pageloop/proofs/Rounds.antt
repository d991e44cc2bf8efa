-- The host closures as they are made: in rounds of four.
use Rattle.std.proofs.Common.{ℕ, zero, suc, List, [], ◌∷◌, ◌++◌}
use Rattle.page_parts.specs.HostClosures.{HostClosure}
use Rattle.pageloop.specs.HostClosures.{closure_numbered}

-- so many rounds
abbrev pub rounds : (n : ℕ) → List HostClosure
rounds zero = []
rounds (suc n) =
    (((rounds n ++ closure_numbered 0 ∷ []) ++ closure_numbered 1 ∷ []) ++ closure_numbered 2 ∷ []) ++ closure_numbered 3 ∷ []
