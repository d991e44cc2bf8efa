-- The answer at a place of a record, and what is kept then.
use Rattle.std.proofs.Common.{◌≡◌, ◌+◌, ℕ, Bool, true, false, add-one, refl, List, ◌∷◌, drop, Some, None, Result}
use Rattle.std.specs.Prelude.{ℤ, slice_get}
use Rattle.std.proofs.Math.Seq.{drop-cons}
use Rattle.std.proofs.lemmas.Option.{slice_get_within, get_or_from_slice_get}
use Rattle.host_jobs.specs.declared.answer.Recorded.{Recorded}
use Rattle.host_jobs.specs.KeptAnswers.{next_kept}
use Rattle.host_jobs.specs.RecordedPort.{answers_of}

kept_at : (xs : List Recorded) (n : ℕ) (r : Recorded) → slice_get xs n ≡ Some r → answers_of (drop n xs) ≡ r.answer ∷ answers_of (drop (n + 1) xs)
kept_at xs n r get = rw (drop-cons xs n r (slice_get_within xs n r get)) (rw (get_or_from_slice_get xs n r r get) (rw add-one refl))

pub refuses : (test : Result ℤ ℤ → Bool) (xs : List Recorded) (n : ℕ) (r : Recorded) → slice_get xs n ≡ Some r → test r.answer ≡ false → next_kept test (answers_of (drop n xs)) ≡ None
refuses test xs n r get fails = rw (kept_at xs n r get) (rw fails refl)

pub gives : (test : Result ℤ ℤ → Bool) (xs : List Recorded) (n : ℕ) (r : Recorded) → slice_get xs n ≡ Some r → test r.answer ≡ true → next_kept test (answers_of (drop n xs)) ≡ Some (r.answer, answers_of (drop (n + 1) xs))
gives test xs n r get holds = rw (kept_at xs n r get) (rw holds refl)
