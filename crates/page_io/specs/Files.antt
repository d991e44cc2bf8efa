-- What a folder tells of a file, and what a fetch makes of it.
use Rattle.std.specs.Prelude.{◌≡◌, ℕ, ◌+◌, ◌<◌, ◌≤◌, ⊤, List, ◌++◌, take, length, Option, Some, None, Result, Ok, Err}
use Rattle.page_types.specs.Counts.{raised}
use Rattle.page_types.specs.Told.{IsStartOf}
use Rattle.page_io.specs.declared.fetched.Fetched.{Fetched}
use Rattle.page_io.specs.declared.fetched.Fetched.TheVariants.{Whole, TooLong}
use Rattle.page_io.specs.declared.fetched.FetchFault.{FetchFault}
use Rattle.page_io.specs.declared.fetched.FetchFault.TheVariants.{Failed, OutOfMemory}

-- what was put behind the old bytes, by the answer
abbrev pub FetchedOf : (content : List ℕ) → ℕ → (old : List ℕ) → Result Fetched FetchFault → (new : List ℕ) → Type 0
FetchedOf content limit old (Ok Whole) new = (length content ≤ limit) × (new ≡ old ++ content)
FetchedOf content limit old (Ok TooLong) new = (limit < length content) × (new ≡ old ++ take (limit + 1) content)
FetchedOf content limit old (Err fault) new = (part : List ℕ) × IsStartOf part content × (new ≡ old ++ part)

-- the same, where the folder tells the file
abbrev pub Fetches : Option (List ℕ) → ℕ → (old : List ℕ) → Result Fetched FetchFault → (new : List ℕ) → Type 0
Fetches None limit old result new = ⊤
Fetches (Some content) limit old result new = FetchedOf content limit old result new

-- a count that counts exactly the failed fetches
abbrev pub faults_after : ℕ → Result Fetched FetchFault → ℕ
faults_after before (Ok fetched) = before
faults_after before (Err Failed) = raised before
faults_after before (Err OutOfMemory) = before
