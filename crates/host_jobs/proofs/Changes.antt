-- What is told of one item of a list, and of the list after a change of that item.
use Rattle.std.proofs.Common.{◌≡◌, ◌<◌, ◌≤◌, ℕ, Bool, false, ap, ◌∙◌, refl, List, length, map, get_or, Option, Some, None, Result}
use Rattle.std.specs.Prelude.{ℤ, IsTrue, slice_get, slice_set, option_map}
use Rattle.std.specs.Option.{option_map_or}
use Rattle.std.proofs.lemmas.List.{map-set, length-map}
use Rattle.std.proofs.lemmas.Option.{slice_get-map, slice_get_read, slice_get_past, slice_get_within}
use Rattle.std.proofs.Math.Bool.{false≢true}
use Rattle.page_parts.specs.HostClosures.{HostClosure, meets}
use Rattle.host_jobs.specs.Closures.{is_live, is_live_at, meets_at, changed_at}

pub told_at : {A : Type 0} (f : A → HostClosure) (xs : List A) (k : ℕ) (x : A) → k < length xs → x ≡ get_or xs k x → slice_get (map f xs) k ≡ Some (f x)
told_at f xs k x below at = slice_get-map f xs k ∙ ap (option_map f) (slice_get_read xs (length xs) k x refl below at)

pub told_past : {A : Type 0} (f : A → HostClosure) (xs : List A) (k : ℕ) → length xs ≤ k → slice_get (map f xs) k ≡ None
told_past f xs k past = slice_get-map f xs k ∙ ap (option_map f) (slice_get_past xs k past)

pub changed : {A : Type 0} (f : A → HostClosure) (change : HostClosure → HostClosure) (xs : List A) (k : ℕ) (x y : A) → k < length xs → x ≡ get_or xs k x → f y ≡ change (f x) → map f (slice_set xs k y) ≡ changed_at change (map f xs) k
changed f change xs k x y below at e = rw map-set (rw (told_at f xs k x below at) (ap (slice_set (map f xs) k) e))

pub unchanged : {A : Type 0} (f : A → HostClosure) (change : HostClosure → HostClosure) (xs : List A) (k : ℕ) → length xs ≤ k → map f xs ≡ changed_at change (map f xs) k
unchanged f change xs k past = rw (told_past f xs k past) refl

within : (test : HostClosure → Bool) (o : Option HostClosure) (cs : List HostClosure) (k : ℕ) → slice_get cs k ≡ o → IsTrue (option_map_or test o false) → k < length cs
within test None cs k get holds = absurd (false≢true holds)
within test (Some c) cs k get holds = slice_get_within cs k c get

pub live_within : {A : Type 0} (f : A → HostClosure) (xs : List A) (k : ℕ) → IsTrue (is_live_at (map f xs) k) → k < length xs
live_within f xs k live = rw length-map at (within (λ c. is_live c.mark) (slice_get (map f xs) k) (map f xs) k refl live)

pub meets_told : {A : Type 0} (f : A → HostClosure) (xs : List A) (k : ℕ) (x : A) (number : ℤ) (answer : Result ℤ ℤ) → k < length xs → x ≡ get_or xs k x → meets_at (map f xs) k number answer ≡ meets (f x).kind number answer
meets_told f xs k x number answer below at = rw (told_at f xs k x below at) refl
