-- Files as their folder tells them.
use Rattle.std.proofs.Common.{◌≡◌, ◌<◌, ◌+◌, ℕ, List, [], length, replicate, Option, Some, None, Ok, refl, sym, subst, arith}
use Rattle.std.proofs.lemmas.List.{length-replicate}
use Rattle.std.specs.Prelude.{⊤, IfSome, Vec}
use Rattle.std.specs.declared.alloc.Global.{Global}
use Rattle.page_cli.specs.Refusals.{GivesFile}
use Rattle.page_cli.specs.ToldFiles.{CanHold, OfFile}

abbrev zeros : ℕ → List ℕ
zeros n = replicate n 0

longer : (most : ℕ) → most < length (zeros (most + 1))
longer most = let e : length (zeros (most + 1)) ≡ most + 1 = length-replicate {A = ℕ} (most + 1) 0 in omega (arith, e)

-- some content is always there
pub some-file : (told : Option (List ℕ)) → (content : List ℕ) × CanHold told content
some-file None = ([], tt)
some-file (Some bytes) = (bytes, refl)

pub some-content : (told : Option (List ℕ)) → OfFile told (λ content. ⊤)
some-content told = let f = some-file told in (f.0, f.1, tt)

-- a file that is longer than this, where it is told
pub long-file : (most : ℕ) (told : Option (List ℕ)) → IfSome told (λ content. most < length content) → OfFile told (λ content. most < length content)
long-file most None h = (zeros (most + 1), tt, longer most)
long-file most (Some bytes) h = (bytes, refl, h)

-- the bytes that were read
pub read-holds : (most : ℕ) (told : Option (List ℕ)) (bytes : Vec ℕ Global) → OfFile told (λ content. GivesFile most content (Ok bytes)) → CanHold told bytes.items
read-holds most told bytes h = let P : List ℕ → Type 0 = λ content. CanHold told content in subst P (sym h.2) h.1

-- P of the content that is told
pub of-told : (told : Option (List ℕ)) (P : List ℕ → Type 0) → OfFile told P → IfSome told P
of-told None P h = tt
of-told (Some bytes) P h = subst P h.1 h.2

-- what follows of each content
pub of-each : (told : Option (List ℕ)) (P Q : List ℕ → Type 0) → ((content : List ℕ) → P content → Q content) → OfFile told P → OfFile told Q
of-each told P Q f h = (h.0, h.1, f h.0 h.2)
