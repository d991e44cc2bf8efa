-- Files by what their folder tells of them.
use Rattle.std.specs.Prelude.{◌≡◌, ⊤, List, ℕ, Option, Some, None}

-- ---- Ours: a folder may tell the content of one file and not that of another

-- the file can have this content: the one that the folder tells, where it tells one
abbrev pub CanHold : (told : Option (List ℕ)) → (content : List ℕ) → Type 0
CanHold None content = ⊤
CanHold (Some bytes) content = content ≡ bytes

-- P of the content of a file: of the one that the folder tells, where it tells one, and else of some content
abbrev pub OfFile : (told : Option (List ℕ)) → (P : List ℕ → Type 0) → Type 0
OfFile told P = (content : List ℕ) × CanHold told content × P content
