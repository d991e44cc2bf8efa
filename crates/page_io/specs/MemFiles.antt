-- A folder in memory.
use Rattle.std.specs.Prelude.{ℕ, ◌||◌, Bool, String, Vec, List, find, Option, option_map, is_none, ◌==◌, string_bytes, if◌then◌else◌}
use Rattle.std.specs.List.{list_any}
use Rattle.std.specs.declared.alloc.Global.{Global}
use Rattle.std.specs.Str.{bytes_eq}
use Rattle.page_types.specs.Counts.{raised}

-- its files by name, the numbers of the calls that fail, and how many calls and faults there were
pub record MemFiles : Type 0 where
  pub files : List (List ℕ × List ℕ)
  pub fails : List ℕ
  pub calls : ℕ
  pub faults : ℕ

-- a file as its name's bytes and its own
abbrev pub named : String Global × Vec ℕ Global → List ℕ × List ℕ
named file = (string_bytes file.0, file.1.items)

-- the bytes of the first file of a name
abbrev pub first_file : List (List ℕ × List ℕ) → List ℕ → Option (List ℕ)
first_file files name = option_map (λ (file : List ℕ × List ℕ). file.1) (find (λ (file : List ℕ × List ℕ). bytes_eq file.0 name) files)

-- a call fails where its number is among those that fail, or no file has the name
abbrev pub call_fails : MemFiles → List ℕ → Bool
call_fails folder name =
    list_any (λ number. number == folder.calls) folder.fails || is_none (first_file folder.files name)

-- the same of the next call
abbrev pub fetch_fails : MemFiles → List ℕ → Bool
fetch_fails folder name = call_fails (record folder { calls = raised folder.calls }) name

-- the folder after a fetch of a name: it counted a call, and a fault where the fetch failed
abbrev pub after_fetch : MemFiles → List ℕ → MemFiles
after_fetch folder name = record folder {
  calls = raised folder.calls;
  faults = if fetch_fails folder name then raised folder.faults else folder.faults;
}
