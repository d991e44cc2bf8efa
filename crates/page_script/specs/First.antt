-- The script's part of a page before its first turn.
use Rattle.std.specs.Prelude.{◌≡◌, ℕ, List}
use Rattle.page_types.specs.Tree.{Program}
use Rattle.page_parts.specs.Setup.{Setup}
use Rattle.page_parts.specs.HostClosures.{HostClosure}
use Rattle.page_model.specs.Turns.{first_page}
use Rattle.page_script.specs.Script.{Script, script_of}

-- it is that of the first page of each program with these names, and of each setup with these forms
pub record IsFirst (form trace : ℕ) (names : List (List ℕ)) (s : Script) : Type 0 where
  pub first :
      (program : Program) (setup : Setup) (hosts : List HostClosure)
      → program.names ≡ names → setup.form ≡ form → setup.trace ≡ trace → s ≡ script_of (first_page program setup hosts)
