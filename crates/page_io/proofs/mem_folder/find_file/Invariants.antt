use Rattle.std.proofs.Common.{◌≡◌, map, length}
use Rattle.page_io.specs.MemFiles.{named, first_file}
use Rattle.page_io.proofs.mem_folder.find_file.Given as goal

abbrev pub invariant-loop-file : goal.invariant-loop-file
invariant-loop-file l = first_file (map named l.rest) l.name ≡ first_file (map named l.files) l.name

abbrev pub decreases-loop-file : goal.decreases-loop-file
decreases-loop-file l = length l.rest
