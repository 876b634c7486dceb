use Rattle.std.proofs.Common.{◌≡◌, take}
use Rattle.outside.specs.Memory.{file_map_of}
use Rattle.outside.proofs.stored.StoredFiles.with_files.Given as goal

abbrev pub invariant-loop-name : goal.invariant-loop-name
invariant-loop-name l = l.stored ≡ file_map_of (take l.name-index l.files)
