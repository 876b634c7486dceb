use Rattle.std.proofs.Common.{◌≡◌, take}
use Rattle.std.specs.List.{zip}
use Rattle.commands.specs.Names.{file_names_of, texts_of}
use Rattle.commands.specs.Written.{LeavesFiles}
use Rattle.commands.proofs.writing.write_in_order.Given as goal

abbrev pub invariant-loop-i : goal.invariant-loop-i
invariant-loop-i g l = LeavesFiles (take l.i (zip (file_names_of l.names) (texts_of l.texts))) (g.S.Shelf.files l.fn.shelf) (g.S.Shelf.files l.shelf)
    × (g.S.Shelf.failures l.shelf ≡ g.S.Shelf.failures l.fn.shelf)
