use Rattle.std.proofs.Common.{◌≡◌, take}
use Rattle.commands.specs.Names.{file_names_of, texts_of}
use Rattle.commands.specs.Contents.{FilesHold}
use Rattle.commands.proofs.reading.read_in_order.Given as goal

abbrev pub invariant-loop-name : goal.invariant-loop-name
invariant-loop-name g l = FilesHold (g.S.Shelf.files l.fn.shelf) (take l.name-index (file_names_of l.names)) (texts_of l.texts.items)
    × (g.S.Shelf.files l.shelf ≡ g.S.Shelf.files l.fn.shelf) × (g.S.Shelf.failures l.shelf ≡ g.S.Shelf.failures l.fn.shelf)
