-- The row of a command, by the names of its files.
use Rattle.std.proofs.Common.{◌≡◌, List, [], ◌∷◌, Option, subst}
use Rattle.statement.specs.Benches.{Text}
use Rattle.outside.specs.Shelf.{Files}
use Rattle.commands.specs.Contents.{FilesHold}
use Rattle.commands.specs.World.{World}
use Rattle.commands.specs.Due.{Due}
use Rattle.commands.specs.Rows.{CommandRow}
use Rattle.commands.specs.declared.ending.Ending.{Ending}

-- a row, its names being these
pub row_at : {R : Type 0} (reads names writes files : List Text) (due : List Text → Due R → Type 0) (a b : World) (e : Ending R) → reads ≡ names → writes ≡ files
    → CommandRow reads writes due a b e → CommandRow names files due a b e
row_at reads names writes files due a b e same also row =
    subst (λ (ws : List Text). CommandRow names ws due a b e) also (subst (λ (rs : List Text). CommandRow rs writes due a b e) same row)

-- one file is read, its name being this
pub read_as : (files : Option Files) (given name : Text) (texts : List Text) → given ≡ name → FilesHold files (given ∷ []) texts → FilesHold files (name ∷ []) texts
read_as files given name texts same are = subst (λ (t : Text). FilesHold files (t ∷ []) texts) same are
