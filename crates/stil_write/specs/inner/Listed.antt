-- Items as they lie in memory: the kind of each, and where its words end.
use Rattle.std.specs.Prelude.{ℕ, ◌≡◌, List, [], ◌∷◌, length}
use Rattle.statement.specs.Benches.{Text}
use Rattle.stil_write.specs.declared.items.ItemKind.{ItemKind}
use Rattle.statement.specs.Stils.{Item}
use Rattle.stil_write.specs.StilFiles.{item_of}
use Rattle.plain_text.specs.Rows.{AreEnds}

abbrev pub listed : List ItemKind → List (List Text) → List Item
listed [] rows = []
listed (kind ∷ kinds) [] = []
listed (kind ∷ kinds) (words ∷ rows) = item_of kind words ∷ listed kinds rows

pub record AreListed (kinds : List ItemKind) (words : List Text) (stops : List ℕ) : Type 0 where
  pub rise : AreEnds 0 words stops
  pub counts : length kinds ≡ length stops
