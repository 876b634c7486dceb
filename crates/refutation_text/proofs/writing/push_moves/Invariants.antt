use Rattle.std.proofs.Common.{◌≡◌, ◌++◌, take}
use Rattle.std.specs.List.{All, flat_map}
use Rattle.refutation_text.specs.Texts.{move_text, IsMove}
use Rattle.refutation_text.proofs.writing.push_moves.Given as goal

abbrev pub invariant-loop-item : goal.invariant-loop-item
invariant-loop-item l = record {
  text : l.text.items ≡ l.initial.text.items ++ flat_map move_text (take l.item-index l.moves);
  are : All IsMove (take l.item-index l.moves);
}
