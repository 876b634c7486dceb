use Rattle.std.proofs.Common.{◌≡◌, ◌++◌, length}
use Rattle.std.specs.List.{All, flat_map}
use Rattle.refutation_text.specs.Texts.{move_text, IsMove}
use Rattle.refutation_text.proofs.reading.moves_at.Given as goal

abbrev pub invariant-loop-rest : goal.invariant-loop-rest
invariant-loop-rest l = record {
  are : All IsMove l.list.items;
  is : l.text ≡ flat_map move_text l.list.items ++ l.rest;
}

abbrev pub decreases-loop-rest : goal.decreases-loop-rest
decreases-loop-rest l = length l.rest
