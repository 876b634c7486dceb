use Rattle.std.proofs.Common.{◌≡◌, take, length}
use Rattle.std.specs.List.{All}
use Rattle.statement.specs.Netlists.{signals}
use Rattle.head_lines.specs.inner.Wanting.{IsHeadWant, AreHeadWants}
use Rattle.head_lines.proofs.justify.want_heads.Given as goal

abbrev pub invariant-loop-id : goal.invariant-loop-id
invariant-loop-id l = record {
  size : length l.wants.items ≡ length (signals l.core);
  heads : AreHeadWants l.roles l.labels l.wants.items l.queue.items;
  done : All (IsHeadWant l.roles l.labels l.wants.items) (take l.id-index l.trail);
}
