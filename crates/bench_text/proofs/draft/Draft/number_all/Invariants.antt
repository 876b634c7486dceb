use Rattle.std.proofs.Common.{take}
use Rattle.bench_text.specs.inner.Stated.{names}
use Rattle.bench_text.specs.inner.Drafted.{names_seen, Keeps, AreNumbers}
use Rattle.bench_text.proofs.draft.Draft.number_all.Given as goal

abbrev pub invariant-loop-pin : goal.invariant-loop-pin
invariant-loop-pin l = record {
  keeps : Keeps l.fn.self l.self;
  numbers : AreNumbers (names_seen l.self) l.numbers.items (names (take l.pin-index l.pins));
}
