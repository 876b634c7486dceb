use Rattle.std.proofs.Common.{◌≡◌, ◌++◌, length, map}
use Rattle.std.specs.List.{flat_map}
use Rattle.bench_text.specs.Bytes.{lines}
use Rattle.cell_order.specs.Orders.{chains_in, names_in, words_of}
use Rattle.cell_order.specs.inner.Reads.{texts_in}
use Rattle.cell_order.proofs.naming.said_in.Given as goal

abbrev pub invariant-lines : goal.invariant-lines
invariant-lines l = record {
  names : texts_in l.names.items ++ flat_map words_of (lines l.rest) ≡ names_in l.text;
  lengths : l.lengths.items ++ map length (map words_of (lines l.rest)) ≡ map length (chains_in l.text);
}

abbrev pub decreases-lines : goal.decreases-lines
decreases-lines l = length l.rest
