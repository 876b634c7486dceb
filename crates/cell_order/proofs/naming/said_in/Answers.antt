use Rattle.std.proofs.Common.{length, map}
use Rattle.bench_text.proofs.LinesReadLemmas.{is_zero}
use Rattle.cell_order.specs.Orders.{chains_in, names_in}
use Rattle.cell_order.specs.inner.Reads.{texts_in}
use Rattle.cell_order.proofs.NameLemmas.{lengths_done, names_done}
use Rattle.cell_order.proofs.naming.said_in.Goals as goal

pub returns : goal.returns
returns c = record {
  names = names_done c.lines.rest.now (is_zero _ _ c.is_empty.ensures c.lines-test.false) (texts_in c.lines.names.items) (names_in c.args.text.now) c.lines.invariant.names;
  lengths = lengths_done c.lines.rest.now (is_zero _ _ c.is_empty.ensures c.lines-test.false) c.lines.lengths.items (map length (chains_in c.args.text.now)) c.lines.invariant.lengths;
}
