use Rattle.std.proofs.Common.{◌≡◌, ◌<◌, ◌-◌, length, arith, sym, ◌∙◌, get_or}
use Rattle.std.proofs.lemmas.List.{get_or_read}
use Rattle.scan_insert.proofs.Table.{places_more}
use Rattle.scan_insert.proofs.place_table.place_table.Goals as goal

pub index_mut-requires : goal.index_mut-requires
index_mut-requires c =
    let cells = c.args.cells.now in
    let k = c.loop-k.k in
    let l = c.loop-k-test.true in
    let cell : c.number.result ≡ get_or cells k 0 = c.number.ensures ∙ get_or_read cells k c.index-cells-k.result l c.index-cells-k.is 0 in
    omega (arith, c.least-least.ensures k 0 l, c.greatest.ensures k 0 l, c.loop-k.invariant.size)

pub loop-k-preserved : goal.loop-k-preserved
loop-k-preserved c =
    let cells = c.args.cells.now in
    let k = c.loop-k.k in
    let l = c.loop-k-test.true in
    let places = c.loop-k.places in
    let cell : c.number.result ≡ get_or cells k 0 = c.number.ensures ∙ get_or_read cells k c.index-cells-k.result l c.index-cells-k.is 0 in
    let within : c.number.result - c.least-least.result < length places.items =
    omega (arith, c.least-least.ensures k 0 l, c.greatest.ensures k 0 l, c.loop-k.invariant.size, places.ok.0) in
    record {
      size = c.loop-k.invariant.size;
      told = places_more c.least-least.result places.items cells k c.number.result c.loop-k.invariant.told c.requires.distinct l (sym cell)
          (omega (arith, c.least-least.ensures k 0 l)) within;
    }
