use Rattle.std.proofs.Common.{[]}
use Rattle.std.proofs.lemmas.Option.{get_or_from_slice_get}
use Rattle.plain_text.specs.Rows.{rows}
use Rattle.plain_text.proofs.Buffers.{row_at}
use Rattle.events.proofs.tables.row.Goals as goal

pub returns : goal.returns
returns c = get_or_from_slice_get (rows 0 c.args.items.now c.args.ends.now) c.args.place _ [] (rw c.start_of-start.ensures (row_at 0 c.args.items.now c.args.ends.now c.args.place c.requires.within))
