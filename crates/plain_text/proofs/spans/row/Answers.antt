use Rattle.plain_text.proofs.Buffers.{row_at}
use Rattle.plain_text.proofs.spans.row.Goals as goal

pub returns : goal.returns
returns g c = rw (c.span-start.ensures.start, c.span-start.ensures.end) (row_at 0 c.args.items.now c.args.ends.now c.args.place c.requires.within)
