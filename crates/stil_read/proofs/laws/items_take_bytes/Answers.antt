use Rattle.stil_read.proofs.SizeLemmas.{items_take_bytes}
use Rattle.stil_read.proofs.laws.items_take_bytes.Goals as goal

pub returns : goal.returns
returns c = items_take_bytes
