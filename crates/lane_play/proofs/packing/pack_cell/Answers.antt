use Rattle.std.proofs.Common.{arith}
use Rattle.std.proofs.lemmas.Option.{slice_get_within}
use Rattle.lane_play.proofs.packing.pack_cell.Goals as goal

pub put-packed-requires-clause-free : goal.put-packed-requires-clause-free
put-packed-requires-clause-free c = c.loop-k.invariant.free c.loop-k.k (omega arith) (let l = c.loop-k-test.true in let few = c.requires.few in omega arith)

pub returns : goal.returns
returns c = λ k place m t at there. c.loop-k.invariant.done k place m t (let f = c.loop-k-test.false in let w = slice_get_within c.args.places.now k place at in omega arith) at there
