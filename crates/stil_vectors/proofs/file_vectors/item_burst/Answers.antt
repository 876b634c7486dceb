use Rattle.stil_vectors.proofs.VectorLemmas.{is_call, is_vector}
use Rattle.stil_vectors.proofs.file_vectors.item_burst.Goals as goal

pub call_burst-requires-clause-call : goal.call_burst-requires-clause-call
call_burst-requires-clause-call c = is_call c.items.result.now c.args.file.now.items c.args.place c.kind.result c.items.ensures c.kind.ensures c.in-Call.is

pub vector_burst-requires-clause-vector : goal.vector_burst-requires-clause-vector
vector_burst-requires-clause-vector c = is_vector c.items.result.now c.args.file.now.items c.args.place c.kind.result c.items.ensures c.kind.ensures c.in-Vector.is
