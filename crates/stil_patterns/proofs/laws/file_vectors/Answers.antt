use Rattle.std.proofs.Common.{◌∙◌, ap}
use Rattle.std.specs.List.{zip}
use Rattle.statement.specs.Tests.{vectors_in}
use Rattle.stil_patterns.proofs.laws.file_vectors.Goals as goal

pub returns : goal.returns
returns c n holds chains patterns f h = record {
  held = h.held;
  responses = h.responses;
  respond = h.respond;
  are = ap vectors_in h.is ∙ c.test_vectors.ensures n holds chains (zip patterns h.responses);
}
