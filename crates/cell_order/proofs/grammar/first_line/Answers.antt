use Rattle.std.proofs.Common.{◌∙◌, ap}
use Rattle.bench_text.specs.Bytes.{lines}
use Rattle.cell_order.proofs.LineLemmas.{line_cut, line_last}
use Rattle.cell_order.proofs.grammar.first_line.Goals as goal

pub returns-in-Some-clause-line : goal.returns-in-Some-clause-line
returns-in-Some-clause-line c = ap lines c.in-Some.ensures.1 ∙ line_cut c.in-Some.parts.0.now c.in-Some.parts.1.now c.in-Some.ensures.0

pub returns-in-None-clause-line : goal.returns-in-None-clause-line
returns-in-None-clause-line c = line_last c.args.text.now c.in-None.ensures c.requires
