use Rattle.std.proofs.Common.{sym, arith}
use Rattle.bench_text.proofs.LineLemmas.{short_line}
use Rattle.bench_text.proofs.line.fits.Goals as goal

pub returns-then-bytes-longest : goal.returns-then-bytes-longest
returns-then-bytes-longest c = sym (short_line c.args.reading c.args.bytes.now (omega arith))
