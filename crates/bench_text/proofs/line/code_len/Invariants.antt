use Rattle.std.proofs.Common.{◌≡◌, ◌+◌, drop}
use Rattle.std.specs.List.{prefix_len}
use Rattle.bench_text.specs.Bytes.{is_code}
use Rattle.bench_text.proofs.line.code_len.Given as goal

abbrev pub invariant-loop-i : goal.invariant-loop-i
invariant-loop-i l = l.i + prefix_len is_code (drop l.i l.line) ≡ prefix_len is_code l.line
