use Rattle.std.proofs.Common.{◌≡◌, ◌++◌, replicate}
use Rattle.stil_write.proofs.forms.push_copies.Given as goal

abbrev pub invariant-loop : goal.invariant-loop
invariant-loop l = l.forms.items ≡ l.fn.forms.items ++ replicate l.counter l.form
