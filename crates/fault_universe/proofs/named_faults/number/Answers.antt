use Rattle.std.proofs.Common.{sym, ◌∙◌, arith}
use Rattle.std.proofs.lemmas.Fmt.{decimal_injective}
use Rattle.fault_universe.proofs.named_faults.number.Goals as goal

pub returns-in_default-clause-cases : goal.returns-in_default-clause-cases
returns-in_default-clause-cases c k l e = c.in_default.ensures.cases k (omega (arith, l)) e

pub returns-else-number-clause-cases : goal.returns-else-number-clause-cases
returns-else-number-clause-cases c k l e =
    let same = decimal_injective c.in-Some.number k c.in-Some.ensures.within (omega (arith, l)) (sym c.in-Some.ensures.cases ∙ e) in
    absurd (omega (arith, same, l, c.if-number.false))
