use Rattle.std.proofs.Common.{Ok, subst, sym}
use Rattle.statement.specs.Netlists.{Netlist}
use Rattle.bench_text.specs.declared.refusal.Names.TheVariants.{Design}
use Rattle.bench_text.specs.Reading.{IsRead}
use Rattle.check_parts.proofs.texts.core_of.Goals as goal

pub returns-in-Ok-of-clause-read : goal.returns-in-Ok-of-clause-read
returns-in-Ok-of-clause-read c = subst (λ (n : Netlist). IsRead Design c.args.net.now (Ok n)) (sym c.in-Ok-of.ensures) c.in-Ok.ensures.read
