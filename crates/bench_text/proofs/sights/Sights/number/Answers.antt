use Rattle.bench_text.proofs.SightLemmas.{names-distinct, numbered}
use Rattle.bench_text.proofs.sights.Sights.number.Goals as goal

pub returns-clause-number : goal.returns-clause-number
returns-clause-number c =
    let s = c.in_ok-number.ensures.stored in
    numbered c.args.name s.0 c.args.self.now.names.keys _ _ c.in_ok-number.ensures.keys s.1 s.2

pub returns-clause-distinct : goal.returns-clause-distinct
returns-clause-distinct c = names-distinct _ c.in_ok-number.ensures.unique
