use Rattle.std.proofs.Common.{subst, sym}
use Rattle.std.specs.List.{Contains}
use Rattle.statement.specs.declared.lines.Fault.{Fault}
use Rattle.statement.specs.Faults.{universe_of}
use Rattle.redundancy_cert.specs.Checking.{Checking}
use Rattle.check_parts.specs.Ends.{IsEnds}
use Rattle.check_parts.specs.inner.Lookups.{AreCheckersOf}
use Rattle.check_parts.proofs.FirstLemmas.{read_at}
use Rattle.check_parts.proofs.Lists.{zip_all, zip_more}
use Rattle.check_parts.proofs.ends.ends_by.Goals as goal

pub ends_of-requires-clause-member : goal.ends_of-requires-clause-member
ends_of-requires-clause-member c =
    let n = c.args.lookup.now.core.now in
    subst (λ (f : Fault). Contains (universe_of n) f) (sym c.index-faults-k.is) (c.requires.members c.loop-k.k c.index-faults-k.result c.loop-k-test.true)

pub loop-k-preserved : goal.loop-k-preserved
loop-k-preserved c =
    let l = c.args.lookup.now in
    let at = read_at c.args.faults.now c.loop-k.k c.index-faults-k.result c.loop-k-test.true c.index-faults-k.is in (
      zip_more (IsEnds l.core.now l.holds.now l.evidence.now) c.args.faults.now c.loop-k.k c.index-faults-k.result c.in_ok-ends.ends c.loop-k.all.items c.push.new.self.items at
          c.in_ok-ends.ensures.ends c.in_ok-push.ensures.items c.loop-k.invariant.0,
      subst (λ (k : Checking). AreCheckersOf l k) (sym c.in_ok-ends.ensures.same) c.loop-k.invariant.1,
    )

pub returns : goal.returns
returns c =
    let l = c.args.lookup.now in
    record { each = zip_all (IsEnds l.core.now l.holds.now l.evidence.now) c.args.faults.now c.loop-k.k c.loop-k.all.items c.loop-k-test.false c.loop-k.invariant.0 }
