use Rattle.std.proofs.Common.{◌≡◌, ◌++◌, ◌∙◌, ℕ, get_or, ap, sym, subst}
use Rattle.std.proofs.lemmas.Option.{slice_get-get_or}
use Rattle.statement.specs.declared.lines.Fault.{Fault}
use Rattle.statement.specs.Netlists.{Netlist}
use Rattle.events.specs.Standing.{Standing}
use Rattle.word_sim.specs.inner.Found.{hit_of}
use Rattle.word_sim.specs.inner.Groups.{AreTold, IsFound, IsPass}
use Rattle.word_sim.proofs.HitLists.{hits_more}
use Rattle.word_sim.proofs.fault_hits.hits_of_pass.Goals as goal

pub found_of-found-requires-clause-pass : goal.found_of-found-requires-clause-pass
found_of-found-requires-clause-pass c = subst (λ (e : Standing ℕ). IsPass e.netlist e.values c.args.pass.now) (sym (c.loop-k.invariant.1 ∙ c.tell_ahead.ensures.same)) c.requires.pass

pub push_hit-requires : goal.push_hit-requires
push_hit-requires c =
    (c.found_of-found.ensures.found _ (slice_get-get_or c.args.pass.now.faults.now c.loop-k.k c.index-faults-k.result c.loop-k-test.true)).small

pub loop-k-preserved : goal.loop-k-preserved
loop-k-preserved c =
    let same : c.loop-k.events.netlist ≡ c.tell_ahead.new.events.netlist = ap (λ (e : Standing ℕ). e.netlist) c.loop-k.invariant.1 in
    let after : c.found_of-found.new.events.netlist ≡ c.tell_ahead.new.events.netlist = ap (λ (e : Standing ℕ). e.netlist) (c.found_of-found.ensures.same ∙ c.loop-k.invariant.1) in
    let found : IsFound c.tell_ahead.new.events.netlist c.args.pass.now.patterns.now c.index-faults-k.result.1 c.found_of-found.result =
    subst (λ (m : Netlist). IsFound m c.args.pass.now.patterns.now c.index-faults-k.result.1 c.found_of-found.result) same
    (subst (λ (b : ℕ × Fault). IsFound c.loop-k.events.netlist c.args.pass.now.patterns.now b.1 c.found_of-found.result) (sym c.index-faults-k.is)
    (c.found_of-found.ensures.found _ (slice_get-get_or c.args.pass.now.faults.now c.loop-k.k c.index-faults-k.result c.loop-k-test.true))) in (
      hits_more c.tell_ahead.new.events.netlist c.args.pass.now.patterns.now c.args.pass.now.faults.now c.loop-k.k c.index-faults-k.result c.loop-k.hits.items c.push_hit.new.hits.items c.found_of-found.result
          c.loop-k-test.true c.index-faults-k.is c.loop-k.invariant.0 found.detected
          (c.in_ok-push_hit.ensures ∙ (ap (λ (m : Netlist). c.loop-k.hits.items ++ hit_of m (get_or c.args.pass.now.faults.now c.loop-k.k c.index-faults-k.result).0 c.found_of-found.result) (c.netlist.ensures ∙ (c.core.ensures ∙ after))
          ∙ ap (λ (b : ℕ × Fault). c.loop-k.hits.items ++ hit_of c.tell_ahead.new.events.netlist b.0 c.found_of-found.result) (sym c.index-faults-k.is))),
      c.found_of-found.ensures.same ∙ c.loop-k.invariant.1,
      subst (λ (m : Netlist). AreTold m c.args.pass.now c.found_of-found.new.told.items) same c.found_of-found.ensures.told,
    )
