use Rattle.std.proofs.Common.{◌∙◌, ℕ, List, ap, sym, subst, length}
use Rattle.statement.specs.Netlists.{Netlist, signals}
use Rattle.word_sim.specs.inner.Groups.{AreReaches}
use Rattle.word_sim.proofs.fault_hits.find_hits.Goals as goal

pub gather-requires-clause-size : goal.gather-requires-clause-size
gather-requires-clause-size c =
    ap (λ (vs : List ℕ). length vs) c.values.ensures.values ∙ (c.values.ensures.standing.size ∙ ap (λ (m : Netlist). length (signals m)) (sym c.core.ensures))

pub hits_of_pass-requires-clause-pass : goal.hits_of_pass-requires-clause-pass
hits_of_pass-requires-clause-pass c = record {
  points = c.requires.points;
  good = c.requires.good;
  used = c.used_bits.ensures;
  lines = c.requires.lines;
  reaches = subst (AreReaches c.args.events.now.netlist c.args.events.now.values c.args.faults.now) (sym c.deref.ensures.value)
      (subst (λ (m : Netlist). AreReaches m c.args.events.now.values c.args.faults.now c.gather.new.self.linked.reaches.items) c.core.ensures
      (subst (λ (vs : List ℕ). AreReaches c.core.result.now vs c.args.faults.now c.gather.new.self.linked.reaches.items) c.values.ensures.values c.in_ok-gather.ensures.reaches));
  size = c.values.ensures.standing.size;
}
