use Rattle.std.proofs.Common.{◌≡◌, length, MatchResult, ap, ◌∙◌, subst}
use Rattle.statement.specs.Netlists.{Netlist}
use Rattle.refutation_check.specs.Checking.{Checking}
use Rattle.refutation.specs.Refutations.{Refutes}
use Rattle.refutation_check.specs.Refusals.{IsRefutationFault}
use Rattle.refutation_check.specs.inner.Trails.{Trailed}
use Rattle.refutation_check.proofs.checking.Checker.check.Goals as goal

pub invariant_of-self : goal.invariant_of-self
invariant_of-self c =
    let back : c.undo.new.self ≡ c.self.inside.sets = c.undo.ensures c.self.inside.sets (ap length c.self.invariant.trail) c.run-answer.ensures.grows in
    record {
      holds_are = c.self.invariant.holds_are;
      fixed_are = c.self.invariant.fixed_are;
      told = ap (λ (t : Trailed). t.told) back ∙ c.self.invariant.told;
      trail = ap (λ (t : Trailed). t.trail) back ∙ c.self.invariant.trail;
      size = c.clear.ensures.size ∙ (c.run-answer.ensures.size ∙ c.self.invariant.size);
      clear = c.clear.ensures.clear;
    }

pub returns-clause-answer : goal.returns-clause-answer
returns-clause-answer c =
    let f = c.args.fault.now in
    let steps = c.args.steps.now in
    subst (λ (k : Checking). MatchResult c.run-answer.result (λ _. Refutes f k.netlist k.holds steps) (IsRefutationFault f k.netlist k.holds steps)) c.self.view_is
    (subst (λ (n : Netlist). MatchResult c.run-answer.result (λ _. Refutes f n c.self.inside.holds.now steps) (IsRefutationFault f n c.self.inside.holds.now steps)) c.netlist-netlist.ensures
    c.run-answer.ensures.answer)
