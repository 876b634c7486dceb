use Rattle.std.proofs.lemmas.List.Elements.{All-nil}
use Rattle.redundancy_cert.proofs.checking.Checker.new.Goals as goal

pub invariant_of-result : goal.invariant_of-result
invariant_of-result c = record {
  fault = c.in_ok-pass.ensures.fault;
  root = record { decided = λ j x. c.in_ok-pass.ensures.free x j; free = tt; within = All-nil _ };
  none = c.new-2.ensures.items;
}
