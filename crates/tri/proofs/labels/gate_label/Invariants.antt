use Rattle.std.proofs.Common.{◌≡◌, map, drop}
use Rattle.std.specs.List.{list_any}
use Rattle.tri.specs.declared.labels.Label.{Label}
use Rattle.tri.specs.Gathered.{AreTriReductionsOf}
use Rattle.tri.proofs.labels.gate_label.Given as goal

abbrev pub invariant-loop-k : goal.invariant-loop-k
invariant-loop-k l =
    AreTriReductionsOf (map (λ (m : Label). m.good) (drop l.k l.pins)) l.good
    × AreTriReductionsOf (map (λ (m : Label). m.faulty) (drop l.k l.pins)) l.faulty
    × (l.may_differ ≡ list_any (λ (m : Label). m.may_differ) (drop l.k l.pins))
