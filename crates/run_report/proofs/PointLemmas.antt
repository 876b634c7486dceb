-- What is detected is seen at points of the netlist.
use Rattle.std.proofs.Common.{inl, inr, Bool, List, length, Some, None, sym, ◌∙◌, arith}
use Rattle.std.proofs.lemmas.Bool.{cases_lt}
use Rattle.std.proofs.lemmas.List.{length-map}
use Rattle.std.proofs.lemmas.Option.{slice_get_past}
use Rattle.statement.specs.declared.lines.Fault.{Fault}
use Rattle.statement.specs.declared.lines.Line.TheVariants.{Out}
use Rattle.statement.specs.declared.lines.Point.{Point}
use Rattle.statement.specs.declared.lines.Point.TheVariants.{Output, Cell}
use Rattle.statement.specs.Netlists.{Netlist, cells}
use Rattle.netlist.specs.Conditions.{IsSound}
use Rattle.statement.specs.Values.{bits, next, outs}
use Rattle.statement.specs.Patterns.{Detects}
use Rattle.scan_play.proofs.Applied.{length-next}
use Rattle.run_report.specs.Strobes.{IsPointOf}

pub point_inside : (n : Netlist) → IsSound n → (f : Fault) (inputs state : List Bool) (point : Point) → Detects n f inputs state point → IsPointOf n point
point_inside n sound f inputs state (Output k) d = elim (cases_lt k (length n.outputs)) [
  | inl low ↦ low
  | inr high ↦
      let good = length-map n.outputs (λ x. (bits None).line (Out x) (d.good x)) in
      let faulty = length-map n.outputs (λ x. (bits (Some f)).line (Out x) (d.faulty x)) in
      absurd (d.differs (slice_get_past (outs (bits None) n d.good) k (omega (arith, good, high)) ∙ sym (slice_get_past (outs (bits (Some f)) n d.faulty) k (omega (arith, faulty, high)))))
]
point_inside n sound f inputs state (Cell k) d = elim (cases_lt k (length (cells n))) [
  | inl low ↦ low
  | inr high ↦
      let good = length-next (bits None) n d.good sound in
      let faulty = length-next (bits (Some f)) n d.faulty sound in
      absurd (d.differs (slice_get_past (next (bits None) n d.good) k (omega (arith, good, high)) ∙ sym (slice_get_past (next (bits (Some f)) n d.faulty) k (omega (arith, faulty, high)))))
]
