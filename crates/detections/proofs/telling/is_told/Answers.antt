use Rattle.std.proofs.Common.{◌≡◌, ◌*◌, ◌%◌, ◌^◌, true, ℕ, length, sym, subst, arith}
use Rattle.std.specs.Prelude.{◌↔◌}
use Rattle.observed_points.specs.Points.{point_of}
use Rattle.word_sim.specs.inner.Packed.{IsMarked}
use Rattle.detections.specs.Times.{IsDetectedBy}
use Rattle.detections.proofs.Alone.{no_other_bit, one_bit, one_told}
use Rattle.detections.proofs.telling.is_told.Goals as goal

pub returns-clause-told : goal.returns-clause-told
returns-clause-told c patterns good l =
    let n = c.args.events.now.netlist in
    let j = c.args.j in
    let marked : IsMarked (length patterns) (1 * 2 ^ c.args.j % 2 ^ 64) = λ i low b. let e : i ≡ c.args.j = no_other_bit c.args.j i c.requires.low b in omega arith in
    subst (λ b. (b ≡ true) ↔ IsDetectedBy c.args.events.now.netlist patterns c.args.fault.now c.args.j) (sym c.is_some.ensures)
    (one_told n patterns c.args.fault.now j (1 * 2 ^ c.args.j % 2 ^ 64) c.last_marked.result (λ (w : ℕ × ℕ). (w.0, point_of c.args.events.now.netlist w.1)) (one_bit j c.requires.low)
    (λ i b. no_other_bit c.args.j i c.requires.low b) (c.last_marked.ensures.found patterns good marked))
