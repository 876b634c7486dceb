use Rattle.std.proofs.Common.{ℕ, None, Option, arith, ap, replicate, ◌∙◌, subst}
use Rattle.check_parts.specs.Firsts.{AreFirst, IsNoted}
use Rattle.check_parts.proofs.RowLemmas.{all_rows}
use Rattle.check_parts.proofs.FirstLemmas.{fault_at, none_yet, noted_first, stands_in}
use Rattle.check_parts.proofs.firsts.places_of.Goals as goal

pub loop-k-init : goal.loop-k-init
loop-k-init c = none_yet c.args.netlist.now c.sound.ensures c.faults_have_lines.ensures c.faults_have_signals.ensures c.args.evidence.now c.in_ok-places.places.items (c.in_ok-places.ensures ∙ ap (λ (k : ℕ). replicate {A = Option ℕ} k None) (all_rows c.args.netlist.now c.args.starts.now c.requires.starts))

pub spot_of-spot-requires-clause-member : goal.spot_of-spot-requires-clause-member
spot_of-spot-requires-clause-member c = stands_in c.args.netlist.now c.args.evidence.now c.loop-k.k c.index-evidence-k.result c.loop-k-test.true c.index-evidence-k.is c.requires.each

pub loop-k-preserved : goal.loop-k-preserved
loop-k-preserved c =
    let n = c.args.netlist.now in
    let p = c.index-evidence-k.result in
    let member = stands_in n c.args.evidence.now c.loop-k.k p c.loop-k-test.true c.index-evidence-k.is c.requires.each in
    noted_first n c.sound.ensures c.faults_have_lines.ensures c.faults_have_signals.ensures c.args.evidence.now c.loop-k.k p.0
    (fault_at c.args.evidence.now c.loop-k.k p c.loop-k-test.true c.index-evidence-k.is) member c.loop-k.places.items c.note.new.places.items
    (subst (λ (s : ℕ). IsNoted c.loop-k.places.items c.note.new.places.items s c.loop-k.k) c.spot_of-spot.ensures.spot c.note.ensures)
    c.loop-k.invariant

pub returns : goal.returns
returns c =
    let stop = c.loop-k-test.false in
    subst (λ (k : ℕ). AreFirst c.args.netlist.now c.args.evidence.now k c.loop-k.places.items) (omega arith) c.loop-k.invariant
