use Rattle.std.proofs.Common.{◌≡◌, ℕ, false, Bool, List, length, get_or, ap, subst, sym, arith}
use Rattle.std.specs.List.{All}
use Rattle.statement.specs.Patterns.{Pattern}
use Rattle.word_sim.specs.Words.{HasWidthsOf}
use Rattle.detections.specs.Times.{AreNeededMarks}
use Rattle.list_core.proofs.KeepLemmas.{kept_all, kept_few}
use Rattle.run_files.proofs.last.last_few.Goals as goal

pub returns-clause-few : goal.returns-clause-few
returns-clause-few c =
    let n = c.args.core.now in
    let times = c.args.times in
    let faults = c.args.faults.now in
    let marks = c.deref-2.result.now in
    let same : c.in_ok-needed.field-0.needed.items ≡ marks = cc (c.deref-2.ensures.value, c.in_ok-needed.needed-is) in
    record {
      marks = marks;
      needed = subst (λ (ms : List Bool). AreNeededMarks n c.args.patterns.items times faults ms) same
          (subst (λ (ps : List Pattern). AreNeededMarks n ps times faults c.in_ok-needed.field-0.needed.items) c.deref.ensures.value c.in_ok-needed.ensures.needed);
      kept_are = c.in_ok-kept.ensures;
    }

pub returns-clause-fewer : goal.returns-clause-fewer
returns-clause-fewer c =
    let size = ap length c.in_ok-kept.ensures in
    omega (arith, size, kept_few (λ (i : ℕ). get_or c.deref-2.result.now i false) 0 c.args.patterns.items)

pub returns-clause-wide : goal.returns-clause-wide
returns-clause-wide c =
    let P : Pattern → Type 0 = HasWidthsOf c.args.core.now in
    subst (λ (ps : List Pattern). All P ps) (sym c.in_ok-kept.ensures) (kept_all P (λ i. get_or c.deref-2.result.now i false) 0 c.args.patterns.items c.requires.wide)
