use Rattle.std.proofs.Common.{List, Option, ℕ, subst, sym}
use Rattle.std.specs.List.{AllZip}
use Rattle.statement.specs.declared.lines.Point.{Point}
use Rattle.word_sim.specs.Hits.{LastDetected}
use Rattle.word_sim.proofs.Leaving.{all_of_told, all_told}
use Rattle.word_sim.proofs.leaving_out.told_of_all.Goals as goal

pub returns : goal.returns
returns c n patterns faults never last =
    let own = all_of_told c.args.marks.now c.args.told.now c.loop-k.k c.loop-k.next c.loop-k.all.items c.loop-k-test.false c.loop-k.invariant.1 in
    subst (λ (told : List (Option (ℕ × Point))). AllZip (LastDetected n patterns) faults told) (sym own) (all_told n patterns c.args.marks.now faults c.args.told.now never last)
