use Rattle.std.proofs.Common.{false, true, refl, map, length, replicate, List, ℕ, ap, ◌∙◌}
use Rattle.statement.specs.declared.kinds.Tri.TheVariants.{X}
use Rattle.statement.specs.Tests.{by_chain, column, word_in, word_out}
use Rattle.scan_play.proofs.BurstLemmas.{enough, column_width, load_cycles}
use Rattle.scan_play.proofs.loading.load.Goals as goal

pub invariant_of-result : goal.invariant_of-result
invariant_of-result c =
    let chains = c.args.chains.now in
    let m = c.longest-count.result in
    record {
      ins_enough = enough (column false (map (word_in m) (by_chain chains c.args.bits.now))) c.in_ok-ins.ins.items m c.count-width.result (length chains) c.in_ok-ins.ensures c.count-width.ensures
          (column_width false (word_in m) chains c.args.bits.now);
      outs_enough = enough (column X (map (word_out m) (by_chain chains c.args.held.now))) c.in_ok-outs.outs.items m c.count-width.result (length chains) c.in_ok-outs.ensures c.count-width.ensures
          (column_width X (word_out m) chains c.args.held.now);
    }

pub returns : goal.returns
returns c =
    load_cycles c.in_ok-drive.drive.items c.in_ok-strobe.strobe.items true c.count-width.result c.longest-count.result c.in_ok-ins.ins.items c.in_ok-outs.outs.items
    c.args.netlist.now c.args.holds.now c.args.chains.now c.args.bits.now c.args.held.now
    c.in_ok-drive.ensures
    (c.in_ok-strobe.ensures ∙ ap (λ (xs : List ℕ). replicate (length xs) X) c.outputs.ensures)
    refl c.count-width.ensures c.longest-count.ensures c.in_ok-ins.ensures c.in_ok-outs.ensures
