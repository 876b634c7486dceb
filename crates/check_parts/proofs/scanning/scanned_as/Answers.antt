use Rattle.std.proofs.Common.{sym, ◌∙◌}
use Rattle.check_parts.proofs.ChainLemmas.{text_as}
use Rattle.check_parts.proofs.Matches.{same_texts}
use Rattle.check_parts.proofs.scanning.scanned_as.Goals as goal

pub returns-then-eq : goal.returns-then-eq
returns-then-eq c =
    let made = c.in_ok-made.made in
    let text = text_as c.args.netlist.now c.args.count made c.netlist.result.now c.as_slice.result.now c.in_ok-made.ensures c.netlist.ensures (c.as_slice.ensures.value ∙ c.in-Ok.ensures) in
    let same = same_texts c.eq.result c.as_slice.result.now c.args.scan.now c.eq.ensures c.if-eq.true in
    (record { allowed = c.if-not-is_chain_count.ensures; text = sym same ∙ text }, c.in_ok-made.ensures)
