use Rattle.std.proofs.Common.{◌≡◌, ◌<◌, length, get_or, ◌∙◌, arith}
use Rattle.std.proofs.lemmas.List.{get_or_default}
use Rattle.statement.specs.declared.lines.Line.TheVariants.{Stem}
use Rattle.netlist.proofs.Settling.{drive_more}
use Rattle.netlist.proofs.rules.drive.Goals as goal

pub loop-k-preserved : goal.loop-k-preserved
loop-k-preserved g c =
    let rule = g.L.Logic.rule c.args.logic.now in
    let ids = c.args.ids.now in
    let k = c.loop-k.k in
    let l : k < length ids = c.loop-k-test.true in
    let first : c.index-ids-k.result ≡ get_or ids k 0 = c.index-ids-k.is ∙ get_or_default ids k c.index-ids-k.result 0 l in
    let second : c.index-ids-k-in-loop-k.result ≡ get_or ids k 0 = c.index-ids-k-in-loop-k.is ∙ get_or_default ids k c.index-ids-k-in-loop-k.result 0 l in
    let here : c.index.result ≡ get_or ids k 0 = c.index.ensures ∙ second in
    let made : c.line.result ≡ rule.line (Stem c.index.result) c.index-driven-k.result = cc (c.line.ensures, first) in
    let low : get_or ids k 0 < length c.args.values.now.items = c.requires.below k 0 l in
    let size = c.loop-k.invariant.size in
    let enough = c.requires.enough in
    drive_more rule ids c.args.driven.now c.args.values.now.items c.loop-k.values.items k c.index.result c.line.result c.index-driven-k.result
    c.loop-k.invariant l (omega arith) (omega arith) here (λ j before same. c.requires.distinct j k 0 before l same) c.index-driven-k.is made
