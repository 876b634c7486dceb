use Rattle.std.proofs.Common.{◌∙◌, ap, sym, subst}
use Rattle.statement.specs.Netlists.{Netlist}
use Rattle.good_files.specs.inner.Matching.{matched, unmatched}
use Rattle.netlist.specs.Conditions.{IsSound}
use Rattle.check_parts.proofs.HeldLemmas.{held_all, none_held_so}
use Rattle.check_parts.proofs.holding.holds_by.Goals as goal

pub returns-then-next-count : goal.returns-then-next-count
returns-then-next-count c =
    held_all c.args.core.now (subst IsSound c.netlist.ensures c.sound.ensures) c.args.lines.now c.hold_named-next.result c.hold_named-next.new.holds (c.hold_named-next.ensures.matched ∙ ap (λ (n : Netlist). matched n n.inputs c.args.lines.now) c.netlist-2.ensures) (c.hold_named-next.ensures.rest ∙ ap (λ (n : Netlist). unmatched n n.inputs c.args.lines.now) c.netlist-2.ensures) (c.if-next-count.true ∙ c.len-count.ensures)

pub returns-else-next-count : goal.returns-else-next-count
returns-else-next-count c =
    none_held_so c.args.core.now (subst IsSound c.netlist.ensures c.sound.ensures) c.args.lines.now c.hold_named-next.result c.hold_named-next.ensures.within (λ e. c.if-next-count.false (e ∙ sym c.len-count.ensures)) (c.hold_named-next.ensures.rest ∙ ap (λ (n : Netlist). unmatched n n.inputs c.args.lines.now) c.netlist-2.ensures)
