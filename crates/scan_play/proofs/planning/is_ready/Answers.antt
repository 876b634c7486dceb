use Rattle.std.proofs.Common.{◌≡◌, true, ap, sym, ◌∙◌, inl, inr}
use Rattle.std.proofs.lemmas.Bool.{not_from_false, not-true}
use Rattle.statement.specs.Netlists.{is_cell, is_flip_flop}
use Rattle.netlist.specs.Netlist.{is_gate}
use Rattle.netlist.proofs.Lists.{filter_contains}
use Rattle.scan_play.proofs.PlanMarks.{cell_there}
use Rattle.scan_play.proofs.planning.is_ready.Goals as goal

pub returns-then-is_flip_flop : goal.returns-then-is_flip_flop
returns-then-is_flip_flop c e =
    inr (inl (cell_there c.args.netlist.now c.args.x c.definition.result.now c.definition.ensures.member c.definition.ensures.same
    (ap is_flip_flop (sym c.kind.ensures) ∙ (sym c.is_flip_flop.ensures ∙ c.if-is_flip_flop.true))))

pub returns : goal.returns
returns c e =
    let d = c.definition.result.now in
    let gate : is_gate d ≡ true = not_from_false (is_cell d) (ap is_flip_flop (sym c.kind.ensures) ∙ (sym c.is_flip_flop.ensures ∙ c.if-is_flip_flop.false)) in
    inr (inr (inl (
      (d, filter_contains is_gate c.args.netlist.now.definitions d c.definition.ensures.member gate, c.definition.ensures.same),
      sym c.is_unknown.ensures ∙ not-true c.is_unknown.result e,
    )))
