use Rattle.std.proofs.Common.{◌<◌, ◌∙◌, ℕ, List, sym, subst}
use Rattle.std.specs.List.{All}
use Rattle.head_lines.proofs.Chains.{bound_now, pins_below}
use Rattle.head_lines.proofs.room.bind.Goals as goal

pub end_at_all-requires : goal.end_at_all-requires
end_at_all-requires c =
    let pins : List ℕ = c.gate_pins.result.now in
    subst (λ (m : ℕ). All (λ x. x < m) pins) (sym (c.in_ok-put.ensures.put.size ∙ c.requires.size))
    (pins_below c.args.netlist.now c.sound.ensures c.args.id pins c.gate_pins.ensures.are)

pub returns-clause-bound : goal.returns-clause-bound
returns-clause-bound c =
    bound_now c.args.netlist.now c.args.id c.args.roles.now.items c.put.new.roles.items c.end_at_all.new.roles.items c.gate_pins.result.now c.in_ok-put.ensures.put
    c.in_ok-end_at_all.ensures.heads c.gate_pins.ensures.are c.gate_pins.ensures.all

pub returns-clause-beside : goal.returns-clause-beside
returns-clause-beside c base h = c.in_ok-end_at_all.ensures.beside base (c.in_ok-put.ensures.beside base h)
