use Rattle.std.proofs.Common.{◌++◌, map, ap, ◌∙◌}
use Rattle.std.specs.Prelude.{codes}
use Rattle.statement.specs.Benches.{name_at, port_line}
use Rattle.bench_text.specs.Canonical.{equation_line, ended}
use Rattle.bench_text.proofs.WriteLemmas.{outputs-writable, blocks}
use Rattle.cell_order.specs.Ordered.{definitions_at, in_places}
use Rattle.cell_order.proofs.writing.text_of.Goals as goal

pub push_ports-requires-2 : goal.push_ports-requires-2
push_ports-requires-2 c = outputs-writable c.args.netlist.now _ c.sound.ensures c.outputs.ensures

pub returns : goal.returns
returns c =
    let n = c.args.netlist.now in
    blocks _ _ _ _ (map (λ x. port_line (codes "INPUT") (name_at n.names x)) n.inputs) (map (λ x. port_line (codes "OUTPUT") (name_at n.names x)) n.outputs)
    (map (equation_line n.names) (in_places n.definitions (definitions_at n c.args.order.now))) c.new-out.ensures.items
    (c.in_ok-push_ports.ensures ∙ ap (λ l. c.new-out.result.items ++ ended (map (λ x. port_line (codes "INPUT") (name_at n.names x)) l)) c.inputs.ensures)
    (c.in_ok-push_ports-2.ensures ∙ ap (λ l. c.push_ports.new.out.items ++ ended (map (λ x. port_line (codes "OUTPUT") (name_at n.names x)) l)) c.outputs.ensures)
    c.in_ok-push_in_order.ensures
