use Rattle.std.proofs.Common.{◌≡◌, ◌-◌, ◌<◌, ℕ, ap, ◌∙◌, length, arith}
use Rattle.statement.specs.Netlists.{Netlist, Definition as Equation, signals}
use Rattle.netlist.specs.Conditions.{whole}
use Rattle.netlist.proofs.Placed.{signals_length, id_at}
use Rattle.netlist.proofs.netlists.Netlist.definition.Goals as goal

pub returns-clause-same : goal.returns-clause-same
returns-clause-same c =
    let parts = c.self.inside.parts in
    let n = whole parts in
    let k : ℕ = c.index.result - c.len.result in
    let d = c.index-2.result.now in
    let li : length parts.inputs.items ≡ length c.args.self.now.inputs = ap (λ (m : Netlist). length m.inputs) c.self.view_is in
    let ls : length (signals n) ≡ length (signals c.args.self.now) = ap (λ (m : Netlist). length (signals m)) c.self.view_is in
    let size = signals_length n in
    let i = parts.inputs.ok.0 in
    let e = c.index.ensures in
    let f = c.len.ensures in
    let a = c.requires.defined in
    let b = c.requires.within in
    let low : k < length parts.definitions.items = omega arith in
    ap (λ (q : Equation). q.id) c.index-2.ensures ∙ (id_at n c.self.invariant.sound.formed.numbered k d low ∙ omega arith)
