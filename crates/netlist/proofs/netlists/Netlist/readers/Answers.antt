use Rattle.std.proofs.Common.{◌<◌, List, [], ap, ◌∙◌, get_or, length, subst, sym}
use Rattle.statement.specs.declared.lines.Line.{Line}
use Rattle.statement.specs.Netlists.{Netlist, signals, readers_of}
use Rattle.netlist.specs.Conditions.{whole}
use Rattle.netlist.proofs.ReaderTables.{readers_at}
use Rattle.netlist.proofs.netlists.Netlist.readers.Goals as goal

pub returns : goal.returns
returns c =
    let n = whole c.self.inside.parts in
    let x = c.args.id in
    let kept = c.self.invariant in
    c.readers.ensures ∙ (ap (λ (rows : List (List Line)). get_or rows x []) kept.readers_are
    ∙ (readers_at n kept.sound.formed.numbered x (subst (λ (m : Netlist). x < length (signals m)) (sym c.self.view_is) c.requires)
    ∙ ap (λ (m : Netlist). readers_of m x) c.self.view_is))
