use Rattle.std.proofs.Common.{◌≡◌, ◌≢◌, ◌<◌, ℕ, subst, sym, arith}
use Rattle.statement.specs.Netlists.{Netlist, name_of}
use Rattle.netlist.specs.Netlist.{signal_count}
use Rattle.netlist.proofs.WellFormed.{names_counted}
use Rattle.name_index.proofs.NameLemmas.{found, found_nowhere}
use Rattle.name_index.proofs.NameIndex.get.Goals as goal

pub overflow_cast-result : goal.overflow_cast-result
overflow_cast-result c =
    let n = c.self.inside.netlist.now in
    let counted = names_counted n c.sound.ensures in
    let small = c.sound.ensures.sized.small in
    let l = (found c.self.inside.names.keys n.names c.args.name.now c.in-Some.place c.self.invariant c.in-Some.ensures.within (sym c.in-Some.ensures.index)).0 in
    omega arith

pub returns-in-Some : goal.returns-in-Some
returns-in-Some c =
    let n = c.self.inside.netlist.now in
    let place = c.in-Some.place in
    let counted = names_counted n c.sound.ensures in
    let w = found c.self.inside.names.keys n.names c.args.name.now place c.self.invariant c.in-Some.ensures.within (sym c.in-Some.ensures.index) in
    let l = w.0 in
    subst (λ (m : Netlist). (place < signal_count m) × (name_of m place ≡ c.args.name.now)) c.self.view_is (omega arith, w.1)

pub returns-in-None : goal.returns-in-None
returns-in-None c =
    let n = c.self.inside.netlist.now in
    let counted = names_counted n c.sound.ensures in
    subst (λ (m : Netlist). (x : ℕ) → x < signal_count m → name_of m x ≢ c.args.name.now) c.self.view_is
    (λ x l. found_nowhere c.self.inside.names.keys n.names c.args.name.now c.self.invariant (sym c.in-None.ensures.found) x (omega arith))
