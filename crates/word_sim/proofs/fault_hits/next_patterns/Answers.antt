use Rattle.std.proofs.Common.{◌≡◌, ◌∙◌, List, ℕ, None, ap, subst, length}
use Rattle.std.proofs.lemmas.List.{length-map}
use Rattle.statement.specs.Netlists.{Definition, Netlist, cells}
use Rattle.statement.specs.Values.{Settles}
use Rattle.netlist.specs.Settled.{at}
use Rattle.events.specs.Words.{words}
use Rattle.word_sim.proofs.GoodLemmas.{good_for}
use Rattle.word_sim.proofs.fault_hits.next_patterns.Goals as goal

pub returns-clause-good : goal.returns-clause-good
returns-clause-good c =
    let n = c.args.events.now.netlist in
    let same : c.netlist-netlist.result.now ≡ n = c.netlist-netlist.ensures ∙ c.core.ensures in
    let width : length c.inputs.result.now ≡ length n.inputs = ap (λ (xs : List ℕ). length xs) c.inputs.ensures ∙ ap (λ (m : Netlist). length m.inputs) same in
    let height : length c.cells.result.now ≡ length (cells n) =
    ap (λ (xs : List ℕ). length xs) c.cells.ensures ∙ (length-map (cells c.netlist-netlist.result.now) (λ (d : Definition). d.id) ∙ ap (λ (m : Netlist). length (cells m)) same) in
    let settles = λ (d : ℕ). subst (λ (i : List ℕ). Settles (words None) n i c.in_ok-state.state.items (at c.drive.new.self.values d)) c.deref.ensures.value
    (subst (λ (s : List ℕ). Settles (words None) n c.deref.result.now s (at c.drive.new.self.values d)) c.deref-2.ensures.value
    (c.drive.ensures.settles.each c.requires.settled.inputs c.requires.settled.state d (c.requires.settled.settles d))) in
    good_for n c.args.patterns.now c.requires.few c.requires.wide c.in_ok-inputs.inputs.items c.in_ok-state.state.items c.drive.new.self.values (length c.inputs.result.now) (length c.cells.result.now)
    width height c.in_ok-inputs.ensures c.in_ok-state.ensures settles

pub returns-clause-settled : goal.returns-clause-settled
returns-clause-settled c =
    record {
      inputs = c.deref.result.now;
      state = c.deref-2.result.now;
      settles = λ d. c.drive.ensures.settles.each c.requires.settled.inputs c.requires.settled.state d (c.requires.settled.settles d);
    }
