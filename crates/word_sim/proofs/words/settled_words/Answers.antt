use Rattle.std.proofs.Common.{◌≡◌, ◌∙◌, List, ℕ, None, ap, subst, length}
use Rattle.std.proofs.lemmas.List.{length-map}
use Rattle.statement.specs.Netlists.{Definition, Netlist, cells}
use Rattle.statement.specs.Values.{Settles}
use Rattle.netlist.specs.Settled.{at}
use Rattle.events.specs.Words.{words}
use Rattle.word_sim.proofs.GoodLemmas.{good_for, good_words}
use Rattle.word_sim.proofs.words.settled_words.Goals as goal

pub returns-clause-good : goal.returns-clause-good
returns-clause-good c =
    let n = c.args.core.now in
    let width : length c.inputs.result.now ≡ length n.inputs = ap (λ (xs : List ℕ). length xs) c.inputs.ensures ∙ ap (λ (m : Netlist). length m.inputs) c.netlist-netlist.ensures in
    let height : length c.cells.result.now ≡ length (cells n) =
    ap (λ (xs : List ℕ). length xs) c.cells.ensures ∙ (length-map (cells c.netlist-netlist.result.now) (λ (d : Definition). d.id) ∙ ap (λ (m : Netlist). length (cells m)) c.netlist-netlist.ensures) in
    let settles = λ (d : ℕ). subst (λ (i : List ℕ). Settles (words None) n i c.in_ok-state.state.items (at c.in_ok-words.words.items d)) c.deref.ensures.value
    (subst (λ (s : List ℕ). Settles (words None) n c.deref.result.now s (at c.in_ok-words.words.items d)) c.deref-2.ensures.value (c.in_ok-words.ensures.settled d)) in
    good_for n c.args.patterns.now c.requires.few c.requires.wide c.in_ok-inputs.inputs.items c.in_ok-state.state.items c.in_ok-words.words.items (length c.inputs.result.now) (length c.cells.result.now)
    width height c.in_ok-inputs.ensures c.in_ok-state.ensures settles

pub returns-clause-words : goal.returns-clause-words
returns-clause-words c = good_words c.args.core.now c.args.patterns.now c.in_ok-words.words.items (returns-clause-good c) c.in_ok-words.ensures.size
