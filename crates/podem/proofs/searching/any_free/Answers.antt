use Rattle.std.proofs.Common.{◌∙◌, ℕ, List, map, sym, ap, subst}
use Rattle.std.specs.List.{All, Contains}
use Rattle.std.proofs.lemmas.List.Elements.{Contains-append_left, Contains-append_right}
use Rattle.statement.specs.Netlists.{Definition, Netlist, cells, signals}
use Rattle.pair_sim.specs.Sims.{Sim}
use Rattle.podem.proofs.Owns.{inputs_signals, cells_signals}
use Rattle.podem.specs.inner.Searching.{IsKnownAt}
use Rattle.podem.proofs.Steps.{some_free, chosen_from}
use Rattle.podem.proofs.searching.any_free.Goals as goal

pub first_free-requires : goal.first_free-requires
first_free-requires c =
    let s = c.args.labels.now in
    subst (λ (m : Netlist). All (Contains (signals m)) c.inputs.result.now) (sym (ap (λ (r : Sim). r.netlist) c.requires.1.at.at))
    (subst (λ (xs : List ℕ). All (Contains (signals c.args.case.now.core.now)) xs) (sym (c.inputs.ensures ∙ ap (λ (m : Netlist). m.inputs) c.netlist-netlist.ensures))
    (inputs_signals c.args.case.now.core.now))

pub first_free-requires-in-None : goal.first_free-requires-in-None
first_free-requires-in-None c =
    let s = c.args.labels.now in
    subst (λ (m : Netlist). All (Contains (signals m)) c.cells.result.now) (sym (ap (λ (r : Sim). r.netlist) c.requires.1.at.at))
    (subst (λ (xs : List ℕ). All (Contains (signals c.args.case.now.core.now)) xs) (sym (c.cells.ensures ∙ ap (λ (m : Netlist). map (λ (d : Definition). d.id) (cells m)) c.netlist-netlist.ensures))
    (cells_signals c.args.case.now.core.now))

pub unreachable-requires : goal.unreachable-requires
unreachable-requires c =
    let s = c.args.labels.now in
    some_free c.requires.1
    (subst (λ (xs : List ℕ). All (IsKnownAt s) xs) (c.inputs.ensures ∙ ap (λ (m : Netlist). m.inputs) c.netlist-netlist.ensures) c.in-None.ensures)
    (subst (λ (xs : List ℕ). All (IsKnownAt s) xs) (c.cells.ensures ∙ ap (λ (m : Netlist). map (λ (d : Definition). d.id) (cells m)) c.netlist-netlist.ensures) c.in-None-first_free.ensures)

pub returns-in-Some : goal.returns-in-Some
returns-in-Some c =
    let n = c.args.case.now.core.now in
    let inside : Contains n.inputs c.in-Some.signal =
    subst (λ (xs : List ℕ). Contains xs c.in-Some.signal) (c.inputs.ensures ∙ ap (λ (m : Netlist). m.inputs) c.netlist-netlist.ensures) c.in-Some.ensures.0 in
    chosen_from c.requires.1.at c.in-Some.signal (Contains-append_left n.inputs (map (λ (d : Definition). d.id) (cells n)) c.in-Some.signal inside) c.in-Some.ensures.1

pub returns-in-Some-first_free : goal.returns-in-Some-first_free
returns-in-Some-first_free c =
    let n = c.args.case.now.core.now in
    let inside : Contains (map (λ (d : Definition). d.id) (cells n)) c.in-Some-first_free.signal =
    subst (λ (xs : List ℕ). Contains xs c.in-Some-first_free.signal) (c.cells.ensures ∙ ap (λ (m : Netlist). map (λ (d : Definition). d.id) (cells m)) c.netlist-netlist.ensures) c.in-Some-first_free.ensures.0 in
    chosen_from c.requires.1.at c.in-Some-first_free.signal (Contains-append_right n.inputs (map (λ (d : Definition). d.id) (cells n)) c.in-Some-first_free.signal inside) c.in-Some-first_free.ensures.1
