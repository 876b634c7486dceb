use Rattle.std.proofs.Common.{◌≡◌, ℕ, List, map, sym, ◌∙◌, ap, subst}
use Rattle.std.specs.List.{All, Contains}
use Rattle.std.proofs.lemmas.List.Elements.{Contains-append_left, Contains-append_right}
use Rattle.statement.specs.declared.kinds.Tri.{Tri}
use Rattle.statement.specs.Netlists.{Definition, Netlist, cells}
use Rattle.netlist.proofs.Lists.{All-from_contains, map_map}
use Rattle.tri.specs.Paths.{Path}
use Rattle.cubes.specs.Cubes.{Cube}
use Rattle.redundancy_cert.specs.TestCubes.{IsTestCube}
use Rattle.pair_sim.specs.Sims.{Sim}
use Rattle.podem.specs.Sources.{all_sources, value_of, cube_of}
use Rattle.podem.proofs.Tests.{test_cube}
use Rattle.podem.proofs.searching.cube_there.Goals as goal

pub source_values-requires-clause-sources : goal.source_values-requires-clause-sources
source_values-requires-clause-sources c =
    let n = c.args.case.now.core.now in
    subst (λ (xs : List ℕ). All (Contains (all_sources n)) xs) (sym (c.inputs.ensures ∙ ap (λ (m : Netlist). m.inputs) c.netlist-netlist.ensures))
    (All-from_contains (Contains (all_sources n)) n.inputs (λ x m. Contains-append_left n.inputs (map (λ (d : Definition). d.id) (cells n)) x m))

pub source_values-requires-2-clause-sources : goal.source_values-requires-2-clause-sources
source_values-requires-2-clause-sources c =
    let n = c.args.case.now.core.now in
    subst (λ (xs : List ℕ). All (Contains (all_sources n)) xs) (sym (c.cells.ensures ∙ ap (λ (m : Netlist). map (λ (d : Definition). d.id) (cells m)) c.netlist-netlist.ensures))
    (All-from_contains (Contains (all_sources n)) (map (λ (d : Definition). d.id) (cells n)) (λ x m. Contains-append_right n.inputs (map (λ (d : Definition). d.id) (cells n)) x m))

pub returns : goal.returns
returns c =
    let f = c.args.case.now.fault in
    let n = c.args.case.now.core.now in
    let holds = c.args.case.now.holds.now in
    let s = c.args.labels.now in
    let path : Path = c.requires.test.path in
    let same : s.path ≡ path = ap (λ (r : Sim). r.path) c.requires.test.at in
    let inputs : c.in_ok-inputs.inputs.items ≡ map (value_of holds path) n.inputs =
    c.in_ok-inputs.ensures ∙ (ap (map (value_of holds s.path)) (c.inputs.ensures ∙ ap (λ (m : Netlist). m.inputs) c.netlist-netlist.ensures)
    ∙ ap (λ p. map (value_of holds p) n.inputs) same) in
    let states : c.in_ok-cells.cells.items ≡ map (λ (d : Definition). value_of holds path d.id) (cells n) =
    c.in_ok-cells.ensures ∙ (ap (map (value_of holds s.path)) (c.cells.ensures ∙ ap (λ (m : Netlist). map (λ (d : Definition). d.id) (cells m)) c.netlist-netlist.ensures)
    ∙ (ap (λ p. map (value_of holds p) (map (λ (d : Definition). d.id) (cells n))) same ∙ map_map (λ (d : Definition). d.id) (value_of holds path) (cells n))) in
    let cube : c.new.result ≡ cube_of n holds path =
    c.new.ensures ∙ (ap (λ (xs : List Tri). record { inputs = xs; cells = c.in_ok-cells.cells.items }) inputs
    ∙ ap (λ (xs : List Tri). record { inputs = map (value_of holds path) n.inputs; cells = xs }) states) in
    subst (λ (k : Cube). IsTestCube f n holds k c.args.point.now) (sym cube) (test_cube f n holds c.requires.case.fit c.requires.case.sound path c.requires.test.only c.args.point.now c.requires.test.test)
