use Rattle.std.proofs.Common.{◌≡◌, ◌+◌, List, [], ◌∷◌, ◌++◌, map, take, sym, ◌∙◌, ap, subst}
use Rattle.std.specs.List.{Contains}
use Rattle.std.proofs.lemmas.Grind.{take_at_read}
use Rattle.std.proofs.lemmas.List.{map-append}
use Rattle.statement.specs.declared.kinds.Tri.{Tri}
use Rattle.statement.specs.Netlists.{Netlist, signals}
use Rattle.pair_sim.specs.Sims.{Sim}
use Rattle.podem.specs.Sources.{all_sources, value_of}
use Rattle.podem.proofs.Owns.{source_signal}
use Rattle.podem.proofs.Values.{good_value}
use Rattle.podem.proofs.searching.source_values.Goals as goal

pub good-requires : goal.good-requires
good-requires c =
    let n = c.args.case.now.core.now in
    let source : Contains (all_sources n) c.id-item.result =
    subst (Contains (all_sources n)) (sym c.id-item.is) (c.requires.sources c.loop-id.id-index c.id-item.result c.loop-id-test.true) in
    subst (λ (m : Netlist). Contains (signals m) c.id-item.result) (sym (ap (λ (r : Sim). r.netlist) c.requires.of_case)) (source_signal n c.id-item.result source)

pub loop-id-preserved : goal.loop-id-preserved
loop-id-preserved c =
    let n = c.args.case.now.core.now in
    let holds = c.args.case.now.holds.now in
    let s = c.args.labels.now in
    let ids = c.args.ids.now in
    let x = c.id-item.result in
    let k = c.loop-id.id-index in
    let source : Contains (all_sources n) x = subst (Contains (all_sources n)) (sym c.id-item.is) (c.requires.sources k x c.loop-id-test.true) in
    let value : c.good.result ≡ value_of holds s.path x = good_value c.requires.case s x c.good.result c.requires.of_case source c.good.ensures in
    let more : take (k + 1) ids ≡ take k ids ++ x ∷ [] = (take_at_read ids k x c.loop-id-test.true).1 ∙ ap (λ y. take k ids ++ y ∷ []) (sym c.id-item.is) in
    c.in_ok-push.ensures.items ∙ (ap (λ (vs : List Tri). vs ++ c.good.result ∷ []) c.loop-id.invariant
    ∙ (ap (λ (v : Tri). map (value_of holds s.path) (take k ids) ++ v ∷ []) value
    ∙ (sym (map-append (value_of holds s.path) (take k ids) (x ∷ [])) ∙ ap (map (value_of holds s.path)) (sym more))))
