-- One file for patterns, and one list of patterns for a file.
use Rattle.std.proofs.Common.{◌≡◌, ◌∙◌, ℕ, suc, Bool, List, [], ◌∷◌, ◌++◌, ap, sym, refl, subst, arith, None}
use Rattle.std.specs.List.{All, AllZip, Contains, flat_map, zip}
use Rattle.std.proofs.lemmas.List.Elements.{All-contains}
use Rattle.statement.specs.declared.lines.Line.TheVariants.{Out}
use Rattle.statement.specs.Netlists.{Definition, Netlist, cells, is_cell, signals}
use Rattle.netlist.specs.Conditions.{IsSound}
use Rattle.statement.specs.Patterns.{Holds, Pattern}
use Rattle.statement.specs.Values.{bits, on_pins, pins_of}
use Rattle.netlist.proofs.Alike.{settles_once}
use Rattle.std.specs.Bool.{beq}
use Rattle.netlist.proofs.Lists.{contains_filter, decides_beq}
use Rattle.cubes.specs.Cubes.{IsPatternOf}
use Rattle.scan_insert.specs.Scanned.{AreChainsOf}
use Rattle.statement.specs.Tests.{Response, Responds, IsFileOf}
use Rattle.statement.specs.Stils.{StilFile}
use Rattle.stil_vectors.specs.TestFiles.{test_file}
use Rattle.stil_patterns.specs.Laws.{OneFile, OnePatternList}
use Rattle.stil_patterns.specs.Applied.{applied_in}
use Rattle.stil_patterns.proofs.BackLemmas.{taken_back}
use Rattle.stil_patterns.proofs.NameLemmas.{map_agree}

flat_agree : {X Y : Type 0} (f g : X → List Y) (xs : List X) → ((x : X) → Contains xs x → f x ≡ g x) → flat_map f xs ≡ flat_map g xs
flat_agree f g [] h = refl
flat_agree f g (x ∷ xs) h =
    ap (λ ys. ys ++ flat_map f xs) (h x (0, omega arith, refl)) ∙ ap (λ ys. g x ++ ys) (flat_agree f g xs (λ y c. h y (suc c.0, (let k = c.1 in omega (arith, k)), c.2)))

response : List Bool → List Bool → Response
response outputs cells = record { outputs = outputs; cells = cells }

same_response : (r s : Response) → r.outputs ≡ s.outputs → r.cells ≡ s.cells → r ≡ s
unfolding response
same_response r s o c = ap (λ x. response x r.cells) o ∙ ap (response s.outputs) c

pub responds_once : (n : Netlist) → IsSound n → (p : Pattern) (r s : Response) → Responds n None p r → Responds n None p s → r ≡ s
responds_once n sound p r s h k =
    let rule = bits None in
    let same : (x : ℕ) → Contains (signals n) x → h.values x ≡ k.values x = λ x c. settles_once beq decides_beq rule n p.inputs p.cells h.values k.values sound.closed sound.acyclic h.settles k.settles x c in
    same_response r s
    (h.outputs ∙ (map_agree (λ x. rule.line (Out x) (h.values x)) (λ x. rule.line (Out x) (k.values x)) n.outputs
    (λ x c. ap (rule.line (Out x)) (same x (All-contains (Contains (signals n)) n.outputs x sound.closed.outputs c))) ∙ sym k.outputs))
    (h.cells ∙ (flat_agree (pins_of rule h.values) (pins_of rule k.values) (cells n)
    (λ d c. ap (on_pins rule d.id 0) (map_agree h.values k.values d.pins
    (λ x m. same x (All-contains (Contains (signals n)) d.pins x
    (All-contains (λ (e : Definition). All (Contains (signals n)) e.pins) n.definitions d sound.closed.pins (contains_filter is_cell n.definitions d c).0) m)))) ∙ sym k.cells))

-- of a relation by which a pattern has one response
pub all_once : (R : Pattern → Response → Type 0) → ((p : Pattern) (r s : Response) → R p r → R p s → r ≡ s)
    → (ps : List Pattern) (rs ss : List Response) → AllZip R ps rs → AllZip R ps ss → rs ≡ ss
all_once R once [] [] [] h k = refl
all_once R once [] [] (s ∷ ss) h k = absurd k
all_once R once [] (r ∷ rs) ss h k = absurd h
all_once R once (p ∷ ps) [] ss h k = absurd h
all_once R once (p ∷ ps) (r ∷ rs) [] h k = absurd k
all_once R once (p ∷ ps) (r ∷ rs) (s ∷ ss) h k = ap (λ x. x ∷ rs) (once p r s h.0 k.0) ∙ ap (λ xs. s ∷ xs) (all_once R once ps rs ss h.1 k.1)

pub one_file : OneFile
one_file n holds chains patterns f g sound h k =
    h.is ∙ (ap (λ (rs : List Response). test_file n holds chains (zip patterns rs)) (all_once (Responds n None) (responds_once n sound) patterns h.responses k.responses h.respond k.respond) ∙ sym k.is)

applies : (n : Netlist) (holds : Holds) (chains : List (List ℕ)) (ps : List Pattern) (f : StilFile) → AreChainsOf n chains → All (IsPatternOf n holds) ps → IsFileOf n holds chains ps f → applied_in n holds chains f ≡ ps
applies n holds chains ps f are obey h = taken_back n n holds holds chains chains ps f are are refl refl obey h

pub one_pattern_list : OnePatternList
one_pattern_list n holds chains patterns others f sound are obey also h k = sym (applies n holds chains patterns f are obey h) ∙ applies n holds chains others f are also k

-- the file of what another one applies is that other, or the other is that of no patterns
pub none_has : (n : Netlist) (holds : Holds) (chains : List (List ℕ)) (f own : StilFile) (read : List Pattern) → IsSound n → AreChainsOf n chains → read ≡ applied_in n holds chains f
    → IsFileOf n holds chains read own → (own ≡ f → ⊥) → (ps : List Pattern) → All (IsPatternOf n holds) ps → IsFileOf n holds chains ps f → ⊥
none_has n holds chains f own read sound are is made none ps obey h =
    none (one_file n holds chains read own f sound made (subst (λ (qs : List Pattern). IsFileOf n holds chains qs f) (sym (is ∙ applies n holds chains ps f are obey h)) h))
