-- A file of patterns by launch on capture launches these, and is that of these alone.
use Rattle.std.proofs.Common.{◌≡◌, ◌∙◌, ℕ, false, not, List, [], ◌∷◌, ◌++◌, ◌<◌, Bool, true, cond, arith, ap, sym, refl, subst, length, map, take, replicate}
use Rattle.std.specs.Prelude.{None}
use Rattle.std.specs.List.{All, AllZip, filter, zip}
use Rattle.std.proofs.lemmas.List.{length-map, nil_from_length}
use Rattle.std.proofs.lemmas.List.Elements.{All-cons, All-head, All-nil, All-tail}
use Rattle.statement.specs.declared.kinds.Tri.{Tri}
use Rattle.statement.specs.declared.kinds.Tri.TheVariants.{X}
use Rattle.statement.specs.Netlists.{Netlist, cells, name_of}
use Rattle.statement.specs.Patterns.{Holds, Pattern}
use Rattle.statement.specs.Values.{bits, known, next, outs}
use Rattle.statement.specs.Stils.{Call, Item, StilFile, Vector, where_chained}
use Rattle.statement.specs.Tests.{cells_of, Response, Responds, capture_item, flush}
use Rattle.netlist.specs.Conditions.{IsSound}
use Rattle.cubes.specs.Cubes.{IsPatternOf}
use Rattle.scan_insert.specs.Scanned.{AreChainsOf}
use Rattle.scan_play.proofs.Widths.{cells_count}
use Rattle.stil_vectors.specs.TestFiles.{load_words, text_of_bits}
use Rattle.stil_patterns.specs.Applied.{applied_in, cells_in, inputs_in, is_pattern, tests_in}
use Rattle.stil_patterns.proofs.BackLemmas.{applied_behind, inputs_back, load_back, same_pattern}
use Rattle.stil_patterns.proofs.OnceLemmas.{all_once, responds_once}
use Rattle.stil_patterns.proofs.PickLemmas.{all_picked}
use Rattle.transition_play.specs.LaunchVectors.{RespondsTwice, in_second_frame}
use Rattle.transition_files.specs.LaunchFiles.{IsLaunchFileOf, launch_file, launch_items, launched_items}
use Rattle.transition_files.specs.Laws.{OneLaunchPatternList}
use Rattle.transition_files.specs.inner.Reading.{every_second, launched_in}

-- ---- each twice

abbrev twice : List Pattern → List Pattern
twice [] = []
twice (p ∷ ps) = p ∷ p ∷ twice ps

once_of : (ps : List Pattern) → every_second (twice ps) ≡ ps
once_of [] = refl
once_of (p ∷ ps) = ap (λ (qs : List Pattern). p ∷ qs) (once_of ps)

all_twice : (P : Pattern → Type 0) (ps : List Pattern) → All P ps → All P (twice ps)
all_twice P [] h = All-nil P
all_twice P (p ∷ ps) h =
    let own = All-head P p ps h in
    All-cons P p (p ∷ twice ps) own (All-cons P p (twice ps) own (all_twice P ps (All-tail P p ps h)))

-- one pattern more
abbrev pub is_even : List Pattern → Bool
is_even [] = true
is_even (p ∷ ps) = not (is_even ps)

pub even_more : (ps : List Pattern) (p : Pattern) → is_even (ps ++ p ∷ []) ≡ not (is_even ps)
even_more [] p = refl
even_more (q ∷ ps) p = ap not (even_more ps p)

not_twice : (b : Bool) → not (not b) ≡ b
not_twice true = refl
not_twice false = refl

second_more : (ps : List Pattern) (p : Pattern) → every_second (ps ++ p ∷ []) ≡ every_second ps ++ cond (is_even ps) (p ∷ []) []
second_more [] p = refl
second_more (q ∷ []) p = refl
second_more (q ∷ s ∷ ps) p =
    ap (λ (ks : List Pattern). q ∷ ks) (second_more ps p ∙ ap (λ b. every_second ps ++ cond b (p ∷ []) []) (sym (not_twice (is_even ps))))

pub seconds_more : (ps : List Pattern) (p : Pattern) (keep : Bool) (old new : List Pattern) → old ≡ every_second ps → keep ≡ is_even ps → new ≡ old ++ cond keep (p ∷ []) []
    → new ≡ every_second (ps ++ p ∷ [])
seconds_more ps p keep old new e k n =
    n ∙ (ap (λ (ks : List Pattern). ks ++ cond keep (p ∷ []) []) e ∙ (ap (λ b. every_second ps ++ cond b (p ∷ []) []) k ∙ sym (second_more ps p)))

-- what is kept of patterns that obey obeys
pub seconds_obey : (P : Pattern → Type 0) (ps : List Pattern) → All P ps → All P (every_second ps)
seconds_obey P [] h = All-nil P
seconds_obey P (p ∷ []) h = h
seconds_obey P (p ∷ q ∷ ps) h =
    All-cons P p (every_second ps) (All-head P p (q ∷ ps) h) (seconds_obey P ps (All-tail P q ps (All-tail P p (q ∷ ps) h)))

-- ---- items

module _ (n : Netlist) (holds : Holds) (outs : ℕ) where
  abbrev obeys : Pattern → Type 0
  obeys = IsPatternOf n holds

  launched_back : (chain : List ℕ) (rest : List (List ℕ)) (before : Item) (held : List Tri) (ps : List Pattern) (rs : List Response)
      → length (cells n) ≡ length (cells_of (chain ∷ rest)) → All obeys ps → AllZip (RespondsTwice n) ps rs
      → applied_behind (length (chain ∷ rest)) (chain ∷ rest) before (launched_items outs (chain ∷ rest) held (zip ps rs)) ≡ ps
  launched_back chain rest before held [] rs size h a = refl
  launched_back chain rest before held (p ∷ ps) [] size h a = absurd a
  launched_back chain rest before held (p ∷ ps) (r ∷ rs) size h a =
      let chains = chain ∷ rest in
      let first = All-head obeys p ps h in
      let capture = capture_item chains p r in
      let after = applied_behind (length chains) chains capture (launched_items outs chains (map known r.cells) (zip ps rs)) in
      ap (λ (q : Pattern). q ∷ after)
      (same_pattern p (inputs_in (length chains) (text_of_bits (p.inputs ++ where_chained (length chains) false))) (cells_in chains (take (length chains) (load_words chains p.cells held)))
      (inputs_back (length chains) p.inputs) (load_back chains chains p.cells held refl (first.cells ∙ size)))
      ∙ ap (λ (qs : List Pattern). p ∷ qs) (launched_back chain rest capture (map known r.cells) ps rs size (All-tail obeys p ps h) a.1)

  -- without chains a launch and a capture drive the same
  both_back : (before : Item) (held : List Tri) (ps : List Pattern) (rs : List Response) → length (cells n) ≡ 0 → All obeys ps → AllZip (RespondsTwice n) ps rs
      → applied_behind 0 [] before (launched_items outs [] held (zip ps rs)) ≡ twice ps
  both_back before held [] rs size h a = refl
  both_back before held (p ∷ ps) [] size h a = absurd a
  both_back before held (p ∷ ps) (r ∷ rs) size h a =
      let first = All-head obeys p ps h in
      let capture = capture_item [] p r in
      let after = applied_behind 0 [] capture (launched_items outs [] (map known r.cells) (zip ps rs)) in
      ap (λ (q : Pattern). q ∷ q ∷ after)
      (same_pattern p (inputs_in 0 (text_of_bits (p.inputs ++ []))) [] (inputs_back 0 p.inputs) (sym (nil_from_length p.cells (first.cells ∙ size))))
      ∙ ap (λ (qs : List Pattern). p ∷ p ∷ qs) (both_back capture (map known r.cells) ps rs size (All-tail obeys p ps h) a.1)

-- ---- files

file_tests : (n : Netlist) (holds : Holds) (chains : List (List ℕ)) (ps : List Pattern) (f : StilFile) (is : IsLaunchFileOf n holds chains ps f)
    → applied_in n holds chains f ≡ filter (is_pattern n holds) (tests_in (length chains) chains (launch_items (length n.outputs) chains (zip ps is.responses)))
file_tests n holds chains ps f is =
    let items = launch_items (length n.outputs) chains (zip ps is.responses) in
    ap (applied_in n holds chains) is.is
    ∙ ap (λ k. filter (is_pattern n holds) (tests_in k chains items)) (length-map chains (map (name_of n)))

pub file_back : (n : Netlist) (holds : Holds) (chains : List (List ℕ)) (ps : List Pattern) (f : StilFile) → AreChainsOf n chains → All (IsPatternOf n holds) ps → IsLaunchFileOf n holds chains ps f
    → launched_in n holds chains f ≡ ps
file_back n holds [] ps f are h is =
    let nothing = replicate (length (cells_of [])) X in
    ap every_second (file_tests n holds [] ps f is
    ∙ (ap (filter (is_pattern n holds)) (both_back n holds (length n.outputs) (Vector []) nothing ps is.responses (cells_count n [] are) h is.respond)
    ∙ all_picked n holds (twice ps) (all_twice (IsPatternOf n holds) ps h))) ∙ once_of ps
file_back n holds (chain ∷ rest) ps f are h is =
    let chains = chain ∷ rest in
    let zeros = Call (load_words chains (replicate (length (cells_of chains)) false) (map known (map not (flush chains)))) in
    file_tests n holds chains ps f is
    ∙ (ap (filter (is_pattern n holds))
    (launched_back n holds (length n.outputs) chain rest zeros (replicate (length (cells_of chains)) X) ps is.responses (cells_count n chains are) h is.respond)
    ∙ all_picked n holds ps h)

-- what is read of a file, with chains and without
pub read_loads : (n : Netlist) (holds : Holds) (chains : List (List ℕ)) (f : StilFile) (read : List Pattern) → 0 < length chains
    → read ≡ applied_in n holds chains f → read ≡ launched_in n holds chains f
read_loads n holds [] f read some is = absurd (omega arith)
read_loads n holds (chain ∷ rest) f read some is = is

pub read_launches : (n : Netlist) (holds : Holds) (chains : List (List ℕ)) (f : StilFile) (read kept : List Pattern) → length chains ≡ 0
    → read ≡ applied_in n holds chains f → kept ≡ every_second read → kept ≡ launched_in n holds chains f
read_launches n holds [] f read kept none_there is kept_is = kept_is ∙ ap every_second is
read_launches n holds (chain ∷ rest) f read kept none_there is kept_is = absurd (omega (arith, none_there))

pub loads_obey : (n m : Netlist) (holds : Holds) (read : List Pattern) → m ≡ n → All (IsPatternOf m holds) read → All (IsPatternOf n holds) read
loads_obey n m holds read own h = subst (λ (o : Netlist). All (IsPatternOf o holds) read) own h

pub launches_obey : (n m : Netlist) (holds : Holds) (read kept : List Pattern) → m ≡ n → All (IsPatternOf m holds) read → kept ≡ every_second read
    → All (IsPatternOf n holds) kept
launches_obey n m holds read kept own h kept_is =
    let obeys = IsPatternOf n holds in
    subst (All obeys) (sym kept_is) (seconds_obey obeys read (loads_obey n m holds read own h))

pub one_launch_list : OneLaunchPatternList
one_launch_list n holds chains patterns others f sound are obey also h k = sym (file_back n holds chains patterns f are obey h) ∙ file_back n holds chains others f are also k

-- ---- one file

-- what the cells take in the first frame
first_taken : (n : Netlist) → IsSound n → (p : Pattern) (r s : Response) (h : RespondsTwice n p r) (k : RespondsTwice n p s) → next (bits None) n h.first ≡ next (bits None) n k.first
first_taken n sound p r s h k =
    let rule = bits None in
    let shown : (ℕ → Bool) → Response = λ values. record { outputs = outs rule n values; cells = next rule n values } in
    ap (λ (t : Response). t.cells)
    (responds_once n sound p (shown h.first) (shown k.first) (record { values = h.first; settles = h.settles; outputs = refl; cells = refl })
    (record { values = k.first; settles = k.settles; outputs = refl; cells = refl }))

twice_once : (n : Netlist) → IsSound n → (p : Pattern) (r s : Response) → RespondsTwice n p r → RespondsTwice n p s → r ≡ s
twice_once n sound p r s h k =
    let own = in_second_frame p (next (bits None) n k.first) in
    responds_once n sound own r s (subst (λ (bits : List Bool). Responds n None (in_second_frame p bits) r) (first_taken n sound p r s h k) h.second) k.second

one_file : (n : Netlist) (holds : Holds) (chains : List (List ℕ)) (patterns : List Pattern) (f g : StilFile) → IsSound n → IsLaunchFileOf n holds chains patterns f → IsLaunchFileOf n holds chains patterns g → f ≡ g
one_file n holds chains patterns f g sound h k =
    h.is ∙ (ap (λ (rs : List Response). launch_file n holds chains (zip patterns rs))
    (all_once (RespondsTwice n) (twice_once n sound) patterns h.responses k.responses h.respond k.respond) ∙ sym k.is)

-- the file of what another one launches is that other, or the other is that of no patterns
pub none_has : (n : Netlist) (holds : Holds) (chains : List (List ℕ)) (f own : StilFile) (read : List Pattern) → IsSound n → AreChainsOf n chains → read ≡ launched_in n holds chains f
    → IsLaunchFileOf n holds chains read own → (own ≡ f → ⊥) → (ps : List Pattern) → All (IsPatternOf n holds) ps → IsLaunchFileOf n holds chains ps f → ⊥
none_has n holds chains f own read sound are is made none ps obey h =
    none (one_file n holds chains read own f sound made (subst (λ (qs : List Pattern). IsLaunchFileOf n holds chains qs f) (sym (is ∙ file_back n holds chains ps f are obey h)) h))
