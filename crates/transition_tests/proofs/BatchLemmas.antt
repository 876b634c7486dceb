-- The batch of drawn patterns: how it grows, that they are 64, that they are patterns of the netlist, and which faults it leaves.
use Rattle.std.proofs.Common.{◌≡◌, not, ℕ, zero, suc, ◌+◌, ◌-◌, ◌<◌, ◌≤◌, Bool, true, false, List, [], ◌∷◌, ◌++◌, length, map, append_assoc, append-nil, replicate, take, get_or, Option, refl, sym, ◌∙◌, ap, arith}
use Rattle.std.specs.List.{All}
use Rattle.std.specs.Option.{is_some}
use Rattle.statement.specs.declared.lines.Point.{Point}
use Rattle.std.proofs.lemmas.List.{length-replicate, map_push, take_more}
use Rattle.std.proofs.lemmas.List.Elements.{All-replicate}
use Rattle.std.proofs.lemmas.Slice.Zip.{AllZip-long}
use Rattle.rand_core.specs.Stream.{Stream}
use Rattle.netlist.specs.Holds.{AreHoldsOf}
use Rattle.statement.specs.Netlists.{Netlist}
use Rattle.cubes.specs.Cubes.{Cube, AgreesWith, IsCubeOf, IsPatternOf, open_cube}
use Rattle.cubes.proofs.OpenLemmas.{open_fits}
use Rattle.statement.specs.Patterns.{Holds, Pattern}
use Rattle.cubes.specs.Filling.{filled_cube, words_after_cube, filled_all}
use Rattle.cubes.proofs.FillLemmas.{filled_agree, filled_fit}
use Rattle.transition_tests.specs.Batches.{drawn}

-- ---- whether each fault is left, one after the other

flipped : (a b : Bool) → b ≡ not a → a ≡ not b
flipped true b e = sym (ap not e)
flipped false b e = sym (ap not e)

pub undetected_more : (ls : List (Option (ℕ × Point))) (k : ℕ) (d : Option (ℕ × Point)) (old new : List Bool) (b : Bool) → k < length ls → is_some (get_or ls k d) ≡ not b
    → old ≡ map (λ (o : Option (ℕ × Point)). not (is_some o)) (take k ls) → new ≡ old ++ b ∷ [] → new ≡ map (λ (o : Option (ℕ × Point)). not (is_some o)) (take (k + 1) ls)
undetected_more ls k d old new b lt not_is before added =
    let is : b ≡ not (is_some (get_or ls k d)) = flipped b (is_some (get_or ls k d)) not_is in
    let IsLeft : Option (ℕ × Point) → Bool = λ o. not (is_some o) in
    added ∙ (ap (λ (bs : List Bool). bs ++ b ∷ []) before ∙ (ap (λ (w : Bool). map IsLeft (take k ls) ++ w ∷ []) is
    ∙ (sym (map_push IsLeft (take k ls) (get_or ls k d)) ∙ ap (λ (os : List (Option (ℕ × Point))). map IsLeft os) (sym (take_more ls k d lt)))))

-- ---- one pattern more

drawn_none : (c : Cube) (words : Stream) → drawn zero c words ≡ []
unfolding drawn
drawn_none c words = refl

drawn_more : (count : ℕ) (c : Cube) (words : Stream) → drawn (suc count) c words ≡ filled_cube c words ∷ drawn count c (words_after_cube c words)
unfolding drawn
drawn_more count c words = refl

pub drawn_step : (count k : ℕ) (c : Cube) (words left : Stream) (old new all : List Pattern) (p : Pattern) → k < count → old ++ drawn (count - k) c words ≡ all
    → p ≡ filled_cube c words → left ≡ words_after_cube c words → new ≡ old ++ p ∷ [] → new ++ drawn (count - (k + 1)) c left ≡ all
drawn_step count k c words left old new all p lt before is rest added =
    let m : ℕ = count - (k + 1) in
    let size : count - k ≡ suc m = omega arith in
    let next : drawn (count - k) c words ≡ p ∷ drawn m c left =
    ap (λ (i : ℕ). drawn i c words) size ∙ (drawn_more m c words
    ∙ (ap (λ (q : Pattern). q ∷ drawn m c (words_after_cube c words)) (sym is) ∙ ap (λ (w : Stream). p ∷ drawn m c w) (sym rest))) in
    ap (λ (ps : List Pattern). ps ++ drawn m c left) added ∙ (append_assoc old (p ∷ []) (drawn m c left)
    ∙ (ap (λ (ps : List Pattern). old ++ ps) (sym next) ∙ before))

pub drawn_end : (count k : ℕ) (c : Cube) (words : Stream) (old all : List Pattern) → count ≤ k → old ++ drawn (count - k) c words ≡ all → old ≡ all
drawn_end count k c words old all le before =
    let done : count - k ≡ zero = omega arith in
    let none : drawn (count - k) c words ≡ [] = ap (λ (i : ℕ). drawn i c words) done ∙ drawn_none c words in
    sym (append-nil old) ∙ (ap (λ (ps : List Pattern). old ++ ps) (sym none) ∙ before)

-- ---- all of them

drawn_length : (count : ℕ) (c : Cube) (words : Stream) → length (drawn count c words) ≡ length (replicate count c)
unfolding drawn
drawn_length count c words = sym (AllZip-long AgreesWith (drawn count c words) (replicate count c) (filled_agree (replicate count c) words))

pub drawn_count : (count : ℕ) (c : Cube) (words : Stream) → length (drawn count c words) ≡ count
drawn_count count c words = drawn_length count c words ∙ length-replicate count c

pub drawn_obey : (n : Netlist) (holds : Holds) → AreHoldsOf n holds → (count : ℕ) (words : Stream) → All (IsPatternOf n holds) (drawn count (open_cube n holds) words)
unfolding drawn
drawn_obey n holds are count words =
    let cs : List Cube = replicate count (open_cube n holds) in
    filled_fit n holds cs (filled_all cs words) (filled_agree cs words) (All-replicate (IsCubeOf n holds) count (open_cube n holds) (open_fits n holds are))
