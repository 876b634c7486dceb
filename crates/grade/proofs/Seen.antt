-- On the vectors of patterns the strobes that are wrong in the three-valued run with a fault of the design are those of the points at which patterns detect it.
use Rattle.std.proofs.Common.{◌≡◌, ℕ, suc, zero, ◌*◌, ◌⊎◌, Bool, true, false, not, List, [], ◌∷◌, length, get_or, replicate, Option, Some, None, slice_get, refl, sym, ◌∙◌, ap, subst, inl, inr, arith}
use Rattle.std.specs.List.{AllZip, zip}
use Rattle.std.proofs.lemmas.Bool.{cases_lt}
use Rattle.std.proofs.lemmas.List.{length-map}
use Rattle.std.proofs.lemmas.Option.{same_Some, slice_get-get_or, slice_get_within}
use Rattle.statement.specs.declared.kinds.Tri.{Tri}
use Rattle.statement.specs.declared.kinds.Tri.TheVariants.{X, Zero, One}
use Rattle.statement.specs.declared.lines.Fault.{Fault}
use Rattle.statement.specs.declared.lines.Point.{Point}
use Rattle.statement.specs.declared.lines.Point.TheVariants.{Output, Cell}
use Rattle.statement.specs.Netlists.{Netlist, cells}
use Rattle.statement.specs.Patterns.{Detects, Holds, Pattern}
use Rattle.netlist.specs.Lines.{IsLineOf}
use Rattle.netlist.specs.Conditions.{IsSound}
use Rattle.statement.specs.Values.{bits, known}
use Rattle.tri.specs.Settled.{tri_table}
use Rattle.statement.specs.Tests.{cells_of, longest_of, Response, Responds}
use Rattle.statement.specs.Runs.{Cycle, Runs, strobe_at, shown_at}
use Rattle.scan_insert.specs.Scanned.{AreChainsOf, scanned_of, sites_of}
use Rattle.scan_play.specs.Passing.{IsWrong}
use Rattle.scan_play.specs.Playing.{IsStrobeMet, PlayRuns}
use Rattle.scan_play.specs.Vectors.{AreVectors, vectors}
use Rattle.scan_play.proofs.Applied.{Answers, length-next, zip_known}
use Rattle.scan_play.proofs.BitLaws.{detected_bits, own_responses, runs_alike, vectors_alike}
use Rattle.scan_play.proofs.Bridge.{bridge}
use Rattle.scan_play.proofs.Instances.{tris_above}
use Rattle.scan_play.proofs.Places.{response_at, strobe_of_point}
use Rattle.scan_play.proofs.Shifting.{zip_length}
use Rattle.scan_play.proofs.TestLists.{both_at}
use Rattle.scan_play.proofs.TriLaws.{value_where_strobed}
use Rattle.scan_play.proofs.Widths.{cells_count, valid_fault}
use Rattle.chain_test.specs.Hardware.{at_site}
use Rattle.grade.specs.Grades.{IsGradeOf}
use Rattle.grade.specs.Patterns.{IsPatternGrade, IsDetectingStrobe}
use Rattle.grade.specs.declared.grade.Grade.{Grade}
use Rattle.grade.specs.declared.grade.Grade.TheVariants.{Detected, Undetected, Unknown}
use Rattle.grade.proofs.Strobed.{flush_strobe, same_known, strobe_placed}

-- ---- bits

not_other : {P : Type 0} (b : Bool) → b ≡ not b → P
not_other true e = cc
not_other false e = cc

other_or_same : (b c : Bool) → (c ≡ b) ⊎ (c ≡ not b)
other_or_same true true = inl refl
other_or_same true false = inr refl
other_or_same false true = inr refl
other_or_same false false = inl refl

-- ---- the tests of a fault's own responses

-- a test of a list, by its pattern and its response
zipped_at : (R : Pattern → Response → Type 0) (ps : List Pattern) (rs : List Response) (p : ℕ) (test : Pattern × Response) → AllZip R ps rs → slice_get (zip ps rs) p ≡ Some test
    → (slice_get ps p ≡ Some test.0) × R test.0 test.1
zipped_at R [] rs p test h e = cc
zipped_at R (q ∷ ps) [] p test h e = absurd h
zipped_at R (q ∷ ps) (r ∷ rs) zero test h e =
    let same : ◌≡◌ {A = Pattern × Response} (q, r) test = same_Some (q, r) test e in
    (ap (λ (t : Pattern × Response). Some t.0) same, subst (λ (t : Pattern × Response). R t.0 t.1) same h.0)
zipped_at R (q ∷ ps) (r ∷ rs) (suc p) test h e = zipped_at R ps rs p test h.1 e

-- what is strobed is met
Met : Tri → Tri → Type 0
Met s v = (s ≡ X) ⊎ (v ≡ s)

own_answers : (n : Netlist) (f : Option Fault) (ps : List Pattern) (rs : List Response) → AllZip (Responds n f) ps rs → AllZip (Answers tri_table f n Met) (zip ps rs) rs
unfolding Met
own_answers n f [] [] h = tt
own_answers n f [] (r ∷ rs) h = absurd h
own_answers n f (p ∷ ps) [] h = absurd h
own_answers n f (p ∷ ps) (r ∷ rs) h =
    ((h.0, zip_known Met known (λ b. inr refl) r.outputs, zip_known Met known (λ b. inr refl) r.cells), own_answers n f ps rs h.1)

known_met : (b : Bool) (v : Tri) → Met (known b) v → v ≡ known b
unfolding Met
known_met true v h = elim h [ inl e ↦ cc | inr e ↦ e ]
known_met false v h = elim h [ inl e ↦ cc | inr e ↦ e ]

-- two responses that differ at a point
differing_detects : (n : Netlist) (f : Fault) (p : Pattern) (r own : Response) (point : Point) (b : Bool) → Responds n None p r → Responds n (Some f) p own
    → response_at r point ≡ Some b → response_at own point ≡ Some (not b) → Detects n f p.inputs p.cells point
differing_detects n f p r own (Output k) b h g e e' = record {
  good = h.values;
  faulty = g.values;
  good_settles = h.settles;
  faulty_settles = g.settles;
  differs = λ same. not_other b (same_Some b (not b) (sym e
      ∙ (ap (λ (xs : List Bool). slice_get xs k) h.outputs ∙ (same ∙ (ap (λ (xs : List Bool). slice_get xs k) (sym g.outputs) ∙ e')))));
}
differing_detects n f p r own (Cell k) b h g e e' = record {
  good = h.values;
  faulty = g.values;
  good_settles = h.settles;
  faulty_settles = g.settles;
  differs = λ same. not_other b (same_Some b (not b) (sym e
      ∙ (ap (λ (xs : List Bool). slice_get xs k) h.cells ∙ (same ∙ (ap (λ (xs : List Bool). slice_get xs k) (sym g.cells) ∙ e')))));
}

-- a point has a bit in each response
bit_there : (n : Netlist) (f : Fault) (p : Pattern) (r own : Response) (point : Point) (b : Bool) → IsSound n → Responds n None p r → Responds n (Some f) p own → response_at r point ≡ Some b
    → (c : Bool) × (response_at own point ≡ Some c)
bit_there n f p r own (Output k) b sound h g e =
    let wide = ap length h.outputs ∙ (length-map n.outputs _ ∙ sym (ap length g.outputs ∙ length-map n.outputs _)) in
    let l = slice_get_within r.outputs k b e in
    (get_or own.outputs k false, slice_get-get_or own.outputs k false (omega (arith, l, wide)))
bit_there n f p r own (Cell k) b sound h g e =
    let wide = ap length h.cells ∙ (length-next (bits None) n h.values sound ∙ sym (ap length g.cells ∙ length-next (bits (Some f)) n g.values sound)) in
    let l = slice_get_within r.cells k b e in
    (get_or own.cells k false, slice_get-get_or own.cells k false (omega (arith, l, wide)))

-- ---- the run with the fault

module _ (n : Netlist) (holds : Holds) (chains : List (List ℕ)) (patterns : List Pattern) (cycles : List Cycle) (f : Fault) (sound : IsSound n) (are : AreChainsOf n chains)
    (v : AreVectors n holds chains patterns cycles) (line : IsLineOf n f.line) (shown : List (List Tri)) (run : PlayRuns (scanned_of n chains) (Some (at_site (sites_of n chains) f)) cycles shown) where
  owns : (rs : List Response) × AllZip (Responds n (Some f)) patterns rs
  owns = own_responses n (Some f) sound patterns v.responses v.respond

  abbrev good_tests : List (Pattern × Response)
  good_tests = zip patterns v.responses

  abbrev own_tests : List (Pattern × Response)
  own_tests = zip patterns owns.0

  own_run : Runs tri_table (Some (at_site (sites_of n chains) f)) (scanned_of n chains) (replicate (length (cells (scanned_of n chains))) X) (vectors n holds chains own_tests) shown
  own_run =
      let S = scanned_of n chains in
      let g = Some (at_site (sites_of n chains) f) in
      let start : List Tri = replicate (length (cells S)) X in
      runs_alike tri_table g S start (vectors n holds chains good_tests) (vectors n holds chains own_tests) shown
      (vectors_alike n holds chains patterns v.responses owns.0 (zip_length _ patterns v.responses v.respond) (zip_length _ patterns owns.0 owns.1))
      (subst (λ (x : List Cycle). Runs tri_table g S start x shown) v.are run)

  -- it meets what the fault's own responses strobe
  own_met : (c o : ℕ) (b : Bool) → strobe_at (vectors n holds chains own_tests) c o ≡ known b → shown_at shown c o ≡ Some (known b)
  unfolding Met
  own_met c o b e =
      let all : AllZip (λ (x : Cycle) vs. AllZip Met x.strobe vs) (vectors n holds chains own_tests) shown =
      bridge tri_table tris_above n holds chains (Some f) sound v.held are (valid_fault n f line) Met (λ w. inl refl) (λ b. inr refl) own_tests owns.0
      (own_answers n (Some f) patterns owns.0 owns.1) (replicate (length (cells (scanned_of n chains))) X) shown own_run in
      let w = value_where_strobed Met (vectors n holds chains own_tests) shown c o b all e in
      w.1 ∙ ap Some (known_met b w.0 w.2)

  good_sizes : (p : ℕ) (test : Pattern × Response) → slice_get good_tests p ≡ Some test → length test.1.cells ≡ length (cells_of chains)
  good_sizes p test e =
      let r = (zipped_at (Responds n None) patterns v.responses p test v.respond e).1 in
      ap length r.cells ∙ (length-next (bits None) n r.values sound ∙ cells_count n chains are)

  -- what is shown where a bit is strobed: a bit, and where it is the other one, a pattern detects the fault at the point that is strobed
  pub shown_there : (c o : ℕ) (b : Bool) → strobe_at cycles c o ≡ known b → (d : Bool) × (shown_at shown c o ≡ Some (known d)) × (d ≡ not b → IsDetectingStrobe n chains patterns f c o)
  shown_there c o b e =
      let here : strobe_at (vectors n holds chains good_tests) c o ≡ known b = ap (λ cs. strobe_at cs c o) (sym v.are) ∙ e in
      elim (cases_lt c (4 * longest_of chains)) [
        | inl low ↦ (b, own_met c o b (flush_strobe n holds chains own_tests good_tests c o low ∙ here), λ e. not_other b e)
        | inr high ↦
            let w = strobe_placed n holds chains are good_tests good_sizes c o b high here in
            let z = zipped_at (Responds n None) patterns v.responses w.p w.test v.respond w.has in
            let both = both_at (Responds n None) (Responds n (Some f)) patterns v.responses owns.0 w.p w.test.0 v.respond owns.1 z.0 in
            let bit = bit_there n f w.test.0 w.test.1 both.1 w.point w.bit sound z.1 both.5 w.has_bit in
            let good : strobe_at (vectors n holds chains good_tests) c o ≡ known w.bit =
            strobe_of_point n holds chains good_tests w.p w.test w.point c o w.bit sound are w.has (good_sizes w.p w.test w.has) w.strobed w.has_bit in
            let same : w.bit ≡ b = same_known w.bit b (sym good ∙ here) in
            let own : strobe_at (vectors n holds chains own_tests) c o ≡ known bit.0 =
            strobe_of_point n holds chains own_tests w.p (w.test.0, both.1) w.point c o bit.0 sound are both.3
            (ap length both.5.cells ∙ (length-next (bits (Some f)) n both.5.values sound ∙ cells_count n chains are)) w.strobed bit.1 in (
              bit.0,
              own_met c o bit.0 own,
              λ other. record {
                place = w.p;
                point = w.point;
                detected = record {
                  pattern = w.test.0;
                  at = z.0;
                  detects = differing_detects n f w.test.0 w.test.1 both.1 w.point b z.1 both.5 (w.has_bit ∙ ap Some same) (bit.1 ∙ ap Some other);
                };
                strobed = w.strobed;
              },
            )
      ]

  wrong_seen : (c o : ℕ) → IsWrong known cycles shown c o → IsDetectingStrobe n chains patterns f c o
  wrong_seen c o w =
      let there = shown_there c o w.0 w.1 in
      there.2 (same_known there.0 (not w.0) (same_Some (known there.0) (known (not w.0)) (sym there.1 ∙ w.2)))

  pub seen_wrong : (c o : ℕ) → IsDetectingStrobe n chains patterns f c o → IsWrong known cycles shown c o
  seen_wrong c o w =
      let p = w.detected.pattern in
      let both = both_at (Responds n None) (Responds n (Some f)) patterns v.responses owns.0 w.place p v.respond owns.1 w.detected.at in
      let bit = detected_bits n f p both.0 both.1 w.point sound both.4 both.5 w.detected.detects in
      let count = cells_count n chains are in
      let good : strobe_at (vectors n holds chains good_tests) c o ≡ known bit.0 =
      strobe_of_point n holds chains good_tests w.place (p, both.0) w.point c o bit.0 sound are both.2
      (ap length both.4.cells ∙ (length-next (bits None) n both.4.values sound ∙ count)) w.strobed bit.1 in
      let own : strobe_at (vectors n holds chains own_tests) c o ≡ known (not bit.0) =
      strobe_of_point n holds chains own_tests w.place (p, both.1) w.point c o (not bit.0) sound are both.3
      (ap length both.5.cells ∙ (length-next (bits (Some f)) n both.5.values sound ∙ count)) w.strobed bit.2 in
      (bit.0, ap (λ cs. strobe_at cs c o) v.are ∙ good, own_met c o (not bit.0) own)

  -- where no pattern detects the fault, each strobe is met
  met_bit : (c o : ℕ) → ((d q : ℕ) → IsDetectingStrobe n chains patterns f d q → ⊥) → (b : Bool) → strobe_at cycles c o ≡ known b → IsStrobeMet cycles shown c o
  met_bit c o none b e =
      let there = shown_there c o b e in
      elim (other_or_same b there.0) [
        | inl same ↦ inr (there.1 ∙ (ap (λ (d : Bool). Some (known d)) same ∙ ap Some (sym e)))
        | inr other ↦ absurd (none c o (there.2 other))
      ]

  met : (c o : ℕ) → ((d q : ℕ) → IsDetectingStrobe n chains patterns f d q → ⊥) → (s : Tri) → strobe_at cycles c o ≡ s → IsStrobeMet cycles shown c o
  met c o none X e = inl e
  met c o none Zero e = met_bit c o none false e
  met c o none One e = met_bit c o none true e

  pub grade_by_patterns : (grade : Grade) → IsPatternGrade n chains patterns f grade → IsGradeOf cycles shown grade
  grade_by_patterns (Detected c o) h = (seen_wrong c o h.0, λ d q l w. h.1 d q l (wrong_seen d q w))
  grade_by_patterns Undetected h = λ c o. met c o h (strobe_at cycles c o) refl
  grade_by_patterns Unknown h = absurd h
