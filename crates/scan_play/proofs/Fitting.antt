-- The vectors of a test fit the scanned netlist, and how many there are.
use Rattle.std.proofs.Common.{◌≡◌, ℕ, suc, ◌+◌, ◌*◌, Bool, true, false, not, List, [], ◌∷◌, ◌++◌, map, length, replicate, None, refl, sym, ◌∙◌, ap, subst, arith, length-append}
use Rattle.std.specs.List.{All, AllZip, zip}
use Rattle.std.proofs.lemmas.List.{length-map, length-replicate}
use Rattle.std.proofs.lemmas.List.Elements.{All-nil, All-cons, All-head, All-tail}
use Rattle.std.proofs.Math.Nat.{suc-mul}
use Rattle.statement.specs.declared.kinds.Tri.{Tri}
use Rattle.statement.specs.declared.kinds.Tri.TheVariants.{X}
use Rattle.statement.specs.Netlists.{Netlist}
use Rattle.statement.specs.Patterns.{Holds, Pattern}
use Rattle.netlist.specs.Holds.{AreHoldsOf}
use Rattle.netlist.specs.Conditions.{IsSound}
use Rattle.statement.specs.Values.{known}
use Rattle.statement.specs.Tests.{cells_of, longest_of, by_chain, column, word_in, word_out, held_or_zero, Response, Responds, flush}
use Rattle.statement.specs.Runs.{numbers_from, Cycle}
use Rattle.scan_insert.specs.Scanned.{AreChainsOf, naming_of, scanned_of}
use Rattle.scan_insert.proofs.Concrete.{are_dealt, ins_length, outs_length}
use Rattle.scan_insert.proofs.Numbers.{length-numbers_from}
use Rattle.scan_play.specs.Cycles.{IsCycleOf}
use Rattle.scan_play.specs.Shifts.{idle_inputs, shift, load}
use Rattle.scan_play.specs.Vectors.{capture, applied, vectors, AreVectors}
use Rattle.scan_play.proofs.Shifting.{zip_length}
use Rattle.scan_play.proofs.Loads.{length-column, length-by_chain}

pub all_append : {X : Type 0} (P : X → Type 0) (xs ys : List X) → All P xs → All P ys → All P (xs ++ ys)
all_append P [] ys h k = k
all_append P (x ∷ xs) ys h k = All-cons P x (xs ++ ys) (All-head P x xs h) (all_append P xs ys (All-tail P x xs h) k)

all_map : {X Y : Type 0} (P : Y → Type 0) (f : X → Y) (xs : List X) → ((x : X) → P (f x)) → All P (map f xs)
all_map P f [] h = All-nil _
all_map P f (x ∷ xs) h = All-cons P (f x) (map f xs) (h x) (all_map P f xs h)

module _ (n : Netlist) (holds : Holds) (chain : List ℕ) (rest : List (List ℕ)) (sound : IsSound n) (held_are : AreHoldsOf n holds) (are : AreChainsOf n (chain ∷ rest)) where
  pub wide : length (scanned_of n (chain ∷ rest)).inputs ≡ length n.inputs + (1 + length (chain ∷ rest))
  wide =
      let s = naming_of n (chain ∷ rest) in
      length-append (map s.stem n.inputs) (s.enable ∷ s.scan_in)
      ∙ omega (arith, length-map n.inputs s.stem, ins_length n sound chain rest (are_dealt n (chain ∷ rest) are))

  pub long : length (scanned_of n (chain ∷ rest)).outputs ≡ length n.outputs + length (chain ∷ rest)
  long =
      let s = naming_of n (chain ∷ rest) in
      length-append (map s.stem n.outputs) (map (λ (p : ℕ × ℕ). p.0) s.scan_out)
      ∙ omega (arith, length-map n.outputs s.stem, length-map s.scan_out (λ (p : ℕ × ℕ). p.0), outs_length n sound chain rest (are_dealt n (chain ∷ rest) are))

  shift_fits : (ins : List (List Bool)) (outs : List (List Tri)) (t : ℕ) → length ins ≡ length (chain ∷ rest) → length outs ≡ length (chain ∷ rest)
      → IsCycleOf (scanned_of n (chain ∷ rest)) (shift n holds ins outs t)
  shift_fits ins outs t i o = record {
    drive = (length-append (idle_inputs holds) (true ∷ column false ins t)
        ∙ omega (arith, length-map holds held_or_zero, held_are, length-column false ins t, i)) ∙ sym wide;
    strobe = (length-append (replicate (length n.outputs) X) (column X outs t)
        ∙ omega (arith, length-replicate (length n.outputs) X, length-column X outs t, o)) ∙ sym long;
  }

  pub load_fits : (bs : List Bool) (held : List Tri) → All (IsCycleOf (scanned_of n (chain ∷ rest))) (load n holds (chain ∷ rest) bs held)
  load_fits bs held =
      let chains : List (List ℕ) = chain ∷ rest in
      let m = longest_of chains in
      let ins = map (word_in m) (by_chain chains bs) in
      let outs = map (word_out m) (by_chain chains held) in
      all_map (IsCycleOf (scanned_of n chains)) (shift n holds ins outs) (numbers_from 0 m)
      (λ t. shift_fits ins outs t (length-map (by_chain chains bs) (word_in m) ∙ length-by_chain chains bs) (length-map (by_chain chains held) (word_out m) ∙ length-by_chain chains held))

  capture_fits : (p : Pattern) (r : Response) → Responds n None p r → IsCycleOf (scanned_of n (chain ∷ rest)) (capture (chain ∷ rest) p r)
  capture_fits p r h =
      let count = length (chain ∷ rest) in
      record {
        drive = (length-append p.inputs (false ∷ replicate count false)
            ∙ omega (arith, length-replicate count false, zip_length _ n.inputs p.inputs h.settles.0)) ∙ sym wide;
        strobe = (length-append (map known r.outputs) (replicate count X)
            ∙ omega (arith, length-replicate count X, length-map r.outputs known, ap length h.outputs ∙ length-map n.outputs _)) ∙ sym long;
      }

  applied_fits : (held : List Tri) (ps : List Pattern) (rs : List Response) → AllZip (Responds n None) ps rs → All (IsCycleOf (scanned_of n (chain ∷ rest))) (applied n holds (chain ∷ rest) held (zip ps rs))
  applied_fits held [] rs h = load_fits (replicate (length (cells_of (chain ∷ rest))) false) held
  applied_fits held (p ∷ ps) [] h = absurd h
  applied_fits held (p ∷ ps) (r ∷ rs) h =
      let P : Cycle → Type 0 = IsCycleOf (scanned_of n (chain ∷ rest)) in
      all_append P (load n holds (chain ∷ rest) p.cells held) (capture (chain ∷ rest) p r ∷ applied n holds (chain ∷ rest) (map known r.cells) (zip ps rs)) (load_fits p.cells held)
      (All-cons P (capture (chain ∷ rest) p r) (applied n holds (chain ∷ rest) (map known r.cells) (zip ps rs)) (capture_fits p r h.0) (applied_fits (map known r.cells) ps rs h.1))

  scanned_fit : (ps : List Pattern) (rs : List Response) → AllZip (Responds n None) ps rs → All (IsCycleOf (scanned_of n (chain ∷ rest))) (vectors n holds (chain ∷ rest) (zip ps rs))
  scanned_fit ps rs h =
      let chains : List (List ℕ) = chain ∷ rest in
      let P : Cycle → Type 0 = IsCycleOf (scanned_of n chains) in
      let idle = replicate (length (cells_of chains)) X in
      let l1 = load n holds chains (flush chains) idle in
      let l2 = load n holds chains (map not (flush chains)) (map known (flush chains)) in
      let l3 = load n holds chains (replicate (length (cells_of chains)) false) (map known (map not (flush chains))) in
      all_append P (l1 ++ l2 ++ l3) (applied n holds chains idle (zip ps rs))
      (all_append P (l1 ++ l2) l3 (all_append P l1 l2 (load_fits (flush chains) idle) (load_fits (map not (flush chains)) (map known (flush chains))))
      (load_fits (replicate (length (cells_of chains)) false) (map known (map not (flush chains)))))
      (applied_fits idle ps rs h)

unscanned_fit : (n : Netlist) (holds : Holds) (held : List Tri) (ps : List Pattern) (rs : List Response) → AllZip (Responds n None) ps rs → All (IsCycleOf n) (applied n holds [] held (zip ps rs))
unscanned_fit n holds held [] rs h = All-nil _
unscanned_fit n holds held (p ∷ ps) [] h = absurd h
unscanned_fit n holds held (p ∷ ps) (r ∷ rs) h =
    All-cons (IsCycleOf n) (capture [] p r) (applied n holds [] (map known r.cells) (zip ps rs))
    (record {
      drive = sym (zip_length _ n.inputs p.inputs h.0.settles.0);
      strobe = length-map r.outputs known ∙ (ap length h.0.outputs ∙ length-map n.outputs _);
    })
    (unscanned_fit n holds (map known r.cells) ps rs h.1)

pub vectors_fit : (n : Netlist) (holds : Holds) (chains : List (List ℕ)) (patterns : List Pattern) (cycles : List Cycle) → IsSound n → AreChainsOf n chains → AreVectors n holds chains patterns cycles
    → All (IsCycleOf (scanned_of n chains)) cycles
vectors_fit n holds [] patterns cycles sound are v =
    subst (λ (x : List Cycle). All (IsCycleOf n) x) (sym v.are) (unscanned_fit n holds [] patterns v.responses v.respond)
vectors_fit n holds (chain ∷ rest) patterns cycles sound are v =
    subst (λ (x : List Cycle). All (IsCycleOf (scanned_of n (chain ∷ rest))) x) (sym v.are) (scanned_fit n holds chain rest sound v.held are patterns v.responses v.respond)

-- ---- how many

pub count_load : (n : Netlist) (holds : Holds) (chains : List (List ℕ)) (bs : List Bool) (held : List Tri) → length (load n holds chains bs held) ≡ longest_of chains
count_load n holds chains bs held =
    let m = longest_of chains in
    length-map (numbers_from 0 m) (shift n holds (map (word_in m) (by_chain chains bs)) (map (word_out m) (by_chain chains held))) ∙ length-numbers_from 0 m

count_applied : (n : Netlist) (holds : Holds) (chains : List (List ℕ)) (held : List Tri) (tests : List (Pattern × Response))
    → length (applied n holds chains held tests) ≡ length tests * (longest_of chains + 1) + longest_of chains
count_applied n holds chains held [] = count_load n holds chains (replicate (length (cells_of chains)) false) held ∙ omega arith
count_applied n holds chains held (test ∷ tests) =
    let m = longest_of chains in
    let after = applied n holds chains (map known test.1.cells) tests in
    omega (
      arith,
      length-append (load n holds chains test.0.cells held) (capture chains test.0 test.1 ∷ after),
      count_load n holds chains test.0.cells held,
      count_applied n holds chains (map known test.1.cells) tests,
      suc-mul (length tests) (m + 1),
    )

pub count_vectors : (n : Netlist) (holds : Holds) (chains : List (List ℕ)) (tests : List (Pattern × Response))
    → length (vectors n holds chains tests) ≡ (length tests + 4) * longest_of chains + length tests
count_vectors n holds chains tests =
    let idle = replicate (length (cells_of chains)) X in
    let l1 = load n holds chains (flush chains) idle in
    let l2 = load n holds chains (map not (flush chains)) (map known (flush chains)) in
    let l3 = load n holds chains (replicate (length (cells_of chains)) false) (map known (map not (flush chains))) in
    omega (
      arith,
      length-append (l1 ++ l2 ++ l3) (applied n holds chains idle tests),
      length-append (l1 ++ l2) l3,
      length-append l1 l2,
      count_load n holds chains (flush chains) idle,
      count_load n holds chains (map not (flush chains)) (map known (flush chains)),
      count_load n holds chains (replicate (length (cells_of chains)) false) (map known (map not (flush chains))),
      count_applied n holds chains idle tests,
    )

pub zip_count : {X Y : Type 0} (xs : List X) (ys : List Y) → length xs ≡ length ys → length (zip xs ys) ≡ length xs
zip_count [] ys e = refl
zip_count (x ∷ xs) [] e = absurd (omega (arith, e))
zip_count (x ∷ xs) (y ∷ ys) e = ap suc (zip_count xs ys (omega (arith, e)))

pub vectors_counted : (n : Netlist) (holds : Holds) (chains : List (List ℕ)) (patterns : List Pattern) (cycles : List Cycle) → AreVectors n holds chains patterns cycles
    → length cycles ≡ (length patterns + 4) * longest_of chains + length patterns
vectors_counted n holds chains patterns cycles v =
    let same : length (zip patterns v.responses) ≡ length patterns = zip_count patterns v.responses (zip_length _ patterns v.responses v.respond) in
    ap length v.are ∙ (count_vectors n holds chains (zip patterns v.responses) ∙ ap (λ k. (k + 4) * longest_of chains + k) same)
