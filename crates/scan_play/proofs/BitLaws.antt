-- What a test tells of a netlist, on bits.
use Rattle.std.proofs.Common.{◌≡◌, ◌≢◌, ℕ, suc, zero, Bool, true, false, not, cond, List, [], ◌∷◌, ◌++◌, map, length, get_or, replicate, Option, Some, None, slice_get, IsTrue, refl, sym, ◌∙◌, ap, subst, arith}
use Rattle.std.specs.List.{All, AllZip, zip}
use Rattle.std.proofs.lemmas.List.{length-map}
use Rattle.std.proofs.lemmas.List.Elements.{All-head, All-tail}
use Rattle.statement.specs.declared.kinds.Tri.{Tri}
use Rattle.statement.specs.declared.kinds.Tri.TheVariants.{X}
use Rattle.statement.specs.declared.lines.Fault.{Fault}
use Rattle.statement.specs.declared.lines.Point.{Point}
use Rattle.statement.specs.declared.lines.Point.TheVariants.{Output, Cell}
use Rattle.statement.specs.Netlists.{Netlist, cells}
use Rattle.statement.specs.Patterns.{Holds, observed, Detects, Pattern}
use Rattle.netlist.specs.Holds.{AreHoldsOf}
use Rattle.netlist.specs.Conditions.{IsSound}
use Rattle.statement.specs.Values.{Table, Settles, bit_table, bits, with_fault, outs, next, known, allows}
use Rattle.std.specs.Bool.{beq}
use Rattle.netlist.proofs.Alike.{zip_append, outs_alike, next_alike, keeps_same}
use Rattle.netlist.proofs.Lists.{decides_beq}
use Rattle.netlist.proofs.SomeSettled.{some_settled}
use Rattle.tri.proofs.Choices.{no, known_allows_itself}
use Rattle.tri.proofs.ClosedLemmas.{same_lists}
use Rattle.statement.specs.Tests.{cells_of, Response, Responds, flush, IsStrobedAt}
use Rattle.statement.specs.Runs.{numbers_from, Cycle, Runs, Passes, FailsAt, strobe_at, shown_at}
use Rattle.netlist.specs.Lines.{IsLineOf, IsFaultOf}
use Rattle.scan_insert.specs.Scanned.{AreChainsOf, sites_of, scanned_of, fault_at}
use Rattle.scan_play.specs.Shifts.{load}
use Rattle.scan_play.specs.Vectors.{capture, applied, vectors, AreVectors}
use Rattle.scan_play.proofs.Shifting.{zip_length}
use Rattle.scan_play.proofs.Applied.{Answers, zip_known, length-next}
use Rattle.scan_play.proofs.Widths.{cells_count, valid_fault, no_fault}
use Rattle.scan_play.proofs.Bridge.{bridge}
use Rattle.scan_play.proofs.Instances.{bits_above}
use Rattle.scan_play.proofs.Places.{response_at, strobe_of_point}
use Rattle.scan_play.proofs.TestLists.{both_at}

unfoldable pub Allows : Tri → Bool → Type 0
Allows s b = IsTrue (allows s b)

same_bits : (vs ws : List Bool) → AllZip (λ v w. beq v w ≡ true) vs ws → vs ≡ ws
same_bits [] [] h = refl
same_bits [] (w ∷ ws) h = absurd h
same_bits (v ∷ vs) [] h = absurd h
same_bits (v ∷ vs) (w ∷ ws) h = ap (λ u. u ∷ vs) ((decides_beq v w).0 h.0) ∙ ap (λ us. w ∷ us) (same_bits vs ws h.1)

alone : (vs : List Bool) → AllZip (λ v w. beq v w ≡ true) vs vs
alone [] = tt
alone (v ∷ vs) = ((decides_beq v v).1 refl, alone vs)

-- one pattern has one response
pub same_response : (f : Option Fault) (n : Netlist) (inputs state : List Bool) (a b : ℕ → Bool) → IsSound n
    → Settles (bits f) n inputs state a → Settles (bits f) n inputs state b
    → (outs (bits f) n a ≡ outs (bits f) n b) × (next (bits f) n a ≡ next (bits f) n b)
same_response f n inputs state a b sound p q =
    let keeps = keeps_same beq decides_beq (bits f) n in (
      same_bits _ _ (outs_alike beq (bits f) (bits f) n keeps sound.closed sound.acyclic inputs state inputs state a b (alone inputs) (alone state) p q),
      same_bits _ _ (next_alike beq (bits f) (bits f) n keeps sound.closed sound.acyclic inputs state inputs state a b (alone inputs) (alone state) p q),
    )

-- ---- passes

same_answers : (f : Option Fault) (n : Netlist) (ps : List Pattern) (rs : List Response) → AllZip (Responds n f) ps rs → AllZip (Answers bit_table f n Allows) (zip ps rs) rs
unfolding Allows
same_answers f n [] [] h = tt
same_answers f n [] (r ∷ rs) h = absurd h
same_answers f n (p ∷ ps) [] h = absurd h
same_answers f n (p ∷ ps) (r ∷ rs) h = (
  (h.0, zip_known Allows (λ b. b) known_allows_itself r.outputs, zip_known Allows (λ b. b) known_allows_itself r.cells),
  same_answers f n ps rs h.1,
)

passes_own : (n : Netlist) (holds : Holds) (chains : List (List ℕ)) (f : Option Fault) → IsSound n → AreHoldsOf n holds → AreChainsOf n chains → IsFaultOf n f
    → (ps : List Pattern) (rs : List Response) → AllZip (Responds n f) ps rs → Passes (scanned_of n chains) (fault_at (sites_of n chains) f) (vectors n holds chains (zip ps rs))
unfolding Allows
passes_own n holds chains f sound fit are valid ps rs h state shown run =
    bridge bit_table bits_above n holds chains f sound fit are valid Allows (λ v. refl) known_allows_itself (zip ps rs) rs (same_answers f n ps rs h) state shown run

pub good_passes : (n : Netlist) (holds : Holds) (chains : List (List ℕ)) (patterns : List Pattern) (cycles : List Cycle) → IsSound n → AreChainsOf n chains → AreVectors n holds chains patterns cycles
    → Passes (scanned_of n chains) None cycles
good_passes n holds chains patterns cycles sound are v =
    subst (λ (x : List Cycle). Passes (scanned_of n chains) None x) (sym v.are) (passes_own n holds chains None sound v.held are (no_fault n) patterns v.responses v.respond)

-- ---- nothing is detected

-- the settled bits with any fault, for a pattern that has settled bits
pub faulty_values : (n : Netlist) (f g : Option Fault) (p : Pattern) (r : Response) → IsSound n → Responds n g p r → (a : ℕ → Bool) × Settles (bits f) n p.inputs p.cells a
faulty_values n f g p r sound h =
    some_settled false (bits f) n p.inputs p.cells sound.formed.numbered sound.closed sound.acyclic
    (sym (zip_length _ n.inputs p.inputs h.settles.0)) (sym (zip_length _ (cells n) p.cells h.settles.1))

pub undetected_responds : (n : Netlist) (f : Fault) (p : Pattern) (r : Response) → IsSound n → Responds n None p r → ((point : Point) → ¬ Detects n f p.inputs p.cells point) → Responds n (Some f) p r
undetected_responds n f p r sound h undetected =
    let a = faulty_values n (Some f) None p r sound h in
    let same_there : (point : Point) → observed (bits None) n h.values point ≢ observed (bits (Some f)) n a.0 point → ⊥ =
    λ point d. undetected point (record { good = h.values; faulty = a.0; good_settles = h.settles; faulty_settles = a.1; differs = d }) in
    record {
      values = a.0;
      settles = a.1;
      outputs = h.outputs ∙ same_lists (outs (bits None) n h.values) (outs (bits (Some f)) n a.0) (λ k. same_there (Output k));
      cells = h.cells ∙ same_lists (next (bits None) n h.values) (next (bits (Some f)) n a.0) (λ k. same_there (Cell k));
    }

all_undetected : (n : Netlist) (f : Fault) → IsSound n → (ps : List Pattern) (rs : List Response) → AllZip (Responds n None) ps rs
    → All (λ (p : Pattern). (point : Point) → ¬ Detects n f p.inputs p.cells point) ps → AllZip (Responds n (Some f)) ps rs
all_undetected n f sound [] [] h k = tt
all_undetected n f sound [] (r ∷ rs) h k = absurd h
all_undetected n f sound (p ∷ ps) [] h k = absurd h
all_undetected n f sound (p ∷ ps) (r ∷ rs) h k =
    let P : Pattern → Type 0 = λ q. (point : Point) → ¬ Detects n f q.inputs q.cells point in
    (undetected_responds n f p r sound h.0 (All-head P p ps k), all_undetected n f sound ps rs h.1 (All-tail P p ps k))

pub undetected_passes : (n : Netlist) (holds : Holds) (chains : List (List ℕ)) (patterns : List Pattern) (cycles : List Cycle) (f : Fault) → IsSound n → AreChainsOf n chains → AreVectors n holds chains patterns cycles
    → IsLineOf n f.line → All (λ (p : Pattern). (point : Point) → ¬ Detects n f p.inputs p.cells point) patterns
    → Passes (scanned_of n chains) (fault_at (sites_of n chains) (Some f)) cycles
undetected_passes n holds chains patterns cycles f sound are v line undetected =
    subst (λ (x : List Cycle). Passes (scanned_of n chains) (fault_at (sites_of n chains) (Some f)) x) (sym v.are)
    (passes_own n holds chains (Some f) sound v.held are (valid_fault n f line) patterns v.responses (all_undetected n f sound patterns v.responses v.respond undetected))

-- ---- a fault that is detected

-- the responses with the fault
pub own_responses : (n : Netlist) (f : Option Fault) → IsSound n → (ps : List Pattern) (rs : List Response) → AllZip (Responds n None) ps rs
    → (owns : List Response) × AllZip (Responds n f) ps owns
own_responses n f sound [] [] h = ([], tt)
own_responses n f sound [] (r ∷ rs) h = absurd h
own_responses n f sound (p ∷ ps) [] h = absurd h
own_responses n f sound (p ∷ ps) (r ∷ rs) h =
    let a = faulty_values n f None p r sound h.0 in
    let others = own_responses n f sound ps rs h.1 in (
      record { outputs = outs (bits f) n a.0; cells = next (bits f) n a.0 } ∷ others.0,
      (record { values = a.0; settles = a.1; outputs = refl; cells = refl }, others.1),
    )

abbrev pub SameDrive : Cycle → Cycle → Type 0
SameDrive c d = (c.drive ≡ d.drive) × (c.pulse ≡ d.pulse)

pub runs_alike : {V : Type 0} (table : Table V) (g : Option Fault) (s : Netlist) (state : List V) (cs ds : List Cycle) (shown : List (List V)) → AllZip SameDrive cs ds
    → Runs table g s state cs shown → Runs table g s state ds shown
runs_alike table g s state [] [] shown h run = run
runs_alike table g s state [] (d ∷ ds) shown h run = absurd h
runs_alike table g s state (c ∷ cs) [] shown h run = absurd h
runs_alike table g s state (c ∷ cs) (d ∷ ds) [] h run = absurd run
runs_alike {V} table g s state (c ∷ cs) (d ∷ ds) (row ∷ rows) h run =
    let t = run.1 in
    let drive : c.drive ≡ d.drive = h.0.0 in (
      run.0,
      record {
        values = t.values;
        settles = subst (λ (x : List Bool). Settles (with_fault table g) s (map table.known x) state t.values) drive t.settles;
        shows = t.shows;
        keeps = t.keeps ∙ ap (λ b. cond b (next (with_fault table g) s t.values) state) h.0.1;
      },
      runs_alike table g s run.0 cs ds rows h.1 run.2,
    )

map_alike : (f g : ℕ → Cycle) → ((t : ℕ) → SameDrive (f t) (g t)) → (ts : List ℕ) → AllZip SameDrive (map f ts) (map g ts)
map_alike f g h [] = tt
map_alike f g h (t ∷ ts) = (h t, map_alike f g h ts)

pub load_alike : (n : Netlist) (holds : Holds) (chains : List (List ℕ)) (bs : List Bool) (held held' : List Tri) → AllZip SameDrive (load n holds chains bs held) (load n holds chains bs held')
load_alike n holds chains bs held held' = map_alike _ _ (λ t. (refl, refl)) (numbers_from 0 _)

pub capture_alike : (chains : List (List ℕ)) (p : Pattern) (r r' : Response) → SameDrive (capture chains p r) (capture chains p r')
capture_alike [] p r r' = (refl, refl)
capture_alike (chain ∷ chains) p r r' = (refl, refl)

pub applied_alike : (n : Netlist) (holds : Holds) (chains : List (List ℕ)) (held held' : List Tri) (ps : List Pattern) (rs rs' : List Response) → length ps ≡ length rs → length ps ≡ length rs'
    → AllZip SameDrive (applied n holds chains held (zip ps rs)) (applied n holds chains held' (zip ps rs'))
applied_alike n holds chains held held' [] rs rs' e e' = load_alike n holds chains (replicate (length (cells_of chains)) false) held held'
applied_alike n holds chains held held' (p ∷ ps) [] rs' e e' = absurd (omega (arith, e))
applied_alike n holds chains held held' (p ∷ ps) (r ∷ rs) [] e e' = absurd (omega (arith, e'))
applied_alike n holds chains held held' (p ∷ ps) (r ∷ rs) (r' ∷ rs') e e' =
    zip_append SameDrive (load n holds chains p.cells held) (capture chains p r ∷ applied n holds chains (map known r.cells) (zip ps rs))
    (load n holds chains p.cells held') (capture chains p r' ∷ applied n holds chains (map known r'.cells) (zip ps rs')) (load_alike n holds chains p.cells held held')
    (capture_alike chains p r r', applied_alike n holds chains (map known r.cells) (map known r'.cells) ps rs rs' (omega (arith, e)) (omega (arith, e')))

pub same_self : (cs : List Cycle) → AllZip SameDrive cs cs
same_self [] = tt
same_self (c ∷ cs) = ((refl, refl), same_self cs)

pub vectors_alike : (n : Netlist) (holds : Holds) (chains : List (List ℕ)) (ps : List Pattern) (rs rs' : List Response) → length ps ≡ length rs → length ps ≡ length rs'
    → AllZip SameDrive (vectors n holds chains (zip ps rs)) (vectors n holds chains (zip ps rs'))
vectors_alike n holds chains ps rs rs' e e' =
    let idle : List Tri = replicate (length (cells_of chains)) X in
    let front : List Cycle =
    load n holds chains (flush chains) idle
    ++ load n holds chains (map not (flush chains)) (map known (flush chains))
    ++ load n holds chains (replicate (length (cells_of chains)) false) (map known (map not (flush chains))) in
    zip_append SameDrive front (applied n holds chains idle (zip ps rs)) front (applied n holds chains idle (zip ps rs')) (same_self front) (applied_alike n holds chains idle idle ps rs rs' e e')

pub known_not_x : {P : Type 0} (b : Bool) → X ≡ known b → P
known_not_x true e = cc
known_not_x false e = cc

allowed_bit : (b v : Bool) → Allows (known b) v → v ≡ b
unfolding Allows
allowed_bit true true h = refl
allowed_bit true false h = no h
allowed_bit false true h = no h
allowed_bit false false h = refl

shown_in_row : (ss : List Tri) (vs : List Bool) (o : ℕ) (b : Bool) → AllZip Allows ss vs → get_or ss o X ≡ known b → slice_get vs o ≡ Some b
shown_in_row [] vs o b h e = known_not_x b e
shown_in_row (s ∷ ss) [] o b h e = absurd h
shown_in_row (s ∷ ss) (v ∷ vs) zero b h e = ap (λ x. Some x) (allowed_bit b v (subst (λ (x : Tri). Allows x v) e h.0))
shown_in_row (s ∷ ss) (v ∷ vs) (suc o) b h e = shown_in_row ss vs o b h.1 e

pub shown_where_strobed : (cycles : List Cycle) (shown : List (List Bool)) (c o : ℕ) (b : Bool) → AllZip (λ (x : Cycle) vs. AllZip Allows x.strobe vs) cycles shown
    → strobe_at cycles c o ≡ known b → shown_at shown c o ≡ Some b
shown_where_strobed [] shown c o b h e = known_not_x b e
shown_where_strobed (x ∷ xs) [] c o b h e = absurd h
shown_where_strobed (x ∷ xs) (row ∷ rows) zero o b h e = shown_in_row x.strobe row o b h.0 e
shown_where_strobed (x ∷ xs) (row ∷ rows) (suc c) o b h e = shown_where_strobed xs rows c o b h.1 e

differing : (xs ys : List Bool) (k : ℕ) → length xs ≡ length ys → slice_get xs k ≢ slice_get ys k → (b : Bool) × (slice_get xs k ≡ Some b) × (slice_get ys k ≡ Some (not b))
differing [] [] k e d = absurd (d refl)
differing [] (y ∷ ys) k e d = absurd (omega (arith, e))
differing (x ∷ xs) [] k e d = absurd (omega (arith, e))
differing (true ∷ xs) (true ∷ ys) zero e d = absurd (d refl)
differing (true ∷ xs) (false ∷ ys) zero e d = (true, refl, refl)
differing (false ∷ xs) (true ∷ ys) zero e d = (false, refl, refl)
differing (false ∷ xs) (false ∷ ys) zero e d = absurd (d refl)
differing (x ∷ xs) (y ∷ ys) (suc k) e d = differing xs ys k (omega (arith, e)) d

pub detected_bits : (n : Netlist) (f : Fault) (p : Pattern) (r own : Response) (point : Point) → IsSound n → Responds n None p r → Responds n (Some f) p own → Detects n f p.inputs p.cells point
    → (b : Bool) × (response_at r point ≡ Some b) × (response_at own point ≡ Some (not b))
detected_bits n f p r own (Output k) sound h g t =
    let a = same_response None n p.inputs p.cells h.values t.good sound h.settles t.good_settles in
    let b = same_response (Some f) n p.inputs p.cells g.values t.faulty sound g.settles t.faulty_settles in
    let left : r.outputs ≡ outs (bits None) n t.good = h.outputs ∙ a.0 in
    let right : own.outputs ≡ outs (bits (Some f)) n t.faulty = g.outputs ∙ b.0 in
    differing r.outputs own.outputs k
    (ap length left ∙ (length-map n.outputs _ ∙ sym (ap length right ∙ length-map n.outputs _)))
    (λ e. t.differs (ap (λ xs. slice_get xs k) (sym left) ∙ (e ∙ ap (λ xs. slice_get xs k) right)))
detected_bits n f p r own (Cell q) sound h g t =
    let a = same_response None n p.inputs p.cells h.values t.good sound h.settles t.good_settles in
    let b = same_response (Some f) n p.inputs p.cells g.values t.faulty sound g.settles t.faulty_settles in
    let left : r.cells ≡ next (bits None) n t.good = h.cells ∙ a.1 in
    let right : own.cells ≡ next (bits (Some f)) n t.faulty = g.cells ∙ b.1 in
    differing r.cells own.cells q
    (ap length left ∙ (length-next (bits None) n t.good sound ∙ sym (ap length right ∙ length-next (bits (Some f)) n t.faulty sound)))
    (λ e. t.differs (ap (λ xs. slice_get xs q) (sym left) ∙ (e ∙ ap (λ xs. slice_get xs q) right)))

pub detected_fails : (n : Netlist) (holds : Holds) (chains : List (List ℕ)) (patterns : List Pattern) (cycles : List Cycle) (f : Fault) (p : ℕ) (pattern : Pattern) (point : Point) (c o : ℕ)
    → IsSound n → AreChainsOf n chains → AreVectors n holds chains patterns cycles → IsLineOf n f.line
    → slice_get patterns p ≡ Some pattern → Detects n f pattern.inputs pattern.cells point → IsStrobedAt n chains p point c o
    → FailsAt (scanned_of n chains) (fault_at (sites_of n chains) (Some f)) cycles c o
unfolding Allows
detected_fails n holds chains patterns cycles f p pattern point c o sound are v line at_p t at =
    let S = scanned_of n chains in
    let g = fault_at (sites_of n chains) (Some f) in
    let count = cells_count n chains are in
    let owns = own_responses n (Some f) sound patterns v.responses v.respond in
    let both = both_at (Responds n None) (Responds n (Some f)) patterns v.responses owns.0 p pattern v.respond owns.1 at_p in
    let bit = detected_bits n f pattern both.0 both.1 point sound both.4 both.5 t in
    let good : strobe_at (vectors n holds chains (zip patterns v.responses)) c o ≡ known bit.0 =
    strobe_of_point n holds chains (zip patterns v.responses) p (pattern, both.0) point c o bit.0 sound are both.2
    (ap length both.4.cells ∙ (length-next (bits None) n both.4.values sound ∙ count)) at bit.1 in
    let own : strobe_at (vectors n holds chains (zip patterns owns.0)) c o ≡ known (not bit.0) =
    strobe_of_point n holds chains (zip patterns owns.0) p (pattern, both.1) point c o (not bit.0) sound are both.3
    (ap length both.5.cells ∙ (length-next (bits (Some f)) n both.5.values sound ∙ count)) at bit.2 in (
      bit.0,
      ap (λ cs. strobe_at cs c o) v.are ∙ good,
      λ state shown run.
          let there : Runs bit_table g S state (vectors n holds chains (zip patterns v.responses)) shown = subst (λ (x : List Cycle). Runs bit_table g S state x shown) v.are run in
          let moved : Runs bit_table g S state (vectors n holds chains (zip patterns owns.0)) shown =
          runs_alike bit_table g S state (vectors n holds chains (zip patterns v.responses)) (vectors n holds chains (zip patterns owns.0)) shown
          (vectors_alike n holds chains patterns v.responses owns.0 (zip_length _ patterns v.responses v.respond) (zip_length _ patterns owns.0 owns.1)) there in
          shown_where_strobed (vectors n holds chains (zip patterns owns.0)) shown c o (not bit.0)
          (passes_own n holds chains (Some f) sound v.held are (valid_fault n f line) patterns owns.0 owns.1 state shown moved) own,
    )
