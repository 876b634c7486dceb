-- The file of patterns is a file.
use Rattle.std.proofs.Common.{◌≡◌, ◌≢◌, ◌∙◌, ◌+◌, ◌-◌, ◌<◌, ◌≤◌, ◌==◌, ◌||◌, ◌&&◌, not, ℕ, zero, suc, Bool, true, false, cond, List, [], ◌∷◌, ◌++◌, ap, sym, refl, subst, append_assoc, append-nil, length, map, take, drop, get_or, arith, codes, length-append, replicate, reverse}
use Rattle.std.specs.Prelude.{IsTrue, None, nat_le}
use Rattle.std.specs.List.{All, AllPairs, AllZip, list_any, remove, zip}
use Rattle.std.proofs.lemmas.List.{length-map, length-replicate, length-reverse, length-take, take_at, get_or_default}
use Rattle.std.proofs.lemmas.Option.{slice_get-get_or}
use Rattle.std.proofs.lemmas.List.Elements.{All-append, All-cons, All-drop, All-head, All-map, All-nil, All-tail, All-take, All-weaker}
use Rattle.std.proofs.lemmas.List.Quantifiers.{all_pairs_remove}
use Rattle.statement.specs.Benches.{Text}
use Rattle.statement.specs.declared.kinds.Tri.{Tri}
use Rattle.statement.specs.declared.kinds.Tri.TheVariants.{Zero, One, X}
use Rattle.statement.specs.Netlists.{Definition, Netlist, cells, is_cell, name_of}
use Rattle.statement.specs.Netlists as net
use Rattle.netlist.specs.Conditions.{IsSound}
use Rattle.netlist.specs.Designs.{IsDesign}
use Rattle.statement.specs.Patterns.{Holds, Pattern}
use Rattle.netlist.specs.Holds.{AreHoldsOf}
use Rattle.statement.specs.Values.{known}
use Rattle.netlist.proofs.Alike.{zip_append}
use Rattle.netlist.proofs.Settling.{cells_below, inputs_below}
use Rattle.cubes.specs.Cubes.{IsPatternOf}
use Rattle.statement.specs.Tests.{cells_of, longest_of, by_chain, held_or_zero, word_in, word_out, Response, Responds, flush, applied_items, capture_item, char_of_bit, char_of_value, load_items, test_items, IsFileOf}
use Rattle.scan_insert.proofs.Dealing.{stitched_cells, stitched_count, stitched_filled}
use Rattle.statement.specs.Runs.{output_name}
use Rattle.scan_insert.specs.Named.{HasTesterNames, tester_names}
use Rattle.scan_insert.specs.Scanned.{AreChainsOf, cell_ids, scanned_of}
use Rattle.scan_insert.proofs.Making.{cells_of_chain}
use Rattle.scan_insert.proofs.Ready.{outputs_within}
use Rattle.scan_insert.proofs.Soundness.{scanned_is_sound}
use Rattle.scan_insert.proofs.TesterNames.{tester_names_differ}
use Rattle.scan_play.specs.Shifts.{idle_inputs}
use Rattle.stil_write.specs.declared.forms.Form.{Form}
use Rattle.stil_write.specs.declared.forms.CharKind.TheVariants as values
use Rattle.statement.specs.Stils.{Call, StilFile, Vector, numbered, where_chained}
use Rattle.stil_write.specs.StilFiles.{IsStilCall, IsItem, IsStilName, IsStilFile, IsWord, is_stil_name_byte, is_value, declared_signals}
use Rattle.stil_vectors.specs.TestFiles.{load_words, test_file, text_of_bits, text_of_values}
use Rattle.stil_vectors.specs.Fitting.{FitsNetlist}
use Rattle.scan_play.proofs.Widths.{scanned_cells_count}
use Rattle.stil_patterns.specs.Laws.{FilesFit}
use Rattle.stil_patterns.proofs.NameLemmas.{inputs_are, pins_are}

-- ---- words

is_bit : (b : Bool) → IsTrue (is_value values.Bits (char_of_bit b))
is_bit true = refl
is_bit false = refl

is_strobe : (v : Tri) → IsTrue (is_value values.Strobes (char_of_value v))
is_strobe Zero = refl
is_strobe One = refl
is_strobe X = refl

abbrev bits_of_size : ℕ → Form
bits_of_size size = record { values = values.Bits; size = size }

abbrev strobes_of_size : ℕ → Form
strobes_of_size size = record { values = values.Strobes; size = size }

word_of_bits : (size : ℕ) (bits : List Bool) → length bits ≡ size → IsWord (bits_of_size size) (text_of_bits bits)
word_of_bits size bits e = (length-map bits char_of_bit ∙ e, All-map (λ b. IsTrue (is_value values.Bits b)) char_of_bit bits (λ k d l. is_bit (get_or bits k d)))

word_of_values : (size : ℕ) (strobes : List Tri) → length strobes ≡ size → IsWord (strobes_of_size size) (text_of_values strobes)
word_of_values size strobes e = (length-map strobes char_of_value ∙ e, All-map (λ b. IsTrue (is_value values.Strobes b)) char_of_value strobes (λ k d l. is_strobe (get_or strobes k d)))

zip_copies : (n : ℕ) (form : Form) (word : Text) → IsWord form word → AllZip IsWord (replicate n form) (replicate n word)
zip_copies zero form word h = tt
zip_copies (suc n) form word h = (h, zip_copies n form word h)

zip_chained : (n : ℕ) (form : Form) (word : Text) → IsWord form word → AllZip IsWord (where_chained n form) (where_chained n word)
zip_chained zero form word h = tt
zip_chained (suc n) form word h = (h, tt)

pub length-word_in : (m : ℕ) (bits : List Bool) → length bits ≤ m → length (word_in m bits) ≡ m
length-word_in m bits h =
    let a = length-append (replicate (m - length bits) false) (reverse bits) in
    let b = length-replicate (m - length bits) false in
    let c = length-reverse bits in
    omega (arith, a, b, c, h)

pub length-word_out : (m : ℕ) (held : List Tri) → length held ≤ m → length (word_out m held) ≡ m
length-word_out m held h =
    let a = length-append (reverse held) (replicate (m - length held) X) in
    let b = length-replicate (m - length held) X in
    let c = length-reverse held in
    omega (arith, a, b, c, h)

-- ---- loads

zip_ins : (m : ℕ) (chains : List (List ℕ)) (bits : List Bool) → longest_of chains ≤ m
    → AllZip IsWord (replicate (length chains) (bits_of_size m)) (map text_of_bits (map (word_in m) (by_chain chains bits)))
zip_ins m [] bits h = tt
zip_ins m (chain ∷ chains) bits h =
    let few = length-take (length chain) bits in
    (word_of_bits m (word_in m (take (length chain) bits)) (length-word_in m (take (length chain) bits) (omega (arith, few, h))), zip_ins m chains (drop (length chain) bits) (omega (arith, h)))

zip_outs : (m : ℕ) (chains : List (List ℕ)) (held : List Tri) → longest_of chains ≤ m
    → AllZip IsWord (replicate (length chains) (strobes_of_size m)) (map text_of_values (map (word_out m) (by_chain chains held)))
zip_outs m [] held h = tt
zip_outs m (chain ∷ chains) held h =
    let few = length-take (length chain) held in (
      word_of_values m (word_out m (take (length chain) held)) (length-word_out m (take (length chain) held) (omega (arith, few, h))),
      zip_outs m chains (drop (length chain) held) (omega (arith, h)),
    )

call_is : (chain : List ℕ) (rest : List (List ℕ)) (bits : List Bool) (held : List Tri) → 0 < length chain → IsStilCall (length (chain ∷ rest)) (load_words (chain ∷ rest) bits held)
call_is chain rest bits held some =
    let chains = chain ∷ rest in
    let m = longest_of chains in (
      m,
      omega (arith, some),
      omega arith,
      zip_append IsWord (replicate (length chains) (bits_of_size m)) (replicate (length chains) (strobes_of_size m))
          (map text_of_bits (map (word_in m) (by_chain chains bits))) (map text_of_values (map (word_out m) (by_chain chains held)))
          (zip_ins m chains bits (omega arith)) (zip_outs m chains held (omega arith)),
    )

pub load_are : (f : StilFile) (chains : List (List ℕ)) (bits : List Bool) (held : List Tri) → length f.chains ≡ length chains → All (λ (chain : List ℕ). 0 < length chain) chains → All (IsItem f) (load_items chains bits held)
load_are f [] bits held e some = All-nil (IsItem f)
load_are f (chain ∷ rest) bits held e some =
    All-cons (IsItem f) (Call (load_words (chain ∷ rest) bits held)) []
    (subst (λ k. IsStilCall k (load_words (chain ∷ rest) bits held)) (sym e) (call_is chain rest bits held (All-head (λ (q : List ℕ). 0 < length q) chain rest some))) (All-nil (IsItem f))

-- ---- captures

abbrev forms_by : ℕ → ℕ → ℕ → List Form
forms_by k pis pos =
    bits_of_size pis ∷ (replicate k (bits_of_size 1) ++ (where_chained k (let form : Form = record { values = values.Pulses; size = 1 } in form) ++ (strobes_of_size pos ∷ replicate k (strobes_of_size 1))))

one_is : (form : Form) (b : ℕ) → form.size ≡ 1 → IsTrue (is_value form.values b) → IsWord form (b ∷ [])
one_is form b e h = (sym e, All-cons (λ c. IsTrue (is_value form.values c)) b [] h (All-nil (λ c. IsTrue (is_value form.values c))))

capture_zip : (k pis pos : ℕ) (inputs : List Bool) (strobes : List Tri) → length inputs ≡ pis → length strobes ≡ pos
    → AllZip IsWord (forms_by k pis pos) (text_of_bits inputs ∷ (replicate k (codes "0") ++ (where_chained k (codes "P") ++ (text_of_values strobes ∷ replicate k (codes "X")))))
capture_zip k pis pos inputs strobes ei es =
    let pulse : Form = record { values = values.Pulses; size = 1 } in (
      word_of_bits pis inputs ei,
      zip_append IsWord (replicate k (bits_of_size 1)) (where_chained k pulse ++ (strobes_of_size pos ∷ replicate k (strobes_of_size 1)))
          (replicate k (codes "0")) (where_chained k (codes "P") ++ (text_of_values strobes ∷ replicate k (codes "X")))
          (zip_copies k (bits_of_size 1) (codes "0") (one_is (bits_of_size 1) 48 refl refl))
          (zip_append IsWord (where_chained k pulse) (strobes_of_size pos ∷ replicate k (strobes_of_size 1)) (where_chained k (codes "P")) (text_of_values strobes ∷ replicate k (codes "X"))
          (zip_chained k pulse (codes "P") (one_is pulse 80 refl refl))
          (word_of_values pos strobes es, zip_copies k (strobes_of_size 1) (codes "X") (one_is (strobes_of_size 1) 88 refl refl))),
    )

pub vector_is : (f : StilFile) (chains : List (List ℕ)) (inputs : List Bool) (strobes : List Tri) → length f.chains ≡ length chains → length (inputs ++ where_chained (length chains) false) ≡ length f.pi → length strobes ≡ length f.po
    → IsItem f (Vector (text_of_bits (inputs ++ where_chained (length chains) false) ∷ (replicate (length chains) (codes "0") ++ (where_chained (length chains) (codes "P") ++ (text_of_values strobes ∷ replicate (length chains) (codes "X"))))))
vector_is f chains inputs strobes e ei eo =
    let k = length chains in
    let words = text_of_bits (inputs ++ where_chained k false) ∷ (replicate k (codes "0") ++ (where_chained k (codes "P") ++ (text_of_values strobes ∷ replicate k (codes "X")))) in
    subst (λ j. AllZip IsWord (forms_by j (length f.pi) (length f.po)) words) (sym e)
    (capture_zip k (length f.pi) (length f.po) (inputs ++ where_chained k false) strobes ei eo)

pub capture_is : (f : StilFile) (chains : List (List ℕ)) (p : Pattern) (r : Response) → length f.chains ≡ length chains → length (p.inputs ++ where_chained (length chains) false) ≡ length f.pi → length r.outputs ≡ length f.po
    → IsItem f (capture_item chains p r)
capture_is f chains p r e ei eo = vector_is f chains p.inputs (map known r.outputs) e ei (length-map r.outputs known ∙ eo)

-- ---- all items

record IsShaped (ins outs : ℕ) (t : Pattern × Response) : Type 0 where
  inputs : length t.0.inputs ≡ ins
  outputs : length t.1.outputs ≡ outs

module _ (f : StilFile) (chains : List (List ℕ)) (e : length f.chains ≡ length chains) (some : All (λ (chain : List ℕ). 0 < length chain) chains) (ins outs : ℕ)
    (wide : ins + length (where_chained (length chains) false) ≡ length f.pi) (also : outs ≡ length f.po) where
  applied_are : (held : List Tri) (tests : List (Pattern × Response)) → All (IsShaped ins outs) tests → All (IsItem f) (applied_items chains held tests)
  applied_are held [] h = load_are f chains (replicate (length (cells_of chains)) false) held e some
  applied_are held (test ∷ tests) h =
      let own = All-head (IsShaped ins outs) test tests h in
      let size = length-append test.0.inputs (where_chained (length chains) false) in
      let i = own.inputs in
      let o = own.outputs in
      All-append (IsItem f) (load_items chains test.0.cells held) (capture_item chains test.0 test.1 ∷ applied_items chains (map known test.1.cells) tests) (load_are f chains test.0.cells held e some)
      (All-cons (IsItem f) (capture_item chains test.0 test.1) (applied_items chains (map known test.1.cells) tests)
      (capture_is f chains test.0 test.1 e (omega (arith, size, i, wide)) (omega (arith, o, also)))
      (applied_are (map known test.1.cells) tests (All-tail (IsShaped ins outs) test tests h)))

  items_are : (tests : List (Pattern × Response)) → All (IsShaped ins outs) tests → All (IsItem f) (test_items chains tests)
  items_are tests h =
      let nothing = replicate (length (cells_of chains)) X in
      let a = load_items chains (flush chains) nothing in
      let b = load_items chains (map not (flush chains)) (map known (flush chains)) in
      let c = load_items chains (replicate (length (cells_of chains)) false) (map known (map not (flush chains))) in
      All-append (IsItem f) (a ++ b ++ c) (applied_items chains nothing tests)
      (All-append (IsItem f) (a ++ b) c
      (All-append (IsItem f) a b (load_are f chains (flush chains) nothing e some) (load_are f chains (map not (flush chains)) (map known (flush chains)) e some))
      (load_are f chains (replicate (length (cells_of chains)) false) (map known (map not (flush chains))) e some))
      (applied_are nothing tests h)

shaped : (n : Netlist) (holds : Holds) (ps : List Pattern) (rs : List Response) → All (IsPatternOf n holds) ps → AllZip (Responds n None) ps rs → All (IsShaped (length n.inputs) (length n.outputs)) (zip ps rs)
shaped n holds [] rs h a = All-nil (IsShaped (length n.inputs) (length n.outputs))
shaped n holds (p ∷ ps) [] h a = absurd a
shaped n holds (p ∷ ps) (r ∷ rs) h a =
    let own = All-head (IsPatternOf n holds) p ps h in
    All-cons (IsShaped (length n.inputs) (length n.outputs)) (p, r) (zip ps rs) (record { inputs = own.inputs; outputs = ap length a.0.outputs ∙ length-map n.outputs _ })
    (shaped n holds ps rs (All-tail (IsPatternOf n holds) p ps h) a.1)

-- ---- names

without_or : (p x y : Bool) → IsTrue (p && not (x || y)) → IsTrue (p && not x)
without_or true true y h = h
without_or true false y h = refl
without_or false x y h = h

is_byte : (b : ℕ) → IsTrue (net.is_name_byte b) → IsTrue (is_stil_name_byte b)
is_byte b h =
    let p = nat_le 33 b && nat_le b 126 in
    without_or p (b == 34 || b == 39) (b == 35)
    (without_or p (b == 34 || b == 39 || b == 35) (b == 40)
    (without_or p (b == 34 || b == 39 || b == 35 || b == 40) (b == 41)
    (without_or p (b == 34 || b == 39 || b == 35 || b == 40 || b == 41) (b == 44)
    (without_or p (b == 34 || b == 39 || b == 35 || b == 40 || b == 41 || b == 44) (b == 61) h))))

abbrev AreBytes : Text → Type 0
AreBytes name = All (λ b. IsTrue (is_stil_name_byte b)) name

own_name : (s : Netlist) → IsSound s → (x : ℕ) → x < length (net.signals s) → IsStilName (name_of s x)
own_name s sound x l =
    let is = sound.formed.names x [] (sound.formed.named x (x, l, get_or_default (net.signals s) x x 0 l ∙ sound.formed.numbered x l)) in
    record { some = is.some; short = is.short; bytes = All-weaker (λ b. IsTrue (net.is_name_byte b)) (λ b. IsTrue (is_stil_name_byte b)) is_byte (name_of s x) is.bytes }

abbrev all_of : List ℕ → Bool
all_of [] = true
all_of (b ∷ bs) = is_stil_name_byte b && all_of bs

both : (a b : Bool) → IsTrue (a && b) → IsTrue a × IsTrue b
both true b h = (refl, h)
both false b h = absurd (cc)

are_bytes : (name : Text) → IsTrue (all_of name) → AreBytes name
are_bytes [] h = All-nil (λ b. IsTrue (is_stil_name_byte b))
are_bytes (b ∷ bs) h =
    let two = both (is_stil_name_byte b) (all_of bs) h in
    All-cons (λ b. IsTrue (is_stil_name_byte b)) b bs two.0 (are_bytes bs two.1)

pin_bytes : (b : Bool) (name : Text) → AreBytes name → AreBytes (cond b (codes "SC__o_" ++ name) name)
pin_bytes true name h = All-append (λ b. IsTrue (is_stil_name_byte b)) (codes "SC__o_") name (are_bytes (codes "SC__o_") refl) h
pin_bytes false name h = h

names_ok : (s : Netlist) → IsSound s → HasTesterNames s → All IsStilName (tester_names s)
names_ok s sound names =
    let pins : AreBytes (codes "SC__ck") = are_bytes (codes "SC__ck") refl in
    let bytes : All AreBytes (tester_names s) =
    All-append AreBytes (map (name_of s) s.inputs) (codes "SC__ck" ∷ map (output_name s) s.outputs)
    (All-map AreBytes (name_of s) s.inputs
    (All-weaker (λ x. x < length (net.signals s)) (λ x. AreBytes (name_of s x)) (λ x l. (own_name s sound x l).bytes) s.inputs (inputs_below s sound.formed.numbered (length (net.signals s)) refl)))
    (All-cons AreBytes (codes "SC__ck") (map (output_name s) s.outputs) pins
    (All-map AreBytes (output_name s) s.outputs
    (All-weaker (λ x. x < length (net.signals s)) (λ x. AreBytes (output_name s x)) (λ x l. pin_bytes (list_any (λ y. y == x) s.inputs) (name_of s x) (own_name s sound x l).bytes) s.outputs
    (outputs_within s sound (length (net.signals s)) refl)))) in
    λ k d l. record { some = names.some k d l; short = names.short k d l; bytes = bytes k d l }

cell_names_ok : (n : Netlist) (chains : List (List ℕ)) → IsSound n → AreChainsOf n chains → All (All IsStilName) (map (map (name_of n)) chains)
cell_names_ok n chains sound are =
    let all : cells_of chains ≡ cell_ids n = ap cells_of are.are ∙ stitched_cells (cell_ids n) are.asked are.some in
    let below : All (λ x. x < length (net.signals n)) (cells_of chains) = cells_below n sound.formed.numbered (cells_of chains) (length (net.signals n)) all refl in
    All-map (All IsStilName) (map (name_of n)) chains
    (λ c d l. All-map IsStilName (name_of n) (get_or chains c d)
    (All-weaker (λ x. x < length (net.signals n)) (λ x. IsStilName (name_of n x)) (own_name n sound) (get_or chains c d)
    (cells_of_chain (λ x. x < length (net.signals n)) chains c (get_or chains c d) below (slice_get-get_or chains c d l))))

pub filled : (n : Netlist) (chains : List (List ℕ)) → AreChainsOf n chains → All (λ (chain : List ℕ). 0 < length chain) chains
filled n chains are = subst (All (λ (chain : List ℕ). 0 < length chain)) (sym are.are) (stitched_filled (cell_ids n) are.asked are.some)

-- ---- without chains

module _ (n : Netlist) (sound : IsSound n) (design : IsDesign n) (are : AreChainsOf n []) where
  tested : HasTesterNames n
  tested = tester_names_differ n [] sound design are

  abbrev ins : List Text
  ins = map (name_of n) n.inputs

  abbrev pins : List Text
  pins = map (output_name n) n.outputs

  unclocked : remove (tester_names n) (length ins) ≡ (ins ++ []) ++ ([] ++ ([] ++ (pins ++ [])))
  unclocked =
      ap (λ (xs : List Text). xs ++ drop (suc (length ins)) (tester_names n)) (take_at ins (codes "SC__ck" ∷ pins) (length ins) refl)
      ∙ (ap (λ (xs : List Text). ins ++ xs) behind ∙ (ap (λ (xs : List Text). xs ++ pins) (sym (append-nil ins)) ∙ ap (λ (xs : List Text). (ins ++ []) ++ xs) (sym (append-nil pins))))
    where
      past : {V : Type 0} (xs ys : List V) (y : V) → drop (suc (length xs)) (xs ++ y ∷ ys) ≡ ys
      past [] ys y = refl
      past (x ∷ xs) ys y = past xs ys y

      behind : drop (suc (length ins)) (tester_names n) ≡ pins
      behind = past ins pins (codes "SC__ck")

  none_within : length ins < length (tester_names n)
  none_within = let a = length-append ins (codes "SC__ck" ∷ pins) in omega (arith, a)

  none_names : All IsStilName ((ins ++ []) ++ ([] ++ ([] ++ (pins ++ []))))
  none_names =
      let all = names_ok n sound tested in
      let front : All IsStilName (take (length ins) (tester_names n)) = All-take IsStilName (length ins) (tester_names n) all in
      let back : All IsStilName (drop (suc (length ins)) (tester_names n)) = All-drop IsStilName (suc (length ins)) (tester_names n) all in
      subst (All IsStilName) unclocked (All-append IsStilName (take (length ins) (tester_names n)) (drop (suc (length ins)) (tester_names n)) front back)

  none_made : (holds : Holds) (ps : List Pattern) (rs : List Response) → All (IsPatternOf n holds) ps → AllZip (Responds n None) ps rs → IsStilFile (test_file n holds [] (zip ps rs))
  none_made holds ps rs patterns respond =
      let f = test_file n holds [] (zip ps rs) in
      let i : length f.pi ≡ length n.inputs = ap length (append-nil ins) ∙ length-map n.inputs (name_of n) in
      let o : length f.po ≡ length n.outputs = length-map n.outputs (output_name n) in
      let some = sound.sized.input in
      let shown = sound.sized.output in
      record {
        inputs = omega (arith, i, some);
        outputs = omega (arith, o, shown);
        cells = All-nil (λ (chain : List Text). 1 ≤ length chain);
        names = none_names;
        cell_names = All-nil (All IsStilName);
        distinct = subst (AllPairs (λ x y. x ≢ y)) unclocked (all_pairs_remove (λ (x y : Text). x ≢ y) (tester_names n) (length ins) none_within tested.distinct);
        shift = (refl, All-nil (λ b. IsTrue (is_value values.Bits b)));
        items = items_are f [] refl (All-nil (λ (chain : List ℕ). 0 < length chain)) (length n.inputs) (length n.outputs) (omega (arith, i)) (sym o) (zip ps rs) (shaped n holds ps rs patterns respond);
      }

-- ---- with chains

module _ (n : Netlist) (sound : IsSound n) (design : IsDesign n) (chain : List ℕ) (rest : List (List ℕ)) (are : AreChainsOf n (chain ∷ rest)) where
  abbrev s : Netlist
  s = scanned_of n (chain ∷ rest)

  some_cells : 0 < length (cells n)
  some_cells =
      let count = ap length are.are ∙ stitched_count (cell_ids n) are.asked are.some in
      let size = length-map (cells n) (λ (d : Definition). d.id) in
      omega (arith, count, size)

  all_signals : (holds : Holds) (tests : List (Pattern × Response)) → declared_signals (test_file n holds (chain ∷ rest) tests) ≡ tester_names s
  all_signals holds tests =
      let k = length (chain ∷ rest) in
      let ins = map (name_of n) n.inputs in
      let si = numbered (codes "SC__si") k in
      let so = numbered (codes "SC__so") k in
      let behind = codes "SC__ck" ∷ (map (output_name n) n.outputs ++ so) in
      ap (λ j. (ins ++ codes "SC__se" ∷ []) ++ (numbered (codes "SC__si") j ++ (codes "SC__ck" ∷ (map (output_name n) n.outputs ++ numbered (codes "SC__so") j)))) (length-map (chain ∷ rest) (map (name_of n)))
      ∙ (append_assoc ins (codes "SC__se" ∷ []) (si ++ behind) ∙ (sym (append_assoc ins (codes "SC__se" ∷ si) behind)
      ∙ (ap (λ (xs : List Text). xs ++ behind) (sym (inputs_are n sound design chain rest are some_cells))
      ∙ ap (λ (xs : List Text). map (name_of s) s.inputs ++ (codes "SC__ck" ∷ xs)) (sym (pins_are n sound design chain rest are some_cells)))))

  some_made : (holds : Holds) (ps : List Pattern) (rs : List Response) → AreHoldsOf n holds → All (IsPatternOf n holds) ps → AllZip (Responds n None) ps rs
      → IsStilFile (test_file n holds (chain ∷ rest) (zip ps rs))
  some_made holds ps rs held patterns respond =
      let f = test_file n holds (chain ∷ rest) (zip ps rs) in
      let tested = tester_names_differ n (chain ∷ rest) sound design are in
      let i : length f.pi ≡ length n.inputs + 1 =
      length-append (map (name_of n) n.inputs) (codes "SC__se" ∷ []) ∙ ap (λ k. k + 1) (length-map n.inputs (name_of n)) in
      let o : length f.po ≡ length n.outputs = length-map n.outputs (output_name n) in
      let c : length f.chains ≡ length (chain ∷ rest) = length-map (chain ∷ rest) (map (name_of n)) in
      let shown = sound.sized.output in
      let some = filled n (chain ∷ rest) are in
      let idle : length (idle_inputs holds ++ true ∷ []) ≡ length f.pi =
      length-append (idle_inputs holds) (true ∷ []) ∙ (ap (λ k. k + 1) (length-map holds held_or_zero ∙ held) ∙ sym i) in
      record {
        inputs = omega (arith, i);
        outputs = omega (arith, o, shown);
        cells = All-map (λ (q : List Text). 1 ≤ length q) (map (name_of n)) (chain ∷ rest)
            (All-weaker (λ (q : List ℕ). 0 < length q) (λ (q : List ℕ). 1 ≤ length (map (name_of n) q)) (λ q l. (let m = length-map q (name_of n) in omega (arith, m, l))) (chain ∷ rest) some);
        names = subst (All IsStilName) (sym (all_signals holds (zip ps rs))) (names_ok s (scanned_is_sound n (chain ∷ rest) sound design are) tested);
        cell_names = cell_names_ok n (chain ∷ rest) sound are;
        distinct = subst (AllPairs (λ x y. x ≢ y)) (sym (all_signals holds (zip ps rs))) tested.distinct;
        shift = word_of_bits (length f.pi) (idle_inputs holds ++ true ∷ []) idle;
        items = items_are f (chain ∷ rest) c some (length n.inputs) (length n.outputs) (sym i) (sym o) (zip ps rs) (shaped n holds ps rs patterns respond);
      }

made : (n : Netlist) (holds : Holds) (chains : List (List ℕ)) (ps : List Pattern) (rs : List Response) → IsSound n → IsDesign n → AreChainsOf n chains → AreHoldsOf n holds
    → All (IsPatternOf n holds) ps → AllZip (Responds n None) ps rs → IsStilFile (test_file n holds chains (zip ps rs))
made n holds [] ps rs sound design are held patterns respond = none_made n sound design are holds ps rs patterns respond
made n holds (chain ∷ rest) ps rs sound design are held patterns respond = some_made n sound design chain rest are holds ps rs held patterns respond

pub test_is_file : (n : Netlist) (holds : Holds) (chains : List (List ℕ)) (patterns : List Pattern) (f : StilFile) → IsSound n → IsDesign n → AreChainsOf n chains
    → All (IsPatternOf n holds) patterns → IsFileOf n holds chains patterns f → IsStilFile f
test_is_file n holds chains patterns f sound design are obey h = subst IsStilFile (sym h.is) (made n holds chains patterns h.responses sound design are h.held obey h.respond)

-- ---- it fits the scanned netlist

fits_none : (n : Netlist) (holds : Holds) (tests : List (Pattern × Response)) → AreChainsOf n [] → FitsNetlist (test_file n holds [] tests) n
fits_none n holds tests are =
    let count = ap length are.are ∙ stitched_count (cell_ids n) are.asked are.some in
    let size = length-map (cells n) (λ (d : Definition). d.id) in
    let some = are.some in
    record {
      inputs = append-nil (map (name_of n) n.inputs ++ []) ∙ append-nil (map (name_of n) n.inputs);
      outputs = append-nil (map (output_name n) n.outputs);
      chains = ((λ _. omega (arith, count, size, some)), (λ _. refl));
    }

fits_some : (n : Netlist) (holds : Holds) (chain : List ℕ) (rest : List (List ℕ)) (tests : List (Pattern × Response)) → IsSound n → IsDesign n → AreChainsOf n (chain ∷ rest)
    → FitsNetlist (test_file n holds (chain ∷ rest) tests) (scanned_of n (chain ∷ rest))
fits_some n holds chain rest tests sound design are =
    let some = some_cells n sound design chain rest are in
    let ins = map (name_of n) n.inputs in
    let k = length-map (chain ∷ rest) (map (name_of n)) in
    let same = scanned_cells_count n chain rest in
    record {
      inputs =
          ap (λ j. (ins ++ codes "SC__se" ∷ []) ++ numbered (codes "SC__si") j) k
          ∙ (append_assoc ins (codes "SC__se" ∷ []) (numbered (codes "SC__si") (length (chain ∷ rest))) ∙ sym (inputs_are n sound design chain rest are some));
      outputs = ap (λ j. map (output_name n) n.outputs ++ numbered (codes "SC__so") j) k ∙ sym (pins_are n sound design chain rest are some);
      chains = ((λ e. absurd (omega (arith, e))), (λ e. absurd (omega (arith, e, same, some))));
    }

fits_made : (n : Netlist) (holds : Holds) (chains : List (List ℕ)) (tests : List (Pattern × Response)) → IsSound n → IsDesign n → AreChainsOf n chains → FitsNetlist (test_file n holds chains tests) (scanned_of n chains)
fits_made n holds [] tests sound design are = fits_none n holds tests are
fits_made n holds (chain ∷ rest) tests sound design are = fits_some n holds chain rest tests sound design are

pub files_fit : FilesFit
files_fit n holds chains patterns f sound design are h = subst (λ (g : StilFile). FitsNetlist g (scanned_of n chains)) (sym h.is) (fits_made n holds chains (zip patterns h.responses) sound design are)
