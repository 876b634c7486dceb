-- The cycles of a call.
use Rattle.std.proofs.Common.{◌≡◌, ◌∙◌, ◌+◌, ◌*◌, ◌<◌, ◌≤◌, ℕ, zero, suc, Bool, true, false, List, [], ◌∷◌, ◌++◌, ap, sym, refl, subst, length, take, drop, map, arith, replicate, length-append}
use Rattle.std.specs.Prelude.{Some, slice_get, ⊤}
use Rattle.std.specs.List.{All, flat_map}
use Rattle.std.proofs.lemmas.List.{length-replicate, length-take, length-drop}
use Rattle.std.proofs.lemmas.Option.{get_or_from_slice_get}
use Rattle.std.proofs.lemmas.Slice.Zip.{AllZip-long}
use Rattle.statement.specs.Benches.{Text}
use Rattle.statement.specs.declared.kinds.Tri.{Tri}
use Rattle.statement.specs.declared.kinds.Tri.TheVariants.{X}
use Rattle.statement.specs.Runs.{numbers_from, Cycle}
use Rattle.scan_play.specs.Bursts.{cycle_at}
use Rattle.statement.specs.Tests.{column, driven_bit, call_cycle, cycles_of_item, strobed_value}
use Rattle.scan_play.proofs.BurstLemmas.{enough, map_numbers, same_cycle}
use Rattle.scan_play.proofs.LoadLemmas.{row_of_flat}
use Rattle.stil_write.specs.declared.forms.Form.{Form}
use Rattle.stil_write.specs.declared.forms.CharKind.TheVariants as values
use Rattle.statement.specs.Stils.{Call, Item, StilFile, Vector}
use Rattle.stil_write.specs.StilFiles.{IsStilCall, IsItem, IsStilFile, IsWord, call_forms, item_at}
use Rattle.stil_vectors.specs.FileVectors.{bits_of, call_size, values_of}
use Rattle.stil_vectors.proofs.CharLemmas.{all_at, length-chars, zip_all}

-- what stays and what changes, cycle by cycle
pub burst_cycles : (drive d : List Bool) (strobe s : List Tri) (pulse : Bool) (width count : ℕ) (ins : List Bool) (outs : List Tri) (fin : ℕ → List Bool) (fout : ℕ → List Tri)
    → drive ≡ d → strobe ≡ s → ins ≡ flat_map fin (numbers_from 0 count) → outs ≡ flat_map fout (numbers_from 0 count) → ((t : ℕ) → length (fin t) ≡ width) → ((t : ℕ) → length (fout t) ≡ width)
    → map (cycle_at drive strobe pulse width ins outs) (numbers_from 0 count) ≡ map (λ t. (let c : Cycle = record { drive = d ++ fin t; strobe = s ++ fout t; pulse = pulse } in c)) (numbers_from 0 count)
burst_cycles drive d strobe s pulse width count ins outs fin fout ed es ei eo li lo =
    map_numbers (cycle_at drive strobe pulse width ins outs) (λ t. (let c : Cycle = record { drive = d ++ fin t; strobe = s ++ fout t; pulse = pulse } in c)) 0 count
    (λ t l.
    let z : 0 + t ≡ t = omega arith in
    let in_row : take width (drop ((0 + t) * width) ins) ≡ fin (0 + t) =
    ap (λ x. take width (drop ((0 + t) * width) x)) ei ∙ ap (λ j. take width (drop (j * width) (flat_map fin (numbers_from 0 count)))) z ∙ row_of_flat fin width 0 count t li l in
    let out_row : take width (drop ((0 + t) * width) outs) ≡ fout (0 + t) =
    ap (λ x. take width (drop ((0 + t) * width) x)) eo ∙ ap (λ j. take width (drop (j * width) (flat_map fout (numbers_from 0 count)))) z ∙ row_of_flat fout width 0 count t lo l in
    same_cycle _ _ _ _ _ _ (ap (λ x. x ++ take width (drop ((0 + t) * width) ins)) ed ∙ ap (λ x. d ++ x) in_row)
    (ap (λ x. x ++ take width (drop ((0 + t) * width) outs)) es ∙ ap (λ x. s ++ x) out_row) refl)

-- ---- the words of a call

abbrev SizedForms : ℕ → List Form → Type 0
SizedForms size [] = ⊤
SizedForms size (form ∷ forms) = (form.size ≡ size) × SizedForms size forms

sized_copies : (n size : ℕ) (form : Form) → form.size ≡ size → SizedForms size (replicate n form)
sized_copies zero size form e = tt
sized_copies (suc n) size form e = (e, sized_copies n size form e)

sized-append : (size : ℕ) (xs ys : List Form) → SizedForms size xs → SizedForms size ys → SizedForms size (xs ++ ys)
sized-append size [] ys h k = k
sized-append size (x ∷ xs) ys h k = (h.0, sized-append size xs ys h.1 k)

sized_at : (size : ℕ) (forms : List Form) (k : ℕ) (form : Form) → SizedForms size forms → slice_get forms k ≡ Some form → form.size ≡ size
sized_at size [] k form h e = absurd (cc)
sized_at size (f ∷ forms) zero form h e = let s : f ≡ form = cc in ap (λ (g : Form). g.size) (sym s) ∙ h.0
sized_at size (f ∷ forms) (suc k) form h e = sized_at size forms k form h.1 e

pub record CallWords (n : ℕ) (words : List Text) (size : ℕ) : Type 0 where
  pub count : length words ≡ n + n
  pub some : 1 ≤ length words
  pub long : All (λ (word : Text). length word ≡ size) words

pub call_words : (n : ℕ) (words : List Text) → IsStilCall n words → (size : ℕ) × CallWords n words size
call_words n words h =
    let size = h.0 in
    let bits : Form = record { values = values.Bits; size = size } in
    let strobes : Form = record { values = values.Strobes; size = size } in
    let long = AllZip-long IsWord (call_forms n size) words h.3 in
    let both = length-append (replicate n bits) (replicate n strobes) in
    let b = length-replicate n bits in
    let s = length-replicate n strobes in
    let chained = h.2 in
    let sized = sized-append size (replicate n bits) (replicate n strobes) (sized_copies n size bits refl) (sized_copies n size strobes refl) in (
      size,
      record {
        count = omega (arith, long, both, b, s);
        some = omega (arith, long, both, b, s, chained);
        long = zip_all IsWord (λ (word : Text). length word ≡ size) (call_forms n size) words h.3 (λ k form word e w. w.0 ∙ sized_at size (call_forms n size) k form sized e);
      },
    )

pub call_item : (f : StilFile) (i : ℕ) (words : List Text) → IsStilFile f → i < length f.items → item_at f.items i ≡ Call words → IsStilCall (length f.chains) words
call_item f i words h l e = subst (IsItem f) e (h.items i (Vector []) l)

-- character t of words that are all longer
pub longer : (words : List Text) (size t : ℕ) → t < size → All (λ (word : Text). length word ≡ size) words → All (λ (word : Text). t < length word) words
longer words size t l h k d m = let e = h k d m in omega (arith, e, l)

pub first_size : (words : List Text) (word : Text) → slice_get words 0 ≡ Some word → call_size words ≡ length word
first_size words word e = ap length (get_or_from_slice_get words 0 word [] e)

pub all_sized : (words : List Text) (word : Text) (size : ℕ) → slice_get words 0 ≡ Some word → All (λ (w : Text). length w ≡ size) words → All (λ (w : Text). length w ≡ length word) words
all_sized words word size e h k d m = let a = h k d m in let b = all_at (λ (w : Text). length w ≡ size) words 0 word h e in omega (arith, a, b)

-- the cycles of a call from its burst
pub call_cycles : (f : StilFile) (item : Item) (words : List Text) (first : Text) (drive : List Bool) (strobe : List Tri) (width count : ℕ) (ins : List Bool) (outs : List Tri) → item ≡ Call words
    → slice_get words 0 ≡ Some first → length words ≡ length f.chains + length f.chains → drive ≡ bits_of f.shift_word → strobe ≡ replicate (length f.po) X → width ≡ length f.chains → count ≡ length first
    → ins ≡ flat_map (column false (map bits_of (take width words))) (numbers_from 0 count) → outs ≡ flat_map (column X (map values_of (drop width words))) (numbers_from 0 count)
    → map (cycle_at drive strobe true width ins outs) (numbers_from 0 count) ≡ cycles_of_item f item
call_cycles f item words first drive strobe width count ins outs ei ef n ed es ew ec eins eouts =
    let few = length-take width words in
    let more = length-drop width words in
    burst_cycles drive (bits_of f.shift_word) strobe (replicate (length f.po) X) true width count ins outs (column false (map bits_of (take width words))) (column X (map values_of (drop width words))) ed es eins eouts
    (λ t. (let k = length-chars driven_bit false (take width words) t in omega (arith, k, few, n, ew))) (λ t. (let k = length-chars strobed_value X (drop width words) t in omega (arith, k, more, n, ew)))
    ∙ ap (λ w. map (λ t. (let c : Cycle = record { drive = bits_of f.shift_word ++ column false (map bits_of (take w words)) t; strobe = replicate (length f.po) X ++ column X (map values_of (drop w words)) t; pulse = true } in c)) (numbers_from 0 count)) ew
    ∙ ap (λ k. map (call_cycle f words) (numbers_from 0 k)) (ec ∙ sym (first_size words first ef)) ∙ ap (cycles_of_item f) (sym ei)

pub ins_enough : (words : List Text) (ins : List Bool) (count width : ℕ) → width ≤ length words → ins ≡ flat_map (column false (map bits_of (take width words))) (numbers_from 0 count) → count * width ≤ length ins
ins_enough words ins count width l e =
    let few = length-take width words in
    enough (column false (map bits_of (take width words))) ins count width width e refl (λ t. (let k = length-chars driven_bit false (take width words) t in omega (arith, k, few, l)))

pub outs_enough : (words : List Text) (outs : List Tri) (count width : ℕ) → length words ≡ width + width → outs ≡ flat_map (column X (map values_of (drop width words))) (numbers_from 0 count) → count * width ≤ length outs
outs_enough words outs count width l e =
    let more = length-drop width words in
    enough (column X (map values_of (drop width words))) outs count width width e refl (λ t. (let k = length-chars strobed_value X (drop width words) t in omega (arith, k, more, l)))
