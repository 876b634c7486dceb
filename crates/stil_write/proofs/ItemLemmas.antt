-- Items in their buffers, and the words of a file's items.
use Rattle.std.proofs.Common.{◌≡◌, ℕ, zero, suc, ◌+◌, ◌-◌, ◌<◌, ◌≤◌, List, [], ◌∷◌, ◌++◌, take, drop, length, refl, sym, ap, ◌∙◌, arith, get_or, length-append, replicate}
use Rattle.std.specs.Prelude.{Some, slice_get, decimal, codes}
use Rattle.std.specs.List.{All, AllZip}
use Rattle.std.proofs.lemmas.List.{length-replicate, length-take, length-drop, get_or-take, get_or-drop}
use Rattle.std.proofs.lemmas.Option.{slice_get-get_or, get_or_from_slice_get}
use Rattle.std.proofs.lemmas.List.Elements.{All-weaker}
use Rattle.std.proofs.lemmas.Slice.Zip.{AllZip-long}
use Rattle.statement.specs.Benches.{Text}
use Rattle.stil_write.specs.declared.items.ItemKind.{ItemKind}
use Rattle.stil_write.specs.declared.items.ItemKind.TheVariants as kind
use Rattle.stil_write.specs.declared.forms.Form.{Form}
use Rattle.stil_write.specs.declared.forms.CharKind.TheVariants as values
use Rattle.statement.specs.Stils.{Call, Item, StilFile, Vector, numbered, where_chained, assigned, called}
use Rattle.stil_write.specs.StilFiles.{IsItem, IsStilFile, IsWord, call_forms, item_at, item_of, item_kind, vector_forms, words_of}
use Rattle.stil_write.specs.Pieces.{HasTargets}
use Rattle.stil_write.specs.inner.Listed.{AreListed, listed}
use Rattle.plain_text.specs.Rows.{rows}
use Rattle.plain_text.proofs.Buffers.{begins_before_end, end_within, pushed_ends, pushed_rows, row_at, rows_count}

-- ---- in their buffers

listed_count : (kinds : List ItemKind) (rows : List (List Text)) → length kinds ≡ length rows → length (listed kinds rows) ≡ length rows
listed_count [] [] n = refl
listed_count [] (r ∷ rows) n = absurd (omega arith)
listed_count (k ∷ kinds) [] n = absurd (omega arith)
listed_count (k ∷ kinds) (r ∷ rows) n = ap suc (listed_count kinds rows (omega arith))

pub listed_push : (kinds : List ItemKind) (rows : List (List Text)) (kind : ItemKind) (words : List Text) → length kinds ≡ length rows
    → listed (kinds ++ kind ∷ []) (rows ++ words ∷ []) ≡ listed kinds rows ++ item_of kind words ∷ []
listed_push [] [] kind words n = refl
listed_push [] (r ∷ rows) kind words n = absurd (omega arith)
listed_push (k ∷ kinds) [] kind words n = absurd (omega arith)
listed_push (k ∷ kinds) (r ∷ rows) kind words n = ap (λ l. item_of k r ∷ l) (listed_push kinds rows kind words (omega arith))

listed_at : (kinds : List ItemKind) (rows : List (List Text)) (i : ℕ) (d : ItemKind) (words : List Text) → length kinds ≡ length rows → slice_get rows i ≡ Some words
    → item_at (listed kinds rows) i ≡ item_of (get_or kinds i d) words
listed_at [] [] i d words n e = absurd (cc)
listed_at [] (r ∷ rows) i d words n e = absurd (omega arith)
listed_at (k ∷ kinds) [] i d words n e = absurd (cc)
listed_at (k ∷ kinds) (r ∷ rows) zero d words n e = let s : r ≡ words = cc in ap (item_of k) s
listed_at (k ∷ kinds) (r ∷ rows) (suc i) d words n e = listed_at kinds rows i d words (omega arith) e

kind_is : (k : ItemKind) (words : List Text) → item_kind (item_of k words) ≡ k
kind_is kind.Call words = refl
kind_is kind.Vector words = refl

words_are : (k : ItemKind) (words : List Text) → words_of (item_of k words) ≡ words
words_are kind.Call words = refl
words_are kind.Vector words = refl

pub count_in : (kinds : List ItemKind) (words : List Text) (ends : List ℕ) (items : List Item) → AreListed kinds words ends → listed kinds (rows 0 words ends) ≡ items → length ends ≡ length items
count_in kinds words ends items are e =
    sym (rows_count 0 words ends) ∙ sym (listed_count kinds (rows 0 words ends) (are.counts ∙ sym (rows_count 0 words ends))) ∙ ap length e

abbrev pub start : List ℕ → ℕ → ℕ
start ends i = get_or (0 ∷ ends) i 0

abbrev pub stop : List ℕ → ℕ → ℕ
stop ends i = get_or ends i 0

item_in : (kinds : List ItemKind) (words : List Text) (ends : List ℕ) (items : List Item) (i : ℕ) (d : ItemKind) → AreListed kinds words ends → listed kinds (rows 0 words ends) ≡ items → i < length ends
    → item_at items i ≡ item_of (get_or kinds i d) (take (stop ends i - start ends i) (drop (start ends i) words))
item_in kinds words ends items i d are e l =
    ap (λ xs. item_at xs i) (sym e)
    ∙ listed_at kinds (rows 0 words ends) i d (take (stop ends i - start ends i) (drop (start ends i) words)) (are.counts ∙ sym (rows_count 0 words ends)) (row_at 0 words ends i l)

pub kind_in : (kinds : List ItemKind) (words : List Text) (ends : List ℕ) (items : List Item) (i : ℕ) (d : ItemKind) → AreListed kinds words ends → listed kinds (rows 0 words ends) ≡ items → i < length ends
    → get_or kinds i d ≡ item_kind (item_at items i)
kind_in kinds words ends items i d are e l =
    sym (ap item_kind (item_in kinds words ends items i d are e l) ∙ kind_is (get_or kinds i d) (take (stop ends i - start ends i) (drop (start ends i) words)))

pub words_in : (kinds : List ItemKind) (words : List Text) (ends : List ℕ) (items : List Item) (i : ℕ) → AreListed kinds words ends → listed kinds (rows 0 words ends) ≡ items → i < length ends
    → words_of (item_at items i) ≡ take (stop ends i - start ends i) (drop (start ends i) words)
words_in kinds words ends items i are e l =
    ap words_of (item_in kinds words ends items i kind.Call are e l) ∙ words_are (get_or kinds i kind.Call) (take (stop ends i - start ends i) (drop (start ends i) words))

-- where a word of an item lies
pub count_at : (kinds : List ItemKind) (words : List Text) (ends : List ℕ) (items : List Item) (i : ℕ) → AreListed kinds words ends → listed kinds (rows 0 words ends) ≡ items → i < length items
    → (start ends i ≤ stop ends i) × (stop ends i ≤ length words) × (length (words_of (item_at items i)) ≡ stop ends i - start ends i)
count_at kinds words ends items i are e l =
    let m : i < length ends = (let n = count_in kinds words ends items are e in omega (arith, n)) in
    let a = begins_before_end 0 words ends i are.rise m in
    let b = end_within 0 words ends i are.rise m in
    let c = length-take (stop ends i - start ends i) (drop (start ends i) words) in
    let d = length-drop (start ends i) words in
    let f = ap length (words_in kinds words ends items i are e m) in
    (a, b, omega (arith, a, b, c, d, f))

pub word_at : (kinds : List ItemKind) (words : List Text) (ends : List ℕ) (items : List Item) (i w : ℕ) (x : Text) → AreListed kinds words ends → listed kinds (rows 0 words ends) ≡ items → i < length items
    → w < length (words_of (item_at items i)) → slice_get words (start ends i + w) ≡ Some x → slice_get (words_of (item_at items i)) w ≡ Some x
word_at kinds words ends items i w x are e l m h =
    let n : i < length ends = (let k = count_in kinds words ends items are e in omega (arith, k)) in
    let k = count_at kinds words ends items i are e l in
    let c = k.2 in
    let few : w < stop ends i - start ends i = omega (arith, c) in
    let is = words_in kinds words ends items i are e n in
    slice_get-get_or (words_of (item_at items i)) w x m
    ∙ ap Some (ap (λ l. get_or l w x) is ∙ get_or-take (stop ends i - start ends i) (drop (start ends i) words) w x few
    ∙ get_or-drop (start ends i) words w x ∙ get_or_from_slice_get words (start ends i + w) x x h)

-- an item is pushed
pub pushed_items : (kinds kinds' : List ItemKind) (words words' : List Text) (ends ends' : List ℕ) (items : List Item) (kind : ItemKind) (more : List Text) (end : ℕ)
    → AreListed kinds words ends → listed kinds (rows 0 words ends) ≡ items → words' ≡ words ++ more → ends' ≡ ends ++ end ∷ [] → kinds' ≡ kinds ++ kind ∷ [] → end ≡ length words'
    → AreListed kinds' words' ends' × (listed kinds' (rows 0 words' ends') ≡ items ++ item_of kind more ∷ [])
pushed_items kinds kinds' words words' ends ends' items kind more end are e w t k l =
    let rise = pushed_ends words ends more words' ends' end are.rise w t l in
    let a = ap length k in let b = length-append kinds (kind ∷ []) in
    let c = ap length t in let d = length-append ends (end ∷ []) in
    let n = are.counts in
    let same : length kinds ≡ length (rows 0 words ends) = are.counts ∙ sym (rows_count 0 words ends) in (
      record { rise = rise; counts = omega (arith, a, b, c, d, n) },
      ap (λ ks. listed ks (rows 0 words' ends')) k ∙ ap (listed (kinds ++ kind ∷ [])) (pushed_rows words ends more words' ends' end are.rise w t l)
          ∙ listed_push kinds (rows 0 words ends) kind more same ∙ ap (λ is. is ++ item_of kind more ∷ []) e,
    )

-- ---- of a file

pub length-numbered : (stem : Text) (n : ℕ) → length (numbered stem n) ≡ n
length-numbered stem zero = refl
length-numbered stem (suc n) = let m = length-append (numbered stem n) ((stem ++ decimal n) ∷ []) in let k = length-numbered stem n in omega (arith, m, k)

pub length-chained : {X Y : Type 0} (n : ℕ) (x : X) (y : Y) → length (where_chained n x) ≡ length (where_chained n y)
length-chained zero x y = refl
length-chained (suc n) x y = refl

call_targets : (n size : ℕ) (words : List Text) → AllZip IsWord (call_forms n size) words → length words ≡ length (called n)
call_targets n size words a =
    let bits : Form = record { values = values.Bits; size = size } in
    let strobes : Form = record { values = values.Strobes; size = size } in
    let long = AllZip-long IsWord (call_forms n size) words a in
    let both = length-append (replicate n bits) (replicate n strobes) in
    let b = length-replicate n bits in
    let s = length-replicate n strobes in
    let names = length-append (numbered (codes "SC__si") n) (numbered (codes "SC__so") n) in
    let i = length-numbered (codes "SC__si") n in
    let o = length-numbered (codes "SC__so") n in
    omega (arith, long, both, b, s, names, i, o)

vector_targets : (f : StilFile) (words : List Text) → AllZip IsWord (vector_forms f) words → length words ≡ length (assigned (length f.chains))
vector_targets f words a =
    let n = length f.chains in
    let bit : Form = record { values = values.Bits; size = 1 } in
    let pulse : Form = record { values = values.Pulses; size = 1 } in
    let strobe : Form = record { values = values.Strobes; size = 1 } in
    let outputs : Form = record { values = values.Strobes; size = length f.po } in
    let long = AllZip-long IsWord (vector_forms f) words a in
    let first = length-append (replicate n bit) (where_chained n pulse ++ (outputs ∷ replicate n strobe)) in
    let second = length-append (where_chained n pulse) (outputs ∷ replicate n strobe) in
    let b = length-replicate n bit in
    let s = length-replicate n strobe in
    let third = length-append (numbered (codes "SC__si") n) (where_chained n (codes "SC__ck") ++ (codes "SC__po" ∷ numbered (codes "SC__so") n)) in
    let fourth = length-append (where_chained n (codes "SC__ck")) (codes "SC__po" ∷ numbered (codes "SC__so") n) in
    let i = length-numbered (codes "SC__si") n in
    let o = length-numbered (codes "SC__so") n in
    let k = length-chained n pulse (codes "SC__ck") in
    omega (arith, long, first, second, b, s, third, fourth, i, o, k)

has_targets : (f : StilFile) (item : Item) → IsItem f item → HasTargets (called (length f.chains)) (assigned (length f.chains)) item
has_targets f (Call words) h = call_targets (length f.chains) h.0 words h.3
has_targets f (Vector words) h = vector_targets f words h

pub have_targets : (f : StilFile) → IsStilFile f → All (HasTargets (called (length f.chains)) (assigned (length f.chains))) f.items
have_targets f h = All-weaker (IsItem f) (HasTargets (called (length f.chains)) (assigned (length f.chains))) (has_targets f) f.items h.items
