-- The cycle of a vector, and the widths of all cycles.
use Rattle.std.proofs.Common.{◌≡◌, ◌∙◌, ◌+◌, ◌<◌, ◌≤◌, ℕ, zero, suc, Bool, false, List, [], ◌∷◌, ◌++◌, ap, sym, refl, subst, append-nil, length, take, get_or, arith, replicate, length-append, min}
use Rattle.std.specs.Prelude.{◌==◌, Some, slice_get, codes}
use Rattle.std.specs.List.{AllZip, flat_map}
use Rattle.std.proofs.lemmas.List.{length-replicate}
use Rattle.std.proofs.lemmas.List.Concat.{flat_map-append}
use Rattle.std.proofs.lemmas.Option.{get_or_from_slice_get, slice_get-get_or}
use Rattle.std.proofs.lemmas.Slice.Zip.{AllZip-long}
use Rattle.statement.specs.Benches.{Text}
use Rattle.statement.specs.declared.kinds.Tri.{Tri}
use Rattle.statement.specs.declared.kinds.Tri.TheVariants.{X}
use Rattle.statement.specs.Runs.{Cycle}
use Rattle.scan_play.specs.Bursts.{all_cycles, cycles_of}
use Rattle.scan_play.specs.declared.cycles.Burst.{Burst}
use Rattle.stil_write.specs.declared.items.ItemKind.{ItemKind}
use Rattle.stil_write.specs.declared.items.ItemKind.TheVariants as kind
use Rattle.stil_write.specs.declared.forms.Form.{Form}
use Rattle.stil_write.specs.declared.forms.CharKind.TheVariants as values
use Rattle.statement.specs.Stils.{Call, Item, StilFile, Vector, clock, where_chained}
use Rattle.stil_write.specs.StilFiles.{IsItem, IsStilFile, IsWord, item_at, item_of, item_kind, vector_forms, words_of}
use Rattle.stil_vectors.specs.FileVectors.{IsPulsed}
use Rattle.statement.specs.Tests.{has_pulse, cycles_of_item, vector_cycle}
use Rattle.scan_play.proofs.BurstLemmas.{same_cycle}
use Rattle.stil_vectors.proofs.CallLemmas.{CallWords, call_item, call_words}
use Rattle.stil_vectors.proofs.CharLemmas.{take_at, zip_has}

-- ---- the words of a vector

pub length-chained : {X : Type 0} (n : ℕ) (x : X) → length (where_chained n x) ≡ min n 1
length-chained zero x = refl
length-chained (suc n) x = omega arith

pub vector_words : (f : StilFile) (words : List Text) → AllZip IsWord (vector_forms f) words → length words ≡ length f.chains + 1 + length (clock f) + 1 + length f.chains
vector_words f words a =
    let n = length f.chains in
    let bit : Form = record { values = values.Bits; size = 1 } in
    let pulse : Form = record { values = values.Pulses; size = 1 } in
    let strobe : Form = record { values = values.Strobes; size = 1 } in
    let outputs : Form = record { values = values.Strobes; size = length f.po } in
    let long = AllZip-long IsWord (vector_forms f) words a in
    let first = length-append (replicate n bit) (where_chained n pulse ++ (outputs ∷ replicate n strobe)) in
    let second = length-append (where_chained n pulse) (outputs ∷ replicate n strobe) in
    let b = length-replicate n bit in
    let s = length-replicate n strobe in
    let p = length-chained n pulse in
    let k = length-chained n (codes "SC__ck") in
    omega (arith, long, first, second, b, s, p, k)

pub clock_count : (f : StilFile) → length (clock f) ≡ min (length f.chains) 1
clock_count f = length-chained (length f.chains) (codes "SC__ck")

at_pulse : {X : Type 0} (n : ℕ) (b p : X) (rest : List X) → slice_get (replicate n b ++ (p ∷ rest)) n ≡ Some p
at_pulse zero b p rest = refl
at_pulse (suc n) b p rest = at_pulse n b p rest

pulsed_by : (n : ℕ) (first outputs : Form) (words : List Text)
    → AllZip IsWord (first ∷ (replicate n (record { values = values.Bits; size = 1 }) ++ (where_chained n (record { values = values.Pulses; size = 1 }) ++ (outputs ∷ replicate n (record { values = values.Strobes; size = 1 }))))) words
    → IsPulsed n words
pulsed_by zero first outputs words a = tt
pulsed_by (suc m) first outputs words a =
    let bit : Form = record { values = values.Bits; size = 1 } in
    let pulse : Form = record { values = values.Pulses; size = 1 } in
    let strobe : Form = record { values = values.Strobes; size = 1 } in
    let rest = outputs ∷ replicate (suc m) strobe in
    let w = zip_has IsWord (first ∷ (replicate (suc m) bit ++ (pulse ∷ rest))) words (suc (suc m)) pulse a (at_pulse (suc m) bit pulse rest) in
    let n = w.2.0 in
    (w.0, w.1, omega (arith, n))

pub pulsed : (f : StilFile) (words : List Text) → AllZip IsWord (vector_forms f) words → IsPulsed (length f.chains) words
pulsed f words a = pulsed_by (length f.chains) (record { values = values.Bits; size = length f.pi }) (record { values = values.Strobes; size = length f.po }) words a

pub vector_item : (f : StilFile) (i : ℕ) (words : List Text) → IsStilFile f → i < length f.items → item_at f.items i ≡ Vector words → AllZip IsWord (vector_forms f) words
vector_item f i words h l e = subst (IsItem f) e (h.items i (Vector []) l)

pub item_by_kind : (item : Item) → item ≡ item_of (item_kind item) (words_of item)
item_by_kind (Call words) = refl
item_by_kind (Vector words) = refl

pub vector_cycles : (f : StilFile) (item : Item) (words : List Text) (drive : List Bool) (strobe : List Tri) (pulse : Bool) → item ≡ Vector words
    → drive ≡ (vector_cycle f words).drive → strobe ≡ (vector_cycle f words).strobe → pulse ≡ (vector_cycle f words).pulse
    → (let c : Cycle = record { drive = drive; strobe = strobe; pulse = pulse } in c) ∷ [] ≡ cycles_of_item f item
vector_cycles f item words drive strobe pulse e ed es ep = ap (λ (x : Cycle). x ∷ []) (same_cycle _ _ _ _ _ _ ed es ep) ∙ ap (cycles_of_item f) (sym e)

-- bursts of one more item
pub bursts_more : (f : StilFile) (items : List Item) (i : ℕ) (bursts more : List Burst) (burst : Burst) → i < length items → all_cycles bursts ≡ flat_map (cycles_of_item f) (take i items)
    → cycles_of burst ≡ cycles_of_item f (item_at items i) → more ≡ bursts ++ burst ∷ [] → all_cycles more ≡ flat_map (cycles_of_item f) (take (i + 1) items)
bursts_more f items i bursts more burst l e b m =
    ap all_cycles m ∙ flat_map-append cycles_of bursts (burst ∷ []) ∙ ap (λ c. all_cycles bursts ++ c) (append-nil (cycles_of burst) ∙ b)
    ∙ ap (λ c. c ++ cycles_of_item f (item_at items i)) e
    ∙ sym (ap (flat_map (cycles_of_item f)) (take_at items i (item_at items i) (slice_get-get_or items i (Vector []) l)) ∙ flat_map-append (cycles_of_item f) (take i items) (item_at items i ∷ [])
    ∙ ap (λ c. flat_map (cycles_of_item f) (take i items) ++ c) (append-nil (cycles_of_item f (item_at items i))))

-- ---- facts of a file's items, by a list that is the same

pub record VectorFacts (f : StilFile) (words : List Text) : Type 0 where
  pub count : length words ≡ length f.chains + 1 + length (clock f) + 1 + length f.chains
  pub pulse : IsPulsed (length f.chains) words

pub call_facts : (f : StilFile) (items : List Item) (i : ℕ) → IsStilFile f → items ≡ f.items → i < length f.items → item_at f.items i ≡ Call (words_of (item_at f.items i))
    → (size : ℕ) × CallWords (length f.chains) (words_of (item_at items i)) size
call_facts f items i h e l c =
    let k = call_words (length f.chains) (words_of (item_at f.items i)) (call_item f i (words_of (item_at f.items i)) h l c) in
    (k.0, subst (λ is. CallWords (length f.chains) (words_of (item_at is i)) k.0) (sym e) k.1)

pub vector_facts : (f : StilFile) (items : List Item) (i : ℕ) → IsStilFile f → items ≡ f.items → i < length f.items → item_at f.items i ≡ Vector (words_of (item_at f.items i)) → VectorFacts f (words_of (item_at items i))
vector_facts f items i h e l c =
    let a = vector_item f i (words_of (item_at f.items i)) h l c in
    subst (λ is. VectorFacts f (words_of (item_at is i))) (sym e) (record { count = vector_words f (words_of (item_at f.items i)) a; pulse = pulsed f (words_of (item_at f.items i)) a })

pub is_call : (items all : List Item) (i : ℕ) (k : ItemKind) → items ≡ all → k ≡ item_kind (item_at items i) → k ≡ kind.Call → item_at all i ≡ Call (words_of (item_at all i))
is_call items all i k e f g =
    item_by_kind (item_at all i) ∙ ap (λ (j : ItemKind). item_of j (words_of (item_at all i))) (ap (λ is. item_kind (item_at is i)) (sym e) ∙ sym f ∙ g)

pub is_vector : (items all : List Item) (i : ℕ) (k : ItemKind) → items ≡ all → k ≡ item_kind (item_at items i) → k ≡ kind.Vector → item_at all i ≡ Vector (words_of (item_at all i))
is_vector items all i k e f g =
    item_by_kind (item_at all i) ∙ ap (λ (j : ItemKind). item_of j (words_of (item_at all i))) (ap (λ is. item_kind (item_at is i)) (sym e) ∙ sym f ∙ g)

-- ---- the clock's word

pub no_pulse : (n : ℕ) (words : List Text) → n ≡ 0 → has_pulse n words ≡ false
no_pulse zero words e = refl
no_pulse (suc n) words e = absurd (omega (arith, e))

pub clock_word : (n : ℕ) (words : List Text) → (n ≡ 0 → ⊥) → IsPulsed n words → (word : Text) × (slice_get words (n + 1) ≡ Some word) × (1 ≤ length word)
clock_word zero words h p = absurd (h refl)
clock_word (suc n) words h p = let e : suc (suc n) ≡ suc n + 1 = omega arith in (p.0, subst (λ k. slice_get words k ≡ Some p.0) e p.1, p.2)

pub pulse_is : (n : ℕ) (words : List Text) (word : Text) → (n ≡ 0 → ⊥) → slice_get words (n + 1) ≡ Some word → has_pulse n words ≡ (get_or word 0 0 == 80)
pulse_is zero words word h e = absurd (h refl)
pulse_is (suc n) words word h e =
    let k : suc (suc n) ≡ suc n + 1 = omega arith in
    ap (λ w. get_or w 0 0 == 80) (get_or_from_slice_get words (suc (suc n)) word [] (subst (λ m. slice_get words m ≡ Some word) (sym k) e))
