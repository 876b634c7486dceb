-- One more gate, cell, id or name.
use Rattle.std.proofs.Common.{◌≡◌, ℕ, zero, suc, ◌+◌, ◌-◌, ◌%◌, ◌<◌, ◌≤◌, List, [], ◌∷◌, ◌++◌, map, sym, ◌∙◌, ap, arith, append_assoc, zero-add}
use Rattle.std.specs.Fmt.{decimal}
use Rattle.std.specs.List.{range_with_len}
use Rattle.std.proofs.lemmas.List.{append-nil, map-append}
use Rattle.rand_core.specs.Stream.{Stream}
use Rattle.statement.specs.declared.kinds.Kind.TheVariants.{Dff}
use Rattle.statement.specs.Netlists.{Definition}
use Rattle.net_gen.specs.Samples.{first_word, rest, drawn_gate, after_gate, drawn_gates, after_gates, drawn_cells, lettered_names}

pub range-append : (a n m : ℕ) → range_with_len a (n + m) ≡ range_with_len a n ++ range_with_len (a + n) m
range-append a zero m =
    let e : a + zero ≡ a = omega arith in
    ap (range_with_len a) (zero-add m) ∙ ap (λ b. range_with_len b m) (sym e)
range-append a (suc n) m =
    let e : suc n + m ≡ suc (n + m) = omega arith in
    let f : (a + 1) + n ≡ a + suc n = omega arith in
    ap (range_with_len a) e ∙ ap (λ xs. a ∷ xs) (range-append (a + 1) n m ∙ ap (λ b. range_with_len (a + 1) n ++ range_with_len b m) f)

pub range_more : (a n : ℕ) → range_with_len a (n + 1) ≡ range_with_len a n ++ ((a + n) ∷ [])
range_more a n = range-append a n 1

pub ids_more : (first k : ℕ) (done done' : List ℕ) (x : ℕ) → x ≡ first + k → done' ≡ done ++ (x ∷ []) → done ≡ range_with_len first k → done' ≡ range_with_len first (k + 1)
ids_more first k done done' x is more h = more ∙ (ap (λ xs. xs ++ (x ∷ [])) h ∙ (ap (λ y. range_with_len first k ++ (y ∷ [])) is ∙ sym (range_more first k)))

pub names_more : (letter k : ℕ) → lettered_names letter (k + 1) ≡ lettered_names letter k ++ ((letter ∷ decimal k) ∷ [])
names_more letter k =
    let f : ℕ → List ℕ = λ j. letter ∷ decimal j in
    ap (map f) (range_more 0 k) ∙ (map-append f (range_with_len 0 k) ((0 + k) ∷ []) ∙ ap (λ j. lettered_names letter k ++ (f j ∷ [])) (zero-add k))

pub name_added : (letter k : ℕ) (start old new : List (List ℕ)) (name : List ℕ) → name ≡ letter ∷ decimal k → new ≡ old ++ (name ∷ []) → old ≡ start ++ lettered_names letter k
    → new ≡ start ++ lettered_names letter (k + 1)
name_added letter k start old new name is more h =
    more ∙ (ap (λ xs. xs ++ (name ∷ [])) h ∙ (ap (λ y. (start ++ lettered_names letter k) ++ (y ∷ [])) is
    ∙ (append_assoc start (lettered_names letter k) ((letter ∷ decimal k) ∷ []) ∙ ap (λ xs. start ++ xs) (sym (names_more letter k)))))

-- ---- gates

pub gates_more : (count first j : ℕ) (words words' : Stream) (done done' all : List Definition) (gate : Definition) → j < count
    → gate ≡ drawn_gate (first + j) words → words' ≡ after_gate words → done' ≡ done ++ (gate ∷ [])
    → done ++ drawn_gates (count - j) (first + j) words ≡ all → done' ++ drawn_gates (count - (j + 1)) (first + (j + 1)) words' ≡ all
gates_more count first j words words' done done' all gate l is left more h =
    let c : ℕ = count - (j + 1) in
    let e : count - j ≡ suc c = omega arith in
    let i : (first + j) + 1 ≡ first + (j + 1) = omega arith in
    let g : Definition = drawn_gate (first + j) words in
    let w : Stream = after_gate words in
    ap (λ xs. xs ++ drawn_gates c (first + (j + 1)) words') more
    ∙ (ap (λ (x : Definition). (done ++ (x ∷ [])) ++ drawn_gates c (first + (j + 1)) words') is
    ∙ (ap (λ v. (done ++ (g ∷ [])) ++ drawn_gates c (first + (j + 1)) v) left
    ∙ (append_assoc done (g ∷ []) (drawn_gates c (first + (j + 1)) w)
    ∙ (ap (λ k. done ++ (g ∷ drawn_gates c k w)) (sym i)
    ∙ (ap (λ n. done ++ drawn_gates n (first + j) words) (sym e) ∙ h)))))

pub after_gates_more : (count j : ℕ) (words words' all : Stream) → j < count → words' ≡ after_gate words → after_gates (count - j) words ≡ all
    → after_gates (count - (j + 1)) words' ≡ all
after_gates_more count j words words' all l left h =
    let c : ℕ = count - (j + 1) in
    let e : count - j ≡ suc c = omega arith in
    ap (after_gates c) left ∙ (ap (λ n. after_gates n words) (sym e) ∙ h)

pub gates_first : (count first : ℕ) (words : Stream) (none : List Definition) → none ≡ [] → none ++ drawn_gates (count - 0) (first + 0) words ≡ drawn_gates count first words
gates_first count first words none e =
    let a : count - 0 ≡ count = omega arith in
    let b : first + 0 ≡ first = omega arith in
    ap (λ xs. xs ++ drawn_gates (count - 0) (first + 0) words) e ∙ (ap (λ n. drawn_gates n (first + 0) words) a ∙ ap (λ i. drawn_gates count i words) b)

pub gates_last : (count first j : ℕ) (words : Stream) (done all : List Definition) → count ≤ j → done ++ drawn_gates (count - j) (first + j) words ≡ all → done ≡ all
gates_last count first j words done all l h =
    let e : count - j ≡ 0 = omega arith in
    sym (append-nil done) ∙ (ap (λ n. done ++ drawn_gates n (first + j) words) (sym e) ∙ h)

pub after_gates_last : (count j : ℕ) (words all : Stream) → count ≤ j → after_gates (count - j) words ≡ all → words ≡ all
after_gates_last count j words all l h =
    let e : count - j ≡ 0 = omega arith in
    ap (λ n. after_gates n words) (sym e) ∙ h

-- ---- cells

pub cells_more : (count id first gates k : ℕ) (words words' : Stream) (done done' all : List Definition) (cell : Definition) → k < count
    → cell ≡ record { id = id + k; kind = Dff; pins = (first + first_word words % gates) ∷ [] } → words' ≡ rest words → done' ≡ done ++ (cell ∷ [])
    → done ++ drawn_cells (count - k) (id + k) first gates words ≡ all → done' ++ drawn_cells (count - (k + 1)) (id + (k + 1)) first gates words' ≡ all
cells_more count id first gates k words words' done done' all cell l is left more h =
    let c : ℕ = count - (k + 1) in
    let e : count - k ≡ suc c = omega arith in
    let i : (id + k) + 1 ≡ id + (k + 1) = omega arith in
    let g : Definition = record { id = id + k; kind = Dff; pins = (first + first_word words % gates) ∷ [] } in
    let w : Stream = rest words in
    ap (λ xs. xs ++ drawn_cells c (id + (k + 1)) first gates words') more
    ∙ (ap (λ (x : Definition). (done ++ (x ∷ [])) ++ drawn_cells c (id + (k + 1)) first gates words') is
    ∙ (ap (λ v. (done ++ (g ∷ [])) ++ drawn_cells c (id + (k + 1)) first gates v) left
    ∙ (append_assoc done (g ∷ []) (drawn_cells c (id + (k + 1)) first gates w)
    ∙ (ap (λ m. done ++ (g ∷ drawn_cells c m first gates w)) (sym i)
    ∙ (ap (λ n. done ++ drawn_cells n (id + k) first gates words) (sym e) ∙ h)))))

pub cells_first : (count id first gates : ℕ) (words : Stream) (none : List Definition) → none ≡ []
    → none ++ drawn_cells (count - 0) (id + 0) first gates words ≡ drawn_cells count id first gates words
cells_first count id first gates words none e =
    let a : count - 0 ≡ count = omega arith in
    let b : id + 0 ≡ id = omega arith in
    ap (λ xs. xs ++ drawn_cells (count - 0) (id + 0) first gates words) e
    ∙ (ap (λ n. drawn_cells n (id + 0) first gates words) a ∙ ap (λ i. drawn_cells count i first gates words) b)

pub cells_last : (count id first gates k : ℕ) (words : Stream) (done all : List Definition) → count ≤ k
    → done ++ drawn_cells (count - k) (id + k) first gates words ≡ all → done ≡ all
cells_last count id first gates k words done all l h =
    let e : count - k ≡ 0 = omega arith in
    sym (append-nil done) ∙ (ap (λ n. done ++ drawn_cells n (id + k) first gates words) (sym e) ∙ h)

pub after_gates_first : (count : ℕ) (words : Stream) → after_gates (count - 0) words ≡ after_gates count words
after_gates_first count words =
    let a : count - 0 ≡ count = omega arith in
    ap (λ n. after_gates n words) a

pub name_text : (letter k : ℕ) (cleared pushed digits text name : List ℕ) → cleared ≡ [] → pushed ≡ cleared ++ (letter ∷ []) → digits ≡ decimal k → text ≡ pushed ++ digits
    → name ≡ text → name ≡ letter ∷ decimal k
name_text letter k cleared pushed digits text name c p d t n =
    n ∙ (t ∙ (ap (λ xs. xs ++ digits) (p ∙ ap (λ xs. xs ++ (letter ∷ [])) c) ∙ ap (λ xs. letter ∷ xs) d))
