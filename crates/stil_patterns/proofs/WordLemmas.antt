-- Words as they are made, character by character and chain by chain.
use Rattle.std.proofs.Common.{Bool, ◌≡◌, ◌∙◌, ◌+◌, ◌<◌, ◌≤◌, ℕ, zero, suc, List, [], ◌∷◌, ◌++◌, ap, sym, append_assoc, length, map, take, drop, get_or, arith, Some, slice_get, length-append}
use Rattle.std.proofs.lemmas.List.{drop-drop, map-append, map_more, map_push, take_all, take_more}
use Rattle.statement.specs.Tests.{cells_of, by_chain, held_or_zero, char_of_bit}
use Rattle.statement.specs.Patterns.{Holds}
use Rattle.std.specs.Prelude.{Option}
use Rattle.std.proofs.lemmas.Option.{get_or_from_slice_get, slice_get_within}
use Rattle.statement.specs.Benches.{Text}
use Rattle.stil_vectors.specs.TestFiles.{text_of_bits}

pub char_more : {V : Type 0} (f : V → ℕ) (z : V) (values : List V) (t : ℕ) (so_far after : Text) (v : V) (char : ℕ) → t < length values → so_far ≡ map f (take t values)
    → v ≡ get_or values t z → char ≡ f v → after ≡ so_far ++ char ∷ [] → after ≡ map f (take (t + 1) values)
char_more f z values t so_far after v char l e is made a =
    a ∙ (ap (λ (s : Text). s ++ char ∷ []) e ∙ (ap (λ c. map f (take t values) ++ c ∷ []) (made ∙ ap f is) ∙ sym (map_more f values t z l)))

pub chars_end : {V : Type 0} (f : V → ℕ) (values : List V) (t : ℕ) (so_far : Text) → length values ≤ t → so_far ≡ map f (take t values) → so_far ≡ map f values
chars_end f values t so_far l e = e ∙ ap (map f) (take_all t values l)

-- the word of a shift, input by input
pub idle_more : (holds : Holds) (k : ℕ) (held : Option Bool) (so_far after : Text) (char : ℕ) → k < length holds → slice_get holds k ≡ Some held → so_far ≡ text_of_bits (map held_or_zero (take k holds))
    → char ≡ char_of_bit (held_or_zero held) → after ≡ so_far ++ char ∷ [] → after ≡ text_of_bits (map held_or_zero (take (k + 1) holds))
idle_more holds k held so_far after char l got e is a =
    let one : take (k + 1) holds ≡ take k holds ++ held ∷ [] = take_more holds k held l ∙ ap (λ (h : Option Bool). take k holds ++ h ∷ []) (get_or_from_slice_get holds k held held got) in
    a ∙ (ap (λ (s : Text). s ++ char ∷ []) e
    ∙ (ap (λ c. text_of_bits (map held_or_zero (take k holds)) ++ c ∷ []) is
    ∙ sym (ap (λ (h : Holds). text_of_bits (map held_or_zero h)) one
    ∙ (ap text_of_bits (map_push held_or_zero (take k holds) held) ∙ map_push char_of_bit (map held_or_zero (take k holds)) (held_or_zero held)))))

-- ---- chain by chain

by_chain_more : {V : Type 0} (chains : List (List ℕ)) (c : ℕ) (chain : List ℕ) (values : List V) → slice_get chains c ≡ Some chain
    → by_chain (take (c + 1) chains) values ≡ by_chain (take c chains) values ++ take (length chain) (drop (length (cells_of (take c chains))) values) ∷ []
by_chain_more [] c chain values e = cc
by_chain_more (own ∷ chains) zero chain values e =
    let same : own ≡ chain = cc in
    ap (λ (x : List ℕ). take (length x) values ∷ []) same
by_chain_more (own ∷ chains) (suc c) chain values e =
    let one : suc c + 1 ≡ suc (c + 1) = omega arith in
    let n = length own in
    ap (λ k. by_chain (take k (own ∷ chains)) values) one
    ∙ (ap (λ r. take n values ∷ r) (by_chain_more chains c chain (drop n values) e)
    ∙ ap (λ r. take n values ∷ (by_chain (take c chains) (drop n values) ++ take (length chain) r ∷ []))
    (drop-drop (length (cells_of (take c chains))) n values ∙ ap (λ k. drop k values) (sym (length-append own (cells_of (take c chains))))))

pub words_more : {V : Type 0} (f : List V → Text) (g : List V → List V) (chains : List (List ℕ)) (c start : ℕ) (chain : List ℕ) (values own : List V) (old found new : List Text) (text : Text)
    → slice_get chains c ≡ Some chain → start ≡ length (cells_of (take c chains)) → own ≡ take (length chain) (drop start values) → text ≡ f (g own)
    → found ≡ old ++ map f (map g (by_chain (take c chains) values)) → new ≡ found ++ text ∷ []
    → new ≡ old ++ map f (map g (by_chain (take (c + 1) chains) values))
words_more f g chains c start chain values own old found new text e s o is h pushed =
    let before = by_chain (take c chains) values in
    let piece = take (length chain) (drop (length (cells_of (take c chains))) values) in
    let same : own ≡ piece = o ∙ ap (λ k. take (length chain) (drop k values)) s in
    pushed
    ∙ (ap (λ (x : List Text). x ++ text ∷ []) h
    ∙ (append_assoc old (map f (map g before)) (text ∷ [])
    ∙ ap (λ (x : List Text). old ++ x)
    (ap (λ (x : Text). map f (map g before) ++ x ∷ []) (is ∙ ap (λ w. f (g w)) same)
    ∙ sym (ap (λ ws. map f (map g ws)) (by_chain_more chains c chain values e)
    ∙ (ap (map f) (map-append g before (piece ∷ []))
    ∙ map-append f (map g before) (g piece ∷ []))))))

-- ---- names

pub pushed_more : {X Y : Type 0} (f : X → Y) (xs : List X) (i : ℕ) (x : X) (old found new : List Y) (y : Y) → i < length xs → x ≡ get_or xs i x → y ≡ f x → found ≡ old ++ map f (take i xs) → new ≡ found ++ y ∷ []
    → new ≡ old ++ map f (take (i + 1) xs)
pushed_more f xs i x old found new y l is e h pushed =
    pushed ∙ (ap (λ z. z ++ y ∷ []) h ∙ (append_assoc old (map f (take i xs)) (y ∷ []) ∙ ap (λ z. old ++ z) (ap (λ z. map f (take i xs) ++ z ∷ []) (e ∙ ap f is) ∙ sym (map_more f xs i x l))))

pub named_more : {X Y : Type 0} (f : X → Y) (xs : List X) (i : ℕ) (d : X) (found new : List Y) (y : Y) → i < length xs → y ≡ f (get_or xs i d) → found ≡ map f (take i xs) → new ≡ found ++ y ∷ []
    → new ≡ map f (take (i + 1) xs)
named_more f xs i d found new y l e h pushed = pushed ∙ (ap (λ z. z ++ y ∷ []) h ∙ (ap (λ z. map f (take i xs) ++ z ∷ []) e ∙ sym (map_more f xs i d l)))

pub got_more : {X Y : Type 0} (f : X → Y) (xs : List X) (i : ℕ) (x : X) (found new : List Y) (y : Y) → slice_get xs i ≡ Some x → y ≡ f x → found ≡ map f (take i xs) → new ≡ found ++ y ∷ []
    → new ≡ map f (take (i + 1) xs)
got_more f xs i x found new y g e h pushed =
    named_more f xs i x found new y (slice_get_within xs i x g) (e ∙ ap f (sym (get_or_from_slice_get xs i x x g))) h pushed
