-- The items of a pattern, written and read.
use Rattle.std.proofs.Common.{◌≡◌, ◌∙◌, List, [], ◌∷◌, ◌++◌, ap, sym, refl, append_assoc, map, length, arith}
use Rattle.std.specs.Prelude.{codes, ⊤}
use Rattle.std.specs.List.{All, flat_map}
use Rattle.std.proofs.lemmas.List.Elements.{All-head, All-tail}
use Rattle.statement.specs.Benches.{Text}
use Rattle.statement.specs.Stils.{Item, Call, Vector, assignments, quoted}
use Rattle.stil_write.specs.Pieces.{HasTargets, item_line}
use Rattle.stil_read.specs.Tokens.{Spelled, Token, class_of, tokens, tokens_from}
use Rattle.stil_read.specs.inner.Assigned.{assigned_tokens}
use Rattle.stil_read.specs.inner.Items.{AreAllItems, NoItem, begun_tokens, call_begins, item_ends, item_tokens, vector_begins}
use Rattle.stil_read.specs.inner.Whole.{IsWhole, place_after}
use Rattle.stil_read.specs.inner.Written.{AreAssignable}
use Rattle.stil_read.proofs.WholeLemmas.{whole_then_rest}
use Rattle.stil_read.proofs.WrittenLemmas.{assignments_tokens}
use Rattle.stil_read.proofs.ItemLemmas.{parts}
use Rattle.stil_read.proofs.SignalLemmas.{append_once}

call_whole : IsWhole (codes "  Call \"load_unload\" { ")
unfolding place_after class_of
call_whole = refl

call_same : tokens (codes "  Call \"load_unload\" { ") ≡ tokens call_begins
unfolding tokens_from class_of
call_same = refl

vector_whole : IsWhole (codes "  V { ")
unfolding place_after class_of
vector_whole = refl

vector_same : tokens (codes "  V { ") ≡ tokens vector_begins
unfolding tokens_from class_of
vector_same = refl

end_whole : IsWhole (codes "}\n")
unfolding place_after class_of
end_whole = refl

end_same : tokens (codes "}\n") ≡ tokens item_ends
unfolding tokens_from class_of
end_same = refl

-- what begins so, with words, and its end
one_by : (front begins : Text) (signals words : List Text) (rest : Text) → IsWhole front → tokens front ≡ tokens begins → AreAssignable signals words
    → tokens ((front ++ (assignments signals words ++ codes "}\n")) ++ rest) ≡ begun_tokens begins (map quoted signals) words ++ tokens rest
one_by front begins signals words rest whole same a =
    ap tokens (append_assoc front (assignments signals words ++ codes "}\n") rest ∙ ap (λ t. front ++ t) (append_assoc (assignments signals words) (codes "}\n") rest))
    ∙ whole_then_rest front (assignments signals words ++ (codes "}\n" ++ rest)) whole
    ∙ ap (λ ts. ts ++ tokens (assignments signals words ++ (codes "}\n" ++ rest))) same
    ∙ ap (λ ts. tokens begins ++ ts) (assignments_tokens signals words (codes "}\n" ++ rest) a
    ∙ ap (λ ts. assigned_tokens (map quoted signals) words ++ ts) (whole_then_rest (codes "}\n") rest end_whole ∙ ap (λ ts. ts ++ tokens rest) end_same))
    ∙ sym (parts (tokens begins) (assigned_tokens (map quoted signals) words) (tokens item_ends) (tokens rest))

abbrev pub IsWritable : List Text → List Text → Item → Type 0
IsWritable called assigned (Call words) = AreAssignable called words
IsWritable called assigned (Vector words) = AreAssignable assigned words

abbrev pub AreWritable : List Text → List Text → List Item → Type 0
AreWritable called assigned [] = ⊤
AreWritable called assigned (item ∷ items) = IsWritable called assigned item × AreWritable called assigned items

one_item : (called assigned : List Text) (item : Item) (rest : Text) → IsWritable called assigned item
    → tokens (item_line called assigned item ++ rest) ≡ item_tokens (map quoted called) (map quoted assigned) item ++ tokens rest
one_item called assigned (Call words) rest w = one_by (codes "  Call \"load_unload\" { ") call_begins called words rest call_whole call_same w
one_item called assigned (Vector words) rest w = one_by (codes "  V { ") vector_begins assigned words rest vector_whole vector_same w

-- the tokens of written items
pub item_lines_tokens : (called assigned : List Text) (items : List Item) (rest : Text) → AreWritable called assigned items
    → tokens (flat_map (item_line called assigned) items ++ rest) ≡ flat_map (item_tokens (map quoted called) (map quoted assigned)) items ++ tokens rest
item_lines_tokens called assigned [] rest w = refl
item_lines_tokens called assigned (item ∷ items) rest w =
    ap tokens (append_assoc (item_line called assigned item) (flat_map (item_line called assigned) items) rest)
    ∙ one_item called assigned item (flat_map (item_line called assigned) items ++ rest) w.0
    ∙ ap (λ ts. item_tokens (map quoted called) (map quoted assigned) item ++ ts) (item_lines_tokens called assigned items rest w.1)
    ∙ sym (append_assoc (item_tokens (map quoted called) (map quoted assigned) item) (flat_map (item_tokens (map quoted called) (map quoted assigned)) items) (tokens rest))

-- ---- at most one list of items

words_once : (labels words others : List Text) (rest more : List Token) → length words ≡ length labels → length others ≡ length labels
    → assigned_tokens labels words ++ rest ≡ assigned_tokens labels others ++ more → (words ≡ others) × (rest ≡ more)
words_once [] [] [] rest more n m e = (refl, e)
words_once [] (w ∷ words) others rest more n m e = absurd (omega arith)
words_once [] [] (o ∷ others) rest more n m e = absurd (omega arith)
words_once (l ∷ labels) [] others rest more n m e = absurd (omega arith)
words_once (l ∷ labels) (w ∷ words) [] rest more n m e = absurd (omega arith)
words_once (l ∷ labels) (w ∷ words) (o ∷ others) rest more n m e =
    let k : assigned_tokens labels words ++ rest ≡ assigned_tokens labels others ++ more = cc in
    let h : w ≡ o = cc in
    let t = words_once labels words others rest more (omega arith) (omega arith) k in
    let s : words ≡ others = t.0 in
    (cc, t.1)

begun_once : (begins : Text) (labels words others : List Text) (rest more : List Token) → length words ≡ length labels → length others ≡ length labels
    → begun_tokens begins labels words ++ rest ≡ begun_tokens begins labels others ++ more → (words ≡ others) × (rest ≡ more)
begun_once begins labels words others rest more n m e =
    let inner = append_once (tokens begins) _ _ (sym (parts (tokens begins) (assigned_tokens labels words) (tokens item_ends) rest) ∙ e ∙ parts (tokens begins) (assigned_tokens labels others) (tokens item_ends) more) in
    let w = words_once labels words others (tokens item_ends ++ rest) (tokens item_ends ++ more) n m inner in
    (w.0, append_once (tokens item_ends) rest more w.1)

pub call_first : tokens call_begins ≡ Spelled (codes "Call") ∷ Spelled (codes "\"load_unload\"") ∷ Spelled (codes "{") ∷ []
unfolding tokens_from class_of
call_first = refl

pub vector_first : tokens vector_begins ≡ Spelled (codes "V") ∷ Spelled (codes "{") ∷ []
unfolding tokens_from class_of
vector_first = refl

spelled_heads : (a b : Text) (x y : List Token) → Spelled a ∷ x ≡ Spelled b ∷ y → a ≡ b
spelled_heads a b x y e = cc

call_not_v : codes "Call" ≡ codes "V" → ⊥
call_not_v e = cc

-- a call is no vector
two_kinds : (a b rest more : List Token) → (tokens call_begins ++ a) ++ rest ≡ (tokens vector_begins ++ b) ++ more → ⊥
two_kinds a b rest more e =
    call_not_v (spelled_heads _ _ _ _ (ap (λ ts. (ts ++ a) ++ rest) (sym call_first) ∙ e ∙ ap (λ ts. (ts ++ b) ++ more) vector_first))

item_once : (called assigned : List Text) (item other : Item) (rest more : List Token) → HasTargets called assigned item → HasTargets called assigned other
    → item_tokens called assigned item ++ rest ≡ item_tokens called assigned other ++ more → (item ≡ other) × (rest ≡ more)
item_once called assigned (Call words) (Call others) rest more n m e = let k = begun_once call_begins called words others rest more n m e in (ap (λ w. Call w) k.0, k.1)
item_once called assigned (Vector words) (Vector others) rest more n m e = let k = begun_once vector_begins assigned words others rest more n m e in (ap (λ w. Vector w) k.0, k.1)
item_once called assigned (Call words) (Vector others) rest more n m e = absurd (two_kinds _ _ rest more e)
item_once called assigned (Vector words) (Call others) rest more n m e = absurd (two_kinds _ _ more rest (sym e))

-- the first of the items, and the others
regroup : (called assigned : List Text) (item : Item) (items : List Item) (rest : List Token)
    → flat_map (item_tokens called assigned) (item ∷ items) ++ rest ≡ item_tokens called assigned item ++ (flat_map (item_tokens called assigned) items ++ rest)
regroup called assigned item items rest = append_assoc (item_tokens called assigned item) (flat_map (item_tokens called assigned) items) rest

abbrev Fit : List Text → List Text → List Item → Type 0
Fit called assigned [] = Unit {0}
Fit called assigned (item ∷ items) = HasTargets called assigned item × Fit called assigned items

fit : (called assigned : List Text) (items : List Item) → All (HasTargets called assigned) items → Fit called assigned items
fit called assigned [] h = tt
fit called assigned (item ∷ items) h =
    (All-head (HasTargets called assigned) item items h, fit called assigned items (All-tail (HasTargets called assigned) item items h))

by_items : (called assigned : List Text) (items others : List Item) (rest more : List Token) → Fit called assigned items → Fit called assigned others
    → NoItem called assigned rest → NoItem called assigned more
    → flat_map (item_tokens called assigned) items ++ rest ≡ flat_map (item_tokens called assigned) others ++ more → (items ≡ others) × (rest ≡ more)
by_items called assigned [] [] rest more f g h k e = (refl, e)
by_items called assigned [] (y ∷ ys) rest more f g h k e = absurd (h y _ g.0 (e ∙ regroup called assigned y ys more))
by_items called assigned (x ∷ xs) [] rest more f g h k e = absurd (k x _ f.0 (sym e ∙ regroup called assigned x xs rest))
by_items called assigned (x ∷ xs) (y ∷ ys) rest more f g h k e =
    let one = item_once called assigned x y _ _ f.0 g.0 (sym (regroup called assigned x xs rest) ∙ e ∙ regroup called assigned y ys more) in
    let others = by_items called assigned xs ys rest more f.1 g.1 h k one.1 in
    let a : x ≡ y = one.0 in
    let b : xs ≡ ys = others.0 in
    (cc, others.1)

-- the same tokens are read as one list of items
pub items_once : (called assigned : List Text) (all : List Token) (items others : List Item) (rest more : List Token)
    → AreAllItems called assigned all items rest → AreAllItems called assigned all others more → (items ≡ others) × (rest ≡ more)
items_once called assigned all items others rest more a b =
    by_items called assigned items others rest more (fit called assigned items a.are.have_words) (fit called assigned others b.are.have_words) a.last b.last (sym a.are.split ∙ b.are.split)
