-- An item of a pattern.
use Rattle.std.proofs.Common.{◌≡◌, ◌∙◌, List, [], ◌∷◌, ◌++◌, ap, sym, refl, append_assoc, append-nil, length, length-append, arith, ◌<◌, map}
use Rattle.std.specs.List.{flat_map}
use Rattle.std.proofs.lemmas.List.Elements.{All-append, All-cons, All-nil}
use Rattle.statement.specs.Benches.{Text}
use Rattle.statement.specs.Stils.{Item, Call, Vector}
use Rattle.stil_write.specs.Pieces.{HasTargets}
use Rattle.stil_read.specs.Tokens.{Token, Spelled, class_of, tokens, tokens_from}
use Rattle.stil_read.specs.inner.Assigned.{AreAssigned, assigned_tokens}
use Rattle.stil_read.specs.inner.Items.{AreItems, IsItemAt, NoneBegun, begun_tokens, call_begins, item_ends, item_tokens, vector_begins}

flat_map_push : {X Y : Type 0} (f : X → List Y) (xs : List X) (x : X) → flat_map f (xs ++ x ∷ []) ≡ flat_map f xs ++ f x
flat_map_push f [] x = append-nil (f x)
flat_map_push f (y ∷ ys) x = ap (λ ts. f y ++ ts) (flat_map_push f ys x) ∙ sym (append_assoc (f y) (flat_map f ys) (f x))

-- the parts of an item, one behind the other
pub parts : (front middle end rest : List Token) → (front ++ (middle ++ end)) ++ rest ≡ front ++ (middle ++ (end ++ rest))
parts front middle end rest = append_assoc front (middle ++ end) rest ∙ ap (λ ts. front ++ ts) (append_assoc middle end rest)

-- words for the same signals in front of two lists leave the same behind them
assigned_once : (labels words others : List Text) (rest more : List Token) → length words ≡ length labels → length others ≡ length labels
    → assigned_tokens labels words ++ rest ≡ assigned_tokens labels others ++ more → rest ≡ more
assigned_once [] [] [] rest more n m e = e
assigned_once [] (w ∷ words) others rest more n m e = absurd (omega arith)
assigned_once [] [] (o ∷ others) rest more n m e = absurd (omega arith)
assigned_once (l ∷ labels) [] others rest more n m e = absurd (omega arith)
assigned_once (l ∷ labels) (w ∷ words) [] rest more n m e = absurd (omega arith)
assigned_once (l ∷ labels) (w ∷ words) (o ∷ others) rest more n m e =
    assigned_once labels words others rest more (omega arith) (omega arith) (let k : assigned_tokens labels words ++ rest ≡ assigned_tokens labels others ++ more = cc in k)

-- the words have no end
pub no_end : (begins : Text) (labels words : List Text) (all inner after : List Token) → all ≡ tokens begins ++ inner → ((ts : List Token) → all ≡ tokens begins ++ ts → inner ≡ ts)
    → AreAssigned labels inner words after → ((ts : List Token) → after ≡ tokens item_ends ++ ts → ⊥) → NoneBegun begins labels all
no_end begins labels words all inner after e only are none others rest n f =
    none rest (assigned_once labels words others after (tokens item_ends ++ rest) are.count n
    (sym are.split ∙ only _ (f ∙ parts (tokens begins) (assigned_tokens labels others) (tokens item_ends) rest)))

pub no_item : (called assigned : List Text) (all : List Token) → NoneBegun call_begins called all → NoneBegun vector_begins assigned all
    → (item : Item) (rest : List Token) → HasTargets called assigned item → all ≡ item_tokens called assigned item ++ rest → ⊥
no_item called assigned all no_call no_vector (Call words) rest n e = no_call words rest n e
no_item called assigned all no_call no_vector (Vector words) rest n e = no_vector words rest n e

-- ---- all items

ends_token : tokens item_ends ≡ Spelled (125 ∷ []) ∷ []
unfolding tokens_from class_of
ends_token = refl

begun_shorter : (begins : Text) (labels words : List Text) (all rest : List Token) → all ≡ begun_tokens begins labels words ++ rest → length rest < length all
begun_shorter begins labels words all rest e =
    let a = ap length e in
    let b = length-append (begun_tokens begins labels words) rest in
    let c = length-append (tokens begins) (assigned_tokens labels words ++ tokens item_ends) in
    let d = length-append (assigned_tokens labels words) (tokens item_ends) in
    let f = ap length ends_token in
    omega (arith, a, b, c, d, f)

pub item_shorter : (called assigned : List Text) (item : Item) (all rest : List Token) → all ≡ item_tokens called assigned item ++ rest → length rest < length all
item_shorter called assigned (Call words) all rest e = begun_shorter call_begins called words all rest e
item_shorter called assigned (Vector words) all rest e = begun_shorter vector_begins assigned words all rest e

pub item_more : (called assigned : List Text) (all : List Token) (items more : List Item) (item : Item) (rest after : List Token)
    → AreItems called assigned all items rest → HasTargets called assigned item → rest ≡ item_tokens called assigned item ++ after
    → more ≡ items ++ item ∷ [] → AreItems called assigned all more after
item_more called assigned all items more item rest after so_far has e pushed =
    rw pushed (record {
      have_words = All-append (HasTargets called assigned) items (item ∷ []) so_far.have_words (All-cons (HasTargets called assigned) item [] has (All-nil (HasTargets called assigned)));
      split = so_far.split ∙ ap (λ ts. flat_map (item_tokens called assigned) items ++ ts) e
          ∙ sym (append_assoc (flat_map (item_tokens called assigned) items) (item_tokens called assigned item) after)
          ∙ ap (λ ts. ts ++ after) (sym (flat_map_push (item_tokens called assigned) items item));
    })
