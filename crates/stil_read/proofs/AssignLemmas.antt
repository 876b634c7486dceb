-- Words assigned to signals, one after the other.
use Rattle.std.proofs.Common.{◌≡◌, ◌∙◌, ◌+◌, ◌<◌, ◌≤◌, ℕ, List, [], ◌∷◌, ◌++◌, ap, sym, refl, subst, append_assoc, map, length, take, drop, get_or, arith, add-one, drop-cons, length-append}
use Rattle.std.specs.Prelude.{Some, slice_get}
use Rattle.std.proofs.lemmas.List.{take-append-drop, take_more, take_all, map_push}
use Rattle.std.proofs.lemmas.Option.{get_or_from_slice_get, slice_get_within}
use Rattle.statement.specs.Benches.{Text}
use Rattle.statement.specs.Stils.{quoted}
use Rattle.stil_read.specs.Tokens.{Token}
use Rattle.stil_read.specs.inner.Assigned.{AreAssigned, NoneAssigned, assigned_tokens, assignment_tokens}

-- what is assigned to the first signals stands in front
pub front_off : (front back words others : List Text) (rest more : List Token) → length words ≡ length front → length others ≡ length (front ++ back)
    → assigned_tokens front words ++ rest ≡ assigned_tokens (front ++ back) others ++ more
    → (left : List Text) × (length left ≡ length back) × (rest ≡ assigned_tokens back left ++ more)
front_off [] back [] others rest more n m e = (others, m, e)
front_off [] back (w ∷ words) others rest more n m e = absurd (omega arith)
front_off (l ∷ front) back [] others rest more n m e = absurd (omega arith)
front_off (l ∷ front) back (w ∷ words) [] rest more n m e = absurd (omega arith)
front_off (l ∷ front) back (w ∷ words) (o ∷ others) rest more n m e =
    front_off front back words others rest more (omega arith) (omega arith) (let k : assigned_tokens front words ++ rest ≡ assigned_tokens (front ++ back) others ++ more = cc in k)

-- one more element
pub take_at : {X : Type 0} (xs : List X) (i : ℕ) (x : X) → slice_get xs i ≡ Some x → take (i + 1) xs ≡ take i xs ++ x ∷ []
take_at xs i x h =
    take_more xs i x (slice_get_within xs i x h) ∙ ap (λ y. take i xs ++ y ∷ []) (get_or_from_slice_get xs i x x h)

split_at : {X : Type 0} (xs : List X) (i : ℕ) (x : X) → slice_get xs i ≡ Some x → xs ≡ take i xs ++ x ∷ drop (i + 1) xs
split_at xs i x h =
    let l = slice_get_within xs i x h in
    let e : drop i xs ≡ get_or xs i x ∷ drop (i + 1) xs = rw add-one (drop-cons xs i x l) in
    sym (take-append-drop i xs) ∙ ap (λ ys. take i xs ++ ys) (e ∙ ap (λ y. y ∷ drop (i + 1) xs) (get_or_from_slice_get xs i x x h))

-- one more signal has its word
pub assigned_push : (labels words : List Text) (label word : Text) → length words ≡ length labels
    → assigned_tokens (labels ++ label ∷ []) (words ++ word ∷ []) ≡ assigned_tokens labels words ++ assignment_tokens label word
assigned_push [] [] label word n = refl
assigned_push [] (w ∷ words) label word n = absurd (omega arith)
assigned_push (l ∷ labels) [] label word n = absurd (omega arith)
assigned_push (l ∷ labels) (w ∷ words) label word n =
    ap (λ ts. assignment_tokens l w ++ ts) (assigned_push labels words label word (omega arith))

pub assign_more : (labels : List Text) (i : ℕ) (label : Text) (words more : List Text) (word : Text) (all rest after : List Token)
    → slice_get labels i ≡ Some label → AreAssigned (take i labels) all words rest → rest ≡ assignment_tokens label word ++ after
    → more ≡ words ++ word ∷ [] → AreAssigned (take (i + 1) labels) all more after
assign_more labels i label words more word all rest after h so_far e pushed =
    let front = take i labels in
    let taken : take (i + 1) labels ≡ front ++ label ∷ [] = take_at labels i label h in
    rw (taken, pushed) (record {
      count = rw (length-append words (word ∷ []), length-append front (label ∷ [])) (ap (λ n. n + 1) so_far.count);
      split = so_far.split ∙ ap (λ ts. assigned_tokens front words ++ ts) e ∙ sym (append_assoc (assigned_tokens front words) (assignment_tokens label word) after)
          ∙ ap (λ ts. ts ++ after) (sym (assigned_push front words label word so_far.count));
    })

first_word : (label : Text) (labels left : List Text) (rest more : List Token) → length left ≡ length (label ∷ labels) → rest ≡ assigned_tokens (label ∷ labels) left ++ more
    → ((w : Text) (ts : List Token) → rest ≡ assignment_tokens label w ++ ts → ⊥) → ⊥
first_word label labels [] rest more n e none = absurd (omega arith)
first_word label labels (w ∷ left) rest more n e none =
    none w (assigned_tokens labels left ++ more) (e ∙ append_assoc (assignment_tokens label w) (assigned_tokens labels left) more)

pub assign_none : (labels : List Text) (i : ℕ) (label : Text) (words : List Text) (all rest : List Token)
    → slice_get labels i ≡ Some label → AreAssigned (take i labels) all words rest → ((w : Text) (ts : List Token) → rest ≡ assignment_tokens label w ++ ts → ⊥)
    → NoneAssigned labels all
assign_none labels i label words all rest h so_far none others more are =
    let front = take i labels in
    let back = drop (i + 1) labels in
    let s : labels ≡ front ++ label ∷ back = split_at labels i label h in
    let whole : AreAssigned (front ++ label ∷ back) all others more = subst (λ l. AreAssigned l all others more) s are in
    let left = front_off front (label ∷ back) words others rest more so_far.count whole.count (sym so_far.split ∙ whole.split) in
    first_word label back left.0 rest more left.1 left.2 none

pub assign_end : (labels : List Text) (i : ℕ) (words : List Text) (all rest : List Token) → length labels ≤ i → AreAssigned (take i labels) all words rest → AreAssigned labels all words rest
assign_end labels i words all rest h a = subst (λ l. AreAssigned l all words rest) (take_all i labels h) a

-- one more name in its quotes
pub quoted_more : (names : List Text) (i : ℕ) (name : Text) (labels more : List Text) (empty opened inner whole : Text) → slice_get names i ≡ Some name → labels ≡ map quoted (take i names)
    → empty ≡ [] → opened ≡ empty ++ 34 ∷ [] → inner ≡ opened ++ name → whole ≡ inner ++ 34 ∷ [] → more ≡ labels ++ whole ∷ [] → more ≡ map quoted (take (i + 1) names)
quoted_more names i name labels more empty opened inner whole h e a b c d m =
    let text : whole ≡ quoted name = d ∙ ap (λ t. t ++ 34 ∷ []) (c ∙ ap (λ t. t ++ name) (b ∙ ap (λ t. t ++ 34 ∷ []) a)) in
    m ∙ ap (λ ls. ls ++ whole ∷ []) e ∙ ap (λ t. map quoted (take i names) ++ t ∷ []) text ∙ sym (map_push quoted (take i names) name) ∙ ap (map quoted) (sym (take_at names i name h))
