-- Lists that stand one behind the other in one buffer.
use Rattle.std.proofs.Common.{◌≡◌, ℕ, suc, zero, ◌+◌, ◌-◌, ◌<◌, ◌≤◌, Some, take, drop, List, [], ◌∷◌, ◌++◌, length, get_or, refl, sym, ◌∙◌, ap, arith, length-append}
use Rattle.std.specs.List.{slice_get, sum_by}
use Rattle.std.proofs.lemmas.List.{take-append-le, drop-append-le, length-drop, length-take, take_all, drop_at}
use Rattle.std.proofs.lemmas.List.Sums.{sum_by-cons}
use Rattle.plain_text.specs.Rows.{rows, AreEnds}

pub rows_count : {X : Type 0} (start : ℕ) (items : List X) (ends : List ℕ) → length (rows start items ends) ≡ length ends
rows_count start items [] = refl
rows_count start items (end ∷ ends) = ap suc (rows_count end items ends)

start_within : {X : Type 0} (start : ℕ) (items : List X) (ends : List ℕ) → AreEnds start items ends → start ≤ length items
start_within start items [] h = omega (arith, h)
start_within start items (end ∷ ends) h = let l : end ≤ length items = start_within end items ends h.1 in let m : start ≤ end = h.0 in omega arith

pub begins_before_end : {X : Type 0} (start : ℕ) (items : List X) (ends : List ℕ) (k : ℕ) → AreEnds start items ends → k < length ends → get_or (start ∷ ends) k 0 ≤ get_or ends k 0
begins_before_end start items [] k h l = absurd (omega (arith, l))
begins_before_end start items (end ∷ ends) zero h l = h.0
begins_before_end start items (end ∷ ends) (suc k) h l = begins_before_end end items ends k h.1 (omega arith)

pub end_within : {X : Type 0} (start : ℕ) (items : List X) (ends : List ℕ) (k : ℕ) → AreEnds start items ends → k < length ends → get_or ends k 0 ≤ length items
end_within start items [] k h l = absurd (omega (arith, l))
end_within start items (end ∷ ends) zero h l = start_within end items ends h.1
end_within start items (end ∷ ends) (suc k) h l = end_within end items ends k h.1 (omega arith)

pub row_at : {X : Type 0} (start : ℕ) (items : List X) (ends : List ℕ) (k : ℕ) → k < length ends
    → slice_get (rows start items ends) k ≡ Some (take (get_or ends k 0 - get_or (start ∷ ends) k 0) (drop (get_or (start ∷ ends) k 0) items))
row_at start items [] k l = absurd (omega (arith, l))
row_at start items (end ∷ ends) zero l = refl
row_at start items (end ∷ ends) (suc k) l = row_at end items ends k (omega arith)

rows_push : {X : Type 0} (start : ℕ) (items : List X) (ends : List ℕ) (row : List X) → AreEnds start items ends
    → rows start (items ++ row) (ends ++ length (items ++ row) ∷ []) ≡ rows start items ends ++ row ∷ []
rows_push start items [] row h =
    ap (λ xs. xs ∷ []) (take_all (length (items ++ row) - start) (drop start (items ++ row)) (omega (arith, length-drop start (items ++ row)))
    ∙ drop_at items row start h)
rows_push start items (end ∷ ends) row h =
    let m : start ≤ end = h.0 in
    let l : end ≤ length items = start_within end items ends h.1 in
    let here : take (end - start) (drop start (items ++ row)) ≡ take (end - start) (drop start items) =
    ap (take (end - start)) (drop-append-le start items row (omega arith))
    ∙ take-append-le (end - start) (drop start items) row (omega (arith, length-drop start items)) in
    ap (λ xs. xs ∷ rows end (items ++ row) (ends ++ length (items ++ row) ∷ [])) here
    ∙ ap (λ xss. take (end - start) (drop start items) ∷ xss) (rows_push end items ends row h.1)

ends_push : {X : Type 0} (start : ℕ) (items : List X) (ends : List ℕ) (row : List X) → AreEnds start items ends → AreEnds start (items ++ row) (ends ++ length (items ++ row) ∷ [])
ends_push start items [] row h = (omega (arith, h, length-append items row), refl)
ends_push start items (end ∷ ends) row h = (h.0, ends_push end items ends row h.1)

-- the same, with names for what the code has
pub pushed_rows : {X : Type 0} (items : List X) (ends : List ℕ) (row items' : List X) (ends' : List ℕ) (end : ℕ) → AreEnds 0 items ends → items' ≡ items ++ row → ends' ≡ ends ++ end ∷ [] → end ≡ length items'
    → rows 0 items' ends' ≡ rows 0 items ends ++ row ∷ []
pushed_rows items ends row items' ends' end h b e l =
    rw (e, l, b) (rows_push 0 items ends row h)

pub pushed_ends : {X : Type 0} (items : List X) (ends : List ℕ) (row items' : List X) (ends' : List ℕ) (end : ℕ) → AreEnds 0 items ends → items' ≡ items ++ row → ends' ≡ ends ++ end ∷ [] → end ≡ length items'
    → AreEnds 0 items' ends'
pushed_ends items ends row items' ends' end h b e l = rw (e, l, b) (ends_push 0 items ends row h)

-- where each list ends, from place to place
pub ends_from : {X : Type 0} (start : ℕ) (items : List X) (ends : List ℕ) → ((k : ℕ) → k < length ends → get_or (start ∷ ends) k 0 ≤ get_or ends k 0)
    → get_or (start ∷ ends) (length ends) 0 ≡ length items → AreEnds start items ends
ends_from start items [] h e = sym e
ends_from start items (end ∷ ends) h e = (h 0 (omega arith), ends_from end items ends (λ k l. h (suc k) (omega arith)) e)

-- the elements of all lists are those of the buffer behind where the first begins
elements_behind : {X : Type 0} (start : ℕ) (items : List X) (ends : List ℕ) → AreEnds start items ends → start + sum_by length (rows start items ends) ≡ length items
elements_behind start items [] h = omega (arith, h)
elements_behind start items (end ∷ ends) h =
    let m : start ≤ end = h.0 in
    let l : end ≤ length items = start_within end items ends h.1 in
    let e = elements_behind end items ends h.1 in
    let d = length-drop start items in
    let t : length (take (end - start) (drop start items)) ≡ end - start = omega (arith, d, length-take (end - start) (drop start items)) in
    let s = sum_by-cons length (take (end - start) (drop start items)) (rows end items ends) in
    omega (arith, t, e, s)

pub elements_in_all : {X : Type 0} (items : List X) (ends : List ℕ) → AreEnds 0 items ends → length items ≡ sum_by length (rows 0 items ends)
elements_in_all items ends h = let e = elements_behind 0 items ends h in omega (arith, e)
