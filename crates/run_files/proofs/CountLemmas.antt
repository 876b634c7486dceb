-- How many of the faults that are asked for are of a class, and how many of a class that is detected.
use Rattle.std.proofs.Common.{◌≡◌, ℕ, zero, suc, ◌+◌, ◌*◌, ◌<◌, ◌≤◌, ◌&&◌, ◌==◌, Bool, true, false, cond, List, [], ◌∷◌, length, get_or, take, Some, refl, sym, ◌∙◌, ap, arith}
use Rattle.std.specs.List.{slice_get}
use Rattle.std.proofs.lemmas.Bool.Decides.{nat_tests}
use Rattle.list_core.specs.declared.verdicts.Verdict.{Verdict}
use Rattle.list_core.specs.Enough.{detected_weight}
use Rattle.list_core.specs.Verdicts.{one_if_class_detected, verdict_at}
use Rattle.run_files.specs.Runs.{count_true}
use Rattle.run_files.specs.inner.Classes.{IsAskedClass, asked_in, detected_in}

-- ---- counting

abbrev one : Bool → ℕ
one b = cond b 1 0

one_small : (b : Bool) → one b ≤ 1
one_small true = omega arith
one_small false = omega arith

count_suc : (bs : List Bool) (k : ℕ) → k < length bs → count_true (take (suc k) bs) ≡ count_true (take k bs) + cond (get_or bs k false) 1 0
count_suc [] k lt = absurd (omega arith)
count_suc (b ∷ bs) zero lt = omega arith
count_suc (b ∷ bs) (suc k) lt = let rest = count_suc bs k (omega arith) in omega arith

pub count_next : (bs : List Bool) (k : ℕ) → k < length bs → count_true (take (k + 1) bs) ≡ count_true (take k bs) + cond (get_or bs k false) 1 0
count_next bs k lt = let e : k + 1 ≡ suc k = omega arith in ap (λ i. count_true (take i bs)) e ∙ count_suc bs k lt

pub count_few : (bs : List Bool) (k : ℕ) → count_true (take k bs) ≤ k
count_few [] zero = omega arith
count_few [] (suc k) = omega arith
count_few (b ∷ bs) zero = omega arith
count_few (b ∷ bs) (suc k) = let rest = count_few bs k in let here = one_small b in omega arith

asked_suc : (cs : List ℕ) (ms : List Bool) (k class : ℕ) → k < length cs → k < length ms
    → asked_in (take (suc k) cs) (take (suc k) ms) class ≡ cond (get_or ms k false && (get_or cs k 0 == class)) 1 0 + asked_in (take k cs) (take k ms) class
asked_suc [] ms k class a b = absurd (omega arith)
asked_suc (c ∷ cs) [] k class a b = absurd (omega arith)
asked_suc (c ∷ cs) (m ∷ ms) zero class a b = omega arith
asked_suc (c ∷ cs) (m ∷ ms) (suc k) class a b = let rest = asked_suc cs ms k class (omega arith) (omega arith) in omega arith

pub asked_next : (cs : List ℕ) (ms : List Bool) (k class : ℕ) → k < length cs → k < length ms
    → asked_in (take (k + 1) cs) (take (k + 1) ms) class ≡ cond (get_or ms k false && (get_or cs k 0 == class)) 1 0 + asked_in (take k cs) (take k ms) class
asked_next cs ms k class a b = let e : k + 1 ≡ suc k = omega arith in ap (λ i. asked_in (take i cs) (take i ms) class) e ∙ asked_suc cs ms k class a b

pub asked_few : (cs : List ℕ) (ms : List Bool) (class : ℕ) → asked_in cs ms class ≤ length ms
asked_few [] ms class = omega arith
asked_few (c ∷ cs) [] class = omega arith
asked_few (c ∷ cs) (m ∷ ms) class = let rest = asked_few cs ms class in let here = one_small (m && (c == class)) in omega arith

pub asked_early : (cs : List ℕ) (ms : List Bool) (k class : ℕ) → asked_in (take k cs) (take k ms) class ≤ k
asked_early [] ms zero class = omega arith
asked_early [] ms (suc k) class = omega arith
asked_early (c ∷ cs) [] zero class = omega arith
asked_early (c ∷ cs) [] (suc k) class = omega arith
asked_early (c ∷ cs) (m ∷ ms) zero class = omega arith
asked_early (c ∷ cs) (m ∷ ms) (suc k) class = let rest = asked_early cs ms k class in let here = one_small (m && (c == class)) in omega arith

-- one fault more
pub weights_next : (cs : List ℕ) (ms : List Bool) (k c class old new : ℕ) → k < length cs → k < length ms → c ≡ get_or cs k 0
    → old ≡ asked_in (take k cs) (take k ms) class → new ≡ cond (get_or ms k false && (c == class)) 1 0 + old → new ≡ asked_in (take (k + 1) cs) (take (k + 1) ms) class
weights_next cs ms k c class old new a b is before after =
    let step = asked_next cs ms k class a b in
    let same : one (get_or ms k false && (c == class)) ≡ one (get_or ms k false && (get_or cs k 0 == class)) = ap (λ i. one (get_or ms k false && (i == class))) is in
    omega arith

-- ---- a class that has some is asked for, and the other way round

same_class : (c : ℕ) → (c == c) ≡ true
same_class c = grind (arith, nat_tests)

of_test : (c class : ℕ) → (c == class) ≡ true → c ≡ class
of_test c class e = grind (arith, nat_tests)

later : (c : ℕ) (m : Bool) (cs : List ℕ) (ms : List Bool) (class : ℕ) → IsAskedClass cs ms class → IsAskedClass (c ∷ cs) (m ∷ ms) class
later c m cs ms class is = record { place = suc is.place; of_class = is.of_class; marked = is.marked }

some_here : (c : ℕ) (cs : List ℕ) (ms : List Bool) (class : ℕ) → (0 < asked_in cs ms class → IsAskedClass cs ms class) → 0 < one (c == class) + asked_in cs ms class
    → (b : Bool) → (c == class) ≡ b → IsAskedClass (c ∷ cs) (true ∷ ms) class
some_here c cs ms class behind lt true e = record { place = 0; of_class = ap (λ k. Some k) (of_test c class e); marked = refl }
some_here c cs ms class behind lt false e = let none : one (c == class) ≡ 0 = ap one e in later c true cs ms class (behind (omega arith))

pub some_asked : (cs : List ℕ) (ms : List Bool) (class : ℕ) → 0 < asked_in cs ms class → IsAskedClass cs ms class
some_asked [] ms class lt = absurd (omega arith)
some_asked (c ∷ cs) [] class lt = absurd (omega arith)
some_asked (c ∷ cs) (false ∷ ms) class lt = later c false cs ms class (some_asked cs ms class (omega arith))
some_asked (c ∷ cs) (true ∷ ms) class lt = some_here c cs ms class (λ some. some_asked cs ms class some) lt (c == class) refl

asked_place : (cs : List ℕ) (ms : List Bool) (class place : ℕ) → slice_get cs place ≡ Some class → slice_get ms place ≡ Some true → 0 < asked_in cs ms class
asked_place [] ms class place a b = cc
asked_place (c ∷ cs) [] class place a b = cc
asked_place (c ∷ cs) (false ∷ ms) class zero a b = cc
asked_place (c ∷ cs) (true ∷ ms) class zero a b =
    let of_class : c ≡ class = cc in
    let test : (c == class) ≡ true = ap (λ k. k == class) of_class ∙ same_class class in
    let here : one (c == class) ≡ 1 = ap one test in
    omega arith
asked_place (c ∷ cs) (m ∷ ms) class (suc place) a b = let rest = asked_place cs ms class place a b in omega arith

pub asked_some : (cs : List ℕ) (ms : List Bool) (class : ℕ) → IsAskedClass cs ms class → 0 < asked_in cs ms class
asked_some cs ms class is = asked_place cs ms class is.place is.of_class is.marked

-- ---- by classes, and by faults

-- what the classes from k on that are detected weigh
abbrev by_class : (ℕ → ℕ) → ℕ → List Verdict → ℕ
by_class weight k [] = 0
by_class weight k (v ∷ vs) = weight k * one_if_class_detected v + by_class weight (suc k) vs

listed : (weight : ℕ → ℕ) (k : ℕ) (ws : List ℕ) (vs : List Verdict) → length ws ≡ length vs → ((i : ℕ) → i < length vs → get_or ws i 0 ≡ weight (k + i))
    → detected_weight ws vs ≡ by_class weight k vs
listed weight k [] [] size each = refl
listed weight k [] (v ∷ vs) size each = absurd (omega arith)
listed weight k (w ∷ ws) [] size each = absurd (omega arith)
listed weight k (w ∷ ws) (v ∷ vs) size each =
    let rest = listed weight (suc k) ws vs (omega arith) (λ i lt. let e : k + suc i ≡ suc k + i = omega arith in each (suc i) (omega arith) ∙ ap weight e) in
    let first : w ≡ weight k = (let e : k + 0 ≡ k = omega arith in each 0 (omega arith) ∙ ap weight e) in
    let here : w * one_if_class_detected v ≡ weight k * one_if_class_detected v = ap (λ x. x * one_if_class_detected v) first in
    omega arith

apart : (a b x : ℕ) → (a + b) * x ≡ a * x + b * x
apart a b x = omega arith

added : (f g : ℕ → ℕ) (k : ℕ) (vs : List Verdict) → by_class (λ i. f i + g i) k vs ≡ by_class f k vs + by_class g k vs
added f g k [] = refl
added f g k (v ∷ vs) =
    let rest = added f g (suc k) vs in
    let here = apart (f k) (g k) (one_if_class_detected v) in
    omega arith

nothing : (k : ℕ) (vs : List Verdict) → by_class (λ i. 0) k vs ≡ 0
nothing k [] = refl
nothing k (v ∷ vs) = let rest = nothing (suc k) vs in omega arith

other_class : (c k : ℕ) → c < k → (c == k) ≡ false
other_class c k lt = grind (arith, nat_tests)

later_class : (c k : ℕ) → k < c → (c == k) ≡ false
later_class c k lt = grind (arith, nat_tests)

above : (c k : ℕ) (vs : List Verdict) → c < k → by_class (λ i. cond (c == i) 1 0) k vs ≡ 0
above c k [] lt = refl
above c k (v ∷ vs) lt =
    let rest = above c (suc k) vs (omega arith) in
    let here : cond (c == k) 1 0 * one_if_class_detected v ≡ 0 = ap (λ (b : Bool). cond b 1 0 * one_if_class_detected v) (other_class c k lt) ∙ (omega arith) in
    omega arith

-- the one class
at_class : (c k j : ℕ) (vs : List Verdict) → c ≡ k + j → by_class (λ i. cond (c == i) 1 0) k vs ≡ one_if_class_detected (verdict_at vs j)
at_class c k j [] is = refl
at_class c k zero (v ∷ vs) is =
    let rest = above c (suc k) vs (omega arith) in
    let same : c ≡ k = omega arith in
    let one : (c == k) ≡ true = ap (λ i. c == i) (sym same) ∙ same_class c in
    let here : cond (c == k) 1 0 * one_if_class_detected v ≡ one_if_class_detected v = ap (λ (b : Bool). cond b 1 0 * one_if_class_detected v) one ∙ (omega arith) in
    omega arith
at_class c k (suc j) (v ∷ vs) is =
    let rest = at_class c (suc k) j vs (omega arith) in
    let here : cond (c == k) 1 0 * one_if_class_detected v ≡ 0 = ap (λ (b : Bool). cond b 1 0 * one_if_class_detected v) (later_class c k (omega arith)) ∙ (omega arith) in
    omega arith

at_fault : (m : Bool) (c : ℕ) (vs : List Verdict) → by_class (λ i. cond (m && (c == i)) 1 0) 0 vs ≡ cond m (one_if_class_detected (verdict_at vs c)) 0
at_fault false c vs = nothing 0 vs
at_fault true c vs = at_class c 0 c vs (omega arith)

by_faults : (cs : List ℕ) (ms : List Bool) (vs : List Verdict) → by_class (asked_in cs ms) 0 vs ≡ detected_in cs ms vs
by_faults [] ms vs = nothing 0 vs
by_faults (c ∷ cs) [] vs = nothing 0 vs
by_faults (c ∷ cs) (m ∷ ms) vs =
    let rest = by_faults cs ms vs in
    let here = at_fault m c vs in
    let both : by_class (asked_in (c ∷ cs) (m ∷ ms)) 0 vs ≡ by_class (λ i. cond (m && (c == i)) 1 0) 0 vs + by_class (asked_in cs ms) 0 vs = added (λ i. cond (m && (c == i)) 1 0) (asked_in cs ms) 0 vs in
    omega arith

-- the classes that are detected weigh as many as there are faults of them that are asked for
pub weighed : (cs : List ℕ) (ms : List Bool) (ws : List ℕ) (vs : List Verdict) → length ws ≡ length vs → ((i : ℕ) → i < length vs → get_or ws i 0 ≡ asked_in cs ms i)
    → detected_weight ws vs ≡ detected_in cs ms vs
weighed cs ms ws vs size each =
    listed (asked_in cs ms) 0 ws vs size (λ i lt. let e : i ≡ 0 + i = omega arith in each i lt ∙ ap (asked_in cs ms) e) ∙ by_faults cs ms vs
