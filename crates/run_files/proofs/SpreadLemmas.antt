-- Classes of which some are marked: their weights, and the verdicts of the others spread over all.
use Rattle.std.proofs.Common.{◌≡◌, ℕ, zero, suc, ◌+◌, ◌*◌, ◌<◌, ◌≤◌, Bool, true, false, true≢false, cond, List, [], ◌∷◌, ◌++◌, length, get_or, drop, Some, refl, sym, ◌∙◌, ap, arith, append_assoc, append-nil}
use Rattle.std.specs.List.{slice_get}
use Rattle.std.proofs.lemmas.Nat.{mul-le}
use Rattle.std.proofs.Math.Seq.{drop-cons}
use Rattle.std.proofs.Math.ListN.{drop_of_length-le}
use Rattle.statement.specs.declared.lines.Fault.{Fault}
use Rattle.word_sim.specs.Never.{unmarked}
use Rattle.list_core.specs.declared.verdicts.Verdict.{Verdict}
use Rattle.list_core.specs.declared.verdicts.Verdict.TheVariants.{Open}
use Rattle.list_core.specs.Enough.{detected_weight}
use Rattle.list_core.specs.Verdicts.{one_if_class_detected, verdict_at}
use Rattle.run_files.specs.inner.Spread.{marked_weight, spread, unmarked_weights}

-- ---- what is dropped is what is left to do

pub next_left : {X : Type 0} (xs : List X) (k : ℕ) (d : X) → k < length xs → drop k xs ≡ get_or xs k d ∷ drop (k + 1) xs
next_left xs k d lt = let e : suc k ≡ k + 1 = omega arith in drop-cons xs k d lt ∙ ap (λ i. get_or xs k d ∷ drop i xs) e

weights_cons : (m : Bool) (ms : List Bool) (w : ℕ) (ws : List ℕ) → unmarked_weights (m ∷ ms) (w ∷ ws) ≡ unmarked_weights (m ∷ []) (w ∷ []) ++ unmarked_weights ms ws
weights_cons true ms w ws = refl
weights_cons false ms w ws = refl

pub weights_more : (ms : List Bool) (ws : List ℕ) (k : ℕ) (old new : List ℕ) → k < length ws → length ms ≡ length ws
    → old ++ unmarked_weights (drop k ms) (drop k ws) ≡ unmarked_weights ms ws
    → new ≡ old ++ unmarked_weights (get_or ms k false ∷ []) (get_or ws k 0 ∷ [])
    → new ++ unmarked_weights (drop (k + 1) ms) (drop (k + 1) ws) ≡ unmarked_weights ms ws
weights_more ms ws k old new lt size before added =
    let m = get_or ms k false in
    let w = get_or ws k 0 in
    let one = unmarked_weights (m ∷ []) (w ∷ []) in
    let rest = unmarked_weights (drop (k + 1) ms) (drop (k + 1) ws) in
    let a : drop k ms ≡ m ∷ drop (k + 1) ms = next_left ms k false (omega arith) in
    let b : drop k ws ≡ w ∷ drop (k + 1) ws = next_left ws k 0 lt in
    let both : unmarked_weights (drop k ms) (drop k ws) ≡ one ++ rest =
    ap (λ xs. unmarked_weights xs (drop k ws)) a ∙ (ap (λ ys. unmarked_weights (m ∷ drop (k + 1) ms) ys) b ∙ weights_cons m (drop (k + 1) ms) w (drop (k + 1) ws)) in
    ap (λ xs. xs ++ rest) added ∙ (append_assoc old one rest ∙ (ap (λ xs. old ++ xs) (sym both) ∙ before))

weights_none : (ms : List Bool) → unmarked_weights ms [] ≡ []
weights_none [] = refl
weights_none (m ∷ ms) = refl

pub weights_all : (ms : List Bool) (ws : List ℕ) (k : ℕ) (left : List ℕ) → length ws ≤ k → left ++ unmarked_weights (drop k ms) (drop k ws) ≡ unmarked_weights ms ws → left ≡ unmarked_weights ms ws
weights_all ms ws k left all is =
    let none : unmarked_weights (drop k ms) (drop k ws) ≡ [] = ap (λ ys. unmarked_weights (drop k ms) ys) (drop_of_length-le ws all) ∙ weights_none (drop k ms) in
    sym (append-nil left) ∙ (ap (λ xs. left ++ xs) (sym none) ∙ is)

marked_cons : (m : Bool) (ms : List Bool) (w : ℕ) (ws : List ℕ) → marked_weight (m ∷ ms) (w ∷ ws) ≡ marked_weight (m ∷ []) (w ∷ []) + marked_weight ms ws
marked_cons m ms w ws = omega arith

pub marked_more : (ms : List Bool) (ws : List ℕ) (k sum more : ℕ) → k < length ws → length ms ≡ length ws
    → sum + marked_weight (drop k ms) (drop k ws) ≡ marked_weight ms ws
    → more ≡ marked_weight (get_or ms k false ∷ []) (get_or ws k 0 ∷ [])
    → (sum + more) + marked_weight (drop (k + 1) ms) (drop (k + 1) ws) ≡ marked_weight ms ws
marked_more ms ws k sum more lt size before is =
    let m = get_or ms k false in
    let w = get_or ws k 0 in
    let a : drop k ms ≡ m ∷ drop (k + 1) ms = next_left ms k false (omega arith) in
    let b : drop k ws ≡ w ∷ drop (k + 1) ws = next_left ws k 0 lt in
    let both : marked_weight (drop k ms) (drop k ws) ≡ marked_weight (m ∷ []) (w ∷ []) + marked_weight (drop (k + 1) ms) (drop (k + 1) ws) =
    ap (λ xs. marked_weight xs (drop k ws)) a ∙ (ap (λ ys. marked_weight (m ∷ drop (k + 1) ms) ys) b ∙ marked_cons m (drop (k + 1) ms) w (drop (k + 1) ws)) in
    omega arith

marked_none : (ms : List Bool) → marked_weight ms [] ≡ 0
marked_none [] = refl
marked_none (m ∷ ms) = refl

pub marked_all : (ms : List Bool) (ws : List ℕ) (k : ℕ) → length ws ≤ k → marked_weight (drop k ms) (drop k ws) ≡ 0
marked_all ms ws k all = ap (λ ys. marked_weight (drop k ms) ys) (drop_of_length-le ws all) ∙ marked_none (drop k ms)

pub spread_more : (marks : List Bool) (k : ℕ) (old new before after all : List Verdict) (v : Verdict) → k < length marks
    → old ++ spread (drop k marks) before ≡ all
    → spread (get_or marks k false ∷ drop (k + 1) marks) before ≡ v ∷ spread (drop (k + 1) marks) after
    → new ≡ old ++ v ∷ []
    → new ++ spread (drop (k + 1) marks) after ≡ all
spread_more marks k old new before after all v lt so_far next added =
    let rest = spread (drop (k + 1) marks) after in
    let both : spread (drop k marks) before ≡ v ∷ rest = ap (λ ms. spread ms before) (next_left marks k false lt) ∙ next in
    ap (λ xs. xs ++ rest) added ∙ (append_assoc old (v ∷ []) rest ∙ (ap (λ xs. old ++ xs) (sym both) ∙ so_far))

pub spread_all : (marks : List Bool) (k : ℕ) (done rest all : List Verdict) → length marks ≤ k → done ++ spread (drop k marks) rest ≡ all → done ≡ all
spread_all marks k done rest all end is =
    let none : spread (drop k marks) rest ≡ [] = ap (λ ms. spread ms rest) (drop_of_length-le marks end) in
    sym (append-nil done) ∙ (ap (λ xs. done ++ xs) (sym none) ∙ is)

-- ---- verdicts spread

pub spread_size : (ms : List Bool) (vs : List Verdict) → length (spread ms vs) ≡ length ms
spread_size [] vs = refl
spread_size (true ∷ ms) vs = ap suc (spread_size ms vs)
spread_size (false ∷ ms) [] = ap suc (spread_size ms [])
spread_size (false ∷ ms) (v ∷ vs) = ap suc (spread_size ms vs)

pub spread_open : (ms : List Bool) (vs : List Verdict) (k : ℕ) → get_or ms k false ≡ true → verdict_at (spread ms vs) k ≡ Open
spread_open [] vs k mark = refl
spread_open (true ∷ ms) vs zero mark = refl
spread_open (true ∷ ms) vs (suc k) mark = spread_open ms vs k mark
spread_open (false ∷ ms) [] zero mark = refl
spread_open (false ∷ ms) [] (suc k) mark = spread_open ms [] k mark
spread_open (false ∷ ms) (v ∷ vs) zero mark = absurd (true≢false (sym mark))
spread_open (false ∷ ms) (v ∷ vs) (suc k) mark = spread_open ms vs k mark

-- what is so of each of those that aren't marked is so where it stands among all
pub spread_each : (P : Fault → Verdict → Type 0) (ms : List Bool) (fs : List Fault) (vs : List Verdict) → length ms ≡ length fs
    → ((i : ℕ) (f : Fault) → slice_get (unmarked ms fs) i ≡ Some f → P f (verdict_at vs i))
    → (k : ℕ) (f : Fault) → slice_get fs k ≡ Some f → get_or ms k false ≡ false → P f (verdict_at (spread ms vs) k)
spread_each P [] [] vs size each k f at mark = cc
spread_each P [] (g ∷ fs) vs size each k f at mark = absurd (omega arith)
spread_each P (m ∷ ms) [] vs size each k f at mark = absurd (omega arith)
spread_each P (true ∷ ms) (g ∷ fs) vs size each zero f at mark = absurd (true≢false mark)
spread_each P (true ∷ ms) (g ∷ fs) vs size each (suc k) f at mark = spread_each P ms fs vs (omega arith) each k f at mark
spread_each P (false ∷ ms) (g ∷ fs) [] size each zero f at mark = each zero f at
spread_each P (false ∷ ms) (g ∷ fs) (v ∷ vs) size each zero f at mark = each zero f at
spread_each P (false ∷ ms) (g ∷ fs) [] size each (suc k) f at mark = spread_each P ms fs [] (omega arith) (λ i h e. each (suc i) h e) k f at mark
spread_each P (false ∷ ms) (g ∷ fs) (v ∷ vs) size each (suc k) f at mark = spread_each P ms fs vs (omega arith) (λ i h e. each (suc i) h e) k f at mark

-- ---- weights

weightless : (ws : List ℕ) → detected_weight ws [] ≡ 0
weightless [] = refl
weightless (w ∷ ws) = refl

-- those that are marked weigh nothing
pub spread_weight : (ms : List Bool) (ws : List ℕ) (vs : List Verdict) → length ms ≡ length ws → detected_weight ws (spread ms vs) ≡ detected_weight (unmarked_weights ms ws) vs
spread_weight [] [] vs size = refl
spread_weight [] (w ∷ ws) vs size = absurd (omega arith)
spread_weight (m ∷ ms) [] vs size = absurd (omega arith)
spread_weight (true ∷ ms) (w ∷ ws) vs size = let rest = spread_weight ms ws vs (omega arith) in omega arith
spread_weight (false ∷ ms) (w ∷ ws) [] size =
    let rest = spread_weight ms ws [] (omega arith) in
    let none = weightless (unmarked_weights ms ws) in
    omega arith
spread_weight (false ∷ ms) (w ∷ ws) (v ∷ vs) size = let rest = spread_weight ms ws vs (omega arith) in omega arith

heavier : (m : Bool) (w a b : ℕ) → a + cond m 1 0 ≤ b → cond m w 0 + w * a ≤ w * b
heavier false w a b le = let more = mul-le w a w b (omega arith) (omega arith) in omega arith
heavier true w a b le =
    let more = mul-le w (a + 1) w b (omega arith) le in
    let each : w * (a + 1) ≡ w * a + w = omega arith in
    omega arith

-- what is detected later, the marked ones among it, weighs no less than those and what was detected before
pub outweighs : (ms : List Bool) (ws : List ℕ) (before after : List Verdict) → length ms ≡ length ws → length before ≡ length ws → length after ≡ length ws
    → ((k : ℕ) → k < length ws → one_if_class_detected (verdict_at before k) + cond (get_or ms k false) 1 0 ≤ one_if_class_detected (verdict_at after k))
    → marked_weight ms ws + detected_weight ws before ≤ detected_weight ws after
outweighs [] [] before after a b c each = omega arith
outweighs [] (w ∷ ws) before after a b c each = absurd (omega arith)
outweighs (m ∷ ms) [] before after a b c each = absurd (omega arith)
outweighs (m ∷ ms) (w ∷ ws) [] after a b c each = absurd (omega arith)
outweighs (m ∷ ms) (w ∷ ws) (u ∷ us) [] a b c each = absurd (omega arith)
outweighs (m ∷ ms) (w ∷ ws) (u ∷ us) (v ∷ vs) a b c each =
    let rest = outweighs ms ws us vs (omega arith) (omega arith) (omega arith) (λ k lt. each (suc k) (omega arith)) in
    let here = heavier m w (one_if_class_detected u) (one_if_class_detected v) (each zero (omega arith)) in
    omega arith
