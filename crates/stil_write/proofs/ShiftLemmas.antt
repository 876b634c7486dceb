-- The vector of a shift.
use Rattle.std.proofs.Common.{◌≡◌, ℕ, zero, suc, min, List, [], ◌∷◌, ◌++◌, length, refl, sym, ap, ◌∙◌, arith, replicate, length-append}
use Rattle.std.specs.Prelude.{codes}
use Rattle.std.proofs.lemmas.List.{length-replicate}
use Rattle.statement.specs.Benches.{Text}
use Rattle.statement.specs.Stils.{Item, StilFile, Vector, numbered, where_chained, item_text, assigned, called, procedures_by, shift_words}
use Rattle.stil_write.specs.StilFiles.{item_at, item_kind, words_of}
use Rattle.stil_write.specs.Pieces.{targets}
use Rattle.stil_write.specs.Texts.{procedures_head}
use Rattle.stil_write.proofs.ItemLemmas.{length-chained, length-numbered}
use Rattle.stil_write.proofs.LoopLemmas.{behind}

one_if : {X : Type 0} (n : ℕ) (x : X) → replicate (min n 1) x ≡ where_chained n x
one_if zero x = refl
one_if (suc n) x = let m : min (suc n) 1 ≡ 1 = omega arith in ap (λ k. replicate k x) m

pub made : (f : StilFile) (n once : ℕ) (strobes : Text) (start first second third fourth last : List Text) → n ≡ length f.chains → once ≡ min n 1 → strobes ≡ replicate (length f.po) 88
    → start ≡ [] → first ≡ start ++ f.shift_word ∷ [] → second ≡ first ++ replicate n (codes "#") → third ≡ second ++ replicate once (codes "P") → fourth ≡ third ++ strobes ∷ []
    → last ≡ fourth ++ replicate n (codes "#") → last ≡ shift_words f
made f n once strobes start first second third fourth last en eo es e0 e1 e2 e3 e4 e5 =
    let hashes = replicate n (codes "#") in
    let pulse = replicate once (codes "P") in
    let whole : last ≡ start ++ ((f.shift_word ∷ []) ++ (hashes ++ (pulse ++ ((strobes ∷ []) ++ hashes)))) =
    behind start first last (f.shift_word ∷ []) (hashes ++ (pulse ++ ((strobes ∷ []) ++ hashes))) e1
    (behind first second last hashes (pulse ++ ((strobes ∷ []) ++ hashes)) e2 (behind second third last pulse ((strobes ∷ []) ++ hashes) e3 (behind third fourth last (strobes ∷ []) hashes e4 e5))) in
    whole ∙ ap (λ (l : List Text). l ++ (f.shift_word ∷ (hashes ++ (pulse ++ (strobes ∷ hashes))))) e0
    ∙ ap (λ (l : List Text). f.shift_word ∷ (hashes ++ (l ++ (strobes ∷ hashes)))) (ap (λ k. replicate k (codes "P")) eo ∙ one_if n (codes "P"))
    ∙ ap (λ (x : Text). f.shift_word ∷ (hashes ++ (where_chained n (codes "P") ++ (x ∷ hashes)))) es
    ∙ ap (λ k. f.shift_word ∷ (replicate k (codes "#") ++ (where_chained k (codes "P") ++ (replicate (length f.po) 88 ∷ replicate k (codes "#"))))) en

-- a word for each signal
pub shift_targets : (f : StilFile) → length (shift_words f) ≡ length (assigned (length f.chains))
shift_targets f =
    let n = length f.chains in
    let hashes = replicate n (codes "#") in
    let xs = replicate (length f.po) 88 in
    let first = length-append hashes (where_chained n (codes "P") ++ (xs ∷ hashes)) in
    let second = length-append (where_chained n (codes "P")) (xs ∷ hashes) in
    let h = length-replicate n (codes "#") in
    let third = length-append (numbered (codes "SC__si") n) (where_chained n (codes "SC__ck") ++ (codes "SC__po" ∷ numbered (codes "SC__so") n)) in
    let fourth = length-append (where_chained n (codes "SC__ck")) (codes "SC__po" ∷ numbered (codes "SC__so") n) in
    let i = length-numbered (codes "SC__si") n in
    let o = length-numbered (codes "SC__so") n in
    let k = length-chained n (codes "P") (codes "SC__ck") in
    omega (arith, first, second, h, third, fourth, i, o, k)

pub shift_item_targets : (f : StilFile) (items : List Item) (ins outs : List Text) → items ≡ Vector (shift_words f) ∷ [] → outs ≡ assigned (length f.chains)
    → length (words_of (item_at items 0)) ≡ length (targets ins outs (item_kind (item_at items 0)))
shift_item_targets f items ins outs e a =
    ap (λ is. length (words_of (item_at is 0))) e ∙ shift_targets f ∙ ap length (sym a) ∙ ap (λ is. length (targets ins outs (item_kind (item_at is 0)))) (sym e)

pub procedures_some : (n : ℕ) (f : StilFile) → (n ≡ 0 → ⊥) → procedures_by n f ≡ procedures_head ++ (item_text (called (length f.chains)) (assigned (length f.chains)) (Vector (shift_words f)) ++ codes "    }\n  }\n}\n")
procedures_some zero f h = absurd (h refl)
procedures_some (suc n) f h = refl
