-- Lines that are written one by one.
use Rattle.std.proofs.Common.{◌≡◌, ℕ, suc, ◌+◌, ◌<◌, ◌≤◌, List, [], ◌∷◌, ◌++◌, take, length, sym, ap, ◌∙◌, append_assoc, append-nil, arith, add-zero}
use Rattle.std.specs.Prelude.{Some, slice_get}
use Rattle.std.specs.List.{flat_map}
use Rattle.std.proofs.lemmas.List.{length-take}
use Rattle.std.proofs.lemmas.List.Concat.{flat_map-append}
use Rattle.std.proofs.lemmas.Option.{slice_get_within}
use Rattle.statement.specs.Benches.{Text}
use Rattle.stil_write.specs.Pieces.{assignment}
use Rattle.statement.specs.Stils.{assignments, chain_block, chain_blocks, joined, quoted}
use Rattle.stil_write.proofs.LoopLemmas.{take_at}

-- ---- quoted names with something between them

joined_push : (between : Text) (names : List Text) (name : Text) → 1 ≤ length names → joined between (names ++ name ∷ []) ≡ joined between names ++ (between ++ quoted name)
joined_push between [] name h = absurd (omega arith)
joined_push between (first ∷ names) name h =
    ap (λ l. quoted first ++ l) (flat_map-append (λ other. between ++ quoted other) names (name ∷ []) ∙ ap (λ l. flat_map (λ other. between ++ quoted other) names ++ l) (append-nil (between ++ quoted name)))
    ∙ sym (append_assoc (quoted first) (flat_map (λ other. between ++ quoted other) names) (between ++ quoted name))

taken : {X : Type 0} (xs : List X) (i : ℕ) (x : X) → slice_get xs i ≡ Some x → length (take i xs) ≡ i
taken xs i x h = let l : i < length xs = slice_get_within xs i x h in let n = length-take i xs in omega (arith, n)

pub joined_more : (between : Text) (names : List Text) (i : ℕ) (name before so_far parted after : Text) → slice_get names i ≡ Some name → 1 ≤ i
    → so_far ≡ before ++ joined between (take i names) → parted ≡ so_far ++ between → after ≡ parted ++ quoted name → after ≡ before ++ joined between (take (i + 1) names)
joined_more between names i name before so_far parted after h l e p a =
    let some : 1 ≤ length (take i names) = omega (arith, taken names i name h) in
    a ∙ ap (λ t. t ++ quoted name) (p ∙ ap (λ t. t ++ between) e)
    ∙ append_assoc (before ++ joined between (take i names)) between (quoted name)
    ∙ append_assoc before (joined between (take i names)) (between ++ quoted name)
    ∙ ap (λ t. before ++ t) (sym (ap (joined between) (take_at names i name h) ∙ joined_push between (take i names) name some))

pub joined_first : (between : Text) (names : List Text) (name before after : Text) → slice_get names 0 ≡ Some name → after ≡ before ++ quoted name → after ≡ before ++ joined between (take 1 names)
joined_first between [] name before after h a = absurd (cc)
joined_first between (first ∷ names) name before after h a =
    let same : first ≡ name = cc in
    a ∙ ap (λ t. before ++ t) (ap quoted (sym same) ∙ sym (append-nil (quoted first)))

-- ---- chains

blocks_push : (k : ℕ) (chains : List (List Text)) (cells : List Text) → chain_blocks k (chains ++ cells ∷ []) ≡ chain_blocks k chains ++ chain_block (k + length chains) cells
blocks_push k [] cells = rw add-zero (append-nil (chain_block k cells))
blocks_push k (first ∷ chains) cells =
    let n : (k + 1) + length chains ≡ k + suc (length chains) = omega arith in
    ap (λ t. chain_block k first ++ t) (blocks_push (k + 1) chains cells ∙ ap (λ m. chain_blocks (k + 1) chains ++ chain_block m cells) n)
    ∙ sym (append_assoc (chain_block k first) (chain_blocks (k + 1) chains) (chain_block (k + suc (length chains)) cells))

pub blocks_more : (chains : List (List Text)) (i : ℕ) (cells : List Text) (before so_far after : Text) → slice_get chains i ≡ Some cells
    → so_far ≡ before ++ chain_blocks 0 (take i chains) → after ≡ so_far ++ chain_block i cells → after ≡ before ++ chain_blocks 0 (take (i + 1) chains)
blocks_more chains i cells before so_far after h e a =
    let n : 0 + length (take i chains) ≡ i = omega (arith, taken chains i cells h) in
    a ∙ ap (λ t. t ++ chain_block i cells) e ∙ append_assoc before (chain_blocks 0 (take i chains)) (chain_block i cells)
    ∙ ap (λ t. before ++ t) (ap (λ m. chain_blocks 0 (take i chains) ++ chain_block m cells) (sym n) ∙ sym (ap (chain_blocks 0) (take_at chains i cells h) ∙ blocks_push 0 (take i chains) cells))

-- ---- what is assigned

assignments_push : (signals words : List Text) (signal word : Text) → length words ≡ length signals
    → assignments (signals ++ signal ∷ []) (words ++ word ∷ []) ≡ assignments signals words ++ assignment signal word
assignments_push [] [] signal word n = append-nil (assignment signal word)
assignments_push [] (w ∷ words) signal word n = absurd (omega arith)
assignments_push (s ∷ signals) [] signal word n = absurd (omega arith)
assignments_push (s ∷ signals) (w ∷ words) signal word n =
    ap (λ t. assignment s w ++ t) (assignments_push signals words signal word (omega arith))
    ∙ sym (append_assoc (assignment s w) (assignments signals words) (assignment signal word))

pub assignments_more : (signals words : List Text) (i : ℕ) (signal word before so_far after : Text) → slice_get signals i ≡ Some signal → slice_get words i ≡ Some word
    → so_far ≡ before ++ assignments (take i signals) (take i words) → after ≡ so_far ++ assignment signal word → after ≡ before ++ assignments (take (i + 1) signals) (take (i + 1) words)
assignments_more signals words i signal word before so_far after h g e a =
    let n : length (take i words) ≡ length (take i signals) = omega (arith, taken signals i signal h, taken words i word g) in
    a ∙ ap (λ t. t ++ assignment signal word) e ∙ append_assoc before (assignments (take i signals) (take i words)) (assignment signal word)
    ∙ ap (λ t. before ++ t) (sym (assignments_push (take i signals) (take i words) signal word n)
    ∙ ap (λ ss. assignments ss (take i words ++ word ∷ [])) (sym (take_at signals i signal h)) ∙ ap (assignments (take (i + 1) signals)) (sym (take_at words i word g)))
