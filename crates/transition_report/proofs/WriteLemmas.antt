-- The text of a report as it is written, a part at a time.
use Rattle.std.proofs.Common.{◌≡◌, ℕ, List, ◌++◌, ◌∙◌, append_assoc}

pub six_parts : (old a b c d e f x y z u v w : List ℕ) → x ≡ old ++ a → y ≡ x ++ b → z ≡ y ++ c → u ≡ z ++ d → v ≡ u ++ e → w ≡ v ++ f
    → w ≡ old ++ (a ++ (b ++ (c ++ (d ++ (e ++ f)))))
six_parts old a b c d e f x y z u v w p q r s t k =
    let whole : w ≡ (((((old ++ a) ++ b) ++ c) ++ d) ++ e) ++ f = cc in
    whole ∙ simp append_assoc
