-- Texts as they are written, a part at a time.
use Rattle.std.proofs.Common.{◌≡◌, ℕ, List, ◌++◌, ◌∙◌, append_assoc}

pub five_parts : (old a b c d e x y z u v : List ℕ) → x ≡ old ++ a → y ≡ x ++ b → z ≡ y ++ c → u ≡ z ++ d → v ≡ u ++ e
    → v ≡ old ++ (a ++ (b ++ (c ++ (d ++ e))))
five_parts old a b c d e x y z u v p q r s t =
    let whole : v ≡ ((((old ++ a) ++ b) ++ c) ++ d) ++ e = cc in
    whole ∙ simp append_assoc

pub six_parts : (old a b c d e f x y z u v w : List ℕ) → x ≡ old ++ a → y ≡ x ++ b → z ≡ y ++ c → u ≡ z ++ d → v ≡ u ++ e → w ≡ v ++ f
    → w ≡ old ++ (a ++ (b ++ (c ++ (d ++ (e ++ f)))))
six_parts old a b c d e f x y z u v w p q r s t k =
    let whole : w ≡ (((((old ++ a) ++ b) ++ c) ++ d) ++ e) ++ f = cc in
    whole ∙ simp append_assoc
