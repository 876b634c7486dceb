-- A line of six counts, with something behind the fourth.
use Rattle.std.proofs.Common.{◌≡◌, ◌∙◌, ◌++◌, ap, append_assoc}
use Rattle.statement.specs.Benches.{Text}

pub six_counts : (a p b q c r d s m e t f u end l1 l2 l3 l4 lm l5 l6 line : Text) → l1 ≡ a ++ p → l2 ≡ l1 ++ (b ++ q) → l3 ≡ l2 ++ (c ++ r) → l4 ≡ l3 ++ (d ++ s) → lm ≡ l4 ++ m → l5 ≡ lm ++ (e ++ t)
    → l6 ≡ l5 ++ (f ++ u) → line ≡ l6 ++ end
    → line ≡ a ++ (p ++ (b ++ (q ++ (c ++ (r ++ (d ++ (s ++ (m ++ (e ++ (t ++ (f ++ (u ++ end))))))))))))
six_counts a p b q c r d s m e t f u end l1 l2 l3 l4 lm l5 l6 line i1 i2 i3 i4 im i5 i6 i7 =
    let x6 = f ++ (u ++ end) in
    let x5 = e ++ (t ++ x6) in
    let xm = m ++ x5 in
    let x4 = d ++ (s ++ xm) in
    let x3 = c ++ (r ++ x4) in
    let x2 = b ++ (q ++ x3) in
    let s6 : l6 ++ end ≡ l5 ++ x6 = ap (λ l. l ++ end) i6 ∙ (append_assoc l5 (f ++ u) end ∙ ap (λ l. l5 ++ l) (append_assoc f u end)) in
    let s5 : l5 ++ x6 ≡ lm ++ x5 = ap (λ l. l ++ x6) i5 ∙ (append_assoc lm (e ++ t) x6 ∙ ap (λ l. lm ++ l) (append_assoc e t x6)) in
    let sm : lm ++ x5 ≡ l4 ++ xm = ap (λ l. l ++ x5) im ∙ append_assoc l4 m x5 in
    let s4 : l4 ++ xm ≡ l3 ++ x4 = ap (λ l. l ++ xm) i4 ∙ (append_assoc l3 (d ++ s) xm ∙ ap (λ l. l3 ++ l) (append_assoc d s xm)) in
    let s3 : l3 ++ x4 ≡ l2 ++ x3 = ap (λ l. l ++ x4) i3 ∙ (append_assoc l2 (c ++ r) x4 ∙ ap (λ l. l2 ++ l) (append_assoc c r x4)) in
    let s2 : l2 ++ x3 ≡ l1 ++ x2 = ap (λ l. l ++ x3) i2 ∙ (append_assoc l1 (b ++ q) x3 ∙ ap (λ l. l1 ++ l) (append_assoc b q x3)) in
    let s1 : l1 ++ x2 ≡ a ++ (p ++ x2) = ap (λ l. l ++ x2) i1 ∙ append_assoc a p x2 in
    i7 ∙ (s6 ∙ (s5 ∙ (sm ∙ (s4 ∙ (s3 ∙ (s2 ∙ s1))))))
