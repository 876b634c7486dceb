-- Behind the first token that is spelled so.
use Rattle.std.proofs.Common.{◌≡◌, ◌∙◌, Bool, true, false, List, [], ◌∷◌, ◌++◌, ap, sym, refl, append_assoc}
use Rattle.std.specs.Prelude.{None, Some, if◌then◌else◌, Option}
use Rattle.std.specs.List.{flat_map}
use Rattle.statement.specs.Benches.{Text}
use Rattle.stil_read.specs.Tokens.{Token, tokens}
use Rattle.stil_read.specs.inner.Skips.{Passes, behind_first, is_spelled}

pub skip_end : (word : Text) (all rest : List Token) → behind_first word all ≡ behind_first word rest → rest ≡ [] → behind_first word all ≡ None
unfolding behind_first
skip_end word all rest e n = e ∙ ap (behind_first word) n

chosen : {X : Type 0} (b : Bool) (x y : X) → b ≡ true → (if b then x else y) ≡ x
chosen true x y e = refl
chosen false x y e = cc

pub left_out : {X : Type 0} (b : Bool) (x y : X) → b ≡ false → (if b then x else y) ≡ y
left_out true x y e = cc
left_out false x y e = refl

pub skip_found : (word : Text) (all rest : List Token) (t : Token) (ts : List Token) → behind_first word all ≡ behind_first word rest → rest ≡ t ∷ ts → is_spelled word t ≡ true → behind_first word all ≡ Some ts
unfolding behind_first
skip_found word all rest t ts e f y = e ∙ ap (behind_first word) f ∙ chosen (is_spelled word t) (Some ts) (behind_first word ts) y

pub skip_more : (word : Text) (all rest : List Token) (t : Token) (ts : List Token) → behind_first word all ≡ behind_first word rest → rest ≡ t ∷ ts → is_spelled word t ≡ false → behind_first word all ≡ behind_first word ts
unfolding behind_first
skip_more word all rest t ts e f n = e ∙ ap (behind_first word) f ∙ left_out (is_spelled word t) (Some ts) (behind_first word ts) n
