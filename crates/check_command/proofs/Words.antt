-- The words of the program that only checks.
use Rattle.std.proofs.Common.{◌≡◌, List, [], ◌∷◌, Some, None, refl, arith, length, get_or, map}
use Rattle.std.specs.declared.string.String.{String}
use Rattle.std.specs.String.{string_bytes}
use Rattle.std.specs.declared.alloc.Global.{Global}
use Rattle.statement.specs.Benches.{Text}
use Rattle.check_command.specs.Top.{prefix_in}

-- the second of two words
pub second_word : (ws : List (String Global)) (w d : String Global) (t : Text) → length ws ≡ 2 → w ≡ get_or ws 1 d → t ≡ string_bytes w → Some t ≡ prefix_in (map string_bytes ws)
second_word [] w d t count is text = absurd (omega arith)
second_word (a ∷ []) w d t count is text = absurd (omega arith)
second_word (a ∷ b ∷ []) w d t count is text = rw (text, is) refl
second_word (a ∷ b ∷ c ∷ ws) w d t count is text = absurd (omega arith)

-- fewer or more are no prefix
pub no_word : (ws : List (String Global)) → ¬ (length ws ≡ 2) → None ≡ prefix_in (map string_bytes ws)
no_word [] other = refl
no_word (a ∷ []) other = refl
no_word (a ∷ b ∷ []) other = absurd (other refl)
no_word (a ∷ b ∷ c ∷ ws) other = refl
