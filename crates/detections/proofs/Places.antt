-- Rising lists of places.
use Rattle.std.proofs.Common.{ℕ, ◌<◌, ◌≤◌, List, length, arith}
use Rattle.std.specs.Cmp.{nat_eq_equiv}
use Rattle.std.specs.List.{AllPairs, Contains}
use Rattle.std.proofs.lemmas.Bool.Decides.{Decides-eqb}
use Rattle.std.proofs.lemmas.Map.Made.{length-le_from_is_member, is_member-Decides, IsDistinct-from_AllPairs}

-- places that rise are no more than those of a list that has each of them
pub rising_fit : (xs ys : List ℕ) → AllPairs (λ i j. i < j) xs → ((x : ℕ) → Contains xs x → Contains ys x) → length xs ≤ length ys
rising_fit xs ys rise within =
    length-le_from_is_member nat_eq_equiv xs ys (IsDistinct-from_AllPairs Decides-eqb xs (λ i j d l m e. let r = rise i j d l m in absurd (omega arith)))
    (λ q m. (is_member-Decides Decides-eqb ys q).1 (within q ((is_member-Decides Decides-eqb xs q).0 m)))
