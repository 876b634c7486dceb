-- The lines of the first signals.
use Rattle.std.proofs.Common.{◌≡◌, ℕ, ◌+◌, ◌<◌, ◌≤◌, take, List, [], ◌∷◌, ◌++◌, length, get_or, sym, ◌∙◌, ap, append_assoc, arith}
use Rattle.std.specs.List.{flat_map}
use Rattle.std.proofs.lemmas.Grind.{take_at_read, flat_map-append}
use Rattle.std.proofs.lemmas.List.{append-nil}
use Rattle.std.proofs.lemmas.List.Folds.{length-flat_map-take}
use Rattle.statement.specs.declared.lines.Line.{Line}
use Rattle.statement.specs.declared.lines.Line.TheVariants.{Stem}
use Rattle.statement.specs.Netlists.{Netlist, signals, readers_of}
use Rattle.fault_universe.specs.Universe.{branching}
use Rattle.statement.specs.Faults.{lines_of}
use Rattle.netlist.specs.Conditions.{IsNumbered}

module _ {X : Type 0} (n : Netlist) (numbered : IsNumbered n) (f : ℕ → List X) where
  -- one more signal
  pub one_more : (x : ℕ) → x < length (signals n) → flat_map f (take (x + 1) (signals n)) ≡ flat_map f (take x (signals n)) ++ f x
  one_more x l =
      ap (flat_map f) (take_at_read (signals n) x 0 l).1
      ∙ (flat_map-append f (take x (signals n)) (get_or (signals n) x 0 ∷ [])
      ∙ ap (λ ys. flat_map f (take x (signals n)) ++ ys) (append-nil (f (get_or (signals n) x 0)) ∙ ap f (numbered x l)))

  -- there is room for one more
  pub room : (x : ℕ) → x < length (signals n) → length (flat_map f (take x (signals n))) + length (f x) ≤ length (flat_map f (signals n))
  room x l =
      let h = length-flat_map-take f (signals n) x 0 l in
      let e : length (f (get_or (signals n) x 0)) ≡ length (f x) = ap (λ y. length (f y)) (numbered x l) in
      omega arith

-- the stem and then the branches of one more signal
pub added : (n : Netlist) → IsNumbered n → (x : ℕ) → x < length (signals n) → (old pushed branches new : List Line)
    → old ≡ flat_map (lines_of n) (take x (signals n)) → pushed ≡ old ++ Stem x ∷ [] → branches ≡ branching (readers_of n x) → new ≡ pushed ++ branches
    → new ≡ flat_map (lines_of n) (take (x + 1) (signals n))
added n numbered x l old pushed branches new i p b q =
    q ∙ (ap (λ ys. ys ++ branches) p ∙ (append_assoc old (Stem x ∷ []) branches
    ∙ (ap (λ ys. old ++ Stem x ∷ ys) b ∙ (ap (λ ys. ys ++ lines_of n x) i ∙ sym (one_more n numbered (lines_of n) x l)))))
