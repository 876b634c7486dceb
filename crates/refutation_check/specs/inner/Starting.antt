-- What signals may have without a fault, and what is so between two checks.
use Rattle.std.specs.Prelude.{ℕ, ◌≡◌, ◌<◌, ◌⊎◌, Bool, List, [], ◌∷◌, ◌++◌, map, length, None, slice_index_or}
use Rattle.std.specs.List.{All, Contains}
use Rattle.statement.specs.declared.lines.Fault.{Fault}
use Rattle.statement.specs.Netlists.{Definition, Netlist, signals}
use Rattle.statement.specs.Patterns.{Holds}
use Rattle.netlist.specs.Holds.{AreHoldsOf}
use Rattle.refutation.specs.declared.pairs.Pairs.{Pairs}
use Rattle.refutation.specs.Pairs.{any_pair, meet, same}
use Rattle.refutation.specs.Refutations.{Told, held, may_have}
use Rattle.refutation_check.specs.inner.Marks.{Marked, IsClear, is_marked}
use Rattle.refutation_check.specs.inner.Trails.{Trailed}

-- the two bits are the same, and a held input has its bit
abbrev pub own : Holds → ℕ → Pairs
own holds x = meet same (held (slice_index_or holds x None))

abbrev pub idle : Netlist → Holds → Told
idle n holds = map (own holds) (signals n)

-- what signals may have where the fault reaches the marked ones
abbrev pub reaching : Netlist → Holds → Fault → List Bool → Told
reaching n holds f marks = map (λ x. may_have holds f (is_marked marks x) x) (signals n)

-- the input isn't held, and no definition of the signal is without pins
pub record IsPlain (n : Netlist) (holds : Holds) (x : ℕ) : Type 0 where
  pub held : held (slice_index_or holds x None) ≡ any_pair
  pub pins : (d : Definition) → Contains n.definitions d → d.id ≡ x → 0 < length d.pins

-- the list has each signal that isn't so
pub record AreFixed (n : Netlist) (holds : Holds) (list : List ℕ) : Type 0 where
  pub within : All (λ x. x < length (signals n)) list
  pub rest : (x : ℕ) → x < length (signals n) → ¬ Contains list x → IsPlain n holds x

-- the signal is plain, or behind the list
abbrev pub IsNoted : Netlist → Holds → ℕ → List ℕ → List ℕ → Type 0
IsNoted n holds x old new = ((new ≡ old) × IsPlain n holds x) ⊎ (new ≡ old ++ x ∷ [])

-- between two checks
pub record IsIdle (n : Netlist) (holds : Holds) (fixed : List ℕ) (sets : Trailed) (m : Marked) : Type 0 where
  pub holds_are : AreHoldsOf n holds
  pub fixed_are : AreFixed n holds fixed
  pub told : sets.told ≡ idle n holds
  pub trail : sets.trail ≡ []
  pub size : length m.marks ≡ length (signals n)
  pub clear : IsClear m
