-- Laws of settled assignments, each the contract of a function of its name.
use Rattle.std.specs.Prelude.{ℕ, ◌≡◌, Bool, List, length, IsTrue}
use Rattle.std.specs.Bool.{Decides}
use Rattle.std.specs.List.{All, AllZip, Contains}
use Rattle.statement.specs.declared.lines.Line.{Line}
use Rattle.netlist.specs.Conditions.{IsClosed, IsNumbered}
use Rattle.statement.specs.Netlists.{Definition, Netlist, cells, gates, signals}
use Rattle.netlist.specs.Netlist.{IsAcyclic}
use Rattle.statement.specs.Values.{Rule, Settles, outs, next}

-- Induction over an acyclic netlist: what holds of inputs and cells, and of each gate where it holds of all that the gate reads, holds of every signal.
abbrev pub HoldsEverywhere : Type 0
HoldsEverywhere =
    (n : Netlist) (holds : ℕ → Bool) → IsClosed n → IsAcyclic n
    → All (λ x. IsTrue (holds x)) n.inputs
    → All (λ (d : Definition). IsTrue (holds d.id)) (cells n)
    → ((d : Definition) → Contains (gates n) d → All (λ x. IsTrue (holds x)) d.pins → IsTrue (holds d.id))
    → All (λ x. IsTrue (holds x)) (signals n)

-- at most one assignment settles
abbrev pub SettlesOnce : Type 0 → Type 0
SettlesOnce V =
    (same : V → V → Bool) → ((x y : V) → Decides (same x y) (x ≡ y))
    → (rule : Rule V) (n : Netlist) (inputs state : List V) (a b : ℕ → V)
    → IsClosed n → IsAcyclic n → Settles rule n inputs state a → Settles rule n inputs state b
    → All (λ x. a x ≡ b x) (signals n)

-- on an acyclic netlist some assignment settles, whatever is driven (blank is a value of no meaning)
abbrev pub SomeSettles : Type 0 → Type 0
SomeSettles V =
    (blank : V) (rule : Rule V) (n : Netlist) (inputs state : List V)
    → IsNumbered n → IsClosed n → IsAcyclic n → length inputs ≡ length n.inputs → length state ≡ length (cells n)
    → (a : ℕ → V) × Settles rule n inputs state a

-- a relation of the values of two rules that lines and gates keep
pub record Keeps {V W : Type 0} (related : V → W → Bool) (rule : Rule V) (rule' : Rule W) (n : Netlist) : Type 0 where
  pub lines : (line : Line) (v : V) (w : W) → IsTrue (related v w) → IsTrue (related (rule.line line v) (rule'.line line w))
  pub gates : (d : Definition) (vs : List V) (ws : List W) → Contains (gates n) d → length vs ≡ length d.pins
      → AllZip (λ v w. IsTrue (related v w)) vs ws → IsTrue (related (rule.gate d vs) (rule'.gate d ws))

-- Settled assignments of two rules are related on every signal, at every output and at every cell's pin, where lines and gates keep the relation.
abbrev pub SettleAlike : Type 0 → Type 0 → Type 0
SettleAlike V W =
    (related : V → W → Bool) (rule : Rule V) (rule' : Rule W) (n : Netlist) (inputs state : List V) (inputs' state' : List W) (a : ℕ → V) (b : ℕ → W)
    → IsClosed n → IsAcyclic n → Keeps related rule rule' n
    → AllZip (λ v w. IsTrue (related v w)) inputs inputs' → AllZip (λ v w. IsTrue (related v w)) state state'
    → Settles rule n inputs state a → Settles rule' n inputs' state' b
    → All (λ x. IsTrue (related (a x) (b x))) (signals n)
    × AllZip (λ v w. IsTrue (related v w)) (outs rule n a) (outs rule' n b)
    × AllZip (λ v w. IsTrue (related v w)) (next rule n a) (next rule' n b)
