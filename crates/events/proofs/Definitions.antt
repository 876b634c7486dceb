-- A definition of the parts of another.
use Rattle.std.proofs.Common.{◌≡◌, ℕ, List, ap, ◌∙◌}
use Rattle.statement.specs.declared.kinds.Kind.{Kind}
use Rattle.statement.specs.Netlists.{Definition}

definition : ℕ → Kind → List ℕ → Definition
definition id kind pins = record { id = id; kind = kind; pins = pins }

pub definition_is : (d : Definition) (id : ℕ) (kind : Kind) (pins : List ℕ) → id ≡ d.id → kind ≡ d.kind → pins ≡ d.pins
    → ◌≡◌ {A = Definition} (record { id = id; kind = kind; pins = pins }) d
unfolding definition
definition_is d id kind pins a b c = ap (λ x. definition x kind pins) a ∙ (ap (λ k. definition d.id k pins) b ∙ ap (λ ps. definition d.id d.kind ps) c)
