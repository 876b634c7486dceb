use Rattle.std.proofs.Common.{◌≡◌, ℕ, ◌+◌, ◌<◌, ◌≤◌, length, sym, ◌∙◌, subst, arith, vec_len}
use Rattle.std.proofs.lemmas.Bool.{eqb-false}
use Rattle.statement.specs.Netlists.{Netlist, signals}
use Rattle.netlist.specs.Conditions.{whole, IsSized, IsUndefined}
use Rattle.netlist.proofs.Placed.{signals_length}
use Rattle.netlist.proofs.WellFormed.{first_undefined, none_before}
use Rattle.netlist.proofs.netlists.refusal.Goals as goal

undefined_at : (n : Netlist) (z : ℕ) → z ≡ length (signals n) → IsUndefined n (length (signals n)) → ((y : ℕ) → y < length (signals n) → ¬ IsUndefined n y)
    → IsUndefined n z × ((y : ℕ) → y < z → ¬ IsUndefined n y)
undefined_at n z e u none = subst (λ k. IsUndefined n k × ((y : ℕ) → y < k → ¬ IsUndefined n y)) (sym e) (u, none)

pub returns-then-signals-len : goal.returns-then-signals-len
returns-then-signals-len c =
    let n = whole c.args.parts.now in
    let size = signals_length n in
    let i = c.args.parts.now.inputs.ok.0 in
    let d = c.args.parts.now.definitions.ok.0 in
    let o = c.args.parts.now.outputs.ok.0 in
    let some = eqb-false (vec_len c.args.parts.now.outputs) 0 (sym c.is_empty.ensures ∙ c.if-is_empty.false) in
    let sized : IsSized n = record { small = omega arith; input = omega arith; output = omega arith } in
    let u = undefined_at n (c.len-inputs.result + c.len-2.result) (omega arith) (first_undefined n c.requires (omega arith)) (none_before n c.requires) in
    (sized, u.0, u.1)

pub returns : goal.returns
returns c =
    let n = whole c.args.parts.now in
    let size = signals_length n in
    let i = c.args.parts.now.inputs.ok.0 in
    let d = c.args.parts.now.definitions.ok.0 in
    let o = c.args.parts.now.outputs.ok.0 in
    let some = eqb-false (vec_len c.args.parts.now.outputs) 0 (sym c.is_empty.ensures ∙ c.if-is_empty.false) in
    record { sized = record { small = omega arith; input = omega arith; output = omega arith }; names = omega arith }
