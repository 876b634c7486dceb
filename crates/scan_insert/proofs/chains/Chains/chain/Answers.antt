use Rattle.std.proofs.Common.{ℕ, List, ◌<◌, ◌≤◌, ◌≡◌, ◌-◌, ◌+◌, length, take, drop, slice_get, Some, sym, ◌∙◌, ap, arith}
use Rattle.scan_insert.specs.Chains.{chains_of}
use Rattle.scan_insert.specs.inner.Places.{start_of, length_of}
use Rattle.scan_insert.proofs.Dealing.{length-chains, get-chains}
use Rattle.scan_insert.proofs.chains.Chains.chain.Goals as goal

in_chains : (cells : List ℕ) (count chain : ℕ) (now : List (List ℕ)) → count ≤ length cells → (0 < length cells → 0 < count)
    → chains_of cells count ≡ now → chain < length now → chain < count
in_chains cells count chain now enough some view_is l =
    let size = length-chains cells count enough some in
    let same = ap length view_is in
    omega arith

part : (start size : ℕ) (cells : List ℕ) (from to : ℕ) (read : List ℕ) → from ≡ start → to ≡ start + size → read ≡ cells
    → Some (take size (drop start cells)) ≡ Some (take (to - from) (drop from read))
part start size cells from to read f t r =
    let n : size ≡ to - from = omega arith in
    ap (λ k. Some (take k (drop start cells))) n ∙ (ap (λ k. Some (take (to - from) (drop k cells))) (sym f) ∙ ap (λ xs. Some (take (to - from) (drop from xs))) (sym r))

pub start-start-requires-clause-in_chains : goal.start-start-requires-clause-in_chains
start-start-requires-clause-in_chains c =
    in_chains c.self.inside.cells.items c.self.inside.count c.args.chain c.args.self.now c.self.invariant.enough c.self.invariant.some c.self.view_is c.requires

pub end-end-requires-clause-in_chains : goal.end-end-requires-clause-in_chains
end-end-requires-clause-in_chains c =
    in_chains c.self.inside.cells.items c.self.inside.count c.args.chain c.args.self.now c.self.invariant.enough c.self.invariant.some c.self.view_is c.requires

pub returns : goal.returns
returns c =
    let v = c.self.inside.cells in
    let count = c.self.inside.count in
    let within = in_chains v.items count c.args.chain c.args.self.now c.self.invariant.enough c.self.invariant.some c.self.view_is c.requires in
    let got = get-chains v.items count c.args.chain c.self.invariant.enough within in
    let start : c.start-start.result ≡ start_of (length v.items) count c.args.chain =
    c.start-start.ensures ∙ ap (λ n. start_of n count c.args.chain) (c.len.ensures ∙ v.ok.0) in
    let end : c.end-end.result ≡ start_of (length v.items) count c.args.chain + length_of (length v.items) count c.args.chain =
    c.end-end.ensures.length ∙ ap (λ n. start_of n count c.args.chain + length_of n count c.args.chain) (c.len-2.ensures ∙ v.ok.0) in
    let same : c.deref.result.now ≡ v.items = c.deref.ensures.value in
    ap (λ chains. slice_get chains c.args.chain) (sym c.self.view_is)
    ∙ (got ∙ part _ _ v.items _ _ c.deref.result.now start end same)
