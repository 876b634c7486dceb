-- A point of a pattern is strobed so many cycles later as there are launches up to it.
use Rattle.std.proofs.Common.{◌≡◌, ℕ, ◌+◌, ◌*◌, ◌<◌, ◌^◌, List, length, arith, mul-add}
use Rattle.statement.specs.declared.lines.Point.{Point}
use Rattle.statement.specs.declared.lines.Point.TheVariants.{Output, Cell}
use Rattle.netlist.specs.Conditions.{IsSound}
use Rattle.statement.specs.Netlists.{Netlist}
use Rattle.statement.specs.Tests.{longest_of, IsStrobedAt}
use Rattle.scan_insert.specs.Scanned.{AreChainsOf}
use Rattle.scan_play.specs.Vectors.{capture_cycle, unload_cycle}
use Rattle.run_report.specs.Outcomes.{IsSeenAt}
use Rattle.run_report.proofs.CycleLemmas.{small_product, longest_small, chain_small}
use Rattle.transition_play.specs.LaunchVectors.{IsLaunchStrobedAt, second_cycle, second_unload}
use Rattle.transition_report.specs.Strobes.{IsLaunchSeenAt}

-- a cycle more for each pattern before this one
more : (p m : ℕ) → p * (m + 2) ≡ p * (m + 1) + p
more p m =
    let a : p * (m + 2) ≡ p * m + p * 2 = mul-add p m 2 in
    let b : p * (m + 1) ≡ p * m + p * 1 = mul-add p m 1 in
    omega arith

later_capture : (m p c : ℕ) → c ≡ capture_cycle m p → c + p + 1 ≡ second_cycle m p
later_capture m p c e = let d = more p m in omega arith

later_unload : (m p count k c : ℕ) → c ≡ unload_cycle m p count k → c + p + 1 ≡ second_unload m p count k
later_unload m p count k c e = let d = more (p + 1) m in omega arith

strobed_behind : (n : Netlist) (chains : List (List ℕ)) (p : ℕ) (point : Point) (c o : ℕ) → IsStrobedAt n chains p point c o → IsLaunchStrobedAt n chains p point (c + p + 1) o
strobed_behind n chains p (Output k) c o at = (later_capture (longest_of chains) p c at.0, at.1)
strobed_behind n chains p (Cell q) c o at = record {
  cell = at.cell;
  is_cell = at.is_cell;
  chain = at.chain;
  place = at.place;
  is_at = at.is_at;
  cycle_is = later_unload (longest_of chains) p (length at.is_at.chain_cells) at.place c at.cycle_is;
  output_is = at.output_is;
}

pub seen_behind : (n : Netlist) (chains : List (List ℕ)) (p : ℕ) (point : Point) (c : ℕ) (pin : List ℕ) → IsSeenAt n chains p point c pin → IsLaunchSeenAt n chains p point (c + p + 1) pin
seen_behind n chains p point c pin seen = (seen.0, strobed_behind n chains p point c seen.0 seen.1, seen.2)

-- cycles are few enough for a number of 64 bits
pub seen_small : (n : Netlist) (chains : List (List ℕ)) (p : ℕ) (point : Point) (c : ℕ) (pin : List ℕ) → IsSound n → AreChainsOf n chains → p < 2 ^ 32
    → IsSeenAt n chains p point c pin → c + p + 1 < 2 ^ 63
seen_small n chains p (Output k) c pin sound are few seen =
    let m = longest_small n chains sound are in
    let product = small_product p (longest_of chains + 1) (omega arith) (omega arith) in
    let e = seen.1.0 in
    omega arith
seen_small n chains p (Cell q) c pin sound are few seen =
    let m = longest_small n chains sound are in
    let product = small_product (p + 1) (longest_of chains + 1) (omega arith) (omega arith) in
    let e = seen.1.cycle_is in
    let long = chain_small n chains seen.1.chain seen.1.is_at.chain_cells sound are seen.1.is_at.has_chain in
    omega arith
