-- The flush is shifts, which stand before the rest of the vectors.
use Rattle.std.proofs.Common.{◌≡◌, ℕ, ◌*◌, ◌<◌, Bool, false, not, List, [], ◌∷◌, ◌++◌, map, length, replicate, refl, sym, ◌∙◌, ap, arith, length-append}
use Rattle.std.specs.Prelude.{Option}
use Rattle.std.specs.List.{All}
use Rattle.std.proofs.lemmas.List.{append_assoc, length-map}
use Rattle.std.proofs.lemmas.List.Elements.{All-nil, All-cons, All-append}
use Rattle.statement.specs.declared.kinds.Tri.{Tri}
use Rattle.statement.specs.declared.lines.Fault.{Fault}
use Rattle.statement.specs.Netlists.{Netlist, cells}
use Rattle.statement.specs.Patterns.{Holds, Pattern}
use Rattle.statement.specs.Values.{Table, known}
use Rattle.statement.specs.Tests.{cells_of, longest_of, by_chain, column, word_in, word_out, Response, flush}
use Rattle.statement.specs.Runs.{numbers_from, Cycle, Runs}
use Rattle.scan_insert.proofs.Numbers.{length-numbers_from}
use Rattle.scan_play.specs.Shifts.{shift, load}
use Rattle.scan_play.specs.Vectors.{vectors}
use Rattle.scan_play.proofs.Loads.{length-by_chain, length-column}
use Rattle.scan_play.proofs.Shifting.{zip_length}
use Rattle.chain_test.proofs.StuckTicks.{IsShift}
use Rattle.chain_test.proofs.FlushStrobes.{behind, first, in_parts, nothing, second, third}

shifts_from : (n : Netlist) (holds : Holds) (chains : List (List ℕ)) (ins : List (List Bool)) (outs : List (List Tri)) → length ins ≡ length chains
    → (ts : List ℕ) → All (IsShift holds chains) (map (shift n holds ins outs) ts)
shifts_from n holds chains ins outs e [] = All-nil _
shifts_from n holds chains ins outs e (t ∷ ts) =
    All-cons (IsShift holds chains) (shift n holds ins outs t) (map (shift n holds ins outs) ts)
    (record { ins = column false ins t; many = length-column false ins t ∙ e; drive = refl; pulse = refl }) (shifts_from n holds chains ins outs e ts)

load_shifts : (n : Netlist) (holds : Holds) (chains : List (List ℕ)) (bits : List Bool) (held : List Tri) → All (IsShift holds chains) (load n holds chains bits held)
load_shifts n holds chains bits held =
    let m = longest_of chains in
    shifts_from n holds chains (map (word_in m) (by_chain chains bits)) (map (word_out m) (by_chain chains held))
    (length-map (by_chain chains bits) (word_in m) ∙ length-by_chain chains bits) (numbers_from 0 m)

pub length-load : (n : Netlist) (holds : Holds) (chains : List (List ℕ)) (bits : List Bool) (held : List Tri) → length (load n holds chains bits held) ≡ longest_of chains
length-load n holds chains bits held = length-map (numbers_from 0 (longest_of chains)) _ ∙ length-numbers_from 0 (longest_of chains)

-- the three loads, one behind the other
abbrev pub flushing : Netlist → Holds → List (List ℕ) → List (Pattern × Response) → List Cycle
flushing n holds chains tests = first n holds chains tests ++ (second n holds chains tests ++ third n holds chains tests)

module _ (n : Netlist) (holds : Holds) (chains : List (List ℕ)) (tests : List (Pattern × Response)) where
  pub length-flushing : length (flushing n holds chains tests) ≡ 3 * longest_of chains
  length-flushing =
      omega (
        arith,
        length-append (first n holds chains tests) (second n holds chains tests ++ third n holds chains tests),
        length-append (second n holds chains tests) (third n holds chains tests),
        length-load n holds chains (flush chains) (nothing n holds chains tests),
        length-load n holds chains (map not (flush chains)) (map known (flush chains)),
        length-load n holds chains (replicate (length (cells_of chains)) false) (map known (map not (flush chains))),
      )

  pub flushing_shifts : All (IsShift holds chains) (flushing n holds chains tests)
  flushing_shifts =
      let l1 = first n holds chains tests in
      let l2 = second n holds chains tests in
      let l3 = third n holds chains tests in
      All-append (IsShift holds chains) l1 (l2 ++ l3) (load_shifts n holds chains _ _)
      (All-append (IsShift holds chains) l2 l3 (load_shifts n holds chains _ _) (load_shifts n holds chains _ _))

  pub flushing_first : vectors n holds chains tests ≡ flushing n holds chains tests ++ behind n holds chains tests
  flushing_first =
      let l1 = first n holds chains tests in
      let l2 = second n holds chains tests in
      let l3 = third n holds chains tests in
      let end = behind n holds chains tests in
      in_parts n holds chains tests ∙ (ap (λ x. l1 ++ x) (sym (append_assoc l2 l3 end)) ∙ sym (append_assoc l1 (l2 ++ l3) end))

-- where a run has a cycle, its state is one of the netlist's cells
pub with_size : {V P : Type 0} (table : Table V) (h : Option Fault) (s : Netlist) (state : List V) (cycles : List Cycle) (shown : List (List V)) → 0 < length cycles
    → Runs table h s state cycles shown → (length state ≡ length (cells s) → P) → P
with_size table h s state [] shown l run f = absurd (omega arith)
with_size table h s state (x ∷ xs) [] l run f = absurd run
with_size table h s state (x ∷ xs) (row ∷ rows) l run f = f (sym (zip_length _ (cells s) state run.1.settles.1))
