-- The vectors of a test on a netlist that shifts and captures, for any table of values.
use Rattle.std.proofs.Common.{◌≡◌, ℕ, ◌-◌, ◌%◌, ◌<◌, nat_le, Bool, false, not, List, [], ◌∷◌, ◌++◌, map, length, replicate, Option, None, refl, sym, ◌∙◌, ap, subst, arith, length-append}
use Rattle.std.specs.List.{All, AllZip, flat_map}
use Rattle.std.proofs.lemmas.List.{length-map, length-replicate, append_assoc, append-nil}
use Rattle.std.proofs.lemmas.List.Elements.{All-head, All-tail}
use Rattle.statement.specs.declared.kinds.Tri.{Tri}
use Rattle.statement.specs.declared.kinds.Tri.TheVariants.{X}
use Rattle.statement.specs.declared.lines.Fault.{Fault}
use Rattle.statement.specs.Netlists.{Definition, Netlist, cells}
use Rattle.statement.specs.Patterns.{Holds, Pattern}
use Rattle.netlist.specs.Conditions.{IsSound}
use Rattle.statement.specs.Values.{Rule, Table, Settles, bits, with_fault, pins_of, outs, next, known}
use Rattle.netlist.proofs.Alike.{zip_append, length-on_pins}
use Rattle.netlist.proofs.WellFormed.{one_pin}
use Rattle.statement.specs.Tests.{cells_of, Response, Responds, flush}
use Rattle.statement.specs.Runs.{numbers_from, Cycle, Runs}
use Rattle.scan_insert.proofs.Numbers.{length-numbers_from}
use Rattle.scan_play.specs.Shifts.{load}
use Rattle.scan_play.specs.Vectors.{flush_bits, capture, applied, vectors}
use Rattle.scan_play.proofs.Shifting.{zip_length}
use Rattle.scan_play.proofs.Loads.{ShiftLaw, open_front, load_met}

-- With scan off a capture shows and takes the response to the pattern.
abbrev pub CaptureLaw : {V : Type 0} → Table V → Option Fault → Netlist → Netlist → List (List ℕ) → Option Fault → Type 0
CaptureLaw {V} table g s n chains f =
    (p : Pattern) (r : Response) (b : ℕ → V) → Responds n f p r
    → Settles (with_fault table g) s (map table.known (p.inputs ++ false ∷ replicate (length chains) false)) (map table.known p.cells) b
    → (back : List V) × (length back ≡ length chains) × (outs (with_fault table g) s b ≡ map table.known r.outputs ++ back)
    × (next (with_fault table g) s b ≡ map table.known r.cells)

pub length-pins : {V : Type 0} (rule : Rule V) (a : ℕ → V) (ds : List Definition) → All (λ (d : Definition). length d.pins ≡ 1) ds → length (flat_map (pins_of rule a) ds) ≡ length ds
length-pins rule a [] h = refl
length-pins rule a (d ∷ ds) h =
    let one : length d.pins ≡ 1 = All-head (λ (e : Definition). length e.pins ≡ 1) d ds h in
    omega (
      arith,
      length-append (pins_of rule a d) (flat_map (pins_of rule a) ds),
      length-on_pins rule d.id 0 (map a d.pins),
      length-map d.pins a,
      length-pins rule a ds (All-tail (λ (e : Definition). length e.pins ≡ 1) d ds h),
    )

pub length-next : {V : Type 0} (rule : Rule V) (n : Netlist) (a : ℕ → V) → IsSound n → length (next rule n a) ≡ length (cells n)
length-next rule n a sound = length-pins rule a (cells n) (one_pin n sound.closed)

pub taken_count : (n : Netlist) (p : Pattern) (r : Response) → IsSound n → Responds n None p r → length r.cells ≡ length (cells n)
taken_count n p r sound h = ap length h.cells ∙ length-next (bits None) n h.values sound

pub length-flush : (chains : List (List ℕ)) → length (flush chains) ≡ length (cells_of chains)
length-flush [] = refl
length-flush (chain ∷ chains) =
    omega (
      arith,
      length-append (flush_bits (length chain)) (flush chains),
      length-map (numbers_from 0 (length chain)) (λ k. nat_le 2 ((length chain - 1 - k) % 4)),
      length-numbers_from 0 (length chain),
      length-append chain (cells_of chains),
      length-flush chains,
    )

-- a run from a state has a value for each cell
pub with_length : {V : Type 0} (table : Table V) (g : Option Fault) (s : Netlist) (state : List V) (Q : Cycle → List V → Type 0) (cycles : List Cycle) (shown : List (List V))
    → (length state ≡ length (cells s) → AllZip Q cycles shown) → Runs table g s state cycles shown → AllZip Q cycles shown
with_length table g s state Q [] [] h run = tt
with_length table g s state Q [] (row ∷ rows) h run = absurd run
with_length table g s state Q (c ∷ cs) [] h run = absurd run
with_length table g s state Q (c ∷ cs) (row ∷ rows) h run = h (sym (zip_length _ (cells s) state run.1.settles.1))

pub zip_known : {V : Type 0} (R : Tri → V → Type 0) (value : Bool → V) → ((b : Bool) → R (known b) (value b)) → (bs : List Bool) → AllZip R (map known bs) (map value bs)
zip_known R value h [] = tt
zip_known R value h (b ∷ bs) = (h b, zip_known R value h bs)

-- the response of the netlist with the fault, which meets what the other response strobes
abbrev pub Answers : {V : Type 0} → Table V → Option Fault → Netlist → (Tri → V → Type 0) → Pattern × Response → Response → Type 0
Answers table f n R test own =
    Responds n f test.0 own × AllZip R (map known test.1.outputs) (map table.known own.outputs) × AllZip R (map known test.1.cells) (map table.known own.cells)

module _ {V : Type 0} (table : Table V) (d : V) (f g : Option Fault) (s n : Netlist) (holds : Holds) (sound : IsSound n) (chain : List ℕ) (rest : List (List ℕ))
    (shifting : ShiftLaw table d g s n holds (chain ∷ rest)) (capturing : CaptureLaw table g s n (chain ∷ rest) f)
    (filled : All (λ (c : List ℕ). 0 < length c) (chain ∷ rest)) (count : length (cells n) ≡ length (cells_of (chain ∷ rest)))
    (R : Tri → V → Type 0) (open_place : (v : V) → R X v) (met_known : (b : Bool) → R (known b) (table.known b)) where
  opens : (values : List V) → length values ≡ length (cells_of (chain ∷ rest)) → AllZip R (replicate (length (cells_of (chain ∷ rest))) X) values
  opens values e = open_front table d g s n holds (chain ∷ rest) shifting filled R open_place values (length (cells_of (chain ∷ rest))) e

  zeros_length : length (replicate (length (cells_of (chain ∷ rest))) false) ≡ length (cells_of (chain ∷ rest))
  zeros_length = length-replicate (length (cells_of (chain ∷ rest))) false

  last_load_met : (held : List Tri) (start : List V) → length start ≡ length (cells_of (chain ∷ rest)) → AllZip R held start
      → (shown : List (List V)) → Runs table g s start (load n holds (chain ∷ rest) (replicate (length (cells_of (chain ∷ rest))) false) held) shown
      → AllZip (λ (c : Cycle) vs. AllZip R c.strobe vs) (load n holds (chain ∷ rest) (replicate (length (cells_of (chain ∷ rest))) false) held) shown
  last_load_met held start size h shown run =
      let cs = load n holds (chain ∷ rest) (replicate (length (cells_of (chain ∷ rest))) false) held in
      let ended : (later : List (List V)) → Runs table g s (map table.known (replicate (length (cells_of (chain ∷ rest))) false)) [] later → AllZip (λ (c : Cycle) vs. AllZip R c.strobe vs) [] later =
      elim [ [] ↦ λ r. tt | row ∷ rows ↦ λ r. absurd r ] in
      subst (λ (x : List Cycle). AllZip (λ (c : Cycle) vs. AllZip R c.strobe vs) x shown) (append-nil cs)
      (load_met table d g s n holds (chain ∷ rest) shifting filled R open_place (replicate (length (cells_of (chain ∷ rest))) false) held start zeros_length size h [] ended shown
      (subst (λ (x : List Cycle). Runs table g s start x shown) (sym (append-nil cs)) run))

  pub applied_met : (tests : List (Pattern × Response)) (owns : List Response) → AllZip (Answers table f n R) tests owns
      → (held : List Tri) (start : List V) → length start ≡ length (cells_of (chain ∷ rest)) → AllZip R held start
      → (shown : List (List V)) → Runs table g s start (applied n holds (chain ∷ rest) held tests) shown
      → AllZip (λ (c : Cycle) vs. AllZip R c.strobe vs) (applied n holds (chain ∷ rest) held tests) shown
  applied_met [] owns answers held start size h shown run = last_load_met held start size h shown run
  applied_met (test ∷ tests) [] answers held start size h shown run = absurd answers
  applied_met (test ∷ tests) (own ∷ owns) answers held start size h shown run =
      let p = test.0 in
      let many = length (chain ∷ rest) in
      let loaded : length p.cells ≡ length (cells_of (chain ∷ rest)) = sym (zip_length _ (cells n) p.cells answers.0.0.settles.1) ∙ count in
      let taken : length (map table.known own.cells) ≡ length (cells_of (chain ∷ rest)) =
      length-map own.cells table.known ∙ (ap length answers.0.0.cells ∙ (length-next (bits f) n answers.0.0.values sound ∙ count)) in
      let behind : (later : List (List V)) → Runs table g s (map table.known p.cells) (capture (chain ∷ rest) p test.1 ∷ applied n holds (chain ∷ rest) (map known test.1.cells) tests) later
      → AllZip (λ (c : Cycle) vs. AllZip R c.strobe vs) (capture (chain ∷ rest) p test.1 ∷ applied n holds (chain ∷ rest) (map known test.1.cells) tests) later =
      elim [
        | [] ↦ λ r. absurd r
        | row ∷ rows ↦ λ r.
            let tick = r.1 in
            let w = capturing p own tick.values answers.0.0 tick.settles in
            let all : AllZip R (map known test.1.outputs ++ replicate many X) (map table.known own.outputs ++ w.0) =
            zip_append R (map known test.1.outputs) (replicate many X) (map table.known own.outputs) w.0 answers.0.1
            (open_front table d g s n holds (chain ∷ rest) shifting filled R open_place w.0 many w.1) in
            let here : AllZip R (map known test.1.outputs ++ replicate many X) row =
            subst (λ (x : List V). AllZip R (map known test.1.outputs ++ replicate many X) x) (sym (tick.shows ∙ w.2)) all in
            let after : r.0 ≡ map table.known own.cells = tick.keeps ∙ w.3 in (
              here,
              applied_met tests owns answers.1 (map known test.1.cells) (map table.known own.cells) taken answers.0.2 rows
                  (subst (λ (x : List V). Runs table g s x (applied n holds (chain ∷ rest) (map known test.1.cells) tests) rows) after r.2),
            )
      ] in
      load_met table d g s n holds (chain ∷ rest) shifting filled R open_place p.cells held start loaded size h
      (capture (chain ∷ rest) p test.1 ∷ applied n holds (chain ∷ rest) (map known test.1.cells) tests) behind shown run

  pub vectors_met : (tests : List (Pattern × Response)) (owns : List Response) → AllZip (Answers table f n R) tests owns → (start : List V) → length start ≡ length (cells_of (chain ∷ rest))
      → (shown : List (List V)) → Runs table g s start (vectors n holds (chain ∷ rest) tests) shown
      → AllZip (λ (c : Cycle) vs. AllZip R c.strobe vs) (vectors n holds (chain ∷ rest) tests) shown
  vectors_met tests owns answers start size shown run =
      let chains : List (List ℕ) = chain ∷ rest in
      let count_of = length (cells_of chains) in
      let nothing : List Tri = replicate count_of X in
      let first : List Bool = flush chains in
      let second : List Bool = map not first in
      let third : List Bool = replicate count_of false in
      let l1 = load n holds chains first nothing in
      let l2 = load n holds chains second (map known first) in
      let l3 = load n holds chains third (map known second) in
      let end = applied n holds chains nothing tests in
      let assoc : vectors n holds chains tests ≡ l1 ++ (l2 ++ (l3 ++ end)) = append_assoc (l1 ++ l2) l3 end ∙ append_assoc l1 l2 (l3 ++ end) in
      let size1 : length first ≡ count_of = length-flush chains in
      let size2 : length second ≡ count_of = length-map first not ∙ size1 in
      let at : (bs : List Bool) → length bs ≡ count_of → length (map table.known bs) ≡ count_of = λ bs e. length-map bs table.known ∙ e in
      let fourth : (later : List (List V)) → Runs table g s (map table.known third) end later → AllZip (λ (c : Cycle) vs. AllZip R c.strobe vs) end later =
      λ later r. applied_met tests owns answers nothing (map table.known third) (at third zeros_length) (opens (map table.known third) (at third zeros_length)) later r in
      let load3 : (later : List (List V)) → Runs table g s (map table.known second) (l3 ++ end) later → AllZip (λ (c : Cycle) vs. AllZip R c.strobe vs) (l3 ++ end) later =
      λ later r. load_met table d g s n holds chains shifting filled R open_place third (map known second) (map table.known second) zeros_length (at second size2)
      (zip_known R table.known met_known second) end fourth later r in
      let load2 : (later : List (List V)) → Runs table g s (map table.known first) (l2 ++ (l3 ++ end)) later → AllZip (λ (c : Cycle) vs. AllZip R c.strobe vs) (l2 ++ (l3 ++ end)) later =
      λ later r. load_met table d g s n holds chains shifting filled R open_place second (map known first) (map table.known first) size2 (at first size1)
      (zip_known R table.known met_known first) (l3 ++ end) load3 later r in
      subst (λ (x : List Cycle). AllZip (λ (c : Cycle) vs. AllZip R c.strobe vs) x shown) (sym assoc)
      (load_met table d g s n holds chains shifting filled R open_place first nothing start size1 size (opens start size) (l2 ++ (l3 ++ end)) load2 shown
      (subst (λ (x : List Cycle). Runs table g s start x shown) assoc run))
