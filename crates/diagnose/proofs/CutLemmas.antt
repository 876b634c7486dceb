-- The first cycles of vectors, and their runs.
use Rattle.std.proofs.Common.{◌≡◌, ◌≢◌, ℕ, zero, suc, ◌+◌, ◌-◌, ◌<◌, ◌≤◌, ◌^◌, Bool, List, [], ◌∷◌, ◌++◌, append_assoc, map, length, get_or, take, drop, replicate, Option, Some, None, refl, sym, ◌∙◌, ap, subst, inl, inr, arith}
use Rattle.std.specs.List.{All, AllZip}
use Rattle.std.proofs.lemmas.Bool.{cases_lt}
use Rattle.std.proofs.lemmas.Grind.{flat_map-append}
use Rattle.std.proofs.lemmas.List.{append-nil, drop_all, drop_more, length-replicate, take_all, take-append-le, take-map}
use Rattle.std.proofs.lemmas.List.Elements.{All-take}
use Rattle.std.proofs.Math.Seq.{take-append-add}
use Rattle.statement.specs.declared.kinds.Tri.{Tri}
use Rattle.statement.specs.declared.kinds.Tri.TheVariants.{X}
use Rattle.statement.specs.declared.lines.Fault.{Fault}
use Rattle.statement.specs.Netlists.{Netlist, cells}
use Rattle.netlist.specs.Conditions.{IsSound}
use Rattle.statement.specs.Values.{Table}
use Rattle.tri.specs.Settled.{tri_table}
use Rattle.statement.specs.Runs.{numbers_from, Cycle, Runs}
use Rattle.scan_play.specs.declared.cycles.Burst.{Burst}
use Rattle.scan_play.specs.Bursts.{all_cycles, cycle_at, cycles_of}
use Rattle.scan_play.specs.Cycles.{IsCycleOf}
use Rattle.scan_play.specs.Playing.{PlayRuns}
use Rattle.scan_play.proofs.Instances.{same_tri, decides_tri}
use Rattle.scan_play.proofs.PlaySteps.{length-cycles_of}
use Rattle.scan_play.proofs.RunLaws.{runs_once, some_run}
use Rattle.diagnose.specs.Explaining.{told_cycles}

-- ---- bursts

first_numbers : (first k count : ℕ) → k ≤ count → take k (numbers_from first count) ≡ numbers_from first k
first_numbers first zero count l = refl
first_numbers first (suc k) zero l = absurd (omega (arith, l))
first_numbers first (suc k) (suc count) l = ap (λ ns. first ∷ ns) (first_numbers (first + 1) k count (omega (arith, l)))

pub first_in_burst : (pulse : Bool) (width k count : ℕ) (drive drive' : List Bool) (strobe strobe' : List Tri) (ins ins' : List Bool) (outs outs' : List Tri) → k ≤ count
    → drive' ≡ drive → strobe' ≡ strobe → ins' ≡ ins → outs' ≡ outs
    → map (cycle_at drive' strobe' pulse width ins' outs') (numbers_from 0 k) ≡ take k (map (cycle_at drive strobe pulse width ins outs) (numbers_from 0 count))
first_in_burst pulse width k count drive drive' strobe strobe' ins ins' outs outs' l d s i o =
    ap (λ (xs : List Bool). map (cycle_at xs strobe' pulse width ins' outs') (numbers_from 0 k)) d
    ∙ (ap (λ (xs : List Tri). map (cycle_at drive xs pulse width ins' outs') (numbers_from 0 k)) s
    ∙ (ap (λ (xs : List Bool). map (cycle_at drive strobe pulse width xs outs') (numbers_from 0 k)) i
    ∙ (ap (λ (xs : List Tri). map (cycle_at drive strobe pulse width ins xs) (numbers_from 0 k)) o
    ∙ sym (take-map (cycle_at drive strobe pulse width ins outs) k (numbers_from 0 count)
    ∙ ap (map (cycle_at drive strobe pulse width ins outs)) (first_numbers 0 k count l)))))

-- so many of two lists, of which a part is in the first
take_parts : {A : Type 0} (k part : ℕ) (xs ys : List A) → part ≤ length xs → part ≤ k → (part < k → part ≡ length xs) → take k (xs ++ ys) ≡ take part xs ++ take (k - part) ys
take_parts k part xs ys within few all = elim (cases_lt part k) [
  | inl less ↦
      let whole : part ≡ length xs = all less in
      let sum : k ≡ length xs + (k - part) = omega (arith, whole, less) in
      ap (λ i. take i (xs ++ ys)) sum ∙ (take-append-add xs ys (k - part) ∙ ap (λ zs. zs ++ take (k - part) ys) (sym (take_all part xs (omega (arith, whole)))))
  | inr past ↦
      let same : k ≡ part = omega (arith, past, few) in
      let none : k - part ≡ 0 = omega (arith, same) in
      ap (λ i. take i (xs ++ ys)) same ∙ (take-append-le part xs ys within ∙ sym (ap (λ i. take part xs ++ take i ys) none ∙ append-nil (take part xs)))
]

-- a burst more
pub more_cycles : (bursts new items : List Burst) (i left part : ℕ) (burst first : Burst) (whole : List Cycle) → i < length items → burst ≡ get_or items i burst
    → part ≤ burst.count → part ≤ left → (part < left → part ≡ burst.count) → cycles_of first ≡ take part (cycles_of burst) → new ≡ bursts ++ first ∷ []
    → all_cycles bursts ++ take left (all_cycles (drop i items)) ≡ whole → all_cycles new ++ take (left - part) (all_cycles (drop (i + 1) items)) ≡ whole
more_cycles bursts new items i left part burst first whole l is within few all made pushed so_far =
    let rest = all_cycles (drop (i + 1) items) in
    let size : length (cycles_of burst) ≡ burst.count = length-cycles_of burst in
    let split : all_cycles (drop i items) ≡ cycles_of burst ++ rest = ap all_cycles (drop_more items i burst l ∙ ap (λ (x : Burst). x ∷ drop (i + 1) items) (sym is)) in
    let parts : take left (all_cycles (drop i items)) ≡ cycles_of first ++ take (left - part) rest =
    ap (take left) split
    ∙ (take_parts left part (cycles_of burst) rest (omega (arith, size, within)) few (λ less. all less ∙ sym size) ∙ ap (λ cs. cs ++ take (left - part) rest) (sym made)) in
    let added : all_cycles new ≡ all_cycles bursts ++ cycles_of first =
    ap all_cycles pushed ∙ (flat_map-append cycles_of bursts (first ∷ []) ∙ ap (λ cs. all_cycles bursts ++ cs) (append-nil (cycles_of first))) in
    ap (λ cs. cs ++ take (left - part) rest) added
    ∙ (append_assoc (all_cycles bursts) (cycles_of first) (take (left - part) rest) ∙ (ap (λ cs. all_cycles bursts ++ cs) (sym parts) ∙ so_far))

pub none_left : (bursts : List Burst) (rest whole : List Cycle) (left : ℕ) → left ≡ 0 → all_cycles bursts ++ take left rest ≡ whole → all_cycles bursts ≡ whole
none_left bursts rest whole left none so_far =
    sym (append-nil (all_cycles bursts)) ∙ (ap (λ i. all_cycles bursts ++ take i rest) (sym none) ∙ so_far)

pub no_more : (bursts items : List Burst) (whole : List Cycle) (i left : ℕ) → length items ≤ i → all_cycles bursts ++ take left (all_cycles (drop i items)) ≡ whole → all_cycles bursts ≡ whole
no_more bursts items whole i left past so_far =
    let nothing : take left (all_cycles (drop i items)) ≡ [] = ap (λ xs. take left (all_cycles xs)) (drop_all i items past) ∙ take_all left [] (omega arith) in
    sym (append-nil (all_cycles bursts)) ∙ (ap (λ cs. all_cycles bursts ++ cs) (sym nothing) ∙ so_far)

-- ---- runs

runs_first : {V : Type 0} (table : Table V) (f : Option Fault) (n : Netlist) (k : ℕ) (state : List V) (cycles : List Cycle) (shown : List (List V))
    → Runs table f n state cycles shown → Runs table f n state (take k cycles) (take k shown)
runs_first table f n zero state cycles shown run = tt
runs_first table f n (suc k) state [] [] run = tt
runs_first table f n (suc k) state [] (row ∷ rows) run = absurd run
runs_first table f n (suc k) state (c ∷ cs) [] run = absurd run
runs_first table f n (suc k) state (c ∷ cs) (row ∷ rows) run = (run.0, run.1, runs_first table f n k run.0 cs rows run.2)

zip_first : {A B : Type 0} (R : A → B → Type 0) (k : ℕ) (xs : List A) (ys : List B) → AllZip R xs ys → AllZip R (take k xs) (take k ys)
zip_first R zero xs ys h = tt
zip_first R (suc k) [] [] h = tt
zip_first R (suc k) [] (y ∷ ys) h = absurd h
zip_first R (suc k) (x ∷ xs) [] h = absurd h
zip_first R (suc k) (x ∷ xs) (y ∷ ys) h = (h.0, zip_first R k xs ys h.1)

pub told_fit : (s : Netlist) (end : Option ℕ) (cycles : List Cycle) → All (IsCycleOf s) cycles → All (IsCycleOf s) (told_cycles end cycles)
told_fit s None cycles fit = fit
told_fit s (Some k) cycles fit = All-take (IsCycleOf s) k cycles fit

length-take_le : {A : Type 0} (k : ℕ) (xs : List A) → length (take k xs) ≤ length xs
length-take_le zero xs = omega arith
length-take_le (suc k) [] = omega arith
length-take_le (suc k) (x ∷ xs) = omega (arith, length-take_le k xs)

pub told_few : (end : Option ℕ) (cycles : List Cycle) → length cycles < 2 ^ 64 → length (told_cycles end cycles) < 2 ^ 64
told_few None cycles few = few
told_few (Some k) cycles few = omega (arith, few, length-take_le k cycles)

abbrev pub AreKnown : List Cycle → List (List Tri) → Type 0
AreKnown cycles shown = AllZip (λ (cycle : Cycle) values. AllZip (λ strobe value. strobe ≢ X → value ≢ X) cycle.strobe values) cycles shown

-- where all strobes of the run are known, those of its first cycles are
pub told_known : (s : Netlist) (g : Fault) (end : Option ℕ) (cycles : List Cycle) → IsSound s → All (IsCycleOf s) cycles
    → ((shown : List (List Tri)) → PlayRuns s (Some g) cycles shown → AreKnown cycles shown)
    → (shown : List (List Tri)) → PlayRuns s (Some g) (told_cycles end cycles) shown → AreKnown (told_cycles end cycles) shown
told_known s g None cycles sound fit told shown run = told shown run
told_known s g (Some k) cycles sound fit told shown run =
    let start : List Tri = replicate (length (cells s)) X in
    let r = some_run X tri_table (Some g) s start cycles sound.formed.numbered sound.closed sound.acyclic (length-replicate (length (cells s)) X) fit in
    let same : shown ≡ take k r.0 =
    runs_once same_tri decides_tri tri_table (Some g) s sound.closed sound.acyclic start (take k cycles) shown (take k r.0) run (runs_first tri_table (Some g) s k start cycles r.0 r.1) in
    subst (AreKnown (take k cycles)) (sym same)
    (zip_first (λ (cycle : Cycle) values. AllZip (λ strobe value. strobe ≢ X → value ≢ X) cycle.strobe values) k cycles r.0 (told r.0 r.1))
