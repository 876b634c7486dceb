-- Machines packed side by side, and taken apart again.
use Rattle.std.proofs.Common.{◌≡◌, ◌≢◌, ℕ, suc, zero, ◌+◌, ◌<◌, ◌≤◌, List, [], ◌∷◌, ◌++◌, length, get_or, set, take, Option, Some, refl, sym, ◌∙◌, ap, subst, inl, inr, arith, length-append}
use Rattle.std.specs.List.{All, slice_get}
use Rattle.std.proofs.lemmas.Bool.{cases_eq}
use Rattle.std.proofs.lemmas.List.{map-append, take_all, take_more, length-set, get_or_default}
use Rattle.std.proofs.lemmas.List.Elements.{All-get_or}
use Rattle.std.proofs.lemmas.Option.{get_or_from_slice_get, none-some, same_Some, slice_get-get_or, slice_get_within}
use Rattle.statement.specs.declared.kinds.Tri.{Tri}
use Rattle.statement.specs.declared.kinds.Tri.TheVariants.{X}
use Rattle.statement.specs.declared.lines.Fault.{Fault}
use Rattle.netlist.proofs.Alike.{zip_append}
use Rattle.scan_play.specs.declared.played.Played.{Played}
use Rattle.lane_play.specs.declared.packed.Lanes.{Lanes}
use Rattle.lane_play.specs.declared.packing.Machine.{Machine}
use Rattle.lane_play.specs.inner.Apart.{AreFiled, AreLines, ArePacked, IsFiled}
use Rattle.lane_play.specs.inner.Lanes.{lane, lanes}

-- ---- items of lists by their places

-- what is read at a place is the item there
pub read_at : {Y : Type 0} (xs : List Y) (k : ℕ) (x y : Y) → k < length xs → x ≡ get_or xs k x → slice_get xs k ≡ Some y → y ≡ x
read_at xs k x y l is e = sym (is ∙ get_or_from_slice_get xs k y x e)

-- what holds of all holds of the item at a place
pub all_at : {Y : Type 0} (P : Y → Type 0) (xs : List Y) (k : ℕ) (x : Y) → All P xs → slice_get xs k ≡ Some x → P x
all_at P xs k x h e = subst P (get_or_from_slice_get xs k x x e) (All-get_or P xs k x (slice_get_within xs k x e) h)

-- the item at a place after one was put there, or elsewhere
set_same : {Y : Type 0} (xs : List Y) (k : ℕ) (x y : Y) → slice_get (set xs k x) k ≡ Some y → y ≡ x
set_same [] k x y e = absurd (none-some y e)
set_same (z ∷ zs) zero x y e = sym (same_Some x y e)
set_same (z ∷ zs) (suc k) x y e = set_same zs k x y e

set_other : {Y : Type 0} (xs : List Y) (k j : ℕ) (x : Y) → j ≢ k → slice_get (set xs k x) j ≡ slice_get xs j
set_other [] k j x ne = refl
set_other (z ∷ zs) zero zero x ne = absurd (ne refl)
set_other (z ∷ zs) zero (suc j) x ne = refl
set_other (z ∷ zs) (suc k) zero x ne = refl
set_other (z ∷ zs) (suc k) (suc j) x ne = set_other zs k j x (λ e. ne (ap suc e))

-- ---- lines

pub lines_more : (faults lines new : List Fault) (places : List ℕ) (i place : ℕ) (f : Fault) → i < length places → place ≡ get_or places i place → place < length faults → f ≡ get_or faults place f
    → new ≡ lines ++ f ∷ [] → AreLines faults (take i places) lines → AreLines faults (take (i + 1) places) new
lines_more faults lines new places i place f l is low line e h =
    let here : slice_get faults place ≡ Some f = slice_get-get_or faults place f low ∙ ap Some (sym line) in
    let taken : take (i + 1) places ≡ take i places ++ place ∷ [] = take_more places i place l ∙ ap (λ p. take i places ++ p ∷ []) (sym is) in
    subst (λ ps. AreLines faults ps new) (sym taken)
    (subst (AreLines faults (take i places ++ place ∷ [])) (sym e) (zip_append (λ p g. slice_get faults p ≡ Some g) (take i places) (place ∷ []) lines (f ∷ []) h (here, tt)))

pub line_at : (faults : List Fault) (places : List ℕ) (lines : List Fault) (k place : ℕ) → AreLines faults places lines → slice_get places k ≡ Some place → slice_get lines k ≡ slice_get faults place
line_at faults [] lines k place h e = absurd (none-some place e)
line_at faults (p ∷ ps) [] k place h e = absurd h
line_at faults (p ∷ ps) (f ∷ fs) zero place h e = sym h.0 ∙ ap (slice_get faults) (same_Some p place e)
line_at faults (p ∷ ps) (f ∷ fs) (suc k) place h e = line_at faults ps fs k place h.1 e

pub lines_length : (faults : List Fault) (places : List ℕ) (lines : List Fault) → AreLines faults places lines → length lines ≡ length places
lines_length faults [] [] h = refl
lines_length faults [] (f ∷ fs) h = absurd h
lines_length faults (p ∷ ps) [] h = absurd h
lines_length faults (p ∷ ps) (f ∷ fs) h = ap suc (lines_length faults ps fs h.1)

-- ---- a cell of all machines

-- so far the first so many machines are packed
pub record IsCellPacked (machines : List Machine) (places : List ℕ) (cell count : ℕ) (packed : Lanes) : Type 0 where
  pub done : (k place : ℕ) (m : Machine) (t : Tri) → k < count → slice_get places k ≡ Some place → slice_get machines place ≡ Some m → lane k packed ≡ get_or m.state.items cell t
  pub free : (k : ℕ) → count ≤ k → k < 128 → lane k packed ≡ X

pub cell_more : (machines : List Machine) (places : List ℕ) (cell i place : ℕ) (old new : Lanes) (machine : Machine) (value : Tri) → i < length places → length places ≤ 128
    → place ≡ get_or places i place → place < length machines → machine ≡ get_or machines place machine
    → cell < length machine.state.items → value ≡ get_or machine.state.items cell value → lane i new ≡ value → ((j : ℕ) → j < 128 → j ≢ i → lane j new ≡ lane j old)
    → IsCellPacked machines places cell i old → IsCellPacked machines places cell (i + 1) new
cell_more machines places cell i place old new machine value l few at low is within held here others h = record {
  done = λ k p m t inside e there. elim (cases_eq k i) [
    | inl same ↦
        let own : p ≡ place = read_at places i place p l at (ap (slice_get places) (sym same) ∙ e) in
        let it : m ≡ machine = read_at machines place machine m low is (ap (slice_get machines) (sym own) ∙ there) in
        ap (λ j. lane j new) same ∙ (here ∙ (held ∙ (get_or_default machine.state.items cell value t within ∙ ap (λ (x : Machine). get_or x.state.items cell t) (sym it))))
    | inr other ↦ others k (omega (arith, l, few, inside)) other ∙ h.done k p m t (omega (arith, inside, other)) e there
  ];
  free = λ k high small. others k small (λ e. omega (arith, e, high)) ∙ h.free k (omega (arith, high)) small;
}

-- ---- all cells

-- so far so many cells are packed
pub record ArePackedUpTo (machines : List Machine) (places : List ℕ) (cell : ℕ) (packed : List Lanes) : Type 0 where
  pub size : length packed ≡ cell
  pub each : (k place : ℕ) (m : Machine) → slice_get places k ≡ Some place → slice_get machines place ≡ Some m → lanes k packed ≡ take cell m.state.items

pub pack_more : (machines : List Machine) (places : List ℕ) (cells cell : ℕ) (old new : List Lanes) (value : Lanes) → cell < cells → All (λ (m : Machine). length m.state.items ≡ cells) machines
    → new ≡ old ++ value ∷ []
    → ((k place : ℕ) (m : Machine) (t : Tri) → slice_get places k ≡ Some place → slice_get machines place ≡ Some m → lane k value ≡ get_or m.state.items cell t)
    → ArePackedUpTo machines places cell old → ArePackedUpTo machines places (cell + 1) new
pack_more machines places cells cell old new value l sized e here h = record {
  size = ap length e ∙ (length-append old (value ∷ []) ∙ ap (λ k. k + 1) h.size);
  each = λ k place m at there.
      let own : List Tri = m.state.items in
      let long : length own ≡ cells = all_at (λ (m : Machine). length m.state.items ≡ cells) machines place m sized there in
      ap (lanes k) e ∙ (map-append (lane k) old (value ∷ []) ∙ (ap (λ vs. vs ++ lane k value ∷ []) (h.each k place m at there)
      ∙ (ap (λ v. take cell own ++ v ∷ []) (here k place m X at there) ∙ sym (take_more own cell X (omega (arith, long, l))))));
}

pub pack_done : (machines : List Machine) (places : List ℕ) (cells cell : ℕ) (packed : List Lanes) → cells ≤ cell → cell ≤ cells → All (λ (m : Machine). length m.state.items ≡ cells) machines
    → ArePackedUpTo machines places cell packed → ArePacked machines places cells packed
pack_done machines places cells cell packed high low sized h = record {
  size = h.size ∙ omega (arith, high, low);
  each = λ k place m at there.
      h.each k place m at there ∙ take_all cell m.state.items (let e = all_at (λ (m : Machine). length m.state.items ≡ cells) machines place m sized there in omega (arith, high));
}

-- ---- one machine

pub unpack_more : (k i : ℕ) (state : List Lanes) (old new : List Tri) (v : Lanes) (t : Tri) → i < length state → v ≡ get_or state i v → t ≡ lane k v → new ≡ old ++ t ∷ [] → old ≡ lanes k (take i state) → new ≡ lanes k (take (i + 1) state)
unpack_more k i state old new v t l is e made h =
    made ∙ (ap (λ ts. ts ++ t ∷ []) h ∙ (ap (λ x. lanes k (take i state) ++ x ∷ []) e
    ∙ (sym (map-append (lane k) (take i state) (v ∷ [])) ∙ ap (lanes k) (ap (λ x. take i state ++ x ∷ []) is ∙ sym (take_more state i v l)))))

-- one machine more is filed
pub file_more : (places : List ℕ) (i place : ℕ) (state : List Lanes) (said : List (Option Played)) (old mid : List Machine) (one : Machine) → i < length places → place ≡ get_or places i place
    → IsFiled state said i one → AreFiled places i state said old mid → AreFiled places (i + 1) state said old (set mid place one)
file_more places i place state said old mid one l at filed h = record {
  size = length-set mid place one ∙ h.size;
  each = λ p m there. elim (cases_eq p place) [
    | inl same ↦
        let it : m ≡ one = set_same mid place one m (ap (slice_get (set mid place one)) (sym same) ∙ there) in
        inr (i, omega arith, slice_get-get_or places i place l ∙ ap Some (sym at ∙ sym same), subst (IsFiled state said i) (sym it) filed)
    | inr other ↦ elim (h.each p m (sym (set_other mid place p one other) ∙ there)) [
      | inl q ↦
          inl (
            q.0,
            λ k low e. elim (cases_eq k i) [
              | inl last ↦ other (read_at places i place p l at (ap (slice_get places) (sym last) ∙ e))
              | inr before ↦ q.1 k (omega (arith, low, before)) e
            ],
          )
      | inr q ↦ inr (q.0, (let low = q.1 in omega (arith, low)), q.2, q.3)
    ]
  ];
}
