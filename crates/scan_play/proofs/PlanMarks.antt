-- Marks in a table, and what they say is ready.
use Rattle.std.proofs.Common.{◌≡◌, ℕ, suc, zero, ◌+◌, ◌<◌, Bool, true, false, ◌⊎◌, List, [], ◌∷◌, ◌++◌, map, length, get_or, take, Some, None, slice_get, refl, sym, ◌∙◌, ap, subst, inl, inr, arith}
use Rattle.std.specs.List.{All, Contains}
use Rattle.std.proofs.lemmas.Bool.{cases_eq}
use Rattle.std.proofs.lemmas.List.{get_or_default, take_more}
use Rattle.std.proofs.lemmas.Option.{get_or_from_slice_get}
use Rattle.std.proofs.lemmas.List.Elements.{All-push, Contains-append_left, Contains-append_right}
use Rattle.statement.specs.declared.kinds.Tri.{Tri}
use Rattle.statement.specs.declared.kinds.Tri.TheVariants.{X}
use Rattle.statement.specs.Netlists.{Definition, Netlist, is_cell, cells, gates}
use Rattle.netlist.specs.Settled.{at}
use Rattle.netlist.specs.ThreeValues.{is_x}
use Rattle.netlist.proofs.Lists.{contains_head, filter_contains}
use Rattle.scan_insert.proofs.Loopless.{map_contains}
use Rattle.scan_play.specs.Steps.{IsReady, HasSteps, AreOrderedSteps}
use Rattle.scan_play.specs.inner.Plans.{AreMarked, AreReady, AreCellsMarked, AreOutputsMarked}

some_same : {A : Type 0} (x y : A) → Some x ≡ Some y → x ≡ y
some_same x y e = cc

pub marked_push : (xs : List Bool) (b : Bool) (y : ℕ) → slice_get (xs ++ b ∷ []) y ≡ Some true → (slice_get xs y ≡ Some true) ⊎ ((y ≡ length xs) × (b ≡ true))
marked_push [] b zero e = inr (refl, some_same b true e)
marked_push [] b (suc y) e = cc
marked_push (x ∷ xs) b zero e = inl e
marked_push (x ∷ xs) b (suc y) e = elim (marked_push xs b y e) [ inl h ↦ inl h | inr h ↦ inr (ap suc h.0, h.1) ]

-- ---- what is ready

pub ready_more : (n : Netlist) (base : List Tri) (done more : List ℕ) (x : ℕ) → IsReady n base done x → IsReady n base (done ++ more) x
ready_more n base done more x r = elim r [
  | inl i ↦ inl i
  | inr r1 ↦ elim r1 [
    | inl c ↦ inr (inl c)
    | inr r2 ↦ elim r2 [
      | inl s ↦ inr (inr (inl s))
      | inr d ↦ inr (inr (inr (Contains-append_left done more x d)))
    ]
  ]
]

pub taken_more : (steps : List ℕ) (m x : ℕ) → m < length steps → x ≡ get_or steps m x → take (m + 1) steps ≡ take m steps ++ x ∷ []
taken_more steps m x l is = take_more steps m x l ∙ ap (λ y. take m steps ++ y ∷ []) (sym is)

-- one gate more is marked
pub ready_step : (n : Netlist) (base : List Tri) (steps : List ℕ) (m x : ℕ) (old new : List Bool) → m < length steps → x ≡ get_or steps m x → AreReady n base (take m steps) old
    → ((y : ℕ) → slice_get new y ≡ Some true → (y ≡ x) ⊎ (slice_get old y ≡ Some true)) → AreReady n base (take (m + 1) steps) new
ready_step n base steps m x old new l is h marks y e =
    subst (λ (done : List ℕ). IsReady n base done y) (sym (taken_more steps m x l is)) (elim (marks y e) [
      | inl same ↦ inr (inr (inr (Contains-append_right (take m steps) (x ∷ []) y (subst (λ z. Contains (x ∷ []) z) (sym same) (contains_head x [])))))
      | inr was ↦ ready_more n base (take m steps) (x ∷ []) y (h y was)
    ])

pub marked_ready : (n : Netlist) (base : List Tri) (done : List ℕ) (ready : List Bool) (xs : List ℕ) → AreReady n base done ready → AreMarked ready xs → All (IsReady n base done) xs
marked_ready n base done ready xs h marks k d l = h (get_or xs k d) (marks k d l)

-- one step more reads what is ready
pub reads_step : (n : Netlist) (base : List Tri) (steps : List ℕ) (m x : ℕ) (ready : List Bool) → m < length steps → x ≡ get_or steps m x → AreReady n base (take m steps) ready
    → ((g : Definition) → Contains (gates n) g → g.id ≡ x → AreMarked ready g.pins)
    → ((k : ℕ) (g : Definition) → k < m → Contains (gates n) g → g.id ≡ get_or steps k 0 → All (IsReady n base (take k steps)) g.pins)
    → (k : ℕ) (g : Definition) → k < m + 1 → Contains (gates n) g → g.id ≡ get_or steps k 0 → All (IsReady n base (take k steps)) g.pins
reads_step n base steps m x ready l is h marks reads k g b c e = elim (cases_eq k m) [
  | inl last ↦
      let here : g.id ≡ x = e ∙ (ap (λ j. get_or steps j 0) last ∙ (get_or_default steps m 0 x l ∙ sym is)) in
      subst (λ j. All (IsReady n base (take j steps)) g.pins) (sym last) (marked_ready n base (take m steps) ready g.pins h (marks g c here))
  | inr old ↦ reads k g (omega arith) c e
]

pub cell_there : (n : Netlist) (x : ℕ) (d : Definition) → Contains n.definitions d → d.id ≡ x → is_cell d ≡ true → Contains (map (λ (e : Definition). e.id) (cells n)) x
cell_there n x d c e cell = subst (Contains (map (λ (f : Definition). f.id) (cells n))) e (map_contains (λ (f : Definition). f.id) (cells n) d (filter_contains is_cell n.definitions d c cell))

-- what stays by one table stays by another that has an X at most where the first has one
pub ready_known : (n : Netlist) (table base : List Tri) (done : List ℕ) (x : ℕ) → ((y : ℕ) → is_x (at table X y) ≡ false → is_x (at base X y) ≡ false) → IsReady n table done x → IsReady n base done x
ready_known n table base done x more r = elim r [
  | inl i ↦ inl i
  | inr r1 ↦ elim r1 [
    | inl c ↦ inr (inl c)
    | inr r2 ↦ elim r2 [
      | inl s ↦ inr (inr (inl (s.0, more x s.1)))
      | inr d ↦ inr (inr (inr d))
    ]
  ]
]

pub steps_known : (n : Netlist) (strobe table base : List Tri) (steps : List ℕ) → ((y : ℕ) → is_x (at table X y) ≡ false → is_x (at base X y) ≡ false) → HasSteps n strobe table steps → HasSteps n strobe base steps
steps_known n strobe table base steps more h = record {
  path = record {
    are_gates = h.path.are_gates;
    reads = λ m g l gate same k d low. ready_known n table base (take m steps) (get_or g.pins k d) more (h.path.reads m g l gate same k d low);
  };
  cells_ready = λ k d l j e low. ready_known n table base steps (get_or (get_or (cells n) k d).pins j e) more (h.cells_ready k d l j e low);
  outputs_ready = λ k l s. ready_known n table base steps (get_or n.outputs k 0) more (h.outputs_ready k l s);
}

-- ---- tables

pub none_there : {A : Type 0} (xs : List A) (k : ℕ) (d : A) → slice_get xs k ≡ None → get_or xs k d ≡ d
none_there [] k d e = refl
none_there (x ∷ xs) zero d e = absurd (some_none e)
  where
    some_none : Some x ≡ None → ⊥
    some_none e = cc
none_there (x ∷ xs) (suc k) d e = none_there xs k d e

pub read_there : {A : Type 0} (xs : List A) (k : ℕ) (x d : A) → slice_get xs k ≡ Some x → get_or xs k d ≡ x
read_there xs k x d e = get_or_from_slice_get xs k x d e

pub all_more : {A : Type 0} (P : A → Type 0) (xs : List A) (i : ℕ) (x : A) → i < length xs → x ≡ get_or xs i x → All P (take i xs) → P x → All P (take (i + 1) xs)
all_more P xs i x l is h p = subst (All P) (sym (take_more xs i x l ∙ ap (λ y. take i xs ++ y ∷ []) (sym is))) (All-push P (take i xs) x h p)
