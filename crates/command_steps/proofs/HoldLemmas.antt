-- Held inputs by their names.
use Rattle.std.proofs.Common.{◌≡◌, ◌≢◌, ◌∙◌, ℕ, zero, suc, ◌+◌, ◌<◌, ◌≤◌, inl, inr, List, [], ◌∷◌, ◌++◌, Some, Ok, Err, length, map, get_or, take, set, refl, sym, subst, ap, arith, length-set, add-one}
use Rattle.std.specs.List.{slice_get}
use Rattle.std.proofs.Math.Seq.{take-suc}
use Rattle.std.proofs.lemmas.Bool.{cases_order}
use Rattle.std.proofs.lemmas.List.{map-append}
use Rattle.std.proofs.lemmas.Option.{slice_get-get_or, slice_get_within, get_or_from_slice_get}
use Rattle.statement.specs.Netlists.{Netlist, name_of, signals}
use Rattle.netlist.specs.Conditions.{IsSound}
use Rattle.statement.specs.Patterns.{Holds}
use Rattle.netlist.specs.Holds.{none_held}
use Rattle.bench_text.proofs.Lists.{get_map, got_map}
use Rattle.fault_universe.proofs.Names.{same_name}
use Rattle.fault_collapse.proofs.Stems.{input_number}
use Rattle.command_line.specs.CommandLine.{hold_of}
use Rattle.command_line.specs.HoldLists.{HoldItem}
use Rattle.command_line.specs.declared.holds.Held.{Held}
use Rattle.command_steps.specs.Runs.{AreHeldFrom, IsFirstUnknown, IsInputAt}
use Rattle.command_steps.specs.Steps.{named_holds}
use Rattle.command_steps.specs.declared.refusal.Refusal.{Refusal}
use Rattle.command_steps.specs.declared.refusal.Refusal.TheVariants as refusal
use Rattle.command_steps.proofs.Single.{IsSingle}

-- each of the names is an input's
all_inputs : (n : Netlist) (named : List HoldItem) (holds x : Holds) → AreHeldFrom n holds named x → (j : ℕ) (h : HoldItem) → slice_get named j ≡ Some h → (k : ℕ) × IsInputAt n k h.0
all_inputs n [] holds x p j h at = cc
all_inputs n (g ∷ named) holds x p zero h at = let same : g ≡ h = cc in (p.0, subst (λ (e : HoldItem). IsInputAt n p.0 e.0) same p.1)
all_inputs n (g ∷ named) holds x p (suc j) h at = all_inputs n named (set holds p.0 (Some g.1)) x p.2 j h at

module _ (n : Netlist) (sound : IsSound n) where
  -- input k is signal k
  pub input_is : (k x : ℕ) → slice_get n.inputs k ≡ Some x → (x ≡ k) × (k < length (signals n))
  input_is k x at =
      let lt = slice_get_within n.inputs k x at in
      input_number n sound.formed.numbered n.inputs refl k x lt (sym (get_or_from_slice_get n.inputs k x x at))

  -- a name is that of one input
  input_once : (i j : ℕ) (name : List ℕ) → IsInputAt n i name → IsInputAt n j name → i ≡ j
  input_once i j name p q =
      let a = input_is i p.0 p.1 in
      let b = input_is j q.0 q.1 in
      let same = same_name n sound p.0 q.0 (omega (arith, a.0, a.1)) (omega (arith, b.0, b.1)) (p.2 ∙ sym q.2) in
      sym a.0 ∙ (same ∙ b.0)

  pub input_at : (k : ℕ) (name : List ℕ) → k < length n.inputs → name_of n k ≡ name → IsInputAt n k name
  input_at k name lt is =
      let x = get_or n.inputs k 0 in
      let at = slice_get-get_or n.inputs k 0 lt in
      let same = input_is k x at in
      (x, at, ap (name_of n) same.0 ∙ is)

  -- a signal behind the inputs is none of them
  pub no_input : (z : ℕ) (name : List ℕ) → z < length (signals n) → length n.inputs ≤ z → name_of n z ≡ name → (k : ℕ) → ¬ IsInputAt n k name
  no_input z name inside behind is k p =
      let a = input_is k p.0 p.1 in
      let lt = slice_get_within n.inputs k p.0 p.1 in
      let same = same_name n sound p.0 z (omega (arith, a.0, a.1)) inside (p.2 ∙ sym is) in
      omega (arith, same, a.0, lt, behind)

  -- where no signal has the name, no input has
  pub no_signal : (name : List ℕ) → ((x : ℕ) → x < length (signals n) → name_of n x ≢ name) → (k : ℕ) → ¬ IsInputAt n k name
  no_signal name none k p =
      let a = input_is k p.0 p.1 in
      none p.0 (omega (arith, a.0, a.1)) p.2

  held_once : (named : List HoldItem) (holds x y : Holds) → AreHeldFrom n holds named x → AreHeldFrom n holds named y → x ≡ y
  held_once [] holds x y p q = p ∙ sym q
  held_once (h ∷ named) holds x y p q =
      let same = input_once p.0 q.0 h.0 p.1 q.1 in
      held_once named (set holds p.0 (Some h.1)) x y p.2 (subst (λ k. AreHeldFrom n (set holds k (Some h.1)) named y) (sym same) q.2)

  holds_apart : (named : List HoldItem) (x : Holds) (r : Refusal) → named_holds n named (Ok x) → named_holds n named (Err r) → ⊥
  holds_apart named x (refusal.NoSuchInput place) p q = let w = all_inputs n named (none_held n) x p place q.hold q.at in q.unknown w.0 w.1
  holds_apart named x (refusal.Netlist r) p q = q
  holds_apart named x (refusal.Order r) p q = q
  holds_apart named x refusal.NoSuchFault p q = q
  holds_apart named x refusal.NotStil p q = q
  holds_apart named x refusal.NotCertificate p q = q
  holds_apart named x refusal.NotReport p q = q
  holds_apart named x refusal.NotLog p q = q
  holds_apart named x (refusal.NoFaultAt number) p q = q
  holds_apart named x refusal.StilDoesNotFit p q = q

  first_once : (named : List HoldItem) (i j : ℕ) → IsFirstUnknown n named i → IsFirstUnknown n named j → i ≡ j
  first_once named i j p q = elim (cases_order i j) [
    | inl same ↦ same
    | inr o ↦ elim o [
      | inl less ↦ let w = q.before i p.hold less p.at in absurd (p.unknown w.0 w.1)
      | inr more ↦ let w = p.before j q.hold more q.at in absurd (q.unknown w.0 w.1)
    ]
  ]

  refusals_once : (named : List HoldItem) (r s : Refusal) → named_holds n named (Err r) → named_holds n named (Err s) → r ≡ s
  refusals_once named (refusal.NoSuchInput i) (refusal.NoSuchInput j) p q = ap (λ k. refusal.NoSuchInput k) (first_once named i j p q)
  refusals_once named (refusal.NoSuchInput i) (refusal.Netlist s) p q = absurd q
  refusals_once named (refusal.NoSuchInput i) (refusal.Order s) p q = absurd q
  refusals_once named (refusal.NoSuchInput i) refusal.NoSuchFault p q = absurd q
  refusals_once named (refusal.NoSuchInput i) refusal.NotStil p q = absurd q
  refusals_once named (refusal.NoSuchInput i) refusal.NotCertificate p q = absurd q
  refusals_once named (refusal.NoSuchInput i) refusal.NotReport p q = absurd q
  refusals_once named (refusal.NoSuchInput i) refusal.NotLog p q = absurd q
  refusals_once named (refusal.NoSuchInput i) (refusal.NoFaultAt number) p q = absurd q
  refusals_once named (refusal.NoSuchInput i) refusal.StilDoesNotFit p q = absurd q
  refusals_once named (refusal.Netlist r) s p q = absurd p
  refusals_once named (refusal.Order r) s p q = absurd p
  refusals_once named refusal.NoSuchFault s p q = absurd p
  refusals_once named refusal.NotStil s p q = absurd p
  refusals_once named refusal.NotCertificate s p q = absurd p
  refusals_once named refusal.NotReport s p q = absurd p
  refusals_once named refusal.NotLog s p q = absurd p
  refusals_once named (refusal.NoFaultAt number) s p q = absurd p
  refusals_once named refusal.StilDoesNotFit s p q = absurd p

  -- the step answers one thing alone
  pub holds_single : (named : List HoldItem) → IsSingle (named_holds n named)
  holds_single named = record {
    value = λ x y p q. held_once named (none_held n) x y p q;
    refusal = refusals_once named;
    apart = holds_apart named;
  }

-- one name more
pub held_more : (n : Netlist) (named : List HoldItem) (h : HoldItem) (holds x : Holds) (k : ℕ) → AreHeldFrom n holds named x → IsInputAt n k h.0
    → AreHeldFrom n holds (named ++ h ∷ []) (set x k (Some h.1))
held_more n [] h holds x k p at = (k, at, ap (λ (xs : Holds). set xs k (Some h.1)) p)
held_more n (g ∷ named) h holds x k p at = (p.0, p.1, held_more n named h (set holds p.0 (Some g.1)) x k p.2 at)

-- one more of a list of the names that a request holds
pub held_next : (n : Netlist) (named : List Held) (j : ℕ) (d : Held) (holds x : Holds) (k : ℕ) → j < length named → AreHeldFrom n holds (map hold_of (take j named)) x
    → IsInputAt n k (get_or named j d).name.now → AreHeldFrom n holds (map hold_of (take (j + 1) named)) (set x k (Some (get_or named j d).bit))
held_next n named j d holds x k lt so_far at =
    let one = held_more n (map hold_of (take j named)) (hold_of (get_or named j d)) holds x k so_far at in
    subst (λ (hs : List HoldItem). AreHeldFrom n holds hs (set x k (Some (get_or named j d).bit))) (sym (ap (λ (i : ℕ). map hold_of (take i named)) (add-one j) ∙ (ap (map hold_of) (take-suc named j d lt) ∙ map-append hold_of (take j named) (get_or named j d ∷ [])))) one

not_below_zero : (i : ℕ) → i < 0 → ⊥
not_below_zero i lt = omega (arith, lt)

slice_get_take : {X : Type 0} (xs : List X) (j i : ℕ) → i < j → slice_get (take j xs) i ≡ slice_get xs i
slice_get_take [] zero i lt = absurd (not_below_zero i lt)
slice_get_take [] (suc j) i lt = refl
slice_get_take (x ∷ xs) zero i lt = absurd (not_below_zero i lt)
slice_get_take (x ∷ xs) (suc j) zero lt = refl
slice_get_take (x ∷ xs) (suc j) (suc i) lt = slice_get_take xs j i (omega (arith, lt))

-- the first name that none of the inputs has
pub unknown_here : (n : Netlist) (named : List Held) (j : ℕ) (d : Held) (x : Holds) → j < length named → AreHeldFrom n (none_held n) (map hold_of (take j named)) x
    → ((k : ℕ) → ¬ IsInputAt n k (get_or named j d).name.now) → IsFirstUnknown n (map hold_of named) j
unknown_here n named j d x lt so_far none = record {
  hold = hold_of (get_or named j d);
  at = get_map hold_of named j (get_or named j d) (slice_get-get_or named j d lt);
  unknown = none;
  before = λ i h less at. let m = got_map hold_of named i h at in
      let here = get_map hold_of (take j named) i m.0 (slice_get_take named j i less ∙ m.1) ∙ ap (λ (g : HoldItem). Some g) m.2 in
      all_inputs n (map hold_of (take j named)) (none_held n) x so_far i h here;
}

-- as many as there were
pub held_length : (n : Netlist) (named : List HoldItem) (holds x : Holds) → AreHeldFrom n holds named x → length x ≡ length holds
held_length n [] holds x p = ap length p
held_length n (h ∷ named) holds x p = held_length n named (set holds p.0 (Some h.1)) x p.2 ∙ length-set holds p.0 (Some h.1)
