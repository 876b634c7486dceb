-- Held inputs, looked at one after the other.
use Rattle.std.proofs.Common.{◌≡◌, ◌<◌, ◌≤◌, ℕ, zero, suc, ◌+◌, ◌*◌, inl, inr, Bool, true, false, MatchBool, List, [], ◌∷◌, ◌++◌, length, map, get_or, take, drop, Option, Some, None, refl, sym, ◌∙◌, ap, subst, arith}
use Rattle.std.specs.List.{All, slice_get}
use Rattle.std.proofs.lemmas.Option.{slice_get_within}
use Rattle.std.proofs.lemmas.Grind.{flat_map-append}
use Rattle.std.proofs.lemmas.List.{append-nil, get_or-map, length-map, take_all}
use Rattle.std.proofs.lemmas.List.Elements.{All-append}
use Rattle.std.proofs.lemmas.Bool.{cases_lt}
use Rattle.netlist.proofs.Lists.{all_left, all_right}
use Rattle.statement.specs.Patterns.{Holds, Obeys}
use Rattle.statement.specs.Runs.{Cycle, numbers_from}
use Rattle.scan_insert.proofs.Numbers.{get_or-numbers_from, length-numbers_from}
use Rattle.scan_play.specs.Bursts.{all_cycles, cycle_of, cycles_of}
use Rattle.scan_play.specs.declared.cycles.Burst.{Burst}
use Rattle.known_tests.specs.inner.Holding.{IsDriven}
use Rattle.known_tests.proofs.KnownParts.{more_taken}

some_same : {X : Type 0} (x y : X) → Some x ≡ Some y → x ≡ y
some_same x y e = cc

module _ (held : Holds) (inputs : List Bool) where
  -- the first of them have their bits
  abbrev pub ObeysBelow : ℕ → Type 0
  ObeysBelow k = (j : ℕ) (b : Bool) → j < k → slice_get held j ≡ Some (Some b) → slice_get inputs j ≡ Some b

  pub obeyed_more : (k : ℕ) (hold bit : Option Bool) → slice_get held k ≡ Some hold → bit ≡ slice_get inputs k → IsDriven hold bit → ObeysBelow k → ObeysBelow (k + 1)
  obeyed_more k hold bit at is driven below j b l here = elim (cases_lt j k) [
    | inl less ↦ below j b less here
    | inr more ↦
        let same : j ≡ k = omega (arith, l, more) in
        let held_so : hold ≡ Some b = some_same hold (Some b) (sym at ∙ (ap (slice_get held) (sym same) ∙ here)) in
        let own : bit ≡ Some b = subst (λ (h : Option Bool). IsDriven h bit) held_so driven in
        ap (slice_get inputs) same ∙ (sym is ∙ own)
  ]

  pub obeyed_all : (k : ℕ) → length held ≤ k → ObeysBelow k → Obeys held inputs
  obeyed_all k all below j b here = let within = slice_get_within held j (Some b) here in below j b (omega (arith, all, within)) here

  pub not_obeyed : (k : ℕ) (hold bit : Option Bool) → slice_get held k ≡ Some hold → bit ≡ slice_get inputs k → ¬ IsDriven hold bit → ¬ Obeys held inputs
  not_obeyed k None bit at is none obeys = none tt
  not_obeyed k (Some b) bit at is none obeys = none (is ∙ obeys k b at)

-- ---- where all held inputs are among the first

front_get : (drive more : List Bool) (k : ℕ) → k < length drive → slice_get (drive ++ more) k ≡ slice_get drive k
front_get [] more k l = absurd (omega (arith, l))
front_get (d ∷ ds) more zero l = refl
front_get (d ∷ ds) more (suc k) l = front_get ds more k (omega (arith, l))

pub front_alone : (held : Holds) (drive more others : List Bool) → length held ≤ length drive → Obeys held (drive ++ more) → Obeys held (drive ++ others)
front_alone held drive more others few obeys k b at =
    let within = slice_get_within held k (Some b) at in
    let inside : k < length drive = omega (arith, few, within) in
    front_get drive others k inside ∙ (sym (front_get drive more k inside) ∙ obeys k b at)

-- ---- cycles of a burst

module _ {X : Type 0} (P : X → Type 0) (f : ℕ → X) (count : ℕ) where
  size_is : length (map f (numbers_from 0 count)) ≡ count
  size_is = length-map (numbers_from 0 count) f ∙ length-numbers_from 0 count

  at_is : (t : ℕ) (d : X) → t < count → get_or (map f (numbers_from 0 count)) t d ≡ f t
  at_is t d l =
      let size = length-numbers_from 0 count in
      let number : get_or (numbers_from 0 count) t 0 ≡ 0 + t = get_or-numbers_from 0 count t 0 l in
      let same : 0 + t ≡ t = omega arith in
      get_or-map f (numbers_from 0 count) t 0 d (omega (arith, l, size)) ∙ ap f (number ∙ same)

  pub each_is : ((t : ℕ) → t < count → P (f t)) → All P (map f (numbers_from 0 count))
  each_is all k d l =
      let size = size_is in
      let within : k < count = omega (arith, l, size) in
      subst P (sym (at_is k d within)) (all k within)

  pub is_at : All P (map f (numbers_from 0 count)) → (t : ℕ) → t < count → P (f t)
  is_at all t l =
      let size = size_is in
      subst P (at_is t (f t) l) (all t (f t) (omega (arith, l, size)))

-- a burst whose held inputs are among those that keep their bits
module _ (held : Holds) (burst : Burst) (few : length held ≤ length burst.drive.items) (some : 0 < burst.count) where
  abbrev ObeysAll : Type 0
  ObeysAll = All (λ (cycle : Cycle). Obeys held cycle.drive) (cycles_of burst)

  pub burst_alone : (drive : List Bool) (told : Bool) → drive ≡ burst.drive.items → MatchBool told (Obeys held (drive ++ [])) (¬ Obeys held (drive ++ [])) → MatchBool told ObeysAll (¬ ObeysAll)
  burst_alone drive true is obeys =
      each_is (λ (cycle : Cycle). Obeys held cycle.drive) (cycle_of burst) burst.count
      (λ t l. front_alone held burst.drive.items [] (take burst.width (drop (t * burst.width) burst.ins.items)) few (subst (λ (d : List Bool). Obeys held (d ++ [])) is obeys))
  burst_alone drive false is none = λ all.
      none (subst (λ (d : List Bool). Obeys held (d ++ [])) (sym is)
      (front_alone held burst.drive.items (take burst.width (drop (0 * burst.width) burst.ins.items)) [] few
      (is_at (λ (cycle : Cycle). Obeys held cycle.drive) (cycle_of burst) burst.count all 0 some)))

-- ---- bursts

pub all_more : (P : Cycle → Type 0) (bursts : List Burst) (k : ℕ) (b : Burst) → slice_get bursts k ≡ Some b → All P (all_cycles (take k bursts)) → All P (cycles_of b)
    → All P (all_cycles (take (k + 1) bursts))
all_more P bursts k b at before here =
    subst (λ (bs : List Burst). All P (all_cycles bs)) (sym (more_taken bursts k b at))
    (subst (All P) (sym (flat_map-append cycles_of (take k bursts) (b ∷ []))) (All-append P (all_cycles (take k bursts)) (all_cycles (b ∷ [])) before
    (subst (All P) (sym (append-nil (cycles_of b))) here)))

pub all_ended : (P : Cycle → Type 0) (bursts : List Burst) (k : ℕ) → length bursts ≤ k → All P (all_cycles (take k bursts)) → All P (all_cycles bursts)
all_ended P bursts k past all = subst (λ (bs : List Burst). All P (all_cycles bs)) (take_all k bursts past) all

pub not_all : (P : Cycle → Type 0) (bursts : List Burst) (k : ℕ) (b : Burst) → slice_get bursts k ≡ Some b → ¬ All P (cycles_of b) → ¬ All P (all_cycles bursts)
not_all P [] k b at none all = cc
not_all P (a ∷ bs) zero b at none all =
    let same : a ≡ b = cc in
    none (subst (λ (x : Burst). All P (cycles_of x)) same (all_left P (cycles_of a) (all_cycles bs) all))
not_all P (a ∷ bs) (suc k) b at none all = not_all P bs k b at none (all_right P (cycles_of a) (all_cycles bs) all)
