-- A chain without a stuck line hands on, shift by shift, what is fed to it.
use Rattle.std.proofs.Common.{◌≡◌, ℕ, suc, zero, ◌+◌, ◌-◌, ◌<◌, ◌≤◌, Bool, true, false, List, [], ◌∷◌, ◌++◌, map, length, get_or, take, Some, slice_get, refl, sym, ◌∙◌, ap, subst, arith}
use Rattle.std.specs.List.{All}
use Rattle.std.proofs.lemmas.List.{length-map, get_or-append_right, get_or-map}
use Rattle.std.proofs.lemmas.List.Elements.{All-head, All-tail}
use Rattle.statement.specs.declared.lines.Fault.{Fault}
use Rattle.statement.specs.Netlists.{Netlist}
use Rattle.statement.specs.Patterns.{Holds}
use Rattle.netlist.specs.Holds.{AreHoldsOf}
use Rattle.netlist.specs.Conditions.{IsSound}
use Rattle.statement.specs.Values.{Table, next}
use Rattle.statement.specs.Tests.{cells_of, held_or_zero}
use Rattle.scan_insert.specs.Laws.{Multiplexes}
use Rattle.scan_insert.specs.Scan.{Naming}
use Rattle.scan_insert.specs.Scanned.{AreChainsOf, first_scan_out, naming_of, scanned_of}
use Rattle.statement.specs.Runs.{Cycle, Runs, shown_at}
use Rattle.scan_play.specs.Shifts.{idle_inputs}
use Rattle.scan_play.proofs.Places.{below_of}
use Rattle.chain_test.proofs.ApartChains.{IsClear}
use Rattle.chain_test.proofs.Filling.{length-stuck_shift, lasts_at, piece, shift_at}
use Rattle.chain_test.proofs.StuckChains.{stuck_lasts, stuck_shift}
use Rattle.chain_test.proofs.StuckPath.{IsOffOthers}
use Rattle.chain_test.proofs.StuckTicks.{IsShift, shift_tick, shown_last}

-- ---- what a chain's cells hold

module _ {V : Type 0} (known : Bool → V) (blank : V) (g : Fault) (s : Naming) where
  -- its first cells hold what was fed last, the latest first
  pub IsFed : List (List ℕ) → ℕ → List ℕ → List V → List V → Type 0
  IsFed chains c own past state = (k : ℕ) → k < length past → k < length own → get_or (piece chains c state) k blank ≡ get_or past k blank

  pub nothing_fed : (chains : List (List ℕ)) (c : ℕ) (own : List ℕ) (state : List V) → IsFed chains c own [] state
  unfolding IsFed
  nothing_fed chains c own state = λ k l m. absurd (omega arith)

  module _ (chains : List (List ℕ)) (input output c : ℕ) (own : List ℕ) (e : slice_get chains c ≡ Some own) (clear : IsClear known g s (input + c) (output + c) own) where
    pub one_more_fed : (past ins state : List V) → length ins ≡ length chains → length state ≡ length (cells_of chains) → IsFed chains c own past state
        → IsFed chains c own (get_or ins c blank ∷ past) (stuck_shift known g s input chains ins state)
    unfolding IsFed
    one_more_fed past ins state size count fed = at
      where
        at : (k : ℕ) → k < length (get_or ins c blank ∷ past) → k < length own → get_or (piece chains c (stuck_shift known g s input chains ins state)) k blank ≡ get_or (get_or ins c blank ∷ past) k blank
        at zero l m = shift_at known blank g s chains input ins state c zero own e m size count ∙ clear.takes zero m (get_or ins c blank)
        at (suc k) l m =
            shift_at known blank g s chains input ins state c (suc k) own e m size count
            ∙ (clear.takes (suc k) m (get_or (piece chains c state) k blank) ∙ fed k (omega arith) (omega arith))

    pub fed_through : (past state : List V) → 0 < length own → length own ≤ length past → IsFed chains c own past state
        → get_or (stuck_lasts known blank g s output chains state) c blank ≡ get_or past (length own - 1) blank
    unfolding IsFed
    fed_through past state some long fed =
        lasts_at known blank g s chains output state c own e some
        ∙ (clear.shows (get_or (piece chains c state) (length own - 1) blank) ∙ fed (length own - 1) (omega arith) (omega arith))

-- ---- what is fed to a chain

-- the value that a cycle drives at an input
abbrev pub driven : {V : Type 0} → (Bool → V) → ℕ → Cycle → V
driven known i x = known (get_or x.drive i false)

-- what was fed before, and then in these cycles, the latest first
pub trail : {V : Type 0} → (Cycle → V) → List Cycle → List V → List V
trail f [] past = past
trail f (x ∷ xs) past = trail f xs (f x ∷ past)

trail_past : {V : Type 0} (f : Cycle → V) (blank : V) (xs : List Cycle) (past : List V) (k : ℕ) → get_or (trail f xs past) (length xs + k) blank ≡ get_or past k blank
unfolding trail
trail_past f blank [] past k = ap (λ i. get_or past i blank) (omega arith)
trail_past f blank (x ∷ xs) past k =
    let next : suc (length xs) + k ≡ length xs + suc k = omega arith in
    ap (λ i. get_or (trail f xs (f x ∷ past)) i blank) next ∙ trail_past f blank xs (f x ∷ past) (suc k)

trail_at : {V : Type 0} (f : Cycle → V) (blank : V) (xs : List Cycle) (past : List V) (i k : ℕ) → i < length xs → k ≡ length xs - 1 - i → get_or (trail f xs past) k blank ≡ get_or (map f xs) i blank
unfolding trail
trail_at f blank [] past i k l e = absurd (omega arith)
trail_at f blank (x ∷ xs) past zero k l e =
    let here : k ≡ length xs + 0 = omega (arith, e) in
    ap (λ j. get_or (trail f xs (f x ∷ past)) j blank) here ∙ trail_past f blank xs (f x ∷ past) 0
trail_at f blank (x ∷ xs) past (suc i) k l e = trail_at f blank xs (f x ∷ past) i k (omega arith) (omega (arith, e))

taken_map : {V : Type 0} (f : Cycle → V) (blank : V) (t i : ℕ) (xs : List Cycle) → i < t → get_or (map f (take t xs)) i blank ≡ get_or (map f xs) i blank
taken_map f blank zero i xs l = absurd (omega arith)
taken_map f blank (suc t) i [] l = refl
taken_map f blank (suc t) zero (x ∷ xs) l = refl
taken_map f blank (suc t) (suc i) (x ∷ xs) l = taken_map f blank t i xs (omega arith)

length-taken : (t : ℕ) (xs : List Cycle) → t < length xs → length (take t xs) ≡ t
length-taken zero xs l = refl
length-taken (suc t) [] l = absurd (omega arith)
length-taken (suc t) (x ∷ xs) l = ap suc (length-taken t xs (omega arith))

module _ {V : Type 0} (table : Table V) (multiplexes : Multiplexes table) (blank : V) (n : Netlist) (sound : IsSound n) (chain : List ℕ) (rest : List (List ℕ)) (are : AreChainsOf n (chain ∷ rest))
    (holds : Holds) (fit : AreHoldsOf n holds) (g : Fault) (off : IsOffOthers (naming_of n (chain ∷ rest)) n g.line) (c : ℕ) (own : List ℕ) (e : slice_get (chain ∷ rest) c ≡ Some own)
    (some : 0 < length own) (clear : IsClear table.known g (naming_of n (chain ∷ rest)) (length n.inputs + 1 + c) (first_scan_out n (length (chain ∷ rest)) + c) own) where
  -- what a cycle feeds to the chain
  feeds : Cycle → V
  feeds x = driven table.known (length n.inputs + 1 + c) x

  feeds_is : (x : Cycle) (w : IsShift holds (chain ∷ rest) x) → get_or (map table.known w.ins) c blank ≡ driven table.known (length n.inputs + 1 + c) x
  feeds_is x w =
      let idle = idle_inputs holds in
      let wide : length idle ≡ length n.inputs = length-map holds held_or_zero ∙ fit in
      let below = below_of (chain ∷ rest) c own e in
      let here : length n.inputs + 1 + c - length n.inputs ≡ suc c = omega arith in
      get_or-map table.known w.ins c false blank (omega (arith, w.many))
      ∙ ap table.known (sym (ap (λ (d : List Bool). get_or d (length n.inputs + 1 + c) false) w.drive
      ∙ (get_or-append_right idle (true ∷ w.ins) (length n.inputs) (length n.inputs + 1 + c) false wide (omega arith)
      ∙ ap (λ k. get_or (true ∷ w.ins) k false) here)))

  follows : (front cycles : List Cycle) → All (IsShift holds (chain ∷ rest)) front → (past state : List V) → length state ≡ length (cells_of (chain ∷ rest))
      → IsFed table.known blank g (naming_of n (chain ∷ rest)) (chain ∷ rest) c own past state
      → (shown : List (List V)) → Runs table (Some g) (scanned_of n (chain ∷ rest)) state (front ++ cycles) shown
      → (t : ℕ) → t < length front → length own ≤ length past + t
      → shown_at shown t (length n.outputs + c) ≡ Some (get_or (trail (driven table.known (length n.inputs + 1 + c)) (take t front) past) (length own - 1) blank)
  unfolding trail
  follows [] cycles shifts past state size fed shown run t l long = absurd (omega (arith, l))
  follows (x ∷ front) cycles shifts past state size fed [] run t l long = absurd run
  follows (x ∷ front) cycles shifts past state size fed (row ∷ rows) run zero l long =
      let s = naming_of n (chain ∷ rest) in
      let chains : List (List ℕ) = chain ∷ rest in
      let w = All-head (IsShift holds chains) x front shifts in
      shown_last table multiplexes blank n sound chain rest are holds fit g off c own e w.ins state row run.0 (shift_tick table multiplexes blank n sound chain rest are holds fit g off x w state row run.0 run.1)
      ∙ ap (λ v. Some v) (fed_through table.known blank g s chains (length n.inputs + 1) (first_scan_out n (length chains)) c own e clear past state some (omega arith) fed)
  follows (x ∷ front) cycles shifts past state size fed (row ∷ rows) run (suc t) l long =
      let s = naming_of n (chain ∷ rest) in
      let chains : List (List ℕ) = chain ∷ rest in
      let w = All-head (IsShift holds chains) x front shifts in
      let ins : List V = map table.known w.ins in
      let many : length ins ≡ length chains = length-map w.ins table.known ∙ w.many in
      let moved = stuck_shift table.known g s (length n.inputs + 1) chains ins state in
      let after : run.0 ≡ moved = (shift_tick table multiplexes blank n sound chain rest are holds fit g off x w state row run.0 run.1).after_is in
      let more = one_more_fed table.known blank g s chains (length n.inputs + 1) (first_scan_out n (length chains)) c own e clear past ins state many size fed in
      follows front cycles (All-tail (IsShift holds chains) x front shifts) (driven table.known (length n.inputs + 1 + c) x ∷ past) moved
      (length-stuck_shift table.known blank g s chains (length n.inputs + 1) ins state many size)
      (subst (λ v. IsFed table.known blank g s chains c own (v ∷ past) moved) (feeds_is x w) more)
      rows (subst (λ (y : List V). Runs table (Some g) (scanned_of n chains) y (front ++ cycles) rows) after run.2) t (omega (arith, l)) (omega arith)

  -- what the scan output shows is what was fed as many cycles before as the chain has cells
  pub hands_on : (front cycles : List Cycle) → All (IsShift holds (chain ∷ rest)) front → (state : List V) → length state ≡ length (cells_of (chain ∷ rest))
      → (shown : List (List V)) → Runs table (Some g) (scanned_of n (chain ∷ rest)) state (front ++ cycles) shown
      → (t : ℕ) → t < length front → length own ≤ t
      → shown_at shown t (length n.outputs + c) ≡ Some (get_or (map (driven table.known (length n.inputs + 1 + c)) front) (t - length own) blank)
  hands_on front cycles shifts state size shown run t l long =
      let f = driven table.known (length n.inputs + 1 + c) in
      let taken = length-taken t front l in
      follows front cycles shifts [] state size (nothing_fed table.known blank g (naming_of n (chain ∷ rest)) (chain ∷ rest) c own state) shown run t l (omega arith)
      ∙ ap (λ v. Some v) (trail_at f blank (take t front) [] (t - length own) (length own - 1) (omega arith) (omega (arith, some, long, taken)) ∙ taken_map f blank t (t - length own) front (omega (arith, some)))
