-- Runs: there is one from each state, it is the only one, and three values allow bits.
use Rattle.std.proofs.Common.{◌≡◌, ℕ, suc, zero, ◌⊎◌, Bool, true, false, not, cond, List, [], ◌∷◌, map, length, get_or, replicate, Option, Some, slice_get, IsTrue, refl, sym, ◌∙◌, ap, subst, inl, inr, arith}
use Rattle.std.specs.Bool.{Decides}
use Rattle.std.specs.List.{All, AllZip}
use Rattle.std.proofs.lemmas.List.{length-map}
use Rattle.std.proofs.lemmas.List.Elements.{All-head, All-tail}
use Rattle.statement.specs.declared.kinds.Tri.{Tri}
use Rattle.statement.specs.declared.kinds.Tri.TheVariants.{X}
use Rattle.statement.specs.declared.lines.Fault.{Fault}
use Rattle.statement.specs.Netlists.{Netlist, cells}
use Rattle.netlist.specs.Netlist.{IsAcyclic}
use Rattle.netlist.specs.Conditions.{IsClosed, IsNumbered}
use Rattle.statement.specs.Values.{Rule, Table, bit_table, bits, with_fault, outs, next, known, allows}
use Rattle.netlist.proofs.Alike.{outs_alike, next_alike, keeps_same}
use Rattle.netlist.proofs.SomeSettled.{some_settled}
use Rattle.netlist.proofs.WellFormed.{one_pin}
use Rattle.netlist.specs.ThreeValues.{AreAllowed}
use Rattle.tri.specs.Settled.{tri_table, tris}
use Rattle.tri.proofs.AboveBits.{keeps_allowed}
use Rattle.tri.proofs.Choices.{no, known_allows_itself}
use Rattle.statement.specs.Runs.{Cycle, Ticks, Runs, shown_at}
use Rattle.scan_play.specs.Cycles.{IsCycleOf}
use Rattle.scan_play.specs.Playing.{IsStrobeMet}
use Rattle.scan_play.specs.Laws.{PlayTells}
use Rattle.scan_play.proofs.Shifting.{zip_length}
use Rattle.scan_play.proofs.Applied.{length-pins}

pub next_length : {V : Type 0} (rule : Rule V) (n : Netlist) (a : ℕ → V) → IsClosed n → length (next rule n a) ≡ length (cells n)
next_length rule n a closed = length-pins rule a (cells n) (one_pin n closed)

pub cond_length : {V : Type 0} (b : Bool) (xs ys : List V) (k : ℕ) → length xs ≡ k → length ys ≡ k → length (cond b xs ys) ≡ k
cond_length true xs ys k e h = e
cond_length false xs ys k e h = h

pub some_run : {V : Type 0} (blank : V) (table : Table V) (f : Option Fault) (n : Netlist) (state : List V) (cycles : List Cycle)
    → IsNumbered n → IsClosed n → IsAcyclic n → length state ≡ length (cells n) → All (IsCycleOf n) cycles → (shown : List (List V)) × Runs table f n state cycles shown
some_run blank table f n state [] numbered closed acyclic size fit = ([], tt)
some_run blank table f n state (c ∷ cs) numbered closed acyclic size fit =
    let own = All-head (IsCycleOf n) c cs fit in
    let rule = with_fault table f in
    let a = some_settled blank rule n (map table.known c.drive) state numbered closed acyclic (length-map c.drive table.known ∙ own.drive) size in
    let after = cond c.pulse (next rule n a.0) state in
    let rest = some_run blank table f n after cs numbered closed acyclic (cond_length c.pulse (next rule n a.0) state (length (cells n)) (next_length rule n a.0 closed) size)
    (All-tail (IsCycleOf n) c cs fit) in
    (outs rule n a.0 ∷ rest.0, (after, record { values = a.0; settles = a.1; shows = refl; keeps = refl }, rest.1))

-- ---- one run

zip_refl : {V : Type 0} (same : V → V → Bool) → ((x : V) → same x x ≡ true) → (vs : List V) → AllZip (λ v w. same v w ≡ true) vs vs
zip_refl same r [] = tt
zip_refl same r (v ∷ vs) = (r v, zip_refl same r vs)

zip_equal : {V : Type 0} (same : V → V → Bool) → ((x y : V) → same x y ≡ true → x ≡ y) → (vs ws : List V) → AllZip (λ v w. same v w ≡ true) vs ws → vs ≡ ws
zip_equal same r [] [] h = refl
zip_equal same r [] (w ∷ ws) h = absurd h
zip_equal same r (v ∷ vs) [] h = absurd h
zip_equal same r (v ∷ vs) (w ∷ ws) h = ap (λ u. u ∷ vs) (r v w h.0) ∙ ap (λ us. w ∷ us) (zip_equal same r vs ws h.1)

module _ {V : Type 0} (same : V → V → Bool) (decides : (x y : V) → Decides (same x y) (x ≡ y)) (table : Table V) (f : Option Fault) (n : Netlist) (closed : IsClosed n) (acyclic : IsAcyclic n) where
  pub one_tick : (state : List V) (cycle : Cycle) (shown shown' after after' : List V) → Ticks table f n state cycle shown after → Ticks table f n state cycle shown' after'
      → (shown ≡ shown') × (after ≡ after')
  one_tick state cycle shown shown' after after' t u =
      let rule = with_fault table f in
      let keeps = keeps_same same decides rule n in
      let self : (vs : List V) → AllZip (λ v w. same v w ≡ true) vs vs = zip_refl same (λ x. (decides x x).1 refl) in
      let equal : (vs ws : List V) → AllZip (λ v w. same v w ≡ true) vs ws → vs ≡ ws = zip_equal same (λ x y. (decides x y).0) in
      let ins = map table.known cycle.drive in
      let o = equal (outs rule n t.values) (outs rule n u.values)
      (outs_alike same rule rule n keeps closed acyclic ins state ins state t.values u.values (self ins) (self state) t.settles u.settles) in
      let x = equal (next rule n t.values) (next rule n u.values)
      (next_alike same rule rule n keeps closed acyclic ins state ins state t.values u.values (self ins) (self state) t.settles u.settles) in
      (t.shows ∙ (o ∙ sym u.shows), t.keeps ∙ (ap (λ y. cond cycle.pulse y state) x ∙ sym u.keeps))

  pub runs_once : (state : List V) (cycles : List Cycle) (shown shown' : List (List V)) → Runs table f n state cycles shown → Runs table f n state cycles shown' → shown ≡ shown'
  runs_once state [] [] [] p q = refl
  runs_once state [] [] (y ∷ ys) p q = absurd q
  runs_once state [] (x ∷ xs) shown' p q = absurd p
  runs_once state (c ∷ cs) [] shown' p q = absurd p
  runs_once state (c ∷ cs) (x ∷ xs) [] p q = absurd q
  runs_once state (c ∷ cs) (x ∷ xs) (y ∷ ys) p q =
      let one = one_tick state c x y p.0 q.0 p.1 q.1 in
      ap (λ z. z ∷ xs) one.0 ∙ ap (λ zs. y ∷ zs) (runs_once q.0 cs xs ys (subst (λ s. Runs table f n s cs xs) one.1 p.2) q.2)

-- ---- three values above bits

drive_allowed : (bs : List Bool) → AreAllowed (map known bs) (map (λ b. b) bs)
drive_allowed [] = tt
drive_allowed (b ∷ bs) = (known_allows_itself b, drive_allowed bs)

cond_allowed : (b : Bool) (vs ws : List Tri) (cs ds : List Bool) → AreAllowed vs cs → AreAllowed ws ds → AreAllowed (cond b vs ws) (cond b cs ds)
cond_allowed true vs ws cs ds h k = h
cond_allowed false vs ws cs ds h k = k

module _ (f : Option Fault) (n : Netlist) (closed : IsClosed n) (acyclic : IsAcyclic n) where
  tick_allowed : (state : List Tri) (bit_state : List Bool) (cycle : Cycle) (shown after : List Tri) (bit_shown bit_after : List Bool) → AreAllowed state bit_state
      → Ticks tri_table f n state cycle shown after → Ticks bit_table f n bit_state cycle bit_shown bit_after → AreAllowed shown bit_shown × AreAllowed after bit_after
  tick_allowed state bit_state cycle shown after bit_shown bit_after h t u =
      let ins = map known cycle.drive in
      let bit_ins = map (λ b. b) cycle.drive in
      let keeps = keeps_allowed f n in
      let o : AreAllowed (outs (tris f) n t.values) (outs (bits f) n u.values) =
      outs_alike allows (tris f) (bits f) n keeps closed acyclic ins state bit_ins bit_state t.values u.values (drive_allowed cycle.drive) h t.settles u.settles in
      let x : AreAllowed (next (tris f) n t.values) (next (bits f) n u.values) =
      next_alike allows (tris f) (bits f) n keeps closed acyclic ins state bit_ins bit_state t.values u.values (drive_allowed cycle.drive) h t.settles u.settles in (
        subst (λ (vs : List Tri). AreAllowed vs bit_shown) (sym t.shows) (subst (λ (bs : List Bool). AreAllowed (outs (tris f) n t.values) bs) (sym u.shows) o),
        subst (λ (vs : List Tri). AreAllowed vs bit_after) (sym t.keeps)
            (subst (λ (bs : List Bool). AreAllowed (cond cycle.pulse (next (tris f) n t.values) state) bs) (sym u.keeps)
            (cond_allowed cycle.pulse (next (tris f) n t.values) state (next (bits f) n u.values) bit_state x h)),
      )

  pub runs_allowed : (state : List Tri) (bit_state : List Bool) (cycles : List Cycle) (shown : List (List Tri)) (bit_shown : List (List Bool)) → AreAllowed state bit_state
      → Runs tri_table f n state cycles shown → Runs bit_table f n bit_state cycles bit_shown → AllZip AreAllowed shown bit_shown
  runs_allowed state bit_state [] [] [] h p q = tt
  runs_allowed state bit_state [] [] (y ∷ ys) h p q = absurd q
  runs_allowed state bit_state [] (x ∷ xs) bit_shown h p q = absurd p
  runs_allowed state bit_state (c ∷ cs) [] bit_shown h p q = absurd p
  runs_allowed state bit_state (c ∷ cs) (x ∷ xs) [] h p q = absurd q
  runs_allowed state bit_state (c ∷ cs) (x ∷ xs) (y ∷ ys) h p q =
      let r = tick_allowed state bit_state c x p.0 y q.0 h p.1 q.1 in
      (r.0, runs_allowed p.0 q.0 cs xs ys r.1 p.2 q.2)

-- ---- what the player answers

pub xs_allow : (bs : List Bool) (k : ℕ) → length bs ≡ k → AreAllowed (replicate k X) bs
xs_allow [] zero e = tt
xs_allow [] (suc k) e = absurd (omega (arith, e))
xs_allow (b ∷ bs) zero e = absurd (omega (arith, e))
xs_allow (b ∷ bs) (suc k) e = (refl, xs_allow bs k (omega (arith, e)))

row_met : (ss vs : List Tri) (bs : List Bool) → length ss ≡ length vs → ((o : ℕ) → (get_or ss o X ≡ X) ⊎ (slice_get vs o ≡ Some (get_or ss o X))) → AreAllowed vs bs → AreAllowed ss bs
row_met [] [] bs e h k = k
row_met [] (v ∷ vs) bs e h k = absurd (omega (arith, e))
row_met (s ∷ ss) [] bs e h k = absurd (omega (arith, e))
row_met (s ∷ ss) (v ∷ vs) [] e h k = absurd k
row_met (s ∷ ss) (v ∷ vs) (b ∷ bs) e h k =
    let here : IsTrue (allows s b) = elim (h 0) [
      | inl x ↦ subst (λ (t : Tri). IsTrue (allows t b)) (sym x) refl
      | inr x ↦ subst (λ (t : Tri). IsTrue (allows t b)) (some_same v s x) k.0
    ] in
    (here, row_met ss vs bs (omega (arith, e)) (λ o. h (suc o)) k.1)
  where
    some_same : (x y : Tri) → Some x ≡ Some y → x ≡ y
    some_same x y e = cc

pub run_row_length : (f : Option Fault) (n : Netlist) (state : List Tri) (c : Cycle) (row after : List Tri) → Ticks tri_table f n state c row after → length row ≡ length n.outputs
run_row_length f n state c row after t = ap length t.shows ∙ length-map n.outputs _

all_met : (f : Option Fault) (n : Netlist) (state : List Tri) (cycles : List Cycle) (shown : List (List Tri)) (bit_shown : List (List Bool)) → All (IsCycleOf n) cycles
    → Runs tri_table f n state cycles shown → ((c o : ℕ) → IsStrobeMet cycles shown c o) → AllZip AreAllowed shown bit_shown
    → AllZip (λ (c : Cycle) bs. AreAllowed c.strobe bs) cycles bit_shown
all_met f n state [] [] [] fit run met h = tt
all_met f n state [] [] (b ∷ bs) fit run met h = absurd h
all_met f n state [] (x ∷ xs) bit_shown fit run met h = absurd run
all_met f n state (c ∷ cs) [] bit_shown fit run met h = absurd run
all_met f n state (c ∷ cs) (x ∷ xs) [] fit run met h = absurd h
all_met f n state (c ∷ cs) (x ∷ xs) (b ∷ bs) fit run met h =
    let own = All-head (IsCycleOf n) c cs fit in (
      row_met c.strobe x b (own.strobe ∙ sym (run_row_length f n state c x run.0 run.1)) (met 0) h.0,
      all_met f n run.0 cs xs bs (All-tail (IsCycleOf n) c cs fit) run.2 (λ k o. met (suc k) o) h.1,
    )

pub allowed_bit : (b v : Bool) → IsTrue (allows (known b) v) → v ≡ b
allowed_bit true true h = refl
allowed_bit true false h = no h
allowed_bit false true h = no h
allowed_bit false false h = refl

pub row_bit : (vs : List Tri) (bs : List Bool) (o : ℕ) (b : Bool) → AreAllowed vs bs → slice_get vs o ≡ Some (known b) → slice_get bs o ≡ Some b
row_bit [] bs o b h e = cc
row_bit (v ∷ vs) [] o b h e = absurd h
row_bit (v ∷ vs) (c ∷ cs) zero b h e = ap (λ x. Some x) (allowed_bit b c (subst (λ (t : Tri). IsTrue (allows t c)) (some_same v (known b) e) h.0))
  where
    some_same : (x y : Tri) → Some x ≡ Some y → x ≡ y
    some_same x y e = cc
row_bit (v ∷ vs) (c ∷ cs) (suc o) b h e = row_bit vs cs o b h.1 e

pub bit_at : (shown : List (List Tri)) (bit_shown : List (List Bool)) (c o : ℕ) (b : Bool) → AllZip AreAllowed shown bit_shown → shown_at shown c o ≡ Some (known b) → shown_at bit_shown c o ≡ Some b
bit_at [] bit_shown c o b h e = cc
bit_at (x ∷ xs) [] c o b h e = absurd h
bit_at (x ∷ xs) (y ∷ ys) zero o b h e = row_bit x y o b h.0 e
bit_at (x ∷ xs) (y ∷ ys) (suc c) o b h e = bit_at xs ys c o b h.1 e

-- a run has a bit for each cell, where there is a cycle
pub run_allowed : (f : Option Fault) (n : Netlist) (cycles : List Cycle) (state : List Bool) (shown : List (List Tri)) (bit_shown : List (List Bool)) → IsClosed n → IsAcyclic n
    → Runs tri_table f n (replicate (length (cells n)) X) cycles shown → Runs bit_table f n state cycles bit_shown → AllZip AreAllowed shown bit_shown
run_allowed f n [] state [] [] closed acyclic p q = tt
run_allowed f n [] state [] (y ∷ ys) closed acyclic p q = absurd q
run_allowed f n [] state (x ∷ xs) bit_shown closed acyclic p q = absurd p
run_allowed f n (c ∷ cs) state shown [] closed acyclic p q = absurd q
run_allowed f n (c ∷ cs) state shown (y ∷ ys) closed acyclic p q =
    let size : length state ≡ length (cells n) = sym (zip_length _ (cells n) state q.1.settles.1) in
    runs_allowed f n closed acyclic (replicate (length (cells n)) X) state (c ∷ cs) shown (y ∷ ys) (xs_allow state (length (cells n)) size) p q

pub play_tells : (n : Netlist) (f : Option Fault) (cycles : List Cycle) → IsClosed n → IsAcyclic n → All (IsCycleOf n) cycles → PlayTells n f cycles
play_tells n f cycles closed acyclic fit = record {
  passes = λ played state bit_shown run.
      all_met f n (replicate (length (cells n)) X) cycles played.0 bit_shown fit played.1 played.2 (run_allowed f n cycles state played.0 bit_shown closed acyclic played.1 run);
  fails = λ c o played.
      let at = played.2.1 in (
        at.0,
        at.1,
        λ state bit_shown run. bit_at played.0 bit_shown c o (not at.0) (run_allowed f n cycles state played.0 bit_shown closed acyclic played.1 run) at.2,
      );
}
