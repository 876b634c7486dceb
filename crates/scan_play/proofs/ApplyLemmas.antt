-- The vectors of patterns as they are made.
use Rattle.std.proofs.Common.{◌≡◌, ℕ, ◌+◌, ◌<◌, ◌≤◌, ◌≢◌, Bool, false, true, List, [], ◌∷◌, ◌++◌, map, length, get_or, take, replicate, None, refl, sym, ◌∙◌, ap, arith}
use Rattle.std.proofs.lemmas.List.{append_assoc, append-nil}
use Rattle.std.proofs.lemmas.Grind.{flat_map-append}
use Rattle.statement.specs.declared.kinds.Tri.{Tri}
use Rattle.statement.specs.declared.kinds.Tri.TheVariants.{X}
use Rattle.statement.specs.Netlists.{Netlist, is_cell, cells}
use Rattle.statement.specs.Patterns.{Holds, Pattern}
use Rattle.netlist.specs.Holds.{AreHoldsOf}
use Rattle.netlist.specs.Conditions.{IsSound}
use Rattle.netlist.proofs.Placed.{signals_length}
use Rattle.statement.specs.Values.{known}
use Rattle.statement.specs.Tests.{cells_of, Response, Responds}
use Rattle.scan_insert.proofs.Soundness.{filter_le}
use Rattle.scan_play.specs.declared.cycles.Burst.{Burst}
use Rattle.statement.specs.Runs.{Cycle}
use Rattle.scan_play.specs.Shifts.{load}
use Rattle.scan_play.specs.Vectors.{capture, applied, vectors, AreVectors}
use Rattle.scan_play.specs.Bursts.{cycles_of, all_cycles}
use Rattle.scan_play.specs.inner.Applied.{IsApplied, IsBegun, flushing, plain_cycle}
use Rattle.scan_play.proofs.Applied.{taken_count}
use Rattle.scan_play.proofs.TestLists.{none_applied, one_applied, all_applied}

pub few_cells : (n : Netlist) → IsSound n → length (cells n) ≤ 8000000
few_cells n sound = omega (arith, filter_le is_cell n.definitions, signals_length n, sound.sized.small)

-- ---- a cycle with scan off

cycle_with : Bool → List Bool → List Tri → Cycle
cycle_with pulse drive strobe = record { drive = drive; strobe = strobe; pulse = pulse }

chained : (chains : List (List ℕ)) (inputs : List Bool) (strobes : List Tri) → length chains ≢ 0
    → cycle_with true (inputs ++ false ∷ replicate (length chains) false) (strobes ++ replicate (length chains) X) ≡ plain_cycle chains inputs strobes
unfolding cycle_with
chained [] inputs strobes h = absurd (h refl)
chained (chain ∷ chains) inputs strobes h = refl

unchained : (chains : List (List ℕ)) (inputs : List Bool) (strobes : List Tri) → length chains ≡ 0 → cycle_with false inputs strobes ≡ plain_cycle chains inputs strobes
unfolding cycle_with
unchained [] inputs strobes e = refl
unchained (chain ∷ chains) inputs strobes e = absurd (omega (arith, e))

pub plain_made : (chains : List (List ℕ)) (count done : ℕ) (inputs drive0 drive1 drive : List Bool) (strobe0 strobe : List Tri)
    → count ≡ length chains → count ≢ 0 → count ≡ done → drive0 ≡ inputs → drive1 ≡ drive0 ++ false ∷ [] → drive ≡ drive1 ++ replicate count false → strobe ≡ strobe0 ++ replicate done X
    → ◌≡◌ {A = Cycle} (record { drive = drive; strobe = strobe; pulse = true }) (plain_cycle chains inputs strobe0)
unfolding cycle_with
plain_made chains count done inputs drive0 drive1 drive strobe0 strobe many some all d0 d1 d s =
    let driven : drive ≡ inputs ++ false ∷ replicate (length chains) false =
    d ∙ (ap (λ x. x ++ replicate count false) (d1 ∙ ap (λ x. x ++ false ∷ []) d0)
    ∙ (append_assoc inputs (false ∷ []) (replicate count false) ∙ ap (λ k. inputs ++ false ∷ replicate k false) many)) in
    let strobed : strobe ≡ strobe0 ++ replicate (length chains) X = s ∙ ap (λ k. strobe0 ++ replicate k X) (sym all ∙ many) in
    ap (λ x. cycle_with true x strobe) driven ∙ (ap (cycle_with true (inputs ++ false ∷ replicate (length chains) false)) strobed
    ∙ chained chains inputs strobe0 (λ e. some (many ∙ e)))

pub plain_unclocked : (chains : List (List ℕ)) (inputs drive : List Bool) (strobe : List Tri) → length chains ≡ 0 → drive ≡ inputs
    → ◌≡◌ {A = Cycle} (record { drive = drive; strobe = strobe; pulse = false }) (plain_cycle chains inputs strobe)
unfolding cycle_with
plain_unclocked chains inputs drive strobe none d = ap (λ x. cycle_with false x strobe) d ∙ unchained chains inputs strobe none

pub capture_plain : (chains : List (List ℕ)) (p : Pattern) (r : Response) → plain_cycle chains p.inputs (map known r.outputs) ≡ capture chains p r
capture_plain [] p r = refl
capture_plain (chain ∷ chains) p r = refl

-- ---- bursts

pub one_burst : (old new : List Burst) (b : Burst) (cs : List Cycle) → new ≡ old ++ b ∷ [] → cycles_of b ≡ cs → all_cycles new ≡ all_cycles old ++ cs
one_burst old new b cs n e =
    ap all_cycles n ∙ (flat_map-append cycles_of old (b ∷ []) ∙ (ap (λ x. all_cycles old ++ x) (append-nil (cycles_of b)) ∙ ap (λ x. all_cycles old ++ x) e))

-- ---- tests

module _ (n : Netlist) (holds : Holds) (chains : List (List ℕ)) where
  pub begun : (cycles : List Cycle) (held : List Tri) (count : ℕ) → count ≡ length (cells_of chains) → cycles ≡ flushing n holds chains → held ≡ replicate count X → IsBegun n holds chains [] cycles held
  begun cycles held count e c h = none_applied (Responds n None) (applied n holds chains) (vectors n holds chains) (length (cells_of chains)) (flushing n holds chains) cycles held count (λ rest. refl) e c h

  pub begun_more : (sound : IsSound n) (count : length (cells n) ≡ length (cells_of chains)) (ps : List Pattern) (i : ℕ) (p : Pattern) (old new : List Burst) (held after : List Tri)
      → i < length ps → p ≡ get_or ps i p → IsBegun n holds chains (take i ps) (all_cycles old) held → IsApplied n holds chains p held after old new → IsBegun n holds chains (take (i + 1) ps) (all_cycles new) after
  begun_more sound count ps i p old new held after l is h one =
      let loads = load n holds chains p.cells held in
      let captures = capture chains p one.response ∷ [] in
      one_applied (Responds n None) (applied n holds chains) (vectors n holds chains) (length (cells_of chains)) ps i p one.response (loads ++ captures) (all_cycles old) (all_cycles new) held after
      (λ rest. append_assoc loads captures (applied n holds chains (map known one.response.cells) rest)) l is h one.responds (taken_count n p one.response sound one.responds ∙ count) one.cycles one.taken

  pub begun_done : (ps : List Pattern) (i : ℕ) (old new : List Burst) (b : Burst) (held : List Tri) → length ps ≤ i → new ≡ old ++ b ∷ []
      → cycles_of b ≡ load n holds chains (replicate (length (cells_of chains)) false) held → IsBegun n holds chains (take i ps) (all_cycles old) held → AreHoldsOf n holds → AreVectors n holds chains ps (all_cycles new)
  begun_done ps i old new b held l pushed made h fit =
      let last = load n holds chains (replicate (length (cells_of chains)) false) held in
      let r = all_applied (Responds n None) (applied n holds chains) (vectors n holds chains) (length (cells_of chains)) ps i (all_cycles old) (all_cycles new) held l (one_burst old new b last pushed made) h in
      record { held = fit; responses = r.0; respond = r.1; are = r.2 }
