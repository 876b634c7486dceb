-- A cycle that is played by all gates, or by the steps of a plan, is each machine's step of its own player.
use Rattle.std.proofs.Common.{◌≡◌, ℕ, ◌*◌, ◌-◌, ◌≤◌, Bool, cond, List, [], ◌++◌, map, length, replicate, take, drop, None, inl, inr, refl, sym, ◌∙◌, ap, subst, arith}
use Rattle.std.specs.List.{All, slice_get}
use Rattle.std.proofs.lemmas.List.{length-map, map-append}
use Rattle.statement.specs.declared.kinds.Tri.{Tri}
use Rattle.statement.specs.declared.kinds.Tri.TheVariants.{X}
use Rattle.statement.specs.declared.lines.Fault.{Fault}
use Rattle.netlist.specs.Conditions.{IsSound}
use Rattle.statement.specs.Netlists.{Netlist, cells, signals}
use Rattle.netlist.specs.Netlist.{IsGateAt}
use Rattle.statement.specs.Values.{Settles, known, next}
use Rattle.netlist.specs.Orders.{IsOrder}
use Rattle.netlist.specs.Settled.{at}
use Rattle.netlist.specs.Settling.{AreSourcesDriven, AreEvaluated}
use Rattle.netlist.proofs.Settling.{all_settle}
use Rattle.tri.specs.Settled.{tris}
use Rattle.scan_play.specs.declared.cycles.Burst.{Burst}
use Rattle.scan_play.specs.Bursts.{cycle_of}
use Rattle.scan_play.specs.Judging.{Judging, judged_in}
use Rattle.scan_play.specs.Steps.{HasSteps}
use Rattle.scan_play.proofs.PlanLemmas.{shift_planned, shift_step}
use Rattle.scan_play.proofs.PlanMarks.{steps_known}
use Rattle.lane_play.specs.declared.packed.Lanes.{Lanes}
use Rattle.lane_play.specs.inner.Lanes.{always, lane, lanes, lanes_rule, unknown}
use Rattle.lane_play.specs.inner.Shifts.{AreCommon, AreEnough, ArePlanned, AreStill}
use Rattle.lane_play.specs.inner.Steps.{AreEnded, AreSteps}
use Rattle.lane_play.proofs.Machines.{common_known, machine_next, machine_outs, machine_settles, machine_sources, machine_steps}
use Rattle.lane_play.proofs.PlayedLemmas.{lanes_always, lanes_chosen, lanes_unknown, steps_from}

-- ---- a plan

-- what is driven where a burst is planned
pub still_driven : (n : Netlist) (bits drive : List Bool) (empty front whole seen : List Lanes) (wide narrow : ℕ) → wide ≡ length n.inputs → narrow ≡ length drive → bits ≡ drive → empty ≡ []
    → front ≡ empty ++ map always bits → whole ≡ front ++ replicate (wide - narrow) unknown → seen ≡ whole → seen ≡ map always drive ++ replicate (length n.inputs - length drive) unknown
still_driven n bits drive empty front whole seen wide narrow p r b e h w s =
    let count : wide - narrow ≡ length n.inputs - length drive = ap (λ k. k - narrow) p ∙ ap (λ k. length n.inputs - k) r in
    s ∙ (w
    ∙ (ap (λ x. x ++ replicate (wide - narrow) unknown) (h ∙ (ap (λ x. x ++ map always bits) e ∙ ap (λ x. map always x) b))
    ∙ ap (λ k. map always drive ++ replicate k unknown) count))

pub still_settled : (faults : List Fault) (n net : Netlist) (drive : List Bool) (seen idle values : List Lanes) → net ≡ n → seen ≡ map always drive ++ replicate (length n.inputs - length drive) unknown
    → idle ≡ replicate (length (cells n)) unknown → ((d : Lanes) → Settles (lanes_rule faults) net seen idle (at values d)) → AreStill faults n drive values
still_settled faults n net drive seen idle values there driven none settles d =
    let onto : List Lanes = map always drive ++ replicate (length n.inputs - length drive) unknown in
    let held : List Lanes = replicate (length (cells n)) unknown in
    subst (λ (m : Netlist). Settles (lanes_rule faults) m onto held (at values d)) there
    (subst (λ (vs : List Lanes). Settles (lanes_rule faults) net vs held (at values d)) driven (subst (λ (vs : List Lanes). Settles (lanes_rule faults) net seen vs (at values d)) none (settles d)))

pub planned_lanes : (faults : List Fault) → length faults ≤ 128 → (n : Netlist) (drive : List Bool) (strobe table : List Tri) (steps : List ℕ) (values : List Lanes)
    → AreStill faults n drive values → length values ≡ length (signals n) → AreCommon values table → HasSteps n strobe table steps → ArePlanned faults n drive strobe steps values
planned_lanes faults machines n drive strobe table steps values still size common has k low =
    let rest = length n.inputs - length drive in
    let driven : List Lanes = map always drive ++ replicate rest unknown in
    let idle : List Lanes = replicate (length (cells n)) unknown in
    let inputs : lanes k driven ≡ map known drive ++ replicate rest X =
    map-append (lane k) (map always drive) (replicate rest unknown)
    ∙ (ap (λ vs. vs ++ lanes k (replicate rest unknown)) (lanes_always k low drive) ∙ ap (λ vs. map known drive ++ vs) (lanes_unknown k low rest)) in
    record {
      base = lanes k values;
      settles = subst (λ (vs : List Tri). Settles (tris (slice_get faults k)) n vs (replicate (length (cells n)) X) (at (lanes k values) X)) inputs
          (subst (λ (vs : List Tri). Settles (tris (slice_get faults k)) n (lanes k driven) vs (at (lanes k values) X)) (lanes_unknown k low (length (cells n)))
          (machine_settles k low faults machines n driven idle values still));
      has = steps_known n strobe table (lanes k values) steps (common_known k low values table common) has;
      size = length-map values (lane k) ∙ size;
      stand = λ x stays. refl;
    }

pub planned_size : (faults : List Fault) (n : Netlist) (drive : List Bool) (strobe : List Tri) (steps : List ℕ) (values : List Lanes) → ArePlanned faults n drive strobe steps values → length values ≡ length (signals n)
planned_size faults n drive strobe steps values plan = sym (length-map values (lane 0)) ∙ (plan 0 (omega arith)).size

pub planned_gates : (faults : List Fault) (n : Netlist) (drive : List Bool) (strobe : List Tri) (steps : List ℕ) (values : List Lanes) → ArePlanned faults n drive strobe steps values → All (IsGateAt n) steps
planned_gates faults n drive strobe steps values plan = (plan 0 (omega arith)).has.path.are_gates

-- ---- a cycle

-- who says nothing
silence : Judging
silence c o s v = None

module _ (faults : List Fault) (machines : length faults ≤ 128) (n net : Netlist) (drive : List Bool) (strobe : List Tri) (steps : List ℕ) (v0 v1 v2 : List Lanes)
    (ins : List Bool) (outs_of : List Tri) (state driven from : List Lanes) (there : net ≡ n) (sound : IsSound n) (plan : ArePlanned faults n drive strobe steps v0) (wide : length (drive ++ ins) ≡ length n.inputs)
    (size : length state ≡ length (cells n)) (is_driven : driven ≡ map always (drive ++ ins)) (is_from : from ≡ state)
    (onto : AreSourcesDriven (lanes_rule faults) net driven from v0 v1) (stepped : AreEvaluated (lanes_rule faults) net steps v1 v2) where
  pub still_planned : ArePlanned faults n drive strobe steps v2
  unfolding silence
  still_planned k low =
      shift_planned silence (λ c o v. refl) (slice_get faults k) n net drive strobe steps (lanes k v0) (lanes k v1) (lanes k v2) ins outs_of (lanes k state) (lanes k driven) (lanes k from) there sound (plan k low) wide
      (length-map state (lane k) ∙ size) (ap (lanes k) is_driven ∙ lanes_always k low (drive ++ ins)) (ap (lanes k) is_from) (machine_sources k low faults machines net driven from v0 v1 onto) (machine_steps k low faults machines net steps v1 v2 stepped)

  pub shift_steps : (pulse : Bool) (number : ℕ) (after row : List Lanes) → AreEnded faults n pulse v2 state after row
      → AreSteps faults n state after (record { drive = drive ++ ins; strobe = strobe ++ outs_of; pulse = pulse }) number row
  shift_steps pulse number after row ended = λ k J low opens.
      shift_step J opens (slice_get faults k) n net drive strobe steps (lanes k v0) (lanes k v1) (lanes k v2) ins outs_of (lanes k state) (lanes k driven) (lanes k from) there sound (plan k low) wide
      (length-map state (lane k) ∙ size) (ap (lanes k) is_driven ∙ lanes_always k low (drive ++ ins)) (ap (lanes k) is_from)
      (machine_sources k low faults machines net driven from v0 v1 onto) (machine_steps k low faults machines net steps v1 v2 stepped)
      pulse number (lanes k v2) (lanes k row) (strobe ++ outs_of) (lanes k after) (judged_in J number 0 (strobe ++ outs_of) (lanes k row)) refl
      (ap (lanes k) ended.shows ∙ machine_outs k low faults machines n v2) refl refl
      (ap (lanes k) ended.ticked
      ∙ (lanes_chosen k pulse (next (lanes_rule faults) n (at v2 unknown)) state ∙ ap (λ vs. cond pulse vs (lanes k state)) (machine_next k low faults machines n v2)))

-- ---- a cycle by all gates or by those of a plan

module _ (faults : List Fault) (n : Netlist) (b : Burst) (steps : List ℕ) (values : List Lanes) where
  pub enough_size : AreEnough faults n b steps values → length values ≡ length (signals n)
  enough_size enough = elim enough [
    | inl all ↦ all.1
    | inr plan ↦ planned_size faults n b.drive.items b.strobe.items steps values plan
  ]

  pub enough_gates : AreEnough faults n b steps values → All (IsGateAt n) steps
  enough_gates enough = elim enough [
    | inl all ↦ all.0.members
    | inr plan ↦ planned_gates faults n b.drive.items b.strobe.items steps values plan
  ]

module _ (faults : List Fault) (machines : length faults ≤ 128) (n net : Netlist) (b : Burst) (t : ℕ) (steps : List ℕ) (v0 v1 v2 state driven from : List Lanes) (there : net ≡ n) (sound : IsSound n)
    (enough : AreEnough faults n b steps v0) (wide : length (cycle_of b t).drive ≡ length n.inputs) (size : length state ≡ length (cells n)) (is_driven : driven ≡ map always (cycle_of b t).drive) (is_from : from ≡ state)
    (onto : AreSourcesDriven (lanes_rule faults) net driven from v0 v1) (stepped : AreEvaluated (lanes_rule faults) net steps v1 v2) (long : length v2 ≡ length v1) where
  settled : IsOrder n steps → length v0 ≡ length (signals n) → (d : Lanes) → Settles (lanes_rule faults) n driven state (at v2 d)
  settled order room =
      all_settle n sound.formed.numbered steps order (lanes_rule faults) driven state v0 v1 v2 room
      (subst (λ (m : Netlist). AreSourcesDriven (lanes_rule faults) m driven state v0 v1) there (subst (λ (s : List Lanes). AreSourcesDriven (lanes_rule faults) net driven s v0 v1) is_from onto))
      (subst (λ (m : Netlist). AreEvaluated (lanes_rule faults) m steps v1 v2) there stepped)

  pub still_enough : AreEnough faults n b steps v2
  still_enough = elim enough [
    | inl all ↦ inl (all.0, long ∙ (onto.size ∙ all.1))
    | inr plan ↦
        inr (still_planned faults machines n net b.drive.items b.strobe.items steps v0 v1 v2 (take b.width (drop (t * b.width) b.ins.items)) (take b.width (drop (t * b.width) b.outs.items)) state driven from
        there sound plan wide size is_driven is_from onto stepped)
  ]

  pub cycle_steps : (number : ℕ) (after row : List Lanes) → AreEnded faults n b.pulse v2 state after row → AreSteps faults n state after (cycle_of b t) number row
  cycle_steps number after row ended = elim enough [
    | inl all ↦ steps_from faults n (cycle_of b t) number state after driven v2 row machines sound is_driven size (settled all.0 all.1) ended
    | inr plan ↦
        shift_steps faults machines n net b.drive.items b.strobe.items steps v0 v1 v2 (take b.width (drop (t * b.width) b.ins.items)) (take b.width (drop (t * b.width) b.outs.items)) state driven from
        there sound plan wide size is_driven is_from onto stepped b.pulse number after row ended
  ]
