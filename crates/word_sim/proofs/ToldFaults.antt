-- What is told of the faults of a batch, one after another.
use Rattle.std.proofs.Common.{◌≡◌, ℕ, ◌<◌, ◌^◌, List, length, map, get_or, set, Option, Some, None, false, sym, ◌∙◌, ap, subst, inl, inr, arith, bit_and, bit_xor}
use Rattle.std.specs.List.{Contains, slice_get}
use Rattle.std.specs.Prelude.{IfSome}
use Rattle.std.proofs.lemmas.Bool.{cases_eq}
use Rattle.std.proofs.lemmas.List.{get_or_default, length-map, length-set, get_or-set_same, get_or-set_other}
use Rattle.std.proofs.lemmas.Option.{slice_get-get_or}
use Rattle.statement.specs.declared.lines.Fault.{Fault}
use Rattle.statement.specs.declared.lines.Line.TheVariants.{Stem}
use Rattle.netlist.specs.Conditions.{IsSound}
use Rattle.netlist.specs.Lines.{IsLineOf}
use Rattle.statement.specs.Netlists.{Netlist, signals}
use Rattle.events.specs.Standing.{SettlesOver}
use Rattle.events.specs.Trails.{AreChanges}
use Rattle.regions.specs.Turned.{turned_words}
use Rattle.events.specs.Words.{ones, words}
use Rattle.std.specs.Option.{option_map}
use Rattle.word_sim.specs.Hits.{LastDetected, LastMarked}
use Rattle.word_sim.specs.inner.Packed.{AreGoodFor, IsMarked}
use Rattle.observed_points.specs.Points.{point_of}
use Rattle.statement.specs.Patterns.{Pattern}
use Rattle.events.specs.declared.trails.Change.{Change}
use Rattle.regions.specs.Paths.{IsReach}
use Rattle.word_sim.specs.inner.Groups.{AreReaches, AreTold, IsFound, IsPass, IsToldOf, CanTellAll, HoldChanges, ShowAll}
use Rattle.word_sim.specs.inner.Differences.{in_lane, shown_of, AreLastSeen}
use Rattle.word_sim.proofs.Found.{map_contains, seen_shown}
use Rattle.word_sim.proofs.TurnedPoints.{mask_within, shown_found}
use Rattle.regions.specs.declared.fours.Four.{Four}
use Rattle.regions.specs.declared.fours.Lane.{Lane}
use Rattle.regions.specs.declared.side.TurnedFour.{TurnedFour}
use Rattle.regions.specs.declared.turned.TurnedWords.{TurnedWords}
use Rattle.regions.specs.Side.{lane_of, spread, turned_in, SettlesInLanes}
use Rattle.regions.proofs.SideTurned.{spread_lane}
use Rattle.netlist.specs.Settled.{at}
use Rattle.netlist.proofs.Lists.{contains_map}
use Rattle.std.proofs.Math.ListN.{get_or-map}
use Rattle.word_sim.specs.declared.passes.Pass.{Pass}
use Rattle.word_sim.specs.declared.shown.Shown.{Shown}
use Rattle.word_sim.proofs.StuckPoints.{held}
use Rattle.word_sim.proofs.WordDetection.{marked_all, used_marked}

some_same : (a b : ℕ × Fault) → Some a ≡ Some b → a ≡ b
some_same a b e = cc

-- one fault more is told
pub told_set : (n : Netlist) (p : Pass) (told : List (Option (Option (ℕ × ℕ)))) (k : ℕ) (t : Option (Option (ℕ × ℕ))) → k < length p.faults.now
    → ((g : ℕ × Fault) → slice_get p.faults.now k ≡ Some g → IsToldOf n p.patterns.now g.1 t) → AreTold n p told → AreTold n p (set told k t)
told_set n p told k t l is h =
    let size = h.size in
    record {
      size = length-set told k t ∙ h.size;
      each = λ i g at. elim (cases_eq i k) [
        | inl e ↦
            subst (λ o. IsToldOf n p.patterns.now g.1 o) (sym (ap (λ j. get_or (set told k t) j None) e ∙ get_or-set_same told k t None (omega arith)))
            (is g (ap (slice_get p.faults.now) (sym e) ∙ at))
        | inr ne ↦ subst (λ o. IsToldOf n p.patterns.now g.1 o) (sym (get_or-set_other told k i t None ne)) (h.each i g at)
      ];
    }

-- what the head that is turned over tells of a fault
pub told_one : (n : Netlist) → IsSound n → (p : Pass) (t : TurnedWords) (shown : List Shown) → ShowAll n p t shown → (k : ℕ) (d : Option (ℕ × ℕ)) (end' word : ℕ) → k < length p.reaches.now
    → get_or p.reaches.now k d ≡ Some (end', word) → end' ≡ t.signal → bit_and (bit_and p.used word) (bit_xor t.mask ones) ≡ 0
    → (count : ℕ) → count ≡ length p.points.now.seen.items → (found : Option (ℕ × ℕ)) → AreLastSeen count (bit_and p.used word) shown found
    → (g : ℕ × Fault) → slice_get p.faults.now k ≡ Some g → IsFound n p.patterns.now g.1 found
told_one n sound p t shown all k d end' word low is same none count count_is found last g at =
    let can = all.can in
    let pass = all.can.pass in
    let size = all.can.pass.reaches.size in
    let l : k < length p.faults.now = omega arith in
    let here : get_or p.faults.now k g ≡ g = some_same (get_or p.faults.now k g) g (sym (slice_get-get_or p.faults.now k g l) ∙ at) in
    let line : IsLineOf n g.1.line = subst (λ (b : ℕ × Fault). IsLineOf n b.1.line) here (all.can.pass.lines k g l) in
    let reached : IsReach n all.can.values g.1 end' word =
    subst (λ r. IfSome r (λ (w : ℕ × ℕ). IsReach n all.can.values g.1 w.0 w.1)) (get_or_default p.reaches.now k None d low ∙ is) (all.can.pass.reaches.each k g at) in
    shown_found n sound g.1 line p.patterns.now all.can.values all.can.pass.good p.used all.can.pass.used t.signal t.mask word (subst (λ x. IsReach n all.can.values g.1 x word) same reached)
    (mask_within p.used word t.mask none) p.points.now.seen.items p.points.now.first.items p.points.now.numbers.items all.can.pass.points all.can.pass.size all.new all.trail all.can.held all.can.over found
    (seen_shown p.points.now.first.items (length p.points.now.seen.items) all.new all.trail (bit_and p.used word) found
    (subst (λ cs. AreLastSeen (length p.points.now.seen.items) (bit_and p.used word) cs found) all.shown_is
    (subst (λ c. AreLastSeen c (bit_and p.used word) shown found) count_is last)))

-- any fault, where a default is asked for
no_fault : ℕ × Fault
no_fault = (0, record { line = Stem 0; value = false })

pub head_low : (n : Netlist) (values : List ℕ) (faults : List (ℕ × Fault)) (reaches : List (Option (ℕ × ℕ))) (k h w : ℕ) (d : Option (ℕ × ℕ)) → AreReaches n values faults reaches → k < length reaches
    → get_or reaches k d ≡ Some (h, w) → h < length (signals n)
head_low n values faults reaches k h w d are l is =
    let size = are.size in
    let m : k < length faults = omega arith in
    let reach : IfSome (get_or reaches k None) (λ (v : ℕ × ℕ). IsReach n values (get_or faults k no_fault).1 v.0 v.1) = are.each k (get_or faults k no_fault) (slice_get-get_or faults k no_fault m) in
    let here : IfSome (Some (h, w)) (λ (v : ℕ × ℕ). IsReach n values (get_or faults k no_fault).1 v.0 v.1) =
    subst (λ o. IfSome o (λ (v : ℕ × ℕ). IsReach n values (get_or faults k no_fault).1 v.0 v.1)) (get_or_default reaches k None d l ∙ is) reach in
    here.within

pub turned_all : (n n' : Netlist) (p : Pass) (t : TurnedWords) (values new : List ℕ) (trail changes : List (Change ℕ)) → n' ≡ n → trail ≡ changes → IsPass n values p → AreChanges values new changes
    → SettlesOver (words None) (turned_words t.signal t.mask) n values new → CanTellAll n' p t new trail
turned_all n n' p t values new trail changes same is pass changed over =
    subst (λ m. CanTellAll m p t new trail) (sym same) (record { values = values; pass = pass; held = held values new trail (subst (AreChanges values new) (sym is) changed); over = over })

-- what points see of what a head turned over changed
pub shows_all : (n : Netlist) (p : Pass) (t : TurnedWords) (new new' : List ℕ) (trail trail' : List (Change ℕ)) (first' : List ℕ) (count' : ℕ) (shown : List Shown) → CanTellAll n p t new trail
    → first' ≡ p.points.now.first.items → count' ≡ length p.points.now.seen.items → new' ≡ new → trail' ≡ trail → shown ≡ shown_of first' count' new' trail' → ShowAll n p t shown
shows_all n p t new new' trail trail' first' count' shown can ef ec en et is =
    record {
      new = new;
      trail = trail;
      can = can;
      shown_is = is
          ∙ (ap (λ fs. shown_of fs count' new' trail') ef
          ∙ (ap (λ k. shown_of p.points.now.first.items k new' trail') ec
          ∙ (ap (λ vs. shown_of p.points.now.first.items (length p.points.now.seen.items) vs trail') en ∙ ap (shown_of p.points.now.first.items (length p.points.now.seen.items) new) et)));
    }

-- what four heads turned over side by side left in a lane
module _ (lane : Lane) (values : List ℕ) (old new : List Four) (changes : List (Change Four)) (stood : old ≡ map spread values) (are : AreChanges old new changes) where
  in_changes : (c : Change ℕ) → Contains (map (in_lane lane) changes) c → (d : Change Four) × Contains changes d × (in_lane lane d ≡ c)
  in_changes c m = contains_map (in_lane lane) changes c m

  lane_before : (x e : ℕ) → lane_of lane (at old (spread e) x) ≡ at values e x
  lane_before x e = ap (λ vs. lane_of lane (get_or vs x (spread e))) stood ∙ (ap (lane_of lane) (get_or-map spread values x e) ∙ spread_lane lane (get_or values x e))

  lane_after : (x e : ℕ) → at (map (lane_of lane) new) e x ≡ lane_of lane (at new (spread e) x)
  lane_after x e = ap (get_or (map (lane_of lane) new) x) (sym (spread_lane lane e)) ∙ get_or-map (lane_of lane) new x (spread e)

  pub lane_held : HoldChanges values (map (lane_of lane) new) (map (in_lane lane) changes)
  lane_held = record {
    before = λ c e m.
        let w = in_changes c m in
        let b = are.before w.0 (spread e) w.1 in
        subst (λ (d : Change ℕ). (d.signal < length values) × (d.before ≡ at values e d.signal)) w.2
        (subst (λ k. w.0.signal < k) (ap length stood ∙ length-map values spread) b.0, ap (lane_of lane) b.1 ∙ lane_before w.0.signal e);
    others = λ x e none. lane_after x e
        ∙ (ap (lane_of lane) (are.others x (spread e) (λ d m. none (in_lane lane d) (map_contains (in_lane lane) changes d m))) ∙ lane_before x e);
  }

pub lane_all : (n m : Netlist) (p : Pass) (lane : Lane) (t : TurnedFour) (values : List ℕ) (old new : List Four) (trail changes : List (Change Four)) → m ≡ n → trail ≡ changes → old ≡ map spread values
    → IsPass n values p → AreChanges old new changes → SettlesInLanes t m values new
    → CanTellAll n p (turned_in lane t) (map (lane_of lane) new) (map (in_lane lane) trail)
lane_all n m p lane t values old new trail changes there is stood pass are over = record {
  values = values;
  pass = pass;
  held = subst (λ ts. HoldChanges values (map (lane_of lane) new) (map (in_lane lane) ts)) (sym is) (lane_held lane values old new changes stood are);
  over = subst (λ (k : Netlist). SettlesInLanes t k values new) there over lane;
}

pub told_is : (n : Netlist) (p : Pass) (told : List (Option (Option (ℕ × ℕ)))) (k : ℕ) (found : Option (ℕ × ℕ)) (d : Option (Option (ℕ × ℕ))) → AreTold n p told → get_or told k d ≡ Some found
    → k < length p.faults.now → (g : ℕ × Fault) → slice_get p.faults.now k ≡ Some g → IsFound n p.patterns.now g.1 found
told_is n p told k found d h is l g at =
    let size = h.size in
    subst (λ o. IsToldOf n p.patterns.now g.1 o) (get_or_default told k None d (omega arith) ∙ is) (h.each k g at)

pub found_alone : (n : Netlist) (values : List ℕ) (n' : Netlist) (values' : List ℕ) (p : Pass) (k : ℕ) (item : ℕ × Fault) (found : Option (ℕ × ℕ)) → n' ≡ n → values' ≡ values → IsPass n values p
    → k < length p.faults.now
    → ((patterns : List Pattern) → AreGoodFor n' patterns values' → IsMarked (length patterns) p.used
    → LastMarked n' patterns p.used (get_or p.faults.now k item).1 (option_map (λ (w : ℕ × ℕ). (w.0, point_of n' w.1)) found))
    → IfSome found (λ w. (w.0 < 64) × (w.1 < 2 ^ 32)) → (g : ℕ × Fault) → slice_get p.faults.now k ≡ Some g → IsFound n p.patterns.now g.1 found
found_alone n values n' values' p k item found en ev pass l last small g at =
    let is : get_or p.faults.now k item ≡ g = some_same (get_or p.faults.now k item) g (sym (slice_get-get_or p.faults.now k item l) ∙ at) in
    let good : AreGoodFor n' p.patterns.now values' = subst (λ (m : Netlist). AreGoodFor m p.patterns.now values') (sym en) (subst (λ (vs : List ℕ). AreGoodFor n p.patterns.now vs) (sym ev) pass.good) in
    let marked = last p.patterns.now good (used_marked (length p.patterns.now) p.used pass.used) in
    let detected : LastDetected n' p.patterns.now (get_or p.faults.now k item).1 (option_map (λ (w : ℕ × ℕ). (w.0, point_of n' w.1)) found) =
    marked_all n' p.patterns.now (get_or p.faults.now k item).1 p.used pass.good.few pass.used (option_map (λ (w : ℕ × ℕ). (w.0, point_of n' w.1)) found) marked in
    subst (λ (b : ℕ × Fault). IsFound n p.patterns.now b.1 found) is
    (record { detected = subst (λ (m : Netlist). LastDetected m p.patterns.now (get_or p.faults.now k item).1 (option_map (λ (w : ℕ × ℕ). (w.0, point_of m w.1)) found)) en detected; small = small })
