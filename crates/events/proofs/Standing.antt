-- What a touch and then all that it reaches make of values, and a line stuck.
use Rattle.std.proofs.Common.{◌≡◌, ℕ, ◌+◌, ◌-◌, ◌<◌, ◌≤◌, ◌⊎◌, ◌++◌, Bool, true, false, cond, List, length, get_or, take, drop, Some, None, refl, sym, ◌∙◌, ap, subst, inl, inr, eqb}
use Rattle.std.specs.List.{All}
use Rattle.std.proofs.lemmas.Bool.{both_ways, eqb-true, eq-eqb, ne_eqb, false_from_ne_true}
use Rattle.std.proofs.lemmas.List.{get_or_default}
use Rattle.std.proofs.lemmas.List.Elements.{All-append, All-take, Contains-get_or}
use Rattle.statement.specs.declared.lines.Line.{Line}
use Rattle.statement.specs.declared.lines.Line.TheVariants.{Stem, Pin, Out}
use Rattle.statement.specs.declared.lines.Fault.{Fault}
use Rattle.statement.specs.Netlists.{Definition, Netlist, cells, signals}
use Rattle.netlist.specs.Netlist.{IsGateAt}
use Rattle.netlist.specs.Conditions.{IsNumbered, IsSound}
use Rattle.statement.specs.Values.{Rule, Settles, Table, with_fault, is_line}
use Rattle.netlist.specs.Settled.{at}
use Rattle.netlist.proofs.Orders.{gates_few}
use Rattle.netlist.proofs.Settling.{zip_kept}
use Rattle.events.specs.declared.trails.Change.{Change}
use Rattle.events.specs.Agendas.{AreClear}
use Rattle.events.specs.inner.Placing.{waiting, AreTables}
use Rattle.events.specs.inner.Running.{AreReady, PutsSource, Resettles, Touches}
use Rattle.events.specs.Standing.{standing, Moves, SettlesAnew, SettlesAllAnew, SettlesOver}
use Rattle.events.specs.Stuck.{is_at, IsSite, IsObservedOnly}
use Rattle.events.specs.Trails.{AreChanges, undone}
use Rattle.events.specs.Waiting.{IsDrivenTo}
use Rattle.events.proofs.Steps.{rule_changes, none_waits, input_no_gate, cell_no_gate}
use Rattle.events.proofs.Sources.{stuck_changes, observed_only}
use Rattle.events.proofs.Changes.{length-undone}

-- the changes are of signals
pub changes_within : {V : Type 0} (old new : List V) (changes : List (Change V)) → AreChanges old new changes → All (λ (c : Change V). c.signal < length new) changes
changes_within {V} old new changes h = λ k d l.
    let c = get_or changes k d in
    subst (λ m. c.signal < m) (sym h.size) (h.before c c.before (Contains-get_or changes k d l)).0

pub within_append : {V : Type 0} (old new : List V) (trail trail' changes : List (Change V)) → All (λ (c : Change V). c.signal < length old) trail → trail' ≡ trail ++ changes → AreChanges old new changes
    → All (λ (c : Change V). c.signal < length new) trail'
within_append {V} old new trail trail' changes h is k =
    subst (All (λ (c : Change V). c.signal < length new)) (sym is)
    (All-append (λ (c : Change V). c.signal < length new) trail changes
    (subst (λ m. All (λ (c : Change V). c.signal < m) trail) (sym k.size) h) (changes_within old new changes k))

-- the gates in the order are no more than the signals
pub order_few : (n m : Netlist) (order places : List ℕ) (fans : List (List ℕ)) → m ≡ n → IsSound m → AreTables n order places fans → length order ≤ length (signals n)
order_few n m order places fans same sound tables = gates_few n (subst IsSound same sound).formed.numbered order tables.ordered

-- what a call leaves: the tables as they were, and what it changed on the trail
module _ {V : Type 0} (n : Netlist) (order places : List ℕ) (fans : List (List ℕ)) (v0 v2 : List V) (m0 m2 : List Bool) (t0 t2 : List (Change V)) (capacity capacity' : ℕ)
    (ready : AreReady n order places fans m0 v0 t0 capacity) where
  pub still_ready : (changes : List (Change V)) → (t2 ≡ t0 ++ changes) × AreChanges v0 v2 changes → AreClear m2 → length m2 ≡ length m0 → capacity' ≡ capacity
      → AreReady n order places fans m2 v2 t2 capacity'
  still_ready changes changed clear size room = record {
    tables = ready.tables;
    marks_size = size ∙ ready.marks_size;
    clear = clear;
    size = changed.1.size ∙ ready.size;
    within = within_append v0 v2 t0 t2 changes ready.within changed.0 changed.1;
    room = subst (λ k. length (signals n) + 1 ≤ k) (sym room) ready.room;
  }

pub settles_anew : {V : Type 0} (rule : Rule V) (n : Netlist) (places : List ℕ) (id : ℕ) (driven : V) (v0 v1 v2 : List V) (m0 m1 : List Bool) (t0 t1 t2 : List (Change V)) → PutsSource rule n places id (rule.line (Stem id) driven) v0 v1 m0 m1 t0 t1 → Resettles rule n places v1 v2 m1 t1 t2 → SettlesAnew rule n id driven v0 v2
settles_anew rule n places id driven v0 v1 v2 m0 m1 t0 t1 t2 p r = record {
  each = λ inputs state d is start. r.settles inputs state d
      (p.settles inputs state d (λ x. eqb x id) (waiting m1 places) is (λ x f. f) (λ x ne free f. ne_eqb x id ne) start);
}

pub settles_all : {V : Type 0} (rule : Rule V) (n : Netlist) (places ids : List ℕ) (v0 v1 v2 : List V) (m0 m1 : List Bool) (t0 t1 t2 : List (Change V))
    → Touches rule n places ids v0 v1 m0 m1 t0 t1 (length ids) → Resettles rule n places v1 v2 m1 t1 t2 → SettlesAllAnew rule n ids v0 v2
settles_all rule n places ids v0 v1 v2 m0 m1 t0 t1 t2 p r = record {
  each = λ inputs state d waits is free start. r.settles inputs state d
      (p.settles inputs state d waits (waiting m1 places) (λ k l. is (get_or ids k 0) (Contains-get_or ids k 0 l)) (λ x f. f)
      (λ x none m f. free x (λ c. none c.0 c.1 (sym c.2 ∙ get_or_default ids c.0 x 0 c.1))) start);
}

-- values that changed, as they stand
pub moved : {V : Type 0} (n : Netlist) (old new : List V) (trail trail' changes : List (Change V)) (capacity capacity' : ℕ) → capacity' ≡ capacity → trail' ≡ trail ++ changes → AreChanges old new changes
    → Moves (standing n old trail capacity) (standing n new trail' capacity')
moved n old new trail trail' changes capacity capacity' room is are = record {
  netlist = refl;
  room = ap (λ k. k - (length (signals n) + 1)) room;
  changes = changes;
  trail = is;
  are_changes = are;
}

-- changes taken back
pub undone_ready : {V : Type 0} (n : Netlist) (order places : List ℕ) (fans : List (List ℕ)) (marks : List Bool) (values values' : List V) (trail trail' : List (Change V)) (capacity capacity' mark : ℕ)
    → AreReady n order places fans marks values trail capacity → values' ≡ undone (drop mark trail) values → trail' ≡ take mark trail → capacity' ≡ capacity
    → AreReady n order places fans marks values' trail' capacity'
undone_ready {V} n order places fans marks values values' trail trail' capacity capacity' mark h is cut room =
    let same : length values' ≡ length values = ap length is ∙ length-undone (drop mark trail) values in
    record {
      tables = h.tables;
      marks_size = h.marks_size;
      clear = h.clear;
      size = same ∙ h.size;
      within = subst (All (λ (c : Change V). c.signal < length values')) (sym cut)
          (All-take (λ (c : Change V). c.signal < length values') mark trail (subst (λ m. All (λ (c : Change V). c.signal < m) trail) (sym same) h.within));
      room = subst (λ k. length (signals n) + 1 ≤ k) (sym room) h.room;
    }

pub forgotten_ready : {V : Type 0} (n : Netlist) (order places : List ℕ) (fans : List (List ℕ)) (marks : List Bool) (values : List V) (trail trail' : List (Change V)) (capacity capacity' mark : ℕ)
    → AreReady n order places fans marks values trail capacity → trail' ≡ take mark trail → capacity' ≡ capacity
    → AreReady n order places fans marks values trail' capacity'
forgotten_ready {V} n order places fans marks values trail trail' capacity capacity' mark h cut room = record {
  tables = h.tables;
  marks_size = h.marks_size;
  clear = h.clear;
  size = h.size;
  within = subst (All (λ (c : Change V). c.signal < length values)) (sym cut) (All-take (λ (c : Change V). c.signal < length values) mark trail h.within);
  room = subst (λ k. length (signals n) + 1 ≤ k) (sym room) h.room;
}

-- ---- a line stuck

one_site : (line : Line) (x y : ℕ) → is_at line x ≡ true → is_at line y ≡ true → x ≡ y
one_site (Stem z) x y h k = sym (eqb-true z x h) ∙ eqb-true z y k
one_site (Pin z j) x y h k = sym (eqb-true z x h) ∙ eqb-true z y k
one_site (Out z) x y h k = absurd (both_ways false refl h)

module _ {V : Type 0} (table : Table V) (f : Fault) where
  same_stuck : (id : ℕ) (v w : V) → f.line ≡ Stem id → (with_fault table (Some f)).line (Stem id) v ≡ (with_fault table (Some f)).line (Stem id) w
  same_stuck id v w e =
      let here : is_line f.line (Stem id) ≡ true = ap (λ l. is_line l (Stem id)) e ∙ eq-eqb id id refl in
      ap (λ b. cond b (table.known f.value) v) here ∙ sym (ap (λ b. cond b (table.known f.value) w) here)

  -- whatever is driven onto a stuck stem, it makes one value; and nothing is driven onto a gate
  stuck_driven : (n : Netlist) → IsNumbered n → (id : ℕ) (blank : V) (inputs state : List V) (a : ℕ → V) → IsGateAt n id ⊎ (f.line ≡ Stem id) → Settles (with_fault table None) n inputs state a
      → IsDrivenTo (with_fault table (Some f)) n inputs state id ((with_fault table (Some f)).line (Stem id) blank)
  stuck_driven n numbered id blank inputs state a site s = record {
    from_inputs = zip_kept (λ x v. a x ≡ (with_fault table None).line (Stem x) v)
        (λ y w. y ≡ id → (with_fault table (Some f)).line (Stem id) blank ≡ (with_fault table (Some f)).line (Stem id) w) n.inputs inputs
        (λ y w c k e. elim site [
          | inl g ↦ absurd (input_no_gate n numbered y g.0 c g.1 (e ∙ sym g.2))
          | inr stem ↦ same_stuck id blank w stem
        ]) s.0;
    from_state = zip_kept (λ (d : Definition) v. a d.id ≡ (with_fault table None).line (Stem d.id) v)
        (λ (d : Definition) w. d.id ≡ id → (with_fault table (Some f)).line (Stem id) blank ≡ (with_fault table (Some f)).line (Stem id) w) (cells n) state
        (λ d w c k e. elim site [
          | inl g ↦ absurd (cell_no_gate n numbered d g.0 c g.1 (e ∙ sym g.2))
          | inr stem ↦ same_stuck id blank w stem
        ]) s.1;
  }

  pub stuck_settles : (n : Netlist) → IsNumbered n → (id : ℕ) (blank : V) (old new : List V) → IsSite n f.line id → SettlesAnew (with_fault table (Some f)) n id blank old new
      → SettlesOver (with_fault table None) (with_fault table (Some f)) n old new
  stuck_settles n numbered id blank old new site h = record {
    each = λ inputs state d s. h.each inputs state d (stuck_driven n numbered id blank inputs state (at old d) site.1 s)
        (rule_changes (with_fault table None) (with_fault table (Some f)) n inputs state (at old d) (λ y. eqb y id)
        (λ x w. (stuck_changes table f x (false_from_ne_true (is_at f.line x) (λ y. both_ways (eqb x id) w (eq-eqb x id (one_site f.line x id y site.0)))) n).0) s);
  }

  pub observed_settles : (n : Netlist) (values : List V) → IsObservedOnly n f.line → SettlesOver (with_fault table None) (with_fault table (Some f)) n values values
  observed_settles n values only = record {
    each = λ inputs state d s. none_waits (with_fault table (Some f)) n inputs state (at values d) (λ _. false) (λ _. refl)
        (rule_changes (with_fault table None) (with_fault table (Some f)) n inputs state (at values d) (λ _. false) (λ x w. observed_only table f n x only) s);
  }
