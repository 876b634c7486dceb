-- With more decisions, none of which is contradicted, each label is known no less.
use Rattle.std.proofs.Common.{◌≡◌, ℕ, ◌+◌, Bool, true, false, not, cond, ◌&&◌, ◌||◌, List, [], ◌∷◌, map, Option, Some, None, get_or, refl, sym, ◌∙◌, ap, subst}
use Rattle.std.specs.List.{All, AllZip, Contains, list_any}
use Rattle.std.proofs.lemmas.Bool.{both_ways, or_parts, and_parts, and_from}
use Rattle.std.proofs.lemmas.List.Elements.{All-head, All-tail, All-contains}
use Rattle.statement.specs.declared.kinds.Tri.{Tri}
use Rattle.statement.specs.declared.kinds.Tri.TheVariants.{Zero, One, X}
use Rattle.statement.specs.declared.lines.Line.{Line}
use Rattle.statement.specs.declared.lines.Line.TheVariants.{Stem, Pin}
use Rattle.statement.specs.declared.lines.Fault.{Fault}
use Rattle.statement.specs.Netlists.{Definition, Netlist, is_cell, cells, gates, signals}
use Rattle.netlist.specs.Netlist.{is_gate}
use Rattle.netlist.specs.Conditions.{IsSound}
use Rattle.statement.specs.Values.{is_line, on_pins, pins_of, known}
use Rattle.netlist.proofs.Acyclic.{everywhere}
use Rattle.netlist.proofs.Lists.{All-from_contains, contains_filter}
use Rattle.tri.specs.declared.labels.Label.{Label}
use Rattle.tri.specs.Known.{allows_tri, AreAllowedTris}
use Rattle.statement.specs.Patterns.{Holds}
use Rattle.tri.specs.Gates.{gate_tri}
use Rattle.tri.specs.Labels.{Decisions, is_known_as, are_known_and_equal, on_line, good_of, label_of, labels, source_label, held_value, AreLabels, IsContradicted, AllowsLabel}
use Rattle.tri.proofs.Choices.{no}
use Rattle.tri.proofs.AboveLemmas.{not_false}
use Rattle.tri.proofs.LabelLemmas.{mapped_zip, input_is_signal, defined_is_signal}
use Rattle.tri.proofs.PathLemmas.{tri_same, tri_equal, tri_alone}
use Rattle.tri.proofs.TriAlike.{allows_tri_itself, gate_allows_tri}

record Grows (l m : Label) : Type 0 where
  allows : AllowsLabel l m
  -- where it may not differ, both values are the same
  settled : m.may_differ ≡ false → m.good ≡ m.faulty

-- ---- as a test

grows : Label → Label → Bool
grows l m =
    allows_tri l.own m.own
    && (allows_tri l.good m.good && (allows_tri l.faulty m.faulty && ((l.may_differ || not m.may_differ) && (m.may_differ || tri_same m.good m.faulty))))

stays_false : (d e : Bool) → (d || not e) ≡ true → d ≡ false → e ≡ false
stays_false true e h f = absurd (both_ways true f refl)
stays_false false true h f = no h
stays_false false false h f = refl

as_stays_false : (d e : Bool) → (d ≡ false → e ≡ false) → (d || not e) ≡ true
as_stays_false true e h = refl
as_stays_false false e h = ap not (h refl)

as_settled : (d : Bool) (v w : Tri) → (d ≡ false → v ≡ w) → (d || tri_same v w) ≡ true
as_settled true v w h = refl
as_settled false v w h = subst (λ u. tri_same v u ≡ true) (h refl) (tri_alone v)

Grows-from : (l m : Label) → grows l m ≡ true → Grows l m
unfolding grows
Grows-from l m h =
    let p = and_parts (allows_tri l.own m.own) _ h in
    let q = and_parts (allows_tri l.good m.good) _ p.1 in
    let r = and_parts (allows_tri l.faulty m.faulty) _ q.1 in
    let s = and_parts (l.may_differ || not m.may_differ) (m.may_differ || tri_same m.good m.faulty) r.1 in
    record {
      allows = record { own = p.0; good = q.0; faulty = r.0; may_differ = stays_false l.may_differ m.may_differ s.0 };
      settled = λ e. tri_equal m.good m.faulty (subst (λ (d : Bool). (d || tri_same m.good m.faulty) ≡ true) e s.1);
    }

grows-from : (l m : Label) → Grows l m → grows l m ≡ true
unfolding grows
grows-from l m h =
    and_from (allows_tri l.own m.own) _ h.allows.own
    (and_from (allows_tri l.good m.good) _ h.allows.good
    (and_from (allows_tri l.faulty m.faulty) _ h.allows.faulty
    (and_from (l.may_differ || not m.may_differ) (m.may_differ || tri_same m.good m.faulty) (as_stays_false l.may_differ m.may_differ h.allows.may_differ)
    (as_settled m.may_differ m.good m.faulty h.settled))))

-- ---- on a line

known_stays : (v : Bool) (t u : Tri) → is_known_as v t ≡ true → allows_tri t u ≡ true → is_known_as v u ≡ true
known_stays true One u e h = h
known_stays true Zero u e h = no e
known_stays true X u e h = no e
known_stays false Zero u e h = h
known_stays false One u e h = no e
known_stays false X u e h = no e

known_is : (v : Bool) (t : Tri) → is_known_as v t ≡ true → t ≡ known v
known_is true One e = refl
known_is true Zero e = no e
known_is true X e = no e
known_is false Zero e = refl
known_is false One e = no e
known_is false X e = no e

on_line_grows : (f : Option Fault) (line : Line) (l m : Label) → Grows l m → Grows (on_line f line l) (on_line f line m)
on_line_grows None line l m h = h
on_line_grows (Some f) line l m h =
    let step : (c : Bool) → Grows (cond c (record { own = l.own; good = l.good; faulty = known f.value; may_differ = not (is_known_as f.value l.good) }) l)
    (cond c (record { own = m.own; good = m.good; faulty = known f.value; may_differ = not (is_known_as f.value m.good) }) m) =
    elim [
      | true ↦ record {
        allows = record {
          own = h.allows.own;
          good = h.allows.good;
          faulty = allows_tri_itself (known f.value);
          may_differ = λ e. ap not (known_stays f.value l.good m.good (not_false (is_known_as f.value l.good) e) h.allows.good);
        };
        settled = λ e. known_is f.value m.good (not_false (is_known_as f.value m.good) e);
      }
      | false ↦ h
    ] in
    step (is_line f.line line)

on_line_own : (f : Option Fault) (line : Line) (l : Label) → (on_line f line l).own ≡ l.own
on_line_own None line l = refl
on_line_own (Some f) line l =
    let step : (c : Bool) → (cond c (record { own = l.own; good = l.good; faulty = known f.value; may_differ = not (is_known_as f.value l.good) }) l).own ≡ l.own =
    elim [ true ↦ refl | false ↦ refl ] in
    step (is_line f.line line)

-- ---- at a gate

-- the decided bit isn't the other one than what the pins tell
abbrev IsAgreed : Option Bool → Tri → Type 0
IsAgreed o own = (b : Bool) → o ≡ Some b → own ≡ known (not b) → ⊥

with_bit : (own : Tri) (b : Bool) → (own ≡ known (not b) → ⊥) → (v : Tri) → allows_tri v own ≡ true → allows_tri v (known b) ≡ true
with_bit Zero true h v k = absurd (h refl)
with_bit Zero false h v k = k
with_bit One true h v k = k
with_bit One false h v k = absurd (h refl)
with_bit X b h X k = refl
with_bit X b h Zero k = no k
with_bit X b h One k = no k

to_good : (v own : Tri) (o : Option Bool) → IsAgreed o own → allows_tri v own ≡ true → allows_tri v (good_of o own) ≡ true
to_good v own None h k = k
to_good v own (Some b) h k = with_bit own b (h b refl) v k

good_grows : (o o' : Option Bool) (own own' : Tri) → ((b : Bool) → o ≡ Some b → o' ≡ Some b) → IsAgreed o' own' → allows_tri own own' ≡ true
    → allows_tri (good_of o own) (good_of o' own') ≡ true
good_grows None o' own own' more h k = to_good own own' o' h k
good_grows (Some b) o' own own' more h k =
    subst (λ x. allows_tri (known b) (good_of x own') ≡ true) (sym (more b refl)) (allows_tri_itself (known b))

equal_stays : (v w v' w' : Tri) → are_known_and_equal v w ≡ true → allows_tri v v' ≡ true → allows_tri w w' ≡ true → are_known_and_equal v' w' ≡ true
equal_stays Zero w Zero w' e h k = known_stays false w w' e k
equal_stays Zero w One w' e h k = no h
equal_stays Zero w X w' e h k = no h
equal_stays One w One w' e h k = known_stays true w w' e k
equal_stays One w Zero w' e h k = no h
equal_stays One w X w' e h k = no h
equal_stays X w v' w' e h k = no e

equal_same : (v w : Tri) → are_known_and_equal v w ≡ true → v ≡ w
equal_same Zero w e = sym (known_is false w e)
equal_same One w e = sym (known_is true w e)
equal_same X w e = no e

not_both : {P : Type 0} → true ≡ false → P
not_both e = absurd (both_ways true e refl)

label_grows : (o o' : Option Bool) (own faulty own' faulty' : Tri) (differs differs' : Bool)
    → ((b : Bool) → o ≡ Some b → o' ≡ Some b) → IsAgreed o' own' → allows_tri own own' ≡ true → allows_tri faulty faulty' ≡ true
    → (differs ≡ false → differs' ≡ false) → (differs ≡ true → differs' ≡ false → own' ≡ faulty')
    → Grows (label_of o own faulty differs) (label_of o' own' faulty' differs')
label_grows o o' own faulty own' faulty' true true more agreed h k less same =
    let g = good_grows o o' own own' more agreed h in
    record {
      allows = record {
        own = h;
        good = g;
        faulty = k;
        may_differ = λ e. ap not (equal_stays (good_of o own) faulty (good_of o' own') faulty' (not_false (are_known_and_equal (good_of o own) faulty) e) g k);
      };
      settled = λ e. equal_same (good_of o' own') faulty' (not_false (are_known_and_equal (good_of o' own') faulty') e);
    }
label_grows o o' own faulty own' faulty' true false more agreed h k less same = record {
  allows = record {
    own = h;
    good = good_grows o o' own own' more agreed h;
    faulty = to_good faulty own' o' agreed (subst (λ w. allows_tri faulty w ≡ true) (sym (same refl refl)) k);
    may_differ = λ e. refl;
  };
  settled = λ e. refl;
}
label_grows o o' own faulty own' faulty' false true more agreed h k less same = not_both (less refl)
label_grows o o' own faulty own' faulty' false false more agreed h k less same =
    let g = good_grows o o' own own' more agreed h in
    record { allows = record { own = h; good = g; faulty = g; may_differ = λ e. refl }; settled = λ e. refl }

-- ---- in lists

goods_grow : (ls ms : List Label) → AllZip Grows ls ms → AreAllowedTris (map (λ (l : Label). l.good) ls) (map (λ (l : Label). l.good) ms)
goods_grow [] [] h = tt
goods_grow [] (m ∷ ms) h = absurd h
goods_grow (l ∷ ls) [] h = absurd h
goods_grow (l ∷ ls) (m ∷ ms) h = (h.0.allows.good, goods_grow ls ms h.1)

faults_grow : (ls ms : List Label) → AllZip Grows ls ms → AreAllowedTris (map (λ (l : Label). l.faulty) ls) (map (λ (l : Label). l.faulty) ms)
faults_grow [] [] h = tt
faults_grow [] (m ∷ ms) h = absurd h
faults_grow (l ∷ ls) [] h = absurd h
faults_grow (l ∷ ls) (m ∷ ms) h = (h.0.allows.faulty, faults_grow ls ms h.1)

or_false : (a b : Bool) → a ≡ false → b ≡ false → (a || b) ≡ false
or_false true b e f = e
or_false false b e f = f

none_differs : (ls ms : List Label) → AllZip Grows ls ms → list_any (λ (l : Label). l.may_differ) ls ≡ false → list_any (λ (l : Label). l.may_differ) ms ≡ false
none_differs [] [] h e = refl
none_differs [] (m ∷ ms) h e = absurd h
none_differs (l ∷ ls) [] h e = absurd h
none_differs (l ∷ ls) (m ∷ ms) h e =
    let p = or_parts l.may_differ (list_any (λ (k : Label). k.may_differ) ls) e in
    or_false m.may_differ (list_any (λ (k : Label). k.may_differ) ms) (h.0.allows.may_differ p.0) (none_differs ls ms h.1 p.1)

goods_are_faults : (ls ms : List Label) → AllZip Grows ls ms → list_any (λ (l : Label). l.may_differ) ms ≡ false
    → map (λ (l : Label). l.good) ms ≡ map (λ (l : Label). l.faulty) ms
goods_are_faults [] [] h e = refl
goods_are_faults [] (m ∷ ms) h e = absurd h
goods_are_faults (l ∷ ls) [] h e = absurd h
goods_are_faults (l ∷ ls) (m ∷ ms) h e =
    let p = or_parts m.may_differ (list_any (λ (k : Label). k.may_differ) ms) e in
    ap (λ v. v ∷ map (λ (k : Label). k.good) ms) (h.0.settled p.0) ∙ ap (λ vs. m.faulty ∷ vs) (goods_are_faults ls ms h.1 p.1)

module _ (f : Option Fault) (path path' : Decisions) (n : Netlist) (holds : Holds) (l m : ℕ → Label) (sound : IsSound n)
    (p : AreLabels f path n holds l) (q : AreLabels f path' n holds m) (more : (x : ℕ) (b : Bool) → path x ≡ Some b → path' x ≡ Some b)
    (possible : IsContradicted path' n m → ⊥) where
  test : ℕ → Bool
  test x = grows (l x) (m x)

  pins_grow : (z k : ℕ) (xs : List ℕ) → All (λ x. Grows (l x) (m x)) xs → AllZip Grows (on_pins (labels f path) z k (map l xs)) (on_pins (labels f path') z k (map m xs))
  pins_grow z k [] h = tt
  pins_grow z k (x ∷ xs) h = (
    on_line_grows f (Pin z k) (l x) (m x) (All-head (λ y. Grows (l y) (m y)) x xs h),
    pins_grow z (k + 1) xs (All-tail (λ y. Grows (l y) (m y)) x xs h),
  )

  agreed : (x : ℕ) (made : Label) → Contains (signals n) x → m x ≡ on_line f (Stem x) made → IsAgreed (path' x) made.own
  agreed x made c is b e own =
      possible (x, c, (b, e, ap (λ (k : Label). k.own) is ∙ (on_line_own f (Stem x) made ∙ own)))

  at_place : (x : ℕ) (made made' : Label) → l x ≡ on_line f (Stem x) made → m x ≡ on_line f (Stem x) made' → Grows made made' → test x ≡ true
  unfolding test
  at_place x made made' is is' h =
      grows-from (l x) (m x)
      (subst (λ (k : Label). Grows k (m x)) (sym is) (subst (λ (k : Label). Grows (on_line f (Stem x) made) k) (sym is') (on_line_grows f (Stem x) made made' h)))

  at_source : (x : ℕ) (own : Tri) → Contains (signals n) x → l x ≡ on_line f (Stem x) (source_label path x own) → m x ≡ on_line f (Stem x) (source_label path' x own) → test x ≡ true
  at_source x own c is is' =
      at_place x (source_label path x own) (source_label path' x own) is is'
      (label_grows (path x) (path' x) own X own X false false (more x) (agreed x (source_label path' x own) c is') (allows_tri_itself own) refl (λ e. refl) (λ e k. no e))

  at_gate : (d : Definition) → Contains (gates n) d → All (λ x. test x ≡ true) d.pins → test d.id ≡ true
  unfolding test
  at_gate d c h =
      let z = d.id in
      let s : Contains (signals n) z = defined_is_signal n d (contains_filter is_gate n.definitions d c).0 in
      let ls : List Label = pins_of (labels f path) l d in
      let ms : List Label = pins_of (labels f path') m d in
      let is : l z ≡ on_line f (Stem z) ((labels f path).gate d ls) =
      All-contains (λ (e : Definition). l e.id ≡ on_line f (Stem e.id) ((labels f path).gate e (pins_of (labels f path) l e))) (gates n) d p.2 c in
      let is' : m z ≡ on_line f (Stem z) ((labels f path').gate d ms) =
      All-contains (λ (e : Definition). m e.id ≡ on_line f (Stem e.id) ((labels f path').gate e (pins_of (labels f path') m e))) (gates n) d q.2 c in
      let grown : AllZip Grows ls ms = pins_grow z 0 d.pins (λ k x i. Grows-from _ _ (h k x i)) in
      let good : Tri = gate_tri d.kind (map (λ (k : Label). k.good) ls) in
      let good' : Tri = gate_tri d.kind (map (λ (k : Label). k.good) ms) in
      let faulty : Tri = gate_tri d.kind (map (λ (k : Label). k.faulty) ls) in
      let faulty' : Tri = gate_tri d.kind (map (λ (k : Label). k.faulty) ms) in
      let differs : Bool = list_any (λ (k : Label). k.may_differ) ls in
      let differs' : Bool = list_any (λ (k : Label). k.may_differ) ms in
      at_place z ((labels f path).gate d ls) ((labels f path').gate d ms) is is'
      (label_grows (path z) (path' z) good faulty good' faulty' differs differs' (more z) (agreed z ((labels f path').gate d ms) s is')
      (gate_allows_tri d.kind (map (λ (k : Label). k.good) ls) (map (λ (k : Label). k.good) ms) (goods_grow ls ms grown))
      (gate_allows_tri d.kind (map (λ (k : Label). k.faulty) ls) (map (λ (k : Label). k.faulty) ms) (faults_grow ls ms grown))
      (none_differs ls ms grown)
      (λ e k. ap (gate_tri d.kind) (goods_are_faults ls ms grown k)))

  at_inputs : All (λ x. test x ≡ true) n.inputs
  at_inputs =
      let own : ℕ → Tri = λ x. held_value (get_or holds x None) in
      let first : All (λ x. l x ≡ on_line f (Stem x) (source_label path x (own x))) n.inputs =
      mapped_zip (λ x v. l x ≡ on_line f (Stem x) v) (λ x. source_label path x (own x)) n.inputs p.0 in
      let second : All (λ x. m x ≡ on_line f (Stem x) (source_label path' x (own x))) n.inputs =
      mapped_zip (λ x v. m x ≡ on_line f (Stem x) v) (λ x. source_label path' x (own x)) n.inputs q.0 in
      All-from_contains (λ x. test x ≡ true) n.inputs (λ x c.
      at_source x (own x) (input_is_signal n x c)
      (All-contains (λ y. l y ≡ on_line f (Stem y) (source_label path y (own y))) n.inputs x first c)
      (All-contains (λ y. m y ≡ on_line f (Stem y) (source_label path' y (own y))) n.inputs x second c))

  at_cells : All (λ (d : Definition). test d.id ≡ true) (cells n)
  at_cells =
      let first : All (λ (d : Definition). l d.id ≡ on_line f (Stem d.id) (source_label path d.id X)) (cells n) =
      mapped_zip (λ (d : Definition) v. l d.id ≡ on_line f (Stem d.id) v) (λ (d : Definition). source_label path d.id X) (cells n) p.1 in
      let second : All (λ (d : Definition). m d.id ≡ on_line f (Stem d.id) (source_label path' d.id X)) (cells n) =
      mapped_zip (λ (d : Definition) v. m d.id ≡ on_line f (Stem d.id) v) (λ (d : Definition). source_label path' d.id X) (cells n) q.1 in
      All-from_contains (λ (d : Definition). test d.id ≡ true) (cells n) (λ d c.
      at_source d.id X (defined_is_signal n d (contains_filter is_cell n.definitions d c).0)
      (All-contains (λ (e : Definition). l e.id ≡ on_line f (Stem e.id) (source_label path e.id X)) (cells n) d first c)
      (All-contains (λ (e : Definition). m e.id ≡ on_line f (Stem e.id) (source_label path' e.id X)) (cells n) d second c))

  pub more_known : (x : ℕ) → Contains (signals n) x → AllowsLabel (l x) (m x)
  unfolding test
  more_known x c = (Grows-from (l x) (m x) (everywhere n test sound.closed at_inputs at_cells at_gate sound.acyclic x c)).allows
