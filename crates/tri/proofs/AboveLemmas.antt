-- A label and bits that it is above: on lines, at gates, and in lists.
use Rattle.std.proofs.Common.{◌≡◌, Bool, true, false, not, cond, ◌&&◌, ◌||◌, List, [], ◌∷◌, ◌++◌, map, Option, Some, None, refl, sym, ◌∙◌, ap, subst}
use Rattle.std.specs.Bool.{beq}
use Rattle.std.specs.List.{list_any}
use Rattle.std.proofs.lemmas.Bool.{both_ways, or_parts, and_parts, and_from}
use Rattle.statement.specs.declared.kinds.Tri.{Tri}
use Rattle.statement.specs.declared.kinds.Tri.TheVariants.{Zero, One, X}
use Rattle.statement.specs.declared.lines.Line.{Line}
use Rattle.statement.specs.declared.lines.Fault.{Fault}
use Rattle.statement.specs.Values.{is_line, stuck, known, allows}
use Rattle.netlist.specs.ThreeValues.{AreAllowed}
use Rattle.tri.specs.declared.labels.Label.{Label}
use Rattle.tri.specs.Labels.{is_known_as, are_known_and_equal, on_line, good_of, label_of, IsAbove, AreAbove}
use Rattle.tri.proofs.Choices.{no, known_allows_itself}

-- ---- as a test

pub is_above : Label → Bool → Bool → Bool
is_above l a b = allows l.own a && (allows l.good a && (allows l.faulty b && (l.may_differ || beq a b)))

beq_same : (a b : Bool) → beq a b ≡ true → a ≡ b
beq_same true true e = refl
beq_same true false e = no e
beq_same false true e = no e
beq_same false false e = refl

same_beq : (a b : Bool) → a ≡ b → beq a b ≡ true
same_beq true true e = refl
same_beq true false e = absurd (both_ways false refl (sym e))
same_beq false true e = no e
same_beq false false e = refl

differs_or : (d a b : Bool) → (d ≡ false → a ≡ b) → (d || beq a b) ≡ true
differs_or true a b h = refl
differs_or false a b h = same_beq a b (h refl)

pub IsAbove-from : (l : Label) (a b : Bool) → is_above l a b ≡ true → IsAbove l a b
unfolding is_above
IsAbove-from l a b h =
    let p = and_parts (allows l.own a) (allows l.good a && (allows l.faulty b && (l.may_differ || beq a b))) h in
    let q = and_parts (allows l.good a) (allows l.faulty b && (l.may_differ || beq a b)) p.1 in
    let r = and_parts (allows l.faulty b) (l.may_differ || beq a b) q.1 in
    record {
      own = p.0;
      good = q.0;
      faulty = r.0;
      same = λ e. beq_same a b (subst (λ (d : Bool). (d || beq a b) ≡ true) e r.1);
    }

pub is_above-from : (l : Label) (a b : Bool) → IsAbove l a b → is_above l a b ≡ true
unfolding is_above
is_above-from l a b h =
    and_from (allows l.own a) (allows l.good a && (allows l.faulty b && (l.may_differ || beq a b))) h.own
    (and_from (allows l.good a) (allows l.faulty b && (l.may_differ || beq a b)) h.good
    (and_from (allows l.faulty b) (l.may_differ || beq a b) h.faulty (differs_or l.may_differ a b h.same)))

-- ---- on a line

known_as_allows : (v : Bool) (t : Tri) (a : Bool) → is_known_as v t ≡ true → allows t a ≡ true → a ≡ v
known_as_allows true One a e h = h
known_as_allows true Zero a e h = no e
known_as_allows true X a e h = no e
known_as_allows false Zero true e h = no h
known_as_allows false Zero false e h = refl
known_as_allows false One a e h = no e
known_as_allows false X a e h = no e

pub not_false : (b : Bool) → not b ≡ false → b ≡ true
not_false true e = refl
not_false false e = absurd (both_ways false refl (sym e))

pub on_line_above : (f : Fault) (line : Line) (l : Label) (a b : Bool) → IsAbove l a b → IsAbove (on_line (Some f) line l) a (stuck (λ c. c) (Some f) line b)
on_line_above f line l a b h =
    let step : (c : Bool) → IsAbove (cond c (record { own = l.own; good = l.good; faulty = known f.value; may_differ = not (is_known_as f.value l.good) }) l) a (cond c f.value b) =
    elim [
      | true ↦ record {
        own = h.own;
        good = h.good;
        faulty = known_allows_itself f.value;
        same = λ e. known_as_allows f.value l.good a (not_false (is_known_as f.value l.good) e) h.good;
      }
      | false ↦ h
    ] in
    step (is_line f.line line)

-- ---- at a gate

equal_allow : (v w : Tri) (a b : Bool) → are_known_and_equal v w ≡ true → allows v a ≡ true → allows w b ≡ true → a ≡ b
equal_allow Zero w a b e h k = known_as_allows false Zero a refl h ∙ sym (known_as_allows false w b e k)
equal_allow One w a b e h k = known_as_allows true One a refl h ∙ sym (known_as_allows true w b e k)
equal_allow X w a b e h k = no e

good_of_allows : (o : Option Bool) (own : Tri) (a : Bool) → allows own a ≡ true → ((c : Bool) → o ≡ Some c → a ≡ c) → allows (good_of o own) a ≡ true
good_of_allows None own a h k = h
good_of_allows (Some c) own a h k = subst (λ x. allows (known c) x ≡ true) (sym (k c refl)) (known_allows_itself c)

pub label_of_above : (o : Option Bool) (own faulty : Tri) (differs a b : Bool) → allows own a ≡ true → ((c : Bool) → o ≡ Some c → a ≡ c)
    → allows faulty b ≡ true → (differs ≡ false → a ≡ b) → IsAbove (label_of o own faulty differs) a b
label_of_above o own faulty true a b h k m same =
    let g = good_of_allows o own a h k in
    record { own = h; good = g; faulty = m; same = λ e. equal_allow (good_of o own) faulty a b (not_false (are_known_and_equal (good_of o own) faulty) e) g m }
label_of_above o own faulty false a b h k m same =
    let g = good_of_allows o own a h k in
    record { own = h; good = g; faulty = subst (λ x. allows (good_of o own) x ≡ true) (same refl) g; same = λ e. same refl }

-- ---- in lists

pub goods_allowed : (ls : List Label) (goods faults : List Bool) → AreAbove ls goods faults → AreAllowed (map (λ (l : Label). l.good) ls) goods
goods_allowed [] [] [] h = tt
goods_allowed (l ∷ ls) (g ∷ goods) (b ∷ faults) h = (h.0.good, goods_allowed ls goods faults h.1)
goods_allowed _ _ _ h = absurd h

pub faults_allowed : (ls : List Label) (goods faults : List Bool) → AreAbove ls goods faults → AreAllowed (map (λ (l : Label). l.faulty) ls) faults
faults_allowed [] [] [] h = tt
faults_allowed (l ∷ ls) (g ∷ goods) (b ∷ faults) h = (h.0.faulty, faults_allowed ls goods faults h.1)
faults_allowed _ _ _ h = absurd h

pub same_where_none_differs : (ls : List Label) (goods faults : List Bool) → AreAbove ls goods faults
    → list_any (λ (l : Label). l.may_differ) ls ≡ false → goods ≡ faults
same_where_none_differs [] [] [] h e = refl
same_where_none_differs (l ∷ ls) (g ∷ goods) (b ∷ faults) h e =
    let p = or_parts l.may_differ (list_any (λ (m : Label). m.may_differ) ls) e in
    ap (λ x. x ∷ goods) (h.0.same p.0) ∙ ap (λ xs. b ∷ xs) (same_where_none_differs ls goods faults h.1 p.1)
same_where_none_differs _ _ _ h e = absurd h

pub AreAbove-append : (ls ms : List Label) (goods more_goods faults more_faults : List Bool) → AreAbove ls goods faults → AreAbove ms more_goods more_faults
    → AreAbove (ls ++ ms) (goods ++ more_goods) (faults ++ more_faults)
AreAbove-append [] ms [] more_goods [] more_faults h k = k
AreAbove-append (l ∷ ls) ms (g ∷ goods) more_goods (b ∷ faults) more_faults h k = (h.0, AreAbove-append ls ms goods more_goods faults more_faults h.1 k)
AreAbove-append _ ms _ more_goods _ more_faults h k = absurd h
