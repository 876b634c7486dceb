-- What the gates of a line that isn't slow make of its value: the same value, but for what a label says of its own pins.
use Rattle.std.proofs.Common.{◌≡◌, Bool, true, false, not, cond, ◌||◌, List, [], ◌∷◌, map, Option, Some, None, refl, sym, ◌∙◌, ap, subst}
use Rattle.std.specs.Prelude.{if◌then◌else◌}
use Rattle.std.specs.List.{All, AllZip, list_any}
use Rattle.std.proofs.lemmas.Bool.{not-true}
use Rattle.std.proofs.lemmas.List.Elements.{All-nil, All-cons, All-head, All-tail}
use Rattle.statement.specs.declared.kinds.Tri.{Tri}
use Rattle.statement.specs.declared.kinds.Tri.TheVariants.{Zero, One, X}
use Rattle.statement.specs.declared.kinds.Kind.TheVariants.{And, Or, Const0, Const1}
use Rattle.statement.specs.declared.lines.Line.{Line}
use Rattle.statement.specs.declared.lines.Fault.{Fault}
use Rattle.statement.specs.Values.{gate_bit, is_line, known}
use Rattle.tri.specs.declared.labels.Label.{Label}
use Rattle.tri.specs.Gates.{gate_tri}
use Rattle.tri.specs.Labels.{on_line, label_of, good_of, are_known_and_equal, is_known_as}
use Rattle.tri.proofs.AboveLemmas.{not_false}
use Rattle.tri.proofs.Choices.{no}
use Rattle.transition_frames.proofs.Slow.{tie_value, late_value, quick}
use Rattle.transition_frames.proofs.Sources.{same_line}

-- ---- bits

pub passes_bit : (v before now tie hold : Bool) → tie ≡ gate_bit (cond v Const0 Const1) [] → hold ≡ gate_bit (cond v And Or) (before ∷ tie ∷ [])
    → gate_bit (cond v Or And) (now ∷ hold ∷ []) ≡ now
passes_bit v before now tie hold t h =
    ap (λ w. gate_bit (cond v Or And) (now ∷ w ∷ [])) (h ∙ ap (λ w. gate_bit (cond v And Or) (before ∷ w ∷ [])) (t ∙ tie_value v))
    ∙ (late_value v (not v) before now ∙ ap (λ w. cond w v now) (quick v before))

-- ---- labels that are alike for their readers

pub record IsAlike (l m : Label) : Type 0 where
  pub good : l.good ≡ m.good
  pub faulty : l.faulty ≡ m.faulty
  pub may_differ : l.may_differ ≡ m.may_differ

pub itself : (l : Label) → IsAlike l l
itself l = record { good = refl; faulty = refl; may_differ = refl }

pub goods_alike : (ls ms : List Label) → AllZip IsAlike ls ms → map (λ (l : Label). l.good) ls ≡ map (λ (l : Label). l.good) ms
goods_alike [] [] h = refl
goods_alike [] (m ∷ ms) h = absurd h
goods_alike (l ∷ ls) [] h = absurd h
goods_alike (l ∷ ls) (m ∷ ms) h =
    ap (λ v. v ∷ map (λ (k : Label). k.good) ls) h.0.good ∙ ap (λ vs. m.good ∷ vs) (goods_alike ls ms h.1)

pub faults_alike : (ls ms : List Label) → AllZip IsAlike ls ms → map (λ (l : Label). l.faulty) ls ≡ map (λ (l : Label). l.faulty) ms
faults_alike [] [] h = refl
faults_alike [] (m ∷ ms) h = absurd h
faults_alike (l ∷ ls) [] h = absurd h
faults_alike (l ∷ ls) (m ∷ ms) h =
    ap (λ v. v ∷ map (λ (k : Label). k.faulty) ls) h.0.faulty ∙ ap (λ vs. m.faulty ∷ vs) (faults_alike ls ms h.1)

pub differing_alike : (ls ms : List Label) → AllZip IsAlike ls ms → list_any (λ (l : Label). l.may_differ) ls ≡ list_any (λ (l : Label). l.may_differ) ms
differing_alike [] [] h = refl
differing_alike [] (m ∷ ms) h = absurd h
differing_alike (l ∷ ls) [] h = absurd h
differing_alike (l ∷ ls) (m ∷ ms) h =
    ap (λ v. v || list_any (λ (k : Label). k.may_differ) ls) h.0.may_differ ∙ ap (λ v. m.may_differ || v) (differing_alike ls ms h.1)

pub label_of_alike : (o p : Option Bool) (u v : Tri) (x y : Tri) (c d : Bool) → o ≡ p → u ≡ v → x ≡ y → c ≡ d → label_of o u x c ≡ label_of p v y d
label_of_alike o p u v x y c d eo eu ex ec =
    ap (λ w. label_of w u x c) eo ∙ (ap (λ w. label_of p w x c) eu ∙ (ap (λ w. label_of p v w c) ex ∙ ap (label_of p v y) ec))

-- none may differ
pub quiet_alike : (ls ms : List Label) → AllZip IsAlike ls ms → All (λ (l : Label). l.may_differ ≡ false) ls → All (λ (l : Label). l.may_differ ≡ false) ms
quiet_alike [] [] h q = All-nil _
quiet_alike [] (m ∷ ms) h q = absurd h
quiet_alike (l ∷ ls) [] h q = absurd h
quiet_alike (l ∷ ls) (m ∷ ms) h q =
    All-cons (λ (k : Label). k.may_differ ≡ false) m ms (sym h.0.may_differ ∙ All-head (λ (k : Label). k.may_differ ≡ false) l ls q)
    (quiet_alike ls ms h.1 (All-tail (λ (k : Label). k.may_differ ≡ false) l ls q))

pub alike_quiet : (ls ms : List Label) → AllZip IsAlike ls ms → All (λ (l : Label). l.may_differ ≡ false) ms → All (λ (l : Label). l.may_differ ≡ false) ls
alike_quiet [] [] h q = All-nil _
alike_quiet [] (m ∷ ms) h q = absurd h
alike_quiet (l ∷ ls) [] h q = absurd h
alike_quiet (l ∷ ls) (m ∷ ms) h q =
    All-cons (λ (k : Label). k.may_differ ≡ false) l ls (h.0.may_differ ∙ All-head (λ (k : Label). k.may_differ ≡ false) m ms q)
    (alike_quiet ls ms h.1 (All-tail (λ (k : Label). k.may_differ ≡ false) m ms q))

-- ---- a label where no fault stands

-- where the values may not differ they are one, and where they may they aren't known and equal
pub record IsReduced (l : Label) : Type 0 where
  pub one : l.may_differ ≡ false → l.faulty ≡ l.good
  pub two : l.may_differ ≡ true → are_known_and_equal l.good l.faulty ≡ false

known_and_equal : (v w : Tri) → are_known_and_equal v w ≡ true → w ≡ v
known_and_equal Zero Zero e = refl
known_and_equal Zero One e = no e
known_and_equal Zero X e = no e
known_and_equal One Zero e = no e
known_and_equal One One e = refl
known_and_equal One X e = no e
known_and_equal X w e = no e

pub label_of_reduced : (decision : Option Bool) (own faulty : Tri) (differs : Bool) → IsReduced (label_of decision own faulty differs)
label_of_reduced decision own faulty false = record { one = λ e. refl; two = λ e. no e }
label_of_reduced decision own faulty true = record {
  one = λ e. known_and_equal (good_of decision own) faulty (not_false (are_known_and_equal (good_of decision own) faulty) e);
  two = λ e. not-true (are_known_and_equal (good_of decision own) faulty) e;
}

-- ---- the three gates of a line that isn't slow

-- the label of a bit that is known
abbrev pub firm : Bool → Label
firm b = label_of None (known b) (known b) false

firm_alone : (b differs : Bool) → label_of None (known b) (known b) differs ≡ firm b
firm_alone true true = refl
firm_alone true false = refl
firm_alone false true = refl
firm_alone false false = refl

shut : (v : Bool) (w : Tri) → gate_tri (cond v And Or) (w ∷ known (not v) ∷ []) ≡ known (not v)
shut true Zero = refl
shut true One = refl
shut true X = refl
shut false Zero = refl
shut false One = refl
shut false X = refl

clear : (v : Bool) (w : Tri) → gate_tri (cond v Or And) (w ∷ known (not v) ∷ []) ≡ w
clear true Zero = refl
clear true One = refl
clear true X = refl
clear false Zero = refl
clear false One = refl
clear false X = refl

or_false : (b : Bool) → (b || false) ≡ b
or_false true = refl
or_false false = refl

-- the label that a gate of two pins gives
abbrev two_pins : (Tri → Tri → Tri) → Option Bool → Label → Label → Label
two_pins gate decision l m = label_of decision (gate l.good m.good) (gate l.faulty m.faulty) (l.may_differ || (m.may_differ || false))

pub tie_firm : (v : Bool) (decision : Option Bool) → decision ≡ None
    → label_of decision (gate_tri (cond v Const0 Const1) []) (gate_tri (cond v Const0 Const1) []) false ≡ firm (not v)
tie_firm v decision e =
    let step : (w : Bool) → gate_tri (cond w Const0 Const1) [] ≡ known (not w) = elim [ true ↦ refl | false ↦ refl ] in
    ap (λ o. label_of o (gate_tri (cond v Const0 Const1) []) (gate_tri (cond v Const0 Const1) []) false) e ∙ ap (λ w. label_of None w w false) (step v)

pub hold_firm : (v : Bool) (decision : Option Bool) → decision ≡ None → (before tie : Label) → tie ≡ firm (not v)
    → label_of decision (gate_tri (cond v And Or) (before.good ∷ tie.good ∷ [])) (gate_tri (cond v And Or) (before.faulty ∷ tie.faulty ∷ []))
    (before.may_differ || (tie.may_differ || false)) ≡ firm (not v)
hold_firm v decision e before tie t =
    ap (λ o. two_pins (λ a b. gate_tri (cond v And Or) (a ∷ b ∷ [])) o before tie) e
    ∙ (ap (two_pins (λ a b. gate_tri (cond v And Or) (a ∷ b ∷ [])) None before) t
    ∙ (ap (λ w. label_of None w (gate_tri (cond v And Or) (before.faulty ∷ known (not v) ∷ [])) (before.may_differ || false)) (shut v before.good)
    ∙ (ap (λ w. label_of None (known (not v)) w (before.may_differ || false)) (shut v before.faulty)
    ∙ firm_alone (not v) (before.may_differ || false))))

reduced_alike : (l : Label) → IsReduced l → IsAlike (label_of None l.good l.faulty l.may_differ) l
reduced_alike l r =
    let faulty : (b : Bool) → l.may_differ ≡ b → (if b then l.faulty else l.good) ≡ l.faulty = elim [ true ↦ λ e. refl | false ↦ λ e. sym (r.one e) ] in
    let differs : (b : Bool) → l.may_differ ≡ b → (label_of None l.good l.faulty b).may_differ ≡ b = elim [ true ↦ λ e. ap not (r.two e) | false ↦ λ e. refl ] in
    record { good = refl; faulty = faulty l.may_differ refl; may_differ = differs l.may_differ refl }

pub late_alike : (v : Bool) (decision : Option Bool) → decision ≡ None → (now hold : Label) → hold ≡ firm (not v) → IsReduced now
    → IsAlike (label_of decision (gate_tri (cond v Or And) (now.good ∷ hold.good ∷ [])) (gate_tri (cond v Or And) (now.faulty ∷ hold.faulty ∷ []))
    (now.may_differ || (hold.may_differ || false))) now
late_alike v decision e now hold h r =
    let is : two_pins (λ a b. gate_tri (cond v Or And) (a ∷ b ∷ [])) decision now hold ≡ label_of None now.good now.faulty now.may_differ =
    ap (λ o. two_pins (λ a b. gate_tri (cond v Or And) (a ∷ b ∷ [])) o now hold) e
    ∙ (ap (two_pins (λ a b. gate_tri (cond v Or And) (a ∷ b ∷ [])) None now) h
    ∙ (ap (λ w. label_of None w (gate_tri (cond v Or And) (now.faulty ∷ known (not v) ∷ [])) (now.may_differ || false)) (clear v now.good)
    ∙ (ap (λ w. label_of None now.good w (now.may_differ || false)) (clear v now.faulty)
    ∙ ap (label_of None now.good now.faulty) (or_false now.may_differ)))) in
    subst (λ (l : Label). IsAlike l now) (sym is) (reduced_alike now r)

-- ---- lines

pub line_clear : (f : Fault) (line : Line) → is_line f.line line ≡ false → (l : Label) → on_line (Some f) line l ≡ l
line_clear f line e l = ap (λ b. if b then record { own = l.own; good = l.good; faulty = known f.value; may_differ = not (is_known_as f.value l.good) } else l) e

abbrev stuck_at : Bool → Label → Label
stuck_at v l = record { own = l.own; good = l.good; faulty = known v; may_differ = not (is_known_as v l.good) }

pub stuck_line : (f : Fault) (l : Label) → on_line (Some f) f.line l ≡ stuck_at f.value l
stuck_line f l = ap (λ b. if b then stuck_at f.value l else l) (same_line f.line)
