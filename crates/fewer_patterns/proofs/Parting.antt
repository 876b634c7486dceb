-- The patterns in front, with which the rounds begin, and those behind, which stay as they are.
use Rattle.std.proofs.Common.{◌≡◌, ◌∙◌, ℕ, ◌+◌, ◌-◌, ◌≤◌, List, ◌++◌, length, map, Option, ap, ap₂, subst, sym, arith, length-append}
use Rattle.std.specs.List.{All, AllZip}
use Rattle.std.proofs.lemmas.List.{length-take-le, take-append-drop}
use Rattle.std.proofs.lemmas.List.Elements.{All-append, All-drop, All-take}
use Rattle.statement.specs.declared.lines.Fault.{Fault}
use Rattle.statement.specs.declared.lines.Point.{Point}
use Rattle.statement.specs.Netlists.{Netlist}
use Rattle.statement.specs.Patterns.{Holds, Pattern}
use Rattle.cubes.specs.Cubes.{IsPatternOf}
use Rattle.word_sim.specs.Hits.{LastDetected}
use Rattle.word_sim.specs.Never.{unmarked}
use Rattle.fewer_patterns.specs.Fewer.{IsNoWorse, IsSeenBy, Keeps}
use Rattle.fewer_patterns.specs.declared.fronts.Front.{Front}
use Rattle.fewer_patterns.specs.declared.fronts.ToldPatterns.{ToldPatterns}
use Rattle.fewer_patterns.specs.inner.Enough.{AllTold, AreEnough, is_settled}
use Rattle.fewer_patterns.specs.inner.Fronts.{AreJoined, IsFront}
use Rattle.fewer_patterns.specs.inner.Joined.{joined, unsettled}
use Rattle.fewer_patterns.proofs.Joining.{all_joined, all_left, all_told}
use Rattle.fewer_patterns.proofs.Seeing.{all_seen, keeps}

abbrev pub Told : Type 0
Told = Option (ℕ × Point)

module _ (n : Netlist) (holds : Holds) (patterns : List Pattern) (start : ℕ) (faults : List Fault) (last : List Told) (front : Front) (within : start ≤ length patterns)
    (told : AllZip (LastDetected n patterns) faults last) (is : IsFront start faults patterns last front) where
  abbrev pub before : List Pattern
  before = front.made.patterns.items

  abbrev pub tail : List Pattern
  tail = front.tail.items

  parts : patterns ≡ before ++ tail
  parts = sym (ap₂ (λ (xs ys : List Pattern). xs ++ ys) is.before is.behind ∙ take-append-drop start patterns)

  size : start ≡ length before
  size = sym (ap (λ (ps : List Pattern). length ps) is.before ∙ length-take-le start patterns within)

  told_parts : AllZip (LastDetected n (before ++ tail)) faults last
  told_parts = subst (λ (ps : List Pattern). AllZip (LastDetected n ps) faults last) parts told

  left_are : front.left.items ≡ unmarked (map (is_settled (length before)) last) faults
  left_are = is.left ∙ ap (λ (i : ℕ). unmarked (map (is_settled i) last) faults) size

  told_are : front.made.last.items ≡ unsettled (length before) last
  told_are = is.told ∙ ap (λ (i : ℕ). unsettled i last) size

  -- those in front are enough for what is left to them
  pub front_enough : All (IsPatternOf n holds) patterns → AreEnough n holds front.left.items start before front.made.last.items
  front_enough obey =
      let detect : AllZip (LastDetected n before) (unmarked (map (is_settled (length before)) last) faults) (unsettled (length before) last) = all_left n before tail faults last told_parts in
      record {
        obey = subst (λ (ps : List Pattern). All (IsPatternOf n holds) ps) (sym is.before) (All-take (IsPatternOf n holds) start patterns obey);
        few = omega (arith, size);
        detect =
            subst (λ (os : List Told). AllZip (LastDetected n before) front.left.items os) (sym told_are)
            (subst (λ (fs : List Fault). AllZip (LastDetected n before) fs (unsettled (length before) last)) (sym left_are) detect);
        told = subst (λ (os : List Told). AllTold os) (sym told_are) (all_told (length before) last);
      }

  module _ (new : List Pattern) (tells : List Told) (enough : AreEnough n holds front.left.items start new tells) (all : ToldPatterns)
      (join : AreJoined n start faults last new tells tail all) where
    -- others that are enough for it, with the tail, are no worse than all were
    no_worse : All (IsPatternOf n holds) patterns → IsNoWorse n holds faults patterns all.patterns.items
    no_worse obey =
        let behind = subst (λ (ps : List Pattern). All (IsPatternOf n holds) ps) (sym is.behind) (All-drop (IsPatternOf n holds) start patterns obey) in
        let many : length patterns ≡ length (before ++ tail) = ap (λ (ps : List Pattern). length ps) parts in
        let seen = all_seen n new front.left.items tells enough.detect enough.told in
        subst (λ (ps : List Pattern). IsNoWorse n holds faults patterns ps) (sym join.patterns) (record {
          obey = All-append (IsPatternOf n holds) new tail enough.obey behind;
          few = omega (arith, size, enough.few, many, length-append before tail, length-append new tail);
          keeps = subst (λ (ps : List Pattern). Keeps n faults ps (new ++ tail)) (sym parts)
              (keeps n before tail new faults last told_parts (subst (λ (fs : List Fault). All (IsSeenBy n new) fs) left_are seen));
        })

    -- and this is where they last detect each fault
    joined_told : AllZip (LastDetected n all.patterns.items) faults all.last.items
    joined_told =
        let less = start - length new in
        let sum : less + length new ≡ length before = omega (arith, enough.few, size) in
        let own = subst (λ (fs : List Fault). AllZip (LastDetected n new) fs tells) left_are enough.detect in
        let by = all_joined n before new tail less sum faults last tells join.never told_parts own join.tells in
        let by_start = subst (λ (i : ℕ). AllZip (LastDetected n (new ++ tail)) faults (joined i less last tells join.never)) (sym size) by in
        subst (λ (ps : List Pattern). AllZip (LastDetected n ps) faults all.last.items) (sym join.patterns)
        (subst (λ (os : List Told). AllZip (LastDetected n (new ++ tail)) faults os) (sym join.lasts) by_start)

    pub all_told_again : All (IsPatternOf n holds) patterns
        → IsNoWorse n holds faults patterns all.patterns.items × AllZip (LastDetected n all.patterns.items) faults all.last.items
    all_told_again obey = (no_worse obey, joined_told)
