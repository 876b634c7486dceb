-- The last decision is taken back.
use Rattle.std.proofs.Common.{◌≡◌, ◌<◌, ℕ, zero, suc, Bool, true, false, List, [], ◌∷◌, ◌++◌, map, length, get_or, set, take, drop, reverse, Option, Some, None, refl, sym, ◌∙◌, ap, subst, inl, inr, arith}
use Rattle.std.proofs.lemmas.Bool.{cases_eq}
use Rattle.std.proofs.lemmas.List.{get_or-set_same, get_or-set_other, length-set, length-append, take_at, append-nil, take-append-le}
use Rattle.statement.specs.declared.kinds.Tri.TheVariants.{X}
use Rattle.statement.specs.declared.lines.Fault.{Fault}
use Rattle.statement.specs.Patterns.{Holds}
use Rattle.statement.specs.Netlists.{Netlist, signals}
use Rattle.netlist.specs.Conditions.{IsSound}
use Rattle.netlist.specs.Settled.{at}
use Rattle.netlist.proofs.Placed.{signal_from}
use Rattle.tri.specs.declared.labels.Label.{Label}
use Rattle.tri.specs.Labels.{Decisions, labels, label_of}
use Rattle.tri.specs.Labelling.{AreLabelled, decided_in}
use Rattle.tri.specs.Paths.{decisions}
use Rattle.events.specs.declared.trails.Change.{Change}
use Rattle.events.specs.Trails.{undone}
use Rattle.events.specs.Standing.{Standing, SettlesAnew}
use Rattle.pair_sim.specs.declared.levels.Level.{Level}
use Rattle.pair_sim.specs.inner.Levels.{blank, path_of, decided_count, IsOnTop, GoBack, IsKept}
use Rattle.pair_sim.proofs.Clashes.{same_elsewhere, decided_last}
use Rattle.pair_sim.proofs.Decisions.{source_is_driven}
use Rattle.pair_sim.proofs.Free.{own_if_undecided}
use Rattle.pair_sim.proofs.Noting.{labelled_once}
use Rattle.pair_sim.proofs.Rows.{decided_unset, reverse_push}
use Rattle.pair_sim.proofs.Assigning.{relabelled}

map_take : {A B : Type 0} (g : A → B) (k : ℕ) (xs : List A) → take k (map g xs) ≡ map g (take k xs)
map_take g zero xs = refl
map_take g (suc k) [] = refl
map_take g (suc k) (x ∷ xs) = ap (λ ys. g x ∷ ys) (map_take g k xs)

module _ (f : Fault) (n : Netlist) (holds : Holds) (sound : IsSound n) (row : List (Option Bool)) (ls : List Level) (v : Level) (names : List ℕ) (values : List Label)
    (trail : List (Change Label)) (kept : IsKept f n holds row (ls ++ v ∷ []) names values trail) (row' : List (Option Bool)) (row_set : row' ≡ set row v.signal None) where
  pub top : IsOnTop f n holds v (reverse ls) (GoBack f n holds (reverse ls)) trail values
  top = subst (λ (vs : List Level). GoBack f n holds vs trail values) (reverse_push ls v) kept.back

  row_was : (y : ℕ) → decided_in row y ≡ decisions ((v.signal, v.bit) ∷ path_of (reverse ls)) y
  row_was y = kept.row_is y ∙ ap (λ (vs : List Level). decisions (path_of vs) y) (reverse_push ls v)

  in_row : v.signal < length row
  in_row = let l = top.within in let e = kept.row_size in omega arith

  row_now : (y : ℕ) → decided_in row' y ≡ decisions (path_of (reverse ls)) y
  row_now y = elim (cases_eq y v.signal) [
    | inl e ↦
        ap (decided_in row') e ∙ (ap (λ (r : List (Option Bool)). get_or r v.signal None) row_set ∙ (get_or-set_same row v.signal None None in_row
        ∙ (sym top.fresh ∙ ap (decisions (path_of (reverse ls))) (sym e))))
    | inr other ↦
        ap (λ (r : List (Option Bool)). get_or r y None) row_set ∙ (get_or-set_other row v.signal y None None other
        ∙ (row_was y ∙ same_elsewhere (path_of (reverse ls)) v.signal y v.bit other))
  ]

  decided_now : decided_in row' ≡ decisions (path_of (reverse ls))
  decided_now = λ i y. row_now y i

  counted_now : decided_count row' ≡ length ls
  counted_now =
      let here : get_or row v.signal None ≡ Some v.bit = row_was v.signal ∙ decided_last (path_of (reverse ls)) v.signal v.bit in
      let e = ap decided_count row_set in
      let d = decided_unset row v.signal v.bit in_row here in
      let k = kept.counted in
      let l = length-append ls (v ∷ []) in
      omega arith

  row_size_now : length row' ≡ length (signals n)
  row_size_now = ap length row_set ∙ (length-set row v.signal None ∙ kept.row_size)

  -- the trail is played back
  pub undone_possible : v.contradicted ≡ false → (names' : List ℕ) → names' ≡ take v.mark names
      → IsKept f n holds row' ls names' (undone (drop v.mark trail) values) (take v.mark trail)
  undone_possible flag names' names_are =
      let back : undone (drop v.mark trail) values ≡ top.below = (top.changes flag).undone_is in
      record {
        row_size = row_size_now;
        row_is = row_now;
        counted = counted_now;
        labelled = subst (AreLabelled (Some f) (decisions (path_of (reverse ls))) n holds) (sym back) top.are;
        back = subst (λ (w : List Label). GoBack f n holds (reverse ls) (take v.mark trail) w) (sym back) top.under;
        names_are = names_are ∙ (ap (take v.mark) kept.names_are ∙ map_take (λ (c : Change Label). c.signal) v.mark trail);
      }

  module _ (flag : v.contradicted ≡ true) (s' : Standing Label) (changes : List (Change Label)) (trail_is : s'.trail ≡ trail ++ changes) (size : length s'.values ≡ length values)
      (settles : SettlesAnew (labels (Some f) (decided_in row')) n v.signal (label_of None X X false) values s'.values) where
    are_now : AreLabelled (Some f) (decisions (path_of (reverse ls))) n holds s'.values
    are_now =
        let p = decisions (path_of (reverse ls)) in
        let p' = decisions ((v.signal, v.bit) ∷ path_of (reverse ls)) in
        let signal = signal_from n sound.formed.numbered v.signal top.within in
        let own : (at top.below blank v.signal).own ≡ X = own_if_undecided f p n holds (at top.below blank) (top.are.labels blank) v.signal signal top.fresh ∙ top.free in
        let was : AreLabelled (Some f) p' n holds values =
        subst (λ (vs : List Level). AreLabelled (Some f) (decisions (path_of vs)) n holds values) (reverse_push ls v) kept.labelled in
        relabelled f n holds p' p v.signal values s'.values (λ y ne. same_elsewhere (path_of (reverse ls)) v.signal y v.bit ne) was
        (source_is_driven f p p n holds (at top.below blank) v.signal (top.are.labels blank) own)
        (subst (λ (q : Decisions). SettlesAnew (labels (Some f) q) n v.signal (label_of (p v.signal) X X false) values s'.values) decided_now
        (subst (λ o. SettlesAnew (labels (Some f) (decided_in row')) n v.signal (label_of o X X false) values s'.values) (sym top.fresh) settles))
        size

    -- the labels are settled anew, and the trail is as before
    pub undone_contradicted : IsKept f n holds row' ls names s'.values (take v.mark s'.trail)
    undone_contradicted =
        let whole : length trail ≡ v.mark = top.none flag in
        let same_trail : take v.mark s'.trail ≡ take v.mark trail = ap (take v.mark) trail_is ∙ take-append-le v.mark trail changes (omega arith) in
        let all : take v.mark trail ≡ trail = ap (take v.mark) (sym (append-nil trail)) ∙ take_at trail [] v.mark whole in
        let below : top.below ≡ s'.values = labelled_once f n holds sound (decisions (path_of (reverse ls))) top.below s'.values top.are are_now in
        record {
          row_size = row_size_now;
          row_is = row_now;
          counted = counted_now;
          labelled = are_now;
          back = subst (λ (t : List (Change Label)). GoBack f n holds (reverse ls) t s'.values) (sym same_trail)
              (subst (λ (w : List Label). GoBack f n holds (reverse ls) (take v.mark trail) w) below top.under);
          names_are = kept.names_are ∙ ap (map (λ (c : Change Label). c.signal)) (sym (same_trail ∙ all));
        }
