-- One decision more, and how it is taken back.
use Rattle.std.proofs.Common.{◌≡◌, ◌≢◌, ◌≤◌, ◌<◌, ◌+◌, ℕ, Bool, true, false, List, [], ◌∷◌, ◌++◌, map, length, get_or, set, take, drop, reverse, Option, Some, None, refl, sym, ◌∙◌, ap, subst, inl, inr, arith}
use Rattle.std.specs.Bool.{MatchBool}
use Rattle.std.specs.List.{Contains}
use Rattle.std.proofs.lemmas.Bool.{cases_eq}
use Rattle.std.proofs.lemmas.List.{get_or-set_same, get_or-set_other, length-set, length-append, take_at, drop_at, map-append, append-nil}
use Rattle.statement.specs.declared.kinds.Tri.TheVariants.{X}
use Rattle.statement.specs.declared.lines.Fault.{Fault}
use Rattle.statement.specs.declared.lines.Line.TheVariants.{Stem}
use Rattle.statement.specs.Patterns.{Holds}
use Rattle.statement.specs.Netlists.{Netlist, signals}
use Rattle.netlist.specs.Conditions.{IsSound}
use Rattle.netlist.specs.Settled.{at}
use Rattle.netlist.proofs.Placed.{signal_below, signal_from}
use Rattle.tri.specs.declared.labels.Label.{Label}
use Rattle.tri.specs.Labels.{Decisions, IsContradicted, labels, label_of, on_line, input_labels, cell_labels}
use Rattle.tri.specs.Labelling.{AreLabelled, decided_in}
use Rattle.tri.specs.Paths.{Path, decisions, IsUnknown}
use Rattle.tri.proofs.PathLemmas.{labels_once}
use Rattle.events.specs.declared.trails.Change.{Change}
use Rattle.events.specs.Trails.{AreChanges}
use Rattle.events.specs.Standing.{Standing, Moves, SettlesAnew}
use Rattle.events.specs.Waiting.{IsDrivenTo}
use Rattle.pair_sim.specs.declared.levels.Level.{Level}
use Rattle.pair_sim.specs.inner.Levels.{blank, path_of, clashes, is_contradicted, decided_count, IsNoted, IsOnTop, GoBack, IsKept}
use Rattle.pair_sim.proofs.Clashes.{same_elsewhere, decided_last, clash_contradicts, grows, still_contradicted, still_possible}
use Rattle.label_events.proofs.Changing.{decision_changes}
use Rattle.pair_sim.proofs.Decisions.{source_is_driven}
use Rattle.pair_sim.proofs.Free.{free_undecided, own_if_undecided}
use Rattle.pair_sim.proofs.Noting.{noted_first, noted_more}
use Rattle.pair_sim.proofs.Rows.{decided_set, decided_few, reverse_push}

-- the labels of one path become those of another that differs at one signal
pub relabelled : (f : Fault) (n : Netlist) (holds : Holds) (path path' : Decisions) (x : ℕ) (old new : List Label)
    → ((y : ℕ) → y ≢ x → path y ≡ path' y) → AreLabelled (Some f) path n holds old
    → IsDrivenTo (labels (Some f) path') n (input_labels path' n holds) (cell_labels path' n) x (on_line (Some f) (Stem x) (label_of (path' x) X X false))
    → SettlesAnew (labels (Some f) path') n x (label_of (path' x) X X false) old new → length new ≡ length old → AreLabelled (Some f) path' n holds new
relabelled f n holds path path' x old new same was drives settles size = record {
  size = size ∙ was.size;
  labels = λ d. settles.each (input_labels path' n holds) (cell_labels path' n) d drives (decision_changes (Some f) path path' n holds (at old d) x same (was.labels d));
}

-- whether a decision is contradicted, as the last level says
pub last_flag : (f : Fault) (n : Netlist) (holds : Holds) (levels : List Level) (trail : List (Change Label)) (values : List Label) → GoBack f n holds levels trail values
    → MatchBool (is_contradicted levels) (IsContradicted (decisions (path_of levels)) n (at values blank)) (IsContradicted (decisions (path_of levels)) n (at values blank) → ⊥)
last_flag f n holds [] trail values h = λ w. let e = w.2.1 in absurd cc
last_flag f n holds (v ∷ vs) trail values h = h.flag

pub flag_true : (b : Bool) (P Q : Type 0) → MatchBool b P Q → b ≡ true → P
flag_true true P Q h e = h
flag_true false P Q h e = absurd cc

pub flag_false : (b : Bool) (P Q : Type 0) → MatchBool b P Q → b ≡ false → Q
flag_false true P Q h e = absurd cc
flag_false false P Q h e = h

module _ (f : Fault) (holds : Holds) (row : List (Option Bool)) (levels : List Level) (names : List ℕ) (s : Standing Label) (sound : IsSound s.netlist)
    (kept : IsKept f s.netlist holds row levels names s.values s.trail) (x : ℕ) (b : Bool) (w : IsUnknown f s.netlist holds (path_of (reverse levels)) x)
    (s' : Standing Label) (moves : Moves s s') (row' : List (Option Bool)) (row_set : row' ≡ set row x (Some b))
    (settles : SettlesAnew (labels (Some f) (decided_in row')) s.netlist x (label_of (Some b) X X false) s.values s'.values) where
  path : Path
  path = path_of (reverse levels)

  fresh : decisions (path_of (reverse levels)) x ≡ None
  fresh = free_undecided f s.netlist holds (path_of (reverse levels)) x w

  pub within : x < length (signals s.netlist)
  within = signal_below s.netlist sound.formed.numbered x w.signal

  in_row : x < length row
  in_row = let e = kept.row_size in let l = within in omega arith

  free : (at s.values blank x).good ≡ X
  free = ap (λ (l : Label). l.good) (sym (labels_once (Some f) (decisions (path_of (reverse levels))) s.netlist holds sound w.label (at s.values blank) w.are (kept.labelled.labels blank) x w.signal)) ∙ w.unknown

  row_now : (y : ℕ) → decided_in row' y ≡ decisions ((x, b) ∷ path_of (reverse levels)) y
  row_now y = elim (cases_eq y x) [
    | inl e ↦
        ap (decided_in row') e ∙ (ap (λ (r : List (Option Bool)). get_or r x None) row_set ∙ (get_or-set_same row x (Some b) None in_row
        ∙ (sym (decided_last (path_of (reverse levels)) x b) ∙ ap (decisions ((x, b) ∷ path_of (reverse levels))) (sym e))))
    | inr other ↦
        ap (λ (r : List (Option Bool)). get_or r y None) row_set ∙ (get_or-set_other row x y (Some b) None other
        ∙ (kept.row_is y ∙ sym (same_elsewhere (path_of (reverse levels)) x y b other)))
  ]

  decided_now : decided_in row' ≡ decisions ((x, b) ∷ path_of (reverse levels))
  decided_now = λ i y. row_now y i

  pub are_now : AreLabelled (Some f) (decisions ((x, b) ∷ path_of (reverse levels))) s.netlist holds s'.values
  are_now =
      let p = decisions (path_of (reverse levels)) in
      let p' = decisions ((x, b) ∷ path_of (reverse levels)) in
      let here : p' x ≡ Some b = decided_last (path_of (reverse levels)) x b in
      let own : (at s.values blank x).own ≡ X = own_if_undecided f p s.netlist holds (at s.values blank) (kept.labelled.labels blank) x w.signal fresh ∙ free in
      relabelled f s.netlist holds p p' x s.values s'.values (λ y ne. sym (same_elsewhere (path_of (reverse levels)) x y b ne)) kept.labelled
      (source_is_driven f p p' s.netlist holds (at s.values blank) x (kept.labelled.labels blank) own)
      (subst (λ (q : Decisions). SettlesAnew (labels (Some f) q) s.netlist x (label_of (p' x) X X false) s.values s'.values) decided_now
      (subst (λ o. SettlesAnew (labels (Some f) (decided_in row')) s.netlist x (label_of o X X false) s.values s'.values) (sym here) settles))
      moves.are_changes.size

  counted_now : (v : Level) → decided_count row' ≡ length (levels ++ v ∷ [])
  counted_now v =
      let e = ap decided_count row_set ∙ decided_set row x b in_row (kept.row_is x ∙ fresh) in
      let k = kept.counted in
      let l = length-append levels (v ∷ []) in
      omega arith

  mark_here : take (length s.trail) s'.trail ≡ s.trail
  mark_here = ap (take (length s.trail)) moves.trail ∙ take_at s.trail moves.changes (length s.trail) refl

  after_mark : drop (length s.trail) s'.trail ≡ moves.changes
  after_mark = ap (drop (length s.trail)) moves.trail ∙ drop_at s.trail moves.changes (length s.trail) refl

  mark_within : length s.trail ≤ length s'.trail
  mark_within = let e = ap length moves.trail in let l = length-append s.trail moves.changes in omega arith

  noted_before : is_contradicted (reverse levels) ≡ false → IsNoted f s.netlist holds s.trail s.values
  noted_before flag = at_levels (reverse levels) kept.labelled kept.back flag
    where
      at_levels : (vs : List Level) → AreLabelled (Some f) (decisions (path_of vs)) s.netlist holds s.values → GoBack f s.netlist holds vs s.trail s.values
          → is_contradicted vs ≡ false → IsNoted f s.netlist holds s.trail s.values
      at_levels [] are back e = subst (λ (t : List (Change Label)). IsNoted f s.netlist holds t s.values) (sym back) (noted_first f s.netlist holds sound s.values are)
      at_levels (v ∷ vs) are back e = back.noted e

  -- no decision is contradicted
  pub assigned_possible : is_contradicted (reverse levels) ≡ false
      → ((c : Change Label) → Contains moves.changes c → clashes (decided_in row' c.signal) (at s'.values blank c.signal).own ≡ false)
      → (names' : List ℕ) → names' ≡ names ++ map (λ (c : Change Label). c.signal) moves.changes
      → IsKept f s.netlist holds row' (levels ++ record { signal = x; bit = b; mark = length s.trail; contradicted = false } ∷ []) names' s'.values s'.trail
  assigned_possible flag none names' names_are =
      let p = path_of (reverse levels) in
      let v : Level = record { signal = x; bit = b; mark = length s.trail; contradicted = false } in
      let turn : reverse (levels ++ v ∷ []) ≡ v ∷ reverse levels = reverse_push levels v in
      let was_possible = flag_false (is_contradicted (reverse levels)) _ _ (last_flag f s.netlist holds (reverse levels) s.trail s.values kept.back) flag in
      let possible : IsContradicted (decisions ((x, b) ∷ p)) s.netlist (at s'.values blank) → ⊥ =
      still_possible f s.netlist holds sound p x b fresh s.values s'.values kept.labelled are_now w.signal free was_possible moves.changes moves.are_changes
      (λ c m. ap (λ o. clashes o (at s'.values blank c.signal).own) (sym (row_now c.signal)) ∙ none c m) in
      let noted : IsNoted f s.netlist holds (s.trail ++ moves.changes) s'.values =
      noted_more f s.netlist holds sound s.values s'.values kept.labelled.size (grows f s.netlist holds sound p x b fresh s.values s'.values kept.labelled are_now possible)
      moves.changes moves.are_changes s.trail (noted_before flag) in
      let top : IsOnTop f s.netlist holds v (reverse levels) (GoBack f s.netlist holds (reverse levels)) s'.trail s'.values = record {
        within = within;
        fresh = fresh;
        mark = mark_within;
        below = s.values;
        are = kept.labelled;
        free = free;
        changes = λ e. subst (AreChanges s.values s'.values) (sym after_mark) moves.are_changes;
        noted = λ e. subst (λ (t : List (Change Label)). IsNoted f s.netlist holds t s'.values) (sym moves.trail) noted;
        none = λ e. absurd cc;
        flag = possible;
        under = subst (λ (t : List (Change Label)). GoBack f s.netlist holds (reverse levels) t s.values) (sym mark_here) kept.back;
      } in
      record {
        row_size = ap length row_set ∙ (length-set row x (Some b) ∙ kept.row_size);
        row_is = λ y. row_now y ∙ ap (λ (vs : List Level). decisions (path_of vs) y) (sym turn);
        counted = counted_now v;
        labelled = subst (λ (vs : List Level). AreLabelled (Some f) (decisions (path_of vs)) s.netlist holds s'.values) (sym turn) are_now;
        back = subst (λ (vs : List Level). GoBack f s.netlist holds vs s'.trail s'.values) (sym turn) top;
        names_are = names_are ∙ (ap (λ (ns : List ℕ). ns ++ map (λ (c : Change Label). c.signal) moves.changes) kept.names_are
            ∙ (sym (map-append (λ (c : Change Label). c.signal) s.trail moves.changes) ∙ ap (map (λ (c : Change Label). c.signal)) (sym moves.trail)));
      }

  -- a decision is contradicted: the trail is as before
  pub assigned_contradicted : IsContradicted (decisions ((x, b) ∷ path_of (reverse levels))) s.netlist (at s'.values blank)
      → IsKept f s.netlist holds row' (levels ++ record { signal = x; bit = b; mark = length s.trail; contradicted = true } ∷ []) names s'.values (take (length s.trail) s'.trail)
  assigned_contradicted contradicted =
      let v : Level = record { signal = x; bit = b; mark = length s.trail; contradicted = true } in
      let turn : reverse (levels ++ v ∷ []) ≡ v ∷ reverse levels = reverse_push levels v in
      let top : IsOnTop f s.netlist holds v (reverse levels) (GoBack f s.netlist holds (reverse levels)) s.trail s'.values = record {
        within = within;
        fresh = fresh;
        mark = omega arith;
        below = s.values;
        are = kept.labelled;
        free = free;
        changes = λ e. absurd cc;
        noted = λ e. absurd cc;
        none = λ e. refl;
        flag = contradicted;
        under = subst (λ (t : List (Change Label)). GoBack f s.netlist holds (reverse levels) t s.values) (sym (take_whole s.trail)) kept.back;
      } in
      record {
        row_size = ap length row_set ∙ (length-set row x (Some b) ∙ kept.row_size);
        row_is = λ y. row_now y ∙ ap (λ (vs : List Level). decisions (path_of vs) y) (sym turn);
        counted = counted_now v;
        labelled = subst (λ (vs : List Level). AreLabelled (Some f) (decisions (path_of vs)) s.netlist holds s'.values) (sym turn) are_now;
        back = subst (λ (vs : List Level). GoBack f s.netlist holds vs (take (length s.trail) s'.trail) s'.values) (sym turn)
            (subst (λ (t : List (Change Label)). IsOnTop f s.netlist holds v (reverse levels) (GoBack f s.netlist holds (reverse levels)) t s'.values) (sym mark_here) top);
        names_are = kept.names_are ∙ ap (map (λ (c : Change Label). c.signal)) (sym mark_here);
      }
    where
      take_whole : (t : List (Change Label)) → take (length t) t ≡ t
      take_whole t = ap (take (length t)) (sym (append-nil t)) ∙ take_at t [] (length t) refl

  -- a decision that was contradicted still is
  pub was_contradicted : is_contradicted (reverse levels) ≡ true → IsContradicted (decisions ((x, b) ∷ path_of (reverse levels))) s.netlist (at s'.values blank)
  was_contradicted flag =
      still_contradicted f s.netlist holds sound (path_of (reverse levels)) x b fresh s.values s'.values kept.labelled are_now
      (flag_true (is_contradicted (reverse levels)) _ _ (last_flag f s.netlist holds (reverse levels) s.trail s.values kept.back) flag)

  pub clash_here : (c : Change Label) → Contains moves.changes c → clashes (decided_in row' c.signal) (at s'.values blank c.signal).own ≡ true
      → IsContradicted (decisions ((x, b) ∷ path_of (reverse levels))) s.netlist (at s'.values blank)
  clash_here c m e =
      let l = (moves.are_changes.before c blank m).0 in
      let size = kept.labelled.size in
      clash_contradicts (decisions ((x, b) ∷ path_of (reverse levels))) s.netlist (at s'.values blank) c.signal
      (signal_from s.netlist sound.formed.numbered c.signal (omega arith))
      (ap (λ o. clashes o (at s'.values blank c.signal).own) (sym (row_now c.signal)) ∙ e)

  pub new_changes : drop (length s.trail) s'.trail ≡ moves.changes
  new_changes = after_mark

  pub level_room : length levels + 1 ≤ length (signals s.netlist)
  level_room =
      let e = decided_set row x b in_row (kept.row_is x ∙ fresh) in
      let few = decided_few (set row x (Some b)) in
      let size = length-set row x (Some b) in
      let k = kept.counted in
      let r = kept.row_size in
      omega arith
