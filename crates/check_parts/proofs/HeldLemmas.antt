-- Inputs held one after the other, by the lines that name them.
use Rattle.std.proofs.Common.{◌≡◌, ◌≢◌, ℕ, zero, suc, ◌+◌, ◌<◌, ◌≤◌, ◌∙◌, inl, inr, Bool, true, cond, MatchBool, List, [], ◌∷◌, ◌++◌, length, map, get_or, set, take, drop, Option, Some, None, refl, sym, ap, subst, arith, append_assoc, append-nil, length-set}
use Rattle.std.specs.List.{slice_get}
use Rattle.std.specs.Str.{bytes_eq}
use Rattle.std.proofs.lemmas.Bool.{cases_Bool}
use Rattle.std.proofs.lemmas.List.{get_or-set_other, length-map, take_all, take_more}
use Rattle.std.proofs.lemmas.Option.{get_or_from_slice_get, slice_get-get_or, slice_get_within}
use Rattle.std.proofs.lemmas.Slice.Eq.{bytes_eq-Decides}
use Rattle.statement.specs.Netlists.{Netlist, name_of}
use Rattle.netlist.specs.Netlist.{signal_count}
use Rattle.netlist.proofs.Placed.{input_below}
use Rattle.fault_universe.proofs.Elements.{contains_at}
use Rattle.netlist.specs.Conditions.{IsSound}
use Rattle.statement.specs.Patterns.{Holds}
use Rattle.netlist.specs.Holds.{none_held}
use Rattle.good_files.specs.GoodFiles.{AreHeldBy}
use Rattle.good_files.proofs.Held.{held_by, held_is}
use Rattle.report.specs.Reports.{Hold}
use Rattle.good_files.specs.inner.Matching.{matched, unmatched}
use Rattle.check_parts.specs.inner.Held.{IsNext, Names, free, held}
use Rattle.check_parts.proofs.Matches.{texts_match}

-- so many inputs are held as the lines say, and no other
pub record ArePartHeld (n : Netlist) (lines : List Hold) (k next : ℕ) (holds : Holds) : Type 0 where
  pub within : next ≤ length lines
  pub size : length holds ≡ length n.inputs
  pub others : (j : ℕ) → k ≤ j → get_or holds j None ≡ None
  pub matched_are : matched n n.inputs lines ≡ take k holds ++ matched n (drop k n.inputs) (drop next lines)
  pub rest : unmatched n n.inputs lines ≡ unmatched n (drop k n.inputs) (drop next lines)

same_some : {X : Type 0} (x y : X) → Some x ≡ Some y → x ≡ y
same_some x y e = cc

-- ---- one input

-- behind a place stand the element and what is behind it
split_at : {X : Type 0} (xs : List X) (k : ℕ) (x : X) → slice_get xs k ≡ Some x → drop k xs ≡ x ∷ drop (suc k) xs
split_at [] k x e = cc
split_at (y ∷ ys) zero x e = let same : y ≡ x = cc in ap (λ z. z ∷ ys) same
split_at (y ∷ ys) (suc k) x e = split_at ys k x e

nothing_at : {X : Type 0} (xs : List X) (k : ℕ) → length xs ≤ k → drop k xs ≡ []
nothing_at [] zero le = refl
nothing_at [] (suc k) le = refl
nothing_at (y ∷ ys) zero le = absurd (omega arith)
nothing_at (y ∷ ys) (suc k) le = nothing_at ys k (omega arith)

module _ (n : Netlist) (x : ℕ) (xs : List ℕ) where
  match_head : (h : Hold) (hs : List Hold) → h.name ≡ name_of n x
      → (matched n (x ∷ xs) (h ∷ hs) ≡ Some h.bit ∷ matched n xs hs) × (unmatched n (x ∷ xs) (h ∷ hs) ≡ unmatched n xs hs)
  match_head h hs same =
      let alike : bytes_eq h.name (name_of n x) ≡ true = (bytes_eq-Decides h.name (name_of n x)).1 same in (
        ap (λ (t : Bool). cond t (Some h.bit ∷ matched n xs hs) (None ∷ matched n xs (h ∷ hs))) alike,
        ap (λ (t : Bool). cond t (unmatched n xs hs) (unmatched n xs (h ∷ hs))) alike,
      )

  pass_head : (hs : List Hold) → ((h : Hold) (rest : List Hold) → hs ≡ h ∷ rest → h.name ≢ name_of n x)
      → (matched n (x ∷ xs) hs ≡ None ∷ matched n xs hs) × (unmatched n (x ∷ xs) hs ≡ unmatched n xs hs)
  pass_head [] other = (refl, refl)
  pass_head (h ∷ hs) other =
      let apart = other h hs refl in
      elim (cases_Bool (bytes_eq h.name (name_of n x))) [
        | inl alike ↦ absurd (apart ((bytes_eq-Decides h.name (name_of n x)).0 alike))
        | inr no_match ↦ (
          ap (λ (t : Bool). cond t (Some h.bit ∷ matched n xs hs) (None ∷ matched n xs (h ∷ hs))) no_match,
          ap (λ (t : Bool). cond t (unmatched n xs hs) (unmatched n xs (h ∷ hs))) no_match,
        )
      ]

-- ---- one input more

one_more : (k : ℕ) → k + 1 ≡ suc k
one_more k = omega arith

-- the first behind a place stands there
at_front : {X : Type 0} (xs : List X) (k : ℕ) (x : X) (rest : List X) → drop k xs ≡ x ∷ rest → slice_get xs k ≡ Some x
at_front [] zero x rest e = absurd (cc)
at_front [] (suc k) x rest e = absurd (cc)
at_front (y ∷ ys) zero x rest e = let same : y ≡ x = cc in ap (λ z. Some z) same
at_front (y ∷ ys) (suc k) x rest e = at_front ys k x rest e

write_more : {X : Type 0} (xs : List X) (k : ℕ) (x : X) → k < length xs → take (suc k) (set xs k x) ≡ take k xs ++ x ∷ []
write_more [] k x lt = absurd (omega arith)
write_more (y ∷ ys) zero x lt = refl
write_more (y ∷ ys) (suc k) x lt = ap (λ zs. y ∷ zs) (write_more ys k x (omega arith))

module _ (n : Netlist) (lines : List Hold) (k next x : ℕ) (holds : Holds) (input : slice_get n.inputs k ≡ Some x) (so_far : ArePartHeld n lines k next holds) where
  xs : List ℕ
  xs = drop (suc k) n.inputs

  here : k < length holds
  here = let lt = slice_get_within n.inputs k x input in let size = so_far.size in omega arith

  held_more : (named : Names n lines next x) (new : Holds) → new ≡ set holds k (Some named.line.bit) → ArePartHeld n lines (suc k) (suc next) new
  unfolding xs
  held_more named new is =
      let inputs = split_at n.inputs k x input in
      let behind = split_at lines next named.line named.at in
      let head = match_head n x xs named.line (drop (suc next) lines) named.names_it in
      let lt = slice_get_within lines next named.line named.at in
      record {
        within = omega arith;
        size = ap length is ∙ (length-set holds k (Some named.line.bit) ∙ so_far.size);
        others = λ j le. ap (λ (os : Holds). get_or os j None) is ∙ (get_or-set_other holds k j (Some named.line.bit) None (λ e. omega (arith, e)) ∙ so_far.others j (omega arith));
        matched_are =
            so_far.matched_are ∙ (ap (λ (os : Holds). take k holds ++ os) ((λ i. matched n (inputs i) (behind i)) ∙ head.0)
            ∙ (sym (append_assoc (take k holds) (Some named.line.bit ∷ []) (matched n xs (drop (suc next) lines)))
            ∙ (ap (λ (os : Holds). os ++ matched n xs (drop (suc next) lines)) (sym (write_more holds k (Some named.line.bit) here) ∙ ap (take (suc k)) (sym is)))));
        rest = so_far.rest ∙ ((λ i. unmatched n (inputs i) (behind i)) ∙ head.1);
      }

  free_more : ¬ Names n lines next x → ArePartHeld n lines (suc k) next holds
  unfolding xs
  free_more none =
      let inputs = split_at n.inputs k x input in
      let head = pass_head n x xs (drop next lines) (λ h hs at same. none (record { line = h; at = at_front lines next h hs at; names_it = same })) in
      record {
        within = so_far.within;
        size = so_far.size;
        others = λ j le. so_far.others j (omega arith);
        matched_are =
            so_far.matched_are ∙ (ap (λ (os : Holds). take k holds ++ os) ((λ i. matched n (inputs i) (drop next lines)) ∙ head.0)
            ∙ (sym (append_assoc (take k holds) (None ∷ []) (matched n xs (drop next lines)))
            ∙ ap (λ (os : Holds). os ++ matched n xs (drop next lines))
            (ap (λ (o : Option Bool). take k holds ++ o ∷ []) (sym (so_far.others k (omega arith))) ∙ (sym (take_more holds k None here) ∙ (λ i. take (one_more k i) holds)))));
        rest = so_far.rest ∙ ((λ i. unmatched n (inputs i) (drop next lines)) ∙ head.1);
      }

pub next_held : (n : Netlist) (lines : List Hold) (k next x after : ℕ) (old new : Holds) → slice_get n.inputs k ≡ Some x → IsNext n lines x k next old after new
    → ArePartHeld n lines k next old → ArePartHeld n lines (k + 1) after new
next_held n lines k next x after old new input (held named step is) so_far =
    let more = held_more n lines k next x old input so_far named new is in
    let first : suc next ≡ after = omega arith in
    subst (λ (j : ℕ). ArePartHeld n lines (k + 1) j new) first (subst (λ (j : ℕ). ArePartHeld n lines j (suc next) new) (sym (one_more k)) more)
next_held n lines k next x after old new input (free none step is) so_far =
    let more = free_more n lines k next x old input so_far none in
    subst (λ (os : Holds). ArePartHeld n lines (k + 1) after os) (sym is)
    (subst (λ (j : ℕ). ArePartHeld n lines (k + 1) j old) (sym step) (subst (λ (j : ℕ). ArePartHeld n lines j next old) (sym (one_more k)) more))

-- ---- before the first input, and behind the last

none_at : (ys : List ℕ) (j : ℕ) → get_or (map {B = Option Bool} (λ (x : ℕ). None) ys) j None ≡ None
none_at [] j = refl
none_at (y ∷ ys) zero = refl
none_at (y ∷ ys) (suc j) = none_at ys j

pub none_held_yet : (n : Netlist) (lines : List Hold) (holds : Holds) → holds ≡ none_held n → ArePartHeld n lines 0 0 holds
none_held_yet n lines holds is = record {
  within = omega arith;
  size = ap length is ∙ length-map n.inputs (λ (x : ℕ). None);
  others = λ j le. ap (λ (os : Holds). get_or os j None) is ∙ none_at n.inputs j;
  matched_are = refl;
  rest = refl;
}

pub all_held : (n : Netlist) (lines : List Hold) (k next : ℕ) (holds : Holds) → length n.inputs ≤ k → ArePartHeld n lines k next holds
    → (holds ≡ matched n n.inputs lines) × (drop next lines ≡ unmatched n n.inputs lines)
all_held n lines k next holds past so_far =
    let none = nothing_at n.inputs k past in
    let size = so_far.size in (
      sym (so_far.matched_are ∙ ((λ i. take k holds ++ matched n (none i) (drop next lines)) ∙ (append-nil (take k holds) ∙ take_all k holds (omega arith)))),
      sym (so_far.rest ∙ (λ i. unmatched n (none i) (drop next lines))),
    )

-- ---- whether all lines are matched

pub none_left : (n : Netlist) (lines : List Hold) (next : ℕ) → next ≡ length lines → drop next lines ≡ unmatched n n.inputs lines → unmatched n n.inputs lines ≡ []
none_left n lines next all rest = sym rest ∙ nothing_at lines next (omega arith)

left_behind : {X : Type 0} (xs : List X) (k : ℕ) → drop k xs ≡ [] → length xs ≤ k
left_behind [] k e = omega arith
left_behind (y ∷ ys) zero e = absurd (cc)
left_behind (y ∷ ys) (suc k) e = let rest = left_behind ys k e in omega arith

pub some_left : (n : Netlist) (lines : List Hold) (next : ℕ) → next ≤ length lines → next ≢ length lines → drop next lines ≡ unmatched n n.inputs lines → unmatched n n.inputs lines ≢ []
some_left n lines next within fewer rest none = let past = left_behind lines next (rest ∙ none) in fewer (omega arith)

-- ---- whether a line names an input

pub names_by : (n : Netlist) (lines : List Hold) (next x : ℕ) (line : Hold) (name : List ℕ) (b : Bool) → slice_get lines next ≡ Some line → slice_get n.names x ≡ Some name
    → b ≡ bytes_eq line.name name → MatchBool b (Names n lines next x) (Names n lines next x → ⊥)
names_by n lines next x line name b at own eq =
    let is : name_of n x ≡ name = get_or_from_slice_get n.names x name [] own in
    texts_match (Names n lines next x) b line.name name eq
    (λ same. record { line = line; at = at; names_it = same ∙ sym is })
    (λ named. let here : named.line ≡ line = same_some named.line line (sym named.at ∙ at) in ap (λ (h : Hold). h.name) (sym here) ∙ (named.names_it ∙ is))

-- the line that is read is the one that names the input
pub held_by_line : (n : Netlist) (lines : List Hold) (x k next : ℕ) (line : Hold) (old new : Holds) → Names n lines next x → slice_get lines next ≡ Some line → new ≡ set old k (Some line.bit)
    → IsNext n lines x k next old (next + 1) new
held_by_line n lines x k next line old new named at is =
    let same : line ≡ named.line = same_some line named.line (sym at ∙ named.at) in
    held named refl (is ∙ ap (λ (h : Hold). set old k (Some h.bit)) same)

pub line_inside : (n : Netlist) (lines : List Hold) (next x : ℕ) → Names n lines next x → next < length lines
line_inside n lines next x named = slice_get_within lines next named.line named.at

-- ---- all lines are matched, or there is one that isn't

pub held_all : (n : Netlist) → IsSound n → (lines : List Hold) (next : ℕ) (holds : Holds) → holds ≡ matched n n.inputs lines → drop next lines ≡ unmatched n n.inputs lines → next ≡ length lines
    → AreHeldBy n lines holds
held_all n sound lines next holds is rest all =
    let w = held_by n sound lines (none_left n lines next all rest) in
    subst (λ (os : Holds). AreHeldBy n lines os) (sym is) (record { held = w.0; said = w.1 })

pub none_held_so : (n : Netlist) → IsSound n → (lines : List Hold) (next : ℕ) → next ≤ length lines → next ≢ length lines → drop next lines ≡ unmatched n n.inputs lines
    → (holds : Holds) → ¬ AreHeldBy n lines holds
none_held_so n sound lines next within fewer rest holds are = some_left n lines next within fewer rest (held_is n sound holds lines are.held are.said).1

-- the input that is read
pub input_here : (n : Netlist) (items : List ℕ) (k x : ℕ) → items ≡ n.inputs → k < length items → x ≡ get_or items k x → slice_get n.inputs k ≡ Some x
input_here n items k x are lt is = ap (λ (xs : List ℕ). slice_get xs k) (sym are) ∙ (slice_get-get_or items k x lt ∙ ap (λ (y : ℕ). Some y) (sym is))

pub input_signal : (n : Netlist) → IsSound n → (items : List ℕ) (k x : ℕ) → items ≡ n.inputs → k < length items → x ≡ get_or items k x → x < signal_count n
input_signal n sound items k x are lt is = input_below n sound.formed.numbered x (contains_at n.inputs k x (input_here n items k x are lt is))
