-- Batches of slow lines: how they are gathered, the ties of their netlist, and their answers in the slots.
use Rattle.std.proofs.Common.{◌≡◌, ℕ, zero, suc, ◌+◌, ◌*◌, ◌<◌, ◌≤◌, Bool, true, false, List, [], ◌∷◌, ◌++◌, map, take, drop, set, length, get_or, Option, Some, None, inl, inr, refl, sym, ◌∙◌, ap, subst, arith, length-append}
use Rattle.std.specs.List.{All, AllZip, slice_get}
use Rattle.std.proofs.lemmas.Bool.{cases_eq}
use Rattle.std.proofs.lemmas.List.{length-map, get_or-map, get_or-set_same, get_or-set_other, length-set, length_push, take_more}
use Rattle.std.proofs.lemmas.List.Elements.{All-more, All-push}
use Rattle.std.proofs.lemmas.Option.{slice_get-get_or, slice_get_within}
use Rattle.std.proofs.lemmas.List.Quantifiers.{all_pairs_push}
use Rattle.statement.specs.declared.lines.Fault.{Fault}
use Rattle.netlist.specs.Conditions.{IsSound}
use Rattle.netlist.specs.Designs.{IsDesign}
use Rattle.statement.specs.Patterns.{Holds}
use Rattle.netlist.specs.Holds.{AreHoldsOf}
use Rattle.netlist.specs.Lines.{IsLineOf}
use Rattle.statement.specs.Netlists.{Netlist, signals}
use Rattle.netlist.proofs.Placed.{signal_from, signals_length}
use Rattle.evidence.specs.declared.engine.Found.{Found}
use Rattle.evidence.specs.declared.engine.Found.TheVariants.{Test, Closed, Refuted, Partial}
use Rattle.evidence.specs.Answers.{HasEvidence, MayAnswer}
use Rattle.transition_frames.specs.Frames.{tie}
use Rattle.transition_batches.specs.Batches.{AreApart, DecidesFrames, all_gates, batch_fault, batch_of, in_first_of, in_second_of, tie_at}
use Rattle.transition_batches.specs.Laws.{BatchCarries}
use Rattle.transition.specs.Searches.{IsFoundIfLeft}
use Rattle.transition.specs.inner.Asked.{AreAnswers, Asked, IsAnswer}
use Rattle.transition.specs.inner.Gathered.{AreGathered, AreTogether, IsSlotOf, MayJoin}
use Rattle.transition.specs.inner.Slots.{AnswersAt, AreAnswersFrom, first_slot, with_answers}
use Rattle.transition.specs.inner.Steps.{NoneAnswered, OneMoreAnswered, SlotsAnswered, SlotsHold, SlotsKept}

-- ---- lists side by side

pub zip_push : {X Y : Type 0} (R : X → Y → Type 0) (xs : List X) (ys : List Y) (x : X) (y : Y) → AllZip R xs ys → R x y → AllZip R (xs ++ x ∷ []) (ys ++ y ∷ [])
zip_push R [] [] x y h r = (r, tt)
zip_push R [] (b ∷ ys) x y h r = absurd h
zip_push R (a ∷ xs) [] x y h r = absurd h
zip_push R (a ∷ xs) (b ∷ ys) x y h r = (h.0, zip_push R xs ys x y h.1 r)

-- ---- how they are gathered

pub one_apart : (n : Netlist) (taken : List Fault) (i : ℕ) (g f : Fault) → i < length taken → All (λ (h : Fault). AreApart n h f) (take i taken) → g ≡ get_or taken i g → AreApart n g f
    → All (λ (h : Fault). AreApart n h f) (take (i + 1) taken)
one_apart n taken i g f l before is here = All-more (λ (h : Fault). AreApart n h f) taken i g l before (subst (λ (h : Fault). AreApart n h f) is here)

gathered_as : (a : Asked) (first count : ℕ) (places more : List ℕ) (slow longer : List Fault) → more ≡ places → longer ≡ slow
    → AreGathered a first count places slow → AreGathered a first count more longer
gathered_as a first count places more slow longer p s h =
    subst (λ (ks : List ℕ). AreGathered a first count ks longer) (sym p) (subst (AreGathered a first count places) (sym s) h)

pub line_at : (n : Netlist) (faults : List Fault) → All (λ (f : Fault). IsLineOf n f.line) faults → (k : ℕ) (f : Fault) → slice_get faults k ≡ Some f → IsLineOf n f.line
line_at n faults h k f at =
    let low : k < length faults = slice_get_within faults k f at in
    let same : get_or faults k f ≡ f = let e = sym (slice_get-get_or faults k f low) ∙ at in cc in
    subst (λ (g : Fault). IsLineOf n g.line) same (h k f low)

one_gathered : (a : Asked) (first count : ℕ) (places : List ℕ) (slow : List Fault) (k place : ℕ) (f : Fault)
    → AreGathered a first count places slow → place ≡ first + k → k < count → MayJoin a slow place f → length slow < 1024 → AreGathered a first count (places ++ k ∷ []) (slow ++ f ∷ [])
one_gathered a first count places slow k place f had there within may few =
    let slot : IsSlotOf a first count k f = record {
      within = within;
      fault = subst (λ i. slice_get a.faults i ≡ Some f) there may.fault;
      marked = subst (λ i. get_or a.left i true ≡ true) there may.marked;
    } in
    record {
      each = zip_push (IsSlotOf a first count) places slow k f had.each slot;
      together = record {
        lines = All-push (λ (g : Fault). IsLineOf a.netlist g.line) slow f had.together.lines may.line;
        apart = all_pairs_push (AreApart a.netlist) slow f had.together.apart may.apart;
        few = omega (arith, length_push slow f);
      };
    }

-- a line that may join those that are taken is one more of the batch
pub one_more_gathered : (a : Asked) (first count : ℕ) (places more : List ℕ) (slow seen longer : List Fault) (k : ℕ) (f : Fault) → AreGathered a first count places slow
    → more ≡ places ++ k ∷ [] → longer ≡ slow ++ f ∷ [] → seen ≡ slow → MayJoin a seen (first + k) f → k < count → length slow < 1024 → AreGathered a first count more longer
one_more_gathered a first count places more slow seen longer k f had is also same may within few =
    gathered_as a first count (places ++ k ∷ []) more (slow ++ f ∷ []) longer is also
    (one_gathered a first count places slow k (first + k) f had refl within (subst (λ (fs : List Fault). MayJoin a fs (first + k) f) same may) few)

-- ---- the ties of their netlist

gates_count : (n : Netlist) (j : ℕ) (fs : List Fault) → length (all_gates n j fs) ≡ 3 * length fs
gates_count n j [] = refl
gates_count n j (f ∷ fs) =
    let more = gates_count n (j + 1) fs in
    let here : length (all_gates n j (f ∷ fs)) ≡ suc (suc (suc (length (all_gates n (j + 1) fs)))) = refl in
    let size : length (f ∷ fs) ≡ suc (length fs) = refl in
    omega arith

batch_count : (n : Netlist) (fs : List Fault) → length (signals (batch_of n fs)) ≡ tie n + 3 * length fs
batch_count n fs =
    let ones = map (in_first_of n fs) n.definitions in
    let twos = map (in_second_of n fs) n.definitions in
    let first : length ones ≡ length n.definitions = length-map n.definitions (in_first_of n fs) in
    let second : length twos ≡ length n.definitions = length-map n.definitions (in_second_of n fs) in
    let gates = gates_count n 0 fs in
    let both = length-append ones twos in
    let all = length-append (ones ++ twos) (all_gates n 0 fs) in
    let count : length (signals (batch_of n fs)) ≡ length n.inputs + length (ones ++ twos ++ all_gates n 0 fs) = signals_length (batch_of n fs) in
    omega arith

pub tie_there : (n : Netlist) (fs : List Fault) (j : ℕ) (f : Fault) → IsSound (batch_of n fs) → j < length fs → IsLineOf (batch_of n fs) (batch_fault n j f).line
tie_there n fs j f sound l = signal_from (batch_of n fs) sound.formed.numbered (tie_at n j) (omega (arith, batch_count n fs, l))

-- a search on the netlist is one for its tie
pub tie_line : (n : Netlist) (fs : List Fault) (j : ℕ) (f : Fault) (core : Netlist) (t : Fault) → core ≡ batch_of n fs → IsSound core → j < length fs → t ≡ batch_fault n j f
    → IsLineOf core t.line
tie_line n fs j f core t same sound l is =
    subst (λ (m : Netlist). IsLineOf m t.line) (sym same)
    (subst (λ (g : Fault). IsLineOf (batch_of n fs) g.line) (sym is) (tie_there n fs j f (subst IsSound same sound) l))

-- held inputs of the netlist are such of a batch's, whose inputs are the same
pub held_in_batch : (n : Netlist) (fs : List Fault) (core : Netlist) (holds : Holds) → core ≡ batch_of n fs → AreHoldsOf n holds → AreHoldsOf core holds
held_in_batch n fs core holds same held = held ∙ sym (ap (λ (m : Netlist). length m.inputs) same)

-- what decides signals of the frames is no refutation
no_refutation : (n : Netlist) (refutes : Bool) (found : Found) → DecidesFrames n found → MayAnswer refutes found
no_refutation n refutes (Test cube point) decides = tt
no_refutation n refutes (Closed tree) decides = tt
no_refutation n refutes (Refuted steps) decides = absurd decides
no_refutation n refutes (Partial tree) decides = tt

-- and what it answers is evidence on the line's own two frames
pub carried : BatchCarries → (a : Asked) (fs : List Fault) (j : ℕ) (f : Fault) (core : Netlist) (t : Fault) → IsSound a.netlist → IsDesign a.netlist → AreTogether a.netlist fs
    → core ≡ batch_of a.netlist fs → IsSound core → t ≡ batch_fault a.netlist j f → j < length fs → get_or fs j f ≡ f
    → (found : Found) → HasEvidence t core a.holds a.limit found → DecidesFrames a.netlist found → IsAnswer a f found
carried law a fs j f core t sound design together same whole is l at found evidence decides = record {
  evidence = law a.netlist a.holds fs j f a.limit found sound design together.lines together.apart (subst IsSound same whole)
      (slice_get-get_or fs j f l ∙ ap (λ (g : Fault). Some g) at) decides
      (subst (λ (m : Netlist). HasEvidence (batch_fault a.netlist j f) m a.holds a.limit found) same
      (subst (λ (g : Fault). HasEvidence g core a.holds a.limit found) is evidence));
  kind = no_refutation a.netlist a.refutes found decides;
}

-- ---- their answers in the slots

pub one_found : (a : Asked) (slow : List Fault) (answers : List Found) (j : ℕ) (f : Fault) (found : Found) → AreAnswers a (take j slow) answers → j < length slow
    → get_or slow j f ≡ f → IsAnswer a f found → AreAnswers a (take (j + 1) slow) (answers ++ found ∷ [])
one_found a slow answers j f found had l is evidence =
    subst (λ (fs : List Fault). AreAnswers a fs (answers ++ found ∷ [])) (ap (λ (g : Fault). take j slow ++ g ∷ []) (sym is) ∙ sym (take_more slow j f l))
    (zip_push (IsAnswer a) (take j slow) answers f found had evidence)

pub none_answered : NoneAnswered
none_answered a slow answers none = record { are = subst (AreAnswers a []) (sym none) tt }

pub one_more_answered : OneMoreAnswered
one_more_answered a slow k f found old new had l is evidence more =
    record { are = subst (AreAnswers a (take (k + 1) slow)) (sym more) (one_found a slow old k f found had.are l (sym is) evidence) }

pub first_answers : (a : Asked) → AreAnswersFrom a 0 (map first_slot a.left)
first_answers a = record {
  each = λ k l.
      let low : k < length a.left = omega (arith, l, length-map a.left first_slot) in
      let at : (b : Bool) → get_or a.left k true ≡ b → AnswersAt a (0 + k) (first_slot b) =
      elim [
        | true ↦ λ e. tt
        | false ↦ λ e f is.
            subst (λ i. IsFoundIfLeft a.netlist a.holds a.limit a.refutes f (get_or a.left i true) None) (let same : k ≡ 0 + k = omega arith in same)
            (subst (λ b. IsFoundIfLeft a.netlist a.holds a.limit a.refutes f b None) (sym e) refl)
      ] in
      subst (AnswersAt a (0 + k)) (sym (get_or-map first_slot a.left k true None low)) (at (get_or a.left k true) refl);
}

one_stored : (a : Asked) (first k : ℕ) (slots : List (Option (Option Found))) (f : Fault) (found : Found) → AreAnswersFrom a first slots → IsSlotOf a first (length slots) k f
    → IsAnswer a f found → AreAnswersFrom a first (set slots k (Some (Some found)))
one_stored a first k slots f found had slot evidence = record {
  each = λ i l.
      let low : i < length slots = omega (arith, l, length-set slots k (Some (Some found))) in
      let here : AnswersAt a (first + k) (Some (Some found)) = λ g at.
      let same : f ≡ g = let e = sym slot.fault ∙ at in cc in
      subst (λ b. IsFoundIfLeft a.netlist a.holds a.limit a.refutes g b (Some found)) (sym slot.marked) (subst (λ (h : Fault). IsAnswer a h found) same evidence) in
      elim (cases_eq i k) [
        | inl same ↦
            subst (λ j. AnswersAt a (first + j) (get_or (set slots k (Some (Some found))) j None)) (sym same)
            (subst (AnswersAt a (first + k)) (sym (get_or-set_same slots k (Some (Some found)) None slot.within)) here)
        | inr other ↦ subst (AnswersAt a (first + i)) (sym (get_or-set_other slots k i (Some (Some found)) None other)) (had.each i low)
      ];
}

-- each answer has its slot
slots_within : (a : Asked) (first count : ℕ) (places : List ℕ) (slow : List Fault) (found : List Found) → AllZip (IsSlotOf a first count) places slow → AreAnswers a slow found
    → AllZip (λ k (x : Found). k < count) places found
slots_within a first count [] [] [] each are = tt
slots_within a first count [] [] (x ∷ found) each are = absurd are
slots_within a first count [] (f ∷ slow) found each are = absurd each
slots_within a first count (k ∷ places) [] found each are = absurd each
slots_within a first count (k ∷ places) (f ∷ slow) [] each are = absurd are
slots_within a first count (k ∷ places) (f ∷ slow) (x ∷ found) each are = (each.0.within, slots_within a first count places slow found each.1 are.1)

-- slots with answers are as many, and have each fault's answer
answers_stored : (a : Asked) (first : ℕ) (slots : List (Option (Option Found))) (places : List ℕ) (slow : List Fault) (found : List Found)
    → AllZip (IsSlotOf a first (length slots)) places slow → AreAnswers a slow found → AreAnswersFrom a first slots
    → (length (with_answers slots places found) ≡ length slots) × AreAnswersFrom a first (with_answers slots places found)
answers_stored a first slots [] slow found each are had = (refl, had)
answers_stored a first slots (k ∷ places) slow [] each are had = (refl, had)
answers_stored a first slots (k ∷ places) [] (x ∷ found) each are had = absurd each
answers_stored a first slots (k ∷ places) (f ∷ slow) (x ∷ found) each are had =
    let size : length (set slots k (Some (Some x))) ≡ length slots = length-set slots k (Some (Some x)) in
    let rest = answers_stored a first (set slots k (Some (Some x))) places slow found (subst (λ m. AllZip (IsSlotOf a first m) places slow) (sym size) each.1) are.1
    (one_stored a first k slots f x had each.0 are.0) in
    (rest.0 ∙ size, rest.1)

answers_in : (a : Asked) (first : ℕ) (slots : List (Option (Option Found))) (places : List ℕ) (slow : List Fault) (found : List Found) (new : List (Option (Option Found)))
    → new ≡ with_answers slots places found → AllZip (IsSlotOf a first (length slots)) places slow → AreAnswers a slow found → AreAnswersFrom a first slots
    → (length new ≡ length slots) × AreAnswersFrom a first new
answers_in a first slots places slow found new is each are had =
    let stored = answers_stored a first slots places slow found each are had in
    (ap length is ∙ stored.0, subst (AreAnswersFrom a first) (sym is) stored.1)

pub slots_hold : SlotsHold
slots_hold a first count places seen slow shown found had same also are = record {
  each = subst (λ (ks : List ℕ). AllZip (λ k (x : Found). k < count) ks found) (sym same)
      (slots_within a first count places slow found had.each (subst (λ (fs : List Fault). AreAnswers a fs found) also are));
}

slots_stored : (a : Asked) (first : ℕ) (old new : List (Option (Option Found))) (places seen : List ℕ) (slow shown : List Fault) (found : List Found)
    → AreGathered a first (length old) places slow → seen ≡ places → shown ≡ slow → AreAnswers a shown found → AreAnswersFrom a first old → new ≡ with_answers old seen found
    → (length new ≡ length old) × AreAnswersFrom a first new
slots_stored a first old new places seen slow shown found had same also are before is =
    answers_in a first old seen slow found new is (subst (λ (ks : List ℕ). AllZip (IsSlotOf a first (length old)) ks slow) (sym same) had.each)
    (subst (λ (fs : List Fault). AreAnswers a fs found) also are) before

pub slots_kept : SlotsKept
slots_kept a first old new places seen slow shown found had same also are before is =
    (slots_stored a first old new places seen slow shown found had same also are before is).0

pub slots_answered : SlotsAnswered
slots_answered a first old new places seen slow shown found had same also are before is =
    (slots_stored a first old new places seen slow shown found had same also are before is).1

-- the place of the next answer
pub next_slot : (count j : ℕ) (places : List ℕ) (x : Found) (found : List Found) → AllZip (λ k (y : Found). k < count) (drop j places) (x ∷ found)
    → (j < length places) × (get_or places j 0 < count) × (drop j places ≡ get_or places j 0 ∷ drop (j + 1) places)
next_slot count zero [] x found each = absurd each
next_slot count (suc j) [] x found each = absurd each
next_slot count zero (k ∷ places) x found each = (omega arith, each.0, refl)
next_slot count (suc j) (k ∷ places) x found each =
    let r = next_slot count j places x found each in
    let next : suc (j + 1) ≡ suc j + 1 = omega arith in
    (let l = r.0 in omega arith, r.1, subst (λ (i : ℕ). drop j places ≡ get_or places j 0 ∷ drop i (k ∷ places)) next r.2)

-- no answer is left
pub all_put : (slots : List (Option (Option Found))) (places : List ℕ) (found : List Found) → length found ≡ 0 → with_answers slots places found ≡ slots
all_put slots [] found none = refl
all_put slots (k ∷ places) [] none = refl
all_put slots (k ∷ places) (x ∷ found) none = absurd (omega arith)

-- ---- the slots of a chunk

pub chunk_answers : (a : Asked) (slots : List (Option (Option Found))) (start : ℕ) (chunk : List (Option (Option Found))) → AreAnswersFrom a 0 slots → start + length chunk ≤ length slots
    → ((k : ℕ) (d : Option (Option Found)) → k < length chunk → get_or chunk k d ≡ get_or slots (start + k) d) → AreAnswersFrom a start chunk
chunk_answers a slots start chunk all inside same = record {
  each = λ k l.
      let at : AnswersAt a (0 + (start + k)) (get_or slots (start + k) None) = all.each (start + k) (omega arith) in
      subst (AnswersAt a (start + k)) (sym (same k None l))
      (subst (λ i. AnswersAt a i (get_or slots (start + k) None)) (let e : 0 + (start + k) ≡ start + k = omega arith in e) at);
}

pub answer_back : (a : Asked) (start offset i : ℕ) (chunk : List (Option (Option Found))) (slot : Option (Option Found)) → AreAnswersFrom a start chunk → offset < length chunk
    → start + offset ≡ i → get_or chunk offset None ≡ slot → AnswersAt a (0 + i) slot
answer_back a start offset i chunk slot here low at is =
    subst (AnswersAt a (0 + i)) is (subst (λ j. AnswersAt a j (get_or chunk offset None)) (let e : start + offset ≡ 0 + i = omega arith in e) (here.each offset low))

pub answers_within : (a : Asked) (slots : List (Option (Option Found))) → length slots ≡ length a.faults → AreAnswersFrom a 0 slots
    → (i : ℕ) → i < length a.faults → AnswersAt a i (get_or slots i None)
answers_within a slots size all i l = subst (λ j. AnswersAt a j (get_or slots i None)) (let e : 0 + i ≡ i = omega arith in e) (all.each i (omega arith))
