-- What a test shows in three values, and what the player answers.
use Rattle.std.proofs.Common.{◌≡◌, ◌≢◌, ℕ, suc, zero, ◌⊎◌, Bool, true, false, not, List, [], ◌∷◌, map, length, get_or, replicate, Option, Some, None, slice_get, refl, sym, ◌∙◌, ap, subst, inl, inr, arith}
use Rattle.std.specs.List.{AllZip, zip}
use Rattle.std.proofs.lemmas.List.{length-map}
use Rattle.statement.specs.declared.kinds.Tri.{Tri}
use Rattle.statement.specs.declared.kinds.Tri.TheVariants.{X}
use Rattle.statement.specs.declared.lines.Fault.{Fault}
use Rattle.statement.specs.Netlists.{Netlist, cells}
use Rattle.statement.specs.Patterns.{Holds, Pattern}
use Rattle.netlist.specs.Conditions.{IsSound}
use Rattle.statement.specs.Values.{bits, known}
use Rattle.tri.specs.Settled.{tri_table}
use Rattle.netlist.specs.Lines.{IsFaultOf}
use Rattle.scan_insert.specs.Scanned.{AreChainsOf, sites_of, scanned_of, fault_at}
use Rattle.scan_play.specs.declared.played.Played.{Played}
use Rattle.scan_play.specs.declared.played.Played.TheVariants.{Passes, Fails, Unknown}
use Rattle.statement.specs.Runs.{Cycle, Runs, strobe_at, shown_at}
use Rattle.statement.specs.Tests.{Response, Responds}
use Rattle.scan_play.specs.Vectors.{AreVectors}
use Rattle.scan_play.specs.Playing.{PlayRuns, PlaysAs}
use Rattle.scan_play.specs.Laws.{PlayDecides}
use Rattle.scan_play.proofs.Applied.{Answers, zip_known, length-next}
use Rattle.scan_play.proofs.Widths.{no_fault}
use Rattle.scan_play.proofs.Bridge.{bridge}
use Rattle.scan_play.proofs.Instances.{tris_above}
use Rattle.scan_play.proofs.BitLaws.{own_responses, known_not_x}

-- ---- what is strobed is known

Known : Tri → Tri → Type 0
Known s v = s ≢ X → v ≢ X

known_known : (b c : Bool) → Known (known b) (known c)
unfolding Known
known_known b true h e = absurd (known_not_x true (sym e))
known_known b false h e = absurd (known_not_x false (sym e))

zip_known_known : (bs cs : List Bool) → length bs ≡ length cs → AllZip Known (map known bs) (map known cs)
zip_known_known [] [] e = tt
zip_known_known [] (c ∷ cs) e = absurd (omega (arith, e))
zip_known_known (b ∷ bs) [] e = absurd (omega (arith, e))
zip_known_known (b ∷ bs) (c ∷ cs) e = (known_known b c, zip_known_known bs cs (omega (arith, e)))

known_answers : (n : Netlist) (f : Option Fault) → IsSound n → (ps : List Pattern) (rs owns : List Response) → AllZip (Responds n None) ps rs → AllZip (Responds n f) ps owns
    → AllZip (Answers tri_table f n Known) (zip ps rs) owns
known_answers n f sound [] [] [] h k = tt
known_answers n f sound [] [] (own ∷ owns) h k = absurd k
known_answers n f sound [] (r ∷ rs) owns h k = absurd h
known_answers n f sound (p ∷ ps) [] owns h k = absurd h
known_answers n f sound (p ∷ ps) (r ∷ rs) [] h k = absurd k
known_answers n f sound (p ∷ ps) (r ∷ rs) (own ∷ owns) h k =
    let wide : length r.outputs ≡ length own.outputs =
    (ap length h.0.outputs ∙ length-map n.outputs _) ∙ sym (ap length k.0.outputs ∙ length-map n.outputs _) in
    let long : length r.cells ≡ length own.cells =
    (ap length h.0.cells ∙ length-next (bits None) n h.0.values sound) ∙ sym (ap length k.0.cells ∙ length-next (bits f) n k.0.values sound) in (
      (k.0, zip_known_known r.outputs own.outputs wide, zip_known_known r.cells own.cells long),
      known_answers n f sound ps rs owns h.1 k.1,
    )

pub strobes_known : (n : Netlist) (holds : Holds) (chains : List (List ℕ)) (patterns : List Pattern) (cycles : List Cycle) (f : Option Fault) (shown : List (List Tri))
    → IsSound n → AreChainsOf n chains → AreVectors n holds chains patterns cycles → IsFaultOf n f
    → PlayRuns (scanned_of n chains) (fault_at (sites_of n chains) f) cycles shown
    → AllZip (λ (cycle : Cycle) values. AllZip (λ strobe value. strobe ≢ X → value ≢ X) cycle.strobe values) cycles shown
unfolding Known
strobes_known n holds chains patterns cycles f shown sound are v valid run =
    let g = fault_at (sites_of n chains) f in
    let S = scanned_of n chains in
    let start : List Tri = replicate (length (cells S)) X in
    let owns = own_responses n f sound patterns v.responses v.respond in
    subst (λ (x : List Cycle). AllZip (λ (cycle : Cycle) values. AllZip (λ strobe value. strobe ≢ X → value ≢ X) cycle.strobe values) x shown) (sym v.are)
    (bridge tri_table tris_above n holds chains f sound v.held are valid Known (λ w h. absurd (h refl)) (λ b. known_known b b) (zip patterns v.responses) owns.0
    (known_answers n f sound patterns v.responses owns.0 v.respond owns.1) start shown
    (subst (λ (x : List Cycle). Runs tri_table g S start x shown) v.are run))

-- ---- what the player answers

-- what is shown where a bit is strobed
value_in_row : {V : Type 0} (R : Tri → V → Type 0) (ss : List Tri) (vs : List V) (o : ℕ) (b : Bool) → AllZip R ss vs → get_or ss o X ≡ known b
    → (v : V) × (slice_get vs o ≡ Some v) × R (known b) v
value_in_row R [] vs o b h e = known_not_x b e
value_in_row R (s ∷ ss) [] o b h e = absurd h
value_in_row {V} R (s ∷ ss) (v ∷ vs) zero b h e = (v, refl, subst (λ (x : Tri). R x v) e h.0)
value_in_row R (s ∷ ss) (v ∷ vs) (suc o) b h e = value_in_row R ss vs o b h.1 e

pub value_where_strobed : {V : Type 0} (R : Tri → V → Type 0) (cycles : List Cycle) (shown : List (List V)) (c o : ℕ) (b : Bool)
    → AllZip (λ (x : Cycle) vs. AllZip R x.strobe vs) cycles shown → strobe_at cycles c o ≡ known b → (v : V) × (shown_at shown c o ≡ Some v) × R (known b) v
value_where_strobed R [] shown c o b h e = known_not_x b e
value_where_strobed R (x ∷ xs) [] c o b h e = absurd h
value_where_strobed R (x ∷ xs) (row ∷ rows) zero o b h e = value_in_row R x.strobe row o b h.0 e
value_where_strobed R (x ∷ xs) (row ∷ rows) (suc c) o b h e = value_where_strobed R xs rows c o b h.1 e

some_same : {V : Type 0} (x y : V) → Some x ≡ Some y → x ≡ y
some_same x y e = cc

never_unknown : (n : Netlist) (holds : Holds) (chains : List (List ℕ)) (patterns : List Pattern) (cycles : List Cycle) (f : Option Fault) (c o : ℕ)
    → IsSound n → AreChainsOf n chains → AreVectors n holds chains patterns cycles → IsFaultOf n f
    → PlaysAs (scanned_of n chains) (fault_at (sites_of n chains) f) cycles (Unknown c o) → ⊥
never_unknown n holds chains patterns cycles f c o sound are v valid played =
    let all = strobes_known n holds chains patterns cycles f played.0 sound are v valid played.1 in
    let at = played.2.1 in
    let w = value_where_strobed (λ strobe value. strobe ≢ X → value ≢ X) cycles played.0 c o at.0 all at.1 in
    w.2 (λ e. known_not_x at.0 (sym e)) (some_same w.0 X (sym w.1 ∙ at.2))

Met : Tri → Tri → Type 0
Met s v = (s ≡ X) ⊎ (v ≡ s)

met_answers : (n : Netlist) (ps : List Pattern) (rs : List Response) → AllZip (Responds n None) ps rs → AllZip (Answers tri_table None n Met) (zip ps rs) rs
unfolding Met
met_answers n [] [] h = tt
met_answers n [] (r ∷ rs) h = absurd h
met_answers n (p ∷ ps) [] h = absurd h
met_answers n (p ∷ ps) (r ∷ rs) h =
    ((h.0, zip_known Met known (λ b. inr refl) r.outputs, zip_known Met known (λ b. inr refl) r.cells), met_answers n ps rs h.1)

-- on the fault-free netlist each strobe is met
good_met : (n : Netlist) (holds : Holds) (chains : List (List ℕ)) (patterns : List Pattern) (cycles : List Cycle) (shown : List (List Tri))
    → IsSound n → AreChainsOf n chains → AreVectors n holds chains patterns cycles → PlayRuns (scanned_of n chains) None cycles shown
    → AllZip (λ (c : Cycle) vs. AllZip Met c.strobe vs) cycles shown
unfolding Met
good_met n holds chains patterns cycles shown sound are v run =
    let S = scanned_of n chains in
    let start : List Tri = replicate (length (cells S)) X in
    subst (λ (x : List Cycle). AllZip (λ (c : Cycle) vs. AllZip Met c.strobe vs) x shown) (sym v.are)
    (bridge tri_table tris_above n holds chains None sound v.held are (no_fault n) Met (λ w. inl refl) (λ b. inr refl) (zip patterns v.responses) v.responses
    (met_answers n patterns v.responses v.respond) start shown (subst (λ (x : List Cycle). Runs tri_table None S start x shown) v.are run))

known_not_other : (b : Bool) → known (not b) ≡ known b → ⊥
known_not_other true e = cc
known_not_other false e = cc

met_not : (b : Bool) (v : Tri) → Met (known b) v → v ≡ known b
unfolding Met
met_not b v h = elim h [ inl e ↦ known_not_x b (sym e) | inr e ↦ e ]

good_played : (n : Netlist) (holds : Holds) (chains : List (List ℕ)) (patterns : List Pattern) (cycles : List Cycle) (played : Played)
    → IsSound n → AreChainsOf n chains → AreVectors n holds chains patterns cycles → PlaysAs (scanned_of n chains) None cycles played → played ≡ Passes
good_played n holds chains patterns cycles Passes sound are v p = refl
good_played n holds chains patterns cycles (Fails c o) sound are v p =
    let at = p.2.1 in
    let w = value_where_strobed Met cycles p.0 c o at.0 (good_met n holds chains patterns cycles p.0 sound are v p.1) at.1 in
    absurd (known_not_other at.0 (some_same (known (not at.0)) w.0 (sym at.2 ∙ w.1) ∙ met_not at.0 w.0 w.2))
good_played n holds chains patterns cycles (Unknown c o) sound are v p =
    let at = p.2.1 in
    let w = value_where_strobed Met cycles p.0 c o at.0 (good_met n holds chains patterns cycles p.0 sound are v p.1) at.1 in
    absurd (known_not_x at.0 (some_same X w.0 (sym at.2 ∙ w.1) ∙ met_not at.0 w.0 w.2))

pub vectors_decide : (n : Netlist) (holds : Holds) (chains : List (List ℕ)) (patterns : List Pattern) (cycles : List Cycle)
    → IsSound n → AreChainsOf n chains → AreVectors n holds chains patterns cycles → PlayDecides n chains cycles
vectors_decide n holds chains patterns cycles sound are v = record {
  known = λ f c o valid p. never_unknown n holds chains patterns cycles f c o sound are v valid p;
  good = λ played p. good_played n holds chains patterns cycles played sound are v p;
}
