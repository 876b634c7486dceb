-- Hits of parts, put together in the order of the faults.
use Rattle.std.proofs.Common.{zero, suc, ℕ, ◌≡◌, ◌+◌, ◌<◌, ◌≤◌, eqb, true, false, cond, List, [], ◌∷◌, ◌++◌, length, get_or, set, drop, Option, Some, None, Result, Ok, Err, Vec, IfOk, option_to_list, refl, sym, ◌∙◌, ap, subst, inl, inr, arith, append_assoc, append-nil, eq-eqb, ne_eqb, get_or-set_same, get_or-set_other}
use Rattle.std.specs.List.{slice_get}
use Rattle.std.specs.declared.alloc.Global.{Global}
use Rattle.std.proofs.lemmas.Bool.{cases_eq}
use Rattle.std.proofs.lemmas.List.{drop_more, drop_all, get_or_default}
use Rattle.std.proofs.lemmas.Option.{get_or_from_slice_get, slice_get_within}
use Rattle.statement.specs.Netlists.{Netlist}
use Rattle.statement.specs.Patterns.{Pattern, IsLastDetected}
use Rattle.statement.specs.declared.lines.Fault.{Fault}
use Rattle.statement.specs.declared.lines.Point.{Point}
use Rattle.netlist.specs.declared.no_memory.NoMemory.{NoMemory}
use Rattle.word_sim.specs.Hits.{AreHits, IsNeverDetected}
use Rattle.word_sim.specs.declared.batches.Hit.{Hit}
use Rattle.worker.specs.declared.simulators.Part.{Part}
use Rattle.worker.specs.inner.Dealing.{part_of, dealt_hits}
use Rattle.worker.specs.inner.Gathering.{IsNextHit, IsFound, AreLeft}

-- the first of what is left
pub at_drop : {X : Type 0} (xs : List X) (k : ℕ) (x : X) (rest : List X) → drop k xs ≡ x ∷ rest → slice_get xs k ≡ Some x
at_drop [] zero x rest e = absurd (omega (arith, ap length e))
at_drop [] (suc k) x rest e = absurd (omega (arith, ap length e))
at_drop {X} (y ∷ ys) zero x rest e = ap (λ (z : X). Some z) (ap (λ (l : List X). get_or l 0 x) e)
at_drop (y ∷ ys) (suc k) x rest e = at_drop ys k x rest e

pub drop_here : {X : Type 0} (xs : List X) (k : ℕ) (x : X) → slice_get xs k ≡ Some x → drop k xs ≡ x ∷ drop (k + 1) xs
drop_here {X} xs k x at =
    drop_more xs k x (slice_get_within xs k x at) ∙ ap (λ (y : X). y ∷ drop (k + 1) xs) (get_or_from_slice_get xs k x x at)

module _ (n : Netlist) (patterns : List Pattern) (numbers : List ℕ) where
  -- hits of what is dealt from a place on have no number below it
  from_place : (w place : ℕ) (given : List (ℕ × Fault)) (h : Hit) (hs : List Hit) → AreHits n patterns (dealt_hits numbers w place given) (h ∷ hs) → place ≤ h.class
  from_place w place [] h hs none = absurd (omega (arith, ap length none))
  from_place w place (g ∷ gs) h hs are =
      let rest = dealt_hits numbers w (place + 1) gs in
      let later : AreHits n patterns rest (h ∷ hs) → place ≤ h.class = λ k. omega (arith, from_place w (place + 1) gs h hs k) in
      let here : (k : Hit) (more : List Hit) → h ∷ hs ≡ k ∷ more → k.class ≡ place → place ≤ h.class = λ k more is class.
      let same : h ≡ k = ap (λ (l : List Hit). get_or l 0 h) is in
      omega (arith, class, ap (λ (x : Hit). x.class) same) in
      let by_case : AreHits n patterns (cond (eqb (part_of numbers g.1) w) ((place, g.1) ∷ rest) rest) (h ∷ hs) → place ≤ h.class =
      elim (eqb (part_of numbers g.1) w) as (λ b. AreHits n patterns (cond b ((place, g.1) ∷ rest) rest) (h ∷ hs) → place ≤ h.class) [
        | true ↦ λ these. elim these [ inl none ↦ later none.1 | inr one ↦ here one.0 one.1 one.2 one.3 ]
        | false ↦ later
      ] in
      by_case are

  -- what a hit, or none, tells of a fault
  abbrev IsToldOf : ℕ × Fault → Option Hit → Type 0
  IsToldOf g None = IsNeverDetected n patterns g.1
  IsToldOf g (Some h) = (h.class ≡ g.0) × IsLastDetected n patterns g.1 h.pattern h.point

  next_told : (g : ℕ × Fault) (w place : ℕ) (given : List (ℕ × Fault)) (hits : List Hit) (next after : ℕ) (found : Option Hit)
      → AreHits n patterns ((place, g.1) ∷ dealt_hits numbers w (place + 1) given) (drop next hits) → IsNextHit hits next place g.0 found after
      → IsToldOf g found × AreHits n patterns (dealt_hits numbers w (place + 1) given) (drop after hits)
  next_told g w place given hits next after None (inl (never, more)) (same, none) =
      let P : ℕ → Type 0 = λ k. AreHits n patterns (dealt_hits numbers w (place + 1) given) (drop k hits) in
      (never, subst P (sym same) more)
  next_told g w place given hits next after None (inr (h, rest, is, class, last, more)) (same, none) =
      absurd (none h (at_drop hits next h rest is) class)
  next_told g w place given hits next after (Some f) (inl (never, more)) (on, (h, at, class, c, p, o)) =
      let all : AreHits n patterns (dealt_hits numbers w (place + 1) given) (h ∷ drop (next + 1) hits) =
      subst (AreHits n patterns (dealt_hits numbers w (place + 1) given)) (drop_here hits next h at) more in
      absurd (omega (arith, class, from_place w (place + 1) given h (drop (next + 1) hits) all))
  next_told g w place given hits next after (Some f) (inr (k, rest, is, class, last, more)) (on, (h, at, there, c, p, o)) =
      let whole : h ∷ drop (next + 1) hits ≡ k ∷ rest = sym (drop_here hits next h at) ∙ is in
      let head : h ≡ k = ap (λ (l : List Hit). get_or l 0 h) whole in
      let tail : drop (next + 1) hits ≡ rest = ap (λ (l : List Hit). drop 1 l) whole in
      let pattern : f.pattern ≡ k.pattern = p ∙ ap (λ (x : Hit). x.pattern) head in
      let point : f.point ≡ k.point = o ∙ ap (λ (x : Hit). x.point) head in
      let P : ℕ → Type 0 = λ i. AreHits n patterns (dealt_hits numbers w (place + 1) given) (drop i hits) in
      let L : ℕ → Point → Type 0 = λ i q. IsLastDetected n patterns g.1 i q in (
        (c, subst (λ (i : ℕ). L i f.point) (sym pattern) (subst (λ (q : Point). L k.pattern q) (sym point) last)),
        subst P (sym on) (subst (AreHits n patterns (dealt_hits numbers w (place + 1) given)) (sym tail) more),
      )

  told_by : (g : ℕ × Fault) (w place : ℕ) (given : List (ℕ × Fault)) (hits : Result (Vec Hit Global) NoMemory) (next after : ℕ) (found : Option Hit)
      → IfOk hits (λ v. AreHits n patterns ((place, g.1) ∷ dealt_hits numbers w (place + 1) given) (drop next v.items)) → IsFound hits next place g.0 found after
      → IsToldOf g found × IfOk hits (λ v. AreHits n patterns (dealt_hits numbers w (place + 1) given) (drop after v.items))
  told_by g w place given (Ok v) next after found are is = next_told g w place given v.items next after found are is
  told_by g w place given (Err e) next after found are is = absurd is

  -- ---- the part of the fault at this place, and the others

  module _ (g : ℕ × Fault) (place : ℕ) (given : List (ℕ × Fault)) (parts : List Part) (nexts : List ℕ) (owner : ℕ) (p : Part) (after : ℕ) (found : Option Hit)
      (own : owner ≡ part_of numbers g.1) (lt : owner < length parts) (read : p ≡ get_or parts owner p) (is : IsFound p.hits (get_or nexts owner 0) place g.0 found after)
      (left : AreLeft n patterns numbers place (g ∷ given) parts nexts) where
    both : (d : Part) → IsToldOf g found × IfOk (get_or parts owner d).hits (λ v. AreHits n patterns (dealt_hits numbers owner (place + 1) given) (drop after v.items))
    both d =
        let rest = dealt_hits numbers owner (place + 1) given in
        let taken : dealt_hits numbers owner place (g ∷ given) ≡ (place, g.1) ∷ rest =
        ap (λ b. cond b ((place, g.1) ∷ rest) rest) (eq-eqb (part_of numbers g.1) owner (sym own)) in
        let M : List (ℕ × Fault) → Type 0 = λ gs. IfOk (get_or parts owner d).hits (λ v. AreHits n patterns gs (drop (get_or nexts owner 0) v.items)) in
        let before : M ((place, g.1) ∷ rest) = subst M taken (left owner d lt) in
        let there : p ≡ get_or parts owner d = read ∙ get_or_default parts owner p d lt in
        told_by g owner place given (get_or parts owner d).hits (get_or nexts owner 0) after found before
        (subst (λ (q : Part). IsFound q.hits (get_or nexts owner 0) place g.0 found after) there is)

    left_step : length nexts ≡ length parts → AreLeft n patterns numbers (place + 1) given parts (set nexts owner after)
    left_step size w d within =
        let M : ℕ → List (ℕ × Fault) → ℕ → Type 0 = λ x gs k. IfOk (get_or parts x d).hits (λ v. AreHits n patterns gs (drop k v.items)) in
        elim (cases_eq w owner) [
          | inl e ↦
              let at : get_or (set nexts owner after) owner 0 ≡ after = get_or-set_same nexts owner after 0 (omega (arith, lt, size)) in
              let here : M owner (dealt_hits numbers owner (place + 1) given) (get_or (set nexts owner after) owner 0) =
              subst (M owner (dealt_hits numbers owner (place + 1) given)) (sym at) (both d).1 in
              subst (λ (x : ℕ). M x (dealt_hits numbers x (place + 1) given) (get_or (set nexts owner after) x 0)) (sym e) here
          | inr ne ↦
              let rest = dealt_hits numbers w (place + 1) given in
              let others : dealt_hits numbers w place (g ∷ given) ≡ rest =
              ap (λ b. cond b ((place, g.1) ∷ rest) rest) (ne_eqb (part_of numbers g.1) w (λ e. ne (sym e ∙ sym own))) in
              subst (M w rest) (sym (get_or-set_other nexts owner w after 0 ne))
              (subst (λ (gs : List (ℕ × Fault)). M w gs (get_or nexts w 0)) others (left w d within))
        ]

  goes_on : (g : ℕ × Fault) (rest whole : List (ℕ × Fault)) (all more : List Hit) (found : Option Hit) → IsToldOf g found
      → ((hs : List Hit) → AreHits n patterns (g ∷ rest) hs → AreHits n patterns whole (all ++ hs)) → more ≡ all ++ option_to_list found
      → (hs : List Hit) → AreHits n patterns rest hs → AreHits n patterns whole (more ++ hs)
  goes_on g rest whole all more None told goes pushed hs are =
      let same : more ++ hs ≡ all ++ hs = ap (λ (l : List Hit). l ++ hs) (pushed ∙ append-nil all) in
      subst (AreHits n patterns whole) (sym same) (goes hs (inl (told, are)))
  goes_on g rest whole all more (Some h) told goes pushed hs are =
      let same : more ++ hs ≡ all ++ h ∷ hs = ap (λ (l : List Hit). l ++ hs) pushed ∙ append_assoc all (h ∷ []) hs in
      subst (AreHits n patterns whole) (sym same) (goes (h ∷ hs) (inr (h, hs, refl, told.0, told.1, are)))

  -- one fault more is put together
  pub gather_next : (given : List (ℕ × Fault)) (place : ℕ) (g : ℕ × Fault) (parts : List Part) (nexts : List ℕ) (owner : ℕ) (p : Part) (next after : ℕ) (found : Option Hit) (all more : List Hit)
      → place < length given → g ≡ get_or given place g → length nexts ≡ length parts → owner ≡ part_of numbers g.1 → owner < length parts → p ≡ get_or parts owner p → next ≡ get_or nexts owner next
      → IsFound p.hits next place g.0 found after → more ≡ all ++ option_to_list found
      → AreLeft n patterns numbers place (drop place given) parts nexts → ((hs : List Hit) → AreHits n patterns (drop place given) hs → AreHits n patterns given (all ++ hs))
      → AreLeft n patterns numbers (place + 1) (drop (place + 1) given) parts (set nexts owner after) × ((hs : List Hit) → AreHits n patterns (drop (place + 1) given) hs → AreHits n patterns given (more ++ hs))
  gather_next given place g parts nexts owner p next after found all more lt is size own within read at told pushed left goes =
      let rest = drop (place + 1) given in
      let here : drop place given ≡ g ∷ rest = drop_more given place g lt ∙ ap (λ (x : ℕ × Fault). x ∷ rest) (sym is) in
      let first : next ≡ get_or nexts owner 0 = at ∙ get_or_default nexts owner next 0 (omega (arith, within, size)) in
      let told' : IsFound p.hits (get_or nexts owner 0) place g.0 found after = subst (λ (k : ℕ). IsFound p.hits k place g.0 found after) first told in
      let left' : AreLeft n patterns numbers place (g ∷ rest) parts nexts = subst (λ (gs : List (ℕ × Fault)). AreLeft n patterns numbers place gs parts nexts) here left in
      let goes' : (hs : List Hit) → AreHits n patterns (g ∷ rest) hs → AreHits n patterns given (all ++ hs) =
      subst (λ (gs : List (ℕ × Fault)). (hs : List Hit) → AreHits n patterns gs hs → AreHits n patterns given (all ++ hs)) here goes in (
        left_step g place rest parts nexts owner p after found own within read told' left' size,
        goes_on g rest given all more found (both g place rest parts nexts owner p after found own within read told' left' p).0 goes' pushed,
      )

  pub gather_end : (given : List (ℕ × Fault)) (place : ℕ) (all : List Hit) → length given ≤ place
      → ((hs : List Hit) → AreHits n patterns (drop place given) hs → AreHits n patterns given (all ++ hs)) → AreHits n patterns given all
  gather_end given place all le goes =
      let none : AreHits n patterns (drop place given) [] = subst (λ (gs : List (ℕ × Fault)). AreHits n patterns gs []) (sym (drop_all place given le)) refl in
      subst (AreHits n patterns given) (append-nil all) (goes [] none)
