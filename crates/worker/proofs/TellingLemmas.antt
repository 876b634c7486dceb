-- What parts told, put together in the order of the faults.
use Rattle.std.proofs.Common.{ℕ, ◌≡◌, ◌+◌, ◌<◌, ◌≤◌, cond, List, [], ◌∷◌, ◌++◌, length, get_or, set, drop, Option, Ok, Err, IfOk, vec_len, sym, ◌∙◌, ap, subst, inl, inr, arith, append_assoc, append-nil, eq-eqb, ne_eqb, get_or-set_same, get_or-set_other}
use Rattle.std.specs.List.{AllZip}
use Rattle.std.proofs.lemmas.Bool.{cases_eq, cases_lt}
use Rattle.std.proofs.lemmas.List.{drop_more, drop_all, get_or_default}
use Rattle.statement.specs.Netlists.{Netlist}
use Rattle.statement.specs.Patterns.{Pattern}
use Rattle.statement.specs.declared.lines.Fault.{Fault}
use Rattle.statement.specs.declared.lines.Point.{Point}
use Rattle.word_sim.specs.Hits.{LastDetected}
use Rattle.worker.specs.inner.Dealing.{part_of, dealt}
use Rattle.worker.specs.inner.Telling.{Told, IsTold, AreLeft}
use Rattle.worker.proofs.GatheringLemmas.{drop_here}

-- where something is told of one more, there is one more
zip_within : {A B : Type 0} (R : A → B → Type 0) (x : A) (xs : List A) (ys : List B) (k : ℕ) → AllZip R (x ∷ xs) (drop k ys) → k < length ys
zip_within R x xs ys k zip = elim (cases_lt k (length ys)) [
  | inl lt ↦ lt
  | inr le ↦ absurd (subst (AllZip R (x ∷ xs)) (drop_all k ys le) zip)
]

module _ (n : Netlist) (patterns : List Pattern) (numbers : List ℕ) where
  told_by : (f : Fault) (own : List Fault) (told : Told) (next after : ℕ) (one : Option (ℕ × Point))
      → IfOk told (λ v. AllZip (LastDetected n patterns) (f ∷ own) (drop next v.items)) → IsTold told next one after
      → LastDetected n patterns f one × IfOk told (λ v. AllZip (LastDetected n patterns) own (drop after v.items))
  told_by f own (Ok v) next after one zip is =
      let both = subst (AllZip (LastDetected n patterns) (f ∷ own)) (drop_here v.items next one is.1) zip in
      let P : ℕ → Type 0 = λ k. AllZip (LastDetected n patterns) own (drop k v.items) in
      (both.0, subst P (sym is.0) both.1)
  told_by f own (Err e) next after one zip is = absurd is

  within_by : (f : Fault) (own : List Fault) (told : Told) (next : ℕ) → IfOk told (λ v. AllZip (LastDetected n patterns) (f ∷ own) (drop next v.items))
      → IfOk told (λ v. next < vec_len v)
  within_by f own (Ok v) next zip = omega (arith, v.ok.0, zip_within (LastDetected n patterns) f own v.items next zip)
  within_by f own (Err e) next zip = tt

  module _ (f : Fault) (faults : List Fault) (parts : List Told) (nexts : List ℕ) (owner : ℕ) (p : Told) (own : owner ≡ part_of numbers f) (lt : owner < length parts) (read : p ≡ get_or parts owner p)
      (left : AreLeft n patterns numbers (f ∷ faults) parts nexts) where
    before : (d : Told) → IfOk (get_or parts owner d) (λ v. AllZip (LastDetected n patterns) (f ∷ dealt numbers owner faults) (drop (get_or nexts owner 0) v.items))
    before d =
        let rest = dealt numbers owner faults in
        let taken : dealt numbers owner (f ∷ faults) ≡ f ∷ rest = ap (λ b. cond b (f ∷ rest) rest) (eq-eqb (part_of numbers f) owner (sym own)) in
        let M : List Fault → Type 0 = λ fs. IfOk (get_or parts owner d) (λ v. AllZip (LastDetected n patterns) fs (drop (get_or nexts owner 0) v.items)) in
        subst M taken (left owner d lt)

    within_step : IfOk p (λ v. get_or nexts owner 0 < vec_len v)
    within_step =
        subst (λ (q : Told). IfOk q (λ v. get_or nexts owner 0 < vec_len v)) (sym read)
        (within_by f (dealt numbers owner faults) (get_or parts owner p) (get_or nexts owner 0) (before p))

    module _ (one : Option (ℕ × Point)) (after : ℕ) (is : IsTold p (get_or nexts owner 0) one after) where
      both : (d : Told) → LastDetected n patterns f one × IfOk (get_or parts owner d) (λ v. AllZip (LastDetected n patterns) (dealt numbers owner faults) (drop after v.items))
      both d =
          let there : p ≡ get_or parts owner d = read ∙ get_or_default parts owner p d lt in
          told_by f (dealt numbers owner faults) (get_or parts owner d) (get_or nexts owner 0) after one (before d)
          (subst (λ (q : Told). IsTold q (get_or nexts owner 0) one after) there is)

      left_step : length nexts ≡ length parts → AreLeft n patterns numbers faults parts (set nexts owner after)
      left_step size w d within =
          let M : ℕ → List Fault → ℕ → Type 0 = λ x fs k. IfOk (get_or parts x d) (λ v. AllZip (LastDetected n patterns) fs (drop k v.items)) in
          elim (cases_eq w owner) [
            | inl e ↦
                let at : get_or (set nexts owner after) owner 0 ≡ after = get_or-set_same nexts owner after 0 (omega (arith, lt, size)) in
                let here : M owner (dealt numbers owner faults) (get_or (set nexts owner after) owner 0) = subst (M owner (dealt numbers owner faults)) (sym at) (both d).1 in
                subst (λ (x : ℕ). M x (dealt numbers x faults) (get_or (set nexts owner after) x 0)) (sym e) here
            | inr ne ↦
                let rest = dealt numbers w faults in
                let others : dealt numbers w (f ∷ faults) ≡ rest = ap (λ b. cond b (f ∷ rest) rest) (ne_eqb (part_of numbers f) w (λ e. ne (sym e ∙ sym own))) in
                subst (M w rest) (sym (get_or-set_other nexts owner w after 0 ne))
                (subst (λ (fs : List Fault). M w fs (get_or nexts w 0)) others (left w d within))
          ]

  goes_on : (f : Fault) (rest whole : List Fault) (told more : List (Option (ℕ × Point))) (one : Option (ℕ × Point)) → LastDetected n patterns f one
      → ((ys : List (Option (ℕ × Point))) → AllZip (LastDetected n patterns) (f ∷ rest) ys → AllZip (LastDetected n patterns) whole (told ++ ys)) → more ≡ told ++ one ∷ []
      → (ys : List (Option (ℕ × Point))) → AllZip (LastDetected n patterns) rest ys → AllZip (LastDetected n patterns) whole (more ++ ys)
  goes_on f rest whole told more one here goes pushed ys zip =
      let same : more ++ ys ≡ told ++ one ∷ ys = ap (λ (l : List (Option (ℕ × Point))). l ++ ys) pushed ∙ append_assoc told (one ∷ []) ys in
      subst (AllZip (LastDetected n patterns) whole) (sym same) (goes (one ∷ ys) (here, zip))

  module _ (faults : List Fault) (i : ℕ) (f : Fault) (parts : List Told) (nexts : List ℕ) (owner : ℕ) (p : Told) (next : ℕ)
      (lt : i < length faults) (is : f ≡ get_or faults i f) (size : length nexts ≡ length parts) (own : owner ≡ part_of numbers f) (within : owner < length parts) (read : p ≡ get_or parts owner p) (at : next ≡ get_or nexts owner next)
      (left : AreLeft n patterns numbers (drop i faults) parts nexts) where
    here : drop i faults ≡ f ∷ drop (i + 1) faults
    here = drop_more faults i f lt ∙ ap (λ (x : Fault). x ∷ drop (i + 1) faults) (sym is)

    first : next ≡ get_or nexts owner 0
    first = at ∙ get_or_default nexts owner next 0 (omega (arith, within, size))

    left_here : AreLeft n patterns numbers (f ∷ drop (i + 1) faults) parts nexts
    left_here = subst (λ (fs : List Fault). AreLeft n patterns numbers fs parts nexts) here left

    -- the fault's owner has told of it
    pub within_next : IfOk p (λ v. next < vec_len v)
    within_next =
        subst (λ (k : ℕ). IfOk p (λ v. k < vec_len v)) (sym first) (within_step f (drop (i + 1) faults) parts nexts owner p own within read left_here)

    -- one fault more is put together
    pub tell_next : (after : ℕ) (one : Option (ℕ × Point)) (told more : List (Option (ℕ × Point))) → IsTold p next one after → more ≡ told ++ one ∷ []
        → ((ys : List (Option (ℕ × Point))) → AllZip (LastDetected n patterns) (drop i faults) ys → AllZip (LastDetected n patterns) faults (told ++ ys))
        → AreLeft n patterns numbers (drop (i + 1) faults) parts (set nexts owner after) × ((ys : List (Option (ℕ × Point))) → AllZip (LastDetected n patterns) (drop (i + 1) faults) ys → AllZip (LastDetected n patterns) faults (more ++ ys))
    tell_next after one told more said pushed goes =
        let rest = drop (i + 1) faults in
        let said' : IsTold p (get_or nexts owner 0) one after = subst (λ (k : ℕ). IsTold p k one after) first said in
        let goes' : (ys : List (Option (ℕ × Point))) → AllZip (LastDetected n patterns) (f ∷ rest) ys → AllZip (LastDetected n patterns) faults (told ++ ys) =
        subst (λ (fs : List Fault). (ys : List (Option (ℕ × Point))) → AllZip (LastDetected n patterns) fs ys → AllZip (LastDetected n patterns) faults (told ++ ys)) here goes in (
          left_step f rest parts nexts owner p own within read left_here one after said' size,
          goes_on f rest faults told more one (both f rest parts nexts owner p own within read left_here one after said' p).0 goes' pushed,
        )

  pub tell_end : (faults : List Fault) (i : ℕ) (told : List (Option (ℕ × Point))) → length faults ≤ i
      → ((ys : List (Option (ℕ × Point))) → AllZip (LastDetected n patterns) (drop i faults) ys → AllZip (LastDetected n patterns) faults (told ++ ys)) → AllZip (LastDetected n patterns) faults told
  tell_end faults i told le goes =
      let none : AllZip (LastDetected n patterns) (drop i faults) [] = subst (λ (fs : List Fault). AllZip (LastDetected n patterns) fs []) (sym (drop_all i faults le)) tt in
      subst (AllZip (LastDetected n patterns) faults) (append-nil told) (goes [] none)
