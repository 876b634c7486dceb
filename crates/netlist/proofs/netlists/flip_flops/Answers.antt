use Rattle.std.proofs.Common.{◌≡◌, ℕ, ◌+◌, ◌<◌, Bool, true, false, cond, List, [], ◌∷◌, ◌++◌, map, length, get_or, take, sym, ◌∙◌, ap, subst, append-nil, Vec, Global}
use Rattle.std.specs.List.{filter}
use Rattle.std.proofs.lemmas.List.{map-append}
use Rattle.std.proofs.lemmas.List.Elements.{filter_more}
use Rattle.statement.specs.Netlists.{Definition, is_cell, is_flip_flop}
use Rattle.netlist.proofs.netlists.flip_flops.Goals as goal
use Rattle.netlist.proofs.netlists.flip_flops.Goals.{then-is_flip_flop+in_ok-push, else-is_flip_flop}

module _ (ds : List Definition) (k : ℕ) (d : Definition) (l : k < length ds) (is : d ≡ get_or ds k d) where
  next : (b : Bool) → is_cell d ≡ b → filter is_cell (take (k + 1) ds) ≡ filter is_cell (take k ds) ++ cond b (d ∷ []) []
  next b e =
      filter_more is_cell ds k d l
      ∙ (ap (λ (f : Definition). filter is_cell (take k ds) ++ cond (is_cell f) (f ∷ []) []) (sym is) ∙ ap (λ c. filter is_cell (take k ds) ++ cond c (d ∷ []) []) e)

  added : (old new : List ℕ) (id : ℕ) → is_cell d ≡ true → old ≡ map (λ (f : Definition). f.id) (filter is_cell (take k ds)) → new ≡ old ++ id ∷ [] → id ≡ d.id
      → new ≡ map (λ (f : Definition). f.id) (filter is_cell (take (k + 1) ds))
  added old new id e h made own =
      made ∙ (ap (λ xs. xs ++ id ∷ []) h ∙ (ap (λ i. map (λ (f : Definition). f.id) (filter is_cell (take k ds)) ++ i ∷ []) own
      ∙ sym (ap (map (λ (f : Definition). f.id)) (next true e) ∙ map-append (λ (f : Definition). f.id) (filter is_cell (take k ds)) (d ∷ []))))

  kept : (old new : List ℕ) → is_cell d ≡ false → old ≡ map (λ (f : Definition). f.id) (filter is_cell (take k ds)) → new ≡ old
      → new ≡ map (λ (f : Definition). f.id) (filter is_cell (take (k + 1) ds))
  kept old new e h same = same ∙ (h ∙ sym (ap (map (λ (f : Definition). f.id)) (next false e ∙ append-nil (filter is_cell (take k ds)))))

pub loop-definition-preserved : goal.loop-definition-preserved
loop-definition-preserved c =
    let ds = c.args.parts.now.definitions.items in
    let k = c.loop-definition.definition-index in
    let d = c.definition-item.result in
    let value = c.deref-definition-items.ensures.value in
    let l : k < length ds = subst (λ (xs : List Definition). k < length xs) value c.loop-definition-test.true in
    let is : d ≡ get_or ds k d = c.definition-item.is ∙ ap (λ (xs : List Definition). get_or xs k d) value in
    let cell : is_cell d ≡ c.is_flip_flop.result = sym (c.is_flip_flop.ensures ∙ ap is_flip_flop c.kind.ensures) in
    elim c.if-is_flip_flop.branch [
      | then-is_flip_flop+in_ok-push w ↦
          added ds k d l is c.loop-definition.cells.items c.if-is_flip_flop.cells.items w.id.result (cell ∙ w.if-is_flip_flop.true) c.loop-definition.invariant
          (ap (λ (v : Vec ℕ Global). v.items) w.cells-is ∙ w.in_ok-push.ensures.items) w.id.ensures
      | else-is_flip_flop w ↦
          kept ds k d l is c.loop-definition.cells.items c.if-is_flip_flop.cells.items (cell ∙ w.if-is_flip_flop.false) c.loop-definition.invariant
          (ap (λ (v : Vec ℕ Global). v.items) w.cells-is)
    ]
