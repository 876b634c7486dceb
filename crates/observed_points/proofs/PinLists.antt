-- The signals at cells' pins, one after another.
use Rattle.std.proofs.Common.{◌≡◌, ℕ, ◌+◌, ◌<◌, ◌++◌, ◌∷◌, [], List, map, length, get_or, take, sym, ◌∙◌, ap}
use Rattle.std.proofs.lemmas.Grind.{take_at_read}
use Rattle.std.proofs.lemmas.List.{get_or_default, map-append, append_assoc}
use Rattle.statement.specs.Netlists.{Definition}

pub pins_more : (ds : List Definition) (k : ℕ) (d : Definition) (first old new pins : List ℕ) (x : ℕ) → k < length ds → get_or ds k d ≡ d → 0 < length pins → pins ≡ d.pins → x ≡ get_or pins 0 x
    → old ≡ first ++ map (λ (e : Definition). get_or e.pins 0 0) (take k ds) → new ≡ old ++ x ∷ [] → new ≡ first ++ map (λ (e : Definition). get_or e.pins 0 0) (take (k + 1) ds)
pins_more ds k d first old new pins x l is some p at h made =
    let f : Definition → ℕ = λ e. get_or e.pins 0 0 in
    let one : x ≡ get_or d.pins 0 0 = at ∙ (get_or_default pins 0 x 0 some ∙ ap (λ (ps : List ℕ). get_or ps 0 0) p) in
    made ∙ (ap (λ xs. xs ++ x ∷ []) h ∙ (append_assoc first (map f (take k ds)) (x ∷ [])
    ∙ ap (λ xs. first ++ xs) (ap (λ y. map f (take k ds) ++ y ∷ []) (one ∙ ap f (sym is)) ∙ (sym (map-append f (take k ds) (get_or ds k d ∷ [])) ∙ ap (map f) (sym (take_at_read ds k d l).1)))))
