-- The table of places, one cell more.
use Rattle.std.proofs.Common.{◌≡◌, ◌≢◌, ℕ, ◌+◌, ◌-◌, ◌<◌, ◌≤◌, List, length, get_or, ◌∙◌, ap, arith}
use Rattle.std.proofs.Math.ListN.{set}
use Rattle.std.specs.List.{AllPairs}
use borrow.Author.Count.{below_more}
use Rattle.std.proofs.lemmas.List.{length-set, get_or-set_same, get_or-set_other}
use Rattle.scan_insert.specs.inner.Places.{HasPlaces}

pub places_more : (least : ℕ) (places cells : List ℕ) (k cell : ℕ) → HasPlaces least places cells k
    → AllPairs (λ x y. x ≢ y) cells → k < length cells → get_or cells k 0 ≡ cell → least ≤ cell → cell - least < length places
    → HasPlaces least (set places (cell - least) k) cells (k + 1)
places_more least places cells k cell h distinct l e above within =
    let new = set places (cell - least) k in
    let size : length new ≡ length places = length-set places (cell - least) k in
    let others : (j : ℕ) → j < k → get_or new (get_or cells j 0 - least) 0 ≡ j = λ j b.
    let a : least ≤ get_or cells j 0 = h.above j b in
    let apart : get_or cells j 0 - least ≢ cell - least = λ same. distinct j k 0 b l (omega arith) in
    get_or-set_other places (cell - least) (get_or cells j 0 - least) k 0 apart ∙ h.has_place j b in
    record {
      above = below_more (λ j. least ≤ get_or cells j 0) k h.above (omega arith);
      within = below_more (λ j. get_or cells j 0 - least < length new) k (λ j b. let w = h.within j b in omega arith) (omega arith);
      has_place = below_more (λ j. get_or new (get_or cells j 0 - least) 0 ≡ j) k others
          (ap (λ x. get_or new (x - least) 0) e ∙ get_or-set_same places (cell - least) k 0 within);
    }
