-- Steps of the loops that make the parts of the scanned netlist.
use Rattle.std.proofs.Common.{◌≡◌, ℕ, suc, ◌+◌, ◌-◌, ◌<◌, List, [], ◌∷◌, ◌++◌, map, length, get_or, take, drop, Some, sym, ◌∙◌, ap, subst, add-one, arith}
use Rattle.std.specs.List.{All, Contains, slice_get, zip}
use Rattle.std.proofs.lemmas.List.{map_more, append_assoc, map-append, length-map, get_or_read, get_or-map, take_more, drop_more}
use Rattle.std.proofs.lemmas.List.Elements.{All-contains, Contains-get_or}
use Rattle.std.proofs.lemmas.Option.{get_or_from_slice_get, slice_get_within}
use Rattle.statement.specs.Netlists.{Definition, Netlist, signals, name_of}
use Rattle.netlist.specs.Conditions.{IsNumbered}
use Rattle.netlist.proofs.Lists.{All-from_contains}
use Rattle.netlist.proofs.Placed.{definition_below}
use Rattle.statement.specs.Tests.{cells_of}
use Rattle.statement.specs.Runs.{numbers_from}
use Rattle.scan_insert.specs.Scan.{show_last}
use Rattle.scan_insert.specs.Scanned.{befores, last_of}
use Rattle.scan_insert.proofs.Numbers.{then_one}
use Rattle.scan_insert.proofs.Chained.{contains_cells_of}

-- one more element, behind what there was before the loop
pub map_step : {X Y : Type 0} (f : X → Y) (old now new : List Y) (xs : List X) (i : ℕ) (d : X) (y : Y)
    → i < length xs → now ≡ old ++ map f (take i xs) → new ≡ now ++ y ∷ [] → y ≡ f (get_or xs i d) → new ≡ old ++ map f (take (i + 1) xs)
map_step f old now new xs i d y l h e v =
    e ∙ (ap (λ r. r ++ y ∷ []) h ∙ (append_assoc old (map f (take i xs)) (y ∷ [])
    ∙ ap (λ r. old ++ r) (ap (λ z. map f (take i xs) ++ z ∷ []) v ∙ sym (map_more f xs i d l))))

pub numbers_step : {Y : Type 0} (f : ℕ → Y) (old now new : List Y) (c : ℕ) (y : Y)
    → now ≡ old ++ map f (numbers_from 0 c) → new ≡ now ++ y ∷ [] → y ≡ f c → new ≡ old ++ map f (numbers_from 0 (c + 1))
numbers_step f old now new c y h e v =
    let more : map f (numbers_from 0 c) ++ f c ∷ [] ≡ map f (numbers_from 0 (c + 1)) =
    sym (map-append f (numbers_from 0 c) (c ∷ [])) ∙ ap (map f) (then_one 0 c c (omega arith)) in
    e ∙ (ap (λ r. r ++ y ∷ []) h ∙ (append_assoc old (map f (numbers_from 0 c)) (y ∷ [])
    ∙ ap (λ r. old ++ r) (ap (λ z. map f (numbers_from 0 c) ++ z ∷ []) v ∙ more)))

-- the name that is read at a signal
pub name_read : (n : Netlist) (x : ℕ) (name : List ℕ) → slice_get n.names x ≡ Some name → name ≡ name_of n x
name_read n x name e = sym (get_or_from_slice_get n.names x name [] e)

-- one chain more
pub befores_step : (held : ℕ → ℕ) (first c : ℕ) (chains : List (List ℕ)) (chain : List ℕ) (now new all : List ℕ)
    → slice_get chains c ≡ Some chain → now ++ befores held (first + c) (drop c chains) ≡ all
    → new ≡ now ++ take (length chain) ((first + c) ∷ map held chain)
    → new ++ befores held (first + (c + 1)) (drop (c + 1) chains) ≡ all
befores_step held first c chains chain now new all got h e =
    let within = slice_get_within chains c chain got in
    let is : get_or chains c [] ≡ chain = get_or_from_slice_get chains c chain [] got in
    let more : drop c chains ≡ chain ∷ drop (c + 1) chains = drop_more chains c [] within ∙ ap (λ q. q ∷ drop (c + 1) chains) is in
    let number : first + (c + 1) ≡ first + c + 1 = omega arith in
    ap (λ k. new ++ befores held k (drop (c + 1) chains)) number
    ∙ (ap (λ r. r ++ befores held (first + c + 1) (drop (c + 1) chains)) e
    ∙ (append_assoc now (take (length chain) ((first + c) ∷ map held chain)) (befores held (first + c + 1) (drop (c + 1) chains))
    ∙ (ap (λ cs. now ++ befores held (first + c) cs) (sym more) ∙ h)))

pub shown_step : (held : ℕ → ℕ) (first c : ℕ) (chains : List (List ℕ)) (chain : List ℕ) (d : Definition) (now new all : List Definition)
    → slice_get chains c ≡ Some chain
    → now ++ map show_last (zip (numbers_from (first + c) (length chains - c)) (map (λ (q : List ℕ). held (last_of q)) (drop c chains))) ≡ all
    → new ≡ now ++ d ∷ [] → d ≡ show_last (first + c, held (last_of chain))
    → new ++ map show_last (zip (numbers_from (first + (c + 1)) (length chains - (c + 1))) (map (λ (q : List ℕ). held (last_of q)) (drop (c + 1) chains))) ≡ all
shown_step held first c chains chain d now new all got h e v =
    let within = slice_get_within chains c chain got in
    let is : get_or chains c [] ≡ chain = get_or_from_slice_get chains c chain [] got in
    let more : drop c chains ≡ chain ∷ drop (c + 1) chains = drop_more chains c [] within ∙ ap (λ q. q ∷ drop (c + 1) chains) is in
    let number : first + (c + 1) ≡ first + c + 1 = omega arith in
    let count : length chains - c ≡ suc (length chains - (c + 1)) = omega arith in
    let rest : List Definition = map show_last (zip (numbers_from (first + c + 1) (length chains - (c + 1))) (map (λ (q : List ℕ). held (last_of q)) (drop (c + 1) chains))) in
    let whole : map show_last (zip (numbers_from (first + c) (length chains - c)) (map (λ (q : List ℕ). held (last_of q)) (drop c chains))) ≡ show_last (first + c, held (last_of chain)) ∷ rest =
    ap (λ k. map show_last (zip (numbers_from (first + c) k) (map (λ (q : List ℕ). held (last_of q)) (drop c chains)))) count
    ∙ ap (λ (cs : List (List ℕ)). map show_last (zip (numbers_from (first + c) (suc (length chains - (c + 1)))) (map (λ (q : List ℕ). held (last_of q)) cs))) more in
    ap (λ k. new ++ map show_last (zip (numbers_from k (length chains - (c + 1))) (map (λ (q : List ℕ). held (last_of q)) (drop (c + 1) chains)))) number
    ∙ (ap (λ r. r ++ rest) e
    ∙ (append_assoc now (d ∷ []) rest
    ∙ (ap (λ x. now ++ x ∷ rest) v ∙ (ap (λ r. now ++ r) (sym whole) ∙ h))))

-- what holds of all cells holds of a chain's
pub cells_of_chain : (P : ℕ → Type 0) (chains : List (List ℕ)) (c : ℕ) (chain : List ℕ) → All P (cells_of chains) → slice_get chains c ≡ Some chain → All P chain
cells_of_chain P chains c chain h got =
    let within = slice_get_within chains c chain got in
    let is : get_or chains c [] ≡ chain = get_or_from_slice_get chains c chain [] got in
    let member : Contains chains chain = subst (Contains chains) is (Contains-get_or chains c [] within) in
    All-from_contains P chain (λ x p. All-contains P (cells_of chains) x h (contains_cells_of chains chain x member p))

pub item_contained : (n : Netlist) (items : List Definition) (i : ℕ) (d : Definition) → items ≡ n.definitions → i < length items → d ≡ get_or items i d → Contains n.definitions d
item_contained n items i d e l is = subst (λ (ds : List Definition). Contains ds d) e (i, l, sym is)

pub item_below : (n : Netlist) → IsNumbered n → (items : List Definition) (i : ℕ) (d : Definition) → items ≡ n.definitions → i < length items → d ≡ get_or items i d → d.id < length (signals n)
item_below n numbered items i d e l is =
    definition_below n numbered d (item_contained n items i d e l is)

-- one cell more of a chain: what stood before it is pushed, and it stands before the next one
pub before_step : (old now new chain : List ℕ) (held : ℕ → ℕ) (input before i : ℕ) → i < length chain
    → now ≡ old ++ take i (input ∷ map held chain) → before ≡ get_or (input ∷ map held chain) i 0 → new ≡ now ++ before ∷ []
    → new ≡ old ++ take (i + 1) (input ∷ map held chain)
before_step old now new chain held input before i l h b e =
    let more = take_more (input ∷ map held chain) i 0 (omega (arith, length-map chain held)) in
    e ∙ (ap (λ r. r ++ before ∷ []) h ∙ (append_assoc old (take i (input ∷ map held chain)) (before ∷ [])
    ∙ ap (λ r. old ++ r) (ap (λ x. take i (input ∷ map held chain) ++ x ∷ []) b ∙ sym more)))

pub next_before : (chain : List ℕ) (held : ℕ → ℕ) (input cell i : ℕ) → i < length chain → cell ≡ get_or chain i cell → held cell ≡ get_or (input ∷ map held chain) (i + 1) 0
next_before chain held input cell i l is =
    rw add-one (ap held (get_or_read chain i cell l is 0) ∙ sym (get_or-map held chain i 0 0 l))

pub filled_chain : (chains : List (List ℕ)) (c : ℕ) (chain : List ℕ) → All (λ (q : List ℕ). 0 < length q) chains → slice_get chains c ≡ Some chain → 0 < length chain
filled_chain chains c chain h got =
    let within = slice_get_within chains c chain got in
    let is : get_or chains c [] ≡ chain = get_or_from_slice_get chains c chain [] got in
    subst (λ (q : List ℕ). 0 < length q) is (h c [] within)
