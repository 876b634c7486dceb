-- The names of held inputs are words of a report.
use Rattle.std.proofs.Common.{ℕ, ◌<◌, Bool, List, [], ◌∷◌, ◌++◌, length, map, Option, Some, None}
use Rattle.std.specs.List.{All, flat_map, zip}
use Rattle.std.proofs.lemmas.List.Elements.{All-nil, All-cons, All-head, All-tail, Contains-append_left}
use Rattle.statement.specs.Netlists.{Definition, Netlist, name_of}
use Rattle.netlist.specs.Conditions.{IsSound}
use Rattle.statement.specs.Patterns.{Holds}
use Rattle.netlist.proofs.Lists.{All-from_contains}
use Rattle.report.specs.Reports.{Hold, IsBenchWord}
use Rattle.run_report.specs.Heads.{hold_at, holds_named}
use Rattle.run_report.proofs.WordLemmas.{name_word}

joined : {X : Type 0} (P : X → Type 0) (xs ys : List X) → All P xs → All P ys → All P (xs ++ ys)
joined P [] ys h k = k
joined P (x ∷ xs) ys h k = All-cons P x (xs ++ ys) (All-head P x xs h) (joined P xs ys (All-tail P x xs h) k)

held_at : (n : Netlist) → IsSound n → (x : ℕ) (h : Option Bool) → x < length n.names → All (λ (h : Hold). IsBenchWord h.name) (hold_at n (x, h))
held_at n sound x None lt = All-nil (λ (h : Hold). IsBenchWord h.name)
held_at n sound x (Some bit) lt = All-cons (λ (h : Hold). IsBenchWord h.name) (record { name = name_of n x; bit = bit }) [] (name_word n sound x lt) (All-nil (λ (h : Hold). IsBenchWord h.name))

all_held : (n : Netlist) → IsSound n → (xs : List ℕ) (holds : Holds) → All (λ x. x < length n.names) xs → All (λ (h : Hold). IsBenchWord h.name) (flat_map (hold_at n) (zip xs holds))
all_held n sound [] holds small = All-nil (λ (h : Hold). IsBenchWord h.name)
all_held n sound (x ∷ xs) [] small = All-nil (λ (h : Hold). IsBenchWord h.name)
all_held n sound (x ∷ xs) (h ∷ holds) small =
    joined (λ (h : Hold). IsBenchWord h.name) (hold_at n (x, h)) (flat_map (hold_at n) (zip xs holds)) (held_at n sound x h (All-head (λ x. x < length n.names) x xs small))
    (all_held n sound xs holds (All-tail (λ x. x < length n.names) x xs small))

pub held_words : (n : Netlist) → IsSound n → (holds : Holds) → All (λ (h : Hold). IsBenchWord h.name) (holds_named n holds)
held_words n sound holds =
    all_held n sound n.inputs holds (All-from_contains (λ x. x < length n.names) n.inputs
    (λ x here. sound.formed.named x (Contains-append_left n.inputs (map (λ (d : Definition). d.id) n.definitions) x here)))
