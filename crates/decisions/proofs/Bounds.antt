-- A tree that splits on some signals alone has at most 2 to their number of ends.
use Rattle.std.proofs.Common.{◌≡◌, ℕ, ◌+◌, ◌<◌, ◌≤◌, ◌^◌, Bool, true, false, cond, List, [], ◌∷◌, ◌++◌, length, Option, Some, None, refl, sym, ap, subst, inl, inr, eqb, arith}
use Rattle.std.specs.Option.{is_none}
use Rattle.std.specs.List.{All, Contains}
use Rattle.std.proofs.lemmas.Bool.{eq-eqb}
use Rattle.std.proofs.lemmas.List.Elements.{All-head, All-tail}
use Rattle.std.proofs.Math.Pow.{pow_mono}
use Rattle.std.proofs.Math.Nat.{two-pow-succ}
use Rattle.std.proofs.Math.Numerals.{add-one}
use Rattle.std.proofs.lemmas.Nat.{pow_pos}
use Rattle.statement.specs.declared.lines.Fault.{Fault}
use Rattle.statement.specs.Patterns.{Holds}
use Rattle.statement.specs.Netlists.{Netlist}
use Rattle.netlist.proofs.Lists.{contains_cases, contains_nil, all_left, all_right}
use Rattle.tri.specs.Paths.{Path, decisions}
use Rattle.redundancy_cert.specs.declared.nodes.Node.{Node}
use Rattle.redundancy_cert.specs.declared.nodes.Node.TheVariants.{Split, Forced}
use Rattle.redundancy_cert.specs.Trees.{Tree, Place, ClosedEnd, OpenEnd, SplitOn, ForcedTo, preorder, places, closed_count, open_count}
use Rattle.redundancy_cert.proofs.Redundant.{closed_count-append, open_count-append}
use Rattle.pair_sim.proofs.Free.{free_undecided}
use Rattle.redundancy_cert.specs.Stacks.{StandsBelow}
use Rattle.decisions.specs.Standing.{AsksFit, SplitsAmong}
use Rattle.decisions.specs.Turns.{undecided}

-- ---- undecided signals

still : (path : Path) (x y : ℕ) (b : Bool) → cond (is_none (decisions ((x, b) ∷ path) y)) 1 0 ≤ cond (is_none (decisions path y)) 1 0
still path x y b =
    let step : (t : Bool) → cond (is_none (cond t (Some b) (decisions path y))) 1 0 ≤ cond (is_none (decisions path y)) 1 0 =
    elim [ true ↦ omega arith | false ↦ omega arith ] in
    step (eqb y x)

pub undecided_kept : (path : Path) (x : ℕ) (b : Bool) (ids : List ℕ) → undecided ((x, b) ∷ path) ids ≤ undecided path ids
undecided_kept path x b [] = omega arith
undecided_kept path x b (y ∷ ys) = let h = undecided_kept path x b ys in let s = still path x y b in omega arith

abbrev bit_count : Bool → ℕ
bit_count b = cond b 1 0

now_decided : (path : Path) (x : ℕ) (b : Bool) → bit_count (is_none (decisions ((x, b) ∷ path) x)) ≡ 0
now_decided path x b = ap (λ t. bit_count (is_none (cond t (Some b) (decisions path x)))) (eq-eqb x x refl)

less : (m k : ℕ) → m ≡ 0 → k ≡ 1 → m + 1 ≤ k
less m k a b = omega arith

here_less : (path : Path) (x : ℕ) (b : Bool) → decisions path x ≡ None → cond (is_none (decisions ((x, b) ∷ path) x)) 1 0 + 1 ≤ cond (is_none (decisions path x)) 1 0
here_less path x b e = less _ _ (now_decided path x b) (ap (λ (o : Option Bool). bit_count (is_none o)) e)

pub undecided_less : (path : Path) (x : ℕ) (b : Bool) (ids : List ℕ) → Contains ids x → decisions path x ≡ None → undecided ((x, b) ∷ path) ids + 1 ≤ undecided path ids
undecided_less path x b [] c e = absurd (contains_nil x c)
undecided_less path x b (y ∷ ys) c e = elim (contains_cases y x ys c) [
  | inl same ↦
      let h = undecided_kept path x b ys in
      let s : cond (is_none (decisions ((x, b) ∷ path) y)) 1 0 + 1 ≤ cond (is_none (decisions path y)) 1 0 =
      subst (λ z. cond (is_none (decisions ((x, b) ∷ path) z)) 1 0 + 1 ≤ cond (is_none (decisions path z)) 1 0) (sym same) (here_less path x b e) in
      omega arith
  | inr m ↦ let h = undecided_less path x b ys m e in let s = still path x y b in omega arith
]

pub undecided_none : (ids : List ℕ) → undecided [] ids ≡ length ids
undecided_none [] = refl
undecided_none (y ∷ ys) = let h = undecided_none ys in omega arith

-- ---- ends of a tree

power_step : (k : ℕ) → 2 ^ (k + 1) ≡ 2 ^ k + 2 ^ k
power_step k = rw add-one (two-pow-succ k)

power_grows : (j k : ℕ) → j ≤ k → 2 ^ j ≤ 2 ^ k
power_grows j k l = pow_mono l

power_one : (k : ℕ) → 1 ≤ 2 ^ k
power_one k = pow_pos k

module _ (P : Place → Type 0) (f : Fault) (n : Netlist) (holds : Holds) (fit : AsksFit P f n holds) (ids : List ℕ) (among : SplitsAmong P ids) where
  ends : (t : Tree) (path : Path) → All P (places path t)
      → closed_count (preorder t) + open_count (preorder t) ≤ 2 ^ undecided path ids
  ends ClosedEnd path h = let p = power_one (undecided path ids) in omega arith
  ends OpenEnd path h = let p = power_one (undecided path ids) in omega arith
  ends (SplitOn x t u) path h =
      let left : Path = (x, false) ∷ path in
      let right : Path = (x, true) ∷ path in
      let here = All-head P (record { path = path; node = Split x }) (places left t ++ places right u) h in
      let below = All-tail P (record { path = path; node = Split x }) (places left t ++ places right u) h in
      let free = free_undecided f n holds path x (fit (record { path = path; node = Split x }) here).1 in
      let place = among path x here in
      let a = ends t left (all_left P (places left t) (places right u) below) in
      let b = ends u right (all_right P (places left t) (places right u) below) in
      let c = closed_count-append (preorder t) (preorder u) in
      let d = open_count-append (preorder t) (preorder u) in
      let p = power_grows (undecided left ids + 1) (undecided path ids) (undecided_less path x false ids place free) in
      let q = power_grows (undecided right ids + 1) (undecided path ids) (undecided_less path x true ids place free) in
      let v = power_step (undecided left ids) in
      let w = power_step (undecided right ids) in
      omega arith
  ends (ForcedTo x b t) path h =
      let side : Path = (x, b) ∷ path in
      let below = All-tail P (record { path = path; node = Forced x b }) (places side t) h in
      let a = ends t side below in
      let p = power_grows (undecided side ids) (undecided path ids) (undecided_kept path x b ids) in
      omega arith

  -- with a limit of 2 to the number of these signals no tree has so many Closed and an Open besides
  pub limit_small : (nodes : List Node) (limit : ℕ) → StandsBelow P [] nodes → closed_count nodes ≡ limit → 1 ≤ open_count nodes → limit < 2 ^ length ids
  limit_small nodes limit w c o =
      let e = ends w.0 [] w.2 in
      let a = ap closed_count w.1 in
      let b = ap open_count w.1 in
      let s : 2 ^ undecided [] ids ≡ 2 ^ length ids = ap (λ k. 2 ^ k) (undecided_none ids) in
      omega arith
