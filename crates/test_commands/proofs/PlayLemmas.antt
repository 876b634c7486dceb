-- What `play` reads, plays and says.
use Rattle.std.proofs.Common.{◌≡◌, ◌∙◌, ◌<◌, inl, inr, ℕ, zero, suc, Bool, true, false, List, [], ◌∷◌, Option, Result, Ok, Err, Vec, refl, sym, subst, ap₂, arith, length, get_or, map}
use Rattle.std.specs.List.{All}
use Rattle.std.specs.declared.alloc.Global.{Global}
use Rattle.std.proofs.Math.ListN.{get_or-eq_default}
use Rattle.std.proofs.lemmas.Bool.{cases_lt}
use Rattle.std.proofs.lemmas.List.Elements.{All-head, All-tail}
use Rattle.statement.specs.Benches.{Text}
use Rattle.statement.specs.Netlists.{Netlist}
use Rattle.statement.specs.Values.{known}
use Rattle.statement.specs.declared.kinds.Tri.{Tri}
use Rattle.statement.specs.declared.kinds.Tri.TheVariants.{X}
use Rattle.statement.specs.declared.lines.Fault.{Fault}
use Rattle.bench_text.specs.declared.refusal.Names.TheVariants.{Scanned}
use Rattle.statement.specs.Runs.{Cycle, strobe_at}
use Rattle.scan_play.specs.Cycles.{IsCycleOf}
use Rattle.scan_play.specs.Laws.{PlayTells}
use Rattle.scan_play.specs.Playing.{PlaysAs}
use Rattle.scan_play.specs.declared.played.Played.{Played}
use Rattle.scan_play.specs.declared.played.Played.TheVariants.{Passes, Fails, Unknown}
use Rattle.stil_read.specs.Reading.{StandsFor}
use Rattle.statement.specs.Stils.{StilFile}
use Rattle.commands.specs.Names.{texts_of}
use Rattle.commands.specs.Worked.{IsWorked}
use Rattle.commands.specs.declared.product.Product.{Product}
use Rattle.commands.specs.declared.product.Stop.{Stop}
use Rattle.commands.specs.declared.product.Stop.TheVariants as stop
use Rattle.test_commands.specs.Plays.{play_due, IsPlay, IsShown}
use Rattle.command_steps.specs.Steps.{named_fault, netlist, value}
use Rattle.test_commands.specs.declared.playing.Trial.{Trial}
use Rattle.command_steps.specs.declared.refusal.Refusal.{Refusal}
use Rattle.command_steps.specs.declared.refusal.Refusal.TheVariants.{NotStil}
use Rattle.command_steps.specs.Answers.{Answers}
use Rattle.test_commands.specs.inner.Trials.{IsTrial, ReadsTrial, fault_due, file_due, trial_due}
use Rattle.command_steps.proofs.StepLemmas.{then_worked, two_texts}

-- ---- what is read

module _ (fault : Option Text) (net stil : Text) where
  pub no_netlist : (s : Stop Refusal) → Answers (netlist Scanned net) (Err s) → ReadsTrial fault net stil (Err s)
  no_netlist (stop.Refused r) is = inr (r, is, refl)
  no_netlist stop.NoMemory is = tt

  pub no_fault : (n : Netlist) (s : Stop Refusal) → netlist Scanned net (Ok n) → Answers (named_fault n fault) (Err s) → ReadsTrial fault net stil (Err s)
  no_fault n (stop.Refused r) read is = inl (n, read, inr (r, is, refl))
  no_fault n stop.NoMemory read is = tt

  pub no_file : (n : Netlist) (f : Option Fault) (s : Stop Refusal) → netlist Scanned net (Ok n) → named_fault n fault (Ok f) → Answers (value StandsFor NotStil stil) (Err s)
      → ReadsTrial fault net stil (Err s)
  no_file n f (stop.Refused r) read named is = inl (n, read, inl (f, named, inr (r, is, refl)))
  no_file n f stop.NoMemory read named is = tt

  tried : (n : Netlist) (f : Option Fault) (file : StilFile) (count : ℕ) (r : Result Product (Stop Refusal)) → IsTrial fault net stil n f file
      → IsWorked (trial_due n f file) count r → IsWorked (play_due fault (net ∷ stil ∷ [])) count r
  tried n f file count r t w =
      then_worked (netlist Scanned net) (fault_due fault stil) count n r t.net_is
      (then_worked (named_fault n fault) (file_due stil n) count f r t.fault_is (then_worked (value StandsFor NotStil stil) (trial_due n f) count file r t.file_is w))

  untried : (count : ℕ) (s : Stop Refusal) → ReadsTrial fault net stil (Err s) → IsWorked (play_due fault (net ∷ stil ∷ [])) count (Err s)
  untried count (stop.Refused r) is = is
  untried count stop.NoMemory is = tt

module _ (fault : Option Text) (vs : List (Vec ℕ Global)) (v w d e : Vec ℕ Global) (count : length vs ≡ 2) (is : v ≡ get_or vs 0 d) (also : w ≡ get_or vs 1 e) where
  here : (net stil : Text) (k : ℕ) (r : Result Product (Stop Refusal)) → net ≡ v.items → stil ≡ w.items
      → IsWorked (play_due fault (net ∷ stil ∷ [])) k r → IsWorked (play_due fault (texts_of vs)) k r
  here net stil k r net_is stil_is worked =
      let same : net ∷ stil ∷ [] ≡ texts_of vs = ap₂ (λ (a b : Text). a ∷ b ∷ []) net_is stil_is ∙ sym (two_texts vs v w d e count is also) in
      subst (λ (ts : List Text). IsWorked (play_due fault ts) k r) same worked

  pub trial_worked : (net stil : Text) (t : Trial) (k : ℕ) (r : Result Product (Stop Refusal)) → net ≡ v.items → stil ≡ w.items → ReadsTrial fault net stil (Ok t)
      → IsWorked (trial_due t.netlist t.fault t.file) k r → IsWorked (play_due fault (texts_of vs)) k r
  trial_worked net stil t k r net_is stil_is read worked = here net stil k r net_is stil_is (tried fault net stil t.netlist t.fault t.file k r read worked)

  pub trial_stopped : (net stil : Text) (k : ℕ) (s : Stop Refusal) → net ≡ v.items → stil ≡ w.items → ReadsTrial fault net stil (Err s)
      → IsWorked (play_due fault (texts_of vs)) k (Err s)
  trial_stopped net stil k s net_is stil_is read = here net stil k (Err s) net_is stil_is (untried fault net stil k s read)

-- ---- what is played

pub is_play : (n : Netlist) (f : Option Fault) (cycles : List Cycle) → PlayTells n f cycles → (answer : Played) → PlaysAs n f cycles answer → IsPlay n f cycles answer
is_play n f cycles tells Passes plays = record { plays = plays; holds = tells.passes plays }
is_play n f cycles tells (Fails c o) plays = record { plays = plays; holds = tells.fails c o plays }
is_play n f cycles tells (Unknown c o) plays = record { plays = plays; holds = tt }

pub known_is_not_x : (b : Bool) (v : Tri) → v ≡ X → v ≡ known b → ⊥
known_is_not_x true v x k = let e : X ≡ known true = sym x ∙ k in cc
known_is_not_x false v x k = let e : X ≡ known false = sym x ∙ k in cc

within_row : (row : List Tri) (o : ℕ) (b : Bool) → get_or row o X ≡ known b → o < length row
within_row row o b e = elim (cases_lt o (length row)) [
  | inl before ↦ before
  | inr past ↦ absurd (known_is_not_x b (get_or row o X) (get_or-eq_default row X past) e)
]

row_of : (n : Netlist) (cycles : List Cycle) → All (IsCycleOf n) cycles → (c o : ℕ) → o < length (get_or (map (λ (x : Cycle). x.strobe) cycles) c []) → o < length n.outputs
row_of n [] fit c o below = absurd (omega arith)
row_of n (x ∷ xs) fit zero o below = let e = (All-head (IsCycleOf n) x xs fit).strobe in omega (arith, e)
row_of n (x ∷ xs) fit (suc c) o below = row_of n xs (All-tail (IsCycleOf n) x xs fit) c o below

pub strobed_within : (n : Netlist) (cycles : List Cycle) → All (IsCycleOf n) cycles → (c o : ℕ) (b : Bool) → strobe_at cycles c o ≡ known b → o < length n.outputs
strobed_within n cycles fit c o b e = row_of n cycles fit c o (within_row (get_or (map (λ (x : Cycle). x.strobe) cycles) c []) o b e)

pub is_shown : (n : Netlist) (f : Option Fault) (cycles : List Cycle) → All (IsCycleOf n) cycles → (answer : Played) → PlaysAs n f cycles answer → IsShown n answer
is_shown n f cycles fit Passes plays = tt
is_shown n f cycles fit (Fails c o) plays = strobed_within n cycles fit c o plays.2.1.0 plays.2.1.1
is_shown n f cycles fit (Unknown c o) plays = strobed_within n cycles fit c o plays.2.1.0 plays.2.1.1
