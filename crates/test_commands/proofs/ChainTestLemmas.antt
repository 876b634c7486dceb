-- What `chaintest` reads, tests and says.
use Rattle.std.proofs.Common.{◌≡◌, ◌∙◌, ◌<◌, ◌≤◌, ◌+◌, ◌-◌, inl, inr, ℕ, zero, suc, List, [], ◌∷◌, ◌++◌, Some, None, Result, Ok, Err, Vec, refl, sym, subst, ap, ap₂, arith, length, get_or, take, is_some, is_none, append_assoc, append-nil}
use Rattle.std.specs.List.{All, AllZip, Contains, filter, flat_map, zip}
use Rattle.std.specs.Prelude.{not, slice_get}
use Rattle.std.specs.declared.alloc.Global.{Global}
use Rattle.std.proofs.lemmas.List.{take_all}
use Rattle.std.proofs.lemmas.Slice.Zip.{length-zip}
use Rattle.std.proofs.lemmas.List.Elements.{All-nil, All-cons}
use Rattle.statement.specs.Benches.{Text}
use Rattle.netlist.specs.Lines.{signal_of}
use Rattle.netlist.specs.Conditions.{IsSound}
use Rattle.statement.specs.Netlists.{Netlist, signals}
use Rattle.statement.specs.declared.lines.Fault.{Fault}
use Rattle.netlist.proofs.Lists.{All-from_contains, contains_filter}
use Rattle.bench_text.specs.declared.refusal.Names.TheVariants.{Design}
use Rattle.chain_test.specs.FirstWrong.{FirstWrongFails, IsFirstWrong}
use Rattle.chain_test.specs.Hardware.{is_site}
use Rattle.chain_test.specs.Laws.{FlushFails}
use Rattle.fault_universe.specs.Laws.{FaultsHaveSignals}
use Rattle.statement.specs.Faults.{universe_of}
use Rattle.good_files.specs.ScanOff.{design_chains}
use Rattle.scan_insert.specs.Scanned.{Insertion, scanned_of, sites_of}
use Rattle.statement.specs.Runs.{Cycle}
use Rattle.scan_play.specs.Cycles.{IsCycleOf}
use Rattle.stil_read.specs.Reading.{StandsFor}
use Rattle.statement.specs.Tests.{vectors_in}
use Rattle.statement.specs.Stils.{StilFile}
use Rattle.commands.specs.Names.{texts_of}
use Rattle.commands.specs.Due.{Deliver, Refuse}
use Rattle.commands.specs.Worked.{IsWorked}
use Rattle.commands.specs.declared.product.Product.{Product}
use Rattle.commands.specs.declared.product.Stop.{Stop}
use Rattle.commands.specs.declared.product.Stop.TheVariants as stop
use Rattle.commands.specs.declared.ending.Finding.TheVariants.{Fine}
use Rattle.test_commands.specs.ChainTests.{IsTold, Strobe, chain_test_text, hardware_of, told_counts, chaintest_due}
use Rattle.command_steps.specs.Steps.{netlist, value}
use Rattle.test_commands.specs.declared.chain_testing.ChainTrial.{ChainTrial}
use Rattle.test_commands.specs.declared.chain_testing.Hardware.{Hardware}
use Rattle.command_steps.specs.declared.refusal.Refusal.{Refusal}
use Rattle.command_steps.specs.declared.refusal.Refusal.TheVariants.{NotStil}
use Rattle.command_steps.specs.Answers.{Answers}
use Rattle.test_commands.specs.inner.ChainTrials.{IsChainTrial, IsHardwareOf, IsOutput, ReadsChainTrial, bytes_due, counts_text, test_due, text_due, told_due}
use Rattle.test_commands.proofs.PlayLemmas.{strobed_within}
use Rattle.command_steps.proofs.StepLemmas.{then_worked, two_texts}

-- ---- counts

pub fails_and_untold : (told : List Strobe) → length (filter is_some told) + length (filter is_none told) ≡ length told
fails_and_untold [] = refl
fails_and_untold (None ∷ told) = let h = fails_and_untold told in omega arith
fails_and_untold (Some place ∷ told) = let h = fails_and_untold told in omega arith

pub counts_are : (told : List Strobe) (fails untold : ℕ) → fails ≡ length (filter is_some told) → untold ≡ length told - fails → counts_text (length told) fails untold ≡ told_counts told
counts_are told fails untold is rest =
    let h = fails_and_untold told in
    ap₂ (λ f u. counts_text (length told) f u) is (omega (arith, is, rest))

-- ---- lines

next : {T : Type 0} (f : Fault × T → Text) (gs : List Fault) (ts : List T) (i : ℕ) (g : Fault) (t d : T) → i < length gs → length ts ≡ length gs → g ≡ get_or gs i g → t ≡ get_or ts i d
    → flat_map f (take (suc i) (zip gs ts)) ≡ flat_map f (take i (zip gs ts)) ++ f (g, t)
next f [] ts i g t d l size at there = absurd (omega arith)
next f (x ∷ gs) [] i g t d l size at there = absurd (omega (arith, size))
next {T} f (x ∷ gs) (y ∷ ts) zero g t d l size at there = append-nil (f (x, y)) ∙ ap₂ (λ (a : Fault) (b : T). f (a, b)) (sym at) (sym there)
next f (x ∷ gs) (y ∷ ts) (suc i) g t d l size at there =
    ap (λ r. f (x, y) ++ r) (next f gs ts i g t d (omega arith) (omega (arith, size)) at there) ∙ sym (append_assoc (f (x, y)) (flat_map f (take i (zip gs ts))) (f (g, t)))

-- one more line
pub line_more : {T : Type 0} (f : Fault × T → Text) (gs : List Fault) (ts : List T) (i : ℕ) (g : Fault) (t d : T) (start old new : Text) → i < length gs → length ts ≡ length gs
    → g ≡ get_or gs i g → t ≡ get_or ts i d → old ≡ start ++ flat_map f (take i (zip gs ts)) → new ≡ old ++ f (g, t) → new ≡ start ++ flat_map f (take (i + 1) (zip gs ts))
line_more f gs ts i g t d start old new l size at there is also =
    let more : suc i ≡ i + 1 = omega arith in
    also ∙ (ap (λ r. r ++ f (g, t)) is
    ∙ (append_assoc start (flat_map f (take i (zip gs ts))) (f (g, t))
    ∙ (ap (λ r. start ++ r) (sym (next f gs ts i g t d l size at there)) ∙ ap (λ k. start ++ flat_map f (take k (zip gs ts))) more)))

-- all lines
pub lines_all : {T : Type 0} (f : Fault × T → Text) (gs : List Fault) (ts : List T) (i : ℕ) (start new : Text) → length gs ≤ i → length ts ≡ length gs → new ≡ start ++ flat_map f (take i (zip gs ts))
    → new ≡ start ++ flat_map f (zip gs ts)
lines_all f gs ts i start new past size is =
    let few : length (zip gs ts) ≤ i = omega (arith, length-zip gs ts) in
    is ∙ ap (λ ps. start ++ flat_map f ps) (take_all i (zip gs ts) few)

-- ---- what is told

one_told : FirstWrongFails → (n : Netlist) → IsSound n → (cycles : List Cycle) (g : Fault) (t : Strobe) → IsFirstWrong n g cycles t → IsTold n cycles g t
one_told law n sound cycles g None first = record { first = first; fails = tt }
one_told law n sound cycles g (Some p) first = record { first = first; fails = law n g cycles p.0 p.1 sound.closed sound.acyclic first }

pub all_told : FirstWrongFails → (n : Netlist) → IsSound n → (cycles : List Cycle) (gs : List Fault) (ts : List Strobe) → AllZip (λ g t. IsFirstWrong n g cycles t) gs ts → AllZip (IsTold n cycles) gs ts
all_told law n sound cycles [] [] all = tt
all_told law n sound cycles [] (t ∷ ts) all = absurd all
all_told law n sound cycles (g ∷ gs) [] all = absurd all
all_told law n sound cycles (g ∷ gs) (t ∷ ts) all = (one_told law n sound cycles g t all.0, all_told law n sound cycles gs ts all.1)

one_output : (n : Netlist) (cycles : List Cycle) → All (IsCycleOf n) cycles → (g : Fault) (t : Strobe) → IsFirstWrong n g cycles t → IsOutput n t
one_output n cycles fit g None first = tt
one_output n cycles fit g (Some p) first = strobed_within n cycles fit p.0 p.1 first.first.0.0 first.first.0.1

pub all_outputs : (n : Netlist) (cycles : List Cycle) → All (IsCycleOf n) cycles → (gs : List Fault) (ts : List Strobe) → AllZip (λ g t. IsFirstWrong n g cycles t) gs ts → All (IsOutput n) ts
all_outputs n cycles fit [] [] all = All-nil (IsOutput n)
all_outputs n cycles fit [] (t ∷ ts) all = absurd all
all_outputs n cycles fit (g ∷ gs) [] all = absurd all
all_outputs n cycles fit (g ∷ gs) (t ∷ ts) all = All-cons (IsOutput n) t ts (one_output n cycles fit g t all.0) (all_outputs n cycles fit gs ts all.1)

pub zip_length : {X Y : Type 0} (R : X → Y → Type 0) (xs : List X) (ys : List Y) → AllZip R xs ys → length ys ≡ length xs
zip_length R [] [] all = refl
zip_length R [] (y ∷ ys) all = absurd all
zip_length R (x ∷ xs) [] all = absurd all
zip_length R (x ∷ xs) (y ∷ ys) all = ap suc (zip_length R xs ys all.1)

-- ---- the scan hardware

pub signals_of : FaultsHaveSignals → (n : Netlist) → IsSound n → All (λ (f : Fault). signal_of f.line < length (signals n)) (universe_of n)
signals_of law n sound k d l = law n k (get_or (universe_of n) k d) sound (at (universe_of n) k d l)
  where
    at : (fs : List Fault) (k : ℕ) (d : Fault) → k < length fs → slice_get fs k ≡ Some (get_or fs k d)
    at [] k d l = absurd (omega arith)
    at (f ∷ fs) zero d l = refl
    at (f ∷ fs) (suc k) d l = at fs k d (omega arith)

pub hardware_signals : FaultsHaveSignals → (n : Netlist) (chains : List (List ℕ)) (h : Hardware) → IsHardwareOf n chains h → IsSound h.scanned.netlist
    → All (λ (f : Fault). signal_of f.line < length (signals h.scanned.netlist)) h.faults.items
hardware_signals law n chains h is sound =
    let s = h.scanned.netlist in
    let here : h.faults.items ≡ filter (λ g. not (is_site (sites_of n chains) (universe_of n) g)) (universe_of (scanned_of n chains)) = is.faults in
    let there : scanned_of n chains ≡ s = sym (ap (λ (i : Insertion). i.netlist) is.scanned) in
    let P : Fault → Type 0 = λ f. signal_of f.line < length (signals s) in
    All-from_contains P h.faults.items (λ f c.
    let all = signals_of law s sound in
    within P (universe_of s) all f
    (subst (λ (m : Netlist). Contains (universe_of m) f) there
    (contains_filter (λ g. not (is_site (sites_of n chains) (universe_of n) g)) (universe_of (scanned_of n chains)) f (subst (λ fs. Contains fs f) here c)).0))
  where
    within : (P : Fault → Type 0) (fs : List Fault) → All P fs → (f : Fault) → Contains fs f → P f
    within P fs all f c = subst P c.2 (all c.0 f c.1)

-- ---- what is due

pub told_as : FlushFails → (n : Netlist) → IsSound n → (asked : ℕ) → 0 < asked → (file : StilFile) (h : Hardware) → IsHardwareOf n (design_chains n asked) h
    → (r : Result Product (Stop Refusal)) → IsWorked (text_due h file) 0 r → IsWorked (told_due n (design_chains n asked) file) 0 r
told_as law n sound asked some file h is (Err (stop.Refused q)) w = absurd (no_refusal w)
  where
    no_refusal : text_due h file (Refuse q) → ⊥
    no_refusal w = let e = w.2 in cc
told_as law n sound asked some file h is (Err stop.NoMemory) w = tt
told_as law n sound asked some file h is (Ok p) w =
    let chains = design_chains n asked in
    let t = w.0.1 in
    let s : h.scanned.netlist ≡ scanned_of n chains = ap (λ (i : Insertion). i.netlist) is.scanned in (
      (
        t.told,
        record {
          each = subst (λ (m : Netlist). AllZip (IsTold m (vectors_in file)) (hardware_of n chains) t.told) s
              (subst (λ fs. AllZip (IsTold h.scanned.netlist (vectors_in file)) fs t.told) is.faults t.each);
          flush = law n chains (vectors_in file) sound (record { asked = asked; some = some; are = refl });
        },
        w.0.2 ∙ ap (λ (x : Text). Deliver [] x Fine)
            (t.text_is ∙ (ap (λ (m : Netlist). chain_test_text m h.faults.items t.told) s ∙ ap (λ fs. chain_test_text (scanned_of n chains) fs t.told) is.faults)),
      ),
      w.1,
    )

-- ---- what is read

module _ (net stil : Text) where
  pub no_design : (s : Stop Refusal) → Answers (netlist Design net) (Err s) → ReadsChainTrial net stil (Err s)
  no_design (stop.Refused r) is = λ chains. inr (r, is, refl)
  no_design stop.NoMemory is = tt

  pub no_test : (n : Netlist) (s : Stop Refusal) → netlist Design net (Ok n) → Answers (value StandsFor NotStil stil) (Err s) → ReadsChainTrial net stil (Err s)
  no_test n (stop.Refused r) read is = λ chains. inl (n, read, inr (r, is, refl))
  no_test n stop.NoMemory read is = tt

  tried : (asked : ℕ) (n : Netlist) (file : StilFile) (count : ℕ) (r : Result Product (Stop Refusal)) → IsChainTrial net stil n file
      → IsWorked (test_due asked n file) count r → IsWorked (chaintest_due asked (net ∷ stil ∷ [])) count r
  tried asked n file count r t w =
      then_worked (netlist Design net) (bytes_due asked stil) count n r t.net_is (then_worked (value StandsFor NotStil stil) (test_due asked n) count file r t.file_is w)

  untried : (asked count : ℕ) (s : Stop Refusal) → ReadsChainTrial net stil (Err s) → IsWorked (chaintest_due asked (net ∷ stil ∷ [])) count (Err s)
  untried asked count (stop.Refused r) is = is asked
  untried asked count stop.NoMemory is = tt

module _ (asked : ℕ) (vs : List (Vec ℕ Global)) (v w d e : Vec ℕ Global) (count : length vs ≡ 2) (is : v ≡ get_or vs 0 d) (also : w ≡ get_or vs 1 e) where
  here : (net stil : Text) (r : Result Product (Stop Refusal)) → net ≡ v.items → stil ≡ w.items
      → IsWorked (chaintest_due asked (net ∷ stil ∷ [])) 0 r → IsWorked (chaintest_due asked (texts_of vs)) 0 r
  here net stil r net_is stil_is worked =
      let same : net ∷ stil ∷ [] ≡ texts_of vs = ap₂ (λ (a b : Text). a ∷ b ∷ []) net_is stil_is ∙ sym (two_texts vs v w d e count is also) in
      subst (λ (ts : List Text). IsWorked (chaintest_due asked ts) 0 r) same worked

  pub trial_worked : (net stil : Text) (t : ChainTrial) (r : Result Product (Stop Refusal)) → net ≡ v.items → stil ≡ w.items → ReadsChainTrial net stil (Ok t)
      → IsWorked (test_due asked t.netlist t.file) 0 r → IsWorked (chaintest_due asked (texts_of vs)) 0 r
  trial_worked net stil t r net_is stil_is read worked = here net stil r net_is stil_is (tried net stil asked t.netlist t.file 0 r read worked)

  pub trial_stopped : (net stil : Text) (s : Stop Refusal) → net ≡ v.items → stil ≡ w.items → ReadsChainTrial net stil (Err s)
      → IsWorked (chaintest_due asked (texts_of vs)) 0 (Err s)
  trial_stopped net stil s net_is stil_is read = here net stil (Err s) net_is stil_is (untried net stil asked 0 s read)
