-- What a run is asked for, step by step.
use denote.Ref.{Bor}
use Rattle.std.proofs.Common.{◌≡◌, ◌∙◌, ◌≤◌, ◌<◌, ◌+◌, inl, inr, ℕ, suc, Bool, true, false, List, [], ◌∷◌, ◌++◌, Option, Some, None, Result, Ok, Err, Vec, refl, sym, subst, ap, ap₂, arith, length, length-append, map, replicate}
use Rattle.std.specs.Prelude.{◌^◌, IfOk, IfSome, IsTrue, ◌↔◌, option_map}
use Rattle.std.specs.List.{All, AllZip, Contains, flat_map, zip}
use Rattle.std.specs.declared.alloc.Global.{Global}
use Rattle.std.proofs.lemmas.List.{length-map}
use Rattle.std.proofs.lemmas.List.Elements.{All-head, All-tail}
use Rattle.std.proofs.lemmas.Slice.Zip.{AllZip-long}
use Rattle.bench_text.specs.Bytes.{lines}
use Rattle.bench_text.specs.declared.refusal.Names.TheVariants.{Design}
use Rattle.statement.specs.Benches.{Text}
use Rattle.statement.specs.Netlists.{Netlist}
use Rattle.statement.specs.Faults.{fault_text, universe_of}
use Rattle.statement.specs.Patterns.{Holds, Pattern}
use Rattle.statement.specs.Stils.{Call, Item, StilFile, Vector}
use Rattle.scan_insert.specs.Scanned.{scanned_of}
use Rattle.stil_read.specs.Laws.{AtMostOne, ItemsTakeBytes}
use Rattle.stil_read.specs.Reading.{StandsFor}
use Rattle.stil_vectors.specs.Fitting.{FitsNetlist}
use Rattle.stil_patterns.specs.Applied.{applied_in, is_pattern, test_in, tests_in}
use Rattle.fault_marks.specs.Marks.{IsFirstStranger, NamesFault}
use Rattle.commands.specs.Contents.{most_bytes}
use Rattle.commands.specs.Worked.{IsWorked}
use Rattle.commands.specs.declared.product.Product.{Product}
use Rattle.commands.specs.declared.product.Stop.{Stop}
use Rattle.commands.specs.declared.product.Stop.TheVariants as stop
use Rattle.command_line.specs.HoldLists.{HoldItem}
use Rattle.command_line.specs.declared.requests.RunOptions.{RunOptions}
use Rattle.asked_run.specs.Asked.{FitsDesign, RunRead, asked_where, chains_of_file, first_patterns, made_due, marked_faults, run_read, run_texts}
use Rattle.command_steps.specs.Steps.{named_holds, netlist, test, value}
use Rattle.command_steps.specs.Answers.{Answers, AnswersList}
use Rattle.asked_run.specs.inner.Asking.{IsHeldCase, ReadsHeld, ReadsRun, ReadsTexts, ReadsWanted, applied_step, first_due, held_due, run_texts_of, wanted_due}
use Rattle.asked_run.specs.declared.asking.RunCase.{RunCase}
use Rattle.asked_run.specs.declared.asking.RunTexts.{RunTexts}
use Rattle.command_steps.specs.declared.refusal.Refusal.{Refusal}
use Rattle.command_steps.specs.declared.refusal.Refusal.TheVariants.{NoFaultAt, NotStil, StilDoesNotFit}
use Rattle.command_steps.proofs.Cells.{length-filter}
use Rattle.command_steps.proofs.StepLemmas.{then_worked}
use Rattle.command_steps.proofs.Single.{IsSingle}

-- ---- marks are determined

not_true : IsTrue false → ⊥
not_true h = cc

module _ {X : Type 0} (P : X → Type 0) where
  one_mark : (x : X) (a b : Bool) → IsTrue a ↔ P x → IsTrue b ↔ P x → a ≡ b
  one_mark x true true p q = refl
  one_mark x true false p q = absurd (not_true (q.1 (p.0 refl)))
  one_mark x false true p q = absurd (not_true (p.1 (q.0 refl)))
  one_mark x false false p q = refl

  marks_once : (xs : List X) (ms ks : List Bool) → AllZip (λ x m. IsTrue m ↔ P x) xs ms → AllZip (λ x m. IsTrue m ↔ P x) xs ks → ms ≡ ks
  marks_once [] [] [] p q = refl
  marks_once [] [] (k ∷ ks) p q = absurd q
  marks_once [] (m ∷ ms) ks p q = absurd p
  marks_once (x ∷ xs) [] ks p q = absurd p
  marks_once (x ∷ xs) (m ∷ ms) [] p q = absurd q
  marks_once (x ∷ xs) (m ∷ ms) (k ∷ ks) p q = ap₂ (λ (b : Bool) (bs : List Bool). b ∷ bs) (one_mark x m k p.0 q.0) (marks_once xs ms ks p.1 q.1)

-- the first line that isn't one of these stands at one place
module _ (P : Text → Type 0) where
  not_before : (x : Text) (behind : List Text) (z : Text) (more : List Text) → x ∷ behind ≡ z ∷ more → P z → P x
  not_before x behind z more e p = let same : z ≡ x = cc in subst P same p

  first_once : (before others behind after : List Text) (x y : Text) → before ++ x ∷ behind ≡ others ++ y ∷ after → ¬ P x → ¬ P y → All P before → All P others
      → length before ≡ length others
  first_once [] [] behind after x y e out gone all also = refl
  first_once [] (z ∷ others) behind after x y e out gone all also = absurd (out (not_before x behind z (others ++ y ∷ after) e (All-head P z others also)))
  first_once (w ∷ before) [] behind after x y e out gone all also = absurd (gone (not_before y after w (before ++ x ∷ behind) (sym e) (All-head P w before all)))
  first_once (w ∷ before) (z ∷ others) behind after x y e out gone all also =
      let tails : before ++ x ∷ behind ≡ others ++ y ∷ after = cc in
      ap suc (first_once before others behind after x y tails out gone (All-tail P w before all) (All-tail P z others also))

  none_stands : (before behind : List Text) (x : Text) → ¬ P x → All P (before ++ x ∷ behind) → ⊥
  none_stands [] behind x out all = out (All-head P x behind all)
  none_stands (w ∷ before) behind x out all = none_stands before behind x out (All-tail P w (before ++ x ∷ behind) all)

module _ (n : Netlist) (named : List Text) where
  number_once : (i j : ℕ) (x y : Text) → IsFirstStranger n named i x → IsFirstStranger n named j y → i ≡ j
  number_once i j x y p q =
      let same = first_once (NamesFault n) p.before q.before p.behind q.behind x y (sym p.lines_are ∙ q.lines_are) p.stranger q.stranger p.all q.all in
      p.number_is ∙ (ap (λ k. k + 1) same ∙ sym q.number_is)

  not_all_named : (i : ℕ) (x : Text) → IsFirstStranger n named i x → All (NamesFault n) named → ⊥
  not_all_named i x p all = none_stands (NamesFault n) p.before p.behind x p.stranger (subst (λ (ls : List Text). All (NamesFault n) ls) p.lines_are all)

pub marks_single : (n : Netlist) (list : Option Text) → IsSingle (marked_faults n list)
marks_single n None = record {
  value = λ a b p q. p ∙ sym q;
  refusal = λ r s p q. absurd p;
  apart = λ a r p q. q;
}
marks_single n (Some text) = record {
  value = λ a b p q. marks_once (λ f. Contains (lines text) (fault_text n f)) (universe_of n) a b p.each q.each;
  refusal = λ r s p q. p.3 ∙ (ap (λ k. NoFaultAt k) (number_once n (lines text) p.0 q.0 p.1 q.1 p.2 q.2) ∙ sym q.3);
  apart = λ a r p q. not_all_named n (lines text) q.0 q.1 q.2 p.all;
}

pub all_true : {X : Type 0} (xs : List X) → replicate (length xs) true ≡ map (λ x. true) xs
all_true [] = refl
all_true (x ∷ xs) = ap (λ (bs : List Bool). true ∷ bs) (all_true xs)

-- there is one for each fault
pub marks_length : (n : Netlist) (list : Option Text) (marks : List Bool) → marked_faults n list (Ok marks) → length marks ≡ length (universe_of n)
marks_length n None marks are = ap length are ∙ length-map (universe_of n) (λ f. true)
marks_length n (Some text) marks are = AllZip-long (λ f mark. IsTrue mark ↔ Contains (lines text) (fault_text n f)) (universe_of n) marks are.each

-- ---- first patterns are determined

module _ (one : AtMostOne) (n : Netlist) (holds : Holds) (text : Text) where
  refusals_once : (r s : Refusal) → first_patterns n holds (Some text) (Err r) → first_patterns n holds (Some text) (Err s) → r ≡ s
  refusals_once r s p q = elim p as (λ _. r ≡ s) [
    | inl x ↦ elim q as (λ _. r ≡ s) [
      | inl y ↦ x.0 ∙ sym y.0
      | inr y ↦ absurd (x.1 y.0 y.1)
    ]
    | inr x ↦ elim q as (λ _. r ≡ s) [
      | inl y ↦ absurd (y.1 x.0 x.1)
      | inr y ↦ x.3 ∙ sym y.3
    ]
  ]

  patterns_apart : (patterns : List Pattern) (r : Refusal) → first_patterns n holds (Some text) (Ok patterns) → first_patterns n holds (Some text) (Err r) → ⊥
  patterns_apart patterns r p q = elim q [
    | inl x ↦ x.1 p.0 p.1
    | inr y ↦ y.2 (subst (λ (f : StilFile). FitsDesign f n) (one text p.0 y.0 p.1 y.1) p.2)
  ]

pub first_single : AtMostOne → (n : Netlist) (holds : Holds) (stil : Option Text) → IsSingle (first_patterns n holds stil)
first_single one n holds None = record {
  value = λ a b p q. p ∙ sym q;
  refusal = λ r s p q. absurd p;
  apart = λ a r p q. q;
}
first_single one n holds (Some text) = record {
  value = λ a b p q. p.3 ∙ (ap (λ (f : StilFile). applied_in n holds (chains_of_file n f) f) (one text p.0 q.0 p.1 q.1) ∙ sym q.3);
  refusal = refusals_once one n holds text;
  apart = patterns_apart one n holds text;
}

-- ---- what a file applies

one_test : (count : ℕ) (chains : List (List ℕ)) (before item : Item) → length (test_in count chains before item) ≤ 1
one_test count chains before (Call words) = omega arith
one_test count [] before (Vector words) = omega arith
one_test count (chain ∷ chains) (Call load) (Vector words) = omega arith
one_test count (chain ∷ chains) (Vector other) (Vector words) = omega arith

few_tests : (count : ℕ) (chains : List (List ℕ)) (befores items : List Item) → length (flat_map (λ p. test_in count chains p.0 p.1) (zip befores items)) ≤ length items
few_tests count chains [] items = omega arith
few_tests count chains (b ∷ befores) [] = omega arith
few_tests count chains (b ∷ befores) (i ∷ items) =
    let rest = few_tests count chains befores items in
    let one = one_test count chains b i in
    let both = length-append (test_in count chains b i) (flat_map (λ p. test_in count chains p.0 p.1) (zip befores items)) in
    omega arith

applied_few : (n : Netlist) (holds : Holds) (chains : List (List ℕ)) (f : StilFile) → length (applied_in n holds chains f) ≤ length f.items
applied_few n holds chains f =
    let picked = length-filter (is_pattern n holds) (tests_in (length f.chains) chains f.items) in
    let few : length (tests_in (length f.chains) chains f.items) ≤ length f.items = few_tests (length f.chains) chains (Vector [] ∷ f.items) f.items in
    omega arith

module _ (n : Netlist) (holds : Holds) (text : Text) where
  -- a file that fits or not, and that stands there
  pub first_from : (file : StilFile) (r : Result (Vec Pattern Global) (Stop Refusal)) → StandsFor text file → AnswersList (applied_step n holds file) r → AnswersList (first_patterns n holds (Some text)) r
  first_from file (Ok v) stands is = (file, stands, is.0, is.1)
  first_from file (Err (stop.Refused r)) stands is = inr (file, stands, is.1, is.0)
  first_from file (Err stop.NoMemory) stands is = tt

  -- none stands there
  pub no_file : (s : Stop Refusal) → Answers (value StandsFor NotStil text) (Err s) → AnswersList (first_patterns n holds (Some text)) (Err s)
  no_file (stop.Refused r) is = inl is
  no_file stop.NoMemory is = tt

  pub few_first : (file : StilFile) (r : Result (Vec Pattern Global) (Stop Refusal)) → ItemsTakeBytes → StandsFor text file → length text ≤ most_bytes → AnswersList (applied_step n holds file) r
      → IfOk r (λ v. length v.items < 2 ^ 27)
  few_first file (Ok v) law stands short is =
      let items = law text file stands in
      let few = applied_few n holds (chains_of_file n file) file in
      let same : length v.items ≡ length (applied_in n holds (chains_of_file n file) file) = ap length is.1 in
      omega arith
  few_first file (Err s) law stands short is = tt

module _ (n : Netlist) (holds : Holds) (file : StilFile) (chains : List (List ℕ)) (scanned : Netlist) (dealt : chains ≡ chains_of_file n file) (is_scanned : scanned ≡ scanned_of n chains) where
  at_chains : scanned ≡ scanned_of n (chains_of_file n file)
  at_chains = is_scanned ∙ ap (scanned_of n) dealt

  pub applied_fits : (patterns : List Pattern) → FitsNetlist file scanned → patterns ≡ applied_in n holds chains file → applied_step n holds file (Ok patterns)
  applied_fits patterns fits are =
      (subst (λ (m : Netlist). FitsNetlist file m) at_chains fits, are ∙ ap (λ (cs : List (List ℕ)). applied_in n holds cs file) dealt)

  pub applied_stops : (s : Stop Refusal) → Answers (test (FitsNetlist file scanned) StilDoesNotFit) (Err s) → AnswersList (applied_step n holds file) (Err s)
  applied_stops (stop.Refused r) is = (is.0, λ fits. is.1 (subst (λ (m : Netlist). FitsNetlist file m) (sym at_chains) fits))
  applied_stops stop.NoMemory is = tt

-- ---- the steps

module _ (n : Netlist) (holds : Holds) (list stil : Option Text) where
  pub no_marks : (s : Stop Refusal) → AnswersList (marked_faults n list) (Err s) → ReadsWanted n holds list stil (Err s)
  no_marks (stop.Refused r) is = λ options. inr (r, is, refl)
  no_marks stop.NoMemory is = tt

  pub no_first : (marks : List Bool) (s : Stop Refusal) → marked_faults n list (Ok marks) → AnswersList (first_patterns n holds stil) (Err s) → ReadsWanted n holds list stil (Err s)
  no_first marks (stop.Refused r) are is = λ options. inl (marks, are, inr (r, is, refl))
  no_first marks stop.NoMemory are is = tt

module _ (named : List HoldItem) (list stil : Option Text) (n : Netlist) where
  pub no_holds : (s : Stop Refusal) → Answers (named_holds n named) (Err s) → ReadsHeld named list stil n (Err s)
  no_holds (stop.Refused r) is = λ options. inr (r, is, refl)
  no_holds stop.NoMemory is = tt

  pub no_wanted : (holds : Holds) (s : Stop Refusal) → named_holds n named (Ok holds) → ReadsWanted n holds list stil (Err s) → ReadsHeld named list stil n (Err s)
  no_wanted holds (stop.Refused r) held is = λ options. inl (holds, held, is options)
  no_wanted holds stop.NoMemory held is = tt

module _ (named : List HoldItem) (t : RunRead) where
  no_netlist : (s : Stop Refusal) → Answers (netlist Design t.net) (Err s) → ReadsRun named t (Err s)
  no_netlist (stop.Refused r) is = λ options. inr (r, is, refl)
  no_netlist stop.NoMemory is = tt

  held_run : (n : Netlist) (r : Result RunCase (Stop Refusal)) → netlist Design t.net (Ok n) → ReadsHeld named t.list t.stil n r → ReadsRun named t r
  held_run n (Ok c) read h =
      (subst (λ (m : Netlist). netlist Design t.net (Ok m)) (sym h.core) read, subst (λ (m : Netlist). IsHeldCase named t.list t.stil m c) (sym h.core) h)
  held_run n (Err (stop.Refused r)) read h = λ options. inl (n, read, h options)
  held_run n (Err stop.NoMemory) read h = tt

  pub texts_refused : (o : Option RunRead) (s : Stop Refusal) → o ≡ Some t → Answers (netlist Design t.net) (Err s) → ReadsTexts named o (Err s)
  texts_refused o s same is = subst (λ (x : Option RunRead). ReadsTexts named x (Err s)) (sym same) (no_netlist s is)

  pub texts_read : (o : Option RunRead) (n : Netlist) (r : Result RunCase (Stop Refusal)) → o ≡ Some t → netlist Design t.net (Ok n) → ReadsHeld named t.list t.stil n r
      → ReadsTexts named o r
  texts_read o n r same read h = subst (λ (x : Option RunRead). ReadsTexts named x r) (sym same) (held_run n r read h)

-- ---- the work

module _ (options : RunOptions) (named : List HoldItem) (count : ℕ) where
  pub case_worked : (o : Option RunRead) (c : RunCase) (r : Result Product (Stop Refusal)) → ReadsTexts named o (Ok c)
      → IsWorked (made_due options c.core c.holds c.wanted.faults.items c.wanted.first.items) count r → IsWorked (asked_where options named o) count r
  case_worked None c r read w = absurd read
  case_worked (Some t) c r read w =
      let h = read.1 in
      let n = c.core in
      let marks = c.wanted.faults.items in
      then_worked (netlist Design t.net) (held_due options named t.list t.stil) count n r read.0
      (then_worked (named_holds n named) (λ holds. wanted_due options n holds t.list t.stil) count c.holds r h.holds
      (then_worked (marked_faults n t.list) (first_due options n c.holds t.stil) count marks r h.faults
      (then_worked (first_patterns n c.holds t.stil) (made_due options n c.holds marks) count c.wanted.first.items r h.first w)))

  pub case_stopped : (o : Option RunRead) (s : Stop Refusal) → ReadsTexts named o (Err s) → IsWorked (asked_where options named o) count (Err s)
  case_stopped None s read = absurd read
  case_stopped (Some t) (stop.Refused r) read = read options
  case_stopped (Some t) stop.NoMemory read = tt

-- ---- the texts that were read

abbrev IsShort : Text → Type 0
IsShort text = length text ≤ most_bytes

abbrev HasShort : RunRead → Type 0
HasShort t = IfSome t.stil IsShort

same_read : (s t : RunRead) → Some s ≡ Some t → HasShort s → HasShort t
same_read s t e h = let same : s ≡ t = cc in subst HasShort same h

stil_short : (list first : Option Text) (texts : List Text) (t : RunRead) → run_read list first texts ≡ Some t → All IsShort texts → HasShort t
stil_short None None [] t e all = cc
stil_short None None (a ∷ []) t e all = same_read (run_texts a None None) t e tt
stil_short None None (a ∷ b ∷ more) t e all = cc
stil_short (Some l) None [] t e all = cc
stil_short (Some l) None (a ∷ []) t e all = cc
stil_short (Some l) None (a ∷ b ∷ []) t e all = same_read (run_texts a (Some b) None) t e tt
stil_short (Some l) None (a ∷ b ∷ c ∷ more) t e all = cc
stil_short None (Some f) [] t e all = cc
stil_short None (Some f) (a ∷ []) t e all = cc
stil_short None (Some f) (a ∷ b ∷ []) t e all = same_read (run_texts a None (Some b)) t e (All-head IsShort b [] (All-tail IsShort a (b ∷ []) all))
stil_short None (Some f) (a ∷ b ∷ c ∷ more) t e all = cc
stil_short (Some l) (Some f) [] t e all = cc
stil_short (Some l) (Some f) (a ∷ []) t e all = cc
stil_short (Some l) (Some f) (a ∷ b ∷ []) t e all = cc
stil_short (Some l) (Some f) (a ∷ b ∷ c ∷ []) t e all =
    same_read (run_texts a (Some b) (Some c)) t e (All-head IsShort c [] (All-tail IsShort b (c ∷ []) (All-tail IsShort a (b ∷ c ∷ []) all)))
stil_short (Some l) (Some f) (a ∷ b ∷ c ∷ d ∷ more) t e all = cc

lent : (o : Option (Bor Text)) → IfSome (option_map (λ t. t.now) o) IsShort → IfSome o (λ text. IsShort text.now)
lent None h = h
lent (Some text) h = h

pub lent_short : (list first : Option Text) (texts : List Text) (t : RunTexts) → run_read list first texts ≡ Some (run_texts_of t) → All IsShort texts → IfSome t.stil (λ text. IsShort text.now)
lent_short list first texts t e all = lent t.stil (stil_short list first texts (run_texts_of t) e all)
