-- What good files say comes true.
use Rattle.std.proofs.Common.{◌≡◌, ◌≤◌, ℕ, inl, inr, Bool, true, false, not, cond, List, [], ◌∷◌, ◌++◌, length, map, get_or, Option, Some, None, option_map, Ok, refl, sym, ◌∙◌, ap, subst, arith, IsTrue, codes, append_assoc}
use Rattle.std.specs.List.{All, Contains, flat_map, slice_get, zip}
use Rattle.std.proofs.lemmas.List.Elements.{All-contains, All-weaker}
use Rattle.std.proofs.lemmas.Option.{get_or_from_slice_get, slice_get-get_or, slice_get-map, slice_get_within}
use Rattle.std.proofs.lemmas.List.{ext_get_or, length-map}
use Rattle.netlist.proofs.Lists.{All-from_contains, contains_head, contains_tail, filter_contains}
use Rattle.netlist.proofs.WellFormed.{names_counted}
use Rattle.statement.specs.declared.lines.Fault.{Fault}
use Rattle.statement.specs.declared.lines.Point.{Point}
use Rattle.statement.specs.declared.lines.Line.{Line as Lead}
use Rattle.statement.specs.declared.lines.Line.TheVariants.{Stem, Pin, Out}
use Rattle.statement.specs.Netlists.{Definition, Netlist, is_cell, name_of, signals, IsName}
use Rattle.netlist.specs.Netlist.{is_gate}
use Rattle.netlist.specs.Conditions.{IsSound}
use Rattle.netlist.specs.Designs.{IsDesign}
use Rattle.netlist.specs.Lines.{IsLineOf}
use Rattle.netlist.specs.Holds.{AreHoldsOf}
use Rattle.statement.specs.Patterns.{Detects, Pattern}
use Rattle.netlist.specs.Detection.{IsRedundant}
use Rattle.bench_text.specs.declared.refusal.Names.TheVariants.{Scanned}
use Rattle.statement.specs.Benches.{canonical}
use Rattle.bench_text.specs.Laws.{CanonicalTextIsRead, IsReadable, is_free}
use Rattle.bench_text.specs.Reading.{IsRead}
use Rattle.scan_insert.specs.Laws.{ScanBehaves, ScannedIsSound}
use Rattle.scan_insert.specs.Named.{HasSiteNames, SitesHaveNames}
use Rattle.scan_insert.specs.Scanned.{AreChainsOf, line_at, scanned_of, site, sites_of}
use Rattle.statement.specs.Runs.{Cycle}
use Rattle.scan_play.specs.Vectors.{AreVectors}
use Rattle.statement.specs.Values.{bit_table}
use Rattle.scan_play.specs.Laws.{GoodPasses, UndetectedPasses, DetectedFails, VectorsFit, NoSequenceDetectsRedundant, SomeRun}
use Rattle.statement.specs.Tests.{vectors_in}
use Rattle.stil_patterns.specs.Laws.{FileVectors}
use Rattle.fault_universe.specs.Laws.{FaultsHaveLines}
use Rattle.statement.specs.Faults.{fault_text, universe_of}
use Rattle.fault_universe.proofs.Elements.{contains_at}
use Rattle.fault_collapse.specs.Joined.{IsEquivalent}
use Rattle.fault_collapse.specs.Laws.{DetectedAlike}
use Rattle.fault_collapse.specs.Numbers.{Classes}
use Rattle.evidence.specs.declared.kinds.Evidence.{Evidence}
use Rattle.evidence.specs.declared.kinds.Evidence.TheVariants.{Tree}
use Rattle.evidence.specs.Laws.{ShownIsRedundant}
use Rattle.word_sim.specs.Hits.{IsNeverDetected}
use Rattle.statement.specs.declared.outcomes.Outcome.{Outcome}
use Rattle.statement.specs.declared.outcomes.Outcome.TheVariants.{Detected, Redundant, Aborted, Unasked}
use Rattle.report.specs.Reports.{Hold, Report}
use Rattle.statement.specs.Reports.{Line, fault_line}
use Rattle.report.specs.Texts.{counts_text, head, hold_line, report_text, share_line, times_text, unasked_line}
use Rattle.run_report.specs.Outcomes.{Test, IsFirstOf, IsTrueAt, IsTrueOf, AreTrueLines}
use Rattle.run_report.specs.Heads.{hold_at, holds_named}
use Rattle.run_report.proofs.ClassLemmas.{equivalent}
use Rattle.good_files.specs.GoodFiles.{AreGoodFiles, Contents, chains_in, chains_said, limit_said, test_in}
use Rattle.statement.specs.Statement.{FiveFiles, ComesTrue, IsNamed, IsSite, hold_text}
use Rattle.good_files.specs.RunTheorem.{HasEvidence, RunTheorem}
use Rattle.good_files.proofs.Chains.{behaves, dealt}

-- ---- the scanned netlist's text

-- any netlist is read as a scanned one from its canonical text
fits_scanned : (n : Netlist) → IsSound n → IsReadable Scanned n
fits_scanned n sound = record {
  short = All-weaker IsName (λ (x : List ℕ). length x ≤ 261) (λ x name. name.short) n.names sound.formed.names;
  free = All-weaker IsName (λ (x : List ℕ). IsTrue (is_free Scanned x)) (λ x name. refl) n.names sound.formed.names;
  few = sound.sized.small;
}

read_back : CanonicalTextIsRead → (n : Netlist) → IsSound n → (text : List ℕ) → text ≡ canonical n → IsRead Scanned text (Ok n)
read_back law n sound text is =
    let w = law Scanned n sound (fits_scanned n sound) in
    subst (λ (t : List ℕ). IsRead Scanned t (Ok n)) (sym is) (sym w.1, w.0, sound.acyclic)

-- ---- lines

got : {A B : Type 0} (f : A → B) (xs : List A) (k : ℕ) (x : A) (d : B) → slice_get xs k ≡ Some x → get_or (map f xs) k d ≡ f x
got f xs k x d e = get_or_from_slice_get (map f xs) k (f x) d (slice_get-map f xs k ∙ ap (option_map f) e)

once : (t : Test) (classes : Classes) (lines : List Line) → AreTrueLines t classes lines
    → map (λ (l : Line). l.fault) lines ≡ map (fault_text t.netlist) (universe_of t.netlist)
once t classes lines are =
    let n = t.netlist in
    let texts = map (fault_text n) (universe_of n) in
    let named = map (λ (l : Line). l.fault) lines in
    let size : length named ≡ length texts = length-map lines (λ l. l.fault) ∙ are.no_more ∙ sym (length-map (universe_of n) (fault_text n)) in
    ext_get_or [] named texts size (λ k lt.
    let w = are.each k (omega (arith, lt, length-map lines (λ l. l.fault), are.no_more)) in
    got (λ (l : Line). l.fault) lines k w.line [] w.said ∙ w.names_it ∙ sym (got (fault_text n) (universe_of n) k w.fault [] w.member))

stands : (ps : List (Fault × Evidence)) (f : Fault) (e : Evidence) → IsFirstOf ps f e → Contains ps (f, e)
stands [] f e first = absurd first
stands (p ∷ ps) f e (inl here) = subst (λ (q : Fault × Evidence). Contains (p ∷ ps) q) (λ i. (here.0 i, here.1 i)) (contains_head p ps)
stands (p ∷ ps) f e (inr later) = contains_tail p (f, e) ps (stands ps f e later.1)

same_member : {X : Type 0} (xs : List X) (k : ℕ) (x y : X) → slice_get xs k ≡ Some x → slice_get xs k ≡ Some y → x ≡ y
same_member xs k x y p q = let both : Some x ≡ Some y = sym p ∙ q in cc

-- ---- the tester

-- the laws that are cited
pub record Laws : Type 1 where
  pub scan : ScanBehaves
  pub sound : ScannedIsSound
  pub sites : SitesHaveNames
  pub good : GoodPasses
  pub undetected : UndetectedPasses
  pub detected : DetectedFails
  pub fit : VectorsFit
  pub redundant : NoSequenceDetectsRedundant
  pub run : SomeRun Bool
  pub read : CanonicalTextIsRead
  pub test : FileVectors
  pub lines : FaultsHaveLines
  pub alike : DetectedAlike
  pub shown : ShownIsRedundant

-- what a test and its file are
record IsPlayable (t : Test) (cycles : List Cycle) : Type 0 where
  sound : IsSound t.netlist
  held : AreHoldsOf t.netlist t.holds
  dealt : AreChainsOf t.netlist t.chains
  vectors : AreVectors t.netlist t.holds t.chains t.patterns cycles

never_at : (n : Netlist) (patterns : List Pattern) (f : Fault) → IsNeverDetected n patterns f
    → All (λ (p : Pattern). (point : Point) → ¬ Detects n f p.inputs p.cells point) patterns
never_at n patterns f never = All-from_contains (λ (p : Pattern). (point : Point) → ¬ Detects n f p.inputs p.cells point) patterns
    (λ p here point detects.
    let at : slice_get patterns here.0 ≡ Some p = slice_get-get_or patterns here.0 p here.1 ∙ ap (λ (q : Pattern). Some q) here.2 in
    never here.0 point (record { pattern = p; at = at; detects = detects }))

-- ---- a fault in the scanned netlist

pins_named : (n : Netlist) (chains : List (List ℕ)) → HasSiteNames n chains → (d : Definition) → Contains n.definitions d → (b : Bool) → is_cell d ≡ b
    → name_of (scanned_of n chains) (site (sites_of n chains) d.id).pins ≡ cond b (codes "SC__a_" ++ name_of n d.id) (name_of n d.id)
pins_named n chains names d here true is = names.cell_pins d (filter_contains is_cell n.definitions d here is)
pins_named n chains names d here false is = names.gate_pins d (filter_contains is_gate n.definitions d here (ap not is))

stands_there : (n : Netlist) (chains : List (List ℕ)) → IsSound n → HasSiteNames n chains → (l : Lead) → IsLineOf n l
    → IsSite n (scanned_of n chains) l (line_at (sites_of n chains) l)
stands_there n chains sound names (Stem x) here = names.stems x here
stands_there n chains sound names (Pin z k) here =
    let named = pins_named n chains names here.0 here.1 (is_cell here.0) refl in (
      here.0,
      here.1,
      here.2,
      ap (λ y. name_of (scanned_of n chains) (site (sites_of n chains) y).pins) (sym here.2) ∙ named,
      refl,
    )
stands_there n chains sound names (Out x) here = names.stems x (All-contains (Contains (signals n)) n.outputs x sound.closed.outputs here)

abbrev moved_to : Test → Fault → Fault
moved_to t f = record { line = line_at (sites_of t.netlist t.chains) f.line; value = f.value }

comes_true : Laws → (t : Test) (cycles : List Cycle) → IsPlayable t cycles → (f representative : Fault) → IsLineOf t.netlist f.line → IsEquivalent t.netlist f representative
    → (o : Outcome) (pin : List ℕ) → IsTrueOf t f representative o pin
    → ComesTrue t.netlist t.holds t.chains (scanned_of t.netlist t.chains) t.patterns cycles f (moved_to t f) o pin
comes_true laws t cycles are f g line same (Detected place cycle) pin seen =
    let here = seen.last.here in
    let at = seen.seen in (
      seen.point,
      at.0,
      seen.last,
      at.1,
      at.2,
      laws.detected t.netlist t.holds t.chains t.patterns cycles f place here.pattern seen.point cycle at.0 are.sound are.dealt are.vectors line here.at here.detects at.1,
    )
comes_true laws t cycles are f g line same Redundant pin said =
    let n = t.netlist in
    let left = said.1 in
    let shown : IsRedundant n t.holds g = laws.shown g n t.holds said.0 are.sound left.shows said.2 in
    let none : IsRedundant n t.holds f = (λ inputs state point obeys detects. shown inputs state point obeys ((laws.alike n f g inputs state point are.sound same).0 detects)) in
    λ state driven good faulty obeys p q. laws.redundant n t.holds t.chains f state driven good faulty are.sound are.held are.dealt line none obeys p q
comes_true laws t cycles are f g line same Aborted pin said =
    laws.undetected t.netlist t.holds t.chains t.patterns cycles f are.sound are.dealt are.vectors line (never_at t.netlist t.patterns f said.1.never)
comes_true laws t cycles are f g line same Unasked pin said = tt

-- what is said of a fault comes true of the one at its site
abbrev ComesSomewhere : Test → List Cycle → Fault → Line → Type 0
ComesSomewhere t cycles f l =
    (moved : Fault) × IsSite t.netlist (scanned_of t.netlist t.chains) f.line moved.line × (moved.value ≡ f.value)
    × ComesTrue t.netlist t.holds t.chains (scanned_of t.netlist t.chains) t.patterns cycles f moved l.outcome l.pin

evident : (t : Test) (f representative : Fault) → IsEquivalent t.netlist f representative → (o : Outcome) (pin : List ℕ) → IsTrueOf t f representative o pin
    → HasEvidence t.netlist t.holds t.limit t.evidence f o
evident t f g same (Detected place cycle) pin seen = tt
evident t f g same Redundant pin said = (said.0, (g, same, stands t.evidence g said.0 said.1.first, said.1.shows), said.2)
evident t f g same Aborted pin said = (said.0, (g, same, stands t.evidence g (Tree said.0) said.1.first, said.1.shows), said.2, said.3)
evident t f g same Unasked pin said = tt

-- ---- the texts

named : (n : Netlist) → IsSound n → IsNamed n
named n sound = record {
  numbered = sound.formed.numbered;
  counted = names_counted n sound;
  names = sound.formed.names;
  distinct = sound.formed.distinct;
  pins = sound.closed.pins;
  outputs = sound.closed.outputs;
}

-- what stands above the held inputs and the lines
abbrev above : Report → List ℕ
above r =
    head r.times.most r.counts.unasked r.holds
    ++ (counts_text r.counts
    ++ (unasked_line r.counts.unasked
    ++ (share_line (codes "coverage ") r.coverage
    ++ (share_line (codes "efficiency ") r.efficiency
    ++ times_text r.times))))

six : (a b c d e f g : List ℕ) → a ++ (b ++ (c ++ (d ++ (e ++ (f ++ g))))) ≡ (a ++ (b ++ (c ++ (d ++ (e ++ f))))) ++ g
six a b c d e f g =
    sym (append_assoc a (b ++ (c ++ (d ++ (e ++ f)))) g
    ∙ ap (λ t. a ++ t) (append_assoc b (c ++ (d ++ (e ++ f))) g
    ∙ ap (λ t. b ++ t) (append_assoc c (d ++ (e ++ f)) g ∙ ap (λ t. c ++ t) (append_assoc d (e ++ f) g ∙ ap (λ t. d ++ t) (append_assoc e f g)))))

ends_with : (r : Report) (holds : List Hold) → r.holds ≡ holds → report_text r ≡ above r ++ (flat_map hold_line holds ++ flat_map fault_line r.lines)
ends_with r holds is =
    six (head r.times.most r.counts.unasked r.holds) (counts_text r.counts) (unasked_line r.counts.unasked) (share_line (codes "coverage ") r.coverage)
    (share_line (codes "efficiency ") r.efficiency) (times_text r.times)
    (flat_map hold_line r.holds ++ flat_map fault_line r.lines)
    ∙ ap (λ hs. above r ++ (flat_map hold_line hs ++ flat_map fault_line r.lines)) is

-- the lines of the held inputs
pub held_lines : (n : Netlist) (inputs : List (ℕ × Option Bool)) → flat_map hold_line (flat_map (hold_at n) inputs) ≡ flat_map (hold_text n) inputs
held_lines n [] = refl
held_lines n ((x, None) ∷ inputs) = held_lines n inputs
held_lines n ((x, Some bit) ∷ inputs) = ap (λ t. hold_text n (x, Some bit) ++ t) (held_lines n inputs)

-- ---- good files

pub truth : Laws → (files : FiveFiles) (c : Contents) → IsSound c.netlist → IsDesign c.netlist → (good : AreGoodFiles files c)
    → RunTheorem c.netlist good.tested.holds (chains_in c) (limit_said c.said) c.file files
truth laws files c sound design good =
    let n = c.netlist in
    let tested = good.tested in
    let holds = tested.holds in
    let patterns = tested.patterns in
    let classes = tested.classes in
    let lines = c.said.lines in
    let chains = chains_in c in
    let t = test_in c tested in
    let cycles = vectors_in c.file in
    let are_true = good.faults.lines_true in
    let scan_is = good.stand.scan ∙ tested.scan.text in
    let of_cells = dealt n (chains_said c.said) tested.scan.allowed in
    let vectors = laws.test n holds chains patterns c.file tested.test.is_file_of in
    let scanned = laws.sound n chains sound design of_cells in
    let sites = laws.sites n chains sound of_cells in
    let playable : IsPlayable t cycles = record { sound = sound; held = tested.held.held; dealt = of_cells; vectors = vectors } in
    let same_fault : (place : ℕ) (f : Fault) → slice_get (universe_of n) place ≡ Some f → (w : IsTrueAt t classes lines place) → w.fault ≡ f =
    λ place f at w. same_member (universe_of n) place w.fault f w.member at in
    let same_line : (place : ℕ) (line : Line) → slice_get lines place ≡ Some line → (w : IsTrueAt t classes lines place) → w.line ≡ line =
    λ place line said w. same_member lines place w.line line w.said said in
    let true_at : (place : ℕ) (f : Fault) → slice_get (universe_of n) place ≡ Some f → IsTrueAt t classes lines place =
    λ place f at. are_true.each place (slice_get_within (universe_of n) place f at) in
    let of_class : (place : ℕ) → (w : IsTrueAt t classes lines place) → IsEquivalent n w.fault w.representative =
    λ place w. equivalent n classes tested.are_classes place w.class w.fault w.representative w.member w.of_class w.represents in
    record {
      said = c.said;
      certified = c.evidence;
      statement = record {
        scanned = scanned_of n chains;
        patterns = patterns;
        test = c.file;
        above = above c.said;
        lines = lines;
        net_named = named n sound;
        scan_named = named (scanned_of n chains) scanned;
        net_is = refl;
        scan_is = scan_is;
        stil_is = refl;
        report_is = good.stand.report ∙ ends_with c.said (holds_named n holds) tested.held.said
            ∙ ap (λ hs. above c.said ++ (hs ++ flat_map fault_line lines)) (held_lines n (zip n.inputs holds));
        behaves = behaves laws.scan n (chains_said c.said) sound of_cells chains refl;
        is_test = tested.test.is_file_of;
        passes = laws.good n holds chains patterns cycles sound of_cells vectors;
        runs = λ f state size. laws.run false bit_table f (scanned_of n chains) state cycles scanned.formed.numbered scanned.closed scanned.acyclic size
            (laws.fit n holds chains patterns cycles sound of_cells vectors);
        once = once t classes lines are_true;
        comes_true = λ place f line at said.
            let w = true_at place f at in
            let here = laws.lines n w.fault sound (contains_at (universe_of n) place w.fault w.member) in
            subst (λ (g : Fault). ComesSomewhere t cycles g line) (same_fault place f at w)
            (subst (λ (l : Line). ComesSomewhere t cycles w.fault l) (same_line place line said w) (
              moved_to t w.fault,
              stands_there n chains sound sites w.fault.line here,
              refl,
              comes_true laws t cycles playable w.fault w.representative here (of_class place w) w.line.outcome w.line.pin w.is_true,
            ));
      };
      scanned_is = refl;
      test_is = refl;
      lines_are = refl;
      net_is = good.stand.net;
      scan_is = read_back laws.read (scanned_of n chains) scanned files.scan scan_is;
      stil_is = good.stand.stil;
      certificate_is = good.stand.certificate;
      report_is = good.stand.report;
      evidence = λ place f line at said.
          let w = true_at place f at in
          subst (λ (g : Fault). HasEvidence n holds (limit_said c.said) c.evidence g line.outcome) (same_fault place f at w)
          (subst (λ (l : Line). HasEvidence n holds (limit_said c.said) c.evidence w.fault l.outcome) (same_line place line said w)
          (evident t w.fault w.representative (of_class place w) w.line.outcome w.line.pin w.is_true));
      times = good.totals.head.times;
    }
