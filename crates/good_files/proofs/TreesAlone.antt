-- A certificate that begins as those of trees did has trees alone.
use Rattle.std.proofs.Common.{◌≡◌, ◌∙◌, ℕ, Bool, false, true≢false, ◌||◌, List, [], ◌∷◌, ◌++◌, map, refl, sym, ap, ap₂}
use Rattle.std.specs.List.{All, flat_map}
use Rattle.std.proofs.lemmas.List.Elements.{All-contains, All-head, All-tail}
use Rattle.statement.specs.declared.lines.Fault.{Fault}
use Rattle.statement.specs.declared.outcomes.Outcome.{Outcome}
use Rattle.statement.specs.declared.outcomes.Outcome.TheVariants.{Detected, Redundant, Aborted, Unasked}
use Rattle.statement.specs.Netlists.{Netlist}
use Rattle.statement.specs.Patterns.{Holds}
use Rattle.scan_insert.proofs.Loopless.{map_contains}
use Rattle.redundancy_cert.specs.declared.nodes.Node.{Node}
use Rattle.evidence.specs.declared.kinds.Evidence.{Evidence}
use Rattle.evidence.specs.declared.kinds.Evidence.TheVariants.{Tree, Refutation}
use Rattle.evidence.specs.Evidence.{MayBe, open_ends}
use Rattle.certificate.specs.Certificates.{certificate_text, evidence_line, first_line, has_refutation, is_refutation}
use Rattle.certificate.specs.Laws.{FirstLineTells}
use Rattle.good_files.specs.RunTheorem.{HasEvidence, IsCertified}
use Rattle.good_files.specs.TreeTheorem.{tree_line, HasEvidence as HasTree, certificate_text as trees_text}
use Rattle.good_files.specs.Laws.{TreesAsBefore}

abbrev nodes_of : Evidence → List Node
nodes_of (Tree nodes) = nodes
nodes_of (Refutation steps) = []

-- the fault, and the nodes of its tree
abbrev as_tree : Fault × Evidence → Fault × List Node
as_tree p = (p.0, nodes_of p.1)

abbrev IsTree : Fault × Evidence → Type 0
IsTree p = MayBe false p.1

-- ---- their text is what it was

tree_told : (e : Evidence) → MayBe false e → is_refutation e ≡ false
tree_told (Tree nodes) may = refl
tree_told (Refutation steps) may = absurd (true≢false (sym may))

none_refuted : (es : List (Fault × Evidence)) → All IsTree es → has_refutation es ≡ false
none_refuted [] all = refl
none_refuted (p ∷ ps) all =
    ap₂ (λ (a b : Bool). a || b) (tree_told p.1 (All-head IsTree p ps all)) (none_refuted ps (All-tail IsTree p ps all))

-- the text begins as those of trees did
pub begins_alone : (n : Netlist) (es : List (Fault × Evidence)) → All IsTree es → certificate_text n es ≡ first_line false ++ flat_map (evidence_line n) es
begins_alone n es all = ap (λ b. first_line b ++ flat_map (evidence_line n) es) (none_refuted es all)

tree_said : (n : Netlist) (f : Fault) (e : Evidence) → MayBe false e → evidence_line n (f, e) ≡ tree_line n (f, nodes_of e)
tree_said n f (Tree nodes) may = refl
tree_said n f (Refutation steps) may = absurd (true≢false (sym may))

trees_said : (n : Netlist) (es : List (Fault × Evidence)) → All IsTree es → flat_map (evidence_line n) es ≡ flat_map (tree_line n) (map as_tree es)
trees_said n [] all = refl
trees_said n (p ∷ ps) all =
    ap (λ t. t ++ flat_map (evidence_line n) ps) (tree_said n p.0 p.1 (All-head IsTree p ps all))
    ∙ ap (λ t. tree_line n (as_tree p) ++ t) (trees_said n ps (All-tail IsTree p ps all))

text_alone : (n : Netlist) (es : List (Fault × Evidence)) → All IsTree es → certificate_text n es ≡ trees_text n (map as_tree es)
text_alone n es all = begins_alone n es all ∙ ap (λ t. first_line false ++ t) (trees_said n es all)

-- ---- they are the evidence that they were

module _ (n : Netlist) (holds : Holds) (limit : ℕ) (es : List (Fault × Evidence)) (all : All IsTree es) where
  redundant : (f : Fault) (e : Evidence) → IsCertified n holds limit es f e → open_ends e ≡ 0 → HasTree n holds limit (map as_tree es) f Redundant
  redundant f (Tree nodes) c none = (nodes, (c.0, c.1, map_contains as_tree es (c.0, Tree nodes) c.2, c.3), none)
  redundant f (Refutation steps) c none = absurd (true≢false (sym (All-contains IsTree es (c.0, Refutation steps) all c.2)))

  by_tree : (f : Fault) (o : Outcome) → HasEvidence n holds limit es f o → HasTree n holds limit (map as_tree es) f o
  by_tree f (Detected place cycle) has = tt
  by_tree f Redundant has = redundant f has.0 has.1 has.2
  by_tree f Aborted has =
      let c = has.1 in
      (has.0, (c.0, c.1, map_contains as_tree es (c.0, Tree has.0) c.2, c.3), has.2, has.3)
  by_tree f Unasked has = tt

pub trees_alone : FirstLineTells → TreesAsBefore
trees_alone law n holds chains limit file files rest run begins =
    let es = run.certified in
    let all = law n files.certificate rest es run.certificate_is begins in
    record {
      said = run.said;
      trees = map as_tree es;
      statement = run.statement;
      scanned_is = run.scanned_is;
      test_is = run.test_is;
      lines_are = run.lines_are;
      net_is = run.net_is;
      scan_is = run.scan_is;
      stil_is = run.stil_is;
      certificate_is = run.certificate_is.text ∙ text_alone n es all;
      report_is = run.report_is;
      evidence = λ place f line at said. by_tree n holds limit es all f line.outcome (run.evidence place f line at said);
    }
