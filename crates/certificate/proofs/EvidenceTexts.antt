-- Evidence is told by its text.
use Rattle.std.proofs.Common.{◌≡◌, ◌≢◌, ℕ, Bool, true, false, List, [], ◌∷◌, ◌++◌, codes, get_or, length, refl, sym, ◌∙◌, ap, subst, nat_eq, arith, append_assoc}
use Rattle.std.specs.List.{All, flat_map}
use Rattle.std.proofs.lemmas.Bool.{both_ways}
use Rattle.std.proofs.lemmas.List.{append_cancel_left, flat_map_more}
use Rattle.std.proofs.lemmas.List.Elements.{All-append, All-cons, All-head, All-nil}
use Rattle.netlist.specs.Conditions.{IsSound}
use Rattle.statement.specs.Netlists.{Netlist, name_of}
use Rattle.redundancy_cert.specs.declared.nodes.Node.{Node}
use Rattle.redundancy_cert.specs.declared.nodes.Node.TheVariants.{Closed, Open, Split, Forced}
use Rattle.redundancy_cert.specs.Trees.{IsOneTree}
use Rattle.refutation_text.specs.Texts.{text_of}
use Rattle.refutation_text.proofs.StepTexts.{one_list}
use Rattle.evidence.specs.declared.kinds.Evidence.{Evidence}
use Rattle.evidence.specs.declared.kinds.Evidence.TheVariants.{Tree, Refutation}
use Rattle.certificate.specs.Certificates.{evidence_text, node_text, HasSignal, IsCertFault, IsWellFormed, IsTextOf, NoText}
use Rattle.certificate.specs.declared.reading.CertFault.{CertFault}
use Rattle.certificate.specs.declared.reading.CertFault.TheVariants.{NotCertificate, NoMemory}
use Rattle.certificate.specs.inner.Parts.{AreNodes, IsNodeAt, NoNodeAt}
use Rattle.certificate.specs.Words.{IsEnd}
use Rattle.certificate.proofs.Followers.{GoesOn, all_end, goes_on, same_list}
use Rattle.certificate.proofs.NodeTexts.{kind, kind_byte, node_ends, node_some, same_node}
use Rattle.certificate.proofs.StepBytes.{all_have_no, steps_have_no}
use Rattle.certificate.proofs.VisibleBytes.{has_no, name_has_no}

-- why a part is refused is why the whole is
pub refused_more : {A B : Type 0} → (A → B) → (fault : CertFault) → IsCertFault A fault → IsCertFault B fault
refused_more f NotCertificate r = f r
refused_more f NoMemory r = tt

pub some_left : (rest : List ℕ) (empty : Bool) → empty ≡ nat_eq (length rest) 0 → empty ≡ false → rest ≢ []
some_left rest empty is more e = both_ways empty more (is ∙ ap (λ k. nat_eq k 0) (ap length e))

pub push_more : {X : Type 0} (P : X → Type 0) (xs new : List X) (x : X) → new ≡ xs ++ x ∷ [] → All P xs → P x → All P new
push_more P xs new x is all one = subst (All P) (sym is) (All-append P xs (x ∷ []) all (All-cons P x [] one (All-nil P)))

pub node_more : (n : Netlist) (text : List ℕ) (read new : List Node) (rest after : List ℕ) (node : Node) → new ≡ read ++ node ∷ [] → text ≡ flat_map (node_text n) read ++ rest
    → IsNodeAt n rest node after → text ≡ flat_map (node_text n) new ++ after
node_more n text read new rest after node pushed is at =
    is ∙ (ap (λ zs. flat_map (node_text n) read ++ zs) at.parts ∙ (sym (append_assoc (flat_map (node_text n) read) (node_text n node) after)
    ∙ ap (λ zs. zs ++ after) (flat_map_more (node_text n) [] read node ∙ ap (flat_map (node_text n)) (sym pushed))))

-- no tree has a text that begins with ` R`
not_r : (node : Node) → kind node ≢ 82
not_r Closed e = absurd (omega (arith, e))
not_r Open e = absurd (omega (arith, e))
not_r (Split x) e = absurd (omega (arith, e))
not_r (Forced x bit) e = absurd (omega (arith, e))

tree_apart : (n : Netlist) (nodes : List Node) (r : List ℕ) → flat_map (node_text n) nodes ≡ codes " R" ++ r → ⊥
tree_apart n [] r e = cc
tree_apart n (node ∷ nodes) r e = not_r node (sym (kind_byte n node (flat_map (node_text n) nodes)) ∙ ap (λ zs. get_or zs 1 0) e)

pub no_tree : (n : Netlist) (text : List ℕ) → ((r : List ℕ) → text ≢ codes " R" ++ r) → ((nodes : List Node) → AreNodes n text nodes → IsOneTree nodes → ⊥) → NoText n text
no_tree n text other none (Tree nodes) w = none nodes (record { signals = w.formed.0; is = w.is }) w.formed.1
no_tree n text other none (Refutation steps) w = other (text_of steps) w.is

module _ (n : Netlist) (sound : IsSound n) where
  -- ---- nodes

  nodes_end : (nodes : List Node) → IsEnd (flat_map (node_text n) nodes)
  nodes_end nodes = all_end (node_text n) (HasSignal n) IsEnd (node_some n) tt (node_ends n) (same_node n sound) nodes

  -- the nodes that are read so far, and those of the whole text
  nodes_go_on : (text : List ℕ) (read nodes : List Node) (rest : List ℕ) → All (HasSignal n) read → text ≡ flat_map (node_text n) read ++ rest → IsEnd rest → AreNodes n text nodes
      → GoesOn (node_text n) (HasSignal n) read nodes rest
  nodes_go_on text read nodes rest signals is end w =
      goes_on (node_text n) (HasSignal n) IsEnd (node_some n) tt (node_ends n) (same_node n sound) read nodes rest signals w.signals end (sym is ∙ w.is)

  no_more_nodes : (rest : List ℕ) (others : List Node) → All (HasSignal n) others → rest ≡ flat_map (node_text n) others → NoNodeAt n rest → rest ≡ []
  no_more_nodes rest [] valid is none = is
  no_more_nodes rest (node ∷ nodes) valid is none =
      absurd (none node (flat_map (node_text n) nodes) (record { signal = All-head (HasSignal n) node nodes valid; parts = is; end = nodes_end nodes }))

  pub no_nodes : (text : List ℕ) (read : List Node) (rest : List ℕ) → All (HasSignal n) read → text ≡ flat_map (node_text n) read ++ rest → IsEnd rest → rest ≢ [] → NoNodeAt n rest
      → (nodes : List Node) → AreNodes n text nodes → ⊥
  no_nodes text read rest signals is end some none nodes w =
      let g = nodes_go_on text read nodes rest signals is end w in
      some (no_more_nodes rest g.others g.valid g.text none)

  pub same_nodes : (text : List ℕ) (nodes others : List Node) → AreNodes n text nodes → AreNodes n text others → nodes ≡ others
  same_nodes text nodes others v w =
      same_list (node_text n) (HasSignal n) IsEnd (node_some n) tt (node_ends n) (same_node n sound) nodes others v.signals w.signals (sym v.is ∙ w.is)

  -- ---- evidence

  pub evidence_ends : (e : Evidence) → IsEnd (evidence_text n e)
  evidence_ends (Tree nodes) = nodes_end nodes
  evidence_ends (Refutation steps) = refl

  pub same_text : (text : List ℕ) (d e : Evidence) → IsTextOf n text d → IsTextOf n text e → d ≡ e
  same_text text (Tree nodes) (Tree others) v w =
      ap (λ ns. Tree ns) (same_nodes text nodes others (record { signals = v.formed.0; is = v.is }) (record { signals = w.formed.0; is = w.is }))
  same_text text (Refutation steps) (Refutation others) v w =
      ap (λ ss. Refutation ss) (one_list (text_of steps) steps others (record { each = v.formed; text = refl })
      (record { each = w.formed; text = append_cancel_left (codes " R") (text_of steps) (text_of others) (sym v.is ∙ w.is) }))
  same_text text (Tree nodes) (Refutation steps) v w = absurd (tree_apart n nodes (text_of steps) (sym v.is ∙ w.is))
  same_text text (Refutation steps) (Tree nodes) v w = absurd (tree_apart n nodes (text_of steps) (sym w.is ∙ v.is))

  -- ---- no line end in it

  node_has_no : (node : Node) → HasSignal n node → All (λ b. b ≢ 10) (node_text n node)
  node_has_no Closed h = has_no 10 (codes " !") refl
  node_has_no Open h = has_no 10 (codes " ?") refl
  node_has_no (Split x) h = All-append (λ b. b ≢ 10) (codes " S ") (name_of n x) (has_no 10 (codes " S ") refl) (name_has_no n sound 10 refl x h)
  node_has_no (Forced x false) h =
      All-append (λ b. b ≢ 10) (codes " F ") (name_of n x ++ codes " 0") (has_no 10 (codes " F ") refl)
      (All-append (λ b. b ≢ 10) (name_of n x) (codes " 0") (name_has_no n sound 10 refl x h) (has_no 10 (codes " 0") refl))
  node_has_no (Forced x true) h =
      All-append (λ b. b ≢ 10) (codes " F ") (name_of n x ++ codes " 1") (has_no 10 (codes " F ") refl)
      (All-append (λ b. b ≢ 10) (name_of n x) (codes " 1") (name_has_no n sound 10 refl x h) (has_no 10 (codes " 1") refl))

  pub evidence_has_no : (e : Evidence) → IsWellFormed n e → All (λ b. b ≢ 10) (evidence_text n e)
  evidence_has_no (Tree nodes) h = all_have_no (node_text n) (HasSignal n) node_has_no nodes h.0
  evidence_has_no (Refutation steps) h = All-append (λ b. b ≢ 10) (codes " R") (text_of steps) (has_no 10 (codes " R") refl) (steps_have_no steps h)
