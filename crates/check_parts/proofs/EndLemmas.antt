-- What a fault's first evidence shows of it.
use Rattle.std.proofs.Common.{◌≡◌, ℕ, ◌<◌, ◌≤◌, ◌∙◌, List, length, get_or, MatchOption, Option, option_map, Some, None, Result, Ok, Err, IfOk, sym, ap, subst, arith}
use Rattle.std.specs.List.{All, slice_get}
use Rattle.std.proofs.lemmas.List.Elements.{All-get_or}
use Rattle.std.proofs.lemmas.Option.{slice_get-get_or, slice_get-map}
use Rattle.statement.specs.declared.lines.Fault.{Fault}
use Rattle.statement.specs.Netlists.{Netlist}
use Rattle.netlist.specs.Conditions.{IsSound}
use Rattle.certificate.specs.Certificates.{IsEvidence}
use Rattle.redundancy_cert.specs.declared.counts.Counts.{Counts}
use Rattle.redundancy_cert.specs.declared.nodes.Node.{Node}
use Rattle.redundancy_cert.specs.Trees.{closed_count, open_count}
use Rattle.evidence.specs.declared.kinds.Evidence.{Evidence}
use Rattle.evidence.specs.declared.kinds.Evidence.TheVariants.{Tree, Refutation}
use Rattle.evidence.specs.Evidence.{closed_ends, open_ends}
use Rattle.run_report.specs.Outcomes.{IsFirstOf}
use Rattle.good_files.specs.GoodFiles.{faults_in}
use Rattle.check_parts.specs.Checkers.{AreEndCounts, AreShown, NamesSignals}
use Rattle.check_parts.specs.Ends.{AreFirstEnds, IsFirstShown, IsLeftOpenBy, IsShutBy, NoFirstShown}
use Rattle.check_parts.specs.Firsts.{IsFirst}
use Rattle.check_parts.proofs.FirstLemmas.{first_at, first_once, no_first}
use Rattle.check_parts.proofs.Lists.{same_some}
use Rattle.check_parts.proofs.NamedSignals.{names}

-- evidence that is read names signals
pub named : (n : Netlist) → IsSound n → (evidence : List (Fault × Evidence)) → All (IsEvidence n) evidence → (k : ℕ) (p : Fault × Evidence) → k < length evidence
    → NamesSignals n (get_or evidence k p).1
named n sound evidence each k p lt = names n sound (get_or evidence k p).1 (All-get_or (IsEvidence n) evidence k p lt each).formed

module _ (evidence : List (Fault × Evidence)) (f : Fault) (k : ℕ) (p : Fault × Evidence) (first : IsFirst evidence (length evidence) f (Some k)) where
  at : slice_get evidence k ≡ Some (get_or evidence k p)
  at = slice_get-get_or evidence k p first.within

  -- what stands at the place is of the fault
  pub is_fault : (get_or evidence k p).0 ≡ f
  is_fault =
      let fault : slice_get (faults_in evidence) k ≡ Some (get_or evidence k p).0 = slice_get-map (λ (q : Fault × Evidence). q.0) evidence k ∙ ap (option_map (λ (q : Fault × Evidence). q.0)) at in
      same_some (get_or evidence k p).0 f (sym fault ∙ first.here)

  -- and its first
  first_read : IsFirstOf evidence f (get_or evidence k p).1
  first_read = first_at evidence f k (get_or evidence k p) at is_fault first.first

  module _ (S : Evidence → Type 0) where
    found : (ends : Option Counts) → AreShown (S (get_or evidence k p).1) (get_or evidence k p).1 ends → AreFirstEnds S evidence f ends
    found None refused = λ one is shows.
        let own : one ≡ (get_or evidence k p).1 = first_once evidence f one (get_or evidence k p).1 is first_read in
        refused (subst S own shows)
    found (Some counts) shown = record { one = (get_or evidence k p).1; first = first_read; shows = shown.0; counted = shown.1 }

    pub found_so : {E : Type 0} (r : Result (Option Counts) E) → IfOk r (AreShown (S (get_or evidence k p).1) (get_or evidence k p).1) → IfOk r (AreFirstEnds S evidence f)
    found_so (Ok ends) shown = found ends shown
    found_so (Err e) shown = tt

-- it shows the fault and leaves nothing open
pub record IsShutOf (S : Evidence → Type 0) (evidence : List (Fault × Evidence)) (f : Fault) (e : Evidence) : Type 0 where
  pub first : IsFirstOf evidence f e
  pub shows : S e
  pub shut : open_ends e ≡ 0

-- it shows the fault, leaves an end open, and has so many closed ends
pub record IsOpenOf (S : Evidence → Type 0) (evidence : List (Fault × Evidence)) (f : Fault) (limit : ℕ) (tree : List Node) : Type 0 where
  pub first : IsFirstOf evidence f (Tree tree)
  pub shows : S (Tree tree)
  pub closed : closed_count tree ≡ limit
  pub left_open : 1 ≤ open_count tree

module _ (S : Evidence → Type 0) (evidence : List (Fault × Evidence)) (f : Fault) where
  pub none_found : IsFirst evidence (length evidence) f None → NoFirstShown S evidence f
  none_found none one is shows = no_first evidence f one none is

  -- ---- what leaves nothing open

  pub shut_shown : (ends : Option Counts) → AreFirstEnds S evidence f ends → IsShutBy ends → (e : Evidence) × IsShutOf S evidence f e
  shut_shown None is shut = absurd shut
  shut_shown (Some counts) is shut = (is.one, record { first = is.first; shows = is.shows; shut = sym is.counted.left_open ∙ shut })

  pub shown_shut : (ends : Option Counts) → AreFirstEnds S evidence f ends → (e : Evidence) → IsFirstOf evidence f e → S e → open_ends e ≡ 0 → IsShutBy ends
  shown_shut None none e first shows shut = none e first shows
  shown_shut (Some counts) is e first shows shut =
      is.counted.left_open ∙ (ap open_ends (first_once evidence f is.one e is.first first) ∙ shut)

  -- ---- what leaves an end open is a tree

  open_tree : (limit : ℕ) (e : Evidence) (counts : Counts) → IsFirstOf evidence f e → S e → AreEndCounts e counts → (counts.closed ≡ limit) × (1 ≤ counts.left_open)
      → (tree : List Node) × IsOpenOf S evidence f limit tree
  open_tree limit (Tree nodes) counts first shows counted say =
      let ends = counted.left_open in
      let some = say.1 in
      (nodes, record { first = first; shows = shows; closed = sym counted.closed ∙ say.0; left_open = omega arith })
  open_tree limit (Refutation steps) counts first shows counted say =
      let ends = counted.left_open in
      let some = say.1 in
      absurd (omega arith)

  pub open_shown : (limit : ℕ) (ends : Option Counts) → AreFirstEnds S evidence f ends → IsLeftOpenBy limit ends → (tree : List Node) × IsOpenOf S evidence f limit tree
  open_shown limit None is say = absurd say
  open_shown limit (Some counts) is say = open_tree limit is.one counts is.first is.shows is.counted say

  pub shown_open : (limit : ℕ) (ends : Option Counts) → AreFirstEnds S evidence f ends → (tree : List Node) → IsFirstOf evidence f (Tree tree) → S (Tree tree)
      → closed_count tree ≡ limit → 1 ≤ open_count tree → IsLeftOpenBy limit ends
  shown_open limit None none tree first shows closed some = none (Tree tree) first shows
  shown_open limit (Some counts) is tree first shows closed some =
      let same : is.one ≡ Tree tree = first_once evidence f is.one (Tree tree) is.first first in
      let left : counts.left_open ≡ open_ends (Tree tree) = is.counted.left_open ∙ ap open_ends same in
      (is.counted.closed ∙ (ap closed_ends same ∙ closed), omega arith)
