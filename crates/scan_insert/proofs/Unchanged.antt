-- With no cells nothing changes.
use Rattle.std.proofs.Common.{◌≡◌, ℕ, List, [], Option, Some, None, refl, sym, ◌∙◌, ap}
use Rattle.std.specs.List.{Contains}
use Rattle.std.proofs.lemmas.List.{get_or-map}
use Rattle.std.proofs.lemmas.List.Elements.{All-contains}
use Rattle.statement.specs.declared.lines.Line.{Line}
use Rattle.statement.specs.declared.lines.Line.TheVariants.{Stem, Pin, Out}
use Rattle.statement.specs.declared.lines.Fault.{Fault}
use Rattle.statement.specs.Netlists.{Netlist, signals}
use Rattle.netlist.specs.Conditions.{IsSound}
use Rattle.netlist.proofs.Placed.{signal_below}
use Rattle.scan_insert.specs.declared.sites.Site.{Site}
use Rattle.netlist.specs.Lines.{IsLineOf, IsFaultOf}
use Rattle.scan_insert.specs.Scanned.{own_site, sites_of, site, scanned_of, line_at, fault_at}
use Rattle.scan_insert.specs.Laws.{NothingAdded}
use Rattle.scan_insert.proofs.Concrete.{are_dealt, no_chain}
use Rattle.scan_insert.proofs.Loopless.{defined_signal}

module _ (n : Netlist) (sound : IsSound n) where
  pub own : (x : ℕ) → Contains (signals n) x → site (sites_of n []) x ≡ own_site x
  own x c =
      let l = signal_below n sound.formed.numbered x c in
      get_or-map own_site (signals n) x 0 (own_site 0) l ∙ ap own_site (sound.formed.numbered x l)

  pub own_line : (l : Line) → IsLineOf n l → line_at (sites_of n []) l ≡ l
  own_line (Stem x) v = ap (λ (t : Site). Stem t.stem) (own x v)
  own_line (Out x) v = ap (λ (t : Site). Out t.stem) (own x (All-contains (Contains (signals n)) n.outputs x sound.closed.outputs v))
  own_line (Pin z k) v =
      let e : site (sites_of n []) v.0.id ≡ own_site v.0.id = own v.0.id (defined_signal n v.0 v.1) in
      ap (λ y. Pin (site (sites_of n []) y).pins k) (sym v.2) ∙ (ap (λ (t : Site). Pin t.pins k) e ∙ ap (λ y. Pin y k) v.2)

  pub own_fault : (f : Option Fault) → IsFaultOf n f → fault_at (sites_of n []) f ≡ f
  own_fault None v = refl
  own_fault (Some f) v = ap (λ l. Some (record { line = l; value = f.value })) (own_line f.line (v f refl))

pub nothing : NothingAdded
nothing n chains f sound are none valid =
    let e : chains ≡ [] = no_chain n chains (are_dealt n chains are) none in
    (ap (scanned_of n) e, ap (λ (cs : List (List ℕ)). fault_at (sites_of n cs) f) e ∙ own_fault n sound f valid)
