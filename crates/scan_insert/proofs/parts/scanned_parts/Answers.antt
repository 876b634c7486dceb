use Rattle.std.proofs.Common.{◌≡◌, ◌<◌, ◌+◌, ◌*◌, ◌∷◌, [], ◌++◌, length, map, subst, sym, ◌∙◌, ap, ℕ, List, arith}
use Rattle.std.specs.List.{All, zip}
use Rattle.std.proofs.lemmas.List.{length-map}
use Rattle.statement.specs.declared.kinds.Kind.TheVariants.{Not}
use Rattle.statement.specs.Netlists.{Definition, cells}
use Rattle.netlist.specs.Netlist.{define}
use Rattle.scan_insert.specs.Names.{names_of}
use Rattle.statement.specs.Runs.{numbers_from}
use Rattle.scan_insert.specs.Scan.{show_last}
use Rattle.scan_insert.specs.Scanned.{befores, first_scan_out, last_of}
use Rattle.scan_insert.specs.inner.Made.{held_at, scan_definitions, stem_at}
use Rattle.scan_insert.proofs.Ready.{outputs_within, parts_of, ready_few}
use Rattle.scan_insert.proofs.parts.scanned_parts.Goals as goal

pub stems_and_numbers-requires-2-clause-within : goal.stems_and_numbers-requires-2-clause-within
stems_and_numbers-requires-2-clause-within c =
    subst (λ (xs : List ℕ). All (λ x. x < length c.args.sites.now) xs) (sym c.outputs.ensures) (outputs_within c.args.netlist.now c.requires.sound (length c.args.sites.now) c.requires.ready.size)

pub returns : goal.returns
returns c =
    let n = c.args.netlist.now in
    let chains = c.args.chains.now in
    let sites = c.args.sites.now in
    let count : c.count-count.result ≡ length chains = c.count-count.ensures in
    let inputs : length c.inputs.result.now ≡ length n.inputs = ap length c.inputs.ensures in
    let made : length c.definitions.result.now ≡ length n.definitions = ap length c.definitions.ensures in
    let cell_count : length c.cells.result.now ≡ length (cells n) = ap length c.cells.ensures ∙ length-map (cells n) (λ (d : Definition). d.id) in
    let first : length c.inputs.result.now + c.count-count.result + 2 + length c.definitions.result.now + 4 * length c.cells.result.now ≡ first_scan_out n (length chains) = omega arith in
    parts_of n chains sites c.in_ok-signal_names.field-0 c.in_ok-stems_and_numbers.field-0.items c.in_ok-stems_and_numbers-2.field-0.items c.in_ok-scanned_definitions.field-0.items
    c.requires.sound c.requires.ready c.requires.some (ready_few n chains sites c.requires.ready) c.requires.sites
    (c.in_ok-signal_names.ensures ∙ ap (λ k. names_of n k) count)
    (c.in_ok-stems_and_numbers.ensures
    ∙ (ap (λ (xs : List ℕ). map (stem_at sites) xs ++ numbers_from (length c.inputs.result.now) (c.count-count.result + 1)) c.inputs-2.ensures
    ∙ (ap (λ k. map (stem_at sites) n.inputs ++ numbers_from k (c.count-count.result + 1)) inputs
    ∙ ap (λ k. map (stem_at sites) n.inputs ++ numbers_from (length n.inputs) (k + 1)) count)))
    (c.in_ok-stems_and_numbers-2.ensures
    ∙ (ap (λ (xs : List ℕ). map (stem_at sites) xs ++ numbers_from (length c.inputs.result.now + c.count-count.result + 2 + length c.definitions.result.now + 4 * length c.cells.result.now) c.count-count.result) c.outputs.ensures
    ∙ (ap (λ k. map (stem_at sites) n.outputs ++ numbers_from k c.count-count.result) first
    ∙ ap (λ k. map (stem_at sites) n.outputs ++ numbers_from (first_scan_out n (length chains)) k) count)))
    (c.in_ok-scanned_definitions.ensures
    ∙ ap (λ k. define (length n.inputs + 1 + length chains) Not (length n.inputs ∷ [])
    ∷ scan_definitions sites (length n.inputs) (length n.inputs + 1 + length chains) (befores (held_at sites) (length n.inputs + 1) chains) n.definitions
    ++ map show_last (zip (numbers_from k (length chains)) (map (λ (q : List ℕ). held_at sites (last_of q)) chains))) first)
