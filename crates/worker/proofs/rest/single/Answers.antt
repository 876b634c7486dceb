use Rattle.std.proofs.Common.{◌≡◌, ◌∷◌, [], ◌∙◌, ℕ, List, ap, ap₂, length, subst, sym}
use Rattle.statement.specs.declared.lines.Point.{Point}
use Rattle.statement.specs.Patterns.{Pattern}
use Rattle.word_sim.specs.declared.batches.Hit.{Hit}
use Rattle.word_sim.specs.Hits.{Batch}
use Rattle.list_core.specs.Batches.{IsTrueBatch}
use Rattle.worker.proofs.WorkLemmas.{single_true}
use Rattle.worker.proofs.rest.single.Goals as goal

abbrev first_hit : ℕ → Point → Hit
first_hit class point = record { class = class; pattern = 0; point = point }

abbrev batch : List Pattern → List Hit → Batch
batch patterns hits = record { patterns = patterns; hits = hits }

-- one pattern, and one hit of the class that was given
batch_is : (b : Batch) (patterns : List Pattern) (hits : List Hit) (p : Pattern) (given class : ℕ) (o : Point) → b ≡ batch patterns hits
    → patterns ≡ p ∷ [] → hits ≡ first_hit given o ∷ [] → given ≡ class → b ≡ batch (p ∷ []) (first_hit class o ∷ [])
batch_is b patterns hits p given class o is one last same =
    is ∙ ap₂ (λ (ps : List Pattern) (hs : List Hit). batch ps hs) one (last ∙ ap (λ (k : ℕ). first_hit k o ∷ []) same)

pub returns-clause-true_batch : goal.returns-clause-true_batch
returns-clause-true_batch g c =
    let j = g.J.About.subject in
    let claim = c.args.claim.now in
    let is =
    batch_is c.new.result c.in_ok-patterns.patterns.items c.in_ok-hits.hits.items c.in_ok-pattern.pattern c.class.result claim.class c.args.point c.new.ensures
    c.in_ok-patterns.ensures c.in_ok-hits.ensures c.class.ensures.class in
    subst (IsTrueBatch j) (sym is)
    (single_true j claim.fault c.args.cube.now c.in_ok-pattern.pattern c.args.point claim.class claim.represents c.requires
    c.in_ok-pattern.ensures.agrees (c.in_ok-pattern.ensures.fits j.netlist j.holds c.requires.is_cube))

pub returns-clause-one : goal.returns-clause-one
returns-clause-one g c = ap (λ (b : Batch). length b.patterns) c.new.ensures ∙ ap length c.in_ok-patterns.ensures

pub returns-clause-hits : goal.returns-clause-hits
returns-clause-hits g c =
    ap (λ (b : Batch). b.hits)
    (batch_is c.new.result c.in_ok-patterns.patterns.items c.in_ok-hits.hits.items c.in_ok-pattern.pattern c.class.result c.args.claim.now.class c.args.point c.new.ensures
    c.in_ok-patterns.ensures c.in_ok-hits.ensures c.class.ensures.class)
