-- The trail along a path, where each change makes a label known better.
use Rattle.std.proofs.Common.{◌≡◌, ◌≢◌, ◌≤◌, ◌<◌, ◌+◌, ◌*◌, ℕ, List, [], ◌∷◌, ◌++◌, length, take, Some, refl, sym, ◌∙◌, ap, subst, inl, inr, arith}
use Rattle.std.specs.List.{Contains}
use Rattle.std.proofs.lemmas.Bool.{cases_Bool, cases_lt}
use Rattle.std.proofs.lemmas.List.{ext_get_or, get_or_past, length-take-le}
use Rattle.std.proofs.lemmas.List.Elements.{Contains-append_cases}
use Rattle.statement.specs.declared.lines.Fault.{Fault}
use Rattle.statement.specs.Patterns.{Holds}
use Rattle.statement.specs.Netlists.{Netlist, signals}
use Rattle.netlist.specs.Conditions.{IsSound}
use Rattle.netlist.specs.Settled.{at}
use Rattle.netlist.proofs.Placed.{signal_from}
use Rattle.tri.specs.declared.labels.Label.{Label}
use Rattle.tri.specs.Labels.{Decisions, AllowsLabel}
use Rattle.tri.specs.Labelling.{AreLabelled}
use Rattle.tri.specs.Paths.{decisions}
use Rattle.tri.proofs.PathLemmas.{labels_once}
use Rattle.events.specs.declared.trails.Change.{Change}
use Rattle.events.specs.Trails.{AreChanges}
use Rattle.pair_sim.specs.declared.levels.Level.{Level}
use Rattle.pair_sim.specs.inner.Levels.{blank, rank, times, IsNoted, GoBack}
use Rattle.pair_sim.proofs.Ranks.{rank_few, rank_more, rank_other}
use Rattle.pair_sim.proofs.Counts.{times_append, none_stands, stands_not, stands, stands_once, length_few}

module _ (f : Fault) (n : Netlist) (holds : Holds) (sound : IsSound n) where
  -- the labels of a path are one list
  pub labelled_once : (path : Decisions) (v w : List Label) → AreLabelled (Some f) path n holds v → AreLabelled (Some f) path n holds w → v ≡ w
  labelled_once path v w p q = ext_get_or blank v w (p.size ∙ sym q.size) (λ x l.
      labels_once (Some f) path n holds sound (at v blank) (at w blank) (p.labels blank) (q.labels blank) x
      (signal_from n sound.formed.numbered x (subst (λ k. x < k) p.size l)))

  pub noted_first : (values : List Label) → AreLabelled (Some f) (decisions []) n holds values → IsNoted f n holds [] values
  noted_first values are = record {
    start = values;
    are = are;
    within = λ c m. absurd (let l = m.1 in omega arith);
    counted = λ x. (let e : times x [] ≡ 0 = refl in omega arith);
    others = λ x h. refl;
  }

  module _ (below values : List Label) (size : length below ≡ length (signals n))
      (grows : (x : ℕ) → Contains (signals n) x → AllowsLabel (at below blank x) (at values blank x))
      (changes : List (Change Label)) (are : AreChanges below values changes) where
    grown : (x : ℕ) → rank (at below blank x) + times x changes ≤ rank (at values blank x)
    grown x = elim (cases_lt x (length (signals n))) [
      | inl low ↦
          let g = grows x (signal_from n sound.formed.numbered x low) in
          let once = stands_once x changes are.once in
          elim (cases_lt 0 (times x changes)) [
            | inl some ↦
                let w = stands x changes some in
                let other : at below blank x ≢ at values blank x =
                λ e. are.changed w.0 blank w.1 (ap (at values blank) w.2 ∙ (sym e ∙ sym (ap (at below blank) w.2))) in
                let more = rank_other (at below blank x) (at values blank x) g other in
                omega arith
            | inr none ↦ (let more = rank_more (at below blank x) (at values blank x) g in omega arith)
          ]
      | inr high ↦
          let none = none_stands x changes (λ c m e. let l = (are.before c blank m).0 in omega (arith, ap (λ (k : ℕ). k) e)) in
          let old : at below blank x ≡ blank = get_or_past below x blank (omega arith) in
          let new : at values blank x ≡ blank = get_or_past values x blank (let s = are.size in omega arith) in
          let same : rank (at below blank x) ≡ rank (at values blank x) = ap rank (old ∙ sym new) in
          omega arith
    ]

    pub noted_more : (trail : List (Change Label)) → IsNoted f n holds trail below → IsNoted f n holds (trail ++ changes) values
    noted_more trail noted = record {
      start = noted.start;
      are = noted.are;
      within = λ c m. elim (Contains-append_cases trail changes c m) [
        | inl old ↦ noted.within c old
        | inr new ↦ (let l = (are.before c blank new).0 in subst (λ k. c.signal < k) size l)
      ];
      counted = λ x. (let a = noted.counted x in let b = grown x in let e = times_append x trail changes in omega arith);
      others = λ x none.
          let e = times_append x trail changes in
          are.others x blank (stands_not x changes (omega arith)) ∙ noted.others x (omega arith);
    }

  -- a trail has room for four changes of each signal
  pub few_noted : (trail : List (Change Label)) (values : List Label) → IsNoted f n holds trail values → length trail ≤ 4 * length (signals n)
  few_noted trail values noted =
      length_few (length (signals n)) trail noted.within (λ x. let a = noted.counted x in let b = rank_few (at values blank x) in omega arith)

  pub few_changes : (levels : List Level) (trail : List (Change Label)) (values : List Label) → GoBack f n holds levels trail values
      → length trail ≤ 4 * length (signals n)
  few_changes [] trail values h = omega (arith, ap length h)
  few_changes (v ∷ vs) trail values h = elim (cases_Bool v.contradicted) [
    | inl yes_contradicted ↦
        let few = few_changes vs (take v.mark trail) h.below h.under in
        let e = h.none yes_contradicted in
        let l = length-take-le v.mark trail (omega arith) in
        omega arith
    | inr not_contradicted ↦ few_noted trail values (h.noted not_contradicted)
  ]
