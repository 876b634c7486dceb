use Rattle.std.proofs.Common.{◌≡◌, ℕ, ◌<◌, List, length, map, get_or, subst, sym, ◌∙◌, ap, arith}
use Rattle.std.specs.List.{All, AllZip}
use Rattle.std.proofs.lemmas.Slice.Zip.{AllZip-long}
use Rattle.statement.specs.declared.lines.Fault.{Fault}
use Rattle.statement.specs.Faults.{universe_of}
use Rattle.statement.specs.Netlists.{Netlist}
use Rattle.netlist.specs.Designs.{IsDesign}
use Rattle.netlist.specs.Lines.{IsLineOf}
use Rattle.statement.specs.Patterns.{Pattern}
use Rattle.word_sim.specs.Words.{HasWidthsOf}
use Rattle.word_sim.proofs.WidthLemmas.{widths}
use Rattle.fault_collapse.specs.Classes.{AreClasses}
use Rattle.detections.specs.Times.{IsTimes}
use Rattle.run_files.proofs.TimesLemmas.{times_by_class, times_often}
use Rattle.run_files.proofs.reporting.times_said.Goals as goal

pub represented-requires : goal.represented-requires
represented-requires c =
    let same = sym c.requires.case.core in
    record {
      design = subst IsDesign same c.requires.case.design;
      classes = subst (λ (m : Netlist). AreClasses m c.args.case.now.subject.now.classes) same c.requires.case.subject.classes;
    }

pub times_of-requires : goal.times_of-requires
times_of-requires c =
    let case = c.args.case.now in
    record {
      wide = subst (λ (m : Netlist). All (HasWidthsOf m) c.as_slice-patterns.result.now) (sym c.requires.case.core)
          (subst (λ (ps : List Pattern). All (HasWidthsOf case.netlist.now) ps) (sym c.as_slice-patterns.ensures.value)
          (widths case.netlist.now case.holds.now c.args.found.now.patterns.items c.requires.found.verdicts.obey));
      lines = subst (λ (fs : List Fault). All (λ (f : Fault). IsLineOf c.args.case.now.core.now f.line) fs) (sym c.representatives.ensures) c.represented.ensures.represented.faults.lines;
    }

pub by_class-requires-clause-within : goal.by_class-requires-clause-within
by_class-requires-clause-within c =
    let case = c.args.case.now in
    let numbers = c.in_ok-numbers.numbers.items in
    let size = AllZip-long (IsTimes case.core.now c.as_slice-patterns.result.now case.plan.times) c.representatives.result.now numbers c.in_ok-numbers.ensures in
    let P : ℕ → Type 0 = λ count. All (λ class. class < count) case.subject.now.classes.numbers in
    subst P (sym (ap length c.deref.ensures.value ∙ (size ∙ ap length c.representatives.ensures))) c.requires.case.subject.classes.within

pub returns : goal.returns
returns c =
    let case = c.args.case.now in
    let n = case.netlist.now in
    let patterns = c.args.found.now.patterns.items in
    let most = case.plan.times in
    let classes = case.subject.now.classes in
    let numbers = c.in_ok-numbers.numbers.items in
    let zip : AllZip (IsTimes n patterns most) classes.representatives numbers =
    subst (λ (fs : List Fault). AllZip (IsTimes n patterns most) fs numbers) c.representatives.ensures
    (subst (λ (ps : List Pattern). AllZip (IsTimes n ps most) c.representatives.result.now numbers) c.as_slice-patterns.ensures.value
    (subst (λ (m : Netlist). AllZip (IsTimes m c.as_slice-patterns.result.now most) c.representatives.result.now numbers) c.requires.case.core c.in_ok-numbers.ensures)) in
    let by = times_by_class c.times_alike.ensures c.detected_alike.ensures n c.sound.ensures classes c.requires.case.subject.classes patterns most numbers zip in
    let is : c.in_ok-of.of.items ≡ map (λ class. get_or numbers class 0) classes.numbers =
    c.in_ok-of.ensures ∙ ap (λ (ks : List ℕ). map (λ class. get_or ks class 0) classes.numbers) c.deref.ensures.value in
    times_often n patterns most c.in_ok-of.of.items c.new.result (omega (arith, c.requires.case.times, c.if-most-eq1.false)) (omega arith) c.new.ensures
    (subst (λ (ks : List ℕ). AllZip (IsTimes n patterns most) (universe_of n) ks) (sym is) by)
