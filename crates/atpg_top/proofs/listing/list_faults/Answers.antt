use Rattle.std.proofs.Common.{inl, inr, [], Err, subst}
use Rattle.outside.specs.declared.refusal.WriteRefusal.{WriteRefusal}
use Rattle.commands.specs.Names.{file_name_of, texts_of}
use Rattle.commands.specs.declared.ending.Finding.TheVariants.{Fine}
use Rattle.atpg_top.specs.inner.Pieces.{PutsFaultList}
use Rattle.atpg_top.proofs.Delivering.{faults_deliver}
use Rattle.command_steps.proofs.RowLemmas.{read_as}
use Rattle.atpg_top.proofs.listing.list_faults.Goals as goal

pub returns-in-Ok-put_fault_list : goal.returns-in-Ok-put_fault_list
returns-in-Ok-put_fault_list g c =
    let read = c.in-Ok.ensures in
    let texts = texts_of c.in-Ok.texts.items in
    let are = read_as (g.S.Shelf.files c.args.shelf.now) (file_name_of c.of.result) c.args.net.now texts c.of.ensures read.0 in
    let put = c.in-Ok-put_fault_list.ensures in
    let due = faults_deliver texts c.in-Ok-design_of.netlist put.0 c.in-Ok-design_of.ensures put.1 in
    ([], put.0, (texts, are, due), (read.1, put.2.0, (read.2, put.2.1)))

pub returns-in-Err-Failed : goal.returns-in-Err-Failed
returns-in-Err-Failed g c =
    let read = c.in-Ok.ensures in
    let texts = texts_of c.in-Ok.texts.items in
    let are = read_as (g.S.Shelf.files c.args.shelf.now) (file_name_of c.of.result) c.args.net.now texts c.of.ensures read.0 in
    let put = subst (λ (e : WriteRefusal). PutsFaultList c.in-Ok-design_of.netlist (g.T.Sink.taken c.args.out.now) (g.T.Sink.failures c.args.out.now) (g.T.Sink.taken c.put_fault_list.new.out) (g.T.Sink.failures c.put_fault_list.new.out) (Err e))
    c.in-Err-Failed.field-0-is c.in-Err-Failed.ensures in
    let due = faults_deliver texts c.in-Ok-design_of.netlist put.0 c.in-Ok-design_of.ensures put.1 in
    ([], put.0, Fine, (texts, are, due), (read.1, put.2.0, (read.2, put.2.1)))

pub returns-in-Err-NoMemory-put_fault_list : goal.returns-in-Err-NoMemory-put_fault_list
returns-in-Err-NoMemory-put_fault_list g c =
    let read = c.in-Ok.ensures in
    let texts = texts_of c.in-Ok.texts.items in
    let are = read_as (g.S.Shelf.files c.args.shelf.now) (file_name_of c.of.result) c.args.net.now texts c.of.ensures read.0 in
    let refusal = c.in-Err-NoMemory-put_fault_list in
    let put = subst (λ (e : WriteRefusal). PutsFaultList c.in-Ok-design_of.netlist (g.T.Sink.taken c.args.out.now) (g.T.Sink.failures c.args.out.now) (g.T.Sink.taken c.put_fault_list.new.out) (g.T.Sink.failures c.put_fault_list.new.out) (Err e))
    refusal.field-0-is refusal.ensures in
    elim put [
      | inl before ↦ inl ((read.1, before.0), (read.2, before.1))
      | inr list ↦ inr ([], list.0, Fine, (texts, are, faults_deliver texts c.in-Ok-design_of.netlist list.0 c.in-Ok-design_of.ensures list.1), inr (read.1, list.2.0, (read.2, list.2.1)))
    ]
