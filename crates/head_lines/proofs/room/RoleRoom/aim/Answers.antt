use Rattle.std.proofs.Common.{◌∙◌, ℕ, [], List, length, sym, ap, subst}
use Rattle.statement.specs.Netlists.{Netlist, signals}
use Rattle.head_lines.specs.declared.roles.Role.{Role}
use Rattle.head_lines.specs.HeadLines.{AreRoles}
use Rattle.head_lines.specs.Rooms.{nowhere, AreBeside}
use Rattle.head_lines.proofs.Chains.{first_roles, last_roles}
use Rattle.head_lines.proofs.room.RoleRoom.aim.Goals as goal

pub bind_from-requires : goal.bind_from-requires
bind_from-requires c =
    let n = c.netlist-netlist.result.now in
    let base : List Role = c.args.self.now.base.items in
    first_roles c.args.fault.now n c.args.holds.now c.sound.ensures base c.restore.new.roles.items c.site_of-site.result
    (subst (λ (m : Netlist). AreRoles nowhere m c.args.holds.now base) (sym c.netlist-netlist.ensures) c.requires.base_are)
    (c.restore.ensures.size ∙ ap length c.deref.ensures.value)
    (subst (λ (bs : List Role). AreBeside bs c.restore.new.roles.items []) c.deref.ensures.value c.restore.ensures.same) c.site_of-site.ensures

pub returns-clause-roles : goal.returns-clause-roles
returns-clause-roles c =
    subst (λ (m : Netlist). AreRoles c.args.fault.now m c.args.holds.now c.bind_from.new.roles.items) c.netlist-netlist.ensures
    (last_roles c.args.fault.now c.netlist-netlist.result.now c.args.holds.now c.sound.ensures c.bind_from.new.roles.items c.in_ok-bind_from.ensures.roles)

pub returns-clause-serves : goal.returns-clause-serves
returns-clause-serves c =
    let base : List Role = c.args.self.now.base.items in
    let before : AreBeside base c.restore.new.roles.items c.restore.new.changed.items =
    subst (λ (cs : List ℕ). AreBeside base c.restore.new.roles.items cs) (sym c.restore.ensures.none)
    (subst (λ (bs : List Role). AreBeside bs c.restore.new.roles.items []) c.deref.ensures.value c.restore.ensures.same) in
    record {
      base_are = c.requires.base_are;
      size = c.in_ok-bind_from.ensures.roles.size ∙ (ap (λ (m : Netlist). length (signals m)) c.netlist-netlist.ensures ∙ sym c.requires.base_are.size);
      beside = c.in_ok-bind_from.ensures.beside base before;
    }
