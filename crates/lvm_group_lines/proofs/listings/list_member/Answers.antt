use Rattle.std.proofs.Common.{inl, inr, sym, ◌∙◌, ap, refl}
use Rattle.std.specs.Prelude.{◌==◌}
use Rattle.std.specs.List.{list_any}
use Rattle.lvm_num.specs.declared.descriptor.PvRow.{PvRow}
use Rattle.lvm_num.specs.Descriptor.{member_of}
use Rattle.lvm_group_lines.specs.Listings.{ListsMember, NoSuchMember}
use Rattle.lvm_group_lines.proofs.Listing.{a_member, found_where_any, no_member}
use Rattle.lvm_group_lines.proofs.listings.list_member.Goals as goal

pub returns-then-disk-disks : goal.returns-then-disk-disks
returns-then-disk-disks c = NoSuchMember (inl c.if-disk-disks.true) refl

pub show_disk-requires-clause-there : goal.show_disk-requires-clause-there
show_disk-requires-clause-there c = sym (found_where_any (λ (row : PvRow). row.disk == c.args.disk) c.args.group.now.pvs) ∙ sym (c.has_member.ensures ∙ ap (list_any (λ (row : PvRow). row.disk == c.args.disk)) c.as_slice.ensures) ∙ c.if-has_member.true

pub returns-then-has_member : goal.returns-then-has_member
returns-then-has_member c =
    let it = a_member (member_of c.args.group.now c.args.disk) (sym (found_where_any (λ (row : PvRow). row.disk == c.args.disk) c.args.group.now.pvs) ∙ sym (c.has_member.ensures ∙ ap (list_any (λ (row : PvRow). row.disk == c.args.disk)) c.as_slice.ensures) ∙ c.if-has_member.true) in
    ListsMember it.0 c.if-disk-disks.false it.1 (c.shows.ensures _ c.show_disk.ensures)

pub returns-else-has_member : goal.returns-else-has_member
returns-else-has_member c =
    NoSuchMember (inr (no_member (member_of c.args.group.now c.args.disk) (sym (found_where_any (λ (row : PvRow). row.disk == c.args.disk) c.args.group.now.pvs) ∙ sym (c.has_member.ensures ∙ ap (list_any (λ (row : PvRow). row.disk == c.args.disk)) c.as_slice.ensures) ∙ c.if-has_member.false))) refl
