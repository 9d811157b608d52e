use Rattle.std.proofs.Common.{sym, ap, subst, ◌∙◌}
use Rattle.std.specs.Prelude.{[]}
use Rattle.lvm_num.specs.declared.descriptor.Descriptor.{Descriptor}
use Rattle.lvm_num.specs.Descriptor.{is_member}
use Rattle.lvm_status.specs.Table.{has_row}
use Rattle.lvm_status.specs.Update.{Stored, Updates}
use Rattle.lvm_num.specs.Disks.{has}
use Rattle.lvm_session.specs.State.{Core}
use Rattle.lvm_change.specs.Parting.{PartsWith}
use Rattle.lvm_turnover.proofs.turning.take_over.Goals as goal

pub part_with-requires-clause-own : goal.part_with-requires-clause-own
part_with-requires-clause-own c = sym (ap (λ (x : Updates). x.group) c.install.ensures ∙ ap (λ (g : Descriptor). record g { lvs = [] }) c.requires.prepared.group)

pub part_with-requires-clause-idle : goal.part_with-requires-clause-idle
part_with-requires-clause-idle c = ap (λ (x : Updates). x.in_flight) c.install.ensures

pub part_with-requires-clause-rows : goal.part_with-requires-clause-rows
part_with-requires-clause-rows c = λ e. ap (λ (x : Updates). has_row x.wanted e) c.install.ensures ∙ c.requires.rows e
    ∙ ap (λ (g : Descriptor). is_member g e) (sym (ap (λ (x : Updates). x.group) c.install.ensures ∙ ap (λ (g : Descriptor). record g { lvs = [] }) c.requires.prepared.group))

pub returns-clause-parts : goal.returns-clause-parts
returns-clause-parts c = record { begun = c.install.new.self; begun_is = c.install.ensures; parts = subst (λ (u : Stored). PartsWith c.args.change.next (has c.args.lost) c.install.new.self u) (sym (ap (λ (k : Core). k.status) c.let_go.ensures.core)) c.part_with.ensures }
