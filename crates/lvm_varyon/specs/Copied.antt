-- Which copies are made of a plan.
use Rattle.std.specs.Prelude.{◌++◌, List}
use Rattle.lvm_num.specs.Disks.{has}
use Rattle.lvm_varyon.specs.passed.Recovery.{Recopy, copies_dirty}
use Rattle.lvm_varyon.specs.declared.plan.Plan.{Plan}

-- all copies that are made of a plan: those of track groups that notes name, and then those of dirty volumes
abbrev pub all_copies : Plan → List Recopy
all_copies plan = plan.copying.copies ++ copies_dirty plan.parts.descriptor plan.copying.table (has plan.targets)
