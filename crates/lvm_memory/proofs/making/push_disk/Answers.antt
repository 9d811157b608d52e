use Rattle.std.proofs.Common.{List, sym, subst}
use Rattle.lvm_num.specs.Buffer.{Sector}
use Rattle.lvm_disk.specs.Device.{AreSectors}
use Rattle.lvm_memory.specs.Media.{media_of, sizes_of}
use Rattle.lvm_memory.proofs.MediaLemmas.MadeSoFar.{sectors_more}
use Rattle.lvm_memory.proofs.making.push_disk.Goals as goal

pub returns-clause-sectors : goal.returns-clause-sectors
returns-clause-sectors c =
    subst (λ (disks : List (List Sector)). AreSectors (sizes_of disks) (media_of disks)) (sym c.in-Ok.ensures.items) (sectors_more c.args.disks.now.items c.args.disk c.requires.sectors c.requires.disk)
