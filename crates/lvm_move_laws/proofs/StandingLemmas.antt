-- How the group stands once its next descriptor is committed.
use Rattle.std.proofs.Common.{◌≡◌, ℕ}
use Rattle.lvm_commit.proofs.LawsLemmas.Found.{only_found}
use Rattle.lvm_map.proofs.PlacesLemmas.{mib_positive}
use Rattle.lvm_move_laws.specs.Standing.{NextStands}

pub next_stands : NextStands
next_stands c next status there facts valid within enough shows kept alone = record {
  a_member = valid.head.a_member;
  size = mib_positive next valid;
  found = shows.found;
  alone = alone;
  only = λ disks g f. only_found c next status there shows facts within enough kept g (disks, f);
  others = record {
    common = λ a b other g h apart r t. kept.lasting.common a b other g h r t;
    size = λ other g h apart is also. kept.lasting.size other g h is also;
    partitions = λ other g h apart is also. kept.lasting.partitions other g h is also;
  };
  once = kept.lasting.descriptors;
}
