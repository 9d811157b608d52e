-- What is found while a record of a session is written.
use Rattle.std.proofs.Common.{refl, sym, subst}
use Rattle.lvm_num.specs.declared.record.Kind.TheVariants as kind
use Rattle.lvm_kept.specs.Contents.{Contents, contents_of, status_on}
use Rattle.lvm_kept.specs.Torn.{written as as_read}
use Rattle.lvm_kept.proofs.CommittedLemmas.Finding.{images_within}
use Rattle.lvm_write.specs.Written.{write_of}
use Rattle.lvm_commit.specs.LawsOfFinding.{FindsNothingNew, StatusWriteFindsNothingNew, DescriptorWriteFindsNoMore}
use Rattle.lvm_commit.proofs.LawsOfFindingLemmas.NoMore.{descriptor_finds_no_more, rest_finds_nothing_new}
use Rattle.lvm_commit.proofs.LawsOfVolumesLemmas.Volumes.{next_is_later}
use Rattle.lvm_commit.proofs.LawsOfWritesLemmas.Writes.{statuses_change, descriptors_change}

pub status_write_finds_nothing_new : StatusWriteFindsNothingNew
status_write_finds_nothing_new group status next there stamp homes framed old new whole holds frames reads later by =
    subst (λ (c : Contents). FindsNothingNew (contents_of old) c) (sym (statuses_change group status next there stamp homes framed old whole holds frames reads later new by).rest)
    (rest_finds_nothing_new (contents_of old) (record (contents_of old) { status = status_on new }) refl)

pub descriptor_write_finds_no_more : DescriptorWriteFindsNoMore
descriptor_write_finds_no_more group next status there stamp homes framed old new whole holds frames reads later by =
    descriptor_finds_no_more there (as_read (write_of kind.Descriptor framed there homes) next) (contents_of old) (contents_of new) (images_within new)
    (λ d r shows its. (next_is_later old group status there stamp framed.stamp homes whole holds later).descriptors d r shows)
    (descriptors_change group next status there stamp homes framed old whole holds frames reads later new by)
