-- A settled session is in a good state.
use Rattle.std.proofs.Common.{inl, List, ◌++◌, Some, sym, ap, subst, ◌∙◌}
use Rattle.lvm_num.specs.declared.descriptor.Descriptor.{Descriptor}
use Rattle.lvm_num.specs.Disks.{Disks}
use Rattle.lvm_num.specs.Votes.{all_disks}
use Rattle.lvm_vol.specs.Facts.{Fact}
use Rattle.lvm_vol.specs.Legal.{Legal}
use Rattle.lvm_disk.specs.Device.{Image, image_of, MayLeave}
use Rattle.lvm_kept.specs.Contents.{Contents, contents_of}
use Rattle.lvm_kept.specs.Kept.{Kept}
use Rattle.lvm_kept.specs.Moments.{Calm}
use Rattle.lvm_kept.proofs.CommittedLemmas.Alike.{one_is_only}
use Rattle.lvm_kept.proofs.CommittedLemmas.Finding.{images_within}
use Rattle.lvm_steps.proofs.MakingLemmas.Making.{media_may}
use Rattle.lvm_status.specs.Update.{members_there}
use Rattle.lvm_session.specs.State.{is_there}
use Rattle.lvm_rest.proofs.GoodLemmas.Rest.{good_is_rest}
use Rattle.lvm_rest.proofs.ClosedLemmas.{calm_is_closed}
use Rattle.lvm_rest.proofs.GoodLemmas.Good.{rest_matches}
use Rattle.lvm_even.proofs.MarkingLemmas.{none_is_left_behind as none_is_behind}
use Rattle.lvm_settled.specs.Settled.{CacheIsSeen, SettledIsGood, GoodIsSettled, NoneLeftIsBehind}
use Rattle.lvm_even.specs.Even.{MissingAreStale}

pub settled_is_good : SettledIsGood
settled_is_good votes past s media known v are carried view =
    let facts : List Fact = past ++ s.core.history.facts in
    let image : Image = image_of s.device.sizes media in
    let may : MayLeave s.device image = media_may s.device media known.told in
    rest_matches votes v s.core.descriptor s.core.status.committed (is_there s.core) s.device media known.told (known.sound.quiet known.settled.quiet) are known.sound.fitting.valid known.settled.votes known.held.shows view.idle view.sees
    (calm_is_closed v.facts s.core.descriptor (subst Calm (sym view.facts) carried.calm))
    (record {
      legal = subst Legal (sym view.facts) known.holds.legal;
      kept = subst (Kept (contents_of image)) (sym view.facts) (known.holds.kept image may);
      alone = λ disks id g f. inl (one_is_only (contents_of image) s.core.descriptor (known.only image may) (all_disks, known.held.shows.found) id g (disks, f));
      even = carried.even;
      behind = carried.behind;
    })

pub good_is_settled : GoodIsSettled
good_is_settled votes past s media known v are view good describes =
    let rest = good_is_rest votes v s.core.descriptor s.core.status.committed (is_there s.core) (contents_of (image_of s.device.sizes media)) are known.sound.fitting.valid (images_within (image_of s.device.sizes media)) known.held.shows view.idle view.sees good describes in
    (rest.kept, rest.even, rest.behind)

pub none_left_is_behind : NoneLeftIsBehind
none_left_is_behind past s media known none =
    let c : Contents = contents_of (image_of s.device.sizes media) in
    subst (λ (set : Disks). MissingAreStale c s.core.descriptor (Some known.held.shows.stands) set) (ap (λ (g : Descriptor). members_there g s.core.status.wanted) known.sound.fitting.group)
    (none_is_behind c s.core.descriptor s.core.status known.held.shows.stands (known.held.shows.committed ∙ known.settled.committed) none)

pub cache_is_seen : CacheIsSeen
cache_is_seen past s media known v view home d lv group there = view.sees.notes d lv group there ∙ home d lv group there
