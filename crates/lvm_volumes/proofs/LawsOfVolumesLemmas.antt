-- What a descriptor in which a volume has other copies needs of the disks.
use Rattle.std.proofs.Common.{◌≡◌, ⊎_elim, ℕ, ◌<◌, ◌&&◌, ◌++◌, List, Option, Some, None, refl, sym, ap, subst, ◌∙◌}
use Rattle.std.specs.Prelude.{not, take, IsTrue, IsFalse, IfSome, All, Contains}
use Rattle.std.proofs.lemmas.Bool.{not-true}
use Rattle.std.proofs.lemmas.List.Elements.{All-contains}
use Rattle.lvm_num.specs.declared.place.Pp.{Pp}
use Rattle.lvm_num.specs.declared.descriptor.LvRow.{LvRow}
use Rattle.lvm_num.specs.declared.descriptor.Descriptor.{Descriptor}
use Rattle.lvm_num.specs.declared.status.Status.{Status}
use Rattle.lvm_num.specs.Disks.{Disks}
use Rattle.lvm_num.specs.Descriptor.{IsValid, copies_of, volume_of}
use Rattle.lvm_num.specs.Record.{Stamped}
use Rattle.lvm_num.specs.Status.{calls_stale}
use Rattle.lvm_num.specs.Votes.{all_disks, CanWrite}
use Rattle.lvm_vol.specs.Facts.{Fact}
use Rattle.lvm_vol.specs.Standing.{Standing, Settled, Open, Absent, Shape, volumes_in}
use Rattle.lvm_disk.specs.Device.{Media, image_of}
use Rattle.lvm_kept.specs.Contents.{Contents, contents_of}
use Rattle.lvm_kept.specs.Committed.{IsWithinDisks}
use Rattle.lvm_kept.specs.Group.{members_in, is_stale_by, status_by, fresh_on, ReadsBy, IsOneOf, IsSome}
use Rattle.lvm_kept.specs.Kept.{StandsAs, Kept}
use Rattle.lvm_kept.specs.Moments.{Moment}
use Rattle.lvm_kept.proofs.CommittedLemmas.Finding.{finding_reads}
use Rattle.lvm_map.specs.FirstFit.{IsAllocated, more_copies}
use Rattle.lvm_steps.specs.Committing.{VolumeIsServed}
use Rattle.lvm_status.specs.Update.{members_there}
use Rattle.lvm_steps.proofs.GroupLemmas.Members.{member_of_parts}
use Rattle.lvm_steps.proofs.RecordLemmas.{clash, split}
use Rattle.lvm_steps.proofs.MakingLemmas.Making.{media_may}
use Rattle.lvm_commit.specs.Committed.{ShowsCommitted, HoldsCommitted}
use Rattle.lvm_commit.specs.LawsOfVolumes.{VolumeServes}
use Rattle.lvm_commit.proofs.LawsLemmas.Found.{shows_group, status_read}
use Rattle.lvm_session.specs.State.{State, is_there}
use Rattle.lvm_volume_plan.specs.passed.Core.{LetsCommit, IsHeldSince}
use Rattle.lvm_even.specs.Commands.{HasCopiesOf}
use Rattle.lvm_even.proofs.CommandsLemmas.{copies_serve}
use Rattle.lvm_even.proofs.Rows.{some_passing}
use Rattle.lvm_volume_plan.specs.Copies.{with_map, with_copies, first_copies, further_copies}
use Rattle.lvm_volume_plan.proofs.CopiesLemmas.Rows.{one_found, named, own_row, differs}
use Rattle.lvm_volume_plan.proofs.CopiesLemmas.More as more
use Rattle.lvm_volume_plan.proofs.CopiesLemmas.Fewer as fewer
use Rattle.lvm_volume_plan.proofs.CopiesLemmas.Losing.{fresh_stays, stays_there}
use Rattle.lvm_volume_plan.specs.CopiesFaults.{is_loss}
use Rattle.lvm_volumes.specs.Laws.{RemovalIsShown}

module _ (d : Descriptor) (lv copies : ℕ) (row : LvRow) (valid : IsValid d) (volume : volume_of d lv ≡ Some row)
    (c : Contents) (status : Status) (there : Disks) (facts : List Fact) (within : IsWithinDisks c) (enough : CanWrite d there) (shows : ShowsCommitted c d status there) (kept : Kept c facts) where
  -- the volume keeps its shape
  same_shape : (t : Standing) (shape : Option Shape) (pps : List Pp) → StandsAs d.mib t shape (Some row) → StandsAs d.mib t shape (Some (with_map row copies pps))
  same_shape Settled shape pps stands = stands
  same_shape Open shape pps stands = stands
  same_shape Absent shape pps stands = stands

  serves : (pps : List Pp) → HasCopiesOf c d status (with_map row copies pps) → VolumeServes c facts d lv (with_copies d lv copies pps)
  serves pps has = record {
    differs = differs lv copies pps d;
    stands = subst (λ (o : Option LvRow). StandsAs d.mib (volumes_in facts lv).standing (volumes_in facts lv).shape o) (sym (named lv copies pps d.lvs row volume))
        (same_shape (volumes_in facts lv).standing (volumes_in facts lv).shape pps
        (subst (λ (o : Option LvRow). StandsAs d.mib (volumes_in facts lv).standing (volumes_in facts lv).shape o) volume (kept.agrees.volumes all_disks d.id d shows.found lv)));
    served = λ r is its. subst (λ (x : LvRow). VolumeIsServed c facts d x) (sym (own_row lv copies pps d.lvs row r valid.volumes.numbers_rise volume is its))
        (copies_serve c d status there facts (with_map row copies pps) within enough shows has kept);
  }

  its_row : IsOneOf d.lvs row
  its_row = one_found lv d.lvs row volume

  -- each logical partition has a fresh copy on a member that shows the group
  some_fresh : (lp : ℕ) → lp < row.lps → (p : Pp) × IsOneOf (copies_of row lp) p × IsFalse (calls_stale status p) × IsTrue (members_in c all_disks d.id d p.disk)
  some_fresh lp lt =
      let by_all : ReadsBy c all_disks d.id d = finding_reads c all_disks d.id d shows.found in
      let read : status_by c all_disks d.id d ≡ Some shows.stands = status_read c d status there shows facts within enough kept all_disks d by_all.reads in
      let some : IsSome (fresh_on (members_in c all_disks d.id d) (Some shows.stands) row lp) =
      subst (λ (o : Option (Stamped Status)). IsSome (fresh_on (members_in c all_disks d.id d) o row lp)) read (kept.lasting.some all_disks d.id d d by_all.reads (all_disks, shows.found) row lp its_row lt) in
      let p = some_passing (λ (p : Pp). members_in c all_disks d.id d p.disk && not (is_stale_by (Some shows.stands) p)) (copies_of row lp) some in
      let both = split (members_in c all_disks d.id d p.0.disk) (not (calls_stale shows.stands.value p.0)) p.2 in
      (p.0, p.1, ap (λ (s : Status). calls_stale s p.0) (sym shows.committed) ∙ not-true (calls_stale shows.stands.value p.0) both.1, both.0)

  -- with more copies, which are stale
  module _ (usable : Disks) (pps : List Pp) (grows : row.copies < copies) (all : IsAllocated d usable (more_copies row copies) pps) where
    pub more_serve : All (λ (p : Pp). IsTrue (calls_stale status p)) (further_copies (with_map row copies pps) row.copies) → VolumeServes c facts d lv (with_copies d lv copies pps)
    more_serve stale = serves pps (record {
      from = row;
      volume = its_row;
      number = refl;
      mode = refl;
      lps = refl;
      copies = λ lp p one fresh. ⊎_elim
          (λ (old : IsOneOf (copies_of row lp) p). old)
          (λ (further : Contains (further_copies (with_map row copies pps) row.copies) p). absurd (clash (calls_stale status p) (All-contains (λ (q : Pp). IsTrue (calls_stale status q)) (further_copies (with_map row copies pps) row.copies) p stale further) fresh))
          (more.old_or_further d usable lv copies row pps valid volume grows all lp p one);
      some = λ lp lt. let p = some_fresh lp lt in (p.0, more.old_copies d usable lv copies row pps valid volume grows all lp p.0 lt p.1, p.2, p.3);
    })

  -- where none is lost, a fresh copy of each stays on a member that shows the group
  shown_stays : ((p : Pp) → IsTrue (members_there d status p.disk) → IsTrue (there p.disk)) → (lp : ℕ) → lp < row.lps → IsFalse (is_loss status row copies lp)
      → (p : Pp) × IsOneOf (take copies (copies_of row lp)) p × IsFalse (calls_stale status p) × IsTrue (members_in c all_disks d.id d p.disk)
  shown_stays found lp lt none =
      let p = some_fresh lp lt in
      fresh_stays status row copies lp none (λ (q : Pp). IsTrue (members_in c all_disks d.id d q.disk))
      (λ q one fresh there_is.
      let is = found q (stays_there d status row copies lp q valid its_row one there_is) in
      member_of_parts c all_disks d.id d q.disk refl (shows_group c d status there shows q.disk is) (shows.room q.disk is))
      p.0 p.1 p.2 p.3

  -- with the first ones, where they have a fresh one that is shown
  pub first_serve : copies < row.copies
      → ((lp : ℕ) → lp < row.lps → (p : Pp) × IsOneOf (take copies (copies_of row lp)) p × IsFalse (calls_stale status p) × IsTrue (members_in c all_disks d.id d p.disk))
      → VolumeServes c facts d lv (with_copies d lv copies (first_copies row copies))
  first_serve shrinks shown = serves (first_copies row copies) (record {
    from = row;
    volume = its_row;
    number = refl;
    mode = refl;
    lps = refl;
    copies = λ lp p one fresh. fewer.old_copies d lv copies row valid volume shrinks lp p one;
    some = λ lp lt. let p = shown lp lt in (p.0, subst (λ (xs : List Pp). IsOneOf xs p.0) (sym (fewer.first_are d lv copies row valid volume shrinks lp lt)) p.1, p.2, p.3);
  })

-- ---- in a session

pub removal_is_shown : RemovalIsShown
removal_is_shown c facts lv copies core row settled valid within shows kept loses lp lt =
    shown_stays core.descriptor lv copies row valid loses.shrinks.found.volume c core.status.committed (is_there core) facts within settled.votes shows kept
    (λ p is. subst (λ (s : Status). IsTrue (members_there core.descriptor s p.disk)) settled.committed is) lp lt (loses.each lp lt)

-- The descriptor may be committed, where it serves by what the disks show.
pub lets : (s : State) (lv : ℕ) (next : Descriptor) → CanWrite s.core.descriptor (is_there s.core)
    → ((m : Media) (facts : List Fact) → s.device.media ≡ Some m → ShowsCommitted (contents_of (image_of s.device.sizes m)) s.core.descriptor s.core.status.committed (is_there s.core)
    → Kept (contents_of (image_of s.device.sizes m)) facts → VolumeServes (contents_of (image_of s.device.sizes m)) facts s.core.descriptor lv next)
    → (run : ℕ) (first : Moment) → IsHeldSince run first s → LetsCommit lv next run first s
lets s lv next votes serves run first held past begins holds = by_media s.device.media refl (held past begins)
  where
    by_media : (o : Option Media) → s.device.media ≡ o → IfSome o (λ media. HoldsCommitted (image_of s.device.sizes media) s.core.descriptor s.core.status.committed (is_there s.core) s.core.status.stamp s.core.homes)
        → IfSome o (λ media. VolumeServes (contents_of (image_of s.device.sizes media)) (past ++ s.core.history.facts) s.core.descriptor lv next)
    by_media None told shown = tt
    by_media (Some m) told shown = serves m (past ++ s.core.history.facts) told shown.shows (holds.kept (image_of s.device.sizes m) (media_may s.device m told))
