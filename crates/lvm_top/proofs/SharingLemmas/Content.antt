-- Behind a split both volumes hold the same, by what its line says of the writes and the status.
use Rattle.std.proofs.Common.{◌≡◌, ⊎_elim, ℕ, true, ◌&&◌, not, List, ◌++◌, Option, Some, refl, sym, ap, subst, ◌∙◌}
use Rattle.std.specs.Prelude.{IsTrue, IsFalse}
use Rattle.std.specs.List.{AllByRecursion}
use Rattle.std.proofs.lemmas.Bool.{and_from, cases_Bool, not-true as not_so, not_from_false}
use Rattle.lvm_num.specs.declared.descriptor.Descriptor.{Descriptor}
use Rattle.lvm_num.specs.declared.descriptor.LvRow.{LvRow}
use Rattle.lvm_num.specs.declared.place.Pp.{Pp}
use Rattle.lvm_num.specs.declared.status.Status.{Status}
use Rattle.lvm_num.specs.Descriptor.{copies_of, is_member, volume_of}
use Rattle.lvm_num.specs.Geometry.{sector_of}
use Rattle.lvm_num.specs.Record.{Stamped}
use Rattle.lvm_num.specs.Status.{calls_stale}
use Rattle.lvm_num.proofs.AmongLemmas.{of_passing}
use Rattle.lvm_num.proofs.Booleans.{clash, first_holds, second_holds}
use Rattle.lvm_num.proofs.Lists.{of_told}
use Rattle.lvm_disk.specs.Device.{Media, image_of}
use Rattle.lvm_disk.specs.Steps.{BothTold}
use Rattle.lvm_vol.specs.declared.entry.Vol.TheVariants.{Lv}
use Rattle.lvm_vol.specs.Facts.{Fact}
use Rattle.lvm_vol.specs.May.{known}
use Rattle.lvm_kept.specs.Contents.{Contents, contents_of}
use Rattle.lvm_kept.specs.Group.{HoldOne, IsBlockOf, IsOneOf, block_at, fresh_on, is_stale_by}
use Rattle.lvm_kept.specs.Moments.{Calm}
use Rattle.lvm_kept.specs.Plans.{ChangesBy}
use Rattle.lvm_kept.proofs.CommittedLemmas.Finding.{images_within}
use Rattle.lvm_steps.specs.Moments.{HistoryHolds}
use Rattle.lvm_steps.proofs.MakingLemmas.Making.{media_may}
use Rattle.lvm_commit.proofs.passed.Steps.{at_passing}
use Rattle.lvm_map.proofs.PlacesLemmas.{volume_at}
use Rattle.lvm_write.specs.Written.{KeepsShelf}
use Rattle.lvm_write.proofs.WrittenLemmas.Writing.{if_told}
use Rattle.lvm_volume_plan.specs.Split.{kept_row, split_row, with_split}
use Rattle.lvm_volume_plan.specs.NewVolume.{IsLowestFree}
use Rattle.lvm_volume_plan.proofs.CopiesLemmas.Rows.{one_found}
use Rattle.lvm_volume_plan.proofs.SplitLemmas.Both as both_
use Rattle.lvm_parted.specs.Parted.{HasPartOf, IsSplitInto}
use Rattle.lvm_session.specs.Sound.{IsSound}
use Rattle.lvm_session.specs.State.{Core, State, is_there, moment_of}
use Rattle.lvm_split.specs.Splitting.{IsSplit, IsVolumeSplit}
use Rattle.lvm_split.proofs.SplittingLemmas.Copies as copies_
use Rattle.lvm_core.specs.Leaves.{IsOfCommand, KeepsStatus, NoPartition}
use Rattle.lvm_core.specs.Settled.{IsSettled}
use Rattle.lvm_tie.specs.Begins.{IsRested, IsCoreAtRest}
use Rattle.lvm_tie.specs.Tied.{IsTied}
use Rattle.lvm_tie.specs.Spares.{SparesDescriptors, SparesOn}
use Rattle.lvm_line.specs.passed.Splitting.{HoldTheSame, ShareContent}
use Rattle.lvm_line.proofs.passed.TieCommands.{Held, both_lists, calm_since, data_stays, holds_one, its_disks_hold, its_rest, landed, rests, still_there}

-- ---- behind the split

module _ (past : List Fact) (lv : ℕ) (name : List ℕ) (copies : ℕ) (old new : State) (number : ℕ)
    (tied : IsTied past old) (began : IsSettled old.core) (spares : SparesDescriptors old) (calm : Calm past) (holds : HistoryHolds past (moment_of old))
    (on : IsSettled new.core) (it : IsVolumeSplit lv name copies number old new)
    (status : KeepsStatus (IsSplit lv name copies old.core) NoPartition NoPartition (IsLowestFree old.core.descriptor) old new)
    (writes : KeepsShelf (is_there old.core) (IsOfCommand (IsSplit lv name copies old.core) NoPartition old new) old.device new.device) where
  abbrev d : Descriptor
  d = old.core.descriptor

  sound : IsSound old
  sound = tied.orderly.sound

  abbrev stays : LvRow
  stays = kept_row it.row copies

  abbrev more : LvRow
  more = split_row it.row copies number name

  number_is : it.row.number ≡ lv
  number_is = (volume_at d lv it.row it.may.counted.copies_for.parts.named.found.volume).its

  volume : volume_of d it.row.number ≡ Some it.row
  volume = ap (volume_of d) number_is ∙ it.may.counted.copies_for.parts.named.found.volume

  its_row : IsOneOf d.lvs it.row
  its_row = one_found it.row.number d.lvs it.row volume

  next_is : new.core.descriptor ≡ with_split d it.row copies number name
  next_is = ap (λ (s : Core). s.descriptor) it.is

  into : IsSplitInto d (with_split d it.row copies number name) it.row stays more
  into = copies_.is_split_into d copies number name it.row sound.fitting.valid volume it.may.counted.copies_for.parts.are it.lowest it.order

  stays_part : HasPartOf it.row stays
  stays_part = copies_.stays_part d copies number name it.row sound.fitting.valid volume it.may.counted.copies_for.parts.are it.lowest it.order

  more_part : HasPartOf it.row more
  more_part = copies_.new_part d copies number name it.row sound.fitting.valid volume it.may.counted.copies_for.parts.are it.lowest it.order

  pub stays_found : volume_of new.core.descriptor lv ≡ Some (kept_row it.row copies)
  stays_found = subst (λ (n : ℕ). volume_of new.core.descriptor n ≡ Some stays) number_is (subst (λ (g : Descriptor). volume_of g it.row.number ≡ Some stays) (sym next_is) into.is)

  pub more_found : volume_of new.core.descriptor number ≡ Some (split_row it.row copies number name)
  more_found = subst (λ (g : Descriptor). volume_of g number ≡ Some more) (sym next_is) into.more

  differ : it.row.number ≡ number → ⊥
  differ = both_.apart d copies number name it.row sound.fitting.valid volume it.may.counted.copies_for.parts.are it.lowest it.order

  resting : IsCoreAtRest old.core
  resting = rests old tied.orderly.sound began

  spared : SparesOn old.core tied.media
  spared = of_told (SparesOn old.core) old.device.media tied.media tied.setting.told spares

  -- the disks hold what the session says
  abbrev held : Held old tied.media
  held = its_disks_hold past old tied resting began.votes spared

  rested : IsRested past old tied.media held.shows
  rested = its_rest past old tied resting began.votes spared

  -- no member comes back
  fewer_there : (disk : ℕ) → IsTrue (is_there new.core disk) → IsTrue (is_there old.core disk)
  fewer_there = still_there old new (λ disk. ap (λ (g : Descriptor). is_member g disk) next_is) status.stays

  module _ (media : Media) (told : new.device.media ≡ Some media) (stands : Stamped Status) (committed : stands.value ≡ new.core.status.committed) where
    abbrev facts : List Fact
    facts = past ++ old.core.history.facts

    abbrev c_old : Contents
    c_old = contents_of (image_of old.device.sizes tied.media)

    abbrev c_new : Contents
    c_new = contents_of (image_of new.device.sizes media)

    change : ChangesBy (IsOfCommand (IsSplit lv name copies old.core) NoPartition old new) (image_of old.device.sizes tied.media) (image_of new.device.sizes media)
    change = subst (λ (m : Option Media). BothTold m (Some media) (λ a b. ChangesBy (IsOfCommand (IsSplit lv name copies old.core) NoPartition old new) (image_of old.device.sizes a) (image_of new.device.sizes b))) tied.setting.told
        (subst (λ (m : Option Media). BothTold old.device.media m (λ a b. ChangesBy (IsOfCommand (IsSplit lv name copies old.core) NoPartition old new) (image_of old.device.sizes a) (image_of new.device.sizes b))) told writes.media)

    same_data : (disk s : ℕ) → c_new.block disk s ≡ c_old.block disk s
    same_data = data_stays (IsSplit lv name copies old.core) old new (image_of old.device.sizes tied.media) (image_of new.device.sizes media) change

    -- what is usable now was so before
    usable : (p : Pp) → IsTrue (is_there new.core p.disk && not (is_stale_by (Some stands) p)) → IsTrue (is_there old.core p.disk && not (is_stale_by (Some held.shows.stands) p))
    usable p is =
        let there = fewer_there p.disk (first_holds (is_there new.core p.disk) (not (is_stale_by (Some stands) p)) is) in
        let fresh : not (calls_stale stands.value p) ≡ true = second_holds (is_there new.core p.disk) (not (is_stale_by (Some stands) p)) is in
        and_from (is_there old.core p.disk) (not (calls_stale held.shows.stands.value p)) there (not_from_false (calls_stale held.shows.stands.value p)
        (ap (λ (s : Status). calls_stale s p) (held.shows.committed ∙ began.committed) ∙ ⊎_elim
        (λ (stale : IsTrue (calls_stale old.core.status.wanted p)). absurd (clash (calls_stale stands.value p)
        (ap (λ (s : Status). calls_stale s p) (committed ∙ on.committed) ∙ status.stale p (λ none. absurd none) stale)
        (not_so (calls_stale stands.value p) fresh)))
        (λ isnt. isnt)
        (cases_Bool (calls_stale old.core.status.wanted p))))

    module _ (lp b : ℕ) (inside : IsBlockOf d.mib it.row lp b) (firm : IsFalse (known facts (Lv it.row.number) b).loose) where
      hold : HoldOne c_old d.mib (fresh_on (is_there old.core) (Some held.shows.stands) it.row lp) b
      hold = holds_one c_old d old.core.status.committed (is_there old.core) facts held.shows (images_within (image_of old.device.sizes tied.media)) began.votes rested.rest.even
          (holds.kept (image_of old.device.sizes tied.media) (media_may old.device tied.media tied.setting.told)) it.row its_row lp b inside
          (calm_since old.core.history.run past old.core.history.facts holds.legal calm sound.told.ordered (landed old sound began) (Lv it.row.number) b) firm

      of_part : (part : LvRow) → HasPartOf it.row part → AllByRecursion (λ (p : Pp). block_at c_new d.mib p b ≡ hold.0) (fresh_on (is_there new.core) (Some stands) part lp)
      of_part part its_part = of_passing (λ (p : Pp). block_at c_new d.mib p b ≡ hold.0) (λ (p : Pp). is_there new.core p.disk && not (is_stale_by (Some stands) p)) (copies_of part lp) (λ p copy is.
          same_data p.disk (sector_of d.mib p.pp b)
          ∙ at_passing (λ (p : Pp). block_at c_old d.mib p b ≡ hold.0) (λ (p : Pp). is_there old.core p.disk && not (is_stale_by (Some held.shows.stands) p)) (copies_of it.row lp) hold.1 p (its_part.copies lp p copy) (usable p is))

      one_in_both : HoldOne c_new d.mib (fresh_on (is_there new.core) (Some stands) stays lp ++ fresh_on (is_there new.core) (Some stands) more lp) b
      one_in_both = (hold.0, both_lists (λ (p : Pp). block_at c_new d.mib p b ≡ hold.0) (fresh_on (is_there new.core) (Some stands) stays lp) (fresh_on (is_there new.core) (Some stands) more lp) (of_part stays stays_part) (of_part more more_part))

    hold_the_same : HoldTheSame c_new facts d.mib (Some stands) (is_there new.core) stays more
    hold_the_same lp b inside firm = one_in_both lp b (record { inside = inside.inside; partition = inside.partition }) firm

  pub shares : ShareContent (past ++ old.core.history.facts) new lv number
  shares = record {
    stays = stays;
    new = more;
    stays_is = stays_found;
    new_is = more_found;
    apart = λ same. differ (number_is ∙ same);
    lps = refl;
    same = if_told new.device.media _ (λ media told stands committed. subst (λ (g : Descriptor). HoldTheSame (contents_of (image_of new.device.sizes media)) (past ++ old.core.history.facts) g.mib (Some stands) (is_there new.core) stays more) (sym next_is)
        (hold_the_same media told stands committed));
  }
