-- Behind a split both volumes hold the same, and a write on one changes nothing of the other.
use Rattle.std.proofs.Common.{◌≡◌, ⊎_elim, ℕ, Bool, true, false, ◌&&◌, ◌||◌, not, List, [], ◌∷◌, ◌++◌, Option, Some, Ok, refl, sym, ap, subst, ◌∙◌}
use Rattle.std.specs.Prelude.{IsTrue, IsFalse}
use Rattle.std.specs.List.{AllByRecursion}
use Rattle.std.proofs.lemmas.Bool.{and_from, cases_Bool, not-true as not_so, not_from_false}
use Rattle.lvm_num.specs.declared.descriptor.Descriptor.{Descriptor}
use Rattle.lvm_num.specs.declared.descriptor.LvRow.{LvRow}
use Rattle.lvm_num.specs.declared.descriptor.Mode.{Mode}
use Rattle.lvm_num.specs.declared.descriptor.Mode.TheVariants.{Active, Passive, Off}
use Rattle.lvm_num.specs.declared.place.Pp.{Pp}
use Rattle.lvm_num.specs.declared.status.Status.{Status}
use Rattle.lvm_num.specs.Descriptor.{copies_of, is_member, volume_of}
use Rattle.lvm_num.specs.Disks.{Disks}
use Rattle.lvm_num.specs.Geometry.{sector_of}
use Rattle.lvm_num.specs.Record.{Stamped}
use Rattle.lvm_num.specs.Status.{calls_stale}
use Rattle.lvm_num.specs.Votes.{CanWrite, all_disks}
use Rattle.lvm_num.proofs.AmongLemmas.{of_passing}
use Rattle.lvm_num.proofs.Booleans.{clash, first_holds, second_holds}
use Rattle.lvm_disk.specs.Device.{Media, image_of}
use Rattle.lvm_disk.specs.Steps.{BothTold}
use Rattle.lvm_vol.specs.declared.entry.Vol.TheVariants.{Lv}
use Rattle.lvm_vol.specs.Facts.{Cut, Fact, Request}
use Rattle.lvm_vol.specs.May.{Known, is_off, is_some_open, known}
use Rattle.lvm_vol.specs.Order.{Ordered}
use Rattle.lvm_vol.proofs.LawsLemmas.Knowing.{known-push}
use Rattle.lvm_kept.specs.Committed.{IsWithinDisks}
use Rattle.lvm_kept.specs.Contents.{Contents, contents_of}
use Rattle.lvm_kept.specs.Group.{HoldOne, IsBlockOf, IsOneOf, ReadsBy, block_at, fresh_on, is_stale_by, members_in}
use Rattle.lvm_kept.specs.Kept.{BlocksKept, Kept, MayDiffer}
use Rattle.lvm_kept.specs.Moments.{Moment}
use Rattle.lvm_kept.specs.Plans.{ChangesBy}
use Rattle.lvm_kept.proofs.CommittedLemmas.Finding.{finding_reads, images_within}
use Rattle.lvm_steps.specs.Moments.{RunBegins, HistoryHolds, Upholds}
use Rattle.lvm_steps.proofs.GroupLemmas.Members.{member_of_parts}
use Rattle.lvm_steps.proofs.MakingLemmas.Making.{media_may}
use Rattle.lvm_disk.proofs.PathsLemmas.{last-path}
use Rattle.lvm_commit.specs.Committed.{ShowsCommitted}
use Rattle.lvm_commit.specs.LawsOfData.{IsSectorOf}
use Rattle.lvm_commit.proofs.AmongLemmas.{one_place}
use Rattle.lvm_commit.proofs.LawsLemmas.Found.{shows_group, status_read}
use Rattle.lvm_commit.proofs.LawsOfDataLemmas.Free.{partition_is}
use Rattle.lvm_commit.proofs.passed.Steps.{at_passing}
use Rattle.lvm_settled.specs.passed.Even.{IsEven}
use Rattle.lvm_map.proofs.PlacesLemmas.{volume_at}
use Rattle.lvm_write.proofs.WrittenLemmas.Writing.{if_told}
use Rattle.lvm_volume_plan.specs.Split.{kept_row, split_row, with_split}
use Rattle.lvm_volume_plan.proofs.CopiesLemmas.Rows.{one_found}
use Rattle.lvm_volume_plan.proofs.SplitLemmas.Both as both_
use Rattle.lvm_parted.specs.Parted.{HasPartOf, IsSplitInto}
use Rattle.lvm_session.specs.State.{Core, State, is_there, moment_of}
use Rattle.lvm_split.specs.Splitting.{IsSplit, IsVolumeSplit, to_split}
use Rattle.lvm_split.proofs.SplittingLemmas.Copies as copies_
use Rattle.lvm_handover.specs.passed.Core.{IsOfCommand, IsSettled, NoPartition}
use Rattle.lvm_tie_commands.specs.passed.Handover.{IsCommanded}
use Rattle.lvm_tie_commands.specs.Commands.{MayBeCommanded}
use Rattle.lvm_tie_commands.specs.Sharing.{HoldTheSame, ShareContent, SplitShares, WritesStayApart}
use Rattle.lvm_tie_commands.proofs.CommandsLemmas.Commands.{still_there}
use Rattle.lvm_tie_commands.proofs.CommandsLemmas.Records.{data_stays}
use Rattle.lvm_tie_commands.proofs.CopiesLemmas.Adding.{no_volume}
use Rattle.lvm_tie_commands.proofs.HeldLemmas.{Carries, carries}
use Rattle.lvm_tie_commands.proofs.MomentsLemmas.{calm_at}
use Rattle.lvm_tie_commands.proofs.Resting.{landed}

-- ---- a write on one

pub writes_stay_apart : WritesStayApart
writes_stay_apart group row other old new valid one two differ change lp b p copy = ⊎_elim
    (λ same. same)
    (λ (put : (at : ℕ) × (pp : Pp) × IsOneOf (copies_of row at) pp × IsSectorOf group.mib pp p.disk (sector_of group.mib p.pp b)).
    let its : IsOneOf (copies_of row put.0) p = subst (λ (q : Pp). IsOneOf (copies_of row put.0) q) (sym (partition_is group.mib p put.1 b put.3)) put.2 in
    absurd (differ (ap (λ (r : LvRow). r.number) (one_place group row other put.0 lp p valid one two its copy).row_is)))
    (change p.disk (sector_of group.mib p.pp b))

-- ---- one value at each block of the volume

not_off : Active ≡ Off → ⊥
not_off e = absurd cc

nor_off : Passive ≡ Off → ⊥
nor_off e = absurd cc

no_more : (t : Bool) → t && false ≡ false
no_more true = refl
no_more false = refl

abbrev passing : Option (Stamped Status) → Disks → Pp → Bool
passing stands set p = set p.disk && not (is_stale_by stands p)

module _ (c : Contents) (group : Descriptor) (status : Status) (there : Disks) (facts : List Fact) (shows : ShowsCommitted c group status there) (within : IsWithinDisks c) (enough : CanWrite group there)
    (even : IsEven c group (Some shows.stands) there) (kept : Kept c facts) (row : LvRow) (one : IsOneOf group.lvs row) (lp b : ℕ) (inside : IsBlockOf group.mib row lp b)
    (closed : (known facts (Lv row.number) b).open_writes ≡ []) (firm : IsFalse (known facts (Lv row.number) b).loose) where
  abbrev shown : Option (Stamped Status)
  shown = Some shows.stands

  abbrev members : Disks
  members = members_in c all_disks group.id group

  abbrev after_cut : Known
  after_cut = known (facts ++ Cut ∷ []) (Lv row.number) b

  by_all : ReadsBy c all_disks group.id group
  by_all = finding_reads c all_disks group.id group shows.found

  blocks_of : BlocksKept c facts group members (Some shows.stands)
  blocks_of = subst (λ (o : Option (Stamped Status)). BlocksKept c facts group members o) (status_read c group status there shows facts within enough kept all_disks group by_all.reads)
      (kept.lasting.across all_disks group.id group group by_all.reads (all_disks, shows.found))

  wider : (p : Pp) → IsTrue (passing (Some shows.stands) there p) → IsTrue (passing (Some shows.stands) members p)
  wider p is =
      let here = first_holds (there p.disk) (not (is_stale_by shown p)) is in
      and_from (members p.disk) (not (is_stale_by shown p)) (member_of_parts c all_disks group.id group p.disk refl (shows_group c group status there shows p.disk here) (shows.room p.disk here))
      (second_holds (there p.disk) (not (is_stale_by shown p)) is)

  fewer : HoldOne c group.mib (fresh_on members (Some shows.stands) row lp) b → HoldOne c group.mib (fresh_on there (Some shows.stands) row lp) b
  fewer hold = (
    hold.0,
    of_passing (λ (p : Pp). block_at c group.mib p b ≡ hold.0) (passing shown there) (copies_of row lp) (λ p copy is.
        at_passing (λ (p : Pp). block_at c group.mib p b ≡ hold.0) (passing shown members) (copies_of row lp) hold.1 p copy (wider p is)),
  )

  -- no more is loose after a cut
  is_firm : IsFalse after_cut.loose
  is_firm = ap (λ (k : Known). k.loose) (known-push facts Cut (Lv row.number) b)
      ∙ ap (λ (t : Bool). t || (is_off (known facts (Lv row.number) b).mode && is_some_open (known facts (Lv row.number) b).open_writes)) firm
      ∙ ap (λ (rs : List Request). is_off (known facts (Lv row.number) b).mode && is_some_open rs) closed
      ∙ no_more (is_off (known facts (Lv row.number) b).mode)

  -- where no write of it is open, the usable copies hold one value at a block that isn't loose
  pub holds_one : HoldOne c group.mib (fresh_on there (Some shows.stands) row lp) b
  holds_one = by row.mode refl
    where
      by : (m : Mode) → row.mode ≡ m → HoldOne c group.mib (fresh_on there (Some shows.stands) row lp) b
      by Active is = even row lp b one (λ off. not_off (sym is ∙ off)) inside
      by Passive is = even row lp b one (λ off. nor_off (sym is ∙ off)) inside
      by Off is = ⊎_elim
          (λ (hold : HoldOne c group.mib (fresh_on members (Some shows.stands) row lp) b). fewer hold)
          (λ (loose : MayDiffer c shown row.number row.mode (fresh_on members shown row lp) after_cut b).
          absurd (clash after_cut.loose (subst (λ (m : Mode). MayDiffer c shown row.number m (fresh_on members shown row lp) after_cut b) is loose) is_firm))
          (blocks_of row lp b one inside).equal

-- of two lists
pub both_lists : (P : Pp → Type 0) (xs ys : List Pp) → AllByRecursion P xs → AllByRecursion P ys → AllByRecursion P (xs ++ ys)
both_lists P [] ys one two = two
both_lists P (x ∷ xs) ys one two = (one.0, both_lists P xs ys one.1 two)

-- ---- behind the split

module _ (run : ℕ) (first : Moment) (lv : ℕ) (name : List ℕ) (copies before after : ℕ) (old new : State) (number : ℕ)
    (may : MayBeCommanded run first old) (c : IsCommanded (to_split lv name copies old.core) before after old new (Ok number)) (it : IsVolumeSplit lv name copies number old new) where
  abbrev d : Descriptor
  d = old.core.descriptor

  abbrev row : LvRow
  row = it.row

  abbrev stays : LvRow
  stays = kept_row it.row copies

  abbrev more : LvRow
  more = split_row it.row copies number name

  number_is : it.row.number ≡ lv
  number_is = (volume_at d lv it.row it.may.counted.copies_for.parts.named.found.volume).its

  volume : volume_of d it.row.number ≡ Some it.row
  volume = ap (volume_of d) number_is ∙ it.may.counted.copies_for.parts.named.found.volume

  its_row : IsOneOf d.lvs it.row
  its_row = one_found it.row.number d.lvs it.row volume

  next_is : new.core.descriptor ≡ with_split d it.row copies number name
  next_is = ap (λ (s : Core). s.descriptor) it.is

  into : IsSplitInto d (with_split d it.row copies number name) it.row stays more
  into = copies_.is_split_into d copies number name it.row may.sound.fitting.valid volume it.may.counted.copies_for.parts.are it.lowest it.order

  stays_part : HasPartOf it.row stays
  stays_part = copies_.stays_part d copies number name it.row may.sound.fitting.valid volume it.may.counted.copies_for.parts.are it.lowest it.order

  more_part : HasPartOf it.row more
  more_part = copies_.new_part d copies number name it.row may.sound.fitting.valid volume it.may.counted.copies_for.parts.are it.lowest it.order

  differ : it.row.number ≡ number → ⊥
  differ = both_.apart d copies number name it.row may.sound.fitting.valid volume it.may.counted.copies_for.parts.are it.lowest it.order

  on : IsSettled new.core
  on = c.on

  -- no member comes back
  fewer_there : (disk : ℕ) → IsTrue (is_there new.core disk) → IsTrue (is_there old.core disk)
  fewer_there = still_there old new (λ disk. ap (λ (g : Descriptor). is_member g disk) next_is) c.leaves.status.stays

  module _ (past : List Fact) (begins : RunBegins run past first) (media : Media) (told : new.device.media ≡ Some media) (stands : Stamped Status) (committed : stands.value ≡ new.core.status.committed) where
    abbrev facts : List Fact
    facts = past ++ old.core.history.facts

    first_carries : (was : Media) × Carries old was
    first_carries = carries run first old may c.began past begins (λ none. absurd (no_volume d lv it.row none it.may.counted.copies_for.parts.named.found.volume))

    abbrev was : Media
    was = first_carries.0

    abbrev its : Carries old first_carries.0
    its = first_carries.1

    abbrev c_old : Contents
    c_old = contents_of (image_of old.device.sizes was)

    abbrev c_new : Contents
    c_new = contents_of (image_of new.device.sizes media)

    holds : HistoryHolds past (moment_of old)
    holds = let upholds : Upholds run first (moment_of old) = last-path may.keeps in upholds past begins

    change : ChangesBy (IsOfCommand (IsSplit lv name copies old.core) NoPartition old new) (image_of old.device.sizes was) (image_of new.device.sizes media)
    change = subst (λ (m : Option Media). BothTold m (Some media) (λ a b. ChangesBy (IsOfCommand (IsSplit lv name copies old.core) NoPartition old new) (image_of old.device.sizes a) (image_of new.device.sizes b))) its.told
        (subst (λ (m : Option Media). BothTold old.device.media m (λ a b. ChangesBy (IsOfCommand (IsSplit lv name copies old.core) NoPartition old new) (image_of old.device.sizes a) (image_of new.device.sizes b))) told c.leaves.writes.media)

    same_data : (disk s : ℕ) → c_new.block disk s ≡ c_old.block disk s
    same_data = data_stays (IsSplit lv name copies old.core) old new (image_of old.device.sizes was) (image_of new.device.sizes media) change

    -- what is usable now was so before
    usable : (p : Pp) → IsTrue (is_there new.core p.disk && not (is_stale_by (Some stands) p)) → IsTrue (is_there old.core p.disk && not (is_stale_by (Some its.held.shows.stands) p))
    usable p is =
        let there = fewer_there p.disk (first_holds (is_there new.core p.disk) (not (is_stale_by (Some stands) p)) is) in
        let fresh : not (calls_stale stands.value p) ≡ true = second_holds (is_there new.core p.disk) (not (is_stale_by (Some stands) p)) is in
        and_from (is_there old.core p.disk) (not (calls_stale its.held.shows.stands.value p)) there (not_from_false (calls_stale its.held.shows.stands.value p)
        (ap (λ (s : Status). calls_stale s p) (its.held.shows.committed ∙ c.began.committed) ∙ ⊎_elim
        (λ (stale : IsTrue (calls_stale old.core.status.wanted p)). absurd (clash (calls_stale stands.value p)
        (ap (λ (s : Status). calls_stale s p) (committed ∙ on.committed) ∙ c.leaves.status.stale p (λ none. absurd none) stale)
        (not_so (calls_stale stands.value p) fresh)))
        (λ isnt. isnt)
        (cases_Bool (calls_stale old.core.status.wanted p))))

    module _ (lp b : ℕ) (inside : IsBlockOf d.mib it.row lp b) (firm : IsFalse (known facts (Lv it.row.number) b).loose) where
      hold : HoldOne c_old d.mib (fresh_on (is_there old.core) (Some its.held.shows.stands) it.row lp) b
      hold = holds_one c_old d old.core.status.committed (is_there old.core) facts its.held.shows (images_within (image_of old.device.sizes was)) c.began.votes its.even
          (holds.kept (image_of old.device.sizes was) (media_may old.device was its.told)) it.row its_row lp b inside
          (calm_at run first (moment_of old) may.keeps (subst (λ (n : ℕ). Ordered n [] old.core.history.facts) may.run_is may.sound.told.ordered) (landed old may.sound c.began) past begins (Lv it.row.number) b) firm

      of_part : (part : LvRow) → HasPartOf it.row part → AllByRecursion (λ (p : Pp). block_at c_new d.mib p b ≡ hold.0) (fresh_on (is_there new.core) (Some stands) part lp)
      of_part part its_part = of_passing (λ (p : Pp). block_at c_new d.mib p b ≡ hold.0) (λ (p : Pp). is_there new.core p.disk && not (is_stale_by (Some stands) p)) (copies_of part lp) (λ p copy is.
          same_data p.disk (sector_of d.mib p.pp b)
          ∙ at_passing (λ (p : Pp). block_at c_old d.mib p b ≡ hold.0) (λ (p : Pp). is_there old.core p.disk && not (is_stale_by (Some its.held.shows.stands) p)) (copies_of it.row lp) hold.1 p (its_part.copies lp p copy) (usable p is))

      one_in_both : HoldOne c_new d.mib (fresh_on (is_there new.core) (Some stands) stays lp ++ fresh_on (is_there new.core) (Some stands) more lp) b
      one_in_both = (hold.0, both_lists (λ (p : Pp). block_at c_new d.mib p b ≡ hold.0) (fresh_on (is_there new.core) (Some stands) stays lp) (fresh_on (is_there new.core) (Some stands) more lp) (of_part stays stays_part) (of_part more more_part))

    hold_the_same : HoldTheSame c_new facts d.mib (Some stands) (is_there new.core) stays more
    hold_the_same lp b inside firm = one_in_both lp b (record { inside = inside.inside; partition = inside.partition }) firm

  shares : (past : List Fact) → RunBegins run past first → ShareContent (past ++ old.core.history.facts) new lv number
  shares past begins = record {
    stays = stays;
    new = more;
    stays_is = subst (λ (n : ℕ). volume_of new.core.descriptor n ≡ Some stays) number_is (subst (λ (g : Descriptor). volume_of g it.row.number ≡ Some stays) (sym next_is) into.is);
    new_is = subst (λ (g : Descriptor). volume_of g number ≡ Some more) (sym next_is) into.more;
    apart = λ same. differ (number_is ∙ same);
    lps = refl;
    same = if_told new.device.media _ (λ media told stands committed. subst (λ (g : Descriptor). HoldTheSame (contents_of (image_of new.device.sizes media)) (past ++ old.core.history.facts) g.mib (Some stands) (is_there new.core) stays more) (sym next_is)
        (hold_the_same past begins media told stands committed));
  }

pub split_shares : SplitShares
split_shares run first lv name copies before after old new number may c gives past begins = shares run first lv name copies before after old new number may c gives past begins
