-- The descriptor with both volumes may be committed, by what the disks of the session show behind the mark.
use Rattle.std.proofs.Common.{◌≡◌, ℕ, Bool, ◌&&◌, ◌||◌, ◌==◌, List, [], ◌∷◌, ◌++◌, append_assoc, Some, refl, sym, ap, subst, ◌∙◌}
use Rattle.std.specs.Prelude.{not, IsTrue, IsFalse}
use Rattle.std.proofs.lemmas.Bool.{and_from, not_from_false}
use Rattle.lvm_num.specs.declared.place.Pp.{Pp}
use Rattle.lvm_num.specs.declared.descriptor.LvRow.{LvRow}
use Rattle.lvm_num.specs.declared.descriptor.Descriptor.{Descriptor}
use Rattle.lvm_num.specs.declared.status.Status.{Status}
use Rattle.lvm_num.specs.Disks.{Disks}
use Rattle.lvm_num.specs.Descriptor.{copies_of, is_member, volume_of}
use Rattle.lvm_num.specs.Status.{calls_stale, calls_missing}
use Rattle.lvm_num.specs.Votes.{CanWrite}
use Rattle.lvm_num.proofs.AmongLemmas.{one_any}
use Rattle.lvm_disk.specs.Device.{Media, image_of}
use Rattle.lvm_vol.specs.Facts.{Fact, Split}
use Rattle.lvm_kept.specs.Contents.{Contents, contents_of}
use Rattle.lvm_kept.specs.Kept.{Kept}
use Rattle.lvm_kept.specs.Moments.{Moment}
use Rattle.lvm_kept.proofs.CommittedLemmas.Finding.{images_within}
use Rattle.lvm_steps.specs.Moments.{RunBegins, HistoryHolds}
use Rattle.lvm_steps.proofs.MakingLemmas.Making.{media_may}
use Rattle.lvm_status.specs.Update.{members_there}
use Rattle.lvm_commit.specs.Committed.{HoldsCommitted, ShowsCommitted}
use Rattle.lvm_commit.specs.LawsOfVolumes.{VolumesServe}
use Rattle.lvm_commit.specs.Settling.{NoneIsLeft, there}
use Rattle.lvm_even.specs.Even.{IsEven}
use Rattle.lvm_core.specs.Committing.{LetsCommitAmong}
use Rattle.lvm_session.specs.State.{Core, State, is_there, moment_of}
use Rattle.lvm_write.proofs.WrittenLemmas.Writing.{if_told, told_at}
use Rattle.lvm_volume_plan.specs.passed.Core.{IsHeld, IsSettled}
use Rattle.lvm_volume_plan.specs.declared.split.SplitPlan.{SplitPlan}
use Rattle.lvm_volume_plan.specs.Split.{MayServeBoth, kept_row, split_row}
use Rattle.lvm_volume_plan.specs.PlannedSplit.{IsPlannedSplit}
use Rattle.lvm_volume_plan.proofs.CopiesLemmas.Rows.{one_found}
use Rattle.lvm_volume_plan.proofs.SplitLemmas.Behind as behind
use Rattle.lvm_volume_plan.proofs.SplitLemmas.Both as both
use Rattle.lvm_map.proofs.PlacesLemmas.{volume_at}
use Rattle.lvm_volumes.specs.Stages.{with_entry}
use Rattle.lvm_parted.specs.Parted.{IsAtSplit, IsSplitInto, MaySplit, NoneStaysFresh}
use Rattle.lvm_parted.proofs.PartedLemmas.{split_may_be_committed}
use Rattle.lvm_split.specs.Premises.{IsClosedIn}
use Rattle.lvm_split.proofs.SplittingLemmas.Copies as copies_

-- a copy on a disk that isn't there is stale where another is usable, if none is left behind
pub none_stays_fresh : (core : Core) → core.status.group ≡ record core.descriptor { lvs = [] } → core.status.committed ≡ core.status.wanted → NoneIsLeft core.descriptor core.status
    → NoneStaysFresh core.descriptor core.status.committed (is_there core)
none_stays_fresh core group same none row lp p q volume low copy gone other here fresh = subst (λ (s : Status). IsTrue (calls_stale s p)) (sym same) (none p (record {
  row = row;
  volume = volume;
  left = record {
    lp = lp;
    below = low;
    left = record {
      one = copy;
      absent = at p.disk ∙ gone;
      served = one_any (λ (x : Pp). there core.status x.disk && not (calls_stale core.status.wanted x)) (copies_of row lp) q other
          (and_from (there core.status q.disk) (not (calls_stale core.status.wanted q)) (at q.disk ∙ here)
          (not_from_false (calls_stale core.status.wanted q) (ap (λ (s : Status). calls_stale s q) (sym same) ∙ fresh)));
    };
  };
}))
  where
    at : (disk : ℕ) → there core.status disk ≡ is_there core disk
    at disk = ap (λ (g : Descriptor). members_there g core.status.wanted disk) group

module _ (name : List ℕ) (copies : ℕ) (plan : SplitPlan) (core : Core) (planned : IsPlannedSplit plan.from name copies core plan) where
  abbrev row : LvRow
  row = planned.row

  abbrev pub stays : LvRow
  stays = kept_row row copies

  abbrev pub new : LvRow
  new = split_row row copies plan.number name

  pub number_is : row.number ≡ plan.from
  number_is = (volume_at core.descriptor plan.from row planned.may.counted.copies_for.parts.named.found.volume).its

  pub volume : volume_of core.descriptor row.number ≡ Some row
  volume = ap (volume_of core.descriptor) number_is ∙ planned.may.counted.copies_for.parts.named.found.volume

  -- the numbers of the two
  abbrev pub are_two : ℕ → Bool
  are_two n = (n == row.number) || (n == plan.number)

  pub split_into : IsSplitInto core.descriptor plan.next row stays new
  split_into = subst (λ (x : Descriptor). IsSplitInto core.descriptor x row stays new) (sym planned.is)
      (copies_.is_split_into core.descriptor copies plan.number name row planned.group.valid volume planned.may.counted.copies_for.parts.are planned.lowest planned.order)

  module _ (status : Status) (serve : MayServeBoth status row copies) (on : Disks) (on_is : (disk : ℕ) → IsTrue (is_member core.descriptor disk) → IsFalse (calls_missing status disk) → IsTrue (on disk)) where
    pub may_split : MaySplit core.descriptor status on row stays new
    may_split = record {
      volume = one_found row.number core.descriptor.lvs row volume;
      stays_part = copies_.stays_part core.descriptor copies plan.number name row planned.group.valid volume planned.may.counted.copies_for.parts.are planned.lowest planned.order;
      new_part = copies_.new_part core.descriptor copies plan.number name row planned.group.valid volume planned.may.counted.copies_for.parts.are planned.lowest planned.order;
      number = refl;
      apart = both.apart core.descriptor copies plan.number name row planned.group.valid volume planned.may.counted.copies_for.parts.are planned.lowest planned.order;
      usable = λ lp p one.
          let it = copies_.new_usable core.descriptor copies plan.number name row planned.group.valid volume planned.may.counted.copies_for.parts.are planned.lowest planned.order status serve lp p one in
          (on_is p.disk it.2 it.1, it.0);
      some = λ lp lt. behind.some_copy core.descriptor copies row planned.group.valid volume planned.may.counted.copies_for.parts.are.fewer plan.number name lp lt;
      fresh = λ lp lt. copies_.stays_usable core.descriptor copies plan.number name row planned.group.valid volume planned.may.counted.copies_for.parts.are planned.lowest planned.order status serve lp lt;
    }

-- ---- in a session

module _ (name : List ℕ) (copies : ℕ) (plan : SplitPlan) (a b : State) (planned : IsPlannedSplit plan.from name copies a.core plan) (same : b.core.descriptor ≡ a.core.descriptor)
    (group : b.core.status.group ≡ record a.core.descriptor { lvs = [] }) (settled : IsSettled b.core) (serve : MayServeBoth b.core.status.committed planned.row copies) (left : NoneIsLeft b.core.descriptor b.core.status) where
  abbrev d : Descriptor
  d = a.core.descriptor

  abbrev from : LvRow
  from = planned.row

  abbrev f : Fact
  f = Split plan.from plan.number

  there_by : (disk : ℕ) → IsTrue (is_member d disk) → IsFalse (calls_missing b.core.status.committed disk) → IsTrue (is_there b.core disk)
  there_by disk member found = and_from (is_member b.core.descriptor disk) (not (calls_missing b.core.status.wanted disk)) (ap (λ (x : Descriptor). is_member x disk) same ∙ member)
      (not_from_false (calls_missing b.core.status.wanted disk) (ap (λ (s : Status). calls_missing s disk) (sym settled.committed) ∙ found))

  none_fresh : NoneStaysFresh d b.core.status.committed (is_there b.core)
  none_fresh = subst (λ (x : Descriptor). NoneStaysFresh x b.core.status.committed (is_there b.core)) same
      (none_stays_fresh b.core (group ∙ ap (λ (x : Descriptor). record x { lvs = [] }) (sym same)) settled.committed left)

  module _ (m : Media) (told : b.device.media ≡ Some m) (facts : List Fact) (shows : ShowsCommitted (contents_of (image_of b.device.sizes m)) d b.core.status.committed (is_there b.core))
      (even : IsEven (contents_of (image_of b.device.sizes m)) d (Some shows.stands) (is_there b.core)) (closed : IsClosedIn facts plan.from)
      (before : Kept (contents_of (image_of b.device.sizes m)) facts) (kept : Kept (contents_of (image_of b.device.sizes m)) (facts ++ f ∷ [])) where
    abbrev c : Contents
    c = contents_of (image_of b.device.sizes m)

    same_f : Split from.number plan.number ≡ f
    same_f = ap (λ (n : ℕ). Split n plan.number) (number_is name copies plan a.core planned)

    at_split : IsAtSplit c d b.core.status.committed (is_there b.core) facts from (stays name copies plan a.core planned) (new name copies plan a.core planned)
    at_split = record {
      within = images_within (image_of b.device.sizes m);
      enough = subst (λ (x : Descriptor). CanWrite x (is_there b.core)) same settled.votes;
      shows = shows;
      even = even;
      left = none_fresh;
      may = may_split name copies plan a.core planned b.core.status.committed serve (is_there b.core) there_by;
      closed = subst (λ (n : ℕ). IsClosedIn facts n) (sym (number_is name copies plan a.core planned)) closed;
      before = before;
      kept = subst (λ (x : Fact). Kept c (facts ++ x ∷ [])) (sym same_f) kept;
    }

    pub both_serve : VolumesServe c (facts ++ f ∷ []) d (are_two name copies plan a.core planned) plan.next
    both_serve = subst (λ (x : Fact). VolumesServe c (facts ++ x ∷ []) d (are_two name copies plan a.core planned) plan.next) same_f
        (split_may_be_committed c d plan.next b.core.status.committed (is_there b.core) facts from (stays name copies plan a.core planned) (new name copies plan a.core planned) at_split (split_into name copies plan a.core planned))

  -- so it may be, after each earlier history with which it is kept before and with the entry
  pub lets_split : (run : ℕ) (first : Moment)
      → ((past : List Fact) → RunBegins run past first → IsHeld b.device b.core)
      → ((past : List Fact) → RunBegins run past first → HistoryHolds past (moment_of b))
      → ((past : List Fact) → RunBegins run past first → IsClosedIn (past ++ b.core.history.facts) plan.from)
      → ((past : List Fact) → RunBegins run past first → (m : Media) → b.device.media ≡ Some m → (shows : ShowsCommitted (contents_of (image_of b.device.sizes m)) d b.core.status.committed (is_there b.core))
      → IsEven (contents_of (image_of b.device.sizes m)) d (Some shows.stands) (is_there b.core))
      → LetsCommitAmong (are_two name copies plan a.core planned) plan.next run first (with_entry b f)
  lets_split run first held upheld closed even past begins holds = if_told b.device.media _ (λ m told.
      let c : Contents = contents_of (image_of b.device.sizes m) in
      let shown : HoldsCommitted (image_of b.device.sizes m) b.core.descriptor b.core.status.committed (is_there b.core) b.core.status.stamp b.core.homes = told_at b.device.media _ m told (held past begins) in
      let shows : ShowsCommitted c d b.core.status.committed (is_there b.core) = subst (λ (x : Descriptor). ShowsCommitted c x b.core.status.committed (is_there b.core)) same shown.shows in
      let facts : List Fact = past ++ b.core.history.facts in
      let grouped : past ++ (b.core.history.facts ++ f ∷ []) ≡ facts ++ f ∷ [] = sym (append_assoc past b.core.history.facts (f ∷ [])) in
      let before : Kept c facts = (upheld past begins).kept (image_of b.device.sizes m) (media_may b.device m told) in
      let kept : Kept c (facts ++ f ∷ []) = subst (λ (l : List Fact). Kept c l) grouped (holds.kept (image_of b.device.sizes m) (media_may b.device m told)) in
      let all = both_serve m told facts shows (even past begins m told shows) (closed past begins) before kept in
      subst (λ (x : Descriptor). VolumesServe c (past ++ (b.core.history.facts ++ f ∷ [])) x (are_two name copies plan a.core planned) plan.next) (sym same)
      (subst (λ (l : List Fact). VolumesServe c l d (are_two name copies plan a.core planned) plan.next) (sym grouped) all))
