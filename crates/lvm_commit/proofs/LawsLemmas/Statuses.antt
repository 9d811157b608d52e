-- The next status of a session keeps the history.
use Rattle.std.proofs.Common.{◌≡◌, ◌⊎◌, inl, inr, ⊎_elim, ℕ, ◌<◌, Bool, true, ◌&&◌, List, [], ◌∷◌, ◌++◌, Option, Some, refl, sym, subst, ◌∙◌}
use Rattle.std.specs.Prelude.{IsTrue, not}
use Rattle.std.proofs.lemmas.Bool.{and_from, not-true, not_from_false}
use Rattle.lvm_num.specs.Geometry.{track_group_of}
use Rattle.lvm_num.specs.Status.{calls_stale, calls_dirty}
use Rattle.lvm_num.specs.declared.place.Pp.{Pp}
use Rattle.lvm_num.specs.declared.descriptor.Mode.{Mode}
use Rattle.lvm_num.specs.declared.descriptor.Mode.TheVariants.{Active, Passive, Off}
use Rattle.lvm_num.specs.declared.descriptor.LvRow.{LvRow}
use Rattle.lvm_num.specs.declared.descriptor.Descriptor.{Descriptor}
use Rattle.lvm_num.specs.declared.status.Status.{Status}
use Rattle.lvm_num.specs.Disks.{Disks}
use Rattle.lvm_num.specs.Descriptor.{copies_of}
use Rattle.lvm_num.specs.Votes.{all_disks}
use Rattle.lvm_num.specs.Record.{Stamped}
use Rattle.lvm_num.proofs.AmongLemmas.{of_passing}
use Rattle.lvm_num.proofs.Booleans.{clash_gives}
use Rattle.lvm_vol.specs.declared.entry.Vol.TheVariants.{Lv}
use Rattle.lvm_vol.specs.Facts.{Fact, Cut}
use Rattle.lvm_vol.specs.May.{Known, known, IsValue}
use Rattle.lvm_disk.specs.Device.{Image, image_of}
use Rattle.lvm_kept.specs.Contents.{Contents, contents_of}
use Rattle.lvm_kept.specs.Group.{passes, is_of, IsFound, members_in, status_by, ReadsGroup, is_stale_by, fresh_on, block_at, is_named, IsOneOf, IsSome, HoldOne}
use Rattle.lvm_kept.specs.Committed.{IsWithinDisks}
use Rattle.lvm_kept.specs.Kept.{MayDiffer, BlocksKept, Kept}
use Rattle.lvm_kept.specs.Changes.{Serves}
use Rattle.lvm_kept.specs.Torn.{StatusesChange, written as as_read, Alone}
use Rattle.lvm_kept.proofs.CommittedLemmas.Finding.{finding_reads, images_within}
use Rattle.lvm_kept.proofs.TornLemmas.Records.{status_shows}
use Rattle.lvm_steps.proofs.RecordLemmas.{either, split}
use Rattle.lvm_steps.proofs.MakingLemmas.Making.{stays_by}
use Rattle.lvm_steps.proofs.ChangesLemmas.{serving, put_keeps}
use Rattle.lvm_commit.specs.Committed.{AreOne, MayMark}
use Rattle.lvm_commit.specs.Laws.{MayFollow, StatusFollows, StatusGoesOn}
use Rattle.lvm_commit.proofs.LawsLemmas.Found.{shows_group, only_found, status_read}
use Rattle.lvm_steps.proofs.GroupLemmas.Passing.{at_passing, some_passing, one_passes}

-- statuses that say the same may follow one another
pub same_marks : (c : Contents) (group : Descriptor) (was next : Status) → ((p : Pp) → calls_stale next p ≡ calls_stale was p) → ((n : ℕ) → calls_dirty next n ≡ calls_dirty was n) → MayMark c group was next
same_marks c group was next stale dirty = record {
  stale = λ row lp p one copy is. stale p ∙ is;
  added = λ row lp p one low copy is. inl (sym (stale p) ∙ is);
  dirty = λ row one soft is. inl (dirty row.number ∙ is);
}

-- ---- lists

-- ---- a status with the marks of another, and further ones

module _ (c : Contents) (group : Descriptor) (was next : Stamped Status) (marks : MayMark c group was.value next.value) where
  abbrev set : Disks
  set = members_in c all_disks group.id group

  abbrev passing : Stamped Status → Pp → Bool
  passing status p = set p.disk && not (is_stale_by (Some status) p)

  -- fresh by the next one: fresh by the one before
  still_fresh : (row : LvRow) (lp : ℕ) (p : Pp) → IsOneOf group.lvs row → IsOneOf (copies_of row lp) p → passing next p ≡ true → passing was p ≡ true
  still_fresh row lp p one copy is =
      let parts = split (set p.disk) (not (is_stale_by (Some next) p)) is in
      and_from (set p.disk) (not (is_stale_by (Some was) p)) parts.0 (not_from_false (is_stale_by (Some was) p) (⊎_elim
      (λ (stale : is_stale_by (Some was) p ≡ true). clash_gives (is_stale_by (Some next) p) (marks.stale row lp p one copy stale) (not-true (is_stale_by (Some next) p) parts.1))
      (λ fresh. fresh)
      (either (is_stale_by (Some was) p))))

  marked_blocks : (facts : List Fact) → BlocksKept c facts group set (Some was) → BlocksKept c facts group set (Some next)
  marked_blocks facts blocks row lp b one inside =
      let kept = blocks row lp b one inside in
      record {
        allowed = of_passing (λ p. IsValue k (block_at c group.mib p b)) (passing next) (copies_of row lp) (λ p copy is.
            at_passing (λ p. IsValue k (block_at c group.mib p b)) (passing was) (copies_of row lp) kept.allowed p copy (still_fresh row lp p one copy is));
        equal = ⊎_elim
            (λ (hold : HoldOne c group.mib (fresh_on set (Some was) row lp) b). inl (held hold))
            (λ differ. by row.mode refl differ)
            kept.equal;
      }
    where
      k : Known
      k = known (facts ++ Cut ∷ []) (Lv row.number) b

      held : HoldOne c group.mib (fresh_on set (Some was) row lp) b → HoldOne c group.mib (fresh_on set (Some next) row lp) b
      held hold = (
        hold.0,
        of_passing (λ p. block_at c group.mib p b ≡ hold.0) (passing next) (copies_of row lp) (λ p copy is.
            at_passing (λ p. block_at c group.mib p b ≡ hold.0) (passing was) (copies_of row lp) hold.1 p copy (still_fresh row lp p one copy is)),
      )

      by : (m : Mode) → row.mode ≡ m → MayDiffer c (Some was) row.number m (fresh_on set (Some was) row lp) k b
          → HoldOne c group.mib (fresh_on set (Some next) row lp) b ⊎ MayDiffer c (Some next) row.number row.mode (fresh_on set (Some next) row lp) k b
      by Active is named = inr (subst (λ (m : Mode). MayDiffer c (Some next) row.number m (fresh_on set (Some next) row lp) k b) (sym is)
          (of_passing (λ p. IsTrue (is_named c p.disk row.number (track_group_of b))) (passing next) (copies_of row lp) (λ p copy passed.
          at_passing (λ p. IsTrue (is_named c p.disk row.number (track_group_of b))) (passing was) (copies_of row lp) named p copy (still_fresh row lp p one copy passed))))
      by Passive is dirty = ⊎_elim
          (λ stays. inr (subst (λ (m : Mode). MayDiffer c (Some next) row.number m (fresh_on set (Some next) row lp) k b) (sym is) stays))
          (λ (are : AreOne c group was.value row). inl (held (are lp b inside)))
          (marks.dirty row one is dirty)
      by Off is loose = inr (subst (λ (m : Mode). MayDiffer c (Some next) row.number m (fresh_on set (Some next) row lp) k b) (sym is) loose)

  marked_some : (row : LvRow) (lp : ℕ) → IsOneOf group.lvs row → lp < row.lps → IsSome (fresh_on set (Some was) row lp) → IsSome (fresh_on set (Some next) row lp)
  marked_some row lp one low some =
      let p = some_passing (passing was) (copies_of row lp) some in
      let parts = split (set p.0.disk) (not (is_stale_by (Some was) p.0)) p.2 in
      ⊎_elim
      (λ (stale : is_stale_by (Some next) p.0 ≡ true). ⊎_elim
      (λ (was_so : IsTrue (calls_stale was.value p.0)). clash_gives (calls_stale was.value p.0) was_so (not-true (is_stale_by (Some was) p.0) parts.1))
      (λ other. one_passes (passing next) (copies_of row lp) other.0 other.1 (and_from (set other.0.disk) (not (is_stale_by (Some next) other.0)) other.3 (not_from_false (is_stale_by (Some next) other.0) other.2)))
      (marks.added row lp p.0 one low p.1 stale))
      (λ fresh. one_passes (passing next) (copies_of row lp) p.0 p.1 (and_from (set p.0.disk) (not (is_stale_by (Some next) p.0)) parts.0 (not_from_false (is_stale_by (Some next) p.0) fresh)))
      (either (is_stale_by (Some next) p.0))

-- ---- the next one

module _ (c : Contents) (group : Descriptor) (status : Status) (there targets : Disks) (next : Stamped Status) (facts : List Fact) (within : IsWithinDisks c) (may : MayFollow c group status there targets next) (kept : Kept c facts) where
  abbrev id : ℕ
  id = group.id

  abbrev was : Stamped Status
  was = may.shows.stands

  same_group : (k : Descriptor) → IsFound c id k → k ≡ group
  same_group k is = only_found c group status there may.shows facts within may.enough kept k is

  found_group : IsFound c id group
  found_group = (all_disks, may.shows.found)

  reads_group : ReadsGroup c all_disks id group
  reads_group = (finding_reads c all_disks id group may.shows.found).reads

  was_read : status_by c all_disks id group ≡ Some was
  was_read = status_read c group status there may.shows facts within may.enough kept all_disks group reads_group

  marks : MayMark c group was.value next.value
  marks = subst (λ (s : Status). MayMark c group s next.value) (sym may.shows.committed) may.marks

  across : (k : Descriptor) → IsFound c id k → BlocksKept c facts k (members_in c all_disks id k) (Some next)
  across k is = subst (λ (g : Descriptor). BlocksKept c facts g (members_in c all_disks id g) (Some next)) (sym (same_group k is))
      (marked_blocks c group was next marks facts
      (subst (λ (s : Option (Stamped Status)). BlocksKept c facts group (members_in c all_disks id group) s) was_read (kept.lasting.across all_disks id group group reads_group found_group)))

  some_of_group : (row : LvRow) (lp : ℕ) → IsOneOf group.lvs row → lp < row.lps → IsSome (fresh_on (members_in c all_disks id group) (Some next) row lp)
  some_of_group row lp volume inside = marked_some c group was next marks row lp volume inside
      (subst (λ (s : Option (Stamped Status)). IsSome (fresh_on (members_in c all_disks id group) s row lp)) was_read (kept.lasting.some all_disks id group group reads_group found_group row lp volume inside))

  serves : Serves c facts id next
  serves = serving c id next facts group same_group across some_of_group

  -- the disks to which it goes show the group
  showing : (d : ℕ) → IsTrue (targets d) → passes (is_of id) (c.descriptor d) ≡ true
  showing d target = shows_group c group status there may.shows d (may.showing d target)

  followed : (new : Contents) → StatusesChange targets next c new → Kept new facts
  followed new change = put_keeps c id next facts targets new change may.own showing may.later serves kept

pub status_follows : StatusFollows
status_follows group status there targets next old new facts within may change kept = followed old group status there targets next facts within may kept new change

pub status_goes_on : StatusGoesOn
status_goes_on group status there w next old new written is_kind may_write may =
    let start : Image = image_of old.sizes written.media in
    stays_by (Alone w) old new written (λ image by facts kept. status_follows group status there w.targets (as_read w next) (contents_of start) (contents_of image) facts (images_within start) may (status_shows w next start image is_kind may_write by) kept)
