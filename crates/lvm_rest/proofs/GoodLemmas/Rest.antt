-- Where a session in a good state has nothing under way, its disks are at rest.
use Rattle.std.proofs.Common.{◌≡◌, ◌⊎◌, inl, inr, ℕ, ◌*◌, ◌<◌, Bool, true, false, ◌&&◌, not, [], Some, None, refl, sym, ap, ◌∙◌}
use Rattle.std.specs.Prelude.{IsTrue, IsFalse}
use Rattle.std.proofs.lemmas.Bool.{not_from_false, and_left}
use Rattle.lvm_num.specs.declared.place.Pp.{Pp}
use Rattle.lvm_num.specs.declared.descriptor.Mode.{Mode}
use Rattle.lvm_num.specs.declared.descriptor.Mode.TheVariants.{Active, Passive, Off}
use Rattle.lvm_num.specs.declared.descriptor.LvRow.{LvRow}
use Rattle.lvm_num.specs.declared.descriptor.Descriptor.{Descriptor}
use Rattle.lvm_num.specs.declared.status.Status.{Status}
use Rattle.lvm_num.specs.Disks.{Disks}
use Rattle.lvm_num.specs.Descriptor.{IsValid, copies_of}
use Rattle.lvm_num.specs.Geometry.{partition_blocks}
use Rattle.lvm_num.specs.Record.{Stamped}
use Rattle.lvm_num.specs.Votes.{all_disks}
use Rattle.lvm_kept.specs.Contents.{Contents}
use Rattle.lvm_kept.specs.Group.{is_stale_by, fresh_on, block_at, IsBlockOf, IsOneOf, HoldOne}
use Rattle.lvm_kept.specs.Kept.{Kept}
use Rattle.lvm_kept.specs.Committed.{IsWithinDisks}
use Rattle.lvm_commit.specs.Committed.{ShowsCommitted}
use Rattle.lvm_commit.proofs.LawsLemmas.Found.{shows_group}
use Rattle.lvm_commit.proofs.passed.Steps.{member_of_parts}
use Rattle.lvm_invariant.specs.State.{Marks, ModelState, Live, stale_in, told}
use Rattle.lvm_num.specs.Modes.{is_active, is_passive}
use Rattle.lvm_num.proofs.Booleans.{clash_gives}
use Rattle.lvm_invariant.specs.Sound.{MayDiffer, Agree}
use Rattle.lvm_invariant.specs.Found.{Votes}
use Rattle.lvm_invariant.specs.Good.{Good}
use Rattle.lvm_invariant.proofs.CrashLemmas.{core_kept}
use Rattle.lvm_invariant.proofs.FirstLemmas.{nothing}
use Rattle.lvm_crash.specs.Session.{AreVotesOf, Describes}
use Rattle.lvm_even.specs.Members.{members_showing}
use Rattle.lvm_crash.proofs.GroupLemmas.Blocks.{block_of}
use Rattle.lvm_even.proofs.Lists.{left_of, right_of, both_of, not_so, of_passing}
use Rattle.lvm_crash.proofs.LawsLemmas.Remaining.{remains_kept}
use Rattle.lvm_rest.specs.Rest.{IsModelAtRest, SeesThat}
use Rattle.lvm_rest.specs.Good.{GoodIsRest}
use Rattle.lvm_even.proofs.Rows.{none_passing, mib_positive}

module _ (votes : Votes) (s : ModelState) (group : Descriptor) (status : Status) (there : Disks) (c : Contents) (are : AreVotesOf group votes) (valid : IsValid group) (within : IsWithinDisks c)
    (shows : ShowsCommitted c group status there) (idle : IsModelAtRest s) (sees : SeesThat s group shows.stands there c) (good : Good votes s) (describes : Describes s s.facts group None c) where
  abbrev stands : Stamped Status
  stands = shows.stands

  abbrev usable : Pp → Bool
  usable p = there p.disk && not (is_stale_by (Some stands) p)

  kept : Kept c s.facts
  kept = remains_kept votes s s.facts group None c c are good.found (λ v marks lv b crash possible. core_kept s good.sound v marks lv b crash possible) describes
      (record {
        kept = record { rest = refl; raw = λ d b none low. refl };
        blocks = λ lv b p copy. inl refl;
        notes = λ d. inl refl;
        statuses = λ d. inl refl;
      })
      within

  committed_stale : (p : Pp) → s.committed.value.stale p ≡ is_stale_by (Some stands) p
  committed_stale p = ap (λ (m : Stamped Marks). m.value.stale p) sees.committed

  -- a member that isn't missing is one among all disks
  is_member : (d : ℕ) → IsTrue (there d) → IsTrue (members_showing c group d)
  is_member d is = member_of_parts c all_disks group.id group d refl (shows_group c group status there shows d is) (shows.room d is)

  isnt_missing : (d : ℕ) → IsTrue (there d) → IsFalse (s.missing d)
  isnt_missing d is = sees.missing d ∙ ap not is

  -- a usable copy is live, and its disk isn't missing
  copy_of : (row : LvRow) (lp b : ℕ) (p : Pp) → IsOneOf group.lvs row → IsBlockOf group.mib row lp b → IsOneOf (copies_of row lp) p → IsTrue (usable p) → IsTrue (s.is_copy row.number b p)
  copy_of row lp b p one inside copy use_ = (sees.copies.copies row lp b p one inside).1 (copy, is_member p.disk (left_of (there p.disk) (not (is_stale_by (Some stands) p)) use_))

  live_of : (row : LvRow) (lp b : ℕ) (p : Pp) → IsOneOf group.lvs row → IsBlockOf group.mib row lp b → IsOneOf (copies_of row lp) p → IsTrue (usable p) → Live s row.number b p
  live_of row lp b p one inside copy use_ = record {
    copy = copy_of row lp b p one inside copy use_;
    counts = inl (and_left (s.committed.value.stale p) (stale_in s.in_flight p)
        (committed_stale p ∙ not_so (is_stale_by (Some stands) p) (right_of (there p.disk) (not (is_stale_by (Some stands) p)) use_)));
  }

  even : (row : LvRow) (lp b : ℕ) → IsOneOf group.lvs row → (row.mode ≡ Off → ⊥) → IsBlockOf group.mib row lp b → HoldOne c group.mib (fresh_on there (Some stands) row lp) b
  even row lp b one on inside = elim (good.sound.blocks.each row.number b) [
    | inl settled ↦ by row.mode refl (s.is_active row.number) (sees.copies.notes row one) settled.equal
    | inr busy ↦ absurd (nothing busy.1 (sym (idle.queue busy.0) ∙ busy.2.there))
  ]
    where
      -- none is usable
      never : ((p : Pp) → IsOneOf (copies_of row lp) p → IsTrue (usable p) → ⊥) → HoldOne c group.mib (fresh_on there (Some stands) row lp) b
      never none = ([], of_passing (λ p. block_at c group.mib p b ≡ []) usable (copies_of row lp) (λ p copy use_. absurd (none p copy use_)))

      not_loose : (p : Pp) → IsOneOf (copies_of row lp) p → IsTrue (usable p) → IsTrue (s.is_active row.number) ⊎ IsTrue (s.is_passive row.number) → IsTrue (told s row.number b).loose → ⊥
      not_loose p copy use_ consistent loose = clash_gives (told s row.number b).loose loose (good.sound.tied.tight row.number b p (copy_of row lp b p one inside copy use_) consistent)

      by : (mode : Mode) → row.mode ≡ mode → (active : Bool) → active ≡ is_active mode → Agree s row.number b ⊎ MayDiffer s row.number b active → HoldOne c group.mib (fresh_on there (Some stands) row lp) b
      by mode is active notes (inl agree) = (
        agree.0,
        of_passing (λ p. block_at c group.mib p b ≡ agree.0) usable (copies_of row lp)
            (λ p copy use_. let live = live_of row lp b p one inside copy use_ in sym (sees.blocks row.number b p live.copy) ∙ agree.1 p live),
      )
      by mode is true notes (inr differ) = never (λ p copy use_.
          clash_gives (s.missing p.disk) (differ p (live_of row lp b p one inside copy use_)).0 (isnt_missing p.disk (left_of (there p.disk) (not (is_stale_by (Some stands) p)) use_)))
      by Active is false notes (inr differ) = absurd cc
      by Passive is false notes (inr (inl loose)) = never (λ p copy use_. not_loose p copy use_ (inr (sees.copies.mark row one ∙ ap is_passive is)) loose)
      by Passive is false notes (inr (inr dirty)) = never (λ p copy use_.
          clash_gives (s.missing p.disk) (dirty.missing p (live_of row lp b p one inside copy use_)) (isnt_missing p.disk (left_of (there p.disk) (not (is_stale_by (Some stands) p)) use_)))
      by Off is false notes (inr differ) = absurd (on is)

  behind : (row : LvRow) (lp : ℕ) (p : Pp) → IsOneOf group.lvs row → lp < row.lps → IsOneOf (copies_of row lp) p → IsTrue (members_showing c group p.disk) → IsFalse (there p.disk) → IsFalse (is_stale_by (Some stands) p)
      → fresh_on there (Some stands) row lp ≡ []
  behind row lp p one low copy member gone fresh = elim (none_passing usable (copies_of row lp)) [
    | inl none ↦ none
    | inr some ↦ absurd (
        let b : ℕ = lp * partition_blocks group.mib in
        let inside : IsBlockOf group.mib row lp b = record { inside = low; partition = block_of group.mib lp (mib_positive group valid) } in
        let in_set = left_of (there some.0.disk) (not (is_stale_by (Some stands) some.0)) some.2 in
        let fresh_too = committed_stale some.0 ∙ not_so (is_stale_by (Some stands) some.0) (right_of (there some.0.disk) (not (is_stale_by (Some stands) some.0)) some.2) in
        let stale = good.sound.behind.left_behind row.number b p some.0 ((sees.copies.copies row lp b p one inside).1 (copy, member)) (committed_stale p ∙ fresh) (sees.missing p.disk ∙ not_from_false (there p.disk) gone)
        (copy_of row lp b some.0 one inside some.1 some.2)
        (both_of (not (s.committed.value.stale some.0)) (not (s.missing some.0.disk)) (not_from_false (s.committed.value.stale some.0) fresh_too) (not_from_false (s.missing some.0.disk) (isnt_missing some.0.disk in_set)))
        (ap (λ (m : Marks). m.stale some.0) idle.wanted ∙ fresh_too) in
        clash_gives (s.wanted.stale p) stale (ap (λ (m : Marks). m.stale p) idle.wanted ∙ committed_stale p ∙ fresh)
        )
  ]

pub good_is_rest : GoodIsRest
good_is_rest votes s group status there c are valid within shows idle sees good describes = record {
  legal = good.told.legal;
  kept = kept votes s group status there c are valid within shows idle sees good describes;
  alone = describes.stands.alone;
  even = even votes s group status there c are valid within shows idle sees good describes;
  behind = behind votes s group status there c are valid within shows idle sees good describes;
}
