-- What the write of one record does, however it ended.
use Rattle.std.proofs.Common.{◌≡◌, ◌⊎◌, inl, inr, ⊎_elim, ℕ, ◌+◌, ◌≤◌, Bool, true, false, ◌&&◌, ◌||◌, not, List, [], ◌∷◌, IsTrue, IsFalse, refl, sym, ◌∙◌, ap, subst}
use Rattle.std.specs.Prelude.{◌==◌}
use Rattle.std.specs.List.{list_any}
use Rattle.std.proofs.lemmas.Bool.{false≢true, eqb-true}
use Rattle.lvm_num.specs.declared.descriptor.PvRow.{PvRow}
use Rattle.lvm_num.specs.declared.descriptor.Descriptor.{Descriptor}
use Rattle.lvm_num.specs.Buffer.{Buffer}
use Rattle.lvm_num.specs.Disks.{Disks}
use Rattle.lvm_num.specs.Descriptor.{is_member}
use Rattle.lvm_num.specs.Status.{calls_missing}
use Rattle.lvm_num.specs.Votes.{votes_in, is_enough_to_write, CanWrite}
use Rattle.lvm_disk.specs.Device.{Device}
use Rattle.lvm_kept.specs.Torn.{RecordWrite, IsOfRecord}
use Rattle.lvm_status.specs.Update.{Stored, members_there}
use Rattle.lvm_steps.proofs.RecordLemmas.{either, clash, first as left_of}
use Rattle.lvm_rec.specs.declared.homes.Homes.{Homes}
use Rattle.lvm_write.specs.Written.{KeepsShelf}
use Rattle.lvm_commit.specs.declared.commit.CommitEnd.{CommitEnd}
use Rattle.lvm_commit.specs.declared.commit.CommitEnd.TheVariants as commit_end
use Rattle.lvm_commit.specs.Settling.{there, many_there, OnlyLoses, HasLostQuorum}
use Rattle.lvm_commit.specs.Rounds.{HasFew, WasTried, HowRecord, RecordGives}
use Rattle.lvm_commit.proofs.Counting.{counts_less, counts_fewer}
use Rattle.lvm_commit.proofs.SettlingLemmas.Chaining.{Goes, path_counts, loses_same, record_loses, was_there}

-- ---- the stamp

-- it is taken, whatever the end
pub stamp_taken : (w : RecordWrite) (number before : ℕ) (first last : Stored) (slots next : Homes) (old new : Device) (r : CommitEnd) → HowRecord w number before first last slots next old new r → last.stamp ≡ first.stamp
stamp_taken w number before first last slots next old new (commit_end.Done buf) how = how.0.stamp
stamp_taken w number before first last slots next old new (commit_end.WentOff have total buf) how = how.0.stamp
stamp_taken w number before first last slots next old new commit_end.Dark how = how.1.stamp
stamp_taken w number before first last slots next old new commit_end.Stuck how = how.1.stamp

-- ---- how many are there

some_row : (p : PvRow → Bool) (rows : List PvRow) → list_any p rows ≡ true → (row : PvRow) × (p row ≡ true)
some_row p [] any = absurd (false≢true any)
some_row p (row ∷ rows) any = by_head (some_row p rows) (p row) refl any
  where
    by_head : (list_any p rows ≡ true → (row : PvRow) × (p row ≡ true)) → (b : Bool) → p row ≡ b → b || list_any p rows ≡ true → (row : PvRow) × (p row ≡ true)
    by_head rest true is any = (row, is)
    by_head rest false is any = rest any

any_more : (p q : PvRow → Bool) (rows : List PvRow) → ((row : PvRow) → p row ≡ true → q row ≡ true) → list_any p rows ≡ true → list_any q rows ≡ true
any_more p q [] more any = any
any_more p q (row ∷ rows) more any = by_head (any_more p q rows more) (p row) (q row) (more row) any
  where
    by_head : (list_any p rows ≡ true → list_any q rows ≡ true) → (a b : Bool) → (a ≡ true → b ≡ true) → a || list_any p rows ≡ true → b || list_any q rows ≡ true
    by_head rest a true its any = refl
    by_head rest true false its any = absurd (false≢true (its refl))
    by_head rest false false its any = rest any

module _ (first last : Stored) (group : last.group ≡ first.group) (stays : (d : ℕ) → IsTrue (calls_missing first.wanted d) → IsTrue (calls_missing last.wanted d)) where
  is_there_row : Stored → PvRow → Bool
  is_there_row u row = not (calls_missing u.wanted row.disk)

  still_there : (d : ℕ) → not (calls_missing last.wanted d) ≡ true → not (calls_missing first.wanted d) ≡ true
  still_there d is = more (calls_missing first.wanted d) (calls_missing last.wanted d) (stays d) is
    where
      more : (was now : Bool) → (was ≡ true → now ≡ true) → not now ≡ true → not was ≡ true
      more true now its is = ap not (sym (its refl)) ∙ is
      more false now its is = refl

  -- no more are there,
  pub no_more_there : many_there last ≤ many_there first
  no_more_there = subst (λ (g : Descriptor). Rattle.std.specs.Prelude.count_by (λ (row : PvRow). not (calls_missing last.wanted row.disk)) g.pvs ≤ many_there first) (sym group)
      (counts_less (λ (row : PvRow). not (calls_missing last.wanted row.disk)) (λ (row : PvRow). not (calls_missing first.wanted row.disk)) first.group.pvs (λ row is. still_there row.disk is))

  -- and fewer where one became missing
  pub fewer_there : (d : ℕ) → IsTrue (there first d) → IsTrue (calls_missing last.wanted d) → many_there last + 1 ≤ many_there first
  fewer_there d was gone = subst (λ (g : Descriptor). Rattle.std.specs.Prelude.count_by (λ (row : PvRow). not (calls_missing last.wanted row.disk)) g.pvs + 1 ≤ many_there first) (sym group)
      (counts_fewer (λ (row : PvRow). not (calls_missing last.wanted row.disk)) (λ (row : PvRow). not (calls_missing first.wanted row.disk)) first.group.pvs (λ (row : PvRow). row.disk == d) (λ row is. still_there row.disk is)
      (λ row same. let at : row.disk ≡ d = eqb-true row.disk d same in
      (ap (λ n. not (calls_missing first.wanted n)) at ∙ right_of (is_member first.group d) (not (calls_missing first.wanted d)) was, ap (λ n. not (calls_missing last.wanted n)) at ∙ ap not gone))
      (left_of (is_member first.group d) (not (calls_missing first.wanted d)) was))
    where
      right_of : (a b : Bool) → a && b ≡ true → b ≡ true
      right_of true b is = is
      right_of false b is = absurd (false≢true is)

-- ---- one record

module _ (w : RecordWrite) (number : ℕ) (first last : Stored) (slots next : Homes) (old new : Device) (targets : w.targets ≡ there first) where
  module _ (buf : Buffer) (tried : WasTried w number first last slots next old new buf) where
    -- it failed on none, or on one
    pub none_or_some : ((d : ℕ) → IsFalse (tried.failed d)) ⊎ ((d : ℕ) × IsTrue (tried.failed d))
    none_or_some = ⊎_elim
        (λ (any : list_any (λ (row : PvRow). tried.failed row.disk) first.group.pvs ≡ true). let one = some_row (λ (row : PvRow). tried.failed row.disk) first.group.pvs any in inr (one.0.disk, one.1))
        (λ (none : list_any (λ (row : PvRow). tried.failed row.disk) first.group.pvs ≡ false). inl (λ d. ⊎_elim
        (λ (fails : tried.failed d ≡ true). absurd (clash (list_any (λ (row : PvRow). tried.failed row.disk) first.group.pvs)
        (any_more (λ (row : PvRow). row.disk == d) (λ (row : PvRow). tried.failed row.disk) first.group.pvs (λ row same. ap tried.failed (eqb-true row.disk d same) ∙ fails)
        (left_of (is_member first.group d) (not (calls_missing first.wanted d)) (was_there w number first last slots next old new buf targets tried d fails))) none))
        (λ well. well)
        (either (tried.failed d))))
        (either (list_any (λ (row : PvRow). tried.failed row.disk) first.group.pvs))

    -- a disk on which it failed is missing
    pub failed_is_missing : (d : ℕ) → IsTrue (tried.failed d) → IsTrue (calls_missing last.wanted d)
    failed_is_missing d fails = tried.wanted.missing d ∙ ap (λ b. calls_missing first.wanted d || b) fails ∙ always (calls_missing first.wanted d)
      where
        always : (b : Bool) → b || true ≡ true
        always true = refl
        always false = refl

    -- which was there
    pub was_there_on : (d : ℕ) → IsTrue (tried.failed d) → IsTrue (there first d)
    was_there_on d fails = was_there w number first last slots next old new buf targets tried d fails

    -- too few to write are left only where it failed on one
    pub some_failed : CanWrite first.group (there first) → (have total : ℕ) → HasFew last have total → (d : ℕ) × IsTrue (tried.failed d)
    some_failed enough have total few = ⊎_elim
        (λ (none : (d : ℕ) → IsFalse (tried.failed d)).
        let same = tried.wanted.same none in
        let there_same : there last ≡ there first = (λ t. members_there (tried.group t) (same t)) in
        absurd (clash (is_enough_to_write first.group (votes_in first.group (there first))) enough
        (sym (λ t. is_enough_to_write (tried.group t) (votes_in (tried.group t) (there_same t))) ∙ ap (is_enough_to_write last.group) (sym few.have_is) ∙ few.few)))
        (λ some. some)
        none_or_some

    pub quorum_lost : CanWrite first.group (there first) → (have total : ℕ) → HasFew last have total → HasLostQuorum first last old new have total
    quorum_lost enough have total few = let some = some_failed enough have total few in record {
      have_is = few.have_is;
      total_is = few.total_is;
      few = few.few;
      disk = some.0;
      was = was_there w number first last slots next old new buf targets tried some.0 some.1;
      failed = (tried.each some.0).badly some.1;
    }

    pub fewer_after : (d : ℕ) → IsTrue (tried.failed d) → many_there last + 1 ≤ many_there first
    fewer_after d fails = fewer_there first last tried.group (record_loses w number first last slots next old new buf targets tried).stays d (was_there w number first last slots next old new buf targets tried d fails) (failed_is_missing d fails)

  pub record_goes : (before after : ℕ) (result : CommitEnd) → RecordGives w number before after first last slots next old new result → Goes (IsOfRecord w) before after first last old new
  record_goes before after result gives = record {
    loses = by_end result gives.how;
    keeps = subst (λ (set : Disks). KeepsShelf set (IsOfRecord w) old new) targets gives.leaves.keeps;
    spends = gives.leaves.spends;
    rises = path_counts gives.leaves.moments;
  }
    where
      by_end : (r : CommitEnd) → HowRecord w number before first last slots next old new r → OnlyLoses first last old new
      by_end (commit_end.Done buf) how = record_loses w number first last slots next old new buf targets how.0
      by_end (commit_end.WentOff have total buf) how = record_loses w number first last slots next old new buf targets how.0
      by_end commit_end.Dark how = loses_same first last old new how.1.group how.1.wanted
      by_end commit_end.Stuck how = loses_same first last old new how.1.group how.1.wanted
