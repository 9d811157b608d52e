-- Zeros in a partition that no volume has: where they go, and what they keep.
use Rattle.std.proofs.Common.{◌≡◌, inl, inr, ⊎_elim, ℕ, suc, ◌<◌, ◌≤◌, ◌*◌, ◌++◌, Bool, true, false, ◌&&◌, not, List, [], Some, length, refl, sym, ◌∙◌, ap, subst, arith}
use Rattle.std.specs.Prelude.{◌==◌, IsTrue, Result, nat_lt, slice_get, if◌then◌else◌}
use Rattle.std.proofs.lemmas.Bool.{eqb-true, false≢true}
use Rattle.std.proofs.Math.Nat.{mul-le-mul_left}
use Rattle.lvm_num.specs.declared.place.Pp.{Pp}
use Rattle.lvm_num.specs.declared.descriptor.PvRow.{PvRow}
use Rattle.lvm_num.specs.declared.descriptor.Descriptor.{Descriptor}
use Rattle.lvm_num.specs.declared.status.Status.{Status}
use Rattle.lvm_num.specs.Buffer.{Sector}
use Rattle.lvm_num.specs.Descriptor.{IsPartitionOf, IsMember, IsValid, is_member}
use Rattle.lvm_num.specs.Geometry.{data_start, partition_blocks}
use Rattle.lvm_num.specs.Status.{calls_missing}
use Rattle.lvm_num.proofs.MarksLemmas.Maps.{find-Some}
use Rattle.lvm_disk.specs.Device.{Media, Image, Device, image_of, MayLeave}
use Rattle.lvm_vol.specs.Facts.{Fact}
use Rattle.lvm_kept.specs.Contents.{contents_of}
use Rattle.lvm_kept.specs.Moments.{Moment, StaysCalm}
use Rattle.lvm_kept.specs.Plans.{ChangesBy}
use Rattle.lvm_kept.proofs.PlacesLemmas.{data_writes}
use Rattle.lvm_kept.proofs.CommittedLemmas.Finding.{images_within}
use Rattle.lvm_commit.specs.passed.Steps.{ImagesKept, Keeps, SpanGoesOn, at}
use Rattle.lvm_commit.specs.passed.Transfer.{Moved}
use Rattle.lvm_commit.proofs.passed.Steps.{media_may, keeps_path}
use Rattle.lvm_status.specs.Update.{Stored}
use Rattle.lvm_commit.specs.passed.TransferMovesMoved as moved
use Rattle.lvm_write.specs.Parts.{DoesPart}
use Rattle.lvm_write.specs.Written.{IsWriting}
use Rattle.lvm_write.proofs.WrittenLemmas.Writing.{told_at}
use Rattle.lvm_commit.specs.Committed.{HoldsCommitted}
use Rattle.lvm_commit.specs.LawsOfData.{IsFree, PartitionChange}
use Rattle.lvm_commit.specs.Settling.{SpendsNumbers}
use Rattle.lvm_commit.proofs.SettlingLemmas.Chaining.{keeps_wider}
use Rattle.lvm_commit.proofs.LawsOfDataLemmas.Data.{free_data_keeps}
use Rattle.lvm_core.specs.declared.fault.CommitFault.{CommitFault}
use Rattle.lvm_session.specs.State.{Core, State, state, is_there}
use Rattle.lvm_session.specs.Dark.{all_dark}
use Rattle.lvm_session.specs.Placed.{ArePlaced}
use Rattle.lvm_session.specs.Sound.{is_dark}
use Rattle.lvm_core.specs.Sound.{HasNoneOpen, IsSoundAtRest}
use Rattle.lvm_core.specs.Held.{IsHeld}
use Rattle.lvm_core.specs.Settled.{IsSettled}
use Rattle.lvm_core.specs.Committing.{with_one_out, moment_of}
use Rattle.lvm_core.specs.Zeros.{IsZeroOf, HasSectorsOf, GoesOnAfter, WritesZeros}
use Rattle.lvm_core.proofs.SoundLemmas.Dark.{cut_core, dark_is}
use Rattle.lvm_core.proofs.SoundLemmas.Own.{SameSizes, same_sizes, fits_pool, one_out_long, sound_ready, sound_dark, sound_stuck}
use Rattle.lvm_core.proofs.CommittingLemmas.Spanning.{path_falls, told_media, keeps_cut, calm_cut}
use Rattle.lvm_core.specs.Leaves.{IsOfCommand, NoDescriptor, NoPartition, NoVolume, KeepsHistory, IsHeldSince, Leaves, zeroing}
use Rattle.lvm_core.proofs.LeavesLemmas.{keeps_same, keeps_cut as history_keeps_cut, finds_nothing, same_status}
use Rattle.lvm_core.proofs.ZerosLemmas.ZeroEnding.{zeros_below, zero_core, zero_keeps_records, zero_behind}

-- ---- where they go

-- the partition of a member that isn't missing is on the shelf
pub has_sectors : (sizes : List ℕ) (d : Descriptor) (s : Status) (pp : Pp) → ArePlaced sizes d s → calls_missing s pp.disk ≡ false → IsPartitionOf d pp → HasSectorsOf sizes d.mib pp
has_sectors sizes d s pp placed there (row, member, below) =
    let found = find-Some (λ (r : PvRow). r.disk == pp.disk) d.pvs row member in
    let disk : row.disk ≡ pp.disk = eqb-true row.disk pp.disk found.0 in
    let its = placed row (found.1.0, found.1.1, found.1.2 row) (ap (calls_missing s) disk ∙ there) in
    record {
      there = subst (λ n. n < length sizes) disk its.there;
      within = λ size is.
          let fits = its.within size (ap (slice_get sizes) disk ∙ is) in
          let more : partition_blocks d.mib * suc pp.pp ≤ partition_blocks d.mib * row.pps = mul-le-mul_left (partition_blocks d.mib) below in
          omega (arith, fits, more);
    }

-- a disk that is there isn't missing
pub is_not_missing : (core : Core) (disk : ℕ) → IsTrue (is_there core disk) → calls_missing core.status.wanted disk ≡ false
is_not_missing core disk there = by_tests (is_member core.descriptor disk) (calls_missing core.status.wanted disk) there
  where
    by_tests : (a b : Bool) → IsTrue (a && not b) → b ≡ false
    by_tests true true is = absurd (let e : ◌≡◌ {A = Bool} false true = is in cc)
    by_tests true false is = refl
    by_tests false b is = absurd (let e : ◌≡◌ {A = Bool} false true = is in cc)

-- a member has at most so many partitions
pub is_low : (d : Descriptor) (pp : Pp) → IsValid d → IsPartitionOf d pp → pp.pp < 1016
is_low d pp valid (row, member, below) =
    let found = find-Some (λ (r : PvRow). r.disk == pp.disk) d.pvs row member in
    let its : IsMember row = subst IsMember (found.1.2 row) (valid.members.each found.1.0 row found.1.1) in
    let most = its.partitions in
    omega (arith, below, most)

-- ---- the moments

zeros_change : (mib : ℕ) (pp : Pp) (a b : Image) → ChangesBy (IsZeroOf mib pp) a b → PartitionChange mib pp (contents_of a) (contents_of b)
zeros_change mib pp a b by = record {
  each = λ d s. ⊎_elim
      (λ (same : b.sector d s ≡ a.sector d s). inl (ap (λ (x : Sector). if nat_lt s data_start then [] else x) same))
      (λ (zero : IsZeroOf mib pp d s (b.sector d s)). inr zero.0)
      (by.each d s);
  rest = data_writes a b (zeros_below mib pp a b by);
}

module _ (pp : Pp) (before after : ℕ) (old new : State) (answer : Result (Unit {0}) CommitFault) (w : WritesZeros pp before after old new answer) (settled : IsSettled old.core) where
  none : HasNoneOpen old.core
  none = record { requests = settled.quiet.requests; copy = settled.quiet.copy }

  out_none : HasNoneOpen (record old.core { pool = with_one_out old.core.pool })
  out_none = record { requests = settled.quiet.requests; copy = settled.quiet.copy }

  -- what holds of the session, by what it is once its transfers have ended
  by_core : (P : Core → Type 0) → (P old.core → P (record old.core { pool = with_one_out old.core.pool })) → (P old.core → P (cut_core (record old.core { pool = with_one_out old.core.pool }))) → P old.core → P new.core
  by_core P stuck dark = zero_core pp before after old new P stuck (λ is. subst P (sym (dark_is _ out_none)) (dark is)) answer w

  still_kept : IsTrue (is_there old.core pp.disk) → IsFree old.core.descriptor pp → IsHeld old.device old.core → (m : Media) → old.device.media ≡ Some m → (facts : List Fact) → ImagesKept old.device facts
      → (d : Device) → IsWriting (IsZeroOf old.core.descriptor.mib pp) old.device d → ImagesKept d facts
  still_kept there free held m is facts kept d writing image may =
      let start = image_of old.device.sizes m in
      let holds = told_at old.device.media (λ media. HoldsCommitted (image_of old.device.sizes media) old.core.descriptor old.core.status.committed (is_there old.core) old.core.status.stamp old.core.homes) m is held in
      let by = told_at old.device.media (λ media. (i : Image) → MayLeave d i → ChangesBy (IsZeroOf old.core.descriptor.mib pp) (image_of old.device.sizes media) i) m is writing image may in
      free_data_keeps old.core.descriptor old.core.status.committed (is_there old.core) pp (contents_of start) (contents_of image) facts (images_within start) settled.votes holds.shows there free
      (zeros_change old.core.descriptor.mib pp start image by) (kept start (media_may old.device m is))

  zero_keeps : IsTrue (is_there old.core pp.disk) → IsFree old.core.descriptor pp → (run : ℕ) (first : Moment) → IsHeldSince run first old → SpanGoesOn run first (moment_of old) (moment_of new)
  zero_keeps there free run first held span =
      let facts = old.core.history.facts in
      let goes = keeps_path (IsWriting (IsZeroOf old.core.descriptor.mib pp) old.device) run first old.device new.device facts span
      (λ past begins holds d writing.
      let told = told_media run past first old.device facts span begins in
      still_kept there free (held past begins) told.0 told.1 (past ++ facts) holds.kept d writing) w.part.moments in
      by_core (λ (c : Core). Keeps run first (at new.device c.history.facts)) (λ is. is) (λ is. keeps_cut new.device old.core.history run first is) goes

  zero_calm : StaysCalm (moment_of old) (moment_of new)
  zero_calm = by_core (λ (c : Core). StaysCalm (moment_of old) (at new.device c.history.facts)) (λ is. is) (λ is. calm_cut new.device old.core.history (moment_of old) is) (λ past calm. calm)

  -- ---- all of it

  on_its_disk : IsTrue (is_there old.core pp.disk) → (d : ℕ) → is_there old.core d ≡ false → (d == pp.disk) ≡ false
  on_its_disk there d off = by_test (d == pp.disk) refl
    where
      by_test : (t : Bool) → (d == pp.disk) ≡ t → t ≡ false
      by_test true is = absurd (false≢true (sym off ∙ ap (is_there old.core) (eqb-true d pp.disk is) ∙ there))
      by_test false is = refl

  pub zero_leaves : IsTrue (is_there old.core pp.disk) → IsFree old.core.descriptor pp → Leaves (zeroing pp) before after old new
  zero_leaves there free =
      let same = (zero_keeps_records pp before after old new answer w).status in
      record {
        writes = keeps_wider (λ d. d == pp.disk) (is_there old.core) (IsZeroOf old.core.descriptor.mib pp) (IsOfCommand NoDescriptor (λ p. p ≡ pp) old new) old.device new.device (on_its_disk there) (λ d s value is. inr (inr (pp, refl, is))) w.part.keeps;
        status = same_status NoDescriptor NoPartition NoPartition NoVolume old new same;
        numbers = subst (λ (u : Stored). SpendsNumbers 0 old.core.status u) (sym same) (record { epoch = refl; rises = omega arith; most = omega arith });
        history = by_core (λ (c : Core). KeepsHistory old.core.history c.history) (λ is. is) (λ is. history_keeps_cut old.core.history) (keeps_same old.core.history old.core.history refl);
        spans = λ run first held always. zero_keeps there free run first held;
        finds = finds_nothing NoDescriptor old new _ w.part.keeps.media (zero_keeps_records pp before after old new answer w).finds;
        calm = zero_calm;
        behind = zero_behind pp before after old new answer w;
        falls = path_falls old.device new.device w.part.moments;
        spends = w.part.spends;
      }

  -- ---- afterwards

  pub zero_sizes : SameSizes old.core new.core
  zero_sizes = by_core (SameSizes old.core) (λ is. record { most = refl; buffers = one_out_long old.core.pool }) (λ is. record { most = refl; buffers = one_out_long old.core.pool }) (same_sizes old.core)

  pub zero_sound : IsSoundAtRest old → IsSoundAtRest new
  zero_sound sound = by_how w.how w.part w.goes
    where
      placed : ArePlaced new.device.sizes old.core.descriptor old.core.status.wanted
      placed = subst (λ (sizes : List ℕ). ArePlaced sizes old.core.descriptor old.core.status.wanted) (sym w.part.keeps.sizes) sound.placed

      out : Core
      out = record old.core { pool = with_one_out old.core.pool }

      as_core : (core : Core) → new.core ≡ core → IsSoundAtRest (state new.device core) → IsSoundAtRest new
      as_core core is it = subst (λ (c : Core). IsSoundAtRest (state new.device c)) (sym is) it

      by_how : (how : Moved) → DoesPart (λ d. d == pp.disk) (IsZeroOf old.core.descriptor.mib pp) pp.disk 0 before after old.device new.device how → GoesOnAfter pp.disk old.core new.core how answer → IsSoundAtRest new
      by_how (moved.Done back) part goes = as_core old.core goes.1 (sound_ready new.device old.core sound.fitting none sound.landed placed settled.quiet.buffers (ap is_dark settled.power) sound.heard part.rests)
      by_how (moved.Failed back) part goes = as_core old.core goes.1 (sound_ready new.device old.core sound.fitting none sound.landed placed settled.quiet.buffers (ap is_dark settled.power) sound.heard part.rests)
      by_how (moved.Dark started) part goes = as_core (all_dark out) goes.1
          (sound_dark old.device new.device out old.core.pool (fits_pool old.core (with_one_out old.core.pool) (one_out_long old.core.pool) sound.fitting) out_none sound.landed placed refl settled.quiet.buffers sound.fitting.a_buffer part.leaves)
      by_how moved.Stuck part goes = as_core out goes.1
          (sound_stuck before old.device new.device out old.core.pool (fits_pool old.core (with_one_out old.core.pool) (one_out_long old.core.pool) sound.fitting) out_none sound.landed placed refl settled.quiet.buffers sound.fitting.a_buffer (ap is_dark settled.power) sound.heard part.leaves)
