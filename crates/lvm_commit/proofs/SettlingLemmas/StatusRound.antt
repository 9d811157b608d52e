-- One record of a session's status: what it does, and what the disks hold then.
use Rattle.std.proofs.Common.{◌≡◌, ◌⊎◌, inl, inr, ⊎_elim, ℕ, ◌+◌, Ok, IsTrue, IsFalse, refl, sym, ◌∙◌, ap, arith}
use Rattle.lvm_num.specs.declared.record.Kind.TheVariants as kind
use Rattle.lvm_num.specs.declared.record.Stamp.{Stamp}
use Rattle.lvm_num.specs.declared.descriptor.Descriptor.{Descriptor}
use Rattle.lvm_num.specs.Buffer.{Buffer, Sector}
use Rattle.lvm_num.specs.Status.{calls_missing, IsValidStatus}
use Rattle.lvm_num.specs.StatusBytes.{status_bytes, status_of}
use Rattle.lvm_num.specs.Record.{Frames}
use Rattle.lvm_num.proofs.Booleans.{place_below}
use Rattle.lvm_disk.specs.Device.{Device, HasSectors}
use Rattle.lvm_disk.specs.Paths.{DeviceStep, Path}
use Rattle.lvm_disk.proofs.PathsLemmas.{map-path, last-path}
use Rattle.lvm_kept.specs.Torn.{RecordWrite, IsOfRecord}
use Rattle.lvm_status.specs.Update.{Stored}
use Rattle.lvm_steps.specs.Moments.{StaysKept}
use Rattle.lvm_rec.specs.declared.homes.Homes.{Homes}
use Rattle.lvm_rec.specs.Homes.{second_slots}
use Rattle.lvm_write.proofs.passed.Vgsa.{is_read_again}
use Rattle.lvm_commit.specs.declared.commit.CommitEnd.{CommitEnd}
use Rattle.lvm_commit.specs.Committed.{next_stamp}
use Rattle.lvm_commit.specs.LawsOfFinding.{FindsNothingNewOn}
use Rattle.lvm_commit.specs.Settling.{there, MaySettle, IsOf, OnlyLoses, IsOfStatus, IsOneRecord, WantsMarks, SessionIsHeld, ComesBack}
use Rattle.lvm_commit.specs.Rounds.{WasTried, RecordGives, stamped, session_write}
use Rattle.lvm_commit.proofs.SettlingLemmas.Chaining.{Goes, keeps_wider, record_returns, was_there}
use Rattle.lvm_commit.proofs.SettlingLemmas.Round.{record_goes, none_or_some, failed_is_missing, stamp_taken}
use Rattle.lvm_commit.proofs.LawsOfWritesLemmas.Holding.{with_told}
use Rattle.lvm_commit.proofs.LawsOfFindingLemmas.HoldingStatus.{status_moment_kept, status_moment_finds, status_holds}

-- ---- whose sectors are written

module _ (d : Descriptor) (now last : Stored) (slots next : Homes) (mid new : Device) (sectors : HasSectors mid) (may : MaySettle d now mid) (number left after : ℕ) (result : CommitEnd)
    (gives : RecordGives (session_write kind.Status (status_bytes now.wanted) (stamped now) slots) number left after (stamped now) last slots next mid new result)
    (frames : Frames kind.Status (record { stamp = next_stamp now.stamp; content = status_bytes now.wanted })) (valid : IsValidStatus now.wanted) where
  abbrev w : RecordWrite
  w = session_write kind.Status (status_bytes now.wanted) (stamped now) slots

  reads : status_of (status_bytes now.wanted) ≡ Ok now.wanted
  reads = is_read_again now.wanted valid

  pub stamp_then : last.stamp ≡ next_stamp now.stamp
  stamp_then = stamp_taken w number left (stamped now) last slots next mid new result gives.how

  of_status : (e s : ℕ) (value : Sector) → IsOfRecord w e s value → IsOfStatus now last e s value
  of_status e s value is =
      let seq : last.stamp.seq ≡ now.stamp.seq + 1 = ap (λ (x : Stamp). x.seq) stamp_then in (
        w,
        record { kind = refl; status = now.wanted; own = may.id; content = refl },
        record { frames = frames; slots = λ disk. place_below (second_slots kind.Status slots disk); targets = λ disk is. is; epoch = refl; later = omega arith; latest = omega (arith, seq); its = is },
      )

  before : Goes (IsOfRecord w) left after (stamped now) last mid new
  before = record_goes w number (stamped now) last slots next mid new refl left after result gives

  loses : OnlyLoses now last mid new
  loses = let l = before.loses in record { group = l.group; rows = l.rows; stale = l.stale; dirty = l.dirty; stays = l.stays; lost = l.lost }

  pub round_goes : Goes (IsOfStatus now last) left after now last mid new
  round_goes = record { loses = loses; keeps = keeps_wider (there now) (there now) (IsOfRecord w) (IsOfStatus now last) mid new (λ e off. off) of_status before.keeps; spends = before.spends; rises = before.rises }

  -- ---- each moment

  abbrev pub RoundStaysKept : Device → Type 0
  RoundStaysKept e = WantsMarks mid d now → SessionIsHeld mid d now slots → StaysKept mid e

  pub round_kept : Path DeviceStep RoundStaysKept mid new
  round_kept = map-path RoundStaysKept
      (λ e (writing, told) marks held.
      status_moment_kept now slots mid sectors (status_bytes now.wanted) now.wanted frames reads e writing told may.votes d may.own (may.id ∙ ap (λ (g : Descriptor). g.id) (sym may.own)) marks held)
      (with_told gives.leaves.moments)

  pub round_finds : (group : Descriptor) → SessionIsHeld mid group now slots → FindsNothingNewOn mid new
  round_finds group held = status_moment_finds now slots mid sectors (status_bytes now.wanted) now.wanted frames reads new (last-path gives.leaves.moments) group held

  -- ---- once it was tried on each disk

  module _ (buf : Buffer) (tried : WasTried w number (stamped now) last slots next mid new buf) where
    pub round_returns : ComesBack number last mid new buf
    round_returns = record_returns w number (stamped now) last slots next mid new buf refl tried

    pub round_holds : last.committed ≡ now.wanted → (group : Descriptor) → IsOf group now → SessionIsHeld mid group now slots → SessionIsHeld new group last next
    round_holds same group own held =
        status_holds now slots mid sectors (status_bytes now.wanted) now.wanted frames reads last next new number before.keeps buf tried same group (may.id ∙ ap (λ (g : Descriptor). g.id) (sym own)) held

    -- it failed on none, and what was wanted still is, or on one, which is missing
    pub round_loses : (last.wanted ≡ now.wanted) ⊎ ((disk : ℕ) × IsTrue (there now disk) × IsTrue (calls_missing last.wanted disk))
    round_loses = ⊎_elim
        (λ (none : (disk : ℕ) → IsFalse (tried.failed disk)). inl (tried.wanted.same none))
        (λ (some : (disk : ℕ) × IsTrue (tried.failed disk)).
        inr (some.0, was_there w number (stamped now) last slots next mid new buf refl tried some.0 some.1, failed_is_missing w number (stamped now) last slots next mid new refl buf tried some.0 some.1))
        (none_or_some w number (stamped now) last slots next mid new refl buf tried)

    pub round_plain : last.wanted ≡ now.wanted → IsOneRecord kind.Status (status_bytes now.wanted) now last slots mid new
    round_plain same = record { wanted = same; stamp = stamp_then; writes = before.keeps }
