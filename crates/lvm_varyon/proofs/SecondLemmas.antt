-- The second status of a varyon: where it is written, and that it may be.
use Rattle.std.proofs.Common.{◌≡◌, inl, inr, ℕ, ◌+◌, ◌<◌, ◌≤◌, ◌^◌, true, false, List, [], ◌∷◌, length, Option, Some, None, refl, sym, ap, subst, arith}
use Rattle.std.specs.Prelude.{◌≢◌, IsTrue, IfSome, option_map}
use Rattle.std.proofs.lemmas.Bool.Decides.{nat_tests}
use Rattle.lvm_num.specs.declared.record.Kind.TheVariants as kind
use Rattle.lvm_num.specs.declared.record.Stamp.{Stamp}
use Rattle.lvm_num.specs.declared.record.Framed.{Framed}
use Rattle.lvm_num.specs.declared.descriptor.Descriptor.{Descriptor}
use Rattle.lvm_num.specs.declared.status.Status.{Status}
use Rattle.lvm_num.specs.Buffer.{Sector}
use Rattle.lvm_num.specs.Disks.{Disks}
use Rattle.lvm_num.specs.Record.{Frames, Stamped, longest_content, stamp_lt}
use Rattle.lvm_num.specs.declared.place.Pp.{Pp}
use Rattle.lvm_num.specs.Status.{IsValidStatus, calls_missing, calls_stale}
use Rattle.lvm_num.specs.StatusBytes.{status_of, status_bytes}
use Rattle.lvm_vgsa.proofs.StatusBytesLemmas.RoundTrip.{is_read_again}
use Rattle.lvm_disk.specs.Device.{Image, IsWholeImage, Range, Device}
use Rattle.lvm_kept.specs.Contents.{contents_of, has_records}
use Rattle.lvm_kept.specs.Plans.{Plan}
use Rattle.lvm_kept.specs.Recovered.{IsRecordRange}
use Rattle.lvm_kept.specs.Torn.{IsOfRecord, MayWriteAll}
use Rattle.lvm_steps.specs.Behind.{StampsBefore, beginning_at}
use Rattle.lvm_kept.specs.Torn.{IsOutsideSlots}
use Rattle.lvm_steps.specs.Laws.{IsOtherOrEarlier}
use Rattle.lvm_steps.proofs.LawsLemmas.Records.{later_may_go, shown_is_before}
use Rattle.lvm_rec.specs.declared.homes.Homes.{Homes}
use Rattle.lvm_write.specs.Homes.{SparesNewest}
use Rattle.lvm_write.specs.Beginning.{Beginning, beginning_by}
use Rattle.lvm_write.specs.Written.{IsInPlan, KeepsShelf}
use Rattle.lvm_write.proofs.PartsLemmas.Transfers.{keeps_here}
use Rattle.lvm_write.proofs.ShowsLemmas.{status_may_be_written}
use Rattle.lvm_write.proofs.ShownLemmas.Following.{ranges_are_of_records}
use Rattle.lvm_write.proofs.TornLemmas.{of_status}
use Rattle.lvm_varyon.specs.passed.Write.{TheStatus}
use Rattle.lvm_varyon.specs.passed.Recovery.{second_write}
use Rattle.lvm_varyon.specs.Equal.{IsStated}
use Rattle.lvm_varyon.specs.Second.{first_stated, IsSecond, status_after, last_seq}
use Rattle.lvm_varyon.proofs.RecordLemmas.{status_fits}

-- what a second status may bring
abbrev pub IsOfSecond : Option (List ℕ) → ℕ → Disks → Homes → Plan
IsOfSecond None epoch targets homes d s value = ⊥
IsOfSecond (Some bytes) epoch targets homes d s value = IsOfRecord (second_write epoch bytes targets homes) d s value

-- it fits its slot
abbrev pub SecondFits : Option (List ℕ) → Type 0
SecondFits second = IfSome second (λ bytes. length bytes ≤ longest_content kind.Status)

pub second_fits : (clean : Option Status) → IfSome clean IsValidStatus → SecondFits (option_map status_bytes clean)
second_fits None valid = tt
second_fits (Some clean) valid = status_fits clean valid

-- it calls the same disks missing and the same copies stale as the first one
module _ (group : Descriptor) (there : Disks) (moment : ℕ) (next : Status) where
  pub same_missing : (clean : Option Status) → IsSecond group there (first_stated moment next) clean → (d : ℕ) → calls_missing (status_after next clean) d ≡ calls_missing next d
  same_missing None second d = refl
  same_missing (Some clean) second d = ap (λ (s : Status). calls_missing s d) second.0.rest

  pub same_stale : (clean : Option Status) → IsSecond group there (first_stated moment next) clean → (p : Pp) → calls_stale (status_after next clean) p ≡ calls_stale next p
  same_stale None second p = refl
  same_stale (Some clean) second p = ap (λ (s : Status). calls_stale s p) second.0.rest

pub last_seq_low : (clean : Option Status) → last_seq clean ≤ 3
last_seq_low None = omega arith
last_seq_low (Some clean) = omega arith

pub seq_as_bytes : (clean : Option Status) → last_seq (option_map status_bytes clean) ≡ last_seq clean
seq_as_bytes None = refl
seq_as_bytes (Some clean) = refl

-- its write is that of a beginning with an empty descriptor
abbrev beginning_of : ℕ → List ℕ → Disks → Homes → Beginning
beginning_of epoch bytes targets homes = beginning_by 1 3 epoch [] bytes targets homes

empty_fits : length {A = ℕ} [] ≤ longest_content kind.Descriptor
empty_fits = omega arith

pub second_outside : (second : Option (List ℕ)) (epoch : ℕ) (targets : Disks) (homes : Homes) → SecondFits second → (d s : ℕ) (value : Sector) → IsOfSecond second epoch targets homes d s value → IsOutsideSlots kind.Descriptor d s value
second_outside None epoch targets homes fits d s value is = absurd is
second_outside (Some bytes) epoch targets homes fits d s value is =
    let high = (of_status (beginning_of epoch bytes targets homes) empty_fits fits d s value is).1 in
    inl (omega (arith, high))

pub second_ranges : (second : Option (List ℕ)) (epoch : ℕ) (targets : Disks) (homes : Homes) → SecondFits second → (r : Range) → IsInPlan (IsOfSecond second epoch targets homes) r → IsTrue (targets r.disk) × IsRecordRange r
second_ranges None epoch targets homes fits r inside = absurd (inside.1 r.first (omega arith) (let some = inside.0 in omega (arith, some))).1
second_ranges (Some bytes) epoch targets homes fits r inside = ranges_are_of_records (beginning_of epoch bytes targets homes) (TheStatus ∷ []) r empty_fits fits
    (inside.0, λ s low high. let it = inside.1 s low high in (it.0, inl it.1))

frames_of : (moment : ℕ) (bytes : List ℕ) → moment ≢ 0 → moment < 2 ^ 64 → length bytes ≤ longest_content kind.Status → Frames kind.Status (record { stamp = record { epoch = moment; seq = 3 }; content = bytes })
frames_of moment bytes some low fits = record { some_epoch = some; epoch = low; some_seq = λ e. absurd (omega (arith, e)); seq = omega arith; content = fits }

before_next_moment : (moment : ℕ) → stamp_lt (record { epoch = moment; seq = 3 }) (beginning_at (moment + 1)) ≡ true
before_next_moment moment = grind (arith, nat_tests)

pub second_earlier : (second : Option (List ℕ)) (moment : ℕ) (targets : Disks) (homes : Homes) → moment ≢ 0 → moment < 2 ^ 64 → SecondFits second
    → (d s : ℕ) (value : Sector) → IsOfSecond second moment targets homes d s value → IsOtherOrEarlier (beginning_at (moment + 1)) d s value
second_earlier None moment targets homes some low fits d s value is = absurd is
second_earlier (Some bytes) moment targets homes some low fits d s value is =
    inr (record { write = second_write moment bytes targets homes; frames = frames_of moment bytes some low fits; earlier = before_next_moment moment; its = is })

-- whether one is written or not
pub stated_keeps : (second : Option (List ℕ)) (epoch : ℕ) (targets : Disks) (first homes : Homes) (old new : Device) → IsStated second epoch targets first homes old new → KeepsShelf targets (IsOfSecond second epoch targets first) old new
stated_keeps None epoch targets first homes old new stated = subst (λ (d : Device). KeepsShelf targets (IsOfSecond None epoch targets first) old d) (sym stated.0) (keeps_here targets (IsOfSecond None epoch targets first) old)
stated_keeps (Some bytes) epoch targets first homes old new stated = stated.keeps

-- ---- that it may be written

pub same_is_no_later : (stamp : Stamp) → stamp_lt stamp stamp ≡ false
same_is_no_later stamp = grind (arith, nat_tests)

module _ (moment : ℕ) (some : moment ≢ 0) (low : moment < 2 ^ 64) (clean : Status) (valid : IsValidStatus clean) (targets : Disks) (homes : Homes) (image : Image) (whole : IsWholeImage image)
    (before : StampsBefore (record { epoch = moment; seq = 3 }) image) (there : (d : ℕ) → IsTrue (targets d) → has_records image d ≡ true) (spared : (d : ℕ) → IsTrue (targets d) → SparesNewest homes image d) where
  pub frames : Frames kind.Status (record { stamp = record { epoch = moment; seq = 3 }; content = status_bytes clean })
  frames = frames_of moment (status_bytes clean) some low (status_fits clean valid)

  pub may_state : MayWriteAll Status status_of (second_write moment (status_bytes clean) targets homes) clean image
  may_state =
      let framed : Framed = record { stamp = record { epoch = moment; seq = 3 }; content = status_bytes clean } in
      status_may_be_written framed clean targets homes image frames (is_read_again clean valid)
      (λ d target. (there d target, spared d target, later_may_go (second_write moment (status_bytes clean) targets homes) (record { epoch = moment; seq = 3 }) image d whole before (same_is_no_later (record { epoch = moment; seq = 3 })) (there d target)))

  pub stated_later : (d : ℕ) (r : Stamped Status) → (contents_of image).status d ≡ Some r → stamp_lt r.stamp (record { epoch = moment; seq = 3 }) ≡ true
  stated_later d r shows = (shown_is_before (record { epoch = moment; seq = 3 }) image whole before).statuses d r shows
