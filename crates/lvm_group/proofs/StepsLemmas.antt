-- What is known in the midst of the making of a group, after the disks were read and after the records were written.
use Rattle.std.proofs.Common.{◌≡◌, ℕ, ◌+◌, ◌^◌, ◌<◌, ◌≤◌, Bool, true, false, List, length, Option, Some, None, Result, Ok, Err, refl, sym, ap, subst, ◌∙◌, []}
use Rattle.std.specs.Prelude.{if◌then◌else◌, IfSome, IfOk, IfErr, slice_get}
use Rattle.std.proofs.lemmas.Option.{slice_get-get_or}
use Rattle.lvm_num.specs.declared.record.Stamp.{Stamp}
use Rattle.lvm_num.specs.declared.record.Kind.TheVariants as kind
use Rattle.lvm_num.specs.Descriptor.{IsValid}
use Rattle.lvm_num.specs.Disks.{has}
use Rattle.lvm_num.specs.Record.{longest_content}
use Rattle.lvm_disk.specs.Device.{Media, Device, image_of, HasSectors}
use Rattle.lvm_disk.specs.Images.{LeavesNoMore}
use Rattle.lvm_disk.specs.Paths.{DeviceStep, Path}
use Rattle.lvm_vol.specs.Log.{Log, cut_log, spare_entries}
use Rattle.lvm_kept.specs.Contents.{Contents, contents_of, has_records}
use Rattle.lvm_kept.specs.Moments.{Moment, StaysCalm}
use Rattle.lvm_steps.specs.Moments.{Keeps}
use Rattle.lvm_steps.specs.Requests.{at}
use Rattle.lvm_steps.proofs.MomentsLemmas.Spans.{keeps_still, keeps_steps, steps_go_on, disks_go_out}
use Rattle.lvm_steps.specs.Behind.{StampsAreEarlier, IsAhead, ClockIsAhead}
use Rattle.lvm_steps.proofs.LawsLemmas.Clock.{all_is_behind_next}
use Rattle.lvm_steps.proofs.LawsLemmas.Shelves.{unwritten_stays_behind}
use Rattle.lvm_transfer.specs.Reading.{IsUnwritten, OnlyReads}
use Rattle.lvm_rec.specs.declared.homes.Homes.{Homes}
use Rattle.lvm_write.specs.Homes.{SparesNewest}
use Rattle.lvm_write.specs.Writes.{DiskWritesLeave}
use Rattle.lvm_write.specs.Written.{HaveRoom, KeepsShelf}
use Rattle.lvm_write.proofs.PartsLemmas.Transfers.{spends_then}
use Rattle.lvm_write.specs.Beginning.{Beginning, new_beginning, new_order, IsOfParts, AllStand}
use Rattle.lvm_write.specs.Ends.{BothFlip}
use Rattle.lvm_write.specs.Kept.{NewStaysKept}
use Rattle.lvm_group.specs.passed.Core.{Room, Cause, BringsOn, StartsHeld, IsReservedFor}
use Rattle.lvm_group.specs.passed.SessionStart.{Parts, first_core}
use Rattle.lvm_group.specs.NewGroup.{NewGroup, among, sectors_on, size_for, new_group, new_status, given_up, first_absent, first_too_small, MayMakeGroup}
use Rattle.lvm_group.specs.Shown.{IfShown, HasGroup, ShowsEarlier, SparesTold}
use Rattle.lvm_group.specs.Planned.{IsPlanned}
use Rattle.lvm_group.specs.Made.{beginning_for, MkvgRefuses}
use Rattle.lvm_group.specs.Steps.{LetsMake, AreWritten, WritingFails, NewWritesGive, RecordsStand, cuts_power, cut_at, standing_of}
use Rattle.lvm_group.specs.declared.look.Free.{Free}
use Rattle.lvm_group.specs.declared.plan.Plan.{Plan}
use Rattle.lvm_group.proofs.MadeLemmas.Composing.{cut_where, same_beginning, refuses_writing, stands}
use Rattle.lvm_group.proofs.LogLemmas.{keeps_cut, calm_cut, calm_given}
use Rattle.lvm_group.proofs.NewGroupLemmas.Groups.{room_among}
use Rattle.lvm_group.proofs.Keeping.{IsBeginning, descriptor_fits, status_fits, path_kept, then_behind, starts_held}

-- ---- entries after a cut

keeps_where : (run : ℕ) (first : Moment) (device : Device) (why : Cause) (log : Log) → Keeps run first (at device log.facts) → Keeps run first (at device (cut_where why log).facts)
keeps_where run first device why log span = by_cause (cuts_power why)
  where
    by_cause : (b : Bool) → Keeps run first (at device (if b then cut_log log else log).facts)
    by_cause true = keeps_cut run first device log span
    by_cause false = span

calm_where : (first : Moment) (device : Device) (why : Cause) (log : Log) → StaysCalm first (at device log.facts) → StaysCalm first (at device (cut_where why log).facts)
calm_where first device why log calm = by_cause (cuts_power why)
  where
    by_cause : (b : Bool) → StaysCalm first (at device (if b then cut_log log else log).facts)
    by_cause true = calm_cut first device log calm
    by_cause false = calm

-- ---- the disks are read

module _ (run moment : ℕ) (old mid : Device) (was : Log) (un : IsUnwritten old mid) where
  pub read_keeps : Path DeviceStep (LeavesNoMore old) old mid → Keeps run (at old was.facts) (at mid was.facts)
  read_keeps path = keeps_steps run (at old was.facts) old mid was.facts (keeps_still run (at old was.facts)) path

  pub ahead_still : IsAhead run moment old was.facts → IsAhead run moment mid was.facts
  ahead_still ahead = record { run_is = ahead.run_is; later = ahead.later; behind = unwritten_stays_behind moment old mid un.sizes un.media ahead.behind }

  pub read_behind : HasSectors mid → moment < 2 ^ 64 → ClockIsAhead run moment old was.facts → StampsAreEarlier (moment + 1) mid
  read_behind whole small clock = all_is_behind_next run moment mid was.facts whole small (λ first. ahead_still (clock first))

-- nothing else is left where the disks are only read
pub read_leaves : (run moment before after : ℕ) (old mid : Device) (was : Log) → HasSectors mid → moment < 2 ^ 64 → OnlyReads before after old mid → BringsOn run moment before after old mid was was
read_leaves run moment before after old mid was whole small only = record {
  keeps = λ clock. read_keeps run moment old mid was only.unwritten only.moments;
  behind = read_behind run moment old mid was only.unwritten whole small;
  calm = λ past calm. calm;
  spends = record { falls = only.falls; waits = only.waited };
}

-- ---- the records are written

-- what the disks show is still what they showed
still_shown : (old mid : Device) → mid.sizes ≡ old.sizes → mid.media ≡ old.media → (P : Contents → Type 0) → IfShown old P → IfShown mid P
still_shown old mid sizes media P shown =
    subst (λ (l : List ℕ). IfSome mid.media (λ m. P (contents_of (image_of l m)))) (sym sizes)
    (subst (λ (o : Option Media). IfSome o (λ m. P (contents_of (image_of old.sizes m)))) (sym media) shown)

still_spares : (old mid : Device) (homes : Homes) → mid.sizes ≡ old.sizes → mid.media ≡ old.media → SparesTold homes old → SparesTold homes mid
still_spares old mid homes sizes media spares =
    subst (λ (l : List ℕ). IfSome mid.media (λ m. (d : ℕ) → has_records (image_of l m) d ≡ true → SparesNewest homes (image_of l m) d)) (sym sizes)
    (subst (λ (o : Option Media). IfSome o (λ m. (d : ℕ) → has_records (image_of old.sizes m) d ≡ true → SparesNewest homes (image_of old.sizes m) d)) (sym media) spares)

module _ (w : NewGroup) (room : Room) (was : Log) (old mid : Device) (free : Free) (plan : Plan)
    (may : MayMakeGroup old.sizes (spare_entries was) w.disks w.mib) (found : LetsMake w.force w.moment old mid free)
    (planned : IsPlanned old.sizes w.name (size_for old.sizes w.disks w.mib) w.disks w.moment room plan) (size : 1 ≤ size_for old.sizes w.disks w.mib) where
  un : IsUnwritten old mid
  un = found.reads.unwritten

  abbrev pub bytes_written : Beginning
  bytes_written = new_beginning w.moment plan.descriptor plan.status (has plan.targets) free.homes

  pub descriptor_long : length plan.descriptor ≤ longest_content kind.Descriptor
  descriptor_long = subst (λ (l : List ℕ). length l ≤ longest_content kind.Descriptor) (sym planned.descriptor) (descriptor_fits (new_group old.sizes w) planned.valid refl planned.valid.head.members)

  pub status_long : length plan.status ≤ longest_content kind.Status
  status_long = subst (λ (l : List ℕ). length l ≤ longest_content kind.Status) (sym planned.status) (status_fits (new_status w) planned.stated refl planned.stated.rows_fit)

  pub have_room : HaveRoom mid (has plan.targets)
  have_room d target =
      let room_at = room_among old.sizes (size_for old.sizes w.disks w.mib) w.disks may.disks_fit.there may.disks_fit.fit d (sym (planned.targets d) ∙ target) in
      (sectors_on old.sizes d, subst (λ (l : List ℕ). slice_get l d ≡ Some (sectors_on old.sizes d)) (sym un.sizes) (slice_get-get_or old.sizes d 0 room_at.0), room_at.1)

  -- what is known of the group by what the disks show after they were read
  beginning : (run : ℕ) → w.moment < 2 ^ 64 → HasSectors mid → IsAhead run w.moment old was.facts → IsBeginning w mid free.homes
  beginning run small whole ahead = record {
    valid = subst (λ (l : List ℕ). IsValid (new_group l w)) (sym un.sizes) planned.valid;
    stated = planned.stated;
    few = may.disks_fit.few;
    small = small;
    size = subst (λ (l : List ℕ). 1 ≤ size_for l w.disks w.mib) (sym un.sizes) size;
    there = subst (λ (l : List ℕ). first_absent l w.disks ≡ None) (sym un.sizes) may.disks_fit.there;
    fit = subst (λ (l : List ℕ). first_too_small l (size_for l w.disks w.mib) w.disks ≡ None) (sym un.sizes) may.disks_fit.fit;
    free = still_shown old mid un.sizes un.media (λ c. HasGroup c w.force → ⊥) found.no_group;
    later = still_shown old mid un.sizes un.media (λ c. ShowsEarlier c w.moment) found.later;
    spares = still_spares old mid free.homes un.sizes un.media found.spares;
    whole = whole;
    behind = unwritten_stays_behind w.moment old mid un.sizes un.media ahead.behind;
  }

  module _ (before left after : ℕ) (new : Device) (only : OnlyReads before left old mid) (leaves : DiskWritesLeave (has plan.targets) (IsOfParts bytes_written new_order) left after mid new) where
    as_old : bytes_written ≡ beginning_for old.sizes w free.homes
    as_old = same_beginning w room old.sizes plan free.homes planned

    as_mid : bytes_written ≡ beginning_for mid.sizes w free.homes
    as_mid = as_old ∙ ap (λ (l : List ℕ). beginning_for l w free.homes) (sym un.sizes)

    keeps_old : KeepsShelf (among w.disks) (IsOfParts (beginning_for old.sizes w free.homes) new_order) mid new
    keeps_old = subst (λ (b : Beginning). KeepsShelf b.targets (IsOfParts b new_order) mid new) as_old leaves.keeps

    keeps_mid : KeepsShelf (among w.disks) (IsOfParts (beginning_for mid.sizes w free.homes) new_order) mid new
    keeps_mid = subst (λ (b : Beginning). KeepsShelf b.targets (IsOfParts b new_order) mid new) as_mid leaves.keeps

    pub refuses_written : (r : Result Homes Cause) → NewWritesGive bytes_written left mid new r → IfErr r (MkvgRefuses w before was (cut_at r (given_up was w.disks)) old new)
    refuses_written (Ok next) gives = tt
    refuses_written (Err why) off = refuses_writing w was old mid new free may found keeps_old before left why (record { falls = only.falls; waits = only.waited }) (subst (λ (b : Beginning). WritingFails b left mid new why) as_old off)

    pub stands_written : (r : Result Homes Cause) → NewWritesGive bytes_written left mid new r → IfOk r (λ next. RecordsStand w room was (given_up was w.disks) old new (record { parts = plan.parts; homes = next }))
    stands_written (Ok next) gives =
        stands w was old mid new free may found keeps_old size room plan next planned (subst (λ (b : Beginning). AreWritten b mid new) as_old gives.0)
        (subst (λ (b : Beginning). BothFlip b.targets free.homes next) as_old gives.1) (given_up was w.disks) refl
    stands_written (Err why) off = tt

    module _ (run : ℕ) (small : w.moment < 2 ^ 64) (whole : HasSectors mid) where
      known : ClockIsAhead run w.moment old was.facts → IsBeginning w mid free.homes
      known clock = beginning run small whole (clock found.first)

      pub written_leaves : NewStaysKept bytes_written mid new → BringsOn run w.moment before after old new was (given_up was w.disks)
      written_leaves kept = record {
        keeps = λ clock. steps_go_on run (at old was.facts) mid new (given_up was w.disks).facts
            (disks_go_out run (at old was.facts) mid was.facts w.disks (read_keeps run w.moment old mid was un only.moments))
            (path_kept w mid free.homes (known clock) new (subst (λ (b : Beginning). NewStaysKept b mid new) as_mid kept));
        behind = λ clock. then_behind w mid free.homes (known clock) new keeps_mid;
        calm = calm_given (at old was.facts) new was.facts w.disks (λ past calm. calm);
        spends = spends_then before left after old mid new (record { falls = only.falls; waits = only.waited }) leaves.spends;
      }

      pub written_held : ClockIsAhead run w.moment old was.facts → (r : Result Homes Cause) → NewWritesGive bytes_written left mid new r
          → IfOk r (λ next. StartsHeld new (first_core plan.parts (given_up was w.disks) (record { epoch = w.moment; seq = 2 }) next []))
      written_held clock (Ok next) gives =
          starts_held w mid free.homes (known clock) new keeps_mid (subst (λ (b : Beginning). AllStand b new_order new) as_mid gives.0.stand) room plan.parts
          (subst (λ (l : List ℕ). IsReservedFor (new_group l w) (new_status w) room plan.parts) (sym un.sizes) planned.parts) next (subst (λ (b : Beginning). BothFlip b.targets free.homes next) as_mid gives.1) (given_up was w.disks)
      written_held clock (Err why) off = tt

-- ---- and a cut is entered

module _ (w : NewGroup) (room : Room) (before after : ℕ) (was mid is : Log) (old new : Device) (parts : Parts) where
  pub made_then : (r : Result Homes Cause) → is ≡ cut_at r mid → IfOk r (λ next. RecordsStand w room was mid old new (record { parts = parts; homes = next })) → IfOk (standing_of parts r) (RecordsStand w room was is old new)
  made_then (Ok next) same stands = subst (λ (l : Log). RecordsStand w room was l old new (record { parts = parts; homes = next })) (sym same) stands
  made_then (Err why) same stands = tt

  pub refused_then : (r : Result Homes Cause) → is ≡ cut_at r mid → IfErr r (MkvgRefuses w before was (cut_at r mid) old new) → IfErr (standing_of parts r) (MkvgRefuses w before was is old new)
  refused_then (Ok next) same refuses = tt
  refused_then (Err why) same refuses = subst (λ (l : Log). MkvgRefuses w before was l old new why) (sym same) refuses

  pub held_then : (stamp : Stamp) (r : Result Homes Cause) → is ≡ cut_at r mid → IfOk r (λ next. StartsHeld new (first_core parts mid stamp next [])) → IfOk (standing_of parts r) (λ standing. StartsHeld new (first_core standing.parts is stamp standing.homes []))
  held_then stamp (Ok next) same held = subst (λ (l : Log). StartsHeld new (first_core parts l stamp next [])) (sym same) held
  held_then stamp (Err why) same held = tt

  pub leaves_then : (run : ℕ) (r : Result Homes Cause) → is ≡ cut_at r mid → BringsOn run w.moment before after old new was mid → BringsOn run w.moment before after old new was is
  leaves_then run (Ok next) same leaves = subst (λ (l : Log). BringsOn run w.moment before after old new was l) (sym same) leaves
  leaves_then run (Err why) same leaves = subst (λ (l : Log). BringsOn run w.moment before after old new was l) (sym same) (record {
    keeps = λ clock. keeps_where run (at old was.facts) new why mid (leaves.keeps clock);
    behind = leaves.behind;
    calm = calm_where (at old was.facts) new why mid leaves.calm;
    spends = leaves.spends;
  })
