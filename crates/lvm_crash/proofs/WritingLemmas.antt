-- The end of a write of a request.
use Rattle.std.proofs.Common.{◌≡◌, ◌⊎◌, inl, inr, ⊎_elim, ℕ, ◌+◌, ◌-◌, ◌<◌, ◌≤◌, Bool, true, false, ◌&&◌, List, [], length, Option, Some, None, refl, sym, ap, subst, ◌∙◌, arith}
use Rattle.std.specs.Prelude.{IsTrue, nat_lt, if◌then◌else◌, slice_get, unwrap_or}
use Rattle.std.proofs.lemmas.Bool.Decides.{nat_tests}
use Rattle.std.proofs.lemmas.Bool.{and_from, and_parts}
use Rattle.lvm_num.specs.declared.place.Pp.{Pp}
use Rattle.lvm_num.specs.declared.descriptor.Descriptor.{Descriptor}
use Rattle.lvm_num.specs.declared.status.Status.{Status}
use Rattle.lvm_num.specs.Buffer.{Sector}
use Rattle.lvm_num.specs.Disks.{Disks}
use Rattle.lvm_num.specs.Descriptor.{IsValid, is_pp}
use Rattle.lvm_num.specs.Geometry.{data_start, sector_of}
use Rattle.lvm_num.specs.Record.{Stamped}
use Rattle.lvm_disk.specs.Device.{Media, Image, Flight, image_of, written}
use Rattle.lvm_disk.specs.Steps.{BothTold, Puts, PutsSome}
use Rattle.lvm_kept.specs.Contents.{Contents, contents_of, descriptor_on, status_on, note_on, data_at}
use Rattle.lvm_kept.specs.Group.{block_at, names_if}
use Rattle.lvm_kept.specs.Places.{SameRecords}
use Rattle.lvm_kept.proofs.PlacesLemmas.{descriptor-same, status-same, note-same, blocks_are_sectors}
use Rattle.lvm_invariant.specs.State.{Flying, Well, Queued, Beside, ModelState, covers}
use Rattle.lvm_invariant.specs.Found.{Votes}
use Rattle.lvm_invariant.specs.Good.{Good}
use Rattle.lvm_invariant.specs.Events.{Transfer}
use Rattle.lvm_invariant.specs.Transfer.{Restages, restaged}
use Rattle.lvm_crash.specs.Session.{marks_shown, Shows, Describes}
use Rattle.lvm_even.specs.Members.{members_showing}
use Rattle.lvm_crash.specs.Left.{KeepsGroup}
use Rattle.lvm_crash.proofs.LastingLemmas.Lasting.{description_lasts}
use Rattle.lvm_crash.proofs.LastingLemmas.Statuses.{statuses_last}
use Rattle.lvm_crash.specs.Owned.{IsTransfer}
use Rattle.lvm_crash.specs.Writing.{Lands, EndsLand, stage_of, after_write, WriteEnds}
use Rattle.lvm_crash.proofs.DeviceLemmas.{writes_at, at_writes}
use Rattle.lvm_crash.proofs.OwnedLemmas.{covered, copy_of, copy_too, stands_at, hits, not_member}
pub use Rattle.lvm_num.proofs.DescriptorLemmas.Partitions.{one_partition as pp_same, same_partition as same_pp}

-- ---- ends

some_media : (a b : Media) → Some a ≡ Some b → a ≡ b
some_media a b e = cc

put_some : (o : Option Sector) (old new : Sector) → new ≡ unwrap_or o old → (new ≡ old) ⊎ (o ≡ Some new)
put_some None old new is = inl is
put_some (Some x) old new is = inr (ap (λ (y : Sector). Some y) (sym is))

told_too : (R : Media → Media → Type 0) (m : Media) (o : Option Media) → BothTold (Some m) o R → (n : Media) × (o ≡ Some n) × R m n
told_too R m None both = absurd both
told_too R m (Some n) both = (n, refl, both)

puts_land : (f : Flight) (m n : Media) → Puts f m n → Lands f true m n
puts_land f m n puts = record {
  some = λ d s. put_some (written f d s) (m d s) (n d s) (puts d s);
  all = λ well d s x is. puts d s ∙ ap (λ (o : Option Sector). unwrap_or o (m d s)) is;
}

pub ends_land : EndsLand
ends_land = record {
  done = λ old new ticket buf m ends told.
      let both : BothTold (Some m) new.media (Puts ends.flight) = subst (λ (o : Option Media). BothTold o new.media (Puts ends.flight)) told ends.media in
      let n = told_too (Puts ends.flight) m new.media both in (n.0, n.1, puts_land ends.flight m n.0 n.2);
  failed = λ old new ticket buf m ends told.
      let both : BothTold (Some m) new.media (PutsSome ends.flight) = subst (λ (o : Option Media). BothTold o new.media (PutsSome ends.flight)) told ends.media in
      let n = told_too (PutsSome ends.flight) m new.media both in (n.0, n.1, record { some = n.2; all = λ well. absurd (let e : ◌≡◌ {A = Bool} false true = well in cc) });
}

-- ---- what stands where no record changes

data_is : (image : Image) (d s : ℕ) → data_start ≤ s → data_at image d s ≡ image.sector d s
data_is image d s le = ap (λ t. if t then [] else image.sector d s) high
  where
    high : nat_lt s data_start ≡ false
    high = grind (arith, nat_tests)

module _ (sizes : List ℕ) (m n : Media) where
  abbrev was : Image
  was = image_of sizes m

  abbrev is : Image
  is = image_of sizes n

  abbrev old : Contents
  old = contents_of was

  abbrev now : Contents
  now = contents_of is

  -- where the records are the same, and the data of disks that show no descriptor
  pub keeps_group : SameRecords was is → ((d s : ℕ) → old.descriptor d ≡ None → data_start ≤ s → n d s ≡ m d s) → KeepsGroup old now
  keeps_group same raw = record {
    rest = let descriptor : (d : ℕ) → descriptor_on is d ≡ descriptor_on was d = descriptor-same was is same in
        λ t. record { disks = length sizes; size = now.size; descriptor = λ d. descriptor d t; status = status_on is; note = note_on is; block = data_at is };
    raw = λ d b none low. data_is is d b low ∙ raw d b none low ∙ sym (data_is was d b low);
  }

  -- the state goes on showing them
  pub shows_records : (s new : ModelState) (group : Descriptor) (in_flight : Option (Stamped Status)) → SameRecords was is → Shows s group in_flight old
      → new.in_flight ≡ s.in_flight → new.beside ≡ s.beside → ((d lv g : ℕ) → new.media.names d lv g ≡ s.media.names d lv g) → ((d : ℕ) → new.media.status d ≡ s.media.status d)
      → ((lv b : ℕ) (p : Pp) → IsTrue (new.is_copy lv b p) → new.media.block lv b p ≡ block_at now group.mib p b) → Shows new group in_flight now
  shows_records s new group in_flight same shows flight beside names status blocks = record {
    blocks = blocks;
    names = λ d lv g. names d lv g ∙ shows.names d lv g ∙ ap (λ note. names_if note lv g) (sym (note-same was is d same.same (same.sectors d 8 (omega arith))));
    status = λ d. status d ∙ shows.status d ∙ ap (marks_shown s.beside group.id) (sym (status-same was is same d)) ∙ ap (λ (o : Option Beside). marks_shown o group.id (now.status d)) (sym beside);
    statuses = statuses_last.moves s new group in_flight old now shows.statuses flight beside (λ d. inl (status-same was is same d));
  }

-- ---- a write of a request

module _ (votes : Votes) (s : ModelState) (i : ℕ) (r : Queued) (c : Pp) (value : ℕ → Sector) (group : Descriptor) (in_flight : Option (Stamped Status)) (sizes : List ℕ) (m n : Media) (f : Flight) (well : Bool)
    (valid : IsValid group) (good : Good votes s) (describes : Describes s s.facts group in_flight (contents_of (image_of sizes m)))
    (there : s.queue i ≡ Some r) (aimed : IsTrue (s.is_copy r.lv r.first c)) (transfer : IsTransfer group.mib r value c f) (lands : Lands f well m n) where
  abbrev before : Contents
  before = contents_of (image_of sizes m)

  abbrev after : Contents
  after = contents_of (image_of sizes n)

  abbrev members : Disks
  members = members_showing before group

  -- it writes data, on a disk that shows a descriptor
  in_data : (d at : ℕ) (x : Sector) → written f d at ≡ Some x → (data_start ≤ at) × (d ≡ c.disk)
  in_data d at x brings =
      let where_is = writes_at f d at x brings in
      let low : f.first ≤ at = where_is.low in
      let first : f.first ≡ sector_of group.mib c.pp r.first = transfer.first in
      (omega arith, sym where_is.disk ∙ transfer.disk)

  pub records_same : SameRecords (image_of sizes m) (image_of sizes n)
  records_same = record {
    same = record { disks = refl; size = λ d. refl };
    sectors = λ d at lt. ⊎_elim (λ same. same) (λ brings. let low = (in_data d at (n d at) brings).0 in absurd (omega arith)) (lands.some d at);
  }

  member : IsTrue (members c.disk)
  member = (copy_of group valid s s.facts members good.sound.tied describes.volumes r.lv r.first c aimed).member

  raw_same : (d at : ℕ) → before.descriptor d ≡ None → data_start ≤ at → n d at ≡ m d at
  raw_same d at none low = ⊎_elim (λ same. same) (λ brings. absurd (not_member before group d none (subst (λ k. IsTrue (members k)) (sym (in_data d at (n d at) brings).1) member))) (lands.some d at)

  pub group_kept : KeepsGroup before after
  group_kept = keeps_group sizes m n records_same raw_same

  -- a block of a copy is the old one, or one of the request's on its copy
  pub data Becomes (lv b : ℕ) (p : Pp) : Type 0 where
    Same : block_at after group.mib p b ≡ block_at before group.mib p b → Becomes lv b p
    New : IsTrue (covers r lv b) → p ≡ c → block_at after group.mib p b ≡ value b → Becomes lv b p

  pub becomes : (lv b : ℕ) (p : Pp) → IsTrue (s.is_copy lv b p) → Becomes lv b p
  becomes lv b p copy = ⊎_elim
      (λ same. Same (blocks_are_sectors (image_of sizes n) group.mib b p ∙ same ∙ sym (blocks_are_sectors (image_of sizes m) group.mib b p)))
      (λ brings.
      let h = hits group valid s s.facts members good.sound.tied describes.volumes i r value c f lv b p (n p.disk (sector_of group.mib p.pp b)) there aimed transfer copy brings in
      New h.over h.copy (blocks_are_sectors (image_of sizes n) group.mib b p ∙ h.is))
      (lands.some p.disk (sector_of group.mib p.pp b))

  -- on the copy itself, at each of its blocks
  pub copy_here : (lv b : ℕ) → IsTrue (covers r lv b) → IsTrue (s.is_copy lv b c)
  copy_here lv b over = subst (λ k. IsTrue (s.is_copy k b c)) (covered r lv b over).0 (copy_too group valid s s.facts members good.sound.tied describes.volumes i r lv b c there over aimed)

  pub whole_here : IsTrue well → (lv b : ℕ) → IsTrue (covers r lv b) → block_at after group.mib c b ≡ value b
  whole_here ends lv b over =
      let its = covered r lv b over in
      let low : r.first ≤ b = its.1 in
      let high : b < r.first + r.count = its.2 in
      let k : ℕ = b - r.first in
      let back : r.first + k ≡ b = omega arith in
      let lt : k < r.count = omega arith in
      let first : f.first ≡ sector_of group.mib c.pp r.first = transfer.first in
      let count : f.count ≡ r.count = transfer.count in
      let place : sector_of group.mib c.pp b ≡ f.first + k = let e = stands_at group valid s s.facts members good.sound.tied describes.volumes i r c.pp k there lt in let e2 : sector_of group.mib c.pp b ≡ sector_of group.mib c.pp (r.first + k) = ap (sector_of group.mib c.pp) (sym back) in omega arith in
      let index : sector_of group.mib c.pp b - f.first ≡ k = omega arith in
      let brings : written f c.disk (sector_of group.mib c.pp b) ≡ Some (value b) = at_writes f c.disk (sector_of group.mib c.pp b) (value b)
      (record { write = transfer.write; disk = transfer.disk; low = omega arith; high = omega arith; there = ap (λ j. slice_get f.buf.sectors j) index ∙ transfer.carries k lt ∙ ap (λ j. Some (value j)) back }) in
      blocks_are_sectors (image_of sizes n) group.mib b c ∙ lands.all ends c.disk (sector_of group.mib c.pp b) (value b) brings

  -- what the state sees then
  abbrev block : ℕ → ℕ → Pp → Sector
  block = after_write s group.mib r c after

  seen_new : (lv b : ℕ) (e : Pp) (t : Bool) → (covers r lv b && is_pp e c) ≡ t → (block lv b e ≡ s.media.block lv b e) ⊎ (IsTrue (covers r lv b) × (e ≡ c) × (block lv b e ≡ value b))
  seen_new lv b e false test = inl (ap (λ t. if t then block_at after group.mib e b else s.media.block lv b e) test)
  seen_new lv b e true test =
      let both = and_parts (covers r lv b) (is_pp e c) test in
      let own : e ≡ c = pp_same e c both.1 in
      let copy : IsTrue (s.is_copy lv b e) = subst (λ p. IsTrue (s.is_copy lv b p)) (sym own) (copy_here lv b both.0) in
      let chosen : block lv b e ≡ block_at after group.mib e b = ap (λ t. if t then block_at after group.mib e b else s.media.block lv b e) test in
      by own chosen copy (becomes lv b e copy)
    where
      by : e ≡ c → block lv b e ≡ block_at after group.mib e b → IsTrue (s.is_copy lv b e) → Becomes lv b e → (block lv b e ≡ s.media.block lv b e) ⊎ (IsTrue (covers r lv b) × (e ≡ c) × (block lv b e ≡ value b))
      by own chosen copy (Same same) = inl (chosen ∙ same ∙ sym (describes.shown.blocks lv b e copy))
      by own chosen copy (New over its new) = inr (over, its, chosen ∙ new)

  pub seen : (lv b : ℕ) (e : Pp) → (block lv b e ≡ s.media.block lv b e) ⊎ (IsTrue (covers r lv b) × (e ≡ c) × (block lv b e ≡ value b))
  seen lv b e = seen_new lv b e (covers r lv b && is_pp e c) refl

  pub seen_whole : IsTrue well → (lv b : ℕ) → IsTrue (covers r lv b) → block lv b c ≡ value b
  seen_whole ends lv b over = ap (λ t. if t then block_at after group.mib c b else s.media.block lv b c) (and_from (covers r lv b) (is_pp c c) over (same_pp c c refl)) ∙ whole_here ends lv b over

  pub shown : (lv b : ℕ) (p : Pp) → IsTrue (s.is_copy lv b p) → block lv b p ≡ block_at after group.mib p b
  shown lv b p copy = by (covers r lv b && is_pp p c) refl (becomes lv b p copy)
    where
      by : (t : Bool) → (covers r lv b && is_pp p c) ≡ t → Becomes lv b p → block lv b p ≡ block_at after group.mib p b
      by true test how = ap (λ t. if t then block_at after group.mib p b else s.media.block lv b p) test
      by false test (Same same) = ap (λ t. if t then block_at after group.mib p b else s.media.block lv b p) test ∙ describes.shown.blocks lv b p copy ∙ sym same
      by false test (New over its new) = absurd (let e : ◌≡◌ {A = Bool} false true = sym test ∙ and_from (covers r lv b) (is_pp p c) over (same_pp p c its) in cc)

pub write_ends : WriteEnds
write_ends votes s i r c group in_flight sizes m n f well valid good describes started flies aimed transfer lands =
    let now = contents_of (image_of sizes n) in
    let block = after_write s group.mib r c now in
    let may : Restages s i r c (stage_of well) block = record {
      started = started;
      was = (Flying, flies);
      media = seen votes s i r c r.value group in_flight sizes m n f well valid good describes started.there aimed transfer lands;
      well = λ is. seen_whole votes s i r c r.value group in_flight sizes m n f well valid good describes started.there aimed transfer lands (went well is);
    } in
    record {
      may = may;
      describes = description_lasts votes (Transfer i r c (stage_of well) block) s (restaged s i r c (stage_of well) block) group in_flight in_flight (contents_of (image_of sizes m)) now
          (may, refl) good tt describes
          (group_kept votes s i r c r.value group in_flight sizes m n f well valid good describes started.there aimed transfer lands)
          (shows_records sizes m n s (restaged s i r c (stage_of well) block) group in_flight
          (records_same votes s i r c r.value group in_flight sizes m n f well valid good describes started.there aimed transfer lands) describes.shown refl refl (λ d lv g. refl) (λ d. refl)
          (shown votes s i r c r.value group in_flight sizes m n f well valid good describes started.there aimed transfer lands));
    }
  where
    went : (t : Bool) → stage_of t ≡ Well → IsTrue t
    went true is = refl
    went false is = absurd cc
