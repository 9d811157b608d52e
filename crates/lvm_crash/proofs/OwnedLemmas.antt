-- What is out is what the state has out.
use Rattle.std.proofs.Common.{◌≡◌, ◌⊎◌, inl, inr, ℕ, ◌+◌, ◌-◌, ◌*◌, ◌/◌, ◌%◌, ◌<◌, ◌≤◌, Bool, true, false, ◌&&◌, List, length, Option, Some, None, refl, sym, ap, subst, ◌∙◌, arith}
use Rattle.std.specs.Prelude.{IsTrue, ◌==◌, nat_le, nat_lt, slice_get}
use Rattle.std.proofs.lemmas.Bool.Decides.{nat_tests}
use Rattle.lvm_num.specs.declared.place.Pp.{Pp}
use Rattle.lvm_num.specs.declared.descriptor.Descriptor.{Descriptor}
use Rattle.lvm_num.specs.declared.status.Status.{Status}
use Rattle.lvm_num.specs.declared.record.Kind.{Kind}
use Rattle.lvm_num.specs.declared.record.Kind.TheVariants as kind
use Rattle.lvm_num.specs.Buffer.{Sector}
use Rattle.lvm_num.specs.Disks.{Disks}
use Rattle.lvm_num.specs.declared.descriptor.LvRow.{LvRow}
use Rattle.lvm_num.specs.Descriptor.{IsValid, copies_of}
use Rattle.lvm_num.specs.Geometry.{data_start, partition_blocks, sector_of}
use Rattle.lvm_num.specs.Note.{note_in}
use Rattle.lvm_num.specs.Record.{Stamped, frame, record_sectors, slot_start, slot_size}
use Rattle.lvm_vol.specs.Facts.{Fact}
use Rattle.lvm_disk.specs.Device.{Flight, Device, image_of, written}
use Rattle.lvm_kept.specs.Contents.{note_sector, Contents, contents_of}
use Rattle.lvm_kept.specs.Group.{names_if, is_of, passes, has_room, IsOneOf, IsBlockOf}
use Rattle.lvm_kept.specs.Torn.{RecordWrite, IsOfRecord, IsOutsideSlots}
use Rattle.lvm_invariant.specs.State.{Groups, Queued, Beside, ModelState, covers}
use Rattle.lvm_invariant.specs.Crash.{Brings, CopyBrings}
use Rattle.lvm_invariant.specs.Sound.{Tied}
use Rattle.lvm_even.specs.Members.{members_showing}
use Rattle.lvm_crash.specs.Session.{IsPlaceOf, IsFreePlace, HasVolumes}
use Rattle.lvm_crash.specs.Flights.{OnlyUpdateIsOut}
use Rattle.lvm_crash.specs.Copies.{IsCopyOf, AreOne}
use Rattle.lvm_crash.specs.Owned.{IsTransfer, IsDataFlight, IsStepFlight, IsNoteFlight, IsStatusFlight, IsOfUpdate, IsOwned, UpdateSince, OnlyUpdateSince, OwnersHaveOut}
use Rattle.lvm_crash.proofs.CopiesLemmas.{one_block, next_sector}
use Rattle.lvm_crash.proofs.DeviceLemmas.{writes_at, of_one}
use Rattle.lvm_map.proofs.PlacesLemmas.{mib_positive}
use Rattle.lvm_map.proofs.Parts.{same_parts, whole}

-- ---- a request's blocks

-- a block of the request is one some way behind its first
pub covered : (r : Queued) (lv b : ℕ) → IsTrue (covers r lv b) → (r.lv ≡ lv) × (r.first ≤ b) × (b < r.first + r.count)
covered r lv b over = by (r.lv == lv) (nat_le r.first b) (nat_lt b (r.first + r.count)) refl refl refl over
  where
    by : (x y z : Bool) → (r.lv == lv) ≡ x → nat_le r.first b ≡ y → nat_lt b (r.first + r.count) ≡ z → IsTrue (x && y && z) → (r.lv ≡ lv) × (r.first ≤ b) × (b < r.first + r.count)
    by true true true wx wy wz h = (grind (arith, nat_tests), grind (arith, nat_tests), grind (arith, nat_tests))
    by false y z wx wy wz h = absurd cc
    by true false z wx wy wz h = absurd cc
    by true true false wx wy wz h = absurd cc

pub covers_its : (r : Queued) (k : ℕ) → k < r.count → IsTrue (covers r r.lv (r.first + k))
covers_its r k lt =
    let own : (r.lv == r.lv) ≡ true = grind (arith, nat_tests) in
    let low : nat_le r.first (r.first + k) ≡ true = grind (arith, nat_tests) in
    let high : nat_lt (r.first + k) (r.first + r.count) ≡ true = grind (arith, nat_tests) in
    λ t. own t && low t && high t

module _ (group : Descriptor) (valid : IsValid group) (s : ModelState) (facts : List Fact) (members : Disks) (tied : Tied s) (volumes : HasVolumes s facts group members) where
  -- a copy of the state is one of the group, or the partition beside, on a member that is there
  pub record IsPlaced (lv b : ℕ) (p : Pp) : Type 0 where
    pub row : LvRow
    pub lp : ℕ
    pub volume : IsOneOf group.lvs row
    pub number : row.number ≡ lv
    pub inside : IsBlockOf group.mib row lp b
    pub place : IsPlaceOf s.beside row lp b p
    pub member : IsTrue (members p.disk)

  pub copy_of : (lv b : ℕ) (p : Pp) → IsTrue (s.is_copy lv b p) → IsPlaced lv b p
  copy_of lv b p copy =
      let inside = volumes.inside lv b p copy in
      let both = (volumes.copies inside.row inside.lp b p inside.volume inside.inside).0 (subst (λ n. IsTrue (s.is_copy n b p)) (sym inside.number) copy) in
      record { row = inside.row; lp = inside.lp; volume = inside.volume; number = inside.number; inside = inside.inside; place = both.0; member = both.1 }

  -- no two of them stand at one sector
  one_place : (lv b l c : ℕ) (p q : Pp) → IsPlaced lv b p → IsPlaced l c q → p.disk ≡ q.disk → sector_of group.mib p.pp b ≡ sector_of group.mib q.pp c → AreOne lv b p l c q
  one_place lv b l c p q x y disk sector = by s.beside volumes.free x.place y.place
    where
      parts_same : (p.pp ≡ q.pp) × (b % partition_blocks group.mib ≡ c % partition_blocks group.mib)
      parts_same =
          let size = partition_blocks group.mib in
          let some = mib_positive group valid in
          let own : b % size < size = omega arith in
          let its : c % size < size = omega arith in
          same_parts size p.pp q.pp (b % size) (c % size) own its (omega (arith, sector))

      one_partition_of : p ≡ q
      one_partition_of = λ t. record { disk = disk t; pp = parts_same.0 t }

      is_copy_of : (n d : ℕ) (e : Pp) (k : IsPlaced n d e) → IsOneOf (copies_of k.row k.lp) e → IsCopyOf group n d e
      is_copy_of n d e k copy = record { row = k.row; lp = k.lp; volume = k.volume; number = k.number; inside = k.inside; copy = copy }

      by : (o : Option Beside) → ((z : Beside) → o ≡ Some z → IsFreePlace group z) → IsPlaceOf o x.row x.lp b p → IsPlaceOf o y.row y.lp c q → AreOne lv b p l c q
      by None free one other = one_block group lv b l c p q valid (is_copy_of lv b p x one) (is_copy_of l c q y other) disk sector
      by (Some z) free (inl one) (inl other) = one_block group lv b l c p q valid (is_copy_of lv b p x one) (is_copy_of l c q y other) disk sector
      by (Some z) free (inl one) (inr other) = absurd ((free z refl).free x.row x.lp x.volume x.inside.inside (subst (λ (e : Pp). IsOneOf (copies_of x.row x.lp) e) (one_partition_of ∙ other.0) one))
      by (Some z) free (inr one) (inl other) = absurd ((free z refl).free y.row y.lp y.volume y.inside.inside (subst (λ (e : Pp). IsOneOf (copies_of y.row y.lp) e) (sym one_partition_of ∙ one.0) other))
      by (Some z) free (inr one) (inr other) =
          let same = (free z refl).one x.row.number b y.row.number c one.1 other.1 in
          record {
            volume = sym x.number ∙ same.0 ∙ y.number;
            block =
                let size = partition_blocks group.mib in
                let some = mib_positive group valid in
                let first : b / size * size + b % size ≡ b = whole size b (omega arith) in
                let second : c / size * size + c % size ≡ c = whole size c (omega arith) in
                let part : b / size ≡ c / size = same.1 in
                let rest : b % size ≡ c % size = parts_same.1 in
                sym first ∙ (λ t. part t * size + rest t) ∙ second;
            copy = one_partition_of;
          }

  -- the copies of its first block are those of each
  pub copy_too : (i : ℕ) (r : Queued) (lv b : ℕ) (c : Pp) → s.queue i ≡ Some r → IsTrue (covers r lv b) → IsTrue (s.is_copy r.lv r.first c) → IsTrue (s.is_copy r.lv b c)
  copy_too i r lv b c there over aimed = ap (λ (is : Pp → Bool). is c) (tied.place i r there lv b over).2 ∙ aimed

  -- The k-th block of the request stands k sectors behind the first.
  pub stands_at : (i : ℕ) (r : Queued) (pp k : ℕ) → s.queue i ≡ Some r → k < r.count → sector_of group.mib pp (r.first + k) ≡ sector_of group.mib pp r.first + k
  stands_at i r pp k there lt = next_sector group.mib pp r.first k (mib_positive group valid) (tied.place i r there r.lv (r.first + k) (covers_its r k lt)).1

  -- A transfer of the request writes no block of a copy but those of the request, on its copy.
  pub record Hits (r : Queued) (value : ℕ → Sector) (c : Pp) (lv b : ℕ) (p : Pp) (x : Sector) : Type 0 where
    pub over : IsTrue (covers r lv b)
    pub copy : p ≡ c
    pub is : x ≡ value b

  pub hits : (i : ℕ) (r : Queued) (value : ℕ → Sector) (c : Pp) (f : Flight) (lv b : ℕ) (p : Pp) (x : Sector) → s.queue i ≡ Some r → IsTrue (s.is_copy r.lv r.first c) → IsTransfer group.mib r value c f
      → IsTrue (s.is_copy lv b p) → written f p.disk (sector_of group.mib p.pp b) ≡ Some x → Hits r value c lv b p x
  hits i r value c f lv b p x there aimed transfer copy brings =
      let at = writes_at f p.disk (sector_of group.mib p.pp b) x brings in
      let low : f.first ≤ sector_of group.mib p.pp b = at.low in
      let high : sector_of group.mib p.pp b < f.first + f.count = at.high in
      let count : f.count ≡ r.count = transfer.count in
      let k : ℕ = sector_of group.mib p.pp b - f.first in
      let lt : k < r.count = omega arith in
      let over = covers_its r k lt in
      let place : sector_of group.mib p.pp b ≡ sector_of group.mib c.pp (r.first + k) = let first : f.first ≡ sector_of group.mib c.pp r.first = transfer.first in let e = stands_at i r c.pp k there lt in omega arith in
      let same = one_place lv b r.lv (r.first + k) p c (copy_of lv b p copy) (copy_of r.lv (r.first + k) c (copy_too i r r.lv (r.first + k) c there over aimed)) (sym at.disk ∙ transfer.disk) place in
      record {
        over = subst (λ n. IsTrue (covers r n b)) (sym same.volume) (subst (λ n. IsTrue (covers r r.lv n)) (sym same.block) over);
        copy = same.copy;
        is = let e : Some x ≡ Some (value (r.first + k)) = sym at.there ∙ transfer.carries k lt in (let its : x ≡ value (r.first + k) = cc in its) ∙ ap value (sym same.block);
      }

  -- It goes to data, on a disk that shows a descriptor.
  pub data_at : (i : ℕ) (r : Queued) (value : ℕ → Sector) (c : Pp) (f : Flight) (d at : ℕ) (x : Sector) → IsTransfer group.mib r value c f → written f d at ≡ Some x → (data_start ≤ at) × (d ≡ c.disk)
  data_at i r value c f d at x transfer brings =
      let is = writes_at f d at x brings in
      let low : f.first ≤ at = is.low in
      let first : f.first ≡ sector_of group.mib c.pp r.first = transfer.first in
      (omega arith, sym is.disk ∙ transfer.disk)

-- ---- what each is

-- the sectors of a status that fits its slot
slot_fits : (k : Kind) (len : ℕ) → k ≡ kind.Status → len ≤ 496 * slot_size k - 4 → record_sectors len ≤ 64
slot_fits k len is le = let e : slot_size k ≡ 64 = ap slot_size is in omega arith

-- the update's transfer writes in the slots of statuses, sectors of its record
pub record InSlots (w : RecordWrite) (d at : ℕ) (x : Sector) : Type 0 where
  pub low : 64 ≤ at
  pub high : at < 192
  pub its : IsOfRecord w d at x

pub in_slots : (s : ModelState) (device : Device) (w : RecordWrite) (u : Stamped Status) (f : Flight) (d at : ℕ) (x : Sector) → UpdateSince device w u → IsStatusFlight s w f → written f d at ≡ Some x → InSlots w d at x
in_slots s device w u f d at x since own brings =
    let is = writes_at f d at x brings in
    let low : f.first ≤ at = is.low in
    let high : at < f.first + f.count = is.high in
    let count : f.count ≡ record_sectors (length w.framed.content) = own.count in
    let fits : record_sectors (length w.framed.content) ≤ 64 = slot_fits w.kind (length w.framed.content) since.is_status since.may.frames.content in
    let first : f.first ≡ slot_start w.kind (w.slots f.disk) = own.first in
    let start : slot_start w.kind (w.slots f.disk) ≡ 64 + 64 * w.slots f.disk = ap (λ (k : Kind). slot_start k (w.slots f.disk)) since.is_status in
    let two : w.slots f.disk < 2 = since.may.slots f.disk in
    let within : at - f.first < f.count = omega arith in
    record {
      low = omega arith;
      high = omega arith;
      its = record {
        target = subst (λ n. IsTrue (w.targets n)) is.disk own.target;
        its = record {
          part = at - f.first;
          inside = omega arith;
          place = let e : slot_start w.kind (w.slots d) ≡ f.first = ap (λ n. slot_start w.kind (w.slots n)) (sym is.disk) ∙ sym first in omega arith;
          is = let e : Some x ≡ Some (frame w.kind w.framed.stamp w.framed.content (at - f.first)) = sym is.there ∙ own.carries (at - f.first) within in cc;
        };
      };
    }

-- a note's transfer writes its sector alone
pub record IsItsNote (s : ModelState) (d at : ℕ) (x : Sector) : Type 0 where
  pub place : at ≡ note_sector
  pub note : Groups
  pub flies : s.flying_note d ≡ Some note
  pub names : (lv track_group : ℕ) → names_if (note_in x) lv track_group ≡ note lv track_group

pub its_note : (s : ModelState) (f : Flight) (d at : ℕ) (x : Sector) → IsNoteFlight s f → written f d at ≡ Some x → IsItsNote s d at x
its_note s f d at x own brings =
    let is = writes_at f d at x brings in
    let low : f.first ≤ at = is.low in
    let high : at < f.first + f.count = is.high in
    let first : f.first ≡ 8 = own.first in
    let count : f.count ≡ 1 = own.count in
    let none : at - f.first ≡ 0 = omega arith in
    let same : x ≡ own.sector = let e : Some x ≡ Some own.sector = sym is.there ∙ ap (λ n. slice_get f.buf.sectors n) none ∙ own.carries in cc in
    record {
      place = omega arith;
      note = own.note;
      flies = ap s.flying_note (sym is.disk) ∙ own.flies;
      names = λ lv g. ap (λ y. names_if (note_in y) lv g) same ∙ own.names lv g;
    }

pub reads_none : (f : Flight) (d at : ℕ) (x : Sector) → f.write ≡ false → written f d at ≡ Some x → ⊥
reads_none f d at x read brings = let is = writes_at f d at x brings in let e : ◌≡◌ {A = Bool} false true = sym read ∙ is.write in absurd cc

-- What a transfer that is out writes at a sector: data of a copy, a note, or a part of the update.
pub data What (s : ModelState) (group : Descriptor) (w : Option RecordWrite) (f : Flight) (d at : ℕ) (x : Sector) : Type 0 where
  Data : IsDataFlight s group.mib f → data_start ≤ at → What s group w f d at x
  OfStep : IsStepFlight s group.mib f → data_start ≤ at → What s group w f d at x
  OfNote : IsItsNote s d at x → What s group w f d at x
  OfUpdate : (write : RecordWrite) → w ≡ Some write → IsStatusFlight s write f → InSlots write d at x → What s group w f d at x

module _ (s : ModelState) (group : Descriptor) (w : Option RecordWrite) (in_flight : Option (Stamped Status)) (device : Device) (since : OnlyUpdateSince device w in_flight) where
  pub what : (f : Flight) (d at : ℕ) (x : Sector) → IsOwned s group.mib w f → written f d at ≡ Some x → What s group w f d at x
  what f d at x (inl read) brings = absurd (reads_none f d at x read brings)
  what f d at x (inr (inl own)) brings = Data own (high own.copy.pp own.req.first own.transfer.first)
    where
      high : (pp first : ℕ) → f.first ≡ sector_of group.mib pp first → data_start ≤ at
      high pp first is = let at_least : f.first ≤ at = (writes_at f d at x brings).low in omega arith
  what f d at x (inr (inr (inl own))) brings = OfStep own (high own.step.target.pp own.req.first own.transfer.first)
    where
      high : (pp first : ℕ) → f.first ≡ sector_of group.mib pp first → data_start ≤ at
      high pp first is = let at_least : f.first ≤ at = (writes_at f d at x brings).low in omega arith
  what f d at x (inr (inr (inr (inl own)))) brings = OfNote (its_note s f d at x own brings)
  what f d at x (inr (inr (inr (inr own)))) brings = by w in_flight since own refl
    where
      by : (v : Option RecordWrite) (u : Option (Stamped Status)) → OnlyUpdateSince device v u → IsOfUpdate s v f → w ≡ v → What s group w f d at x
      by None u some of is = absurd of
      by (Some write) None some of is = absurd some
      by (Some write) (Some u) some of is = OfUpdate write is of (in_slots s device write u f d at x some of brings)

-- ---- all of it

none_there : (test : Bool) (x y : Bool) → x ≡ false → IsTrue (test && x && y) → ⊥
none_there true x y is h = let e : IsTrue (false && y) = sym (ap (λ t. t && y) is) ∙ h in absurd cc
none_there false x y is h = absurd cc

pub not_member : (contents : Contents) (group : Descriptor) (d : ℕ) → contents.descriptor d ≡ None → IsTrue (members_showing contents group d) → ⊥
not_member contents group d none is = none_there true (passes (is_of group.id) (contents.descriptor d)) (has_room contents d group) (ap (passes (is_of group.id)) none) is

-- a part of the update isn't in the data
low_of : (device : Device) (write : RecordWrite) (u : Stamped Status) (d at : ℕ) (x : Sector) → UpdateSince device write u → IsOfRecord write d at x → data_start ≤ at → ⊥
low_of device write u d at x some of high =
    let fits : record_sectors (length write.framed.content) ≤ 64 = slot_fits write.kind (length write.framed.content) some.is_status some.may.frames.content in
    let start : slot_start write.kind (write.slots d) ≡ 64 + 64 * write.slots d = ap (λ (k : Kind). slot_start k (write.slots d)) some.is_status in
    let two : write.slots d < 2 = some.may.slots d in
    let inside : of.its.part < record_sectors (length write.framed.content) = of.its.inside in
    let place : at ≡ slot_start write.kind (write.slots d) + of.its.part = of.its.place in
    omega arith

pub owners_have_out : OwnersHaveOut
owners_have_out s facts group w in_flight device media valid tied volumes all since = record {
  blocks = λ lv b p x copy out. let f = of_one device.flights p.disk (sector_of group.mib p.pp b) x all out in
      block lv b p x copy f.0 f.2 (what s group w in_flight device since f.0 p.disk (sector_of group.mib p.pp b) x f.1 f.2);
  notes = λ d x out. let f = of_one device.flights d note_sector x all out in note d x (what s group w in_flight device since f.0 d note_sector x f.1 f.2);
  statuses = statuses w in_flight since refl;
  descriptors = λ d at x out. let f = of_one device.flights d at x all out in outside d at x (what s group w in_flight device since f.0 d at x f.1 f.2);
  raw = λ d at x none low out. let f = of_one device.flights d at x all out in raw d at x none low f.0 f.2 (what s group w in_flight device since f.0 d at x f.1 f.2);
}
  where
    block : (lv b : ℕ) (p : Pp) (x : Sector) → IsTrue (s.is_copy lv b p) → (f : Flight) → written f p.disk (sector_of group.mib p.pp b) ≡ Some x → What s group w f p.disk (sector_of group.mib p.pp b) x → Brings s lv b p x ⊎ CopyBrings s lv b p x
    block lv b p x copy f brings (Data own high) =
        let h = hits group valid s facts (members_showing (contents_of (image_of device.sizes media)) group) tied volumes own.place own.req own.req.value own.copy f lv b p x own.started.there own.aimed own.transfer copy brings in
        inl (record { id = own.place; req = own.req; started = own.started; over = h.over; flies = ap own.req.targets h.copy ∙ own.flies; is = h.is })
    block lv b p x copy f brings (OfStep own high) =
        let h = hits group valid s facts (members_showing (contents_of (image_of device.sizes media)) group) tied volumes own.step.place own.req own.value own.step.target f lv b p x own.there own.aimed own.transfer copy brings in
        inr (record { step = own.step; flies = own.flies; target = sym h.copy; id = own.step.place; place = refl; req = own.req; values = own.value; there = own.there; read = own.read; past = own.past; got = own.got; over = h.over; is = h.is })
    block lv b p x copy f brings (OfNote note) = let e : sector_of group.mib p.pp b ≡ 8 = note.place in absurd (omega arith)
    block lv b p x copy f brings (OfUpdate write is own slots) = let e : sector_of group.mib p.pp b < 192 = slots.high in absurd (omega arith)

    note : (d : ℕ) (x : Sector) {f : Flight} → What s group w f d note_sector x → (n : Groups) × (s.flying_note d ≡ Some n) × ((lv track_group : ℕ) → names_if (note_in x) lv track_group ≡ n lv track_group)
    note d x (Data own high) = absurd (omega arith)
    note d x (OfStep own high) = absurd (omega arith)
    note d x (OfNote its) = (its.note, its.flies, its.names)
    note d x (OfUpdate write is own slots) = let e : 64 ≤ note_sector = slots.low in absurd (omega arith)

    outside : (d at : ℕ) (x : Sector) {f : Flight} → What s group w f d at x → IsOutsideSlots kind.Descriptor d at x
    outside d at x (Data own high) = inr (omega arith)
    outside d at x (OfStep own high) = inr (omega arith)
    outside d at x (OfNote its) = let e : at ≡ 8 = its.place in inl (omega arith)
    outside d at x (OfUpdate write is own slots) = let e : at < 192 = slots.high in inl (omega arith)

    statuses : (v : Option RecordWrite) (u : Option (Stamped Status)) → OnlyUpdateSince device v u → w ≡ v → OnlyUpdateIsOut s device u
    statuses None None none is = λ d at x out. let f = of_one device.flights d at x all out in no_status d at x (what s group w in_flight device since f.0 d at x f.1 f.2)
      where
        no_status : (d at : ℕ) (x : Sector) {f : Flight} → What s group w f d at x → IsOutsideSlots kind.Status d at x
        no_status d at x (Data own high) = inr (omega arith)
        no_status d at x (OfStep own high) = inr (omega arith)
        no_status d at x (OfNote its) = let e : at ≡ 8 = its.place in inl (omega arith)
        no_status d at x (OfUpdate write its own slots) = absurd (let e : Some write ≡ None = sym its ∙ is in cc)
    statuses (Some write) None some is = absurd some
    statuses None (Some u) some is = absurd some
    statuses (Some write) (Some u) some is = record {
      write = write;
      is_status = some.is_status;
      stamp = some.stamp;
      began = some.began;
      may = some.may;
      way = some.way;
      flying = λ d at x out of. let f = of_one device.flights d at x all out in flies d at x of f.0 f.2 (what s group w in_flight device since f.0 d at x f.1 f.2);
    }
      where
        flies : (d at : ℕ) (x : Sector) → IsOfRecord write d at x → (f : Flight) → written f d at ≡ Some x → What s group w f d at x → IsTrue (s.status_flying d)
        flies d at x of f brings (Data own high) = absurd (low_of device write u d at x some of high)
        flies d at x of f brings (OfStep own high) = absurd (low_of device write u d at x some of high)
        flies d at x of f brings (OfNote its) = absurd (
            let start : slot_start write.kind (write.slots d) ≡ 64 + 64 * write.slots d = ap (λ (k : Kind). slot_start k (write.slots d)) some.is_status in
            let place : at ≡ slot_start write.kind (write.slots d) + of.its.part = of.its.place in
            let e : at ≡ 8 = its.place in omega arith)
        flies d at x of f brings (OfUpdate other its own slots) = subst (λ n. IsTrue (s.status_flying n)) (writes_at f d at x brings).disk own.flies

    raw : (d at : ℕ) (x : Sector) → (contents_of (image_of device.sizes media)).descriptor d ≡ None → data_start ≤ at → (f : Flight) → written f d at ≡ Some x → What s group w f d at x → ⊥
    raw d at x none low f brings (Data own high) =
        let c = (copy_of group valid s facts (members_showing (contents_of (image_of device.sizes media)) group) tied volumes own.req.lv own.req.first own.copy own.aimed).member in
        let same : own.copy.disk ≡ d = sym own.transfer.disk ∙ (writes_at f d at x brings).disk in
        not_member (contents_of (image_of device.sizes media)) group d none (subst (λ n. IsTrue (members_showing (contents_of (image_of device.sizes media)) group n)) same c)
    raw d at x none low f brings (OfStep own high) =
        let c = (copy_of group valid s facts (members_showing (contents_of (image_of device.sizes media)) group) tied volumes own.req.lv own.req.first own.step.target own.aimed).member in
        let same : own.step.target.disk ≡ d = sym own.transfer.disk ∙ (writes_at f d at x brings).disk in
        not_member (contents_of (image_of device.sizes media)) group d none (subst (λ n. IsTrue (members_showing (contents_of (image_of device.sizes media)) group n)) same c)
    raw d at x none low f brings (OfNote its) = let e : at ≡ 8 = its.place in absurd (omega arith)
    raw d at x none low f brings (OfUpdate write is own slots) = let e : at < 192 = slots.high in absurd (omega arith)
