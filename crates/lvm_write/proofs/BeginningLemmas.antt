-- What one of the writes leaves of another.
use Rattle.std.proofs.Common.{◌≡◌, ⊎_elim, ℕ, ◌+◌, ◌<◌, ◌≤◌, Bool, true, false, List, length, refl, sym, ◌∙◌, subst, arith}
use Rattle.std.specs.Prelude.{if◌then◌else◌}
use Rattle.lvm_num.specs.declared.record.Kind.TheVariants as kind
use Rattle.lvm_num.specs.Buffer.{Sector}
use Rattle.lvm_num.specs.Record.{record_sectors, slot_start}
use Rattle.lvm_disk.specs.Device.{Media, Device, image_of}
use Rattle.lvm_kept.specs.Contents.{note_sector}
use Rattle.lvm_kept.specs.Plans.{ChangesBy}
use Rattle.lvm_kept.specs.Torn.{StandsOn}
use Rattle.lvm_write.specs.Written.{KeepsShelf}
use Rattle.lvm_write.proofs.WrittenLemmas.Writing.{if_told, told_at, both_from}
use Rattle.lvm_write.specs.Beginning.{Beginning, Part, TheDescriptor, TheStatus, TheNotes, describes, states, brought, PartIsWritten}

-- the sectors of each part
Region : Part → ℕ → Type 0
Region TheDescriptor s = 512 ≤ s
Region TheStatus s = (64 ≤ s) × (s < 192)
Region TheNotes s = s ≡ 8

apart : (p q : Part) (s : ℕ) → (p ≡ q → ⊥) → Region p s → Region q s → ⊥
unfolding Region
apart TheDescriptor TheDescriptor s differ a b = differ refl
apart TheDescriptor TheStatus s differ a b = let c = b.1 in omega (arith, a, c)
apart TheDescriptor TheNotes s differ a b = omega (arith, a, b)
apart TheStatus TheDescriptor s differ a b = let c = a.1 in omega (arith, b, c)
apart TheStatus TheStatus s differ a b = differ refl
apart TheStatus TheNotes s differ a b = let c = a.0 in omega (arith, b, c)
apart TheNotes TheDescriptor s differ a b = omega (arith, a, b)
apart TheNotes TheStatus s differ a b = let c = b.0 in omega (arith, a, c)
apart TheNotes TheNotes s differ a b = differ refl

far : (second : Bool) (k : ℕ) → 512 ≤ slot_start kind.Descriptor (if second then 1 else 0) + k
far true k = omega arith
far false k = omega arith

near : (second : Bool) (len k : ℕ) → len ≤ 31740 → k < record_sectors len → (64 ≤ slot_start kind.Status (if second then 1 else 0) + k) × (slot_start kind.Status (if second then 1 else 0) + k < 192)
near true len k fits less = (omega arith, omega (arith, fits, less))
near false len k fits less = (omega arith, omega (arith, fits, less))

module _ (b : Beginning) (fits : length b.status.content ≤ 31740) where
  of_region : (q : Part) (d s : ℕ) (value : Sector) → brought b q d s value → Region q s
  unfolding Region
  of_region TheDescriptor d s value is = subst (λ (n : ℕ). 512 ≤ n) (sym is.its.place) (far (Rattle.lvm_rec.specs.Homes.second_slots kind.Descriptor b.homes d) is.its.part)
  of_region TheStatus d s value is = subst (λ (n : ℕ). (64 ≤ n) × (n < 192)) (sym is.its.place) (near (Rattle.lvm_rec.specs.Homes.second_slots kind.Status b.homes d) (length b.status.content) is.its.part fits is.its.inside)
  of_region TheNotes d s value is = is.place

  -- sectors of one part are what they were, where another was written
  same_sector : (p q : Part) (was is : Media) (sizes now : List ℕ) (d s : ℕ) → (p ≡ q → ⊥) → Region p s → ChangesBy (brought b q) (image_of sizes was) (image_of now is) → is d s ≡ was d s
  same_sector p q was is sizes now d s differ here by = ⊎_elim
      (λ (same : is d s ≡ was d s). same)
      (λ (brings : brought b q d s (is d s)). absurd (apart p q s differ here (of_region q d s (is d s) brings)))
      (by.each d s)

  -- what stands of one part goes on standing while another is written
  pub still_stands : (p q : Part) (mid new : Device) (d : ℕ) → (p ≡ q → ⊥) → KeepsShelf b.targets (brought b q) mid new → PartIsWritten b p mid d → PartIsWritten b p new d
  unfolding Region
  still_stands TheDescriptor q mid new d differ keeps stands = if_told new.media (λ media. StandsOn (describes b) (image_of new.sizes media) d)
      (λ n told k inside.
      let back = both_from mid.media new.media (λ was is. ChangesBy (brought b q) (image_of mid.sizes was) (image_of new.sizes is)) n keeps.media told in
      same_sector TheDescriptor q back.0 n mid.sizes new.sizes d (slot_start kind.Descriptor ((describes b).slots d) + k) differ (far (Rattle.lvm_rec.specs.Homes.second_slots kind.Descriptor b.homes d) k) back.2
      ∙ told_at mid.media (λ media. StandsOn (describes b) (image_of mid.sizes media) d) back.0 back.1 stands k inside)
  still_stands TheStatus q mid new d differ keeps stands = if_told new.media (λ media. StandsOn (states b) (image_of new.sizes media) d)
      (λ n told k inside.
      let back = both_from mid.media new.media (λ was is. ChangesBy (brought b q) (image_of mid.sizes was) (image_of new.sizes is)) n keeps.media told in
      same_sector TheStatus q back.0 n mid.sizes new.sizes d (slot_start kind.Status ((states b).slots d) + k) differ (near (Rattle.lvm_rec.specs.Homes.second_slots kind.Status b.homes d) (length b.status.content) k fits inside) back.2
      ∙ told_at mid.media (λ media. StandsOn (states b) (image_of mid.sizes media) d) back.0 back.1 stands k inside)
  still_stands TheNotes q mid new d differ keeps stands = if_told new.media (λ media. media d note_sector ≡ Rattle.lvm_write.specs.Notes.empty_note_sector b.epoch)
      (λ n told.
      let back = both_from mid.media new.media (λ was is. ChangesBy (brought b q) (image_of mid.sizes was) (image_of new.sizes is)) n keeps.media told in
      same_sector TheNotes q back.0 n mid.sizes new.sizes d note_sector differ refl back.2
      ∙ told_at mid.media (λ media. media d note_sector ≡ Rattle.lvm_write.specs.Notes.empty_note_sector b.epoch) back.0 back.1 stands)
