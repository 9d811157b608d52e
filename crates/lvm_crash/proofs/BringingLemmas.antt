-- The ends of reads, and of writes to the copy that is being brought up.
use Rattle.std.proofs.Common.{◌≡◌, inl, inr, ⊎_elim, ℕ, ◌+◌, ◌-◌, ◌<◌, ◌≤◌, [], refl, sym, ap, subst, ◌∙◌, arith}
use Rattle.std.specs.Prelude.{IsTrue}
use Rattle.std.proofs.lemmas.Option.{get_or_from_slice_get}
use Rattle.lvm_num.specs.Geometry.{sector_of}
use Rattle.lvm_disk.specs.Device.{image_of}
use Rattle.lvm_kept.specs.Contents.{contents_of}
use Rattle.lvm_kept.proofs.PlacesLemmas.{blocks_are_sectors}
use Rattle.lvm_invariant.specs.CopyWrite.{CopyWrites, copied}
use Rattle.lvm_invariant.specs.Events.{CopyWrite}
use Rattle.lvm_even.specs.Members.{members_showing}
use Rattle.lvm_crash.proofs.LastingLemmas.Lasting.{description_lasts}
use Rattle.lvm_crash.specs.Writing.{after_write}
use Rattle.lvm_crash.specs.Bringing.{ReadLeaves, ReadGets, StepEndsOnDisks}
use Rattle.lvm_crash.proofs.OwnedLemmas.{covered, copy_too, stands_at, reads_none}
use Rattle.lvm_crash.proofs.WritingLemmas.{group_kept, records_same, shows_records, seen, seen_whole, shown}

pub read_leaves : ReadLeaves
read_leaves f well m n read lands =
    let each : (d s : ℕ) → n d s ≡ m d s = λ d s. ⊎_elim (λ same. same) (λ brings. absurd (reads_none f d s (n d s) read brings)) (lands.some d s) in
    λ t d s. each d s t

pub read_gets : ReadGets
read_gets votes s i r c group in_flight sizes m f buf valid good describes there aimed reading reads lv b over =
    let members = members_showing (contents_of (image_of sizes m)) group in
    let its = covered r lv b over in
    let low : r.first ≤ b = its.1 in
    let high : b < r.first + r.count = its.2 in
    let k : ℕ = b - r.first in
    let back : r.first + k ≡ b = omega arith in
    let lt : k < r.count = omega arith in
    let count : f.count ≡ r.count = reading.count in
    let got = reads k (omega arith) in
    let place : f.first + k ≡ sector_of group.mib c.pp b = let first : f.first ≡ sector_of group.mib c.pp r.first = reading.first in let e = stands_at group valid s s.facts members good.sound.tied describes.volumes i r c.pp k there lt in let e2 : sector_of group.mib c.pp (r.first + k) ≡ sector_of group.mib c.pp b = ap (sector_of group.mib c.pp) back in omega arith in
    let copy : IsTrue (s.is_copy lv b c) = subst (λ v. IsTrue (s.is_copy v b c)) its.0 (copy_too group valid s s.facts members good.sound.tied describes.volumes i r lv b c there over aimed) in
    get_or_from_slice_get buf.sectors k (m f.disk (f.first + k)) [] got
    ∙ ap (λ d. m d (f.first + k)) reading.disk
    ∙ ap (m c.disk) place
    ∙ sym (blocks_are_sectors (image_of sizes m) group.mib b c)
    ∙ sym (describes.shown.blocks lv b c copy)

pub step_ends : StepEndsOnDisks
step_ends votes s i r value target open_copy step_write group in_flight sizes m n f well valid good describes there read past got aimed transfer lands opened =
    let now = contents_of (image_of sizes n) in
    let block = after_write s group.mib r target now in
    let may : CopyWrites s i r value target open_copy block = record {
      there = there;
      read = read;
      past = past;
      got = got;
      media = seen votes s i r target value group in_flight sizes m n f well valid good describes there aimed transfer lands;
      open_now = ⊎_elim (λ same. inl same) (λ how. inr (let p = how.1 in record {
        old = p.old;
        new = p.new;
        is_open = p.is_open;
        is_now = p.is_now;
        own = p.own;
        same_target = p.same_target;
        still = p.still;
        passes = λ lv b passed. ⊎_elim (λ (before : IsTrue (p.old.passed lv _)). inl before) (λ here. inr (λ copy. let over = here copy in
            (over, ap (block lv b) p.own ∙ seen_whole votes s i r target value group in_flight sizes m n f well valid good describes there aimed transfer lands how.0 lv b over))) (p.passes lv b passed);
      })) opened;
    } in
    record {
      may = may;
      describes = description_lasts votes (CopyWrite i r value target open_copy step_write block) s (copied s block open_copy step_write) group in_flight in_flight (contents_of (image_of sizes m)) now
          (may, refl) good tt describes
          (group_kept votes s i r target value group in_flight sizes m n f well valid good describes there aimed transfer lands)
          (shows_records sizes m n s (copied s block open_copy step_write) group in_flight
          (records_same votes s i r target value group in_flight sizes m n f well valid good describes there aimed transfer lands) describes.shown refl refl (λ d lv g. refl) (λ d. refl)
          (shown votes s i r target value group in_flight sizes m n f well valid good describes there aimed transfer lands));
    }
