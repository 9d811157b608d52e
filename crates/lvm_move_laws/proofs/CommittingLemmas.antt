-- What is kept while the descriptor of a move is committed.
use Rattle.std.proofs.Common.{◌≡◌, inl, ℕ, ◌==◌, Bool, true, List, [], Option, Some, None, refl, sym, ap, subst, ◌∙◌}
use Rattle.std.specs.Prelude.{IsTrue, IfSome}
use Rattle.lvm_num.specs.declared.place.Pp.{Pp}
use Rattle.lvm_num.specs.declared.descriptor.LvRow.{LvRow}
use Rattle.lvm_num.specs.declared.descriptor.Descriptor.{Descriptor}
use Rattle.lvm_num.specs.Buffer.{Sector}
use Rattle.lvm_vol.specs.Facts.{Fact}
use Rattle.lvm_disk.specs.Device.{Device, Flight, Image, IsInFlight, Media, image_of}
use Rattle.lvm_disk.specs.Paths.{DeviceStep, Path, Here, Then}
use Rattle.lvm_kept.specs.Contents.{Contents, contents_of}
use Rattle.lvm_kept.proofs.CommittedLemmas.Finding.{images_within}
use Rattle.lvm_steps.specs.Moments.{ImagesKept}
use Rattle.lvm_steps.specs.Committing.{DiffersInVolume}
use Rattle.lvm_commit.specs.LawsOfVolumes.{VolumeServes, VolumesServe}
use Rattle.lvm_commit.proofs.LawsOfVolumesLemmas.Volumes.{one_serves}
use Rattle.lvm_invariant.specs.State.{Beside, ModelState}
use Rattle.lvm_invariant.specs.Found.{Votes}
use Rattle.lvm_crash.specs.Session.{AreVotesOf, HasVolumes, Shows}
use Rattle.lvm_even.specs.Members.{members_showing}
use Rattle.lvm_crash.specs.Flights.{HasOut, Matches}
use Rattle.lvm_crash.proofs.LawsLemmas.Images.{images_kept}
use Rattle.lvm_places.specs.Places.{Marking}
use Rattle.lvm_places.specs.Laws.{replaced}
use Rattle.lvm_places.proofs.LawsLemmas.{place_is_taken}
use Rattle.lvm_move_laws.specs.Moving.{MovesIn}
use Rattle.lvm_move_laws.specs.Serving.{IsToBe}
use Rattle.lvm_move_laws.specs.Committing.{MayTakePlace, MoveStaysKept}
use Rattle.lvm_move_laws.proofs.MovingLemmas.{moved_is_described}
use Rattle.lvm_move_laws.proofs.ServingLemmas.{move_serves}

none_out : (flights : List Flight) → flights ≡ [] → (d at : ℕ) (value : Sector) → IsInFlight flights d at value → ⊥
none_out flights none d at value is = subst (λ (l : List Flight). IsInFlight l d at value) none is

-- the state in which the copy has its new place is as it is to be
to_be : (votes : Votes) (s : ModelState) (k : Marking) (o : Beside) (group : Descriptor) (rows : List LvRow) (lv lp : ℕ) (from : Pp) (c : Contents)
    → MayTakePlace votes s k o group (record group { lvs = rows }) lv lp from c → IsToBe votes (replaced s from k) s.facts (record group { lvs = rows }) c
to_be votes s k o group rows lv lp from c may =
    let described = moved_is_described s k o group rows lv lp from s.facts c may.beside may.its may.takes may.moves may.member may.marks may.idle may.describes in
    record {
      are_votes = record { reads = may.are_votes.reads; writes = may.are_votes.writes };
      good = place_is_taken votes s from o.place k may.takes may.good;
      told = refl;
      volumes = described.0;
      shown = described.1;
    }

-- so the next descriptor may be committed
serves : (votes : Votes) (s : ModelState) (k : Marking) (o : Beside) (group next : Descriptor) (lv lp : ℕ) (from : Pp) (image : Image)
    → MayTakePlace votes s k o group next lv lp from (contents_of image) → VolumeServes (contents_of image) s.facts group lv next
serves votes s k o group next lv lp from image may =
    let be : IsToBe votes (replaced s from k) s.facts next (contents_of image) =
    subst (λ (n : Descriptor). MayTakePlace votes s k o group n lv lp from (contents_of image) → IsToBe votes (replaced s from k) s.facts n (contents_of image)) (sym may.differs.alone)
    (to_be votes s k o group next.lvs lv lp from (contents_of image)) may in
    move_serves votes (replaced s from k) s.facts group next lv (contents_of image)
    (record { within = images_within image; size = may.describes.stands.size; only = may.describes.stands.only }) may.differs be

-- each crash image is kept as it begins
kept_first : (votes : Votes) (s : ModelState) (k : Marking) (o : Beside) (group next : Descriptor) (lv lp : ℕ) (from : Pp) (device : Device) (media : Media)
    → device.media ≡ Some media → device.flights ≡ [] → MayTakePlace votes s k o group next lv lp from (contents_of (image_of device.sizes media)) → ImagesKept device s.facts
kept_first votes s k o group next lv lp from device media told none may image left =
    images_kept votes s group None device media image may.are_votes may.good (record { told = told; describes = may.describes; out = out }) left
  where
    out : HasOut s group None device media
    out = record {
      blocks = λ l b p value copy is. absurd (none_out device.flights none p.disk _ value is);
      notes = λ d value is. absurd (none_out device.flights none d _ value is);
      statuses = λ d at value is. absurd (none_out device.flights none d at value is);
      descriptors = λ d at value is. absurd (none_out device.flights none d at value is);
      raw = λ d at value shown from_data is. none_out device.flights none d at value is;
    }

path_map : {P Q : Device → Type 0} {old new : Device} → ((d : Device) → P d → Q d) → Path DeviceStep P old new → Path DeviceStep Q old new
path_map f (Here p) = Here (f _ p)
path_map f (Then path step p) = Then (path_map f path) step (f _ p)

pub move_stays_kept : MoveStaysKept
move_stays_kept votes s k o group next lv lp from status homes content old new media own held told none reads may stays =
    let c = contents_of (image_of old.sizes media) in
    let one : VolumesServe c s.facts group (λ n. n == lv) next = one_serves c s.facts group lv next (serves votes s k o group next lv lp from (image_of old.sizes media) may) in
    let all : IfSome old.media (λ m. VolumesServe (contents_of (image_of old.sizes m)) s.facts group (λ n. n == lv) next) =
    subst (λ (x : Option Media). IfSome x (λ m. VolumesServe (contents_of (image_of old.sizes m)) s.facts group (λ n. n == lv) next)) (sym told) one in
    path_map (λ d keeps. keeps group next (λ n. n == lv) s.facts reads own held all (kept_first votes s k o group next lv lp from old media told none may)) stays
