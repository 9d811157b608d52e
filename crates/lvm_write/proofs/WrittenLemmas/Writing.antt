-- What a write of a record leaves of the media, moment by moment, and one write after another.
use Rattle.std.proofs.Common.{◌≡◌, inl, inr, ⊎_elim, ℕ, ◌+◌, ◌<◌, ◌≤◌, List, [], Option, Some, None, IfSome, refl, sym, ◌∙◌, ap, subst, arith}
use Rattle.std.specs.Prelude.{IsSomeAnd, ◌∷◌, ◌++◌}
use Rattle.std.proofs.lemmas.List.{append-nil, append_assoc}
use Rattle.std.proofs.lemmas.List.Elements.{All-nil, All-cons, All-append, All-weaker}
use Rattle.std.proofs.lemmas.Bool.{cases_lt}
use Rattle.lvm_num.specs.Buffer.{Sector}
use Rattle.lvm_num.specs.Record.{frame, slot_start}
use Rattle.lvm_disk.specs.Device.{Media, Image, Flight, Range, Device, IsInFlight, IsCrashImage, image_of, MayLeave}
use Rattle.lvm_disk.specs.Steps.{BothTold, Logs}
use Rattle.lvm_disk.specs.Paths.{DeviceStep, Path}
use Rattle.lvm_disk.proofs.PathsLemmas.{append-path, map-path}
use Rattle.lvm_quorum.specs.passed.Transfer.{OnlyAdds, Plan, ChangesBy, IsPlanned, RecordWrite, IsOfRecord}
use Rattle.lvm_quorum.proofs.passed.Kept.{then_disks, further}
use Rattle.lvm_write.specs.Written.{IsWriting, IsInPlan, LogsPlan}
use Rattle.lvm_write.specs.Parts.{PartsStand}

-- ---- what is told

pub if_told : {X : Type 0} (o : Option X) (P : X → Type 0) → ((x : X) → o ≡ Some x → P x) → IfSome o P
if_told None P f = tt
if_told (Some x) P f = f x refl

pub told_at : {X : Type 0} (o : Option X) (P : X → Type 0) (x : X) → o ≡ Some x → IfSome o P → P x
told_at {X} o P x told is = subst (λ (p : Option X). IfSome p P) told is

-- what the media becomes, where it is told
pub both_at : (o n : Option Media) (R : Media → Media → Type 0) (m : Media) → BothTold o n R → o ≡ Some m → (k : Media) × (n ≡ Some k) × R m k
both_at None n R m both e = absurd (cc e)
both_at (Some a) None R m both e = absurd both
both_at (Some a) (Some k) R m both e = (k, refl, subst (λ (x : Media). R x k) (cc e) both)

-- and what it was
pub both_from : (o n : Option Media) (R : Media → Media → Type 0) (k : Media) → BothTold o n R → n ≡ Some k → (m : Media) × (o ≡ Some m) × R m k
both_from o None R k both e = absurd (cc e)
both_from None (Some a) R k both e = absurd both
both_from (Some m) (Some a) R k both e = (m, refl, subst (λ (x : Media). R m x) (cc e) both)

pub both_map : (o n : Option Media) (R Q : Media → Media → Type 0) → BothTold o n R → ((m k : Media) → o ≡ Some m → n ≡ Some k → R m k → Q m k) → BothTold o n Q
both_map None None R Q both f = tt
both_map None (Some k) R Q both f = absurd both
both_map (Some m) None R Q both f = absurd both
both_map (Some m) (Some k) R Q both f = f m k refl refl both

pub both_then : (o m n : Option Media) (R Q S : Media → Media → Type 0) → ((a b c : Media) → R a b → Q b c → S a c) → BothTold o m R → BothTold m n Q → BothTold o n S
both_then None None None R Q S f one two = tt
both_then None None (Some c) R Q S f one two = absurd two
both_then None (Some b) n R Q S f one two = absurd one
both_then (Some a) None n R Q S f one two = absurd one
both_then (Some a) (Some b) None R Q S f one two = absurd two
both_then (Some a) (Some b) (Some c) R Q S f one two = f a b c one two

pub both_same : (o : Option Media) (R : Media → Media → Type 0) → ((m : Media) → R m m) → BothTold o o R
both_same None R f = tt
both_same (Some m) R f = f m

-- what holds of each sector that is told
pub stand_told : (o n : Option Media) (R : Media → Media → Type 0) (P : Media → Type 0) → BothTold o n R → ((m k : Media) → R m k → P k) → IfSome n P
stand_told o None R P both f = tt
stand_told None (Some k) R P both f = absurd both
stand_told (Some m) (Some k) R P both f = f m k both

-- ---- changes

pub changes_more : (P Q : Plan) (a b : Image) → ((d s : ℕ) (value : Sector) → P d s value → Q d s value) → ChangesBy P a b → ChangesBy Q a b
changes_more P Q a b more by = record { same = by.same; each = λ d s. ⊎_elim (λ same. inl same) (λ p. inr (more d s (b.sector d s) p)) (by.each d s) }

pub changes_then : (P : Plan) (a b c : Image) → ChangesBy P a b → ChangesBy P b c → ChangesBy P a c
changes_then P a b c one two = further P a b c one two.same two.each

pub changes_none : (P : Plan) (a : Image) → ChangesBy P a a
changes_none P a = record { same = record { disks = refl; size = λ d. refl }; each = λ d s. inl refl }

-- what stands of the record goes on standing
pub part_stays :
    (w : RecordWrite) (a b : Image) (d part : ℕ) → ChangesBy (IsOfRecord w) a b → a.sector d (slot_start w.kind (w.slots d) + part) ≡ frame w.kind w.framed.stamp w.framed.content part
    → b.sector d (slot_start w.kind (w.slots d) + part) ≡ frame w.kind w.framed.stamp w.framed.content part
part_stays w a b d part by stands = ⊎_elim
    (λ (same : b.sector d (slot_start w.kind (w.slots d) + part) ≡ a.sector d (slot_start w.kind (w.slots d) + part)). same ∙ stands)
    (λ (is : IsOfRecord w d (slot_start w.kind (w.slots d) + part) (b.sector d (slot_start w.kind (w.slots d) + part))).
    let place = is.its.place in
    let which : is.its.part ≡ part = omega (arith, place) in
    is.its.is ∙ ap (frame w.kind w.framed.stamp w.framed.content) which)
    (by.each d (slot_start w.kind (w.slots d) + part))

-- ---- moments

crash_of : (device : Device) (m : Media) (image : Image) → device.media ≡ Some m → MayLeave device image → IsCrashImage (image_of device.sizes m) device.flights image
crash_of device m image told may = subst (λ (o : Option Media). IsSomeAnd o (λ m. IsCrashImage (image_of device.sizes m) device.flights image)) told may

own_media : (device : Device) (m : Media) → device.media ≡ Some m → MayLeave device (image_of device.sizes m)
own_media device m told = subst (λ (o : Option Media). IsSomeAnd o (λ n. IsCrashImage (image_of device.sizes n) device.flights (image_of device.sizes m))) (sym told)
    (record { same = record { disks = refl; size = λ d. refl }; each = λ d s. inl refl })

-- where nothing is out just the media is left
at_rest : (device : Device) (m : Media) (image : Image) → device.flights ≡ [] → device.media ≡ Some m → MayLeave device image → (d s : ℕ) → image.sector d s ≡ m d s
at_rest device m image none told may d s = ⊎_elim (λ same. same)
    (λ is. absurd (subst (λ (l : List Flight). IsInFlight l d s (image.sector d s)) none is))
    ((crash_of device m image told may).each d s)

module _ (P : Plan) where
  pub writing_here : (old : Device) → old.flights ≡ [] → IsWriting P old old
  writing_here old none = if_told old.media (λ media. (image : Image) → MayLeave old image → ChangesBy P (image_of old.sizes media) image)
      (λ m told image may. record { same = (crash_of old m image told may).same; each = λ d s. inl (at_rest old m image none told may d s) })

  -- one transfer of sectors of the record
  pub adds_writing : (f : Flight) (old now : Device) → old.flights ≡ [] → IsPlanned P f → OnlyAdds f old now → IsWriting P old now
  adds_writing f old now none planned adds = if_told old.media (λ media. (image : Image) → MayLeave now image → ChangesBy P (image_of old.sizes media) image)
      (λ m told image may.
      let from = adds image may in
      record {
        same = then_disks (image_of old.sizes m) from.0 image (crash_of old m from.0 told from.1).same from.2.same;
        each = λ d s. ⊎_elim (λ same. inl (same ∙ at_rest old m from.0 none told from.1 d s)) (λ put. inr (planned d s (image.sector d s) put)) (from.2.each d s);
      })

  -- what the media becomes, as the last moment says
  pub media_written : (old new : Device) → BothTold old.media new.media (λ was is. Unit {0}) → IsWriting P old new → BothTold old.media new.media (λ was is. ChangesBy P (image_of old.sizes was) (image_of new.sizes is))
  media_written old new both writing = both_map old.media new.media (λ was is. Unit {0}) (λ was is. ChangesBy P (image_of old.sizes was) (image_of new.sizes is)) both
      (λ m k was is none. told_at old.media (λ media. (image : Image) → MayLeave new image → ChangesBy P (image_of old.sizes media) image) m was writing (image_of new.sizes k) (own_media new k is))

  module _ (old mid : Device) (told : BothTold old.media mid.media (λ was is. ChangesBy P (image_of old.sizes was) (image_of mid.sizes is))) where
    writing_after : (now : Device) → IsWriting P mid now → IsWriting P old now
    writing_after now writing = if_told old.media (λ media. (image : Image) → MayLeave now image → ChangesBy P (image_of old.sizes media) image)
        (λ m was image may.
        let it = both_at old.media mid.media (λ was is. ChangesBy P (image_of old.sizes was) (image_of mid.sizes is)) m told was in
        changes_then P (image_of old.sizes m) (image_of mid.sizes it.0) image it.2
        (told_at mid.media (λ media. (image : Image) → MayLeave now image → ChangesBy P (image_of mid.sizes media) image) it.0 it.1 writing image may))

    pub moments_on : (new : Device) → Path DeviceStep (IsWriting P old) old mid → Path DeviceStep (IsWriting P mid) mid new → Path DeviceStep (IsWriting P old) old new
    moments_on new one two = append-path one (map-path (IsWriting P old) writing_after two)

-- ---- the ranges that were started

pub logs_none : (P : Plan) (a : Option (List Range)) → LogsPlan P a a
logs_none P None = tt
logs_none P (Some a) = ([], sym (append-nil a), All-nil (IsInPlan P))

pub logs_same : (P : Plan) (a b : Option (List Range)) → b ≡ a → LogsPlan P a b
logs_same P a b same = subst (λ (o : Option (List Range)). LogsPlan P a o) (sym same) (logs_none P a)

pub logs_one : (P : Plan) (a b : Option (List Range)) (range : Range) → IsInPlan P range → Logs a range b → LogsPlan P a b
logs_one P None None range inside one = tt
logs_one P None (Some b) range inside one = absurd one
logs_one P (Some a) None range inside one = tt
logs_one P (Some a) (Some b) range inside one = (range ∷ [], one, All-cons (IsInPlan P) range [] inside (All-nil (IsInPlan P)))

pub logs_then : (P : Plan) (a b c : Option (List Range)) → LogsPlan P a b → LogsPlan P b c → LogsPlan P a c
logs_then P None None None one two = tt
logs_then P None None (Some c) one two = absurd two
logs_then P None (Some b) c one two = absurd one
logs_then P (Some a) None None one two = tt
logs_then P (Some a) None (Some c) one two = absurd two
logs_then P (Some a) (Some b) None one two = tt
logs_then P (Some a) (Some b) (Some c) one two = (one.0 ++ two.0, two.1 ∙ ap (λ (l : List Range). l ++ two.0) one.1 ∙ append_assoc a one.0 two.0, All-append (IsInPlan P) one.0 two.0 one.2 two.2)

pub logs_wider : (P Q : Plan) (a b : Option (List Range)) → ((d s : ℕ) (value : Sector) → P d s value → Q d s value) → LogsPlan P a b → LogsPlan Q a b
logs_wider P Q None None more one = tt
logs_wider P Q None (Some b) more one = absurd one
logs_wider P Q (Some a) None more one = tt
logs_wider P Q (Some a) (Some b) more one =
    (one.0, one.1, All-weaker (IsInPlan P) (IsInPlan Q) (λ r inside. (inside.0, λ s low high. let it = inside.1 s low high in (it.0, more r.disk s it.0 it.1))) one.0 one.2)

-- parts that stand on the media
pub parts_stay : (w : RecordWrite) (old mid : Device) → BothTold old.media mid.media (λ was is. ChangesBy (IsOfRecord w) (image_of old.sizes was) (image_of mid.sizes is)) → (d from to : ℕ) → PartsStand w old d from to → PartsStand w mid d from to
parts_stay w old mid told d from to stand = if_told mid.media (λ media. (k : ℕ) → from ≤ k → k < to → media d (slot_start w.kind (w.slots d) + k) ≡ frame w.kind w.framed.stamp w.framed.content k)
    (λ n is k low high.
    let back = both_from old.media mid.media (λ was is. ChangesBy (IsOfRecord w) (image_of old.sizes was) (image_of mid.sizes is)) n told is in
    part_stays w (image_of old.sizes back.0) (image_of mid.sizes n) d k back.2
    (told_at old.media (λ media. (k : ℕ) → from ≤ k → k < to → media d (slot_start w.kind (w.slots d) + k) ≡ frame w.kind w.framed.stamp w.framed.content k) back.0 back.1 stand k low high))

pub no_parts : (w : RecordWrite) (device : Device) (d : ℕ) → PartsStand w device d 0 0
no_parts w device d = if_told device.media (λ media. (k : ℕ) → 0 ≤ k → k < 0 → media d (slot_start w.kind (w.slots d) + k) ≡ frame w.kind w.framed.stamp w.framed.content k)
    (λ m told k low high. absurd (omega (arith, high)))

pub parts_join : (w : RecordWrite) (device : Device) (d first to : ℕ) → PartsStand w device d 0 first → PartsStand w device d first to → PartsStand w device d 0 to
parts_join w device d first to one two =
    let Stand : ℕ → ℕ → Media → Type 0 = λ from to media. (k : ℕ) → from ≤ k → k < to → media d (slot_start w.kind (w.slots d) + k) ≡ frame w.kind w.framed.stamp w.framed.content k in
    if_told device.media (Stand 0 to)
    (λ m told k low high. ⊎_elim
    (λ (less : k < first). told_at device.media (Stand 0 first) m told one k low less)
    (λ (more : first ≤ k). told_at device.media (Stand first to) m told two k more high)
    (cases_lt k first))

-- a write of which another is a part
module _ (P Q : Plan) (more : (d s : ℕ) (value : Sector) → P d s value → Q d s value) where
  writing_wider : (old now : Device) → IsWriting P old now → IsWriting Q old now
  writing_wider old now writing = if_told old.media (λ media. (image : Image) → MayLeave now image → ChangesBy Q (image_of old.sizes media) image)
      (λ m was image may. changes_more P Q (image_of old.sizes m) image more
      (told_at old.media (λ media. (image : Image) → MayLeave now image → ChangesBy P (image_of old.sizes media) image) m was writing image may))

  pub moments_wider : (old new : Device) → Path DeviceStep (IsWriting P old) old new → Path DeviceStep (IsWriting Q old) old new
  moments_wider old new path = map-path (IsWriting Q old) (writing_wider old) path
