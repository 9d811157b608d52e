-- What a call leaves, by what its transfers and its entries did.
use Rattle.std.proofs.Common.{◌≡◌, ◌⊎◌, inl, inr, ⊎_elim, ℕ, ◌+◌, Bool, true, false, cond, List, [], ◌∷◌, ◌++◌, count_by, Option, Some, None, refl, sym, ap, subst, ◌∙◌, arith}
use Rattle.std.specs.Prelude.{IfSome, IsSomeAnd, IsTrue, if◌then◌else◌}
use Rattle.std.proofs.lemmas.Bool.{false≢true}
use Rattle.std.proofs.lemmas.List.Sums.{sum_by-append}
use Rattle.lvm_num.specs.declared.place.Pp.{Pp}
use Rattle.lvm_num.specs.declared.status.StatusRow.{StatusRow}
use Rattle.lvm_num.specs.declared.descriptor.Descriptor.{Descriptor}
use Rattle.lvm_num.specs.Status.{calls_stale, calls_missing, calls_dirty}
use Rattle.lvm_num.proofs.Booleans.{false_by}
use Rattle.lvm_disk.specs.Device.{Media, Image, Device, image_of, MayLeave}
use Rattle.lvm_disk.specs.Steps.{BothTold}
use Rattle.lvm_vol.specs.Facts.{Fact, Cut}
use Rattle.lvm_vol.specs.Legal.{IsLater}
use Rattle.lvm_vol.specs.Log.{Log, with_fact, is_uncut, cut_log}
use Rattle.lvm_kept.specs.Contents.{contents_of}
use Rattle.lvm_kept.specs.Group.{IsFound}
use Rattle.lvm_commit.proofs.passed.Steps.{media_may, later_append}
use Rattle.lvm_status.specs.Update.{Stored}
use Rattle.lvm_commit.specs.LawsOfFinding.{FindsNothingNew, FindsNoMore, FindsNothingNewOn, FindsNoMoreOn}
use Rattle.lvm_commit.specs.Settling.{IsPassedOver}
use Rattle.lvm_session.specs.State.{State}
use Rattle.lvm_core.specs.Leaves.{WasLeftBehind, KeepsStatus, is_of_volume, EntersVolumes, KeepsHistory, MayBeFound, FindsOnly}

-- ---- what is told

-- where the new media is told the old one is
told_before : (R : Media → Media → Type 0) (old new : Option Media) (P : Type 0) → BothTold old new R → ((m : Media) → old ≡ Some m → P) → IsSomeAnd new (λ n. Unit {0}) → P
told_before R None None P both some told = absurd told
told_before R None (Some n) P both some told = absurd both
told_before R (Some m) None P both some told = absurd told
told_before R (Some m) (Some n) P both some told = some m refl

may_told : (device : Device) (image : Image) → MayLeave device image → IsSomeAnd device.media (λ n. Unit {0})
may_told device image may = by_media device.media may
  where
    by_media : (o : Option Media) → MayLeave (record device { media = o }) image → IsSomeAnd o (λ n. Unit {0})
    by_media None may = absurd may
    by_media (Some m) may = tt

-- what holds where it is told, at the media
at_media : (o : Option Media) (P : Media → Type 0) (m : Media) → o ≡ Some m → IfSome o P → P m
at_media o P m is holds = subst (λ (x : Option Media). IfSome x P) is holds

-- ---- histories

-- a volume's entries
entries_with : (facts : List Fact) (f : Fact) → count_by is_of_volume (facts ++ f ∷ []) ≡ count_by is_of_volume facts + count_by is_of_volume (f ∷ [])
entries_with facts f = sum_by-append (λ x. cond (is_of_volume x) 1 0) facts (f ∷ [])

pub enters_one : (facts : List Fact) (f : Fact) → is_of_volume f ≡ true → EntersVolumes facts (facts ++ f ∷ [])
enters_one facts f is =
    let sum = entries_with facts f in
    let one : count_by is_of_volume (f ∷ []) ≡ 1 = ap (λ (b : Bool). 0 + cond b 1 0) is in
    omega (arith, sum, one)

pub keeps_same : (was is : Log) → is ≡ was → KeepsHistory was is
keeps_same was is same = subst (λ (l : Log). KeepsHistory was l) (sym same) (record { room = refl; volumes = omega arith; later = λ moment later. later })

-- with an entry that isn't a varyon
pub keeps_fact : (was : Log) (f : Fact) → ((moment : ℕ) → IsLater (f ∷ []) moment) → KeepsHistory was (with_fact was f)
keeps_fact was f later = record { room = refl; volumes = let sum = entries_with was.facts f in omega (arith, sum); later = λ moment is. later_append was.facts (f ∷ []) moment is (later moment) }

pub keeps_cut : (was : Log) → KeepsHistory was (cut_log was)
keeps_cut was = by_test (is_uncut was.facts)
  where
    by_test : (t : Bool) → KeepsHistory was (if t then with_fact was Cut else was)
    by_test true = keeps_fact was Cut (λ moment. tt)
    by_test false = record { room = refl; volumes = omega arith; later = λ moment is. is }

-- ---- what is found

module _ (N : Descriptor → Type 0) (a b : State) (R : Media → Media → Type 0) (both : BothTold a.device.media b.device.media R) where
  abbrev Was : ℕ → Descriptor → Type 0
  Was id k = MayBeFound a.device id k ⊎ ((id ≡ k.id) × N k)

  -- nothing else is found
  pub finds_nothing : FindsNothingNewOn a.device b.device → FindsOnly N a b
  finds_nothing finds held id k is = told_before R a.device.media b.device.media (Was id k) both (λ m told.
      inl (image_of a.device.sizes m, media_may a.device m told, at_media a.device.media (λ (x : Media). FindsNothingNew (contents_of (image_of a.device.sizes x)) (contents_of is.0)) m told (finds is.0 is.1) id k is.2))
      (may_told b.device is.0 is.1)

  -- or the next
  pub finds_next : (next : Descriptor) → N next → FindsNoMoreOn next a.device b.device → FindsOnly N a b
  finds_next next its finds held id k is = told_before R a.device.media b.device.media (Was id k) both (λ m told. ⊎_elim
      (λ (was : IsFound (contents_of (image_of a.device.sizes m)) id k). inl (image_of a.device.sizes m, media_may a.device m told, was))
      (λ (new : (id ≡ next.id) × (k ≡ next)). inr (new.0 ∙ ap (λ (d : Descriptor). d.id) (sym new.1), subst N (sym new.1) its))
      (at_media a.device.media (λ (x : Media). FindsNoMore next (contents_of (image_of a.device.sizes x)) (contents_of is.0)) m told (finds is.0 is.1) id k is.2))
      (may_told b.device is.0 is.1)

-- ---- the status

-- a copy that a commit passes over is left behind
pub passed_behind : (N : Descriptor → Type 0) (F : Pp → Type 0) (a b : State) (group : Descriptor) → (group ≡ a.core.descriptor) ⊎ N group
    → ((p : Pp) → (F p → ⊥) → IsTrue (calls_stale a.core.status.wanted p) → IsTrue (calls_stale b.core.status.wanted p))
    → (p : Pp) → IsTrue (calls_stale b.core.status.wanted p) → IsPassedOver group a.core.status b.core.status p → WasLeftBehind N F a b p
passed_behind N F a b group known stale p gone is = record {
  group = group;
  known = known;
  its = is.its;
  absent = is.absent;
  apart = λ same. false≢true (sym is.fresh ∙ ap (calls_stale b.core.status.wanted) same ∙ gone);
  usable = λ out. false_by (calls_stale a.core.status.wanted is.its.other) (calls_stale b.core.status.wanted is.its.other) (stale is.its.other out) is.fresh;
  was_there = is.was_there;
}

-- where the status is the same
pub same_status : (N : Descriptor → Type 0) (S F : Pp → Type 0) (D : ℕ → Type 0) (a b : State) → b.core.status ≡ a.core.status → KeepsStatus N S F D a b
same_status N S F D a b same = record {
  group = ap (λ (s : Stored). s.group) same;
  rows = record { id = ap (λ (s : Stored). s.wanted.id) same; big = ap (λ (s : Stored). s.wanted.big) same; disks = ap (λ (s : Stored). Rattle.std.specs.Prelude.map (λ (r : StatusRow). r.disk) s.wanted.rows) same };
  stale = λ p off is. subst (λ (s : Stored). IsTrue (calls_stale s.wanted p)) (sym same) is;
  further = λ p is. inl (subst (λ (s : Stored). IsTrue (calls_stale s.wanted p)) same is);
  dirty = λ lv out. ap (λ (s : Stored). calls_dirty s.wanted lv) same;
  stays = λ d is. subst (λ (s : Stored). IsTrue (calls_missing s.wanted d)) (sym same) is;
  lost = λ d is isnt. absurd (false≢true (sym isnt ∙ subst (λ (s : Stored). IsTrue (calls_missing s.wanted d)) same is));
}
