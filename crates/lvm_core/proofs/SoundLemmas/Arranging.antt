-- A session stays sound when its shelf is told to fail, to heal or to cut the power.
use Rattle.std.proofs.Common.{◌≡◌, inl, inr, ℕ, ◌+◌, Bool, true, false, List, [], ◌∷◌, map, refl, sym, ◌∙◌, ap, subst, arith}
use Rattle.std.specs.Prelude.{cond, count_by}
use Rattle.std.proofs.lemmas.List.Sums.{sum_by-append}
use Rattle.lvm_disk.specs.Device.{Device, Flight}
use Rattle.lvm_disk.specs.Steps.{Cuts, GoesDark, with_order, ArrangeGives}
use Rattle.lvm_disk.specs.declared.shelf.Arrange.{Arrange}
use Rattle.lvm_disk.specs.declared.shelf.Arrange.TheVariants as arrange
use Rattle.lvm_session.specs.declared.open.Power.TheVariants as power
use Rattle.lvm_session.specs.State.{Core, state}
use Rattle.lvm_session.specs.Dark.{all_dark, after_arrange}
use Rattle.lvm_session.specs.Placed.{ArePlaced}
use Rattle.lvm_session.specs.Sound.{IsDark, has_number, is_dark}
use Rattle.lvm_core.specs.Sound.{HasNoneOpen, IsSoundAtRest}
use Rattle.lvm_core.proofs.SoundLemmas.Dark.{cut_core, cut_fits, cut_landed, dark_is, on_shelf, out_is}
use Rattle.lvm_core.proofs.SoundLemmas.Own.{SameSizes, same_sizes}

-- a shelf that has as large disks and as many buffers out, and whose power and flights allow it
pub record IsLike (old new : Device) : Type 0 where
  pub sizes : new.sizes ≡ old.sizes
  pub out : (n : ℕ) → on_shelf new n ≡ on_shelf old n

-- only the orders of a shelf have changed
pub ordered_sound : (device : Device) (core : Core) (what : Arrange) → IsSoundAtRest (state device core) → IsSoundAtRest (state (with_order device what) core)
ordered_sound device core what sound = record {
  fitting = sound.fitting;
  none = sound.none;
  landed = sound.landed;
  placed = sound.placed;
  buffers = sound.buffers;
  none_lost = sound.none_lost;
  quiet = sound.quiet;
  lit = λ is. let lit = sound.lit is in record { power = lit.power; freed = lit.freed };
  dark = λ is. let dark = sound.dark is in record { power = dark.power; flights = dark.flights };
  heard = sound.heard;
}

-- the session after a power cut, on a shelf without power on which nothing is under way
dark_sound : (old new : Device) (core : Core) → IsSoundAtRest (state old core) → IsLike old new → IsDark new → IsSoundAtRest (state new (all_dark core))
dark_sound old new core sound like dark = subst (λ (c : Core). IsSoundAtRest (state new c)) (sym (dark_is core sound.none)) (record {
  fitting = cut_fits core sound.fitting;
  none = record { requests = refl; copy = refl };
  landed = cut_landed core.history sound.landed;
  placed = subst (λ sizes. ArePlaced sizes core.descriptor core.status.wanted) (sym like.sizes) sound.placed;
  buffers = λ n.
      let few = sound.buffers n in
      let was = out_is old core n sound.none in
      let is = out_is new (cut_core core) n (record { requests = refl; copy = refl }) in
      let same = like.out n in
      omega (arith, few, was, is, same);
  none_lost = λ is. absurd (let e : ◌≡◌ {A = Bool} true false = is in cc);
  quiet = λ quiet. dark.flights;
  lit = λ is. absurd (let e : ◌≡◌ {A = Bool} true false = is in cc);
  dark = λ is. dark;
  heard = λ is. absurd (let e : power.Dark ≡ power.Stuck = is in cc);
})

count_map : {X Y : Type 0} (p : Y → Bool) (f : X → Y) → (xs : List X) → count_by p (map f xs) ≡ count_by (λ x. p (f x)) xs
count_map p f [] = refl
count_map p f (x ∷ xs) =
    sum_by-append (λ y. cond (p y) 1 0) (f x ∷ []) (map f xs)
    ∙ ap (λ k. (0 + cond (p (f x)) 1 0) + k) (count_map p f xs)
    ∙ sym (sum_by-append (λ y. cond (p (f y)) 1 0) (x ∷ []) xs)

-- the buffers of the flights that a cut gave up are to be freed
cut_is_like : (old new : Device) → Cuts old new → IsLike old new
cut_is_like old new cuts = record {
  sizes = ap (λ (d : Device). d.sizes) cuts.new_is;
  out = λ n.
      ap (λ (d : Device). on_shelf d n) cuts.new_is
      ∙ ap (λ k. 0 + k) (sum_by-append (λ b. cond (has_number n b) 1 0) old.freed (map (λ (f : Flight). f.buf) old.flights) ∙ ap (λ k. count_by (has_number n) old.freed + k) (count_map (has_number n) (λ (f : Flight). f.buf) old.flights))
      ∙ omega arith;
}

-- Without power nothing is under way, when it has just been cut and when it was off.
cut_is_dark : (old new : Device) (core : Core) → IsSoundAtRest (state old core) → new.power ≡ false → GoesDark old new → IsLike old new × IsDark new
cut_is_dark old new core sound off (inl was) =
    let same = was.1 in (
      record { sizes = ap (λ (d : Device). d.sizes) same; out = λ n. ap (λ (d : Device). on_shelf d n) same },
      record { power = off; flights = ap (λ (d : Device). d.flights) same ∙ by_power (is_dark core.power) refl },
    )
  where
    by_power : (b : Bool) → is_dark core.power ≡ b → old.flights ≡ []
    by_power true is = (sound.dark is).flights
    by_power false is = absurd (let lit = (sound.lit is).power in let dark = was.0 in cc (lit, dark))
cut_is_dark old new core sound off (inr cuts) =
    (cut_is_like old new cuts, record { power = off; flights = ap (λ (d : Device). d.flights) cuts.new_is })

pub arranged_sound : (old new : Device) (core : Core) (what : Arrange) (done : Bool) → ArrangeGives old new what done → IsSoundAtRest (state old core) → IsSoundAtRest (state new (after_arrange what done core))
arranged_sound old new core what false gives sound = subst (λ (d : Device). IsSoundAtRest (state d core)) (sym gives.1) sound
arranged_sound old new core (arrange.Fail disk) true gives sound = subst (λ (d : Device). IsSoundAtRest (state d core)) (sym gives.1) (ordered_sound old core (arrange.Fail disk) sound)
arranged_sound old new core (arrange.Heal disk) true gives sound = subst (λ (d : Device). IsSoundAtRest (state d core)) (sym gives.1) (ordered_sound old core (arrange.Heal disk) sound)
arranged_sound old new core (arrange.Cut word) true gives sound =
    let what = arrange.Cut word in
    let ordered = ordered_sound old core what sound in
    let its = cut_is_dark (with_order old what) new core ordered gives.1.0 gives.1.1 in
    dark_sound (with_order old what) new core ordered its.0 its.1

-- the table has the room that it had, and the pool its buffers
pub arranged_sizes : (what : Arrange) (done : Bool) (core : Core) → HasNoneOpen core → SameSizes core (after_arrange what done core)
arranged_sizes what false core none = same_sizes core
arranged_sizes (arrange.Fail disk) true core none = same_sizes core
arranged_sizes (arrange.Heal disk) true core none = same_sizes core
arranged_sizes (arrange.Cut word) true core none = subst (SameSizes core) (sym (dark_is core none)) (record { most = refl; buffers = refl })
