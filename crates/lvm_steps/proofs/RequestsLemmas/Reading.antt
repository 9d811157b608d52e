-- The moments of a read of a disk in no group.
use Rattle.std.proofs.Common.{◌≡◌, inl, ⊎_elim, ◌+◌, ◌<◌, ◌≤◌, ◌∷◌, ◌++◌, [], ℕ, List, Bool, Option, Some, None, true, false, if◌then◌else◌, is_some, count_by, length, take, IfSome, IsSome, refl, sym, ◌∙◌, subst, arith, append_assoc}
use Rattle.std.proofs.lemmas.List.{length-take}
use Rattle.lvm_num.specs.Buffer.{Buffer, Sector}
use Rattle.lvm_num.specs.Geometry.{data_start}
use Rattle.lvm_num.specs.Record.{Stamped}
use Rattle.lvm_num.specs.declared.descriptor.Descriptor.{Descriptor}
use Rattle.lvm_kept.specs.passed.Disk.{Media, Image, Flight, Device, image_of, MayLeave, BothTold, Puts, ReadsRange, IsRange, LeavesNoMore, DiffersBy, DeviceStep, Path}
use Rattle.lvm_vol.specs.declared.entry.Vol.TheVariants.{Disk}
use Rattle.lvm_vol.specs.declared.entry.Outcome.{Outcome}
use Rattle.lvm_vol.specs.declared.entry.Outcome.TheVariants as outcome
use Rattle.lvm_vol.specs.Facts.{Fact, Request, Begun, Landed, Taken, Cut, is_over}
use Rattle.lvm_vol.specs.May.{Known, known, change, May}
use Rattle.lvm_vol.specs.Legal.{begins_in, Gets}
use Rattle.lvm_kept.specs.Contents.{contents_of, descriptor_on}
use Rattle.lvm_kept.specs.Kept.{RawAgrees, Kept}
use Rattle.lvm_kept.specs.Moments.{Moment}
use Rattle.lvm_kept.specs.Raw.{raw_request, OnlyAdds, HasNothingOut}
use Rattle.lvm_kept.proofs.RawLemmas.Keeping.{of_kept, kept_more}
use Rattle.lvm_kept.proofs.RawLemmas.Getting.{got_fits, got_kept}
use Rattle.lvm_kept.proofs.FactsLemmas.{got_is, within}
use Rattle.lvm_kept.proofs.MomentsLemmas.Spans.{at_moment, from_before}
use Rattle.lvm_steps.specs.Moments.{RunBegins, Keeps}
use Rattle.lvm_steps.specs.Requests.{IsInNoGroup, answered, darkened, read_flight, ReadGotKeeps, ReadFailedKeeps, ReadDarkKeeps, ReadStuckKeeps}
use Rattle.lvm_steps.proofs.RequestsLemmas.Masks.{masked, to_masked, of_masked, descriptors_same, data_by}
use Rattle.lvm_steps.proofs.RequestsLemmas.Writing.{IsUnderWay, begins_moment, goes_on, lands_moment, takes_moment, dark_moment}

module _ (run id disk at count ticket : ℕ) (sent : Buffer) (old : Device) (facts : List Fact) (next : id ≡ count_by (begins_in run) facts + 1) where
  abbrev it : Request
  it = raw_request run id disk at count false []

  -- a read's flight, which brings nothing to the disks
  abbrev f : Flight
  f = read_flight ticket disk at count sent

  abbrev first : Moment
  first = at_moment old facts

  -- an image that differs by nothing is kept alike
  same_image : (before image : Image) (facts : List Fact) → DiffersBy f before image → Kept (contents_of before) facts → Kept (contents_of image) facts
  same_image before image facts differs kept =
      data_by before image f (λ d s lt. refl) (λ d s x put. absurd (cc (put))) differs facts
      (λ d b there none low high. subst (May (known (facts ++ Cut ∷ []) (Disk d) b)) (sym (data_same d b))
      (kept.agrees.raw d b (subst (λ (n : ℕ). d < n) differs.same.disks there) (sym (descriptors_same before image f (λ d s lt. refl) (λ d s x put. absurd (cc (put))) differs d) ∙ none) low (subst (λ (n : ℕ). b < n) (differs.same.size d) high)))
      kept
    where
      data_same : (d b : ℕ) → (contents_of image).block d b ≡ (contents_of before).block d b
      data_same d b = let same : image.sector d b ≡ before.sector d b = ⊎_elim (λ is. is) (λ put. absurd (cc (put))) (differs.each d b) in λ t. if Rattle.std.specs.Prelude.nat_lt b data_start then [] else same t

  pub read_goes : (device : Device) → Path DeviceStep (OnlyAdds f old) old device → IsUnderWay run first it device (facts ++ Begun it ∷ [])
  read_goes device path = goes_on (OnlyAdds f old) run first it old device (facts ++ Begun it ∷ []) (begins_moment run old facts it refl next tt)
      (λ past begins holds d adds image may. let from = adds image may in same_image from.0 image (past ++ (facts ++ Begun it ∷ [])) from.2 (holds.kept from.0 from.1))
      path

  either_way : (t : Bool) (k : Known) → (if t then k else k) ≡ k
  either_way true k = refl
  either_way false k = refl

  -- a read that lands without blocks changes nothing that is known
  landed_still : (facts : List Fact) (image : Image) (how : Outcome) (started : Bool) → ((k : Known) (d b : ℕ) → change (Landed it how started []) (Disk d) b k ≡ k) → RawAgrees (contents_of image) facts
      → RawAgrees (contents_of image) (facts ++ Landed it how started [] ∷ [])
  landed_still facts image how started same raw = of_masked image (facts ++ Landed it how started [] ∷ []) (kept_more (masked image) facts (Landed it how started []) (λ d b there low high.
      subst (λ (k : Known). May (Rattle.lvm_vol.specs.May.cut b k) (image.sector d b)) (sym (same (known facts (Disk d) b) d b)) (of_kept (masked image) facts (to_masked image facts raw) d b there low high)))

  -- it failed
  pub read_failed : (new : Device) → Path DeviceStep (OnlyAdds f old) old new → Keeps run first (at_moment new (answered facts it outcome.ReadFailed []))
  read_failed new path = takes_moment run first it new ((facts ++ Begun it ∷ []) ++ Landed it outcome.ReadFailed true [] ∷ [])
      (lands_moment run first it new (facts ++ Begun it ∷ []) outcome.ReadFailed true [] (read_goes new path) tt refl (λ past begins holds. tt)
      (λ past begins holds image may. landed_still (past ++ (facts ++ Begun it ∷ [])) image outcome.ReadFailed true (λ k d b. either_way (is_over it (Disk d) b) k) (holds.kept image may).agrees.raw))

  -- the power was cut, and is put on again
  pub read_dark : (dark new : Device) (started : Bool) → Path DeviceStep (OnlyAdds f old) old dark → Path DeviceStep (LeavesNoMore dark) dark new → Keeps run first (at_moment new (darkened facts it started))
  read_dark dark new started path lit =
      dark_moment run first it dark new (facts ++ Begun it ∷ []) started (read_goes dark path) tt tt (λ past begins holds. tt)
      (λ past begins holds image may. landed_still (past ++ ((facts ++ Begun it ∷ []) ++ Cut ∷ [])) image outcome.Dark started (λ k d b. either_way (is_over it (Disk d) b) k) (holds.kept image may).agrees.raw)
      lit

  -- ---- it got its blocks

  module _ (new : Device) (path : Path DeviceStep (OnlyAdds f old) old new) (still : HasNothingOut old new) (puts : BothTold old.media new.media (Puts f)) (buf : Buffer) (reads : IfSome old.media (λ m. ReadsRange m f buf))
      (long : count ≤ length buf.sectors) (range : IsRange old disk at count) (low : data_start ≤ at) (none : IsInNoGroup old disk) where
    abbrev got : List Sector
    got = take count buf.sectors

    -- the image that stands there
    there_image : IsSome old.media → (image : Image) × MayLeave new image
    there_image told = go old.media new.media refl told puts
      where
        go : (a b : Option Media) → new.media ≡ b → IsSome a → BothTold a b (Puts f) → (image : Image) × MayLeave new image
        go None b is some puts = absurd (cc (some))
        go (Some m) None is some puts = absurd puts
        go (Some m) (Some n) is some puts = (image_of new.sizes n, subst (λ (o : Option Media). MayLeave (record new { media = o }) (image_of new.sizes n)) (sym is) (record { same = record { disks = refl; size = λ d. refl }; each = λ d s. inl refl }))

    -- before it landed every image that may be left now was kept, and showed no descriptor on the disk
    pub record KeptBefore (past : List Fact) (image : Image) : Type 0 where
      pub kept : Kept (contents_of image) (past ++ facts)
      pub shows : descriptor_on image disk ≡ None

    kept_before : (past : List Fact) → RunBegins run past first → (image : Image) → MayLeave new image → KeptBefore past image
    kept_before past begins image may =
        let from = from_before old new (λ d s x y. y ≡ x) (still_puts old.media new.media puts) still.flights still.sizes image may in
        let differs : DiffersBy f from.before image = record { same = from.same; each = λ d s. inl (from.sectors d s) } in
        record {
          kept = same_image from.before image (past ++ facts) differs (begins.kept from.before from.may);
          shows = descriptors_same from.before image f (λ d s lt. refl) (λ d s x put. absurd (cc (put))) differs disk ∙ none from.before from.may;
        }
      where
        still_puts : (a b : Option Media) → BothTold a b (Puts f) → BothTold a b (λ m n. (d s : ℕ) → n d s ≡ m d s)
        still_puts None None told = tt
        still_puts None (Some n) told = told
        still_puts (Some m) None told = told
        still_puts (Some m) (Some n) told = told

    -- the range lies within the disk also where disks of groups aren't seen
    seen : (image : Image) (o : Option (Stamped Descriptor)) → o ≡ None → at + count ≤ image.size disk → at + count ≤ (if is_some o then 0 else image.size disk)
    seen image None is fits = fits
    seen image (Some r) is fits = absurd (cc (is))

    pub read_got : Keeps run first (at_moment new (answered facts it outcome.Got got))
    read_got = takes_moment run first it new ((facts ++ Begun it ∷ []) ++ Landed it outcome.Got true got ∷ [])
        (lands_moment run first it new (facts ++ Begun it ∷ []) outcome.Got true got (read_goes new path) tt refl
        (λ past begins holds. let image = there_image begins.told in
        let was = kept_before past begins image.0 image.1 in
        let w = within disk at count ticket sent old new still puts buf reads range image.0 image.1 in
        subst (λ (l : List Fact). Gets l it got) (append_assoc past facts (Begun it ∷ []))
        (got_fits run id disk at count (past ++ facts) (masked image.0) begins.calm (to_masked image.0 (past ++ facts) was.kept.agrees.raw) w.0 low (seen image.0 (descriptor_on image.0 disk) was.shows w.1) got (let e = length-take count buf.sectors in omega (arith, e, long))
        (got_is disk at count ticket sent old new still puts buf reads range image.0 image.1)))
        (λ past begins holds image may. let was = kept_before past begins image may in
        let w = within disk at count ticket sent old new still puts buf reads range image may in
        subst (λ (l : List Fact). RawAgrees (contents_of image) (l ++ Landed it outcome.Got true got ∷ [])) (append_assoc past facts (Begun it ∷ []))
        (of_masked image (((past ++ facts) ++ Begun it ∷ []) ++ Landed it outcome.Got true got ∷ [])
        (got_kept run id disk at count (past ++ facts) (masked image) begins.calm (to_masked image (past ++ facts) was.kept.agrees.raw) w.0 low (seen image (descriptor_on image disk) was.shows w.1) got
        (got_is disk at count ticket sent old new still puts buf reads range image may)))))

-- ---- the laws

pub read_got_keeps : ReadGotKeeps
read_got_keeps facts old new run disk at count ticket sent back path none low range still puts reads long = read_got run _ disk at count ticket sent old facts refl new path still puts back reads long range low none

pub read_failed_keeps : ReadFailedKeeps
read_failed_keeps facts old new run disk at count ticket sent path = read_failed run _ disk at count ticket sent old facts refl new path

pub read_dark_keeps : ReadDarkKeeps
read_dark_keeps facts old dark new run disk at count ticket sent started path lit = read_dark run _ disk at count ticket sent old facts refl dark new started path lit

pub read_stuck_keeps : ReadStuckKeeps
read_stuck_keeps facts old new run disk at count ticket sent path = (read_goes run _ disk at count ticket sent old facts refl new path).span
