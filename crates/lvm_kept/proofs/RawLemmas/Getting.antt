-- A read of a raw disk gets values that its blocks may have, and leaves the images kept.
use Rattle.std.proofs.Common.{◌≡◌, inl, ◌≤◌, ◌<◌, ◌+◌, ◌∷◌, ◌++◌, [], ℕ, List, Bool, Some, true, false, if◌then◌else◌, length, refl, sym, ◌∙◌, ap, subst, arith}
use Rattle.lvm_disk.specs.passed.Num.{Sector, data_start}
use Rattle.lvm_disk.specs.Device.{Image}
use Rattle.lvm_vol.specs.declared.entry.Vol.TheVariants.{Disk}
use Rattle.lvm_vol.specs.declared.entry.Outcome.TheVariants as outcome
use Rattle.lvm_vol.specs.Facts.{Request, Fact, Begun, Landed, is_over, block_of}
use Rattle.lvm_vol.specs.May.{Known, known, change, May, read, cut}
use Rattle.lvm_vol.specs.Legal.{Gets}
use Rattle.lvm_kept.specs.Raw.{RawKept, raw_request}
use Rattle.lvm_kept.specs.Moments.{Calm}
use Rattle.lvm_kept.proofs.MayLemmas.{Among, after_cut, cut_adds_none, known_more}
use Rattle.lvm_kept.proofs.RawLemmas.Carrying.{over_here}
use Rattle.lvm_kept.proofs.RawLemmas.Keeping.{of_kept, kept_more}

-- while no write is open, what a crash may leave is what the block may have now
now_may : (facts : List Fact) (image : Image) → Calm facts → RawKept image facts → (d b : ℕ) → d < image.disks → data_start ≤ b → b < image.size d → May (known facts (Disk d) b) (image.sector d b)
now_may facts image calm kept d b there low high =
    cut_adds_none (known facts (Disk d) b).values b (image.sector d b) (subst (λ (l : List Request). Among (after_cut l b (known facts (Disk d) b).values) (image.sector d b)) (calm (Disk d) b) (of_kept image facts kept d b there low high))

module _ (run id disk at count : ℕ) (facts : List Fact) (image : Image) (calm : Calm facts) (kept : RawKept image facts) (there : disk < image.disks) (low : data_start ≤ at) (high : at + count ≤ image.size disk) where
  abbrev it : Request
  it = raw_request run id disk at count false []

  -- The blocks got are those that a crash would leave.
  pub got_fits : (got : List Sector) → length got ≡ count → ((b : ℕ) → at ≤ b → b < at + count → block_of got at b ≡ image.sector disk b) → Gets (facts ++ Begun it ∷ []) it got
  got_fits got long is = record {
    whole = long;
    allowed = λ b from to. subst (λ (k : Known). May k (block_of got at b)) (sym (known_more facts (Begun it) (Disk disk) b))
        (subst (λ (x : Sector). May (known facts (Disk disk) b) x) (sym (is b from to)) (now_may facts image calm kept disk b there (omega (arith, low, from)) (omega (arith, high, to))));
  }

  got_at : (b : ℕ) (x v : Sector) (k : Known) (t : Bool) → May (cut b k) x → (t ≡ true → x ≡ v) → May (cut b (if t then read outcome.Got v k else k)) x
  got_at b x v k true may is = loose_or k.loose
    where
      loose_or : (l : Bool) → May (cut b (if l then k else record k { values = Some (v ∷ []) })) x
      loose_or true = may
      loose_or false = inl (sym (is refl))
  got_at b x v k false may is = may

  pub got_kept : (got : List Sector) → ((b : ℕ) → at ≤ b → b < at + count → block_of got at b ≡ image.sector disk b) → RawKept image ((facts ++ Begun it ∷ []) ++ Landed it outcome.Got true got ∷ [])
  got_kept got is = kept_more image (facts ++ Begun it ∷ []) (Landed it outcome.Got true got) (λ d b d_there b_low b_high.
      subst (λ (k : Known). May (cut b (change (Landed it outcome.Got true got) (Disk d) b k)) (image.sector d b)) (sym (known_more facts (Begun it) (Disk d) b))
      (got_at b (image.sector d b) (block_of got at b) (known facts (Disk d) b) (is_over it (Disk d) b) (of_kept image facts kept d b d_there b_low b_high)
      (λ over. let w = over_here run id disk at count false [] d b over in ap (λ (e : ℕ). image.sector e b) w.0 ∙ sym (is b w.1 w.2))))
