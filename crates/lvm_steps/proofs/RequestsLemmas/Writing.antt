-- The moments of a write of a disk in no group.
use Rattle.std.proofs.Common.{◌≡◌, ◌⊎◌, inl, ⊎_elim, ◌+◌, ◌<◌, ◌≤◌, ◌∷◌, ◌++◌, [], ℕ, List, Bool, Option, Some, None, true, false, count_by, refl, sym, ◌∙◌, ap, subst, arith, unwrap_or, append_assoc}
use Rattle.std.specs.List.{list_any}
use Rattle.lvm_num.specs.Buffer.{Sector}
use Rattle.lvm_num.specs.Geometry.{data_start}
use Rattle.lvm_kept.specs.passed.Disk.{Media, Image, Flight, Device, IsCrashImage, image_of, MayLeave, written, BothTold, Puts, PutsSome, LeavesNoMore, DiffersBy, DeviceStep, Path}
use Rattle.lvm_vol.specs.declared.entry.Vol.TheVariants.{Disk}
use Rattle.lvm_vol.specs.declared.entry.Outcome.{Outcome}
use Rattle.lvm_vol.specs.declared.entry.Outcome.TheVariants as outcome
use Rattle.lvm_vol.specs.Facts.{Fact, Request, Begun, Landed, Taken, Cut, IsInList, is_over}
use Rattle.lvm_vol.specs.Legal.{begins_in, lands, takes, IsOutcomeOf, GotMay}
use Rattle.lvm_vol.proofs.LawsLemmas.Legality.{same_self}
use Rattle.lvm_kept.specs.Contents.{contents_of, descriptor_on}
use Rattle.lvm_kept.specs.Kept.{RawAgrees, Kept}
use Rattle.lvm_kept.specs.Moments.{Moment, Calm}
use Rattle.lvm_kept.specs.Raw.{RawKept, raw_request, CarriesRequest, OnlyAdds, HasNothingOut}
use Rattle.lvm_kept.specs.Places.{SameRecords}
use Rattle.lvm_kept.proofs.LegalLemmas.{stands_last, stands_first, any_more, any_last, first_landing, first_taking}
use Rattle.lvm_kept.proofs.RawLemmas.Keeping.{either, begun_kept, done_kept, lost_kept, kept_closed, cut_calm}
use Rattle.lvm_kept.proofs.RawLemmas.Carrying.{over_here}
use Rattle.lvm_kept.proofs.PlacesLemmas.{descriptor-same}
use Rattle.lvm_kept.proofs.MomentsLemmas.Spans.{at_moment, regroup, next_joined, from_before}
use Rattle.lvm_steps.specs.Moments.{ImagesKept, RunBegins, HistoryHolds, Keeps}
use Rattle.lvm_steps.specs.Entries.{IsDisk}
use Rattle.lvm_steps.specs.Requests.{IsInNoGroup, StillShowsNone, IsOfData, StaysInNoGroup, answered, darkened, WriteDoneKeeps, WriteLostKeeps, WriteDarkKeeps, WriteStuckKeeps}
use Rattle.lvm_steps.proofs.EntriesLemmas.{cut_keeps, quiet_entry_keeps, disk_entry_keeps}
use Rattle.lvm_steps.proofs.RequestsLemmas.Masks.{masked, to_masked, of_masked, masked_differs, data_by}
use Rattle.lvm_steps.proofs.MomentsLemmas.Spans.{keeps_still, entry_goes_on, keeps_path, keeps_steps}

-- ---- disks in no group

pub still_shows_none : StillShowsNone
still_shows_none device media d told still none image may =
    let crash : IsCrashImage (image_of device.sizes media) [] image = subst (λ (l : List Flight). IsCrashImage (image_of device.sizes media) l image) still (subst (λ (o : Option Media). MayLeave (record device { media = o }) image) told may) in
    let same : SameRecords (image_of device.sizes media) image = record { same = crash.same; sectors = λ e s lt. ⊎_elim (λ is. is) (λ is. absurd is) (crash.each e s) } in
    descriptor-same (image_of device.sizes media) image same d ∙ none

pub stays_in_no_group : StaysInNoGroup
stays_in_no_group f old new d of_data adds none image may =
    let from = adds image may in
    let same : SameRecords from.0 image = record { same = from.2.same; sectors = λ e s lt. ⊎_elim (λ is. is) (λ put. absurd (let e : None ≡ Some (image.sector e s) = sym (of_data e s lt) ∙ put in cc)) (from.2.each e s) } in
    descriptor-same from.0 image same d ∙ none from.0 from.1

-- ---- a request of either kind, by its moments

-- A request of the run with the next number has begun, and may stand behind further entries.
pub record IsUnderWay (run : ℕ) (first : Moment) (r : Request) (device : Device) (facts : List Fact) : Type 0 where
  pub span : Keeps run first (at_moment device facts)
  pub began : (past : List Fact) → IsInList (Begun r) (past ++ facts)
  pub unlanded : (past : List Fact) → RunBegins run past first → list_any (lands r) (past ++ facts) ≡ false
  pub untaken : (past : List Fact) → RunBegins run past first → list_any (takes r) (past ++ facts) ≡ false

-- it lands, and its answer is taken
pub record HasLanded (run : ℕ) (first : Moment) (r : Request) (device : Device) (facts : List Fact) : Type 0 where
  pub span : Keeps run first (at_moment device facts)
  pub began : (past : List Fact) → IsInList (Begun r) (past ++ facts)
  pub answered : (past : List Fact) → list_any (lands r) (past ++ facts) ≡ true
  pub untaken : (past : List Fact) → RunBegins run past first → list_any (takes r) (past ++ facts) ≡ false

pub begins_moment :
    (run : ℕ) (device : Device) (facts : List Fact) (r : Request) → r.run ≡ run → r.id ≡ count_by (begins_in run) facts + 1 → IsDisk r.vol
    → IsUnderWay run (at_moment device facts) r device (facts ++ Begun r ∷ [])
begins_moment run device facts r its next disk = record {
  span = entry_goes_on run (at_moment device facts) device facts (Begun r) (keeps_still run (at_moment device facts)) (λ past begins holds. joined past begins)
      (λ past begins holds image may. quiet_entry_keeps (contents_of image) (past ++ facts) (Begun r) disk (holds.kept image may));
  began = λ past. regroup (IsInList (Begun r)) past facts (Begun r) (stands_last (past ++ facts) (Begun r));
  unlanded = λ past begins. regroup (λ (l : List Fact). list_any (lands r) l ≡ false) past facts (Begun r) (first_landing (past ++ facts) r begins.legal (joined past begins));
  untaken = λ past begins. regroup (λ (l : List Fact). list_any (takes r) l ≡ false) past facts (Begun r) (first_taking (past ++ facts) r begins.legal (joined past begins));
}
  where
    joined : (past : List Fact) → RunBegins run past (at_moment device facts) → r.id ≡ count_by (begins_in r.run) (past ++ facts) + 1
    joined past begins = next ∙ next_joined run past facts begins.own ∙ ap (λ (n : ℕ). count_by (begins_in n) (past ++ facts) + 1) (sym its)

-- the shelf goes on
pub goes_on : (P : Device → Type 0) (run : ℕ) (first : Moment) (r : Request) (old new : Device) (facts : List Fact) → IsUnderWay run first r old facts
    → ((past : List Fact) → RunBegins run past first → HistoryHolds past (at_moment old facts) → (d : Device) → P d → ImagesKept d (past ++ facts)) → Path DeviceStep P old new → IsUnderWay run first r new facts
goes_on P run first r old new facts way kept path = record { span = keeps_path P run first old new facts way.span kept path; began = way.began; unlanded = way.unlanded; untaken = way.untaken }

-- the power went off meanwhile
pub cut_moment : (run : ℕ) (first : Moment) (r : Request) (device : Device) (facts : List Fact) → IsUnderWay run first r device facts → IsUnderWay run first r device (facts ++ Cut ∷ [])
cut_moment run first r device facts way = record {
  span = entry_goes_on run first device facts Cut way.span (λ past begins holds. tt) (λ past begins holds image may. cut_keeps (contents_of image) (past ++ facts) (holds.kept image may));
  began = λ past. regroup (IsInList (Begun r)) past facts Cut (stands_first (past ++ facts) Cut (Begun r) (way.began past));
  unlanded = λ past begins. regroup (λ (l : List Fact). list_any (lands r) l ≡ false) past facts Cut (any_more (lands r) (past ++ facts) Cut (way.unlanded past begins) refl);
  untaken = λ past begins. regroup (λ (l : List Fact). list_any (takes r) l ≡ false) past facts Cut (any_more (takes r) (past ++ facts) Cut (way.untaken past begins) refl);
}

pub lands_moment :
    (run : ℕ) (first : Moment) (r : Request) (device : Device) (facts : List Fact) (how : Outcome) (started : Bool) (got : List (List ℕ)) → IsUnderWay run first r device facts → IsDisk r.vol → IsOutcomeOf how r started
    → ((past : List Fact) → RunBegins run past first → HistoryHolds past (at_moment device facts) → GotMay (past ++ facts) r how got)
    → ((past : List Fact) → RunBegins run past first → HistoryHolds past (at_moment device facts) → (image : Image) → MayLeave device image → RawAgrees (contents_of image) ((past ++ facts) ++ Landed r how started got ∷ []))
    → HasLanded run first r device (facts ++ Landed r how started got ∷ [])
lands_moment run first r device facts how started got way disk kind reads raw = record {
  span = entry_goes_on run first device facts (Landed r how started got) way.span (λ past begins holds. record { began = way.began past; first = way.unlanded past begins; kind = kind; reads = reads past begins holds })
      (λ past begins holds image may. disk_entry_keeps (contents_of image) (past ++ facts) (Landed r how started got) disk (raw past begins holds image may) (holds.kept image may));
  began = λ past. regroup (IsInList (Begun r)) past facts (Landed r how started got) (stands_first (past ++ facts) (Landed r how started got) (Begun r) (way.began past));
  answered = λ past. regroup (λ (l : List Fact). list_any (lands r) l ≡ true) past facts (Landed r how started got) (any_last (lands r) (past ++ facts) (Landed r how started got) (same_self r));
  untaken = λ past begins. regroup (λ (l : List Fact). list_any (takes r) l ≡ false) past facts (Landed r how started got) (any_more (takes r) (past ++ facts) (Landed r how started got) (way.untaken past begins) refl);
}

pub takes_moment : (run : ℕ) (first : Moment) (r : Request) (device : Device) (facts : List Fact) → HasLanded run first r device facts → Keeps run first (at_moment device (facts ++ Taken r ∷ []))
takes_moment run first r device facts has = entry_goes_on run first device facts (Taken r) has.span
    (λ past begins holds. record { began = has.began past; answered = has.answered past; first = has.untaken past begins })
    (λ past begins holds image may. quiet_entry_keeps (contents_of image) (past ++ facts) (Taken r) tt (holds.kept image may))

-- The power is cut while it is under way: it lands so, its answer is taken, and the power is put on again.
pub dark_moment :
    (run : ℕ) (first : Moment) (r : Request) (dark new : Device) (facts : List Fact) (started : Bool) → IsUnderWay run first r dark facts → IsDisk r.vol → IsOutcomeOf outcome.Dark r started
    → ((past : List Fact) → RunBegins run past first → HistoryHolds past (at_moment dark (facts ++ Cut ∷ [])) → GotMay (past ++ (facts ++ Cut ∷ [])) r outcome.Dark [])
    → ((past : List Fact) → RunBegins run past first → HistoryHolds past (at_moment dark (facts ++ Cut ∷ [])) → (image : Image) → MayLeave dark image → RawAgrees (contents_of image) ((past ++ (facts ++ Cut ∷ [])) ++ Landed r outcome.Dark started [] ∷ []))
    → Path DeviceStep (LeavesNoMore dark) dark new → Keeps run first (at_moment new (((facts ++ Cut ∷ []) ++ Landed r outcome.Dark started [] ∷ []) ++ Taken r ∷ []))
dark_moment run first r dark new facts started way disk kind reads raw lit =
    keeps_steps run first dark new (((facts ++ Cut ∷ []) ++ Landed r outcome.Dark started [] ∷ []) ++ Taken r ∷ [])
    (takes_moment run first r dark ((facts ++ Cut ∷ []) ++ Landed r outcome.Dark started [] ∷ [])
    (lands_moment run first r dark (facts ++ Cut ∷ []) outcome.Dark started [] (cut_moment run first r dark facts way) disk kind reads raw))
    lit

-- ---- writes

module _ (run id disk at count : ℕ) (blocks : List Sector) (f : Flight) (carries : CarriesRequest (raw_request run id disk at count true blocks) f) (old : Device) (facts : List Fact) (next : id ≡ count_by (begins_in run) facts + 1)
    (none : IsInNoGroup old disk) (low : data_start ≤ at) where
  abbrev it : Request
  it = raw_request run id disk at count true blocks

  abbrev first : Moment
  first = at_moment old facts

  -- the flight writes within the request's blocks
  over : (d s : ℕ) (x : Sector) → written f d s ≡ Some x → (d ≡ disk) × (at ≤ s) × (s < at + count)
  over d s x put = ⊎_elim
      (λ is. over_here run id disk at count true blocks d s is)
      (λ isnt. absurd (let e : None ≡ Some x = sym (carries.elsewhere d s isnt) ∙ put in cc))
      (either (is_over it (Disk d) s))

  of_data : IsOfData f
  of_data d s lt = by_option (written f d s) refl
    where
      by_option : (o : Option Sector) → written f d s ≡ o → o ≡ None
      by_option None is = refl
      by_option (Some x) is = let w = over d s x is in absurd (omega (arith, w.1, low, lt))

  module _ (before : Image) (may_before : MayLeave old before) where
    only : (d s : ℕ) (x : Sector) → written f d s ≡ Some x → descriptor_on before d ≡ None
    only d s x put = ap (descriptor_on before) (over d s x put).0 ∙ none before may_before

    module _ (facts_before : List Fact) (kept : Kept (contents_of before) facts_before) (image : Image) (differs : DiffersBy f before image) where
      raw_before : RawKept (masked before) facts_before
      raw_before = to_masked before facts_before kept.agrees.raw

      -- the write has begun, and may be on its way
      begun_image : Kept (contents_of image) (facts_before ++ Begun it ∷ [])
      begun_image = data_by before image f of_data only differs (facts_before ++ Begun it ∷ [])
          (of_masked image (facts_before ++ Begun it ∷ []) (begun_kept run id disk at count blocks f carries facts_before (masked before) (masked image) raw_before (masked_differs before image f of_data only differs)))
          (quiet_entry_keeps (contents_of before) facts_before (Begun it) tt kept)

      done_image : Puts f before.sector image.sector → RawAgrees (contents_of image) ((facts_before ++ Begun it ∷ []) ++ Landed it outcome.Done true [] ∷ [])
      done_image puts = of_masked image ((facts_before ++ Begun it ∷ []) ++ Landed it outcome.Done true [] ∷ [])
          (done_kept run id disk at count blocks f carries facts_before (masked before) (masked image) raw_before (masked_differs before image f of_data only differs).same puts)

      lost_image : Calm facts_before → RawAgrees (contents_of image) ((facts_before ++ Begun it ∷ []) ++ Landed it outcome.Lost true [] ∷ [])
      lost_image calm = of_masked image ((facts_before ++ Begun it ∷ []) ++ Landed it outcome.Lost true [] ∷ [])
          (lost_kept run id disk at count blocks f carries facts_before (masked before) (masked image) calm raw_before (masked_differs before image f of_data only differs).same differs.each)

  pub write_goes : (device : Device) → Path DeviceStep (OnlyAdds f old) old device → IsUnderWay run first it device (facts ++ Begun it ∷ [])
  write_goes device path = goes_on (OnlyAdds f old) run first it old device (facts ++ Begun it ∷ []) (begins_moment run old facts it refl next tt)
      (λ past begins holds d adds image may. let from = adds image may in regroup (Kept (contents_of image)) past facts (Begun it) (begun_image from.0 from.1 (past ++ facts) (begins.kept from.0 from.1) image from.2))
      path

  -- it ended well
  pub write_done : (new : Device) → Path DeviceStep (OnlyAdds f old) old new → HasNothingOut old new → BothTold old.media new.media (Puts f) → Keeps run first (at_moment new (answered facts it outcome.Done []))
  write_done new path still puts = takes_moment run first it new ((facts ++ Begun it ∷ []) ++ Landed it outcome.Done true [] ∷ [])
      (lands_moment run first it new (facts ++ Begun it ∷ []) outcome.Done true [] (write_goes new path) tt refl (λ past begins holds. tt)
      (λ past begins holds image may. let from = from_before old new (λ d s x y. y ≡ unwrap_or (written f d s) x) puts still.flights still.sizes image may in
      subst (λ (l : List Fact). RawAgrees (contents_of image) (l ++ Landed it outcome.Done true [] ∷ [])) (append_assoc past facts (Begun it ∷ []))
      (done_image from.before from.may (past ++ facts) (begins.kept from.before from.may) image (record { same = from.same; each = λ d s. put_or_same (written f d s) (from.before.sector d s) (image.sector d s) (from.sectors d s) }) from.sectors)))
    where
      put_or_same : (o : Option Sector) (x y : Sector) → y ≡ unwrap_or o x → (y ≡ x) ⊎ (o ≡ Some y)
      put_or_same None x y is = inl is
      put_or_same (Some z) x y is = Rattle.std.proofs.Common.inr (ap (λ (w : Sector). Some w) (sym is))

  -- it failed
  pub write_lost : (new : Device) → Path DeviceStep (OnlyAdds f old) old new → HasNothingOut old new → BothTold old.media new.media (PutsSome f) → Keeps run first (at_moment new (answered facts it outcome.Lost []))
  write_lost new path still puts = takes_moment run first it new ((facts ++ Begun it ∷ []) ++ Landed it outcome.Lost true [] ∷ [])
      (lands_moment run first it new (facts ++ Begun it ∷ []) outcome.Lost true [] (write_goes new path) tt refl (λ past begins holds. tt)
      (λ past begins holds image may. let from = from_before old new (λ d s x y. (y ≡ x) ⊎ (written f d s ≡ Some y)) puts still.flights still.sizes image may in
      subst (λ (l : List Fact). RawAgrees (contents_of image) (l ++ Landed it outcome.Lost true [] ∷ [])) (append_assoc past facts (Begun it ∷ []))
      (lost_image from.before from.may (past ++ facts) (begins.kept from.before from.may) image (record { same = from.same; each = from.sectors }) begins.calm)))

  -- the power was cut, and is put on again
  pub write_dark : (dark new : Device) (started : Bool) → Path DeviceStep (OnlyAdds f old) old dark → Path DeviceStep (LeavesNoMore dark) dark new → Keeps run first (at_moment new (darkened facts it started))
  write_dark dark new started path lit =
      let cut_facts = (facts ++ Begun it ∷ []) ++ Cut ∷ [] in
      dark_moment run first it dark new (facts ++ Begun it ∷ []) started (write_goes dark path) tt tt (λ past begins holds. tt)
      (λ past begins holds image may. of_masked image ((past ++ cut_facts) ++ Landed it outcome.Dark started [] ∷ [])
      (kept_closed (masked image) (past ++ cut_facts) it outcome.Dark started refl (regroup Calm past (facts ++ Begun it ∷ []) Cut (cut_calm (past ++ (facts ++ Begun it ∷ []))))
      (to_masked image (past ++ cut_facts) (holds.kept image may).agrees.raw)))
      lit

-- ---- the laws

pub write_done_keeps : WriteDoneKeeps
write_done_keeps facts r f old new run disk at count blocks write still puts =
    subst (λ (q : Request). Keeps run (at_moment old facts) (at_moment new (answered facts q outcome.Done []))) (sym write.is)
    (write_done run _ disk at count blocks f (subst (λ (q : Request). CarriesRequest q f) write.is write.carries) old facts refl write.none write.low new write.path still puts)

pub write_lost_keeps : WriteLostKeeps
write_lost_keeps facts r f old new run disk at count blocks write still puts =
    subst (λ (q : Request). Keeps run (at_moment old facts) (at_moment new (answered facts q outcome.Lost []))) (sym write.is)
    (write_lost run _ disk at count blocks f (subst (λ (q : Request). CarriesRequest q f) write.is write.carries) old facts refl write.none write.low new write.path still puts)

pub write_dark_keeps : WriteDarkKeeps
write_dark_keeps facts r f old dark new run disk at count blocks started write lit =
    subst (λ (q : Request). Keeps run (at_moment old facts) (at_moment new (darkened facts q started))) (sym write.is)
    (write_dark run _ disk at count blocks f (subst (λ (q : Request). CarriesRequest q f) write.is write.carries) old facts refl write.none write.low dark new started write.path lit)

pub write_stuck_keeps : WriteStuckKeeps
write_stuck_keeps facts r f old new run disk at count blocks write =
    subst (λ (q : Request). Keeps run (at_moment old facts) (at_moment new (facts ++ Begun q ∷ []))) (sym write.is)
    (write_goes run _ disk at count blocks f (subst (λ (q : Request). CarriesRequest q f) write.is write.carries) old facts refl write.none write.low new write.path).span
