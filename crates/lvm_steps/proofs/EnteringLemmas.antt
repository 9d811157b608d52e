-- Entries as parts of spans.
use Rattle.std.proofs.Common.{◌≡◌, ◌++◌, ◌∷◌, ℕ, List, [], Bool, true, false, ◌&&◌, Some, None, refl, ap, subst, ◌∙◌, append_assoc}
use Rattle.std.specs.Prelude.{if◌then◌else◌, nat_lt, IsFalse}
use Rattle.lvm_num.specs.Buffer.{Sector, zero_sector}
use Rattle.lvm_num.specs.declared.descriptor.Mode.{Mode}
use Rattle.lvm_vol.specs.declared.entry.Vol.{Vol}
use Rattle.lvm_vol.specs.declared.entry.Outcome.{Outcome}
use Rattle.lvm_vol.specs.declared.entry.Outcome.TheVariants as outcome
use Rattle.lvm_vol.specs.declared.entry.Vol.TheVariants.{Lv}
use Rattle.lvm_vol.specs.Facts.{Request, Fact, Making, Made, Split, Removing, Removed, Begun, Landed, Taken, Cut, On, same_vol, is_over, block_of}
use Rattle.lvm_vol.specs.May.{Known, known, is_open_in, ended, read, landed, source, change}
use Rattle.lvm_vol.proofs.LawsLemmas.Knowing.{ended_open, read_open}
use Rattle.lvm_kept.specs.passed.Disk.{Image, image_of}
use Rattle.lvm_kept.specs.Contents.{contents_of}
use Rattle.lvm_kept.specs.Moments.{Calm}
use Rattle.lvm_kept.specs.Torn.{written as as_read, Alone}
use Rattle.lvm_kept.proofs.CommittedLemmas.Finding.{images_within}
use Rattle.lvm_kept.proofs.RawLemmas.Keeping.{cut_calm}
use Rattle.lvm_kept.proofs.TornLemmas.Records.{descriptor_shows}
use Rattle.lvm_kept.proofs.MomentsLemmas.Spans.{regroup}
use Rattle.lvm_kept.proofs.MayLemmas.{known_more, open_now, closes}
use Rattle.lvm_steps.specs.Making.{LeavesOnly}
use Rattle.lvm_steps.specs.Entering.{QuietGoesOn, OpensNone, CalmGoesOn, AnsweredStaysCalm, DarkenedStaysCalm, BeginsInSpan, MadeInSpan, GoesInSpan, GoneInSpan, CommitsInSpan}
use Rattle.lvm_steps.proofs.EntriesLemmas.{quiet_entry_keeps}
use Rattle.lvm_steps.proofs.MomentsLemmas.Spans.{entry_goes_on, keeps_path}
use Rattle.lvm_steps.proofs.MakingLemmas.Making.{media_may}
use Rattle.lvm_steps.proofs.CommittingLemmas.{commit_keeps}
use Rattle.lvm_steps.proofs.VolumeEntriesLemmas.{volume_begins, volume_is_made, volume_goes, volume_is_gone}

pub quiet_goes_on : QuietGoesOn
quiet_goes_on run first device facts f span quiet fits = entry_goes_on run first device facts f span fits (λ past begins holds image may. quiet_entry_keeps (contents_of image) (past ++ facts) f quiet (holds.kept image may))

closed : (t : Bool) (k : Known) → k.open_writes ≡ [] → (if t then record k { values = None; open_writes = []; loose = false } else k).open_writes ≡ []
closed true k none = refl
closed false k none = none

made_anew : (t : Bool) (m : Mode) (k : Known) → k.open_writes ≡ [] → (if t then record { values = Some (zero_sector ∷ []); open_writes = []; loose = false; mode = m } else k).open_writes ≡ []
made_anew true m k none = refl
made_anew false m k none = none

split_off : (t : Bool) (k : Known) → k.open_writes ≡ [] → (if t then record k { open_writes = [] } else k).open_writes ≡ []
split_off true k none = refl
split_off false k none = none

-- what begins is no write
begun_none : (r : Request) → OpensNone (Begun r) → (vol : Vol) (b : ℕ) (k : Known) → k.open_writes ≡ [] → (change (Begun r) vol b k).open_writes ≡ []
begun_none r opens vol b k none = by_test r.write (is_over r vol b) opens
  where
    by_test : (w t : Bool) → IsFalse w → (if w && t then record k { open_writes = r ∷ k.open_writes } else k).open_writes ≡ []
    by_test true t opens = absurd cc
    by_test false t opens = none

module _ (r : Request) (how : Outcome) (started : Bool) (put got : Sector) (k : Known) (none : k.open_writes ≡ []) where
  -- a request lands while no write is open
  landed_none : (landed r how started put got k).open_writes ≡ []
  landed_none = by_tests r.write (is_open_in r k.open_writes) (ap (is_open_in r) none)
    where
      by_tests : (w o : Bool) → o ≡ false → (if w then (if o then ended r how started put k else k) else read how got k).open_writes ≡ []
      by_tests true true e = absurd cc
      by_tests true false e = none
      by_tests false o e = read_open how got k ∙ none

  over_none : (t : Bool) → (if t then landed r how started put got k else k).open_writes ≡ []
  over_none true = landed_none
  over_none false = none

  abbrev now : Known
  now = record k { open_writes = r ∷ k.open_writes }

  -- the write that is open lands
  landed_ends : r.write ≡ true → (landed r how started put got now).open_writes ≡ []
  landed_ends write =
      ap (λ (w : Bool). (if w then (if is_open_in r now.open_writes then ended r how started put now else now) else read how got now).open_writes) write
      ∙ ap (λ (o : Bool). (if o then ended r how started put now else now).open_writes) (open_now r k.open_writes)
      ∙ ended_open r how started put now ∙ closes r k.open_writes none

  -- what began has landed
  begun_ends : (w t : Bool) → r.write ≡ w → (if t then landed r how started put got (if w && t then now else k) else (if w && t then now else k)).open_writes ≡ []
  begun_ends true true write = landed_ends write
  begun_ends true false write = none
  begun_ends false true write = landed_none
  begun_ends false false write = none

-- one entry more that opens nothing
still_calm : (facts : List Fact) (f : Fact) → OpensNone f → Calm facts → Calm (facts ++ f ∷ [])
still_calm facts (Removing gone) opens calm vol b = ap (λ (k : Known). k.open_writes) (known_more facts (Removing gone) vol b) ∙ calm vol b
still_calm facts (Removed gone) opens calm vol b = ap (λ (k : Known). k.open_writes) (known_more facts (Removed gone) vol b) ∙ closed (same_vol gone vol) (known facts vol b) (calm vol b)
still_calm facts (Taken r) opens calm vol b = ap (λ (k : Known). k.open_writes) (known_more facts (Taken r) vol b) ∙ calm vol b
still_calm facts (On moment) opens calm vol b = ap (λ (k : Known). k.open_writes) (known_more facts (On moment) vol b) ∙ calm vol b
still_calm facts Cut opens calm vol b = ap (λ (k : Known). k.open_writes) (known_more facts Cut vol b)
still_calm facts (Making lv blocks mode) opens calm vol b =
    ap (λ (k : Known). k.open_writes) (known_more facts (Making lv blocks mode) vol b) ∙ made_anew (same_vol (Lv lv) vol && nat_lt b blocks) mode (known facts vol b) (calm vol b)
still_calm facts (Made lv) opens calm vol b = ap (λ (k : Known). k.open_writes) (known_more facts (Made lv) vol b) ∙ calm vol b
still_calm facts (Split from lv) opens calm vol b =
    let was = source (Split from lv) vol in
    ap (λ (k : Known). k.open_writes) (known_more facts (Split from lv) vol b) ∙ split_off (same_vol (Lv lv) vol) (known facts was b) (calm was b)
still_calm facts (Begun r) opens calm vol b = ap (λ (k : Known). k.open_writes) (known_more facts (Begun r) vol b) ∙ begun_none r opens vol b (known facts vol b) (calm vol b)
still_calm facts (Landed r how started got) opens calm vol b =
    ap (λ (k : Known). k.open_writes) (known_more facts (Landed r how started got) vol b) ∙ over_none r how started (block_of r.blocks r.at b) (block_of got r.at b) (known facts vol b) (calm vol b) (is_over r vol b)

pub calm_goes_on : CalmGoesOn
calm_goes_on first device facts f stays opens past calm = regroup Calm past facts f (still_calm (past ++ facts) f opens (stays past calm))

-- a request begins and lands
ends_calm : (facts : List Fact) (r : Request) (how : Outcome) (started : Bool) (got : List Sector) → Calm facts → Calm ((facts ++ Begun r ∷ []) ++ Landed r how started got ∷ [])
ends_calm facts r how started got calm vol b =
    ap (λ (k : Known). k.open_writes) (known_more (facts ++ Begun r ∷ []) (Landed r how started got) vol b ∙ ap (change (Landed r how started got) vol b) (known_more facts (Begun r) vol b))
    ∙ begun_ends r how started (block_of r.blocks r.at b) (block_of got r.at b) (known facts vol b) (calm vol b) r.write (is_over r vol b) refl

pub answered_stays_calm : AnsweredStaysCalm
answered_stays_calm first device facts r how got stays =
    calm_goes_on first device ((facts ++ Begun r ∷ []) ++ Landed r how true got ∷ []) (Taken r)
    (λ past calm. regroup Calm past (facts ++ Begun r ∷ []) (Landed r how true got)
    (subst (λ (l : List Fact). Calm (l ++ Landed r how true got ∷ [])) (append_assoc past facts (Begun r ∷ [])) (ends_calm (past ++ facts) r how true got (stays past calm))))
    tt

pub darkened_stays_calm : DarkenedStaysCalm
darkened_stays_calm first device facts r started =
    let begun : List Fact = facts ++ Begun r ∷ [] in
    let dark : List Fact = (begun ++ Cut ∷ []) ++ Landed r outcome.Dark started [] ∷ [] in
    calm_goes_on first device dark (Taken r)
    (calm_goes_on first device (begun ++ Cut ∷ []) (Landed r outcome.Dark started []) (λ past calm. regroup Calm past begun Cut (cut_calm (past ++ begun))) tt)
    tt

pub begins_in_span : BeginsInSpan
begins_in_span run first device facts lv blocks mode span none =
    entry_goes_on run first device facts (Making lv blocks mode) span (λ past begins holds. tt) (λ past begins holds image may. volume_begins (contents_of image) (past ++ facts) lv blocks mode (none image may) (holds.kept image may))

pub made_in_span : MadeInSpan
made_in_span run first device facts lv span is_open by_all =
    entry_goes_on run first device facts (Made lv) span (λ past begins holds. tt) (λ past begins holds image may. volume_is_made (contents_of image) (past ++ facts) lv (is_open past) (by_all image may) (holds.kept image may))

pub goes_in_span : GoesInSpan
goes_in_span run first device facts lv span =
    entry_goes_on run first device facts (Removing (Lv lv)) span (λ past begins holds. tt) (λ past begins holds image may. volume_goes (contents_of image) (past ++ facts) lv (holds.kept image may))

pub gone_in_span : GoneInSpan
gone_in_span run first device facts lv span none =
    entry_goes_on run first device facts (Removed (Lv lv)) span (λ past begins holds. tt) (λ past begins holds image may. volume_is_gone (contents_of image) (past ++ facts) lv (none image may) (holds.kept image may))

pub commits_in_span : CommitsInSpan
commits_in_span run first group lv w next old new facts written span is_kind may_write may =
    let start : Image = image_of old.sizes written.media in
    keeps_path (LeavesOnly (Alone w) start) run first old new facts span
    (λ past begins holds d way image left. commit_keeps group lv w.targets (as_read w next) (contents_of start) (contents_of image) (past ++ facts) (images_within start) (may past begins holds)
    (descriptor_shows w next start image is_kind may_write (way image left)) (holds.kept start (media_may old written.media written.told)))
    written.path
