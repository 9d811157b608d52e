-- What is left is kept.
use Rattle.std.specs.Prelude.{ℕ, Bool, List, [], ◌∷◌, ◌++◌, Option}
use Rattle.lvm_num.specs.declared.descriptor.Descriptor.{Descriptor}
use Rattle.lvm_num.specs.declared.status.Status.{Status}
use Rattle.lvm_num.specs.Record.{Stamped}
use Rattle.lvm_vol.specs.declared.entry.Vol.TheVariants.{Lv}
use Rattle.lvm_vol.specs.Facts.{Fact, Cut}
use Rattle.lvm_vol.specs.declared.entry.Outcome.TheVariants as outcome
use Rattle.lvm_vol.specs.May.{known, cut}
use Rattle.lvm_kept.specs.passed.Disk.{Media, Image, Device, image_of, MayLeave}
use Rattle.lvm_kept.specs.Contents.{Contents, contents_of}
use Rattle.lvm_kept.specs.Committed.{IsWithinDisks}
use Rattle.lvm_kept.specs.Kept.{Kept}
use Rattle.lvm_invariant.specs.State.{Marks, View, ModelState}
use Rattle.lvm_invariant.specs.Found.{Votes, Found}
use Rattle.lvm_invariant.specs.Crash.{IsCrash, IsPossible, BlockKept}
use Rattle.lvm_invariant.specs.Good.{Good}
use Rattle.lvm_invariant.specs.Off.{GoesOff}
use Rattle.lvm_invariant.specs.Over.{AreOpen, landings, IsLegalOver}
use Rattle.lvm_crash.specs.Session.{AreVotesOf, Describes}
use Rattle.lvm_crash.specs.Left.{MayRemain}
use Rattle.lvm_crash.specs.Flights.{Matches}

-- Whatever a loss of power may leave of the state agrees with the history, whichever status is found.
abbrev pub EachViewAgrees : ModelState → List Fact → Type 0
EachViewAgrees s facts = (v : View) (marks : Marks) (lv b : ℕ) → IsCrash s v → IsPossible s marks → BlockKept s v marks (cut b (known facts (Lv lv) b)) lv b

-- Where such a state describes what stands on the disks, all that a loss of power may leave of it keeps the history.
abbrev pub WhatRemainsIsKept : Type 0
WhatRemainsIsKept =
    (votes : Votes) (s : ModelState) (facts : List Fact) (group : Descriptor) (in_flight : Option (Stamped Status)) (old new : Contents)
    → AreVotesOf group votes → Found votes s → EachViewAgrees s facts → Describes s facts group in_flight old → MayRemain s group in_flight old new → IsWithinDisks new → Kept new facts

-- Where the state matches a shelf, each crash image shows what may remain.
abbrev pub CrashImagesRemain : Type 0
CrashImagesRemain =
    (s : ModelState) (facts : List Fact) (group : Descriptor) (in_flight : Option (Stamped Status)) (device : Device) (media : Media) (image : Image)
    → Matches s facts group in_flight device media → MayLeave device image → MayRemain s group in_flight (contents_of (image_of device.sizes media)) (contents_of image)

-- So while a session is on: where its good state matches a shelf, each crash image keeps the history.
abbrev pub CrashImagesAreKept : Type 0
CrashImagesAreKept =
    (votes : Votes) (s : ModelState) (group : Descriptor) (in_flight : Option (Stamped Status)) (device : Device) (media : Media) (image : Image)
    → AreVotesOf group votes → Good votes s → Matches s s.facts group in_flight device media → MayLeave device image → Kept (contents_of image) s.facts

-- And once it is over: each that the shelf might have left at its last moment keeps the history with the landings of what was open.
abbrev pub LastImagesAreKept : Type 0
LastImagesAreKept =
    (votes : Votes) (s : ModelState) (facts : List Fact) (group : Descriptor) (in_flight : Option (Stamped Status)) (device : Device) (media : Media) (image : Image)
    → AreVotesOf group votes → Good votes s → IsLegalOver s facts → Matches s facts group in_flight device media → MayLeave device image → Kept (contents_of image) facts

-- Where the power is cut, the cut and each landing as Dark is a moment: at each of them, whatever was out, each crash image of the shelf before the cut
-- keeps the history, the first of the landings being in it and the rest not yet.
abbrev pub CutIsKept : Type 0
CutIsKept =
    (votes : Votes) (s : ModelState) (group : Descriptor) (in_flight : Option (Stamped Status)) (device : Device) (media : Media) (image : Image) (first rest : List ℕ) (started : ℕ → Bool)
    → AreVotesOf group votes → Good votes s → AreOpen s (first ++ rest) started → Matches s s.facts group in_flight device media → MayLeave device image
    → Kept (contents_of image) ((s.facts ++ Cut ∷ []) ++ landings outcome.Dark s.name started first)

-- So where the group goes off, with each landing as Off.
abbrev pub OffIsKept : Type 0
OffIsKept =
    (votes : Votes) (s : ModelState) (group : Descriptor) (in_flight : Option (Stamped Status)) (device : Device) (media : Media) (image : Image) (first rest : List ℕ) (started : ℕ → Bool)
    → AreVotesOf group votes → Good votes s → GoesOff votes s (first ++ rest) started → Matches s s.facts group in_flight device media → MayLeave device image
    → Kept (contents_of image) (s.facts ++ landings outcome.Off s.name started first)
