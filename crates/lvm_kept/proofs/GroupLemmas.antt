-- What is found of descriptors stays under other statuses, other notes and other data.
use Rattle.std.proofs.Common.{◌≡◌, ℕ, Option, refl, sym, ◌∙◌}
use Rattle.lvm_disk.specs.passed.Num.{Descriptor, Status, Disks, Sector, Noted, Stamped}
use Rattle.lvm_kept.specs.Contents.{Contents}
use Rattle.lvm_kept.specs.Group.{descriptor_among, has_quorum, is_voter, Finds}

module _ (c : Contents) (status : ℕ → Option (Stamped Status)) (note : ℕ → Option Noted) (block : ℕ → ℕ → Sector) where
  abbrev pub with_others : Contents
  with_others = record c { status = status; note = note; block = block }

  among_same : (set : Disks) (id : ℕ) → descriptor_among with_others set id ≡ descriptor_among c set id
  unfolding descriptor_among
  among_same set id = refl

  quorum_same : (set : Disks) (id : ℕ) → has_quorum with_others set id ≡ has_quorum c set id
  unfolding has_quorum is_voter descriptor_among
  quorum_same set id = refl

  pub still_finds : (set : Disks) (id : ℕ) (g : Descriptor) → Finds c set id g → Finds with_others set id g
  still_finds set id g f = record { quorum = quorum_same set id ∙ f.quorum; newest = f.newest; found = among_same set id ∙ f.found; is = f.is }

  pub finds_before : (set : Disks) (id : ℕ) (g : Descriptor) → Finds with_others set id g → Finds c set id g
  finds_before set id g f = record { quorum = sym (quorum_same set id) ∙ f.quorum; newest = f.newest; found = sym (among_same set id) ∙ f.found; is = f.is }
