-- What the disks show to a session while the places of copies change.
use Rattle.std.specs.Prelude.{◌≡◌, ◌↔◌, ℕ, List, Option, Some, None, option_map, IsTrue, IsFalse}
use Rattle.lvm_num.specs.declared.place.Pp.{Pp}
use Rattle.lvm_num.specs.declared.descriptor.Descriptor.{Descriptor}
use Rattle.lvm_num.specs.declared.descriptor.LvRow.{LvRow}
use Rattle.lvm_num.specs.declared.status.Status.{Status}
use Rattle.lvm_num.specs.Descriptor.{is_pp}
use Rattle.lvm_num.specs.Record.{Stamped}
use Rattle.lvm_vol.specs.Facts.{Fact}
use Rattle.lvm_kept.specs.Contents.{Contents}
use Rattle.lvm_kept.specs.Group.{IsBlockOf, IsOneOf, block_at}
use Rattle.lvm_invariant.specs.State.{Beside, ModelState}
use Rattle.lvm_crash.specs.Session.{Describes, IsFreePlace, as_marks, marks_shown}
use Rattle.lvm_even.specs.Members.{members_showing}
use Rattle.lvm_places.specs.Places.{BlocksOf, Marking}
use Rattle.lvm_places.specs.Laws.{appeared, gone}

-- it stands for the blocks of this logical partition of this volume
abbrev pub StandsFor : Descriptor → Beside → LvRow → ℕ → Type 0
StandsFor group o row lp = (lv b : ℕ) → IsTrue (o.its lv b) ↔ ((lv ≡ row.number) × IsBlockOf group.mib row lp b)

-- A partition that no volume has, on a member, is to stand for the blocks of a logical partition; what stands there is what the disks show.
pub record MayAppear (s : ModelState) (group : Descriptor) (c : Contents) (o : Beside) (block : BlocksOf) : Type 0 where
  pub none : s.beside ≡ None
  pub free : IsFreePlace group o
  pub row : LvRow
  pub one : IsOneOf group.lvs row
  pub lp : ℕ
  pub stands : StandsFor group o row lp
  pub member : IsTrue (members_showing c group o.place.disk)
  pub here : (lv b : ℕ) → block lv b o.place ≡ block_at c group.mib o.place b
  pub same : (lv b : ℕ) (p : Pp) → IsFalse (is_pp p o.place) → block lv b p ≡ s.media.block lv b p

-- The state with it as one copy more describes what stands on the disks.
abbrev pub AppearedIsDescribed : Type 0
AppearedIsDescribed = (s : ModelState) (facts : List Fact) (group : Descriptor) (in_flight : Option (Stamped Status)) (c : Contents) (o : Beside) (block : BlocksOf)
    → MayAppear s group c o block → Describes s facts group in_flight c → Describes (appeared s o.place o.its block) facts group in_flight c

-- So does the state without it, where the marks are those that stand.
abbrev pub GoneIsDescribed : Type 0
GoneIsDescribed = (s : ModelState) (facts : List Fact) (group : Descriptor) (in_flight : Option (Stamped Status)) (c : Contents) (o : Beside) (k : Marking)
    → s.beside ≡ Some o → ((d : ℕ) → k.status d ≡ marks_shown None group.id (c.status d)) → k.in_flight ≡ option_map (as_marks None) in_flight
    → Describes s facts group in_flight c → Describes (gone s o.place k) facts group in_flight c
