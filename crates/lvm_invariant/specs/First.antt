-- Sessions on two disks of one mirrored volume that is all zeros, while no request is there. (That what is asked of a session can be met.)
use Rattle.std.specs.Prelude.{ℕ, Bool, true, false, ◌&&◌, ◌||◌, ◌==◌, if◌then◌else◌, [], ◌∷◌, Option, Some, None, IsTrue, nat_lt}
use Rattle.lvm_num.specs.declared.place.Pp.{Pp}
use Rattle.lvm_num.specs.declared.descriptor.Mode.{Mode}
use Rattle.lvm_num.specs.declared.descriptor.Mode.TheVariants.{Active}
use Rattle.lvm_num.specs.Buffer.{zero_sector}
use Rattle.lvm_vol.specs.declared.entry.Vol.TheVariants.{Lv}
use Rattle.lvm_vol.specs.Facts.{Making, Made}
use Rattle.lvm_num.specs.Record.{Stamped}
use Rattle.lvm_invariant.specs.State.{Marks, Groups, ModelState}
use Rattle.lvm_num.specs.Descriptor.{is_pp}
use Rattle.lvm_num.specs.Modes.{is_active, is_passive}
use Rattle.lvm_invariant.specs.Found.{Votes}
use Rattle.lvm_invariant.specs.Good.{Good}

abbrev pub two_disks : ℕ → Bool
two_disks d = d == 0 || d == 1

abbrev pub no_disk : ℕ → Bool
no_disk d = false

-- the copies of its one logical partition
abbrev pub first_copy : Pp
first_copy = record { disk = 0; pp = 0 }

abbrev pub second_copy : Pp
second_copy = record { disk = 1; pp = 0 }

abbrev pub is_either : Pp → Bool
is_either c = is_pp c first_copy || is_pp c second_copy

-- the second copy is stale or not, the volume dirty or not
abbrev pub marks_with : Bool → Bool → Marks
marks_with stale dirty = record { stale = λ c. stale && is_pp c second_copy; dirty = λ lv. dirty && lv == 1 }

abbrev pub stamped : ℕ → Marks → Stamped Marks
stamped seq marks = record { stamp = record { epoch = 1; seq = seq }; value = marks }

-- both disks show the status
abbrev pub on_both : Stamped Marks → ℕ → Option (Stamped Marks)
on_both r d = if two_disks d then Some r else None

-- at its beginning, the volume being in this mode and its second copy stale or not
abbrev pub at_rest : Mode → Bool → ModelState
at_rest mode stale = record {
  media = record { block = λ lv b c. zero_sector; names = λ d lv g. false; status = on_both (stamped 1 (marks_with stale false)) };
  queue = λ i. None;
  facts = Making 1 2048 mode ∷ Made 1 ∷ [];
  name = λ i. record { run = 1; id = i; client = 0; vol = Lv 1; at = 0; count = 0; write = false; blocks = [] };
  is_copy = λ lv b c. (1 == lv && nat_lt b 2048) && is_either c;
  is_active = λ lv. is_active mode;
  is_passive = λ lv. is_passive mode;
  committed = stamped 1 (marks_with stale false);
  in_flight = None;
  wanted = marks_with stale false;
  status_flying = no_disk;
  missing = no_disk;
  cache = λ lv g. false;
  home_note = λ d lv g. false;
  flying_note = λ d. None;
  open_copy = None;
  step_write = None;
  beside = None;
}

-- one that is active and has nothing stale
abbrev pub at_first : ModelState
at_first = at_rest Active false

-- the second copy is being brought up, and has passed these track groups
abbrev pub bringing_up : Mode → Groups → ModelState
bringing_up mode passed = record (at_rest mode true) { open_copy = Some (record { target = second_copy; passed = passed }) }

-- Such a session is good, where its two disks have votes enough to write;
abbrev pub FirstIsGood : Type 0
FirstIsGood = (votes : Votes) (mode : Mode) (stale : Bool) → IsTrue (votes.writes two_disks) → Good votes (at_rest mode stale)

-- so it is while the copy is being brought up, however far.
abbrev pub BringingUpIsGood : Type 0
BringingUpIsGood = (votes : Votes) (mode : Mode) (passed : Groups) → IsTrue (votes.writes two_disks) → Good votes (bringing_up mode passed)
