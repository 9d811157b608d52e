-- A settled session, worked by hand: of the two disks that mirror a volume.
use Rattle.std.specs.Prelude.{false, [], ◌∷◌, ◌++◌, None, Bool, map, replicate}
use Rattle.lvm_num.specs.declared.descriptor.Mode.{Mode}
use Rattle.lvm_num.specs.Buffer.{Sector, zero_sector}
use Rattle.lvm_disk.specs.Device.{image_of}
use Rattle.lvm_vol.specs.Facts.{Begun}
use Rattle.lvm_kept.specs.Examples.{two}
use Rattle.lvm_kept.specs.Moments.{Calm}
use Rattle.lvm_mwc.specs.Cache.{Cached, no_notes}
use Rattle.lvm_session.specs.declared.open.Power.TheVariants as power
use Rattle.lvm_core.specs.Held.{NotesAreHome}
use Rattle.lvm_session.specs.State.{Core, state}
use Rattle.lvm_even.specs.Examples.{Pair, status_of, pair_sizes, media_of, device_of, first_write, past_of, now_on, history_of, even_pair, naming_note, naming}
use Rattle.lvm_settled.specs.Settled.{IsKnown, IsCarriedOver}

-- The session has come on with this status, and nothing has happened since; there is room for a request, and one buffer.
abbrev pub core_of : Pair → Core
core_of pair = record {
  descriptor = two pair.mode;
  history = record { run = 50; facts = now_on; room = 65536; bytes = 0 };
  requests = [];
  most = 1;
  queue = record { room = 2; rows = [] };
  copy = None;
  pool = false ∷ [];
  flying = [];
  status = record {
    group = record (two pair.mode) { lvs = [] };
    committed = (status_of pair).value;
    wanted = (status_of pair).value;
    in_flight = None;
    writes = record { unstarted = 0; started = 0; written = 0; failed = 0 };
    stamp = record { epoch = 50; seq = 2 };
  };
  cache = record { entries = []; notes = no_notes 0 ∷ no_notes 1 ∷ [] };
  -- the next records go to the second slots of both disks
  homes = record { descriptor = 3; status = 3 };
  last = replicate 512 0;
  origin = record { faults = replicate 128 0; table = (status_of pair).value };
  power = power.On;
}

-- The session after a write of the volume's first track group: its cache has that, and the note that was written to both disks names it.
abbrev pub noted_cache : Cached
noted_cache = record {
  entries = record { lv = 1; group = 0; pins = 0 } ∷ [];
  notes = map (λ disk. record (no_notes disk) { written = record { items = naming_note.entries } }) (0 ∷ 1 ∷ []);
}

abbrev pub noted_core : Pair → Core
noted_core pair = record (core_of pair) { cache = noted_cache }

-- What is known of a settled session and what it must carry, with this earlier history.
pub record IsSettledPair (core : Core) (pair : Pair) (mode : Mode) (cut : Bool) : Type 0 where
  pub known : IsKnown (past_of mode cut) (state (device_of pair) core) (media_of pair)
  pub carried : IsCarriedOver (past_of mode cut) (state (device_of pair) core) (media_of pair) known

-- So it is in each mode, dirty or not, whatever stands in the notes' sectors, also where a member is lost, after a cut while the first block was written, and
-- after a write; not while a write of the volume is open.
pub record PairsSettle : Type 0 where
  pub first : (mode : Mode) (dirty lost cut : Bool) (note : Sector) → IsSettledPair (core_of (even_pair mode dirty lost note)) (even_pair mode dirty lost note) mode cut
  pub noted : (mode : Mode) (dirty lost cut : Bool) (note : Sector) → IsSettledPair (noted_core (even_pair mode dirty lost note)) (even_pair mode dirty lost note) mode cut
  pub begun : (mode : Mode) → Calm (history_of mode false ++ Begun first_write ∷ []) → ⊥

-- this session's notes are home, on the disks of this pair
abbrev pub HasNotesHome : (Pair → Core) → Pair → Type 0
HasNotesHome core pair = NotesAreHome (core pair) (image_of pair_sizes (media_of pair))

-- The notes are home in each mode, with both members or the first: at first, where they name nothing, and after that write, where they name its track
-- group. They aren't where they name what the cache doesn't, as those of an earlier session do, nor where they were emptied behind the cache.
pub record PairsHaveNotesHome : Type 0 where
  pub first : (mode : Mode) (dirty lost : Bool) → HasNotesHome core_of (even_pair mode dirty lost zero_sector)
  pub noted : (mode : Mode) (dirty lost : Bool) → HasNotesHome noted_core (even_pair mode dirty lost naming)
  pub left : (mode : Mode) (dirty lost : Bool) → HasNotesHome core_of (even_pair mode dirty lost naming) → ⊥
  pub gone : (mode : Mode) (dirty lost : Bool) → HasNotesHome noted_core (even_pair mode dirty lost zero_sector) → ⊥
