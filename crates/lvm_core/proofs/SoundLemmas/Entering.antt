-- A session stays sound when a command enters something of a volume or of a disk.
use Rattle.std.proofs.Common.{◌≡◌, ℕ, List, [], ◌∷◌, ◌++◌, length, length-set, refl, ◌∙◌}
use Rattle.lvm_disk.specs.Device.{Device}
use Rattle.lvm_vol.specs.declared.entry.Entry.{Entry}
use Rattle.lvm_vol.specs.declared.entry.Entry.TheVariants as entry
use Rattle.lvm_vol.specs.Facts.{Fact, Making, Made, Split, Removing, Removed}
use Rattle.lvm_vol.specs.Log.{is_open, with_fact, plain_fact}
use Rattle.lvm_session_start.proofs.passed.Keeps.{open_still}
use Rattle.lvm_session.specs.State.{Core, state}
use Rattle.lvm_core.specs.Sound.{IsSoundAtRest}
use Rattle.lvm_core.specs.Entering.{IsEntryOfCommand, last_reads}

-- it is about no request
open_entered : (facts : List Fact) (e : Entry) → IsEntryOfCommand e → (id : ℕ) → is_open (facts ++ plain_fact e ∷ []) id ≡ is_open facts id
open_entered facts (entry.Making lv blocks mode) is id = open_still facts (Making lv blocks mode) refl id refl
open_entered facts (entry.Made lv) is id = open_still facts (Made lv) refl id refl
open_entered facts (entry.Split from lv) is id = open_still facts (Split from lv) refl id refl
open_entered facts (entry.Removing vol) is id = open_still facts (Removing vol) refl id refl
open_entered facts (entry.Removed vol) is id = open_still facts (Removed vol) refl id refl
open_entered facts _ is id = absurd is

-- and there is room for each number
length_reads : (f : Fact) (last : List ℕ) → length (last_reads f last) ≡ length last
length_reads (Made lv) last = length-set last lv 0
length_reads _ last = refl

pub entered_sound : (device : Device) (core : Core) (e : Entry) → IsEntryOfCommand e → IsSoundAtRest (state device core)
    → IsSoundAtRest (state device (record core { history = with_fact core.history (plain_fact e); last = last_reads (plain_fact e) core.last }))
entered_sound device core e is sound = record {
  fitting = record {
    valid = sound.fitting.valid;
    id = sound.fitting.id;
    rows = sound.fitting.rows;
    group = sound.fitting.group;
    entries = sound.fitting.entries;
    notes = sound.fitting.notes;
    most = sound.fitting.most;
    queue = sound.fitting.queue;
    a_buffer = sound.fitting.a_buffer;
    buffers = sound.fitting.buffers;
    last = length_reads (plain_fact e) core.last ∙ sound.fitting.last;
    forgotten = sound.fitting.forgotten;
  };
  none = record { requests = sound.none.requests; copy = sound.none.copy };
  landed = λ id. open_entered core.history.facts e is id ∙ sound.landed id;
  placed = sound.placed;
  buffers = sound.buffers;
  none_lost = sound.none_lost;
  quiet = λ quiet. sound.quiet (record { requests = quiet.requests; copy = quiet.copy; status = quiet.status; notes = quiet.notes; buffers = quiet.buffers });
  lit = sound.lit;
  dark = sound.dark;
  heard = sound.heard;
}
