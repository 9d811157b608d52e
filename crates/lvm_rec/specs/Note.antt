-- What a note says, however the code keeps its entries.
use Rattle.lvm_num.specs.Note.{Noted}
use Rattle.lvm_rec.specs.declared.notes.Note.{Note}

-- the stamp and the entries in their order
abbrev pub noted_of : Note → Noted
noted_of note = record { stamp = note.stamp; entries = note.entries.items }
