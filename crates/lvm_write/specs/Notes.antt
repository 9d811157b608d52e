-- The emptying of the consistency records of several disks.
use Rattle.std.specs.Prelude.{◌≡◌, ℕ, [], IfSome}
use Rattle.lvm_num.specs.Buffer.{Sector}
use Rattle.lvm_num.specs.Note.{note_bytes}
use Rattle.lvm_disk.specs.Device.{Device}
use Rattle.lvm_quorum.specs.passed.Transfer.{note_sector}

-- the sector of a consistency record without entries
abbrev pub empty_note_sector : ℕ → Sector
empty_note_sector stamp = note_bytes (record { stamp = stamp; entries = [] })

-- this sector stands in the place of the disk's consistency record, where the content is told
abbrev pub NoteTold : Sector → Device → ℕ → Type 0
NoteTold sector device d = IfSome device.media (λ media. media d note_sector ≡ sector)
