-- The starts of transfers of data.
use Rattle.std.specs.Prelude.{ℕ}
use Rattle.lvm_session.specs.Events.{ReadsCopy, StartsData, WritesCopy}
use Rattle.lvm_tie.specs.Tied.{Ties}

-- A transfer of a request that starts leaves a tied session tied: the first of a write, a further one, and one of a read.
abbrev pub DataStartTies : Type 0
DataStartTies = (place target : ℕ) → Ties (λ old new. StartsData old new place target)

-- So does the read by which a copy is brought up, and its write.
abbrev pub CopyReadTies : Type 0
CopyReadTies = Ties ReadsCopy

abbrev pub CopyWriteTies : Type 0
CopyWriteTies = Ties WritesCopy
