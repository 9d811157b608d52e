-- What reading gives, as a call returns it.
use Rattle.std.specs.Prelude.{◌≡◌, ℕ, ◌+◌, drop, Result, Ok, Err}
use Rattle.lvm_num.specs.Reading.{Rest}
use Rattle.lvm_fields.specs.declared.fault.Fault.{Fault}
use Rattle.lvm_fields.specs.declared.fault.Fault.TheVariants as faults
use Rattle.lvm_fields.specs.declared.unread.Unread.{Unread}

-- the place of the first fault, unless memory ran out
abbrev pub Fails : {Y : Type 0} → Fault → Result Y ℕ → Type 0
Fails (faults.At place) read = read ≡ Err place
Fails faults.Memory read = Unit {0}

-- What was returned, seen by view, is what reading gives, unless memory ran out.
abbrev pub Gives : {X Y : Type 0} → (X → Y) → Result X Fault → Result Y ℕ → Type 0
Gives view (Ok x) read = read ≡ Ok (view x)
Gives view (Err e) read = Fails e read

-- the bytes that are still to read, as reading has them
abbrev pub rest_of : Unread → Rest
rest_of unread = (unread.place, unread.bytes.now)

-- what is left behind so many bytes
abbrev pub skipped : ℕ → Rest → Rest
skipped n rest = (rest.0 + n, drop n rest.1)
