-- How the fields of a state change.
use Rattle.std.specs.Prelude.{ℕ, Bool, ◌==◌, if◌then◌else◌, List, Option, Some, None}
use Rattle.lvm_num.specs.declared.place.Pp.{Pp}
use Rattle.lvm_num.specs.Descriptor.{is_pp}
use Rattle.lvm_num.specs.Record.{Stamped}
use Rattle.lvm_vol.specs.Facts.{Request, Fact}
use Rattle.lvm_invariant.specs.State.{Marks, Groups, View, Stage, Landed, Queued, ModelState}

-- the request of this number is now this one
abbrev pub put : (ℕ → Option Queued) → ℕ → Queued → ℕ → Option Queued
put queue i r j = if j == i then Some r else queue j

-- no request has this number now
abbrev pub without : (ℕ → Option Queued) → ℕ → ℕ → Option Queued
without queue i j = if j == i then None else queue j

-- the name of this place is now this one
abbrev pub with_name : (ℕ → Request) → ℕ → Request → ℕ → Request
with_name name i q j = if j == i then q else name j

-- the transfer to this copy is now at this stage
abbrev pub staged : (Pp → Option Stage) → Pp → Stage → Pp → Option Stage
staged targets c stage e = if is_pp e c then Some stage else targets e

abbrev pub with_req : ModelState → ℕ → Queued → ModelState
with_req s i r = record s { queue = put s.queue i r }

abbrev pub with_block : View → (ℕ → ℕ → Pp → List ℕ) → View
with_block v block = record v { block = block }

abbrev pub with_names : View → (ℕ → Groups) → View
with_names v names = record v { names = names }

abbrev pub with_status : View → (ℕ → Option (Stamped Marks)) → View
with_status v status = record v { status = status }

-- the request has landed
abbrev pub land : Queued → Queued
land r = record r { phase = Landed }

-- and the history says so
abbrev pub landed : ModelState → ℕ → Queued → List Fact → ModelState
landed s i r facts = record s { queue = put s.queue i (land r); facts = facts }
