-- Sessions written out, and where their events are due.
use Rattle.std.specs.Prelude.{true}
use Rattle.lvm_session.specs.Busy.{busy_core}
use Rattle.lvm_session.specs.Worked.{core_of, flying}
use Rattle.lvm_due.specs.declared.span.Span.{Span}
use Rattle.lvm_due.specs.declared.due.Due.{Due}
use Rattle.lvm_due.specs.Due.{IsDue, NoneFailsAt}

-- no place
abbrev pub nowhere : Span
nowhere = record { from = 0; to = 0 }

abbrev pub nothing : Due
nothing = record { landing = nowhere; admission = nowhere; pinning = nowhere; note = nowhere; «data» = nowhere; unfailing = true }

-- Of a session with each of its parts in use only its second request is due, to land; one with a write under way is quiet there, and only the write's second
-- transfer is due.
pub record DuesAreNarrow : Type 0 where
  pub busy : IsDue busy_core (record nothing { landing = record { from = 1; to = 2 } })
  pub writing : IsDue (core_of flying) (record nothing { «data» = record { from = 0; to = 1 } })
  pub quiet : NoneFailsAt (core_of flying) 0
