-- What is met behind `mklvcopy` and `rmlvcopy`, so that the session is held again, or closed.
use Rattle.std.proofs.Common.{◌≡◌, ℕ, [], List, true, false, Result, Ok, Err, refl, ap}
use Rattle.std.specs.Prelude.{All}
use Rattle.lvm_num.specs.declared.place.Pp.{Pp}
use Rattle.lvm_status.specs.Calls.{IsMarkable}
use Rattle.lvm_status.specs.Members.{HasItsRows}
use Rattle.lvm_session.specs.Sound.{IsSound}
use Rattle.lvm_session.specs.State.{State}
use Rattle.lvm_volume_lines.specs.passed.VolumePlan.{GroupFault, ends_session}
use Rattle.lvm_volume_lines.specs.passed.GroupFaultVariants as fault
use Rattle.lvm_volume_lines.specs.passed.Volumes.{AreAdded, AreTaken, MklvcopyGives, RmlvcopyGives, to_add, to_take}
use Rattle.lvm_volume_lines.specs.passed.Handover.{IsCommanded}
use Rattle.lvm_volume_lines.specs.passed.TieCommands.{MayServeWith}
use Rattle.lvm_volume_lines.proofs.passed.TieCommands.{added_markable, mklvcopy_serves, rmlvcopy_serves}
use Rattle.lvm_volume_lines.proofs.Ending.{dark_still, lit_still, rows_stay}
use Rattle.lvm_volume_lines.proofs.OfVolumes.{if_on}
use Rattle.lvm_volume_lines.proofs.Giving.{mklvcopy_facts, mklvcopy_shape, rmlvcopy_facts, rmlvcopy_shape}

-- the command failed so
abbrev failed : (X : Type 0) → GroupFault → Result X GroupFault
failed X why = Err why

-- What is asked where a session is closed behind a fault, or goes on behind it.
pub record MayFail (old new : State) (why : GroupFault) : Type 0 where
  pub dark : why ≡ fault.Dark → new.device.flights ≡ []
  pub lit : ends_session why ≡ true → (why ≡ fault.Dark → ⊥) → (new.device.power ≡ true) × (new.device.freed ≡ [])
  pub rows : ends_session why ≡ false → HasItsRows new.core.descriptor new.core.origin.table
  pub may : ends_session why ≡ false → MayServeWith [] new

module _ (lv copies before after : ℕ) (old new : State) (sound : IsSound old) (rows : HasItsRows old.core.descriptor old.core.origin.table) where
  -- copies were added
  module _ (added : List Pp) (c : IsCommanded (to_add lv copies old.core) before after old new (Ok added)) (it : AreAdded lv copies old new added) where
    pub added_rows : HasItsRows new.core.descriptor new.core.origin.table
    added_rows = rows_stay old new (mklvcopy_shape lv copies before old new (Ok added) it refl) rows

    pub added_may : MayServeWith added new
    added_may = mklvcopy_serves lv copies before after old new (Ok added) sound c it

    pub added_marks : All (IsMarkable new.core.origin.table) added
    added_marks = added_markable lv copies old new added it sound.fitting.valid rows

  -- or they weren't
  module _ (why : GroupFault) (c : IsCommanded {A = List Pp} (to_add lv copies old.core) before after old new (Err why)) (gives : MklvcopyGives lv copies before old new (Err why)) where
    abbrev given : Result (List Pp) GroupFault
    given = Err why

    pub adding_fails : MayFail old new why
    adding_fails =
        let facts = mklvcopy_facts lv copies before old new c.began.power given gives in
        record {
          dark = λ is. dark_still before old new given facts (ap (failed (List Pp)) is);
          lit = λ ends other. lit_still before old new given facts ends (λ is. let same : why ≡ fault.Dark = cc (is) in other same);
          rows = λ goes. rows_stay old new (mklvcopy_shape lv copies before old new given gives goes) rows;
          may = λ goes. if_on given (MayServeWith [] new) (mklvcopy_serves lv copies before after old new given sound c gives) goes;
        }

  -- copies were removed
  module _ (c : IsCommanded {A = Unit {0}} (to_take lv copies old.core) before after old new (Ok tt)) (it : AreTaken lv copies old new) where
    pub removed_rows : HasItsRows new.core.descriptor new.core.origin.table
    removed_rows = rows_stay old new (rmlvcopy_shape lv copies before old new (Ok tt) it refl) rows

    pub removed_may : MayServeWith [] new
    removed_may = rmlvcopy_serves lv copies before after old new (Ok tt) sound c it

  -- or they weren't
  module _ (why : GroupFault) (c : IsCommanded {A = Unit {0}} (to_take lv copies old.core) before after old new (Err why)) (gives : RmlvcopyGives lv copies before old new (Err why)) where
    abbrev answer : Result (Unit {0}) GroupFault
    answer = Err why

    pub removal_fails : MayFail old new why
    removal_fails =
        let facts = rmlvcopy_facts lv copies before old new c.began.power answer gives in
        record {
          dark = λ is. dark_still before old new answer facts (ap (failed (Unit {0})) is);
          lit = λ ends other. lit_still before old new answer facts ends (λ is. let same : why ≡ fault.Dark = cc (is) in other same);
          rows = λ goes. rows_stay old new (rmlvcopy_shape lv copies before old new answer gives goes) rows;
          may = λ goes. if_on answer (MayServeWith [] new) (rmlvcopy_serves lv copies before after old new answer sound c gives) goes;
        }
