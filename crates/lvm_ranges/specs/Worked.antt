-- A range of one block that landed for want of a source, written out.
use Rattle.std.specs.Prelude.{true, [], ◌∷◌, Some}
use Rattle.lvm_num.specs.declared.descriptor.Mode.TheVariants as mode
use Rattle.lvm_vol.specs.declared.entry.Outcome.TheVariants as outcome
use Rattle.lvm_path.specs.declared.request.Phase.TheVariants as phase
use Rattle.lvm_session.specs.declared.open.Open.{Open}
use Rattle.lvm_session.specs.Causes.{faults_at_first}
use Rattle.lvm_session.specs.State.{Core}
use Rattle.lvm_session.specs.Worked.{Says, a_read, asking, calm, core_of, faultless, fresh}
use Rattle.lvm_posts.specs.declared.asked.Asked.{Asked}
use Rattle.lvm_posts.specs.declared.fault.RangeFault.TheVariants as fault
use Rattle.lvm_ranges.specs.Finishing.{GoingCause}

-- the read of its block, which has landed so
abbrev pub unread : Open
unread = record (asking 1 a_read phase.Landed []) { landed = Some outcome.NoFresh }

abbrev pub one_block : Asked
one_block = record { first = 1; pieces = 1; at = 0; mib = 1; place = 0 }

-- a session with that read, which began as this status says
abbrev pub begun_as : Says → Core
begun_as says = core_of (record (calm mode.Off) { committed = says; wanted = says; requests = unread ∷ []; origin = says })

-- no copy can be used: the second is stale, and the first disk is missing
abbrev pub neither : Says
neither = record fresh { stale = true; missing = true }

-- The range lacks a source in a session that began so, and none in one that began with both copies fresh, while no transfer has failed.
pub record SourcesAreJudged : Type 0 where
  pub lacks : GoingCause (faults_at_first (begun_as neither)) one_block (begun_as neither) faultless (fault.NoFresh 0)
  pub has : GoingCause (faults_at_first (begun_as fresh)) one_block (begun_as fresh) faultless (fault.NoFresh 0) → ⊥
