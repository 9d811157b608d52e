use Rattle.std.proofs.Common.{filter, take}
use Rattle.lvm_session.specs.Judging.{pps_of}
use Rattle.lvm_session.specs.Marks.{WantsStale, is_among}
use Rattle.lvm_calls.specs.Due.{is_meant}
use Rattle.lvm_calls.proofs.wanted.mark_targets.Given as goal

abbrev pub invariant-loop-target : goal.invariant-loop-target
invariant-loop-target l = WantsStale (is_among (pps_of (filter (is_meant l.all) (take l.target-index l.targets)))) l.initial.updater l.updater
