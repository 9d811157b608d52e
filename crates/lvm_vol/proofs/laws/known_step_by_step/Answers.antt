use Rattle.lvm_vol.proofs.LawsLemmas.Knowing.{known-push, others_stay, done_closes, got_fixes, landed_closes, disks_are_tight, cut_ends_all, may_grows}
use Rattle.lvm_vol.proofs.laws.known_step_by_step.Goals as goal

pub returns : goal.returns
returns c = record { push = known-push; others = others_stay; done = done_closes; got = got_fixes; landed = landed_closes; disks = disks_are_tight; cut = cut_ends_all; grows = may_grows }
