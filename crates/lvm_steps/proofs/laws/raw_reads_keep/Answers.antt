use Rattle.lvm_steps.proofs.RequestsLemmas.Reading.{read_got_keeps, read_failed_keeps, read_dark_keeps, read_stuck_keeps}
use Rattle.lvm_steps.proofs.laws.raw_reads_keep.Goals as goal

pub returns : goal.returns
returns c = record { got = read_got_keeps; failed = read_failed_keeps; dark = read_dark_keeps; stuck = read_stuck_keeps }
