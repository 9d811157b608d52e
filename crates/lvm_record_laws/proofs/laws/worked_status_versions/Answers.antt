use Rattle.std.proofs.Common.{refl}
use Rattle.lvm_num.specs.StatusBytes.{status_version_at, rows_and_size_at, status_row_at, status_rows_at, numbers_at, dirty_at, status_of}
use Rattle.lvm_record_laws.proofs.laws.worked_status_versions.Goals as goal

pub returns : goal.returns
unfolding status_version_at rows_and_size_at status_row_at status_rows_at numbers_at dirty_at status_of
returns c = record { first = refl; second = refl; third = refl; short = refl }
