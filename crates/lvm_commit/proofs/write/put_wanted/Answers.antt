use Rattle.std.proofs.Common.{◌≡◌, ◌≤◌, length, arith}
use Rattle.lvm_num.specs.StatusBytes.{status_bytes}
use Rattle.lvm_commit.proofs.RecordLemmas.{status_fits}
use Rattle.lvm_commit.proofs.write.put_wanted.Goals as goal

pub encode_into-requires-clause-fits : goal.encode_into-requires-clause-fits
encode_into-requires-clause-fits c =
    let fits = status_fits c.as_status.result.now c.as_status.ensures.valid in
    let room : 31740 ≤ length c.args.bytes.now = c.requires in
    let small : length (status_bytes c.as_status.result.now) ≤ 31740 = fits in
    omega (arith, small, room)

pub returns-clause-fits : goal.returns-clause-fits
returns-clause-fits c =
    let small : length (status_bytes c.as_status.result.now) ≤ 31740 = status_fits c.as_status.result.now c.as_status.ensures.valid in
    let count : c.encode_into.result ≡ length (status_bytes c.as_status.result.now) = c.encode_into.ensures.count in
    omega (arith, small, count)
