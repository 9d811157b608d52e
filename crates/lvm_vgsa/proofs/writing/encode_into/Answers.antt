use Rattle.std.proofs.Common.{◌≡◌, ◌≤◌, ◌+◌, ◌*◌, ◌++◌, ℕ, List, length, drop, ap, subst, arith}
use Rattle.std.specs.Prelude.{flat_map}
use Rattle.lvm_num.specs.declared.status.StatusRow.{StatusRow}
use Rattle.lvm_num.specs.StatusBytes.{status_row_bytes, dirty_bytes}
use Rattle.lvm_num.proofs.DescriptorLemmas.Bounds.{few_dirty}
use Rattle.lvm_vgsa.specs.Putting.{Puts}
use Rattle.lvm_vgsa.proofs.PuttingLemmas.{puts_three}
use Rattle.lvm_vgsa.proofs.StatusBytesLemmas.Sizes.{length-status, length-rows}
use Rattle.lvm_vgsa.proofs.writing.encode_into.Goals as goal

pub put_rows-rows-requires-clause-fits : goal.put_rows-rows-requires-clause-fits
put_rows-rows-requires-clause-fits c =
    omega (arith, c.put-head.ensures.end, ap length c.head.ensures, ap (λ (rows : List StatusRow). length rows) c.as_slice.ensures, length-status c.args.s.now c.requires.valid, c.requires.fits, c.put-head.auto.into)

pub put_dirty-requires-clause-few : goal.put_dirty-requires-clause-few
put_dirty-requires-clause-few c = rw c.as_slice-2.ensures (few_dirty c.args.s.now.dirty c.requires.valid.dirty)

pub put_dirty-requires-clause-fits : goal.put_dirty-requires-clause-fits
put_dirty-requires-clause-fits c =
    omega (
      arith,
      c.put-head.ensures.end,
      c.put_rows-rows.ensures.end,
      ap length c.head.ensures,
      ap (λ (rows : List StatusRow). length rows) c.as_slice.ensures,
      ap (λ (l : List ℕ). length (dirty_bytes l)) c.as_slice-2.ensures,
      length-status c.args.s.now c.requires.valid,
      c.requires.fits,
      c.put-head.auto.into,
      c.put_rows-rows.auto.into,
    )

pub returns-clause-count : goal.returns-clause-count
returns-clause-count c =
    omega (
      arith,
      c.put-head.ensures.end,
      c.put_rows-rows.ensures.end,
      c.put_dirty.ensures.end,
      ap length c.head.ensures,
      ap (λ (rows : List StatusRow). length rows) c.as_slice.ensures,
      ap (λ (l : List ℕ). length (dirty_bytes l)) c.as_slice-2.ensures,
      length-status c.args.s.now c.requires.valid,
    )

pub returns-clause-written : goal.returns-clause-written
returns-clause-written c =
    let old = c.args.into.now in
    let new = c.put_dirty.new.into in
    let rows = flat_map status_row_bytes c.args.s.now.rows in
    let dirty = dirty_bytes c.args.s.now.dirty in
    let first : Puts c.args.into.now c.put-head.new.into 0 c.head.result = c.put-head.ensures.puts in
    let second : Puts c.put-head.new.into c.put_rows-rows.new.into c.put-head.result (flat_map status_row_bytes c.args.s.now.rows) =
    subst (λ (l : List StatusRow). Puts c.put-head.new.into c.put_rows-rows.new.into c.put-head.result (flat_map status_row_bytes l)) c.as_slice.ensures c.put_rows-rows.ensures.puts in
    let third : Puts c.put_rows-rows.new.into c.put_dirty.new.into c.put_rows-rows.result (dirty_bytes c.args.s.now.dirty) =
    subst (λ (l : List ℕ). Puts c.put_rows-rows.new.into c.put_dirty.new.into c.put_rows-rows.result (dirty_bytes l)) c.as_slice-2.ensures c.put_dirty.ensures.puts in
    let count : length (flat_map status_row_bytes c.args.s.now.rows) ≡ 132 * length c.args.s.now.rows = length-rows c.args.s.now.rows c.requires.valid.rows.each in
    let many : length c.as_slice.result.now ≡ length c.args.s.now.rows = ap (λ (l : List StatusRow). length l) c.as_slice.ensures in
    let head : c.put-head.result ≡ length c.head.result = omega (arith, c.put-head.ensures.end) in
    let end : c.put_rows-rows.result ≡ length c.head.result + length (flat_map status_row_bytes c.args.s.now.rows) = omega (arith, c.put-head.ensures.end, c.put_rows-rows.ensures.end, many, count) in
    let fits : c.put_rows-rows.result + length (dirty_bytes c.args.s.now.dirty) ≤ length c.args.into.now =
    omega (arith, end, count, ap length c.head.ensures, length-status c.args.s.now c.requires.valid, c.requires.fits) in
    let same : length c.put-head.new.into ≡ length c.args.into.now = omega (arith, c.put-head.auto.into) in
    subst (λ (h : List ℕ). new ≡ h ++ rows ++ dirty ++ drop (length (h ++ rows ++ dirty)) old) c.head.ensures
    (puts_three old c.put-head.new.into c.put_rows-rows.new.into new c.put-head.result c.put_rows-rows.result c.head.result rows dirty first second third head end fits same)
