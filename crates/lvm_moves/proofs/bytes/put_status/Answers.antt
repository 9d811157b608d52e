use Rattle.std.proofs.Common.{◌≡◌, ◌≤◌, ◌+◌, ◌/◌, ℕ, List, Some, length, take, drop, sym, ◌∙◌, ap, arith}
use Rattle.std.proofs.Math.Seq.{take-append_seam}
use Rattle.std.proofs.lemmas.List.{length-take}
use Rattle.lvm_num.specs.declared.record.Kind.TheVariants as kind
use Rattle.lvm_num.specs.declared.record.Stamp.{Stamp}
use Rattle.lvm_num.specs.declared.status.Status.{Status}
use Rattle.lvm_num.specs.Record.{frame, record_sectors}
use Rattle.lvm_num.specs.StatusBytes.{status_bytes}
use Rattle.lvm_commit.proofs.RecordLemmas.{status_fits}
use Rattle.lvm_moves.proofs.bytes.put_status.Goals as goal

pub encode_into-len-requires-clause-fits : goal.encode_into-len-requires-clause-fits
encode_into-len-requires-clause-fits c =
    let room = c.requires.room in
    let small : length (status_bytes c.as_status.result.now) ≤ 31740 = status_fits c.as_status.result.now c.as_status.ensures.valid in
    omega (arith, small, room)

pub slot_sectors-count-requires : goal.slot_sectors-count-requires
slot_sectors-count-requires c =
    let small : length (status_bytes c.as_status.result.now) ≤ 31740 = status_fits c.as_status.result.now c.as_status.ensures.valid in
    let count : c.encode_into-len.result ≡ length (status_bytes c.as_status.result.now) = c.encode_into-len.ensures.count in
    omega (arith, small, count)

pub put_frames-requires-clause-fits : goal.put_frames-requires-clause-fits
put_frames-requires-clause-fits c =
    let small : length (status_bytes c.as_status.result.now) ≤ 31740 = status_fits c.as_status.result.now c.as_status.ensures.valid in
    let count : c.encode_into-len.result ≡ length (status_bytes c.as_status.result.now) = c.encode_into-len.ensures.count in
    let taken = length-take c.encode_into-len.result c.encode_into-len.new.into in
    omega (arith, small, count, taken)

pub returns-clause-carried : goal.returns-clause-carried
returns-clause-carried c =
    let s = c.as_status.result.now in
    let bytes = status_bytes s in
    let content : take c.encode_into-len.result c.encode_into-len.new.into ≡ bytes =
    ap (λ n. take n c.encode_into-len.new.into) c.encode_into-len.ensures.count ∙ ap (take (length bytes)) c.encode_into-len.ensures.written ∙ take-append_seam bytes (drop (length bytes) c.args.bytes.now) in
    record {
      status = s;
      flies = sym c.in-Some.ensures ∙ ap (λ (t : Status). Some t) (sym c.as_status.ensures.same);
      count_is = c.slot_sectors-count.ensures ∙ ap record_sectors c.encode_into-len.ensures.count;
      sectors = λ k less. c.put_frames.ensures.frames k less ∙ ap (λ (t : Stamp). Some (frame kind.Status t (take c.encode_into-len.result c.encode_into-len.new.into) k)) c.stamp.ensures ∙ ap (λ (l : List ℕ). Some (frame kind.Status c.args.updater.now.stamp l k)) content;
    }

pub returns-clause-few : goal.returns-clause-few
returns-clause-few c =
    let small : length (status_bytes c.as_status.result.now) ≤ 31740 = status_fits c.as_status.result.now c.as_status.ensures.valid in
    let count : c.encode_into-len.result ≡ length (status_bytes c.as_status.result.now) = c.encode_into-len.ensures.count in
    let sectors : c.slot_sectors-count.result ≡ (c.encode_into-len.result + 4 + 495) / 496 = c.slot_sectors-count.ensures in
    (omega (arith, sectors), omega (arith, small, count, sectors))
