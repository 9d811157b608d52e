use Rattle.std.proofs.Common.{◌-◌, refl, ◌∙◌, ap, arith}
use Rattle.lvm_num.specs.declared.descriptor.Descriptor.{Descriptor}
use Rattle.lvm_vol.specs.Log.{Log, blocks_begun}
use Rattle.lvm_ranges.proofs.PiecesLemmas.{asks_all, is_laid_out}
use Rattle.lvm_ranges.proofs.AskingLemmas.{asked_for, earlier_stay}
use Rattle.lvm_ranges.proofs.ask.ask_whole.Goals as goal

pub returns : goal.returns
returns g c =
    let first = c.args.driver.now.1 in
    let new = c.submit_pieces-last.new.driver.1 in
    let last = c.submit_pieces-last.result in
    let submitted = c.submit_pieces-last.ensures in
    let ordered = c.is_sound.ensures.told.ordered in
    let pieces = c.piece_count-pieces.ensures.is in
    let from = ap (λ n. last - n) c.from.ensures in
    let asks = asks_all c.args.write c.args.lv c.args.at c.args.count first new _ last pieces from submitted.id refl (ap (λ (d : Descriptor). d.mib) c.descriptor.ensures.same) (c.block_count-place.ensures ∙ ap (λ (log : Log). blocks_begun log.facts) c.history.ensures) submitted.submits in
    let laid = is_laid_out c.args.at c.args.count first c.descriptor.result.now _ last pieces from submitted.id refl refl c.descriptor.ensures.valid c.requires.some c.requires.most c.requires.fits (omega arith) in
    record {
      asks = asks;
      asked = asked_for c.args.write c.args.lv c.args.at c.args.count first new _ ordered asks laid;
      leaves = record { shelf = submitted.shelf; on = submitted.on; others = earlier_stay c.args.write c.args.lv c.args.at c.args.count first new _ ordered asks; runs = submitted.runs };
      room = submitted.room;
    }
