use Rattle.std.proofs.Common.{List, refl, sym, subst}
use Rattle.lvm_num.specs.Buffer.{Sector}
use Rattle.lvm_vol.specs.Log.{Log}
use Rattle.lvm_group_lines.specs.Disks.{blocks_text}
use Rattle.lvm_group_lines.specs.passed.Ranges.{AreGot, HasEndedWell, IsRead}
use Rattle.lvm_group_lines.specs.Replies.{Shows}
use Rattle.lvm_range_lines.specs.Requests.{NoMemory, ShowsThem}
use Rattle.lvm_range_lines.proofs.requests.blocks_reply.Goals as goal

pub read_blocks-requires-clause-read : goal.read_blocks-requires-clause-read
read_blocks-requires-clause-read g c = subst (λ (log : Log). IsRead log.facts c.args.asked.now c.args.count) (sym c.history.ensures) c.requires.read

pub read_blocks-requires-clause-well : goal.read_blocks-requires-clause-well
read_blocks-requires-clause-well g c = subst (λ (log : Log). HasEndedWell log.facts c.args.asked.now) (sym c.history.ensures) c.requires.well

pub returns-in-Ok : goal.returns-in-Ok
returns-in-Ok g c = ShowsThem (record {
  blocks = c.in-Ok.blocks;
  got = subst (λ (log : Log). AreGot log.facts c.args.asked.now.first c.args.asked.now.pieces c.in-Ok.blocks) c.history.ensures c.in-Ok.ensures.got;
  shows = subst (λ (blocks : List Sector). Shows (blocks_text c.args.asked.now.at blocks) c.lines_reply.result) c.as_slice.ensures c.lines_reply.ensures;
})

pub returns-in-Err : goal.returns-in-Err
returns-in-Err g c = NoMemory refl
