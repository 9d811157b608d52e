use Rattle.std.proofs.Common.{◌≡◌, ◌+◌, ◌++◌, drop}
use Rattle.std.specs.String.{string_bytes}
use Rattle.lvm_group_lines.specs.Disks.{blocks_text}
use Rattle.lvm_group_lines.proofs.disks.blocks_text.Given as goal

abbrev pub invariant-loop-block : goal.invariant-loop-block
invariant-loop-block l = record {
  number : l.number ≡ l.at + l.block-index;
  text : string_bytes l.text ++ blocks_text l.number (drop l.block-index l.blocks) ≡ blocks_text l.at l.blocks;
}
