use Rattle.std.proofs.Common.{◌≡◌, true, map, take}
use Rattle.std.specs.List.{list_all}
use Rattle.lvm_words.specs.CommandLine.{is_plain}
use Rattle.lvm_words.proofs.plain.plain_words.Given as goal

abbrev pub invariant-loop-word : goal.invariant-loop-word
invariant-loop-word l = record {
  same : map (λ word. word.now) l.plain.items ≡ take l.word-index l.words;
  plain : list_all is_plain (take l.word-index l.words) ≡ true;
}
