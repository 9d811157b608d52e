use Rattle.lvm_tie_commands.proofs.CopiesLemmas.Sharing.{split_shares, writes_stay_apart}
use Rattle.lvm_tie_commands.proofs.copies_laws.split_shares.Goals as goal

pub returns : goal.returns
returns c = record { same = split_shares; apart = writes_stay_apart }
