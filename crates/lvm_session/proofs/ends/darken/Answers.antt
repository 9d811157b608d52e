use Rattle.lvm_session.proofs.DarkLemmas.{cut_told}
use Rattle.lvm_session.proofs.ends.darken.Goals as goal

pub end_open_ones-requires : goal.end_open_ones-requires
end_open_ones-requires c = record { told = rw c.cut.ensures (cut_told c.args.session.now.history c.args.session.now.requests.items c.requires.told); copy = c.requires.copy; requests = c.requires.requests }
