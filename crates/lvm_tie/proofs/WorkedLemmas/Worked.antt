-- A session that has just begun is tied.
use Rattle.std.proofs.Common.{None, refl, ap}
use Rattle.lvm_num.specs.declared.status.Status.{Status}
use Rattle.lvm_num.specs.Record.{Stamped}
use Rattle.lvm_crash.proofs.WorkedLemmas.Shelf.{the_status}
use Rattle.lvm_tie.proofs.BeginsLemmas.Resting.{some_is_none}
use Rattle.lvm_kept.specs.Examples.{two}
use Rattle.lvm_crash.specs.Worked.{media_of}
use Rattle.lvm_crash.proofs.WorkedLemmas.Worked.{groups_have_votes}
use Rattle.lvm_tie.specs.Worked.{shown, BeginningsAreTied}
use Rattle.lvm_tie.proofs.WorkedLemmas.Parts.{no_note_flies, is_sound}
use Rattle.lvm_tie.proofs.WorkedLemmas.Seen.{seen_as, is_good, it_describes, sees}
use Rattle.lvm_tie.proofs.WorkedLemmas.Shelf.{may_update, members, records}

pub beginnings_are_tied : BeginningsAreTied
beginnings_are_tied mode stale = let votes = groups_have_votes (two mode) in record {
  votes = votes.0;
  media = media_of (shown mode stale);
  setting = record {
    are_votes = votes.1;
    told = refl;
    own = refl;
  };
  view = seen_as mode stale;
  sees = sees mode stale;
  good = is_good votes.0 mode stale votes.1;
  describes = it_describes mode stale;
  write = None;
  orderly = record { sound = is_sound mode stale; on = refl; update = tt };
  since = tt;
  recorded = record {
    next = may_update mode stale;
    members = λ d is there. members mode stale d is;
    records = records mode stale;
    committed = record {
      stands = λ d r is own stamp. ap (λ (x : Stamped Status). x.value) (the_status (shown mode stale) d r is);
      flies = λ u is stamp. absurd (cc is);
    };
  };
  notes = λ d items flies. some_is_none _ items (no_note_flies mode stale d) flies;
  copy_aimed = λ c is row. absurd cc;
  carry = tt;
}
