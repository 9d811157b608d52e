-- Where no row of a status calls its disk missing, the votes that are there are all.
use Rattle.std.proofs.Common.{◌≡◌, ◌==◌, ◌&&◌, ◌||◌, ℕ, Bool, true, false, not, le_antisymm, List, [], ◌∷◌, refl, ◌∙◌, ap}
use Rattle.std.specs.List.{list_any}
use Rattle.std.proofs.lemmas.Bool.{or_parts}
use Rattle.lvm_num.specs.declared.descriptor.Descriptor.{Descriptor}
use Rattle.lvm_num.specs.declared.status.StatusRow.{StatusRow}
use Rattle.lvm_num.specs.declared.status.Status.{Status}
use Rattle.lvm_num.specs.Descriptor.{is_member}
use Rattle.lvm_num.specs.Status.{calls_missing}
use Rattle.lvm_num.specs.Votes.{all_disks, total_votes, votes_in}
use Rattle.lvm_num.proofs.VotesLemmas.{more_have_more}
use Rattle.lvm_due.specs.passed.Session.{members_there}

not_both : (a b c : Bool) → b ≡ false → c ≡ false → (a && b || c) ≡ false
not_both false b false is none = refl
not_both true false false is none = refl
not_both true true c is none = cc
not_both a b true is none = cc

none_missing : (rows : List StatusRow) (disk : ℕ) → list_any (λ (row : StatusRow). row.missing) rows ≡ false → list_any (λ (row : StatusRow). row.disk == disk && row.missing) rows ≡ false
none_missing [] disk none = refl
none_missing (row ∷ rows) disk none =
    let parts = or_parts row.missing (list_any (λ (r : StatusRow). r.missing) rows) none in
    not_both (row.disk == disk) row.missing (list_any (λ (r : StatusRow). r.disk == disk && r.missing) rows) parts.0 (none_missing rows disk parts.1)

pub all_there : (d : Descriptor) (s : Status) → list_any (λ (row : StatusRow). row.missing) s.rows ≡ false → total_votes d ≡ votes_in d (members_there d s)
all_there d s none = le_antisymm (more_have_more d all_disks (members_there d s) there) (more_have_more d (members_there d s) all_disks (λ disk member it. refl))
  where
    there : (disk : ℕ) → is_member d disk ≡ true → all_disks disk ≡ true → members_there d s disk ≡ true
    there disk member it = ap (λ b. b && not (calls_missing s disk)) member ∙ ap not (none_missing s.rows disk none)
