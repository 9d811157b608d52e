-- The next descriptor is valid, and who is missing.
use Rattle.std.proofs.Common.{◌≡◌, inl, inr, ℕ, ◌≤◌, Bool, true, false, ◌&&◌, ◌||◌, not, List, [], ◌∷◌, length, refl, sym, ap, ◌∙◌, arith}
use Rattle.std.specs.Prelude.{◌==◌}
use Rattle.std.specs.List.{list_any}
use Rattle.std.proofs.lemmas.Bool.{eqb-true, false≢true}
use Rattle.std.proofs.lemmas.List.Elements.{All-weaker}
use Rattle.lvm_num.specs.declared.descriptor.PvRow.{PvRow}
use Rattle.lvm_num.specs.declared.descriptor.Descriptor.{Descriptor}
use Rattle.lvm_num.specs.Disks.{Disks}
use Rattle.lvm_num.specs.Descriptor.{IsValid, IsVolume, most_members, most_volumes}
use Rattle.lvm_num.specs.Votes.{CanWrite}
use Rattle.lvm_num.proofs.Booleans.{same_itself, or_true}
use Rattle.lvm_change_laws.specs.Rule.{DiffersInRule, MayChangeRule}
use Rattle.lvm_change.specs.Rule.{with_quorum, as_big, LosesVotes, KeepsVotes}

-- ---- it is valid

pub quorum_valid : (on : Bool) (d : Descriptor) → IsValid d → IsValid (with_quorum on d)
quorum_valid on d v = record {
  head = record {
    some_id = v.head.some_id;
    id = v.head.id;
    name = v.head.name;
    size = v.head.size;
    even = λ e. absurd (false≢true e);
    a_member = v.head.a_member;
    members = v.head.members;
    volumes = v.head.volumes;
  };
  members = v.members;
  volumes = v.volumes;
  maps = record { places = v.maps.places; laid_out = v.maps.laid_out; used_once = v.maps.used_once };
}

more_members : (big : Bool) (n : ℕ) → n ≤ most_members big → n ≤ 128
more_members true n le = le
more_members false n le = omega (arith, le)

more_volumes : (big : Bool) (n : ℕ) → n ≤ most_volumes big → n ≤ 511
more_volumes true n le = le
more_volumes false n le = omega (arith, le)

pub big_valid : (d : Descriptor) → IsValid d → IsValid (as_big d)
big_valid d v = record {
  head = record {
    some_id = v.head.some_id;
    id = v.head.id;
    name = v.head.name;
    size = v.head.size;
    even = v.head.even;
    a_member = v.head.a_member;
    members = more_members d.big (length d.pvs) v.head.members;
    volumes = more_volumes d.big (length d.lvs) v.head.volumes;
  };
  members = v.members;
  volumes = record {
    each = All-weaker (IsVolume d.big) (IsVolume true) (λ row is. record {
      a_number = is.a_number;
      number = more_volumes d.big row.number is.number;
      a_copy = is.a_copy;
      copies = is.copies;
      a_partition = is.a_partition;
      partitions = is.partitions;
      name = is.name;
    }) d.lvs v.volumes.each;
    numbers_rise = v.volumes.numbers_rise;
    names_differ = v.volumes.names_differ;
  };
  maps = record { places = v.maps.places; laid_out = v.maps.laid_out; used_once = v.maps.used_once };
}

-- ---- who is missing

missing : (there : Disks) (rows : List PvRow) → list_any (λ (row : PvRow). not (there row.disk)) rows ≡ true → (disk : ℕ) × (list_any (λ (row : PvRow). row.disk == disk) rows ≡ true) × (there disk ≡ false)
missing there [] e = absurd (false≢true e)
missing there (x ∷ xs) e = by (missing there xs) (there x.disk) refl e
  where
    by : (list_any (λ (row : PvRow). not (there row.disk)) xs ≡ true → (disk : ℕ) × (list_any (λ (row : PvRow). row.disk == disk) xs ≡ true) × (there disk ≡ false)) → (b : Bool) → there x.disk ≡ b → not b || list_any (λ (row : PvRow). not (there row.disk)) xs ≡ true → (disk : ℕ) × (list_any (λ (row : PvRow). row.disk == disk) (x ∷ xs) ≡ true) × (there disk ≡ false)
    by rest false is any = (x.disk, ap (λ (b : Bool). b || list_any (λ (row : PvRow). row.disk == x.disk) xs) (same_itself x.disk), is)
    by rest true is any = let r = rest any in (r.0, ap (λ (b : Bool). (x.disk == r.0) || b) r.1 ∙ or_true (x.disk == r.0), r.2)

none_missing : (there : Disks) (rows : List PvRow) → list_any (λ (row : PvRow). not (there row.disk)) rows ≡ false → (disk : ℕ) → list_any (λ (row : PvRow). row.disk == disk) rows ≡ true → there disk ≡ true
none_missing there [] e disk member = absurd (false≢true member)
none_missing there (x ∷ xs) e disk member = by (λ none its. none_missing there xs none disk its) (there x.disk) (x.disk == disk) refl refl e member
  where
    by : (list_any (λ (row : PvRow). not (there row.disk)) xs ≡ false → list_any (λ (row : PvRow). row.disk == disk) xs ≡ true → there disk ≡ true) → (b t : Bool) → there x.disk ≡ b → (x.disk == disk) ≡ t → not b || list_any (λ (row : PvRow). not (there row.disk)) xs ≡ false → t || list_any (λ (row : PvRow). row.disk == disk) xs ≡ true → there disk ≡ true
    by rest false t is same none member = absurd (false≢true (sym none))
    by rest true true is same none member = ap there (sym (eqb-true x.disk disk same)) ∙ is
    by rest true false is same none member = rest none member

loses_votes : (was next : Descriptor) (there : Disks) → was.quorum ≡ true → next.quorum ≡ false → list_any (λ (row : PvRow). not (there row.disk)) next.pvs ≡ true → LosesVotes was next there
loses_votes was next there on off any = let m = missing there next.pvs any in record { on = on; off = off; disk = m.0; member = m.1; missing = m.2 }

pub loses_by : (was next : Descriptor) (there : Disks) → (was.quorum && (not next.quorum && list_any (λ (row : PvRow). not (there row.disk)) next.pvs)) ≡ true → LosesVotes was next there
loses_by was next there is = by was.quorum next.quorum (list_any (λ (row : PvRow). not (there row.disk)) next.pvs) refl refl refl is
  where
    by : (w n m : Bool) → was.quorum ≡ w → next.quorum ≡ n → list_any (λ (row : PvRow). not (there row.disk)) next.pvs ≡ m → w && (not n && m) ≡ true → LosesVotes was next there
    by true false true on off any is = loses_votes was next there on off any
    by true false false on off any is = absurd (false≢true is)
    by true true m on off any is = absurd (false≢true is)
    by false n m on off any is = absurd (false≢true is)

pub keeps_votes : (was next : Descriptor) (there : Disks) → (was.quorum && (not next.quorum && list_any (λ (row : PvRow). not (there row.disk)) next.pvs)) ≡ false → KeepsVotes was next there
keeps_votes was next there isnt = by was.quorum next.quorum (list_any (λ (row : PvRow). not (there row.disk)) next.pvs) refl refl refl isnt
  where
    by : (w n m : Bool) → was.quorum ≡ w → next.quorum ≡ n → list_any (λ (row : PvRow). not (there row.disk)) next.pvs ≡ m → w && (not n && m) ≡ false → KeepsVotes was next there
    by false n m off on any isnt = inr (inl off)
    by true true m off on any isnt = inl on
    by true false false off on any isnt = inr (inr (none_missing there next.pvs any))
    by true false true off on any isnt = absurd (false≢true (sym isnt))

pub may_change : (was next : Descriptor) (there : Disks) → IsValid was → IsValid next → DiffersInRule was next → CanWrite was there → CanWrite next there → KeepsVotes was next there → MayChangeRule was next there
may_change was next there valid valid_next differs enough enough_too keeps = record { valid = valid; valid_next = valid_next; differs = differs; enough = enough; enough_too = enough_too; found = keeps }
