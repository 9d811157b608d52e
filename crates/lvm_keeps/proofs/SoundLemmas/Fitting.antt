-- The parts of a session agree while its group stays, and its rooms.
use Rattle.std.proofs.Common.{◌≡◌, ℕ, ◌+◌, ◌<◌, ◌≤◌, ◌^◌, List, [], length, sym, ap, subst, ◌∙◌}
use Rattle.lvm_num.specs.declared.descriptor.Descriptor.{Descriptor}
use Rattle.lvm_num.specs.declared.status.Status.{Status}
use Rattle.lvm_num.specs.Descriptor.{IsValid, is_member}
use Rattle.lvm_mwc.specs.Entries.{AreEntries}
use Rattle.lvm_mwc.specs.Cache.{has_disk}
use Rattle.lvm_session.specs.passed.Status.{HasItsRows}
use Rattle.lvm_session.specs.State.{Core}
use Rattle.lvm_session.specs.Sound.{IsFitting}

-- the parts that stay
abbrev pub Fixed : Type 0
Fixed = Descriptor × Status × Descriptor × ℕ × ℕ × List ℕ

abbrev pub fixed_parts : Core → Fixed
fixed_parts core = (core.descriptor, core.status.wanted, core.status.group, core.most, core.queue.room, core.last)

pub still_fits : (core now : Core) → IsFitting core → fixed_parts core ≡ fixed_parts now → AreEntries now.cache.entries → ((disk : ℕ) → has_disk now.cache disk ≡ has_disk core.cache disk)
    → length now.requests ≤ core.most → length now.pool ≡ length core.pool → now.history.room < 2 ^ 32 → IsFitting now
still_fits core now f same entries disks table long room = record {
  valid = subst IsValid group f.valid;
  id = subst (λ (d : Descriptor). now.status.wanted.id ≡ d.id) group (subst (λ (t : Status). t.id ≡ core.descriptor.id) wanted f.id);
  rows = subst (λ (d : Descriptor). HasItsRows d now.status.wanted) group (subst (λ (t : Status). HasItsRows core.descriptor t) wanted f.rows);
  group = sym (ap (λ (p : Fixed). p.2) same) ∙ f.group ∙ ap (λ (d : Descriptor). record d { lvs = [] }) group;
  entries = entries;
  notes = λ disk. disks disk ∙ f.notes disk ∙ ap (λ (d : Descriptor). is_member d disk) group;
  table = subst (λ n. length now.requests ≤ n) most table;
  most = subst (λ n. n ≤ 1024) most f.most;
  queue = sym (ap (λ (p : Fixed). p.4) same) ∙ f.queue ∙ ap (λ n. n + 1) most;
  a_buffer = subst (λ n. 1 ≤ n) (sym long) f.a_buffer;
  buffers = subst (λ n. n ≤ 1024) (sym long) f.buffers;
  last = subst (λ (xs : List ℕ). length xs ≡ 512) (ap (λ (p : Fixed). p.5) same) f.last;
  room = room;
}
  where
    group : core.descriptor ≡ now.descriptor
    group = ap (λ (p : Fixed). p.0) same

    wanted : core.status.wanted ≡ now.status.wanted
    wanted = ap (λ (p : Fixed). p.1) same

    most : core.most ≡ now.most
    most = ap (λ (p : Fixed). p.3) same
