-- Transfers of sectors of a record, one after another.
use Rattle.std.proofs.Common.{◌≡◌, ℕ, ◌+◌, ◌-◌, List, Some, true, slice_get, refl, sym, ◌∙◌, subst, arith}
use Rattle.lvm_num.specs.Buffer.{Buffer}
use Rattle.lvm_num.specs.Disks.{Disks}
use Rattle.lvm_disk.specs.Counts.{Counts, Rose, RoseAt, RoseBy}
use Rattle.lvm_disk.specs.Device.{Device, IsReady, image_of}
use Rattle.lvm_disk.specs.Paths.{Here}
use Rattle.lvm_quorum.specs.passed.Transfer.{Plan, ChangesBy, RecordWrite, IsOfRecord, Moved}
use Rattle.lvm_quorum.specs.passed.TransferMovesMoved as moved
use Rattle.lvm_quorum.proofs.passed.Transfer.{unheard_then}
use Rattle.lvm_write.specs.Written.{HasRoom, KeepsShelf, FreesAtMost, IsDarkened, IsGivenUp}
use Rattle.lvm_write.specs.Parts.{PartsStand, CountsEnd, IfMoved, LeavesShelf, IfReturned, Spends, DoesPart, WritesPart}
use Rattle.lvm_write.proofs.WrittenLemmas.Writing.{logs_none, logs_then, both_then, both_same, changes_then, changes_none, writing_here, moments_on, parts_stay, no_parts, parts_join}

-- ---- the shelf

pub keeps_here : (targets : Disks) (P : Plan) (old : Device) → KeepsShelf targets P old old
keeps_here targets P old = record {
  sizes = refl;
  arranges = refl;
  orders = refl;
  misses = refl;
  starts = λ d off. refl;
  faults = λ d off. refl;
  wrote = logs_none P old.wrote;
  media = both_same old.media (λ was is. ChangesBy P (image_of old.sizes was) (image_of old.sizes is)) (λ m. changes_none P (image_of old.sizes m));
}

pub keeps_then : (targets : Disks) (P : Plan) (old mid new : Device) → KeepsShelf targets P old mid → KeepsShelf targets P mid new → KeepsShelf targets P old new
keeps_then targets P old mid new one two = record {
  sizes = two.sizes ∙ one.sizes;
  arranges = two.arranges ∙ one.arranges;
  orders = two.orders ∙ one.orders;
  misses = two.misses ∙ one.misses;
  starts = λ d off. two.starts d off ∙ one.starts d off;
  faults = λ d off. two.faults d off ∙ one.faults d off;
  wrote = logs_then P old.wrote mid.wrote new.wrote one.wrote two.wrote;
  media = both_then old.media mid.media new.media
      (λ was is. ChangesBy P (image_of old.sizes was) (image_of mid.sizes is))
      (λ was is. ChangesBy P (image_of mid.sizes was) (image_of new.sizes is))
      (λ was is. ChangesBy P (image_of old.sizes was) (image_of new.sizes is))
      (λ a b c p q. changes_then P (image_of old.sizes a) (image_of mid.sizes b) (image_of new.sizes c) p q) one.media two.media;
}

pub still_room : (old new : Device) (d : ℕ) → new.sizes ≡ old.sizes → HasRoom old d → HasRoom new d
still_room old new d same room = (room.0, subst (λ (l : List ℕ). slice_get l d ≡ Some room.0) (sym same) room.1, room.2)

-- ---- the patience

pub spends_none : (patience : ℕ) (old : Device) → Spends patience patience old old
spends_none patience old = record { falls = omega arith; waits = record { later = omega arith; risen = omega arith } }

pub rose_then : (p q a b c : ℕ) → RoseBy p a b → RoseBy q b c → RoseBy (p + q) a c
rose_then p q a b c one two = record { later = omega (arith, one.later, two.later); risen = omega (arith, one.later, two.later, one.risen, two.risen) }

pub spends_then : (p q r : ℕ) (old mid new : Device) → Spends p q old mid → Spends q r mid new → Spends p r old new
spends_then p q r old mid new one two =
    let both = rose_then (p - q) (q - r) old.counts.waits mid.counts.waits new.counts.waits one.waits two.waits in
    let f = one.falls in
    let g = two.falls in
    let sum : (p - q) + (q - r) ≡ p - r = omega (arith, f, g) in
    record { falls = omega (arith, f, g); waits = subst (λ (n : ℕ). RoseBy n old.counts.waits new.counts.waits) sum both }

pub spent_then : (p q : ℕ) (old mid new : Device) → Spends p q old mid → RoseBy q mid.counts.waits new.counts.waits → RoseBy p old.counts.waits new.counts.waits
spent_then p q old mid new one rose =
    let both = rose_then (p - q) q old.counts.waits mid.counts.waits new.counts.waits one.waits rose in
    let f = one.falls in
    let sum : (p - q) + q ≡ p = omega (arith, f) in
    subst (λ (n : ℕ). RoseBy n old.counts.waits new.counts.waits) sum both

-- ---- the answers

pub counts_then : (disk : ℕ) (old mid new : Counts) (how : Moved) → mid.faults ≡ old.faults → mid.cuts ≡ old.cuts → CountsEnd disk mid new how → CountsEnd disk old new how
counts_then disk old mid new (moved.Done back) f c end = (end.0 ∙ f, end.1 ∙ c)
counts_then disk old mid new (moved.Failed back) f c end = (subst (λ (h : ℕ → ℕ). RoseAt disk h new.faults) f end.0, end.1 ∙ c)
counts_then disk old mid new (moved.Dark started) f c end = (end.0 ∙ f, subst (λ (n : ℕ). Rose n new.cuts) c end.1)
counts_then disk old mid new moved.Stuck f c end = (end.0 ∙ f, end.1 ∙ c)

pub darkened_then : (number next : ℕ) (old mid new : Device) → next ≡ number → mid.counts.cuts ≡ old.counts.cuts → IsDarkened next mid new → IsDarkened number old new
darkened_then number next old mid new same cuts dark = record {
  flights = dark.flights;
  freed = subst (λ (n : ℕ). FreesAtMost n new) same dark.freed;
  power = dark.power;
  cuts = subst (λ (n : ℕ). Rose n new.counts.cuts) cuts dark.cuts;
}

pub given_up_then : (number next p q : ℕ) (old mid new : Device) → next ≡ number → mid.counts.cuts ≡ old.counts.cuts → Spends p q old mid → IsGivenUp next q mid new → IsGivenUp number p old new
given_up_then number next p q old mid new same cuts one stuck = unheard_then true number next p q old mid new same cuts one.falls one.waits stuck

leaves_then : (number next p q : ℕ) (old mid new : Device) (how : Moved) → next ≡ number → mid.counts.cuts ≡ old.counts.cuts → Spends p q old mid → LeavesShelf next q mid new how → LeavesShelf number p old new how
leaves_then number next p q old mid new (moved.Done back) same cuts one leaves = tt
leaves_then number next p q old mid new (moved.Failed back) same cuts one leaves = tt
leaves_then number next p q old mid new (moved.Dark started) same cuts one leaves = darkened_then number next old mid new same cuts leaves
leaves_then number next p q old mid new moved.Stuck same cuts one leaves = given_up_then number next p q old mid new same cuts one leaves

back_then : (number next : ℕ) (how : Moved) → next ≡ number → IfReturned how (λ back. back.number ≡ next) → IfReturned how (λ back. back.number ≡ number)
back_then number next how same back = subst (λ (n : ℕ). IfReturned how (λ back. back.number ≡ n)) same back

-- it ended in another way
pub not_done : (how : Moved) (P : Buffer → Type 0) → ((back : Buffer) → how ≡ moved.Done back → ⊥) → IfMoved how P
not_done (moved.Done back) P never = absurd (never back refl)
not_done (moved.Failed back) P never = tt
not_done (moved.Dark started) P never = tt
not_done moved.Stuck P never = tt

-- ---- one transfer after another

pub part_here : (targets : Disks) (P : Plan) (disk number patience : ℕ) (old : Device) (buf : Buffer) → IsReady old → buf.number ≡ number → DoesPart targets P disk number patience patience old old (moved.Done buf)
part_here targets P disk number patience old buf ready same = record {
  keeps = keeps_here targets P old;
  counts = (refl, refl);
  rests = ready;
  spends = spends_none patience old;
  leaves = tt;
  buffer = same;
  moments = Here (writing_here P old ready.flights);
}

pub part_then :
    (targets : Disks) (P : Plan) (disk number p q r : ℕ) (old mid new : Device) (buf : Buffer) (how : Moved) → DoesPart targets P disk number p q old mid (moved.Done buf) → DoesPart targets P disk buf.number q r mid new how
    → DoesPart targets P disk number p r old new how
part_then targets P disk number p q r old mid new buf how one two = record {
  keeps = keeps_then targets P old mid new one.keeps two.keeps;
  counts = counts_then disk old.counts mid.counts new.counts how one.counts.0 one.counts.1 two.counts;
  rests = two.rests;
  spends = spends_then p q r old mid new one.spends two.spends;
  leaves = leaves_then number buf.number p q old mid new how one.buffer one.counts.1 one.spends two.leaves;
  buffer = back_then number buf.number how one.buffer two.buffer;
  moments = moments_on P old mid one.keeps.media new one.moments two.moments;
}

-- ---- the pieces of one disk

-- the sectors below one of them were written
pub record WroteBelow (w : RecordWrite) (disk number before after : ℕ) (old now : Device) (buf : Buffer) (first : ℕ) : Type 0 where
  pub part : WritesPart w disk number before after old now (moved.Done buf)
  pub stand : PartsStand w now disk 0 first

pub none_written : (w : RecordWrite) (disk patience : ℕ) (old : Device) (buf : Buffer) → IsReady old → WroteBelow w disk buf.number patience patience old old buf 0
none_written w disk patience old buf ready = record { part = part_here w.targets (IsOfRecord w) disk buf.number patience old buf ready refl; stand = no_parts w old disk }

pub piece_written :
    (w : RecordWrite) (disk number p q r : ℕ) (old mid new : Device) (buf back : Buffer) (first to : ℕ) → WroteBelow w disk number p q old mid buf first
    → WritesPart w disk buf.number q r mid new (moved.Done back) → PartsStand w new disk first to → WroteBelow w disk number p r old new back to
piece_written w disk number p q r old mid new buf back first to so_far two stand = record {
  part = part_then w.targets (IsOfRecord w) disk number p q r old mid new buf (moved.Done back) so_far.part two;
  stand = parts_join w new disk first to (parts_stay w mid new two.keeps.media disk 0 first so_far.stand) stand;
}
