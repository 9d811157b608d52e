-- Which refusals come before anything is asked of a disk.
use Rattle.std.proofs.Common.{◌≡◌, ◌⊎◌, ⊎_elim, inl, inr, ◌+◌, ◌-◌, [], ℕ, List, Some, slice_get, Result, Ok, Err, refl, sym, ◌∙◌, ap, subst, arith}
use Rattle.std.proofs.lemmas.Option.{slice_get_within}
use Rattle.lvm_num.specs.Buffer.{Buffer, Sector}
use Rattle.lvm_disk.specs.Device.{Device}
use Rattle.lvm_vol.specs.Log.{Log}
use Rattle.lvm_kept.specs.Moments.{Moment}
use Rattle.lvm_transfer.specs.declared.moves.Moved.{Moved}
use Rattle.lvm_transfer.specs.declared.moves.Moved.TheVariants as moved
use Rattle.lvm_raw.specs.declared.fault.RawFault.{RawFault}
use Rattle.lvm_raw.specs.declared.fault.RawFault.TheVariants as fault
use Rattle.lvm_raw.specs.Asking.{IsNoDisk, IsInData, IsOutsideDisk, HasRoomForPieces, IsFull, IsRejected, MayAsk}
use Rattle.lvm_raw.specs.Pieces.{piece_end, answer_after, with_front, PiecesGo, NoPiece, OnePiece, RangeGoes, WentThrough, WasBroken, WritesGo, ReadsGo}
use Rattle.lvm_disk.specs.Counts.{Counts}
use Rattle.lvm_steps.specs.Requests.{IsInNoGroup, at as moment_of}
use Rattle.lvm_raw.specs.Keeping.{AnswerHasCause}
use Rattle.lvm_raw.specs.Looking.{LookFails, look_ends}
use Rattle.lvm_raw.specs.Raw.{RawGives, Rejected, Unasked, Asked, IsNotAsked, WasServed, log_with, without_facts}
use Rattle.lvm_raw.specs.Ends.{FaultHasCause, RawEnds}
use Rattle.lvm_raw.proofs.LookingLemmas.{look_rooms, unserved}

-- ---- a range is rejected for one cause alone

module _ (device : Device) (log : Log) (disk at count : ℕ) where
  not_there : (size : ℕ) → slice_get device.sizes disk ≡ Some size → IsNoDisk device disk → ⊥
  not_there size is none = let less = slice_get_within device.sizes disk size is in omega (arith, less, none)

  one_size : (a b : ℕ) → slice_get device.sizes disk ≡ Some a → slice_get device.sizes disk ≡ Some b → a ≡ b
  one_size a b p q = cc

  not_outside : (size : ℕ) → IsInData device disk at count → IsOutsideDisk device disk at count size → ⊥
  not_outside size inside out =
      let same : inside.size ≡ size = one_size inside.size size inside.is out.is in
      ⊎_elim (λ low. omega (arith, low, inside.low)) (λ high. omega (arith, high, inside.high, same)) out.outside

  not_full : HasRoomForPieces log at count → IsFull log at count → ⊥
  not_full room full = ⊎_elim (λ few. omega (arith, few, room.entries)) (λ few. omega (arith, few, room.bytes)) full

  -- what may be asked isn't rejected
  pub may_ask : (why : RawFault) → MayAsk device log disk at count → IsRejected device log disk at count why → ⊥
  may_ask (fault.NoDisk d) may is = not_there may.inside.size may.inside.is is.1
  may_ask (fault.OutOfRange size) may is = not_outside size may.inside is
  may_ask fault.HistoryFull may is = not_full may.room is.1
  may_ask _ may is = is

  pub one_cause : (a b : RawFault) → IsRejected device log disk at count a → IsRejected device log disk at count b → a ≡ b
  one_cause (fault.NoDisk d) (fault.NoDisk e) p q = ap fault.NoDisk (p.0 ∙ sym q.0)
  one_cause (fault.NoDisk d) (fault.OutOfRange size) p q = absurd (not_there size q.is p.1)
  one_cause (fault.NoDisk d) fault.HistoryFull p q = absurd (not_there q.0.size q.0.is p.1)
  one_cause (fault.OutOfRange size) (fault.NoDisk d) p q = absurd (not_there size p.is q.1)
  one_cause (fault.OutOfRange size) (fault.OutOfRange other) p q = ap fault.OutOfRange (one_size size other p.is q.is)
  one_cause (fault.OutOfRange size) fault.HistoryFull p q = absurd (not_outside size q.0 p)
  one_cause fault.HistoryFull (fault.NoDisk d) p q = absurd (not_there p.0.size p.0.is q.1)
  one_cause fault.HistoryFull (fault.OutOfRange size) p q = absurd (not_outside size p.0 q)
  one_cause fault.HistoryFull fault.HistoryFull p q = refl
  one_cause (fault.NoDisk d) _ p q = absurd q
  one_cause (fault.OutOfRange size) _ p q = absurd q
  one_cause fault.HistoryFull _ p q = absurd q
  one_cause _ b p q = absurd p

-- ---- the cause of an answer

-- one that pieces may give which fail so
abbrev pub IsOfPieces : {X : Type 0} → RawFault → Result X RawFault → Type 0
IsOfPieces failed (Ok x) = Unit {0}
IsOfPieces failed (Err fault.Dark) = Unit {0}
IsOfPieces failed (Err fault.Stuck) = Unit {0}
IsOfPieces failed (Err other) = other ≡ failed

of_failed : (X : Type 0) (failed : RawFault) → IsOfPieces {X = X} failed (Err failed)
of_failed X fault.Dark = tt
of_failed X fault.Stuck = tt
of_failed X _ = refl

after_of : {X : Type 0} (failed : RawFault) (more : Buffer → X → X) (how : Moved) (given : Result X RawFault) → IsOfPieces failed given → IsOfPieces failed (answer_after failed more how given)
after_of failed more moved.Stuck given is = tt
after_of failed more (moved.Done back) (Ok x) is = tt
after_of failed more (moved.Done back) (Err why) is = is
after_of {X} failed more (moved.Failed back) (Ok x) is = of_failed X failed
after_of failed more (moved.Failed back) (Err why) is = is
after_of failed more (moved.Dark started) (Ok x) is = tt
after_of failed more (moved.Dark started) (Err why) is = is

module _ {X : Type 0} (Piece : ℕ → ℕ → ℕ → Moment → Moment → Moved → Type 0) (failed : RawFault) (more : ℕ → Buffer → X → X) (at end : ℕ) (first : Moment) (nothing : X) where
  abbrev answer : ℕ → Moved → Result X RawFault → Result X RawFault
  answer count how given = answer_after failed (more count) how given

  pieces_of : (from : ℕ) (now : Moment) (given : Result X RawFault) → PiecesGo Piece answer at end first (Ok nothing) from now given → IsOfPieces failed given
  pieces_of from now given NoPiece = tt
  pieces_of to now given (OnePiece {from} {patience} {old} {new} {x} {how} so_far within piece ended) = after_of failed (more (piece_end from end - from)) how x (pieces_of from old x so_far)

  pub range_of : (last : Moment) (given : Result X RawFault) → RangeGoes Piece answer at end first (Ok nothing) last given → IsOfPieces failed given
  range_of last given (WentThrough all) = pieces_of end last given all
  range_of last given (WasBroken {from} {patience} {old} {x} {how} so_far within piece broken is) = subst (IsOfPieces failed) (sym is) (after_of failed (more (piece_end from end - from)) how x (pieces_of from old x so_far))

pub writes_of : (run disk at count word : ℕ) (old new : Moment) (given : Result (Unit {0}) RawFault) → WritesGo run disk at count word old new given → IsOfPieces fault.Lost given
writes_of run disk at count word old new given goes = range_of {X = Unit {0}} _ fault.Lost (λ n back done. done) at (at + count) old tt new given goes

pub reads_of : (run disk at count : ℕ) (old new : Moment) (given : Result (List Sector) RawFault) → ReadsGo run disk at count old new given → IsOfPieces fault.ReadFailed given
reads_of run disk at count old new given goes = range_of _ fault.ReadFailed with_front at (at + count) old [] new given goes

abbrev why_of : {X : Type 0} → RawFault → Result X RawFault → RawFault
why_of other (Ok x) = other
why_of other (Err why) = why

err_of : {X : Type 0} (given : Result X RawFault) (a b : RawFault) → given ≡ Err a → given ≡ Err b → a ≡ b
err_of given a b p q = sym (ap (why_of a) p) ∙ ap (why_of a) q

-- a fault that comes before all pieces
abbrev pub IsBefore : RawFault → Type 0
IsBefore (fault.NoDisk d) = Unit {0}
IsBefore (fault.OutOfRange size) = Unit {0}
IsBefore fault.HistoryFull = Unit {0}
IsBefore (fault.DiskFailed d) = Unit {0}
IsBefore (fault.InGroup d) = Unit {0}
IsBefore other = ⊥

-- a fault of the pieces comes before none of them
pub not_of_pieces : (X : Type 0) (failed : RawFault) → (IsBefore failed → ⊥) → (why : RawFault) → IsBefore why → IsOfPieces {X = X} failed (Err why) → ⊥
not_of_pieces X failed later fault.Dark before is = before
not_of_pieces X failed later fault.Stuck before is = before
not_of_pieces X failed later why before is = later (subst IsBefore is before)

-- what was rejected has raised no count, and wasn't served
pub rejected_rose : (X : Type 0) (device : Device) (log : Log) (disk at count patience : ℕ) (old new : Counts) (why : RawFault) → IsRejected device log disk at count why → AnswerHasCause {X = X} disk patience old new (Err why)
rejected_rose X device log disk at count patience old new (fault.NoDisk d) is = tt
rejected_rose X device log disk at count patience old new (fault.OutOfRange size) is = tt
rejected_rose X device log disk at count patience old new fault.HistoryFull is = tt
rejected_rose X device log disk at count patience old new _ is = absurd is

pub rejected_unserved : (X : Type 0) (device : Device) (log : Log) (disk at count : ℕ) (why : RawFault) → IsRejected device log disk at count why → WasServed {X = X} (Err why) → ⊥
rejected_unserved X device log disk at count (fault.NoDisk d) is served = served
rejected_unserved X device log disk at count (fault.OutOfRange size) is served = served
rejected_unserved X device log disk at count fault.HistoryFull is served = served
rejected_unserved X device log disk at count _ is served = is

module _ {X : Type 0} (failed : RawFault) (Goes : Moment → Moment → Result X RawFault → Type 0) (log : Log) (disk at count patience : ℕ) (old new : Moment) where
  abbrev Refused : RawFault → Type 0
  Refused why = IsRejected old.device (log_with log old.facts) disk at count why

  -- what is rejected is answered so,
  rejects : (given : Result X RawFault) → RawGives Goes log disk at count patience old new given → (why : RawFault) → Refused why → given ≡ Err why
  rejects given (Rejected other is cause same) why rejected = is ∙ ap Err (one_cause old.device (log_with log old.facts) disk at count other why cause rejected)
  rejects given (Unasked other is may fails facts) why rejected = absurd (may_ask old.device (log_with log old.facts) disk at count why may rejected)
  rejects given (Asked may mid finds goes) why rejected = absurd (may_ask old.device (log_with log old.facts) disk at count why may rejected)

  module _ (pieces : (m n : Moment) (a : Result X RawFault) → Goes m n a → IsOfPieces failed a) (apart : (why : RawFault) → IsBefore why → IsOfPieces {X = X} failed (Err why) → ⊥) where
    -- and a fault is a rejection, or came of the look, or of the pieces
    faulted : (given : Result X RawFault) (why : RawFault) → given ≡ Err why → RawGives Goes log disk at count patience old new given → Refused why ⊎ (LookFails patience disk old.device new.device why ⊎ IsOfPieces {X = X} failed (Err why))
    faulted given why answer (Rejected other is cause same) = inl (subst (λ (f : RawFault). Refused f) (err_of given other why is answer) cause)
    faulted given why answer (Unasked other is may fails facts) = inr (inl (subst (LookFails patience disk old.device new.device) (err_of given other why is answer) fails))
    faulted given why answer (Asked may mid finds goes) = inr (inr (subst (IsOfPieces failed) answer (pieces _ new given goes)))

    abbrev Cause : RawFault → Type 0
    Cause why = FaultHasCause failed (log_with log old.facts) disk at count patience old.device new.device why

    cause_of : (why : RawFault) → Refused why ⊎ (LookFails patience disk old.device new.device why ⊎ IsOfPieces {X = X} failed (Err why)) → (WasServed {X = X} (Err why) → IsInNoGroup old.device disk)
        → AnswerHasCause {X = X} disk patience old.device.counts new.device.counts (Err why) → Cause why
    cause_of (fault.NoDisk d) which served rose = ⊎_elim (λ r. r) (λ o. ⊎_elim (λ l. absurd l) (λ p. absurd (apart (fault.NoDisk d) tt p)) o) which
    cause_of (fault.OutOfRange size) which served rose = ⊎_elim (λ r. r) (λ o. ⊎_elim (λ l. absurd l) (λ p. absurd (apart (fault.OutOfRange size) tt p)) o) which
    cause_of fault.HistoryFull which served rose = ⊎_elim (λ r. r) (λ o. ⊎_elim (λ l. absurd l) (λ p. absurd (apart fault.HistoryFull tt p)) o) which
    cause_of (fault.DiskFailed d) which served rose = ⊎_elim (λ r. absurd r) (λ o. ⊎_elim (λ l. (l.0, l.2.misses)) (λ p. absurd (apart (fault.DiskFailed d) tt p)) o) which
    cause_of (fault.InGroup d) which served rose = ⊎_elim (λ r. absurd r) (λ o. ⊎_elim (λ l. (l.0, l.3)) (λ p. absurd (apart (fault.InGroup d) tt p)) o) which
    cause_of fault.Lost which served rose = ⊎_elim (λ r. absurd r) (λ o. ⊎_elim (λ l. absurd l) (λ p. (sym p, served tt, rose)) o) which
    cause_of fault.ReadFailed which served rose = ⊎_elim (λ r. absurd r) (λ o. ⊎_elim (λ l. absurd l) (λ p. (sym p, served tt, rose)) o) which
    cause_of fault.Dark which served rose = rose
    cause_of fault.Stuck which served rose = rose
    cause_of fault.Memory which served rose = tt

    -- each answer has its cause
    pub raw_ends : (given : Result X RawFault) → RawGives Goes log disk at count patience old new given → (WasServed given → IsInNoGroup old.device disk) → AnswerHasCause disk patience old.device.counts new.device.counts given
        → RawEnds failed (log_with log old.facts) disk at count patience old.device new.device given
    raw_ends (Ok x) gives served rose = record { rejects = rejects (Ok x) gives; served = served tt; cause = tt }
    raw_ends (Err why) gives served rose = record { rejects = rejects (Err why) gives; served = tt; cause = cause_of why (faulted (Err why) why refl gives) served rose }

-- ---- no request is made

module _ (disk at count patience : ℕ) (was : Log) (old : Device) (is : Log) (new : Device) (why : RawFault) (un : IsNotAsked disk at count patience was old is new why) where
  pub unasked_gives : {X : Type 0} (Goes : Moment → Moment → Result X RawFault → Type 0) → RawGives Goes (without_facts was) disk at count patience (moment_of old was.facts) (moment_of new is.facts) (Err why)
  unasked_gives Goes = ⊎_elim
      (λ (rejected : IsRejected old was disk at count why × (new ≡ old) × (is ≡ was)). Rejected why refl rejected.0 (λ t. moment_of (rejected.1 t) (rejected.2 t).facts))
      (λ (looked : MayAsk old was disk at count × LookFails patience disk old new why × (is ≡ look_ends was why)). Unasked why refl looked.0 looked.1 (sym (look_rooms was is why looked.2) ∙ looked.2))
      un

  pub unasked_rooms : is ≡ record was { facts = is.facts }
  unasked_rooms = ⊎_elim (λ rejected. subst (λ (l : Log). l ≡ record was { facts = l.facts }) (sym rejected.2) refl) (λ looked. look_rooms was is why looked.2) un

  pub unasked_unserved : (X : Type 0) → WasServed {X = X} (Err why) → ⊥
  unasked_unserved X served = ⊎_elim (λ rejected. rejected_unserved X old was disk at count why rejected.0 served) (λ looked. unserved X patience disk old new why looked.1 served) un
