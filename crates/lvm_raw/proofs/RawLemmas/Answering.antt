-- What is said of the answer to a command on a range of a disk.
use Rattle.std.proofs.Common.{◌≡◌, ℕ, Result, Ok, Err, refl, sym, ap, subst, ◌∙◌}
use Rattle.lvm_num.specs.Buffer.{Buffer}
use Rattle.lvm_disk.specs.Device.{Device, IsReady}
use Rattle.lvm_vol.specs.Log.{Log}
use Rattle.lvm_kept.specs.Moments.{Moment}
use Rattle.lvm_steps.specs.Requests.{IsInNoGroup, at as moment_of}
use Rattle.lvm_raw.specs.declared.fault.RawFault.{RawFault}
use Rattle.lvm_raw.specs.declared.fault.RawFault.TheVariants as fault
use Rattle.lvm_raw.specs.Asking.{MayAsk}
use Rattle.lvm_raw.specs.Ends.{RawEnds}
use Rattle.lvm_raw.specs.Keeping.{RangeKeeps}
use Rattle.lvm_raw.specs.Looking.{FindsNone}
use Rattle.lvm_raw.specs.Raw.{RawGives, Unasked, Asked, IsNotAsked, WasServed, without_facts}
use Rattle.lvm_raw.proofs.PiecesLemmas.{range_none, range_more, range_err}
use Rattle.lvm_raw.proofs.LookingLemmas.{none_before}
use Rattle.lvm_raw.proofs.RawLemmas.Refusing.{IsOfPieces, IsBefore, raw_ends, unasked_gives, unasked_rooms, unasked_unserved}

-- of pieces that go so and fail so, on a disk of this shelf
module _ {X : Type 0} (failed : RawFault) (Goes : ℕ → Moment → Moment → Result X RawFault → Type 0) (pieces : (run : ℕ) (m n : Moment) (a : Result X RawFault) → Goes run m n a → IsOfPieces failed a)
    (apart : (why : RawFault) → IsBefore why → IsOfPieces {X = X} failed (Err why) → ⊥) (h : Log) (disk at count before : ℕ) (old : Device) where
  pub record IsAnswered (after : ℕ) (is : Log) (new : Device) (given : Result X RawFault) : Type 0 where
    pub does : RawGives (Goes h.run) (without_facts h) disk at count before (moment_of old h.facts) (moment_of new is.facts) given
    pub ends : RawEnds failed h disk at count before old new given
    pub keeps : RangeKeeps h.run disk before after (moment_of old h.facts) (moment_of new is.facts) given
    pub rooms : is ≡ record h { facts = is.facts }

  answered : (after : ℕ) (is : Log) (new : Device) (given : Result X RawFault) → RawGives (Goes h.run) (without_facts h) disk at count before (moment_of old h.facts) (moment_of new is.facts) given → (WasServed given → IsInNoGroup old disk)
      → RangeKeeps h.run disk before after (moment_of old h.facts) (moment_of new is.facts) given → is ≡ record h { facts = is.facts } → IsAnswered after is new given
  answered after is new given does served keeps rooms = record {
    does = does;
    ends = raw_ends {X = X} failed (Goes h.run) (without_facts h) disk at count before (moment_of old h.facts) (moment_of new is.facts) (pieces h.run) apart given does served keeps.cause;
    keeps = keeps;
    rooms = rooms;
  }

  -- nothing was asked
  pub unasked : (after : ℕ) (is : Log) (new : Device) (why : RawFault) → IsNotAsked disk at count before h old is new why
      → RangeKeeps {X = Buffer} h.run disk before after (moment_of old h.facts) (moment_of new is.facts) (Err why) → IsAnswered after is new (Err why)
  unasked after is new why un keeps =
      answered after is new (Err why) (unasked_gives disk at count before h old is new why un (Goes h.run)) (λ served. absurd (unasked_unserved disk at count before h old is new why un X served))
      (range_err h.run disk before after (moment_of old h.facts) (moment_of new is.facts) why keeps) (unasked_rooms disk at count before h old is new why un)

  -- the disk was found to be in no group
  module _ (left : ℕ) (is : Log) (mid : Device) (buf : Buffer) (may : MayAsk old h disk at count) (finds : FindsNone before disk old mid) (same : is ≡ h)
      (kept : RangeKeeps {X = Buffer} h.run disk before left (moment_of old h.facts) (moment_of mid is.facts) (Ok buf)) where
    -- and memory was wanting
    pub lacking : IsAnswered left is mid (Err fault.Memory)
    lacking =
        answered left is mid (Err fault.Memory) (Unasked fault.Memory refl may (finds.reads, finds.all) (ap (λ (l : Log). record h { facts = l.facts }) same)) (λ served. absurd served)
        (range_more h.run disk before left left (moment_of old h.facts) (moment_of mid is.facts) (moment_of mid is.facts) buf (Err fault.Memory) kept
        (range_none {X = X} h.run disk left (moment_of mid is.facts) (Err fault.Memory) finds.all.rested.ready tt))
        (subst (λ (l : Log). l ≡ record h { facts = l.facts }) (sym same) refl)

    -- or the pieces went so
    pub went : IsReady old → (after : ℕ) (end : Log) (new : Device) (given : Result X RawFault) → Goes is.run (moment_of mid is.facts) (moment_of new end.facts) given
        → RangeKeeps is.run disk left after (moment_of mid is.facts) (moment_of new end.facts) given → end ≡ record is { facts = end.facts } → IsAnswered after end new given
    went ready after end new given goes keeps rooms =
        answered after end new given (Asked may mid finds (subst (λ (l : Log). Goes l.run (moment_of mid l.facts) (moment_of new end.facts) given) same goes)) (λ served. none_before before disk old mid ready finds)
        (range_more h.run disk before left after (moment_of old h.facts) (moment_of mid is.facts) (moment_of new end.facts) buf given kept
        (subst (λ (l : Log). RangeKeeps l.run disk left after (moment_of mid is.facts) (moment_of new end.facts) given) same keeps))
        (rooms ∙ ap (λ (l : Log). record l { facts = end.facts }) same)
