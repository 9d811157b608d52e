-- The pieces of a range, one after the other.
use Rattle.std.proofs.Common.{◌≡◌, ◌≤◌, ◌<◌, ◌-◌, ◌+◌, ℕ, Option, Some, None, Result, Ok, Err, IfOk, List, length, length-append, length-take, take, refl, sym, ◌∙◌, ap, subst, arith}
use Rattle.lvm_num.specs.Buffer.{Buffer, Sector}
use Rattle.lvm_disk.specs.Counts.{Rose, RoseBy, Counts, NoneFalls}
use Rattle.lvm_disk.specs.Device.{Device, IsReady}
use Rattle.lvm_kept.specs.Moments.{Moment, StaysCalm}
use Rattle.lvm_kept.proofs.MomentsLemmas.Chaining.{span_counts}
use Rattle.lvm_steps.specs.Moments.{Keeps}
use Rattle.lvm_steps.specs.Requests.{IsInNoGroup}
use Rattle.lvm_steps.proofs.MomentsLemmas.Spans.{keeps_still, spans_join}
use Rattle.lvm_transfer.specs.declared.moves.Moved.{Moved}
use Rattle.lvm_transfer.specs.declared.moves.Moved.TheVariants as moved
use Rattle.lvm_raw.specs.declared.fault.RawFault.{RawFault}
use Rattle.lvm_raw.specs.declared.fault.RawFault.TheVariants as fault
use Rattle.lvm_raw.specs.Requests.{WasAnswered, HasFront, IsHeard}
use Rattle.lvm_raw.specs.OnePieceKeeping.{KeepsArrangements, KeepsOlder, HaveAllLanded, NoneComesOn, MoveRose, PieceKeeps}
use Rattle.lvm_raw.specs.Keeping.{AnswerHasCause, IsUnstuck, RangeKeeps}
use Rattle.lvm_raw.specs.Pieces.{piece_end, answer_after, answer_of, grown, with_front, SettlesPiece, PiecesGo, NoPiece, OnePiece, RangeGoes, WentThrough, WasBroken}

-- ---- counts

pub rose_later : (a b c : ℕ) → Rose a b → b ≤ c → Rose a c
rose_later a b c rose later = record { later = omega (arith, rose.later, later); risen = omega (arith, rose.risen, later) }

pub rose_since : (a b c : ℕ) → a ≤ b → Rose b c → Rose a c
rose_since a b c earlier rose = record { later = omega (arith, earlier, rose.later); risen = omega (arith, earlier, rose.risen) }

-- the rest of the patience was lost too
pub rose_whole : (whole left a b c : ℕ) → left ≤ whole → RoseBy (whole - left) a b → RoseBy left b c → RoseBy whole a c
rose_whole whole left a b c falls one two = record { later = omega (arith, one.later, two.later); risen = omega (arith, falls, one.later, one.risen, two.later, two.risen) }

pub shelf_more : (a b c : ℕ) (old mid new : Device) → KeepsArrangements a b old mid → KeepsArrangements b c mid new → KeepsArrangements a c old new
shelf_more a b c old mid new one two = record {
  sizes = two.sizes ∙ one.sizes;
  arranges = two.arranges ∙ one.arranges;
  orders = two.orders ∙ one.orders;
  falls = omega (arith, one.falls, two.falls);
  waited = (let p = one.waited in let q = two.waited in let l = one.falls in let k = two.falls in record { later = omega (arith, p.later, q.later); risen = omega (arith, l, k, p.later, p.risen, q.later, q.risen) });
}

pub shelf_none : (a : ℕ) (old : Device) → KeepsArrangements a a old old
shelf_none a old = record { sizes = refl; arranges = refl; orders = refl; falls = omega arith; waited = record { later = omega arith; risen = omega arith } }

-- what rose since has risen from before
pub cause_since : {X : Type 0} (disk whole left : ℕ) (old mid new : Counts) (given : Result X RawFault) → NoneFalls old mid → left ≤ whole → RoseBy (whole - left) old.waits mid.waits → AnswerHasCause disk left mid new given → AnswerHasCause disk whole old new given
cause_since disk whole left old mid new (Ok x) up low waits cause = tt
cause_since disk whole left old mid new (Err fault.Lost) up low waits cause = rose_since (old.faults disk) (mid.faults disk) (new.faults disk) (up.faults disk) cause
cause_since disk whole left old mid new (Err fault.ReadFailed) up low waits cause = rose_since (old.faults disk) (mid.faults disk) (new.faults disk) (up.faults disk) cause
cause_since disk whole left old mid new (Err fault.Dark) up low waits cause = rose_since old.cuts mid.cuts new.cuts up.cuts cause
cause_since disk whole left old mid new (Err fault.Stuck) up low waits cause = rose_whole whole left old.waits mid.waits new.waits low waits cause
cause_since disk whole left old mid new (Err (fault.DiskFailed d)) up low waits cause = rose_since (old.misses disk) (mid.misses disk) (new.misses disk) (up.misses disk) cause
cause_since disk whole left old mid new (Err (fault.NoDisk d)) up low waits cause = tt
cause_since disk whole left old mid new (Err (fault.OutOfRange size)) up low waits cause = tt
cause_since disk whole left old mid new (Err fault.HistoryFull) up low waits cause = tt
cause_since disk whole left old mid new (Err (fault.InGroup d)) up low waits cause = tt
cause_since disk whole left old mid new (Err fault.Memory) up low waits cause = tt

-- one part of a command after another
pub range_more : {X Y : Type 0} (run disk a b c : ℕ) (old mid new : Moment) (x : Y) (given : Result X RawFault) → RangeKeeps {X = Y} run disk a b old mid (Ok x) → RangeKeeps run disk b c mid new given → RangeKeeps run disk a c old new given
range_more {X} {Y} run disk a b c old mid new x given one two =
    let unstuck : IsUnstuck {X = Y} (Ok x) = (λ is. cc (is)) in
    record {
      keeps = spans_join run old mid new one.keeps (one.calm unstuck) two.keeps;
      calm = λ free past calm. two.calm free past (one.calm unstuck past calm);
      behind = λ m behind. two.behind m (one.behind m behind);
      shelf = shelf_more a b c old.device mid.device new.device one.shelf two.shelf;
      power = two.power;
      ready = two.ready;
      landed = λ free closed. two.landed free (one.landed unstuck closed);
      later = λ m later. two.later m (one.later m later);
      cause = cause_since disk a b old.device.counts mid.device.counts new.device.counts given (span_counts one.keeps) one.shelf.falls one.shelf.waited two.cause;
    }

-- nothing was done
pub range_none : {X : Type 0} (run disk a : ℕ) (old : Moment) (given : Result X RawFault) → IsReady old.device → AnswerHasCause disk a old.device.counts old.device.counts given → RangeKeeps run disk a a old old given
range_none run disk a old given ready cause = record { keeps = keeps_still run old; calm = λ free past calm. calm; behind = λ m behind. behind; shelf = shelf_none a old.device; power = ready.power; ready = λ free. ready; landed = λ free closed. closed; later = λ m later. later; cause = cause }

still_unstuck : {X Y : Type 0} (why : RawFault) → IsUnstuck {X = Y} (Err why) → IsUnstuck {X = X} (Err why)
still_unstuck why unstuck is = let e : why ≡ fault.Stuck = cc (is) in unstuck (ap Err e)

-- a part of a command that breaks off, as of the whole
pub range_err : {X Y : Type 0} (run disk a b : ℕ) (old new : Moment) (why : RawFault) → RangeKeeps {X = X} run disk a b old new (Err why) → RangeKeeps {X = Y} run disk a b old new (Err why)
range_err {X} {Y} run disk a b old new why keeps = record {
  keeps = keeps.keeps;
  calm = λ unstuck. keeps.calm (still_unstuck why unstuck);
  behind = keeps.behind;
  shelf = keeps.shelf;
  power = keeps.power;
  ready = λ unstuck. keeps.ready (still_unstuck why unstuck);
  landed = λ unstuck. keeps.landed (still_unstuck why unstuck);
  later = keeps.later;
  cause = keeps.cause;
}

pub ok_both : {X : Type 0} (given : Result X RawFault) (P : X → Type 0) {Q : Type 0} → Q → IfOk given P → IfOk given (λ x. P x × Q)
ok_both (Ok x) P q is = (is, q)
ok_both (Err why) P q is = tt

-- ---- how a piece is settled

heard_of : (how : Moved) → WasAnswered how → IsHeard how
heard_of (moved.Done back) ended = tt
heard_of (moved.Failed back) ended = tt
heard_of (moved.Dark started) ended = absurd ended
heard_of moved.Stuck ended = absurd ended

answer_some : {X : Type 0} (failed why : RawFault) (more : Buffer → X → X) (how : Moved) → WasAnswered how → answer_after failed more how (Err why) ≡ Err why
answer_some failed why more (moved.Done back) ended = refl
answer_some failed why more (moved.Failed back) ended = refl
answer_some failed why more (moved.Dark started) ended = absurd ended
answer_some failed why more moved.Stuck ended = absurd ended

-- a piece that the disk answered, with its buffer back
pub settled_ended : (failed : RawFault) (how : Moved) (old new : Option RawFault) (back : Buffer) → SettlesPiece failed how old new (Ok back) → WasAnswered how
settled_ended failed (moved.Done b) old new back is = tt
settled_ended failed (moved.Failed b) old new back is = tt
settled_ended failed (moved.Dark started) old new back is = absurd (let e = is.0 in cc (e))
settled_ended failed moved.Stuck old new back is = absurd (let e = is.0 in cc (e))

pub settled_answer : {X : Type 0} (failed : RawFault) (more : Buffer → X → X) (how : Moved) (old new : Option RawFault) (given : Result Buffer RawFault) (x : X) → WasAnswered how → SettlesPiece failed how old new given
    → answer_after failed more how (answer_of x old) ≡ answer_of (grown more how x) new
settled_answer failed more (moved.Done b) None new given x ended is = ap (answer_of (more b x)) (sym is.1)
settled_answer failed more (moved.Done b) (Some why) new given x ended is = ap (answer_of (more b x)) (sym is.1)
settled_answer failed more (moved.Failed b) None new given x ended is = ap (answer_of x) (sym is.1)
settled_answer failed more (moved.Failed b) (Some why) new given x ended is = ap (answer_of x) (sym is.1)
settled_answer failed more (moved.Dark started) old new given x ended is = absurd ended
settled_answer failed more moved.Stuck old new given x ended is = absurd ended

-- and one that it didn't answer
pub unsettled : {X : Type 0} (failed : RawFault) (more : Buffer → X → X) (how : Moved) (old new : Option RawFault) (why : RawFault) (x : X) → SettlesPiece failed how old new (Err why)
    → (WasAnswered how → ⊥) × (answer_after failed more how (answer_of x old) ≡ Err why)
unsettled failed more (moved.Done b) old new why x is = absurd (let e = is.0 in cc (e))
unsettled failed more (moved.Failed b) old new why x is = absurd (let e = is.0 in cc (e))
unsettled failed more (moved.Dark started) None new why x is = (λ ended. ended, (let e = is.0 in cc (e)))
unsettled failed more (moved.Dark started) (Some f) new why x is = (λ ended. ended, (let e = is.0 in cc (e)))
unsettled failed more moved.Stuck None new why x is = (λ ended. ended, (let e = is.0 in cc (e)))
unsettled failed more moved.Stuck (Some f) new why x is = (λ ended. ended, (let e = is.0 in cc (e)))

-- ---- the noted failure

-- the failure that is noted has its cause
abbrev pub Noted : RawFault → ℕ → Counts → Counts → Option RawFault → Type 0
Noted failed disk old new None = Unit {0}
Noted failed disk old new (Some why) = (why ≡ failed) × Rose (old.faults disk) (new.faults disk)

noted_later : (failed : RawFault) (disk : ℕ) (old mid new : Counts) (noted : Option RawFault) → NoneFalls mid new → Noted failed disk old mid noted → Noted failed disk old new noted
noted_later failed disk old mid new None falls is = tt
noted_later failed disk old mid new (Some why) falls is = (is.0, rose_later (old.faults disk) (mid.faults disk) (new.faults disk) is.1 (falls.faults disk))

noted_more : (failed : RawFault) (disk patience : ℕ) (old mid new : Counts) (how : Moved) (was is : Option RawFault) (given : Result Buffer RawFault) → NoneFalls old mid → NoneFalls mid new → WasAnswered how
    → MoveRose disk patience mid new how → SettlesPiece failed how was is given → Noted failed disk old mid was → Noted failed disk old new is
noted_more failed disk patience old mid new (moved.Done b) was is given up falls ended cause settles noted = subst (Noted failed disk old new) (sym settles.1) (noted_later failed disk old mid new was falls noted)
noted_more failed disk patience old mid new (moved.Failed b) None is given up falls ended cause settles noted =
    subst (Noted failed disk old new) (sym settles.1) (refl, rose_since (old.faults disk) (mid.faults disk) (new.faults disk) (up.faults disk) cause.here)
noted_more failed disk patience old mid new (moved.Failed b) (Some why) is given up falls ended cause settles noted = subst (Noted failed disk old new) (sym settles.1) (noted_later failed disk old mid new (Some why) falls noted)
noted_more failed disk patience old mid new (moved.Dark started) was is given up falls ended cause settles noted = absurd ended
noted_more failed disk patience old mid new moved.Stuck was is given up falls ended cause settles noted = absurd ended

-- ---- what was read

-- a piece more was got, where no failure is noted
pub got_more : (failed : RawFault) (n k : ℕ) (how : Moved) (was is : Option RawFault) (given : Result Buffer RawFault) (blocks : List Sector) → WasAnswered how → HasFront n how → SettlesPiece failed how was is given → (was ≡ None → length blocks ≡ k)
    → is ≡ None → length (grown (with_front n) how blocks) ≡ k + n
got_more failed n k (moved.Done b) was is given blocks ended front settles so_far none =
    let before : length blocks ≡ k = so_far (sym settles.1 ∙ none) in
    omega (arith, length-append blocks (take n b.sectors), length-take n b.sectors, before, front)
got_more failed n k (moved.Failed b) was is given blocks ended front settles so_far none = absurd (let e = settles.1 in cc (e, none))
got_more failed n k (moved.Dark started) was is given blocks ended front settles so_far none = absurd ended
got_more failed n k moved.Stuck was is given blocks ended front settles so_far none = absurd ended

pub got_whole : (blocks : List Sector) (noted : Option RawFault) (k : ℕ) → (noted ≡ None → length blocks ≡ k) → IfOk (answer_of blocks noted) (λ got. length got ≡ k)
got_whole blocks None k so_far = so_far refl
got_whole blocks (Some why) k so_far = tt

-- ---- so far
module _ {X : Type 0} (Piece : ℕ → ℕ → ℕ → Moment → Moment → Moved → Type 0) (failed : RawFault) (more : ℕ → Buffer → X → X) (run disk at end whole : ℕ) (first : Moment) (nothing : X) where
  abbrev pub answer : ℕ → Moved → Result X RawFault → Result X RawFault
  answer count how given = answer_after failed (more count) how given

  pub record SoFar (from left : ℕ) (now : Moment) (x : X) (noted : Option RawFault) : Type 0 where
    pub low : at ≤ from
    pub high : from ≤ end
    pub went : PiecesGo Piece answer at end first (Ok nothing) from now (answer_of x noted)
    pub keeps : Keeps run first now
    pub calm : StaysCalm first now
    pub none : IsInNoGroup now.device disk
    pub behind : KeepsOlder first.device now.device
    pub shelf : KeepsArrangements whole left first.device now.device
    pub ready : IsReady now.device
    pub landed : HaveAllLanded first.facts → HaveAllLanded now.facts
    pub later : NoneComesOn first.facts now.facts
    pub cause : Noted failed disk first.device.counts now.device.counts noted

  pub at_first : at ≤ end → IsInNoGroup first.device disk → IsReady first.device → SoFar at whole first nothing None
  at_first within none ready = record {
    low = omega arith;
    high = within;
    went = NoPiece;
    keeps = keeps_still run first;
    calm = λ past calm. calm;
    none = none;
    behind = λ m behind. behind;
    shelf = shelf_none whole first.device;
    ready = ready;
    landed = λ closed. closed;
    later = λ m later. later;
    cause = tt;
  }

  module _ (from left : ℕ) (now : Moment) (x : X) (noted : Option RawFault) (so_far : SoFar from left now x noted) where
    -- one piece more
    pub one_more :
        (patience after : ℕ) (new : Moment) (how : Moved) (is : Option RawFault) (given : Result Buffer RawFault) → from < end → Piece from (piece_end from end - from) patience now new how
        → PieceKeeps run disk left after now new how → WasAnswered how → SettlesPiece failed how noted is given → SoFar (piece_end from end) after new (grown (more (piece_end from end - from)) how x) is
    one_more patience after new how is given within piece keeps ended settles = record {
      low = omega (arith, so_far.low, past_from);
      high = omega arith;
      went = subst (PiecesGo Piece answer at end first (Ok nothing) (piece_end from end) new) (settled_answer failed (more (piece_end from end - from)) how noted is given x ended settles) (OnePiece so_far.went within piece ended);
      keeps = spans_join run first now new so_far.keeps so_far.calm keeps.keeps;
      calm = λ past calm. keeps.calm (heard_of how ended) past (so_far.calm past calm);
      none = keeps.none;
      behind = λ m behind. keeps.behind m (so_far.behind m behind);
      shelf = shelf_more whole left after first.device now.device new.device so_far.shelf keeps.shelf;
      ready = keeps.ready (heard_of how ended);
      landed = λ closed. keeps.landed (heard_of how ended) (so_far.landed closed);
      later = λ m later. keeps.later m (so_far.later m later);
      cause = noted_more failed disk left first.device.counts now.device.counts new.device.counts how noted is given (span_counts so_far.keeps) (span_counts keeps.keeps) ended keeps.cause settles so_far.cause;
    }
      where
        past_from : from < piece_end from end
        past_from = omega (arith, within)

    -- the same, up to a block that is the piece's end
    pub one_more_to :
        (to : ℕ) (patience after : ℕ) (new : Moment) (how : Moved) (is : Option RawFault) (given : Result Buffer RawFault) → to ≡ piece_end from end → from < end → Piece from (to - from) patience now new how
        → PieceKeeps run disk left after now new how → WasAnswered how → SettlesPiece failed how noted is given → SoFar to after new (grown (more (to - from)) how x) is
    one_more_to to patience after new how is given to_is within piece keeps ended settles =
        let P = λ (t : ℕ). (Piece from (t - from) patience now new how → SoFar t after new (grown (more (t - from)) how x) is) in
        subst P (sym to_is) (λ piece. one_more patience after new how is given within piece keeps ended settles) piece

    module _ (causes : (old new : Counts) → Rose (old.faults disk) (new.faults disk) → AnswerHasCause {X = X} disk whole old new (Err failed)) where
      cause_noted : (old new : Counts) (noted : Option RawFault) → Noted failed disk old new noted → AnswerHasCause {X = X} disk whole old new (answer_of x noted)
      cause_noted old new None is = tt
      cause_noted old new (Some why) is = subst (λ (f : RawFault). AnswerHasCause {X = X} disk whole old new (Err f)) (sym is.0) (causes old new is.1)

      -- the whole range
      pub all_went : end ≤ from → RangeGoes Piece answer at end first (Ok nothing) now (answer_of x noted) × RangeKeeps run disk whole left first now (answer_of x noted)
      all_went past = (
        WentThrough (subst (λ (k : ℕ). PiecesGo Piece answer at end first (Ok nothing) k now (answer_of x noted)) (omega (arith, past, so_far.high)) so_far.went),
        record { keeps = so_far.keeps; calm = λ unstuck. so_far.calm; behind = so_far.behind; shelf = so_far.shelf; power = so_far.ready.power; ready = λ unstuck. so_far.ready; landed = λ unstuck. so_far.landed; later = so_far.later; cause = cause_noted first.device.counts now.device.counts noted so_far.cause },
      )

      -- a piece that the disk didn't answer
      broken_cause : (how : Moved) (old mid new : Counts) (noted is : Option RawFault) (why : RawFault) → NoneFalls old mid → NoneFalls mid new → left ≤ whole → RoseBy (whole - left) old.waits mid.waits → MoveRose disk left mid new how → SettlesPiece failed how noted is (Err why) → Noted failed disk old mid noted
          → AnswerHasCause {X = X} disk whole old new (Err why)
      broken_cause (moved.Done b) old mid new noted is why up falls low waits cause settles was = absurd (let e = settles.0 in cc (e))
      broken_cause (moved.Failed b) old mid new noted is why up falls low waits cause settles was = absurd (let e = settles.0 in cc (e))
      broken_cause (moved.Dark started) old mid new None is why up falls low waits cause settles was =
          subst (AnswerHasCause {X = Buffer} disk whole old new) (sym settles.0) (rose_since old.cuts mid.cuts new.cuts up.cuts cause)
      broken_cause (moved.Dark started) old mid new (Some f) is why up falls low waits cause settles was =
          subst (λ (r : Result Buffer RawFault). AnswerHasCause disk whole old new r) (sym settles.0) (subst (λ (f : RawFault). AnswerHasCause {X = X} disk whole old new (Err f)) (sym was.0) (causes old new (rose_later (old.faults disk) (mid.faults disk) (new.faults disk) was.1 (falls.faults disk))))
      broken_cause moved.Stuck old mid new noted is why up falls low waits cause settles was =
          subst (AnswerHasCause {X = Buffer} disk whole old new) (sym settles.0) (rose_whole whole left old.waits mid.waits new.waits low waits cause)

      heard_unless : (how : Moved) (noted is : Option RawFault) (why : RawFault) → SettlesPiece failed how noted is (Err why) → IsUnstuck {X = X} (Err why) → IsHeard how
      heard_unless (moved.Done b) noted is why settles unstuck = tt
      heard_unless (moved.Failed b) noted is why settles unstuck = tt
      heard_unless (moved.Dark started) noted is why settles unstuck = tt
      heard_unless moved.Stuck noted is why settles unstuck = unstuck (let e = settles.0 in cc (e))

      pub was_broken :
          (patience after : ℕ) (new : Moment) (how : Moved) (is : Option RawFault) (why : RawFault) → from < end → Piece from (piece_end from end - from) patience now new how → PieceKeeps run disk left after now new how
          → SettlesPiece failed how noted is (Err why) → RangeGoes Piece answer at end first (Ok nothing) new (Err why) × RangeKeeps {X = X} run disk whole after first new (Err why)
      was_broken patience after new how is why within piece keeps settles =
          let open_end = unsettled failed (more (piece_end from end - from)) how noted is why x settles in (
            WasBroken so_far.went within piece open_end.0 (sym open_end.1),
            record {
              keeps = spans_join run first now new so_far.keeps so_far.calm keeps.keeps;
              calm = λ unstuck past calm. keeps.calm (heard_unless how noted is why settles unstuck) past (so_far.calm past calm);
              behind = λ m behind. keeps.behind m (so_far.behind m behind);
              shelf = shelf_more whole left after first.device now.device new.device so_far.shelf keeps.shelf;
              power = keeps.power;
              ready = λ unstuck. keeps.ready (heard_unless how noted is why settles unstuck);
              landed = λ unstuck closed. keeps.landed (heard_unless how noted is why settles unstuck) (so_far.landed closed);
              later = λ m later. keeps.later m (so_far.later m later);
              cause = broken_cause how first.device.counts now.device.counts new.device.counts noted is why (span_counts so_far.keeps) (span_counts keeps.keeps) so_far.shelf.falls so_far.shelf.waited keeps.cause settles so_far.cause;
            },
          )

      pub was_broken_at :
          (to : ℕ) (patience after : ℕ) (new : Moment) (how : Moved) (is : Option RawFault) (why : RawFault) → to ≡ piece_end from end → from < end → Piece from (to - from) patience now new how → PieceKeeps run disk left after now new how
          → SettlesPiece failed how noted is (Err why) → RangeGoes Piece answer at end first (Ok nothing) new (Err why) × RangeKeeps {X = X} run disk whole after first new (Err why)
      was_broken_at to patience after new how is why to_is within piece keeps settles =
          was_broken patience after new how is why within (subst (λ (t : ℕ). Piece from (t - from) patience now new how) to_is piece) keeps settles
