-- A range of a disk that is read or written takes none of the answers of posts.
use Rattle.std.proofs.Common.{◌≡◌, ◌+◌, ◌-◌, ◌<◌, ◌≤◌, ◌∷◌, ◌++◌, [], ℕ, List, false, cond, count_by, Result, refl, sym, ap, subst, arith}
use Rattle.std.proofs.lemmas.Bool.{ne_eqb}
use Rattle.std.proofs.lemmas.List.Sums.{sum_by_push}
use Rattle.lvm_vol.specs.Facts.{Fact, Request, Begun, Taken, Cut}
use Rattle.lvm_vol.specs.Legal.{begins_in}
use Rattle.lvm_vol.specs.Log.{Log, takes_id}
use Rattle.lvm_vol.specs.Order.{Ordered}
use Rattle.lvm_history.proofs.LogLemmas.Staying.{answered_stays}
use Rattle.lvm_kept.specs.Moments.{Moment}
use Rattle.lvm_steps.specs.Requests.{at}
use Rattle.lvm_transfer.specs.declared.moves.Moved.{Moved}
use Rattle.lvm_transfer.specs.declared.moves.Moved.TheVariants as moved
use Rattle.lvm_raw.specs.OnePiece.{WritesPiece, ReadsPiece}
use Rattle.lvm_raw.specs.Requests.{write_ends, read_ends}
use Rattle.lvm_group_lines.specs.passed.Posts.{Asked, AreAnswered}
use Rattle.lvm_raw.specs.declared.fault.RawFault.{RawFault}
use Rattle.lvm_raw.specs.declared.fault.RawFault.TheVariants as fault
use Rattle.lvm_raw.specs.Looking.{look_ends}
use Rattle.lvm_raw.specs.Pieces.{PiecesGo, NoPiece, OnePiece, RangeGoes, WentThrough, WasBroken, WritesGo, ReadsGo}
use Rattle.lvm_raw.specs.Raw.{RawGives, Rejected, Unasked, Asked as WasAsked, log_with}
use Rattle.lvm_group_lines.specs.passed.Quiesce.{RangeOnceQuiet, RejectedAtOnce, KeptFrom, AskedAtRest, RangeStaysOut, WriteOnceQuiet, ReadOnceQuiet}
use Rattle.lvm_group_lines.proofs.FactsLemmas.{Bears, bears_cut}
use Rattle.lvm_group_lines.proofs.StateLemmas.{LeavesAnswers, answered_numbers}

module _ (run : ℕ) (range : Asked) where
  -- its answers aren't taken, and its requests have begun
  record IsEarlier (facts : List Fact) : Type 0 where
    answered : AreAnswered facts range
    began : (k : ℕ) → k < range.pieces → range.first + k ≤ count_by (begins_in run) facts

  -- an entry that takes none of them leaves it so
  one_more : (facts : List Fact) (f : Fact) → ((k : ℕ) → k < range.pieces → takes_id (range.first + k) f ≡ false) → IsEarlier facts → IsEarlier (facts ++ f ∷ [])
  one_more facts f none its = record {
    answered = λ k less. answered_stays facts f 1 (range.first + k) (its.answered k less) (none k less);
    began = λ k less. let e = its.began k less in let more = sum_by_push (λ (g : Fact). cond (begins_in run g) 1 0) facts f in omega (arith, e, more);
  }

  aside : (facts : List Fact) (f : Fact) → ((id : ℕ) → takes_id id f ≡ false) → IsEarlier facts → IsEarlier (facts ++ f ∷ [])
  aside facts f none = one_more facts f (λ k less. none (range.first + k))

  earlier_bears : Bears IsEarlier
  earlier_bears = record { removed = λ facts disk. aside facts _ (λ id. refl); cut = λ facts. aside facts Cut (λ id. refl) }

  module _ (facts : List Fact) (r : Request) (next : r.id ≡ count_by (begins_in run) facts + 1) (its : IsEarlier facts) where
    -- the next request isn't one of them
    another : (k : ℕ) → k < range.pieces → takes_id (range.first + k) (Taken r) ≡ false
    another k less = ne_eqb r.id (range.first + k) (λ same. let e = its.began k less in absurd (omega (arith, e, same, next)))

    begins : IsEarlier (facts ++ Begun r ∷ [])
    begins = aside facts (Begun r) (λ id. refl) its

    -- it lands, and is taken
    lands : (now : List Fact) (landing : Fact) → ((id : ℕ) → takes_id id landing ≡ false) → IsEarlier now → IsEarlier ((now ++ landing ∷ []) ++ Taken r ∷ [])
    lands now landing none here = one_more (now ++ landing ∷ []) (Taken r) another (aside now landing none here)

    writes : (how : Moved) → IsEarlier (write_ends (facts ++ Begun r ∷ []) r how)
    writes (moved.Done back) = lands (facts ++ Begun r ∷ []) _ (λ id. refl) begins
    writes (moved.Failed back) = lands (facts ++ Begun r ∷ []) _ (λ id. refl) begins
    writes (moved.Dark started) = lands ((facts ++ Begun r ∷ []) ++ Cut ∷ []) _ (λ id. refl) (aside (facts ++ Begun r ∷ []) Cut (λ id. refl) begins)
    writes moved.Stuck = begins

    reads : (how : Moved) → IsEarlier (read_ends (facts ++ Begun r ∷ []) r how)
    reads (moved.Done back) = lands (facts ++ Begun r ∷ []) _ (λ id. refl) begins
    reads (moved.Failed back) = lands (facts ++ Begun r ∷ []) _ (λ id. refl) begins
    reads (moved.Dark started) = lands ((facts ++ Begun r ∷ []) ++ Cut ∷ []) _ (λ id. refl) (aside (facts ++ Begun r ∷ []) Cut (λ id. refl) begins)
    reads moved.Stuck = begins

  -- ---- pieces

  abbrev KeepsEarlier : (ℕ → ℕ → ℕ → Moment → Moment → Moved → Type 0) → Type 0
  KeepsEarlier Piece = (from count patience : ℕ) (old new : Moment) (how : Moved) → Piece from count patience old new how → IsEarlier old.facts → IsEarlier new.facts

  module _ {X : Type 0} (Piece : ℕ → ℕ → ℕ → Moment → Moment → Moved → Type 0) (keeps : KeepsEarlier Piece) (more : ℕ → Moved → X → X) (start end : ℕ) (first : Moment) (none : X) where
    pieces_keep : (from : ℕ) (last : Moment) (x : X) → PiecesGo Piece more start end first none from last x → IsEarlier first.facts → IsEarlier last.facts
    pieces_keep from last x NoPiece its = its
    pieces_keep from last x (OnePiece before lt piece was) its = keeps _ _ _ _ _ _ piece (pieces_keep _ _ _ before its)

    range_keeps : (last : Moment) (given : X) → RangeGoes Piece more start end first none last given → IsEarlier first.facts → IsEarlier last.facts
    range_keeps last given (WentThrough all) its = pieces_keep end last given all its
    range_keeps last given (WasBroken before lt piece not is) its = keeps _ _ _ _ _ _ piece (pieces_keep _ _ _ before its)

  write_keeps : (disk word start : ℕ) → KeepsEarlier (λ from n. WritesPiece run disk (word + (from - start)) from n)
  write_keeps disk word start from count patience old new how piece its = subst IsEarlier (sym piece.facts) (writes old.facts _ refl its how)

  read_keeps : (disk : ℕ) → KeepsEarlier (λ from n. ReadsPiece run disk from n)
  read_keeps disk from count patience old new how piece its = subst IsEarlier (sym piece.facts) (reads old.facts _ refl its how)

  -- ---- a command on a range

  -- a cut may be entered
  looked : (log : Log) (old new : List Fact) (why : RawFault) → log_with log new ≡ look_ends (log_with log old) why → IsEarlier old → IsEarlier new
  looked log old new why is its = subst IsEarlier (sym (ap (λ (l : Log). l.facts) is)) (by why)
    where
      by : (why : RawFault) → IsEarlier (look_ends (log_with log old) why).facts
      by fault.Dark = bears_cut IsEarlier earlier_bears (log_with log old) its
      by _ = its

  module _ {X : Type 0} (Goes : Moment → Moment → Result X RawFault → Type 0) (goes : (old new : Moment) (given : Result X RawFault) → Goes old new given → IsEarlier old.facts → IsEarlier new.facts) where
    raw_keeps : (log : Log) (disk start count patience : ℕ) (old new : Moment) (given : Result X RawFault) → RawGives Goes log disk start count patience old new given → IsEarlier old.facts → IsEarlier new.facts
    raw_keeps log disk start count patience old new given (Rejected why says rejected same) its = subst (λ (m : Moment). IsEarlier m.facts) (sym same) its
    raw_keeps log disk start count patience old new given (Unasked why says may fails is) its = looked log old.facts new.facts why is its
    raw_keeps log disk start count patience old new given (WasAsked may mid none went) its = goes _ _ _ went its

  stayed : (patience : ℕ) (old new : Moment) (log : Log) (why : RawFault) → RangeStaysOut patience old.device new.device (log_with log old.facts) (log_with log new.facts) why → IsEarlier old.facts → IsEarlier new.facts
  stayed patience old new log fault.Dark out its = looked log old.facts new.facts fault.Dark out.1 its
  stayed patience old new log fault.Stuck out its = looked log old.facts new.facts fault.Stuck out.1 its
  stayed patience old new log _ out its = absurd out

module _ (log : Log) (disk start count : ℕ) where
  module _ {X : Type 0} (Goes : ℕ → Moment → Moment → Result X RawFault → Type 0)
      (goes : (range : Asked) (left : ℕ) (old new : Moment) (given : Result X RawFault) → Goes left old new given → IsEarlier log.run range old.facts → IsEarlier log.run range new.facts) where
    quiet_keeps : (range : Asked) (patience : ℕ) (old new : Moment) (given : Result X RawFault) → RangeOnceQuiet Goes log disk start count patience old new given → IsEarlier log.run range old.facts → IsEarlier log.run range new.facts
    quiet_keeps range patience old new given (RejectedAtOnce why says rejected same) its = subst (λ (m : Moment). IsEarlier log.run range m.facts) (sym same) its
    quiet_keeps range patience old new given (KeptFrom why says may out) its = stayed log.run range patience old new log why out its
    quiet_keeps range patience old new given (AskedAtRest may quiet) its = goes range quiet.left (at quiet.mid old.facts) new given quiet.goes its

    -- it takes none of the answers of posts
    leaves : (patience : ℕ) (old new : Moment) (given : Result X RawFault) → Ordered log.run [] old.facts → RangeOnceQuiet Goes log disk start count patience old new given → LeavesAnswers old.facts new.facts
    leaves patience old new given ordered quiet range answered =
        (quiet_keeps range patience old new given quiet (record { answered = answered; began = λ k less. answered_numbers log.run old.facts ordered (range.first + k) (answered k less) })).answered

  pub write_leaves : (word patience : ℕ) (old new : Moment) (given : Result (Unit {0}) RawFault) → Ordered log.run [] old.facts → WriteOnceQuiet log disk start count word patience old new given → LeavesAnswers old.facts new.facts
  write_leaves word = leaves _ (λ range left old new given went. raw_keeps log.run range (WritesGo log.run disk start count word) (λ a b g. range_keeps log.run range _ (write_keeps log.run range disk word start) _ start (start + count) a _ b g)
      log disk start count left old new given went.gives)

  pub read_leaves : (patience : ℕ) (old new : Moment) (given : Result (List _) RawFault) → Ordered log.run [] old.facts → ReadOnceQuiet log disk start count patience old new given → LeavesAnswers old.facts new.facts
  read_leaves = leaves _ (λ range left old new given went. raw_keeps log.run range (ReadsGo log.run disk start count) (λ a b g. range_keeps log.run range _ (read_keeps log.run range disk) _ start (start + count) a _ b g)
      log disk start count left old new given went.gives)
