-- How the copying of a varyon ended, as it speaks of it.
use Rattle.std.proofs.Common.{◌≡◌, inl, inr, ℕ, List, Option, Some, None, refl, sym, ap, ◌∙◌, subst}
use Rattle.lvm_num.specs.Buffer.{Buffer}
use Rattle.lvm_num.specs.Disks.{Disks}
use Rattle.lvm_disk.specs.Counts.{Rose}
use Rattle.lvm_disk.specs.Device.{Device}
use Rattle.lvm_transfer.specs.Reading.{IsCutOff}
use Rattle.lvm_write.specs.Parts.{Spends}
use Rattle.lvm_kept.specs.Torn.{RecordWrite}
use Rattle.lvm_rec.specs.declared.homes.Homes.{Homes}
use Rattle.lvm_write.specs.Written.{KeepsShelf}
use Rattle.lvm_write.proofs.PartsLemmas.Transfers.{spends_none, spends_then, spent_then}
use Rattle.lvm_write.specs.declared.begin.Begun.{Begun}
use Rattle.lvm_write.specs.declared.begin.Begun.TheVariants as begun
use Rattle.lvm_varyon.specs.passed.Recovery.{Recopy, AllGive, IsOfCopies, StopsAtOne, EqualiseGives, SecondGives, StatesSecond, StoppedStating, WentOn, second_write, sources_and_targets}
use Rattle.lvm_varyon.specs.Equal.{AnyStop, CopyFailed, ForgettingFailed, HaveBeenCopied, IsStated, MakesEqual, PutFailed, StopsAtDisk, StopsEqualling}
use Rattle.lvm_varyon.specs.Writing.{IsStillOut}

module _ (copies : List Recopy) (second : Option (List ℕ)) (epoch : ℕ) (targets : Disks) (first homes : Homes) (number before after : ℕ) (old new : Device) where
  all_copied : (between : ℕ) (mid : Device) (buf : Buffer) → AllGive copies number before between old mid (begun.Ended buf) → HaveBeenCopied copies old mid
  all_copied between mid buf gives = record { copied = gives.how.copied; keeps = gives.does.keeps; writes = gives.writes; ranges = gives.ranges; well = gives.how.well }

  -- the second status
  module _ (n p q : ℕ) (a b : Device) where
    is_stated : (s : Option (List ℕ)) (buf : Buffer) → StatesSecond s epoch targets first homes n p q a b (begun.Ended buf) → IsStated s epoch targets first homes a b
    is_stated None buf states = (states.same, states.same_homes)
    is_stated (Some bytes) buf states = record {
      stands = states.gives.how.stands;
      keeps = states.gives.does.keeps;
      flips = states.flips;
      well = states.gives.how.well;
      rested = record { ready = states.gives.how.back.ready; cuts = states.gives.how.back.cuts };
    }

    same_cuts : (s : Option (List ℕ)) (buf : Buffer) → StatesSecond s epoch targets first homes n p q a b (begun.Ended buf) → b.counts.cuts ≡ a.counts.cuts
    same_cuts None buf states = ap (λ (d : Device). d.counts.cuts) states.same
    same_cuts (Some bytes) buf states = states.gives.how.back.cuts

    it_spends : (s : Option (List ℕ)) (result : Begun) → StatesSecond s epoch targets first homes n p q a b result → Spends p q a b
    it_spends None result states = subst (λ (d : Device). Spends p q a d) (sym states.same) (subst (λ (m : ℕ). Spends p m a a) (sym states.spends) (spends_none p a))
    it_spends (Some bytes) result states = states.gives.does.spends

  pub made_equal : (buf : Buffer) → EqualiseGives copies second epoch targets first homes number before after old new (begun.Ended buf) → MakesEqual copies second epoch targets first homes old new
  made_equal buf (inl on) = record {
    copied = on.mid;
    made = all_copied on.between on.mid on.buf on.copied;
    whole = on.whole;
    stated = on.stated;
    states = is_stated on.buf.number on.between on.then_left on.mid on.stated second on.back on.states;
    only = on.emptied.does.keeps;
    forgotten = on.emptied.how.stands;
    well = on.emptied.how.well;
    rested = record { ready = on.emptied.how.back.ready; cuts = on.emptied.how.back.cuts ∙ same_cuts on.buf.number on.between on.then_left on.mid on.stated second on.back on.states ∙ on.copied.how.back.cuts };
  }
  made_equal buf (inr (inl stopped)) = absurd (stopped.stopped buf refl)
  made_equal buf (inr (inr stopped)) = absurd (stopped.stopped buf refl)

  -- where it stopped
  in_copying : (AtCopy : Type 0) (AtStatus : RecordWrite → Device → Type 0) (AtNotes : Device → Type 0) → KeepsShelf (sources_and_targets copies) (IsOfCopies old copies) old new → AtCopy
      → StopsEqualling copies second epoch targets first old new AtCopy AtStatus AtNotes
  in_copying AtCopy AtStatus AtNotes keeps at = record { when = inl (keeps, at) }

  in_forgetting : (result : Begun) (AtCopy : Type 0) (AtStatus : RecordWrite → Device → Type 0) (AtNotes : Device → Type 0) (on : WentOn copies second epoch targets first homes number before after old new result) → AtNotes on.stated
      → StopsEqualling copies second epoch targets first old new AtCopy AtStatus AtNotes
  in_forgetting result AtCopy AtStatus AtNotes on at = record {
    when = inr (inr (record {
      copied = on.mid;
      made = all_copied on.between on.mid on.buf on.copied;
      homes = homes;
      stated = on.stated;
      states = is_stated on.buf.number on.between on.then_left on.mid on.stated second on.back on.states;
      only = on.emptied.does.keeps;
      how = at;
    }));
  }

  in_stating : (result : Begun) (s : Option (List ℕ)) → second ≡ s → (AtCopy : Type 0) (AtStatus : RecordWrite → Device → Type 0) (AtNotes : Device → Type 0) (on : StoppedStating copies second epoch targets first homes number before after old new result)
      → StatesSecond s epoch targets first homes on.buf.number on.between after on.mid new result
      → ((bytes : List ℕ) → SecondGives (second_write epoch bytes targets first) first homes on.buf.number on.between after on.mid new result → AtStatus (second_write epoch bytes targets first) on.mid)
      → StopsEqualling copies second epoch targets first old new AtCopy AtStatus AtNotes
  in_stating result None is AtCopy AtStatus AtNotes on states at = absurd (on.stopped states.buf states.ended)
  in_stating result (Some bytes) is AtCopy AtStatus AtNotes on states at = record {
    when = inr (inl (record {
      bytes = bytes;
      is = is;
      copied = on.mid;
      made = all_copied on.between on.mid on.buf on.copied;
      only = states.gives.does.keeps;
      how = at bytes states;
    }));
  }

  pub one_failed : (disk : ℕ) (buf : Buffer) → EqualiseGives copies second epoch targets first homes number before after old new (begun.DiskFailed disk buf) → StopsAtDisk disk copies second epoch targets first old new
  one_failed disk buf (inl on) = in_forgetting (begun.DiskFailed disk buf) (CopyFailed copies disk old new) (λ w copied. PutFailed w disk copied new) (λ stated. ForgettingFailed epoch targets disk stated new) on
      (record { first = on.emptied.how.first; tried = on.emptied.how.tried; rested = record { ready = on.emptied.how.back.ready; cuts = on.emptied.how.back.cuts } })
  one_failed disk buf (inr (inl on)) = in_stating (begun.DiskFailed disk buf) second refl (CopyFailed copies disk old new) (λ w copied. PutFailed w disk copied new) (λ stated. ForgettingFailed epoch targets disk stated new) on on.states
      (λ bytes states. record { first = states.gives.how.first; tried = states.gives.how.tried; rested = record { ready = states.gives.how.back.ready; cuts = states.gives.how.back.cuts } })
  one_failed disk buf (inr (inr stopped)) =
      let how = stopped.copied.how in
      in_copying (CopyFailed copies disk old new) (λ w copied. PutFailed w disk copied new) (λ stated. ForgettingFailed epoch targets disk stated new) stopped.copied.does.keeps
      (record { its = how.0; order = stopped.copied.writes; rose = how.1.rose; alone = how.1.alone; rested = record { ready = how.1.back.ready; cuts = how.1.back.cuts } })

  pub went_dark : EqualiseGives copies second epoch targets first homes number before after old new begun.Dark → IsCutOff old new × AnyStop copies second epoch targets first old new
  went_dark (inl on) = (
    record {
      power = on.emptied.how.power;
      flights = on.emptied.how.flights;
      cuts = subst (λ (n : ℕ). Rose n new.counts.cuts) (same_cuts on.buf.number on.between on.then_left on.mid on.stated second on.back on.states ∙ on.copied.how.back.cuts) on.emptied.how.cuts;
    },
    in_forgetting begun.Dark (StopsAtOne copies old new (λ d. Unit {0})) (λ w copied. Unit {0}) (λ stated. Unit {0}) on tt,
  )
  went_dark (inr (inl on)) = (
    cut_in second refl on on.states,
    in_stating begun.Dark second refl (StopsAtOne copies old new (λ d. Unit {0})) (λ w copied. Unit {0}) (λ stated. Unit {0}) on on.states (λ bytes states. tt),
  )
    where
      cut_in : (s : Option (List ℕ)) → second ≡ s → (on : StoppedStating copies second epoch targets first homes number before after old new begun.Dark) → StatesSecond s epoch targets first homes on.buf.number on.between after on.mid new begun.Dark → IsCutOff old new
      cut_in None is on states = absurd (on.stopped states.buf states.ended)
      cut_in (Some bytes) is on states = record {
        power = states.gives.how.power;
        flights = states.gives.how.flights;
        cuts = subst (λ (n : ℕ). Rose n new.counts.cuts) on.copied.how.back.cuts states.gives.how.cuts;
      }
  went_dark (inr (inr stopped)) = (stopped.copied.how, in_copying (StopsAtOne copies old new (λ d. Unit {0})) (λ w copied. Unit {0}) (λ stated. Unit {0}) stopped.copied.does.keeps stopped.copied.writes)

  pub got_stuck : EqualiseGives copies second epoch targets first homes number before after old new begun.Stuck → IsStillOut before old new × AnyStop copies second epoch targets first old new
  got_stuck (inl on) =
      let out = on.emptied.how in
      let spent = spends_then before on.between on.then_left old on.mid on.stated on.copied.does.spends (it_spends on.buf.number on.between on.then_left on.mid on.stated second (begun.Ended on.back) on.states) in (
        record {
          flight = out.flight;
          out = out.flights;
          freed = out.freed;
          power = out.power;
          cuts = out.cuts ∙ same_cuts on.buf.number on.between on.then_left on.mid on.stated second on.back on.states ∙ on.copied.how.back.cuts;
          waited = spent_then before on.then_left old on.stated new spent out.waits;
        },
        in_forgetting begun.Stuck (StopsAtOne copies old new (λ d. Unit {0})) (λ w copied. Unit {0}) (λ stated. Unit {0}) on tt,
      )
  got_stuck (inr (inl on)) = (
    out_in second refl on on.states,
    in_stating begun.Stuck second refl (StopsAtOne copies old new (λ d. Unit {0})) (λ w copied. Unit {0}) (λ stated. Unit {0}) on on.states (λ bytes states. tt),
  )
    where
      out_in : (s : Option (List ℕ)) → second ≡ s → (on : StoppedStating copies second epoch targets first homes number before after old new begun.Stuck) → StatesSecond s epoch targets first homes on.buf.number on.between after on.mid new begun.Stuck → IsStillOut before old new
      out_in None is on states = absurd (on.stopped states.buf states.ended)
      out_in (Some bytes) is on states =
          let out = states.gives.how in
          record {
            flight = out.flight;
            out = out.flights;
            freed = out.freed;
            power = out.power;
            cuts = out.cuts ∙ on.copied.how.back.cuts;
            waited = spent_then before on.between old on.mid new on.copied.does.spends out.waits;
          }
  got_stuck (inr (inr stopped)) =
      let out = stopped.copied.how in (
        record { flight = out.flight; out = out.out; freed = out.freed; power = out.power; cuts = out.cuts; waited = out.waited },
        in_copying (StopsAtOne copies old new (λ d. Unit {0})) (λ w copied. Unit {0}) (λ stated. Unit {0}) stopped.copied.does.keeps stopped.copied.writes,
      )

  pub spends_all : (result : Begun) → EqualiseGives copies second epoch targets first homes number before after old new result → Spends before after old new
  spends_all result (inl on) = spends_then before on.then_left after old on.stated new
      (spends_then before on.between on.then_left old on.mid on.stated on.copied.does.spends (it_spends on.buf.number on.between on.then_left on.mid on.stated second (begun.Ended on.back) on.states)) on.emptied.does.spends
  spends_all result (inr (inl on)) = spends_then before on.between after old on.mid new on.copied.does.spends (it_spends on.buf.number on.between after on.mid new second result on.states)
  spends_all result (inr (inr stopped)) = stopped.copied.does.spends
