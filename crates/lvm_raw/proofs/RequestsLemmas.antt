-- Requests on a disk in no group, from their beginning to their end.
use Rattle.std.proofs.Common.{◌≡◌, ◌+◌, ◌≤◌, ◌∷◌, ◌++◌, [], ℕ, List, true, false, length, take, count_by, refl, sym, subst}
use Rattle.lvm_num.specs.Buffer.{Buffer, Sector}
use Rattle.lvm_num.specs.Geometry.{data_start}
use Rattle.lvm_disk.specs.Device.{Device, Flight}
use Rattle.lvm_disk.specs.Steps.{IsRange}
use Rattle.lvm_disk.specs.Images.{LeavesNoMore}
use Rattle.lvm_disk.specs.Paths.{DeviceStep, Path}
use Rattle.lvm_vol.specs.declared.entry.Outcome.TheVariants as outcome
use Rattle.lvm_vol.specs.Facts.{Fact, Request, Begun}
use Rattle.lvm_vol.specs.Legal.{begins_in}
use Rattle.lvm_kept.specs.Moments.{StaysCalm}
use Rattle.lvm_kept.specs.Raw.{OnlyAdds, next_write}
use Rattle.lvm_kept.proofs.RawLemmas.Carrying.{carries_front}
use Rattle.lvm_steps.specs.Moments.{Keeps}
use Rattle.lvm_steps.specs.Requests.{IsInNoGroup, IsRawWrite, next_read, at as moment_of}
use Rattle.lvm_steps.proofs.RequestsLemmas.Writing.{write_done_keeps, write_lost_keeps, write_dark_keeps, write_stuck_keeps}
use Rattle.lvm_steps.proofs.RequestsLemmas.Reading.{read_got_keeps, read_failed_keeps, read_dark_keeps, read_stuck_keeps}
use Rattle.lvm_steps.proofs.EnteringLemmas.{answered_stays_calm, darkened_stays_calm}
use Rattle.lvm_transfer.specs.Transfer.{TransferGives, flight_of}
use Rattle.lvm_transfer.specs.declared.moves.Moved.{Moved}
use Rattle.lvm_transfer.specs.declared.moves.Moved.TheVariants as moved
use Rattle.lvm_transfer.proofs.StepsLemmas.{done_effect, failed_effect}
use Rattle.lvm_raw.specs.Requests.{write_ends, read_ends, RelightsAfter, IsHeard, HasFront}

module _ (run disk from count : ℕ) (buf : Buffer) (old mid new : Device) (facts : List Fact) (still : old.flights ≡ []) (none : IsInNoGroup old disk) (low : data_start ≤ from) (lit : Path DeviceStep (LeavesNoMore mid) mid new) where
  module _ (long : count ≤ length buf.sectors) (path : Path DeviceStep (OnlyAdds (flight_of 0 true disk from count buf) old) old mid) where
    abbrev blocks : List Sector
    blocks = take count buf.sectors

    abbrev write : Request
    write = next_write run facts disk from count blocks

    abbrev writes : Flight
    writes = flight_of 0 true disk from count buf

    raw : IsRawWrite facts write writes old mid run disk from count blocks
    raw = record { is = refl; none = none; low = low; carries = carries_front run (count_by (begins_in run) facts + 1) disk from count 0 buf long; path = path }

    pub write_keeps : (ticket patience : ℕ) (how : Moved) → TransferGives patience old mid (flight_of ticket true disk from count buf) how → RelightsAfter mid new how → Keeps run (moment_of old facts) (moment_of new (write_ends (facts ++ Begun write ∷ []) write how))
    write_keeps ticket patience (moved.Done back) gives same =
        let effect = done_effect patience old mid (flight_of ticket true disk from count buf) back still gives in
        subst (λ (d : Device). Keeps run (moment_of old facts) (moment_of d (write_ends (facts ++ Begun write ∷ []) write (moved.Done back)))) (sym same) (write_done_keeps facts write writes old mid run disk from count blocks raw effect.still effect.puts)
    write_keeps ticket patience (moved.Failed back) gives same =
        let effect = failed_effect patience old mid (flight_of ticket true disk from count buf) back still gives in
        subst (λ (d : Device). Keeps run (moment_of old facts) (moment_of d (write_ends (facts ++ Begun write ∷ []) write (moved.Failed back)))) (sym same) (write_lost_keeps facts write writes old mid run disk from count blocks raw effect.still effect.puts)
    write_keeps ticket patience (moved.Dark started) gives on = write_dark_keeps facts write writes old mid new run disk from count blocks started raw lit
    write_keeps ticket patience moved.Stuck gives same =
        subst (λ (d : Device). Keeps run (moment_of old facts) (moment_of d (facts ++ Begun write ∷ []))) (sym same) (write_stuck_keeps facts write writes old mid run disk from count blocks raw)

    pub write_closes : (how : Moved) → IsHeard how → StaysCalm (moment_of old facts) (moment_of new (write_ends (facts ++ Begun write ∷ []) write how))
    write_closes (moved.Done back) heard = answered_stays_calm (moment_of old facts) new facts write outcome.Done [] (λ past calm. calm)
    write_closes (moved.Failed back) heard = answered_stays_calm (moment_of old facts) new facts write outcome.Lost [] (λ past calm. calm)
    write_closes (moved.Dark started) heard = darkened_stays_calm (moment_of old facts) new facts write started
    write_closes moved.Stuck heard = absurd heard

  module _ (path : Path DeviceStep (OnlyAdds (flight_of 0 false disk from count buf) old) old mid) where
    abbrev reading : Request
    reading = next_read run facts disk from count

    pub read_keeps :
        (ticket patience : ℕ) (how : Moved) → TransferGives patience old mid (flight_of ticket false disk from count buf) how → RelightsAfter mid new how → IsRange old disk from count → HasFront count how
        → Keeps run (moment_of old facts) (moment_of new (read_ends (facts ++ Begun reading ∷ []) reading how))
    read_keeps ticket patience (moved.Done back) gives same range long =
        let effect = done_effect patience old mid (flight_of ticket false disk from count buf) back still gives in
        subst (λ (d : Device). Keeps run (moment_of old facts) (moment_of d (read_ends (facts ++ Begun reading ∷ []) reading (moved.Done back)))) (sym same)
        (read_got_keeps facts old mid run disk from count 0 buf back path none low range effect.still effect.puts (effect.reads refl) long)
    read_keeps ticket patience (moved.Failed back) gives same range long =
        subst (λ (d : Device). Keeps run (moment_of old facts) (moment_of d (read_ends (facts ++ Begun reading ∷ []) reading (moved.Failed back)))) (sym same) (read_failed_keeps facts old mid run disk from count 0 buf path)
    read_keeps ticket patience (moved.Dark started) gives on range long = read_dark_keeps facts old mid new run disk from count 0 buf started path lit
    read_keeps ticket patience moved.Stuck gives same range long =
        subst (λ (d : Device). Keeps run (moment_of old facts) (moment_of d (facts ++ Begun reading ∷ []))) (sym same) (read_stuck_keeps facts old mid run disk from count 0 buf path)

    pub read_closes : (how : Moved) → IsHeard how → StaysCalm (moment_of old facts) (moment_of new (read_ends (facts ++ Begun reading ∷ []) reading how))
    read_closes (moved.Done back) heard = answered_stays_calm (moment_of old facts) new facts reading outcome.Got (take count back.sectors) (λ past calm. calm)
    read_closes (moved.Failed back) heard = answered_stays_calm (moment_of old facts) new facts reading outcome.ReadFailed [] (λ past calm. calm)
    read_closes (moved.Dark started) heard = darkened_stays_calm (moment_of old facts) new facts reading started
    read_closes moved.Stuck heard = absurd heard
