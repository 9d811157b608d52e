-- Later stamps and moments.
use Rattle.std.proofs.Common.{◌≡◌, ◌+◌, true, Option, Some, None, arith}
use Rattle.std.specs.Prelude.{IfSome}
use Rattle.std.proofs.lemmas.Bool.Decides.{nat_tests}
use Rattle.lvm_num.specs.declared.record.Stamp.{Stamp}
use Rattle.lvm_num.specs.Record.{slot_start, stamp_lt}
use Rattle.lvm_num.specs.Torn.{stamp_of}
use Rattle.lvm_kept.specs.passed.Disk.{Media, image_of}
use Rattle.lvm_steps.specs.Behind.{StampsBefore, beginning_at}
use Rattle.lvm_steps.specs.Laws.{IsNoLater, LaterIsAfterToo, LaterIsAheadToo, SessionIsFromMoment, SessionIsBeforeLater, BehindIsBefore, BeforeIsBehind}

before_later : (a b c : Stamp) → stamp_lt a b ≡ true → IsNoLater b c → stamp_lt a c ≡ true
before_later a b c before no_later = grind (arith, nat_tests)

-- a later stamp isn't before
pub not_after : (a b : Stamp) → stamp_lt a b ≡ true → IsNoLater a b
not_after a b before = grind (arith, nat_tests)

pub later_is_after_too : LaterIsAfterToo
later_is_after_too stamp later image no_later before kind d slot there two k small magic =
    before_later (stamp_of (image.sector d (slot_start kind slot + k))) stamp later (before kind d slot there two k small magic) no_later

pub session_is_from_moment : SessionIsFromMoment
session_is_from_moment moment stamp le = grind (arith, nat_tests)

pub session_is_before_later : SessionIsBeforeLater
session_is_before_later moment stamp lt = grind (arith, nat_tests)

-- what holds of media that are told
pub if_told : (P Q : Media → Type 0) → ((media : Media) → P media → Q media) → (o : Option Media) → IfSome o P → IfSome o Q
if_told P Q more None all = all
if_told P Q more (Some media) all = more media all

pub later_is_ahead_too : LaterIsAheadToo
later_is_ahead_too moment later device le behind = if_told
    (λ media. StampsBefore (beginning_at moment) (image_of device.sizes media))
    (λ media. StampsBefore (beginning_at later) (image_of device.sizes media))
    (λ media. later_is_after_too (beginning_at moment) (beginning_at later) (image_of device.sizes media) (session_is_from_moment moment (beginning_at later) le))
    device.media
    behind

pub behind_is_before : BehindIsBefore
behind_is_before stamp device behind = if_told
    (λ media. StampsBefore (beginning_at stamp.epoch) (image_of device.sizes media))
    (λ media. StampsBefore stamp (image_of device.sizes media))
    (λ media. later_is_after_too (beginning_at stamp.epoch) stamp (image_of device.sizes media) (session_is_from_moment stamp.epoch stamp (omega arith)))
    device.media
    behind

pub before_is_behind : BeforeIsBehind
before_is_behind stamp moment device lt before = if_told
    (λ media. StampsBefore stamp (image_of device.sizes media))
    (λ media. StampsBefore (beginning_at moment) (image_of device.sizes media))
    (λ media. later_is_after_too stamp (beginning_at moment) (image_of device.sizes media) (not_after stamp (beginning_at moment) (session_is_before_later moment stamp lt)))
    device.media
    before
