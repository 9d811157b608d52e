-- What holds of a request goes on to hold, whatever is wanted stale and however the copy ends.
use Rattle.std.proofs.Common.{◌≡◌, sym, ap, subst}
use Rattle.lvm_status.specs.Update.{Stored}
use Rattle.lvm_session.specs.State.{Core}
use Rattle.lvm_session.specs.Requests.{IsOpenOne}
use Rattle.lvm_keeps_events.specs.Marks.{CopyEndsKeepRequests, MarksKeepRequests}
use Rattle.lvm_keeps_events.proofs.SoundLemmas.Failing.{one_ended}
use Rattle.lvm_keeps_events.proofs.JudgingLemmas.Staling.{IsStaled, one_on, staled}

pub marks_keep_requests : MarksKeepRequests
marks_keep_requests core due next o sound wants it = subst (λ (u : Stored). IsOpenOne (record core { status = u }) o) (sym marked.is) (one_on core due next.wanted next.writes marked.like o it)
  where
    marked : IsStaled due core.status next
    marked = staled due core.status next sound wants

pub copy_ends_keep_requests : CopyEndsKeepRequests
copy_ends_keep_requests core c how o going is it = one_ended core going c is how o it
