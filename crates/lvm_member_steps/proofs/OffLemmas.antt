-- What a session leaves that goes off and writes nothing.
use Rattle.std.proofs.Common.{◌≡◌, inl, ℕ, List, [], refl, sym, ◌∙◌, ap, subst, arith}
use Rattle.std.proofs.lemmas.Bool.{false≢true}
use Rattle.lvm_num.specs.declared.descriptor.Descriptor.{Descriptor}
use Rattle.lvm_disk.proofs.CountingLemmas.{none_falls_at_once}
use Rattle.lvm_write.proofs.PartsLemmas.Transfers.{keeps_here, spends_none}
use Rattle.lvm_session.specs.declared.open.Power.TheVariants as power
use Rattle.lvm_session.specs.State.{State, is_there}
use Rattle.lvm_session.specs.Sound.{is_dark}
use Rattle.lvm_core.specs.Settled.{IsSettled}
use Rattle.lvm_core.specs.Sound.{IsSoundAtRest}
use Rattle.lvm_core.proofs.SoundLemmas.Own.{fits_with, sound_ready}
use Rattle.lvm_turnover.specs.Changing.{among, IsOfChange, LeavesWithin}

abbrev off : State → State
off s = record { device = s.device; core = record s.core { power = power.Off } }

pub off_leaves : (m : ℕ) (N : Descriptor → Type 0) (E : List ℕ) (p : ℕ) (a b : State) → b ≡ off a → LeavesWithin m N [] E p p a b
off_leaves m N E p a b is = subst (LeavesWithin m N [] E p p a) (sym is) here
  where
    here : LeavesWithin m N [] E p p a (off a)
    here = record {
      writes = keeps_here (among [] (among E (is_there a.core))) (IsOfChange N [] E a (off a)) a.device;
      status = record {
        group = inl refl;
        stale = λ pp apart stale. stale;
        further = λ pp stale. inl stale;
        dirty = λ lv. refl;
        stays = λ d apart missing. missing;
        lost = λ d missing isnt. absurd (false≢true (sym isnt ∙ missing));
        fewer = λ d there. there;
      };
      numbers = record { epoch = refl; rises = omega arith; most = omega arith };
      history = record { room = refl; volumes = omega arith; later = λ moment later. later };
      spans = λ run first held span. span;
      finds = λ held id k found. inl found;
      calm = λ past calm. calm;
      behind = λ moment lt stays. stays;
      falls = none_falls_at_once a.device.counts;
      spends = spends_none p a.device;
    }

-- ---- nothing at all

pub here_leaves : (m : ℕ) (N : Descriptor → Type 0) (E : List ℕ) (p : ℕ) (s : State) → LeavesWithin m N [] E p p s s
here_leaves m N E p s = record {
  writes = keeps_here (among [] (among E (is_there s.core))) (IsOfChange N [] E s s) s.device;
  status = record {
    group = inl refl;
    stale = λ pp apart stale. stale;
    further = λ pp stale. inl stale;
    dirty = λ lv. refl;
    stays = λ d apart missing. missing;
    lost = λ d missing isnt. absurd (false≢true (sym isnt ∙ missing));
    fewer = λ d there. there;
  };
  numbers = record { epoch = refl; rises = omega arith; most = omega arith };
  history = record { room = refl; volumes = omega arith; later = λ moment later. later };
  spans = λ run first held span. span;
  finds = λ held id k found. inl found;
  calm = λ past calm. calm;
  behind = λ moment lt stays. stays;
  falls = none_falls_at_once s.device.counts;
  spends = spends_none p s.device;
}

-- ---- a session that goes off is sound

pub off_sound : (s : State) → IsSettled s.core → IsSoundAtRest s → IsSoundAtRest (off s)
off_sound s settled sound =
    let lit = sound.lit (ap is_dark settled.power) in
    sound_ready s.device (off s).core (fits_with s.core s.core.history s.core.pool power.Off refl sound.fitting) (record { requests = sound.none.requests; copy = sound.none.copy }) sound.landed sound.placed settled.quiet.buffers refl (λ is. absurd (cc is))
    (record { flights = sound.quiet settled.quiet; freed = lit.freed; power = lit.power })
