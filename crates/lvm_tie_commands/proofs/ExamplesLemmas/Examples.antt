-- The sessions that are worked by hand may serve.
use Rattle.std.proofs.Common.{◌≡◌, ℕ, ◌≤◌, Bool, true, false, ◌&&◌, ◌||◌, not, if◌then◌else◌, Some, refl, sym, ap, subst, ◌∙◌, arith}
use Rattle.std.specs.Prelude.{IsTrue, nat_lt, count_by}
use Rattle.lvm_vol.specs.Legal.{begins_in}
use Rattle.std.proofs.lemmas.List.{length-replicate}
use Rattle.lvm_num.specs.declared.descriptor.Mode.{Mode}
use Rattle.lvm_num.specs.declared.place.Pp.{Pp}
use Rattle.lvm_num.specs.declared.status.Status.{Status}
use Rattle.lvm_num.specs.Buffer.{zero_sector}
use Rattle.lvm_num.specs.Bits.{has_bit}
use Rattle.lvm_num.specs.Disks.{has}
use Rattle.lvm_num.specs.Status.{calls_missing}
use Rattle.lvm_num.specs.Votes.{all_disks, votes_by}
use Rattle.lvm_num.specs.Descriptor.{is_pp}
use Rattle.lvm_kept.specs.Moments.{Calm}
use Rattle.lvm_steps.proofs.GroupLemmas.Members.{member_of_parts}
use Rattle.lvm_commit.proofs.LawsLemmas.Found.{shows_group}
use Rattle.lvm_status.specs.Runs.{IsSoundStatus}
use Rattle.lvm_status.specs.Update.{seen}
use Rattle.lvm_session.specs.State.{Core, State, is_there}
use Rattle.lvm_session.specs.Marks.{is_entailed}
use Rattle.lvm_session.specs.Causes.{faults_at_first}
use Rattle.lvm_session.specs.Sound.{IsSound}
use Rattle.lvm_session.proofs.WorkedLemmas.Parts.{idle_is_sound, none_written, zeros_at}
use Rattle.lvm_keeps.specs.Begins.{SessionBegins}
use Rattle.lvm_keeps.proofs.BeginsLemmas.{beginning_is_sound}
use Rattle.lvm_tie.specs.passed.Even.{IsEven, Pair, even_pair, media_of, past_of}
use Rattle.lvm_settled.specs.Examples.{IsSettledPair, core_of}
use Rattle.lvm_settled.specs.Settled.{IsKnown}
use Rattle.lvm_settled.proofs.ExamplesLemmas.Examples.{pairs_settle}
use Rattle.lvm_settled.proofs.ExamplesLemmas.Notes.{pairs_have_notes_home}
use Rattle.lvm_tie.specs.Begins.{IsCoreAtRest, MembersShow, ShowsIts, shown_to}
use Rattle.lvm_tie.proofs.passed.Crash.{pp_same}
use Rattle.lvm_tie_commands.specs.Examples.{IsServingPair, PairsServe, session_of}
use Rattle.lvm_tie_commands.specs.Settled.{IsSettledAfter, MayServe}
use Rattle.lvm_keeps.proofs.LeftLemmas.Updates.{few_updates}
use Rattle.lvm_tie_commands.proofs.ExamplesLemmas.PairSectors.{are_sectors}
use Rattle.lvm_tie_commands.proofs.SettledLemmas.Serving.{settled_ties}

-- nothing is left to be entailed: the lost copy is stale
none_entailed : (mode : Mode) (dirty lost : Bool) (p : Pp) → is_entailed (core_of (even_pair mode dirty lost zero_sector)) p ≡ false
unfolding has_bit
none_entailed mode dirty lost p = by (is_pp p (record { disk = 0; pp = 0 })) (is_pp p (record { disk = 1; pp = 0 })) refl refl
  where
    at : Bool → Pp → Type 0
    at l q = is_entailed (core_of (even_pair mode dirty l zero_sector)) q ≡ false

    first : (l : Bool) → at l (record { disk = 0; pp = 0 })
    first true = refl
    first false = refl

    second : (l : Bool) → at l (record { disk = 1; pp = 0 })
    second true = refl
    second false = refl

    neither : (a b : Bool) (x y z : Bool) → a ≡ false → b ≡ false → ((((a || (b || false)) && x && y && z) || false) || false) ≡ false
    neither true b x y z none also = absurd (cc none)
    neither false true x y z none also = absurd (cc also)
    neither false false x y z none also = refl

    by : (s t : Bool) → is_pp p (record { disk = 0; pp = 0 }) ≡ s → is_pp p (record { disk = 1; pp = 0 }) ≡ t → at lost p
    by true t is also = subst (at lost) (sym (pp_same p (record { disk = 0; pp = 0 }) is)) (first lost)
    by false true is also = subst (at lost) (sym (pp_same p (record { disk = 1; pp = 0 }) also)) (second lost)
    by false false is also = neither (is_pp p (record { disk = 0; pp = 0 })) (is_pp p (record { disk = 1; pp = 0 })) _ _ _ is also

past_is_calm : (mode : Mode) (cut : Bool) → Calm (past_of mode cut)
past_is_calm mode false vol b = refl
past_is_calm mode true vol b = refl

module _ (mode : Mode) (dirty lost cut : Bool) where
  abbrev x : Pair
  x = even_pair mode dirty lost zero_sector

  abbrev s : State
  s = session_of x

  abbrev core : Core
  core = s.core

  its : IsSettledPair core x mode cut
  its = pairs_settle.first mode dirty lost cut zero_sector

  abbrev known : IsKnown (past_of mode cut) s (media_of x)
  known = its.known

  status_sound : IsSoundStatus (seen core.status)
  unfolding votes_by has_bit has
  status_sound = idle_is_sound (seen core.status) refl none_written refl (λ disk is. is)

  none_failed : (disk : ℕ) → faults_at_first core disk ≤ 0
  none_failed disk = let none = zeros_at 128 disk in omega (arith, none)

  begins : SessionBegins s
  begins = record {
    fitting = record {
      valid = known.sound.fitting.valid;
      id = known.sound.fitting.id;
      rows = known.sound.fitting.rows;
      group = known.sound.fitting.group;
      entries = known.sound.fitting.entries;
      notes = known.sound.fitting.notes;
      table = omega arith;
      most = known.sound.fitting.most;
      queue = known.sound.fitting.queue;
      a_buffer = known.sound.fitting.a_buffer;
      buffers = known.sound.fitting.buffers;
      last = known.sound.fitting.last;
      room = omega arith;
    };
    ordered = (tt, tt);
    landed = known.sound.landed;
    unused = record { requests = refl; rows = refl; copy = refl; pool = refl; flying = refl; entries = refl; started = λ disk. (status_sound.idle refl disk).1; notes = known.settled.quiet.notes };
    calm = record { sound = status_sound; committed = refl; wanted = refl; in_flight = refl };
    power = refl;
    lit = known.sound.lit refl;
    idle = refl;
    placed = known.sound.placed;
    faults = none_failed;
    votes = known.settled.votes;
    behind = none_entailed mode dirty lost;
    numbers = let few = few_updates core known.sound.fitting.valid refl refl in omega (arith, few);
  }

  sound : IsSound s
  sound = beginning_is_sound s begins

  members : MembersShow s (media_of x)
  members d member present =
      let there : IsTrue (is_there core d) = ap (λ (b : Bool). b && not (calls_missing core.status.wanted d)) member ∙ ap not present in
      member_of_parts (shown_to s (media_of x)) all_disks core.descriptor.id core.descriptor d refl
      (shows_group (shown_to s (media_of x)) core.descriptor core.status.committed (is_there core) known.held.shows d there) (known.held.shows.room d there)

  settled : IsSettledAfter (past_of mode cut) s (media_of x)
  settled = record { known = its.known; carried = its.carried }

  may : MayServe s (media_of x)
  may = record { sound = sound; sectors = are_sectors mode dirty lost; epoch = omega arith; notes = pairs_have_notes_home.first mode dirty lost; members = members }

  own : (cut : Bool) → count_by (begins_in 50) (past_of mode cut) ≡ 0
  own true = refl
  own false = refl

  resting : IsCoreAtRest core
  resting = record { requests = refl; copy = refl; flying = refl; in_flight = refl; committed = refl; notes = known.settled.quiet.notes }

  -- evenness goes by the marks alone
  even : (shows : ShowsIts s (media_of x)) → IsEven (shown_to s (media_of x)) core.descriptor (Some shows.stands) (is_there core)
  even shows = subst (λ (t : Status). IsEven (shown_to s (media_of x)) core.descriptor (Some (record shows.stands { value = t })) (is_there core)) (known.held.shows.committed ∙ sym shows.committed) its.carried.even

  serves : IsServingPair x mode cut
  serves = record {
    settled = settled;
    may = may;
    own = own cut;
    tied = settled_ties (past_of mode cut) s (media_of x) settled may (own cut);
    left = record { resting = resting; votes = known.settled.votes; spare = λ d there. (known.held.homes d there).descriptor; only = known.only; calm = past_is_calm mode cut };
    driven = record {
      told = refl;
      sectors = are_sectors mode dirty lost;
      ordered = (tt, tt);
      few = omega arith;
    };
    faults = record { long = length-replicate {A = ℕ} 128 0; each = λ disk. zeros_at 128 disk ∙ sym (nothing (nat_lt disk 2)) };
    only = known.only;
    even = record { notes = pairs_have_notes_home.first mode dirty lost; even = even };
  }
    where
      nothing : (b : Bool) → ◌≡◌ {A = ℕ} (if b then 0 else 0) 0
      nothing true = refl
      nothing false = refl

pub pairs_serve : PairsServe
pairs_serve mode dirty lost cut = serves mode dirty lost cut
