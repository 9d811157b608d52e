-- A power cut ends a session at which nothing is open: a Cut is all that it enters.
use Rattle.std.proofs.Common.{◌≡◌, ◌+◌, ◌≤◌, ℕ, Bool, true, false, cond, List, [], ◌∷◌, ◌++◌, length, Option, None, count_by, refl, sym, ◌∙◌, ap, subst, arith}
use Rattle.std.proofs.lemmas.List.{append-nil}
use Rattle.lvm_disk.specs.Device.{Device, Flight}
use Rattle.lvm_vol.specs.Facts.{Fact, Cut, begun_by}
use Rattle.lvm_vol.specs.Log.{Log, cut_log, is_uncut, lands_id, with_fact}
use Rattle.lvm_session_start.proofs.passed.Keeps.{open_still}
use Rattle.lvm_session.specs.declared.open.Open.{Open}
use Rattle.lvm_session.specs.declared.open.Power.{Power}
use Rattle.lvm_session.specs.declared.flown.Flown.{Flown}
use Rattle.lvm_session.specs.declared.bringing.OpenCopy.{OpenCopy}
use Rattle.lvm_session.specs.State.{Core}
use Rattle.lvm_session.specs.Dark.{AreTold, all_dark, hand_of_copy}
use Rattle.lvm_session.specs.Sound.{count_if, hands_with, has_number, is_hand, out_with}
use Rattle.lvm_session.specs.declared.open.Power.TheVariants as power
use Rattle.lvm_session.specs.Hands.{AreInHand, IsOutIf, MayEnd}
use Rattle.lvm_core.specs.Sound.{HasNoneOpen, HaveAllLanded, IsFittingAtRest}

-- ---- the session afterwards

abbrev pub cut_core : Core → Core
cut_core core = record core { history = cut_log core.history; requests = []; copy = None; flying = []; power = power.Dark }

pub dark_is : (core : Core) → HasNoneOpen core → all_dark core ≡ cut_core core
dark_is core none =
    ap (λ (os : List Open). all_dark (record core { requests = os })) none.requests
    ∙ ap (λ (c : Option OpenCopy). all_dark (record core { requests = []; copy = c })) none.copy
    ∙ ap (λ (fs : List Fact). record core { history = record (cut_log core.history) { facts = fs }; requests = []; copy = None; flying = []; power = power.Dark }) (append-nil (cut_log core.history).facts)

-- nothing that is in hand has to come back
pub may_end : (core : Core) → HasNoneOpen core → MayEnd core
may_end core none = record {
  told = subst (AreTold core.history.facts) (sym none.requests) (record { ascending = tt; still = tt });
  copy = subst (λ (c : Option OpenCopy). IsOutIf core.pool (hand_of_copy c)) (sym none.copy) tt;
  requests = subst (AreInHand _) (sym none.requests) tt;
}

-- no request is open by an entry that begins none
pub landed_still : (facts : List Fact) (f : Fact) → begun_by f ≡ None → ((id : ℕ) → lands_id id f ≡ false) → HaveAllLanded facts → HaveAllLanded (facts ++ f ∷ [])
landed_still facts f none lands landed id = open_still facts f none id (lands id) ∙ landed id

pub cut_landed : (log : Log) → HaveAllLanded log.facts → HaveAllLanded (cut_log log).facts
cut_landed log landed = by_test (is_uncut log.facts)
  where
    by_test : (b : Bool) → HaveAllLanded (cond b (with_fact log Cut) log).facts
    by_test true = landed_still log.facts Cut refl (λ id. refl) landed
    by_test false = landed

-- the parts fit with a pool of as many buffers, whatever was entered, whatever is open, and whether the session is on or off
pub fits_again : (core : Core) (log : Log) (requests : List Open) (copy : Option OpenCopy) (flying : List Flown) (pool : List Bool) (on : Power) → length pool ≡ length core.pool → IsFittingAtRest core
    → IsFittingAtRest (record core { history = log; requests = requests; copy = copy; flying = flying; pool = pool; power = on })
fits_again core log requests copy flying pool on long fits = record {
  valid = fits.valid;
  id = fits.id;
  rows = fits.rows;
  group = fits.group;
  entries = fits.entries;
  notes = fits.notes;
  most = fits.most;
  queue = fits.queue;
  a_buffer = subst (λ n. 1 ≤ n) (sym long) fits.a_buffer;
  buffers = subst (λ n. n ≤ 1024) (sym long) fits.buffers;
  last = fits.last;
  forgotten = fits.forgotten;
}

pub cut_fits : (core : Core) → IsFittingAtRest core → IsFittingAtRest (cut_core core)
cut_fits core fits = fits_again core (cut_log core.history) [] None [] core.pool power.Dark refl fits

-- ---- the buffers

-- how many of a number the shelf has
abbrev pub on_shelf : Device → ℕ → ℕ
on_shelf device n = count_by (λ (f : Flight). has_number n f.buf) device.flights + count_by (has_number n) device.freed

no_hands : (core : Core) (n : ℕ) → HasNoneOpen core → hands_with core n ≡ 0
no_hands core n none =
    ap (λ (os : List Open). count_by (λ (o : Open). is_hand n o.got) os + count_if (is_hand n (hand_of_copy core.copy))) none.requests
    ∙ ap (λ (c : Option OpenCopy). 0 + count_if (is_hand n (hand_of_copy c))) none.copy

-- where nothing is in hand no others are out
pub out_is : (device : Device) (core : Core) (n : ℕ) → HasNoneOpen core → out_with device core n ≡ on_shelf device n
out_is device core n none = let hands = no_hands core n none in omega (arith, hands)
