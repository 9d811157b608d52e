-- The steps of a workload, one after the other.
use Rattle.std.proofs.Common.{◌≡◌, ◌<◌, ℕ, Bool, true, false, not, List, Option, Some, None, length, get_or, refl, ap, ◌∙◌, subst}
use Rattle.std.specs.Prelude.{Result, is_some, slice_get}
use Rattle.std.specs.Option.{option_map_or}
use Rattle.std.proofs.lemmas.Option.{slice_get-get_or}
use Rattle.lvm_workers.specs.declared.words.Draw.{Draw}
use Rattle.lvm_session.specs.declared.answers.AskFault.{AskFault}
use Rattle.lvm_session.specs.Calls.{SubmitGives}
use Rattle.lvm_session.specs.State.{Core}
use Rattle.lvm_load.specs.declared.client.Client.{Client}
use Rattle.lvm_load.specs.Requests.{ask_of, bytes_of}
use Rattle.lvm_load.specs.Weaving.{fresh_client, open_of}

-- the client of an index that there is
pub client_there : (clients : List Client) (k : ℕ) → k < length clients → slice_get clients k ≡ Some (get_or clients k fresh_client)
client_there clients k within = slice_get-get_or clients k fresh_client within

-- and the request that it has open
pub open_there : (clients : List Client) (k : ℕ) (o : Option ℕ) → k < length clients → (get_or clients k fresh_client).request ≡ o → open_of clients k ≡ o
open_there clients k o within is = ap (λ (c : Option Client). option_map_or (λ (c : Client). c.request) c None) (client_there clients k within) ∙ is

pub none_of : (o : Option ℕ) → ((id : ℕ) → o ≡ Some id → ⊥) → o ≡ None
none_of None never = refl
none_of (Some id) never = absurd (never id refl)

pub none_is : (o : Option ℕ) (b : Bool) → is_some o ≡ not b → b ≡ true → o ≡ None
none_is None b is so = refl
none_is (Some id) true is so = absurd (cc is)
none_is (Some id) false is so = absurd (cc so)

pub some_of : (o : Option ℕ) (b : Bool) → is_some o ≡ not b → b ≡ false → (id : ℕ) × (o ≡ Some id)
some_of (Some id) b is so = (id, refl)
some_of None true is so = absurd (cc so)
some_of None false is so = absurd (cc is)

-- a request that is submitted, by what was drawn
pub submits_drawn : (old new : Core) (client lv blocks : ℕ) (d d1 : Draw) (word word1 : ℕ) (answer : Result ℕ AskFault) → d ≡ d1 → word ≡ word1
    → SubmitGives old new client (ask_of lv blocks d) (bytes_of word blocks d) answer → SubmitGives old new client (ask_of lv blocks d1) (bytes_of word1 blocks d1) answer
submits_drawn old new client lv blocks d d1 word word1 answer drawn words gives =
    subst (λ (e : Draw). SubmitGives old new client (ask_of lv blocks e) (bytes_of word1 blocks e) answer) drawn
    (subst (λ (w : ℕ). SubmitGives old new client (ask_of lv blocks d) (bytes_of w blocks d) answer) words gives)
