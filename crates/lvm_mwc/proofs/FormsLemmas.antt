-- The entries in either form.
use Rattle.std.proofs.Common.{◌≡◌, ◌≢◌, ◌<◌, ◌∙◌, ℕ, Bool, true, false, cond, List, sym, ap, subst, length}
use Rattle.lvm_mwc.specs.declared.entries.CacheEntry.{CacheEntry}
use Rattle.lvm_mwc.specs.declared.cache.Pin.{Pin}
use Rattle.lvm_mwc.specs.Entries.{pins_of, with_unpin}
use Rattle.lvm_mwc.specs.Filled.{after_pin_in, answer_in, listed, pinned, pinned_answer}
use Rattle.lvm_mwc.proofs.FilledLemmas.{full_map_answers, full_map_finds, full_map_pins, full_map_unpins, no_pins_of_zero, some_volume}

module _ (is_plain : Bool) (plain filled list : List CacheEntry) (seen : cond is_plain plain (listed filled) ≡ list) where
  pub in_plain : is_plain ≡ true → plain ≡ list
  in_plain is = sym (ap (λ t. cond t plain (listed filled)) is) ∙ seen

  pub in_map : is_plain ≡ false → listed filled ≡ list
  in_map is = sym (ap (λ t. cond t plain (listed filled)) is) ∙ seen

  pub still_map : is_plain ≡ false → (new : List CacheEntry) → cond is_plain plain (listed new) ≡ listed new
  still_map is new = ap (λ t. cond t plain (listed new)) is

  module _ (is : is_plain ≡ false) (lv group : ℕ) where
    pub pins_zero : lv ≡ 0 → 0 ≡ pins_of list lv group
    pins_zero none = sym (ap (λ (n : ℕ). pins_of (listed filled) n group) none ∙ no_pins_of_zero filled group) ∙ ap (λ (l : List CacheEntry). pins_of l lv group) (in_map is)

    pub pins_map : lv ≢ 0 → pins_of filled lv group ≡ pins_of list lv group
    pins_map some = full_map_finds filled lv group some ∙ ap (λ (l : List CacheEntry). pins_of l lv group) (in_map is)

    pub pin_map : (new : List CacheEntry) → lv ≢ 0 → length filled ≡ 62 → new ≡ pinned filled lv group → listed new ≡ after_pin_in list lv group
    pin_map new some full done = ap listed done ∙ full_map_pins filled lv group some full ∙ ap (λ (l : List CacheEntry). after_pin_in l lv group) (in_map is)

    pub answer_map : (pin : Pin) → lv ≢ 0 → length filled ≡ 62 → pin ≡ pinned_answer filled lv group → pin ≡ answer_in list lv group
    answer_map pin some full done = done ∙ full_map_answers filled lv group some full ∙ ap (λ (l : List CacheEntry). answer_in l lv group) (in_map is)

    -- a track group with pins isn't one of volume 0
    pub no_filler : 0 < pins_of list lv group → lv ≢ 0
    no_filler some = some_volume filled lv group (subst (λ (l : List CacheEntry). 0 < pins_of l lv group) (sym (in_map is)) some)

    pub unpin_map : (new : List CacheEntry) → 0 < pins_of list lv group → new ≡ with_unpin filled lv group → listed new ≡ with_unpin list lv group
    unpin_map new some done = ap listed done ∙ full_map_unpins filled lv group (no_filler some) ∙ ap (λ (l : List CacheEntry). with_unpin l lv group) (in_map is)
