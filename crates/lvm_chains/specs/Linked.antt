-- An index's fields as what it tells.
use Rattle.std.specs.Prelude.{◌≡◌, ℕ, ◌+◌, ◌/◌, ◌^◌, ◌<◌, ◌≤◌, List, length, map, slice_index_or, vec_capacity}
use Rattle.lvm_chains.specs.declared.index.Index.TheInside.{Inside}
use Rattle.lvm_chains.specs.declared.index.Link.{Link}
use Rattle.lvm_chains.specs.Places.{Indexed, newest}

abbrev pub chains_of : List Link → List ℕ
chains_of links = map (λ (l : Link). l.chain) links

abbrev pub no_link : Link
no_link = record { chain = 0; before = 0 }

-- each link leads to the row before it on its chain, each head to the newest
pub record AreLinked (links : List Link) (heads : List ℕ) : Type 0 where
  pub count : length heads ≡ 4098
  pub links_are : (k : ℕ) → k < length links → (slice_index_or links k no_link).before ≡ newest (slice_index_or links k no_link).chain (chains_of links) k
  pub heads_are : (chain : ℕ) → chain < 4098 → slice_index_or heads chain 0 ≡ newest chain (chains_of links) (length links)

abbrev pub index_shown : Inside → Indexed
index_shown i = record { room = i.room; chains = chains_of i.links.items; steps = i.steps.items }

pub record IsLinked (i : Inside) : Type 0 where
  pub linked : AreLinked i.links.items i.heads.items
  pub few : length i.links.items ≤ i.room
  pub small : i.room < 2 ^ 32
  pub links_fit : vec_capacity i.links ≡ i.room
  pub steps_fit : vec_capacity i.steps ≡ i.room / 3
