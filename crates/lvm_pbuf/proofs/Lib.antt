pub mod PlacesLemmas
