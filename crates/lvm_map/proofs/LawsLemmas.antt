pub mod NewPlaces
pub mod OneToOne
