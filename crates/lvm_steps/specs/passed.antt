pub mod Vol
