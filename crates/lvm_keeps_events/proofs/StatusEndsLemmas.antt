pub mod Finishing
pub mod NoteFail
pub mod StatusEnd
pub mod EndsFall
