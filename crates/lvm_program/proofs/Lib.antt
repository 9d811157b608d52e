mod StreamLemmas
mod ProgramLemmas
mod WovenLemmas
mod LoadedLemmas
mod SimLemmas
mod HeedingLemmas
mod LandingLemmas
mod WorkedLemmas
