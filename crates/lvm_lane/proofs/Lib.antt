mod SoundLemmas
mod StepsLemmas
mod ImageStepsLemmas
