pub mod DrawLemmas
pub mod SoundLemmas
