-- What lemmas and checks cite.
pub mod Named
