pub mod HeaderLemmas
pub mod FrontLemmas
pub mod StreamLemmas
pub mod WrittenLemmas
