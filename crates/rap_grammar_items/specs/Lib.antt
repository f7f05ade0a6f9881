pub mod ItemEnds
