pub mod TreeLemmas
pub mod CutLemmas
pub mod PartLemmas
pub mod PathLemmas
pub mod LayLemmas
