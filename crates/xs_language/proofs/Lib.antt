pub mod ShapeLemmas
pub mod CutLemmas
pub mod Texts
pub mod ElementLemmas
pub mod WrittenLemmas
pub mod NumberedLemmas
pub mod AutomataLemmas
pub mod LawLemmas
