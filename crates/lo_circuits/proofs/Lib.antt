pub mod Chained
pub mod WalkLemmas
pub mod RuleLemmas
pub mod StepLemmas
pub mod PartLemmas
pub mod FormedLemmas
pub mod LawLemmas
pub mod CodeLemmas
