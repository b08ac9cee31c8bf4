pub mod Members
pub mod Candidates
pub mod MeaningLaws
pub mod MeaningLawsSubqueries
pub mod MeaningLawsDistinct
pub mod MeaningLawsRows
