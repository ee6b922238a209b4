mod CompareLemmas
mod FillLemmas
mod FoundLemmas
mod IdentifyLemmas
mod Listed
mod OneReport
mod StandardLemmas
