pub mod MomentsText
pub mod FilledText
