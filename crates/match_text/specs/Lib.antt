pub mod MatchText
