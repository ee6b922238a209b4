pub mod ExitStatuses
pub mod StatusKinds
