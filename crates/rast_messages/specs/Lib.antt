pub mod Messages
pub mod Params
pub mod Places
pub mod Replies
