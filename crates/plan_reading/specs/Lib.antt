pub mod Decoding
pub mod Judging
-- What the code keeps instead
pub mod Steps
