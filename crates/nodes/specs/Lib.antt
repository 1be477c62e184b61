-- In reading order. Document 01, "The question".
pub mod Kinds
pub mod Nodes
pub mod References
-- What the code keeps instead
pub mod Marks
