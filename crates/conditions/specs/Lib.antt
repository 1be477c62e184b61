-- What the code carries, and what it stands for
pub mod Scopes
pub mod Atoms
pub mod Readings
pub mod Leaves
