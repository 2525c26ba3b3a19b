pub mod Subjects
pub mod Marked
