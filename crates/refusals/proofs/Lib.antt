-- That an answer is determined by what it says in the table's numbers.
pub mod Unique
