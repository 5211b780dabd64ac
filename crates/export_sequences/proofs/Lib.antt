pub mod Chain
pub mod Runs
pub mod Singles
pub mod Queues
pub mod Reread
pub mod Tables
pub mod Agreement
pub mod Books
