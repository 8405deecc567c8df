pub mod Choice
pub mod Table
pub mod Pair
pub mod Loop
pub mod Anew
pub mod Tests
pub mod Ranges
