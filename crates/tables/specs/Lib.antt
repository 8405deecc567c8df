pub mod Table
pub mod Pair
pub mod Loop
pub mod Tests
