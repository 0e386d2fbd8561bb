-- What the cart's contract rests on, and cases.
pub mod Laws
pub mod Table
