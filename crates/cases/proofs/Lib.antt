-- Cases of the search by computation.
pub mod Table
