-- What the caller takes from the contract of the search.
pub mod Laws
