-- What both searches of the library hand out.
pub mod Laws
