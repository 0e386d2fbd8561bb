-- The laws of the rationals: a field, an order, and the whole numbers and powers of two in it; how to prove more of them; and the laws of splines over them.
pub mod Field
pub mod Order
pub mod Embed
pub mod Guide
pub mod Splines
