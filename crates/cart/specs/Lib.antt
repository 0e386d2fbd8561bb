-- What the training cart answers.
pub mod Cart
