-- Laws behind the function proofs. Each stands beside the module that it serves: the laws of src/X.rt are listed in X.antt. Lists has what is about lists alone.
pub mod Lists
