-- What only contracts of functions among themselves need: nobody has to believe it.
pub mod Known
