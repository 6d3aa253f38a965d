-- What only the contracts of functions among themselves need: nobody has to believe it.
pub mod Headed
