-- What the contracts cite: how wide rows and boxes of the field are, and the bound on what is printed of them.
pub mod Bound
pub mod Laws
