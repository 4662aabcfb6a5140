-- What the contract cites: that the certificate of a field meets the rules.
pub mod Laws
