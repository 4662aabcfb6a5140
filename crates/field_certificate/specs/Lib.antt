-- What the contracts cite: the certificate of a field, and its lines and sections as private functions put them.
pub mod FieldCertificate
pub mod Laws
pub mod Private
pub mod ProgramLines
