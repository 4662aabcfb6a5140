-- What the contracts cite: the report of a field.
pub mod FieldText
