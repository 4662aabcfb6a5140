-- What the contracts cite: the certificate of an accounting, and the accounting of a certificate.
pub mod Given
pub mod Written
