pub mod Forms
pub mod Fitting
pub mod CertFile
pub mod inner
