pub mod Lists
pub mod Noted
pub mod Lending
pub mod Refused
