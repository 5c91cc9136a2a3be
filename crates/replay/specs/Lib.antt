pub mod Kind
pub mod Text
pub mod Lists
