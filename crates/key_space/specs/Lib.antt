pub mod Decimals
pub mod Guids
pub mod HexTexts
pub mod Printing
pub mod Texts
pub mod Values
