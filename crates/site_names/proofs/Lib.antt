pub mod FirstNamed
