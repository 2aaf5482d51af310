pub mod Leads
pub mod Slashes
pub mod Before
pub mod Cut
