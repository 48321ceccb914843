-- The command program is the list: Told is what it answers where the map is one ascending list, as bytes, a page that can be read alone; Program has the theorems.
pub mod Told
pub mod Lines
pub mod Agrees
pub mod Program
