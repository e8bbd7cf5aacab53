pub mod Parcels
pub mod Sides
