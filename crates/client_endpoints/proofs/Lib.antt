pub mod lemmas
mod Lists
mod Turns
mod Telling
mod EndpointSteps
