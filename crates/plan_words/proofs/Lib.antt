pub mod lemmas
mod FormCauses
mod Words
