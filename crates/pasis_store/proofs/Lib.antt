mod Journals
mod Reseating
