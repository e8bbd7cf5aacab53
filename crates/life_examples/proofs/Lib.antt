mod Answering
mod Example
mod ExampleStrings
mod ExampleLiars
mod ExampleHeld
