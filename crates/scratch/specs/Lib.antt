pub mod Scratch
