pub mod Choices
