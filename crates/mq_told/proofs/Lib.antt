pub mod ToldLaws
