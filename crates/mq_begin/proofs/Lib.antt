pub mod BeganLaws
