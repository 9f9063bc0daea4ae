pub mod DescriptorLaws
pub mod HeadLaws
pub mod LayoutLaws
pub mod TableLaws
pub mod from_base
