pub mod FiledLemmas
pub mod KeptLemmas
pub mod KeyLemmas
pub mod SlotLemmas
pub mod WrittenLemmas
