pub mod Sections
pub mod RulesTables
pub mod Texts
pub mod Faults
pub mod from_scn_grammar
pub mod from_scn_parts
