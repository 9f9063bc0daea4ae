pub mod ScanLaws
