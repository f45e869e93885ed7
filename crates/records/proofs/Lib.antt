-- What is written reads back as what was written, and writing what was read gives the same bytes: of pages and of records, for
-- every form.
pub mod FormLaws
pub mod Headers
pub mod PageBytes
pub mod RecordBytes
pub mod TestCases
pub mod ThisEdition
