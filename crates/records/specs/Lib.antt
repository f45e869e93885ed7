-- Document 01's page and record: their forms and bytes, the tests 3, 4 and 5 of a record, and this edition's numbers.
pub mod Form
pub mod Page
pub mod Record
pub mod Tests
pub mod Edition
