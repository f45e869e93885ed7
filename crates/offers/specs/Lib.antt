-- The tests of what is offered to a call.
pub mod Offers
