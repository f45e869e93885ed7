-- What the answers are like: what equal hashes say, what an accepted call says of its tests, what is written and that it reads back and
-- is current, that repeat writes what perform would, that a refusal changes nothing and no call the key, accepted calls for every key,
-- and the versions that the contracts turn away.
pub mod Apart
pub mod Refusals
pub mod Tests
pub mod Accepted
pub mod Pages
pub mod States
pub mod Records
pub mod Fronts
pub mod ReadsBack
pub mod Standing
pub mod Repeats
pub mod Keys
pub mod ThisEdition
pub mod Witnesses
pub mod Buffers
pub mod AcceptedCalls
pub mod AcceptedLooks
pub mod Telling
pub mod Strength
