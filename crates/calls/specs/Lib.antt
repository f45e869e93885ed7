-- What the answers of perform and repeat say, and what a request leads to.
pub mod Told
pub mod Next
