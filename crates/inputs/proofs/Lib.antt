-- The laws of what `Hex` prints. They serve this crate alone.
mod HexLaws
