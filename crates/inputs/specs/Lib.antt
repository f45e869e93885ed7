-- What the contracts cite: bytes as text, and a part of an item. `vectors` cites them too.
pub mod HexText
pub mod Part
