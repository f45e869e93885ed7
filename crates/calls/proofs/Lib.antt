-- What perform and repeat do: carrying a request out, the writing, and what they answer by their tests.
mod CarryingOut
mod Writing
mod Answering
