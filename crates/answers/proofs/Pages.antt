-- The page of the design that ships: with another summary of 32 bytes it is of its size, holds that summary, has its key, and is made of
-- the two.
-- Assumes nothing.
use mathlib.Core.Path.{◌≡◌, sym, ap₂, ◌∙◌}
use Prim.Native.Nat.{ℕ, ◌+◌, ◌≤◌}
use native.Mathlib.Omega.{arith}
use mathlib.Core.List.{List}
use lib.ListN.{length}
use Rattle.numbers.specs.Parts.{over}
use Rattle.numbers.proofs.Parts.{length_over, part-over, part-behind-over}
use Rattle.records.specs.Page.{hash_size, page_size, page_summary, page_key, page_of}
use Rattle.records.proofs.PageBytes.{page_again}

module _ (page s : List ℕ) (long : length page ≡ page_size) (wide : length s ≡ hash_size) where
  fits : 0 + hash_size ≤ length page
  fits = omega arith

  pub summary_put : page_summary (over 0 s page) ≡ s
  summary_put = part-over 0 hash_size s page wide fits

  pub key_put : page_key (over 0 s page) ≡ page_key page
  key_put = part-behind-over 0 hash_size s page wide fits hash_size hash_size (omega arith)

  pub length_put : length (over 0 s page) ≡ page_size
  length_put = length_over 0 s page (omega arith) ∙ long

  pub page_put : over 0 s page ≡ page_of s (page_key page)
  page_put = sym (page_again (over 0 s page) length_put) ∙ ap₂ page_of summary_put key_put
