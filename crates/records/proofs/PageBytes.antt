-- A page reads back as what was written, is what its fields make, and is bytes where they are. Assumes nothing.
use mathlib.Core.Path.{◌≡◌, ap, ap₂, ◌∙◌}
use Prim.Native.Nat.{ℕ}
use native.Mathlib.Omega.{arith}
use mathlib.Core.List.{List, [], ◌∷◌, map}
use lib.ListN.{length, get_or}
use Rattle.numbers.specs.Numbers.{Bytes}
use Rattle.numbers.specs.Parts.{size, cut_at, join}
use Rattle.numbers.proofs.Forms.{part-whole, bytes-join}
use Rattle.numbers.proofs.Layouts.{length-join, join-cut_at, cut_at-join}
use Rattle.records.specs.Page.{hash_size, page_widths, page_size, page_summary, page_key, page_of}

-- parts of the widths ws, joined, cut into the parts again
pub cut_joined : (ws : List ℕ) (ps : List (List ℕ)) → map length ps ≡ ws → cut_at 0 ws (join ps) ≡ ps
cut_joined ws ps widths = cut_at-join 0 ws (join ps) ps widths (part-whole (size ws) (join ps) (length-join ps ∙ ap size widths))

module _ (summary key : List ℕ) (s : length summary ≡ hash_size) (k : length key ≡ hash_size) where
  page_fields : cut_at 0 page_widths (page_of summary key) ≡ summary ∷ key ∷ []
  unfolding page_of
  page_fields = cut_joined page_widths (summary ∷ key ∷ []) (ap₂ {C = List ℕ} (λ a b. a ∷ b ∷ []) s k)

  pub page_summary_lem : page_summary (page_of summary key) ≡ summary
  page_summary_lem = ap (λ (fs : List (List ℕ)). get_or fs 0 []) page_fields

  pub page_key_lem : page_key (page_of summary key) ≡ key
  page_key_lem = ap (λ (fs : List (List ℕ)). get_or fs 1 []) page_fields

  pub length_page : length (page_of summary key) ≡ page_size
  unfolding page_of
  length_page = length-join (summary ∷ key ∷ []) ∙ omega arith

pub bytes_page : (summary key : List ℕ) → Bytes summary → Bytes key → Bytes (page_of summary key)
unfolding page_of
bytes_page summary key s k = bytes-join (summary ∷ key ∷ []) (s, (k, tt))

-- writing what was read
pub page_again : (p : List ℕ) → length p ≡ page_size → page_of (page_summary p) (page_key p) ≡ p
unfolding page_of
page_again p long = join-cut_at 0 page_widths p ∙ part-whole page_size p long
