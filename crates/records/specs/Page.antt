-- Document 01, 'Layouts': the page, the 64 bytes of protected memory: summary 32, key 32; no length, no version.
-- Assumes nothing.
use Rattle.std.specs.Prelude.{ℕ, List, [], ◌∷◌, get_or, replicate}
use Rattle.numbers.specs.Parts.{size, cut_at, join}

-- a hash, a summary and an authenticator take 32 bytes each
abbrev pub hash_size : ℕ
hash_size = 32

-- the widths of a page's fields: summary, key
abbrev pub page_widths : List ℕ
page_widths = hash_size ∷ hash_size ∷ []

-- how many bytes a page takes
abbrev pub page_size : ℕ
page_size = size page_widths

-- the summary and the key of a page
abbrev pub page_summary : List ℕ → List ℕ
page_summary p = get_or (cut_at 0 page_widths p) 0 []

abbrev pub page_key : List ℕ → List ℕ
page_key p = get_or (cut_at 0 page_widths p) 1 []

-- a page from its fields
unfoldable pub page_of : List ℕ → List ℕ → List ℕ
page_of summary key = join (summary ∷ key ∷ [])

-- a fresh page's summary: 32 zero bytes
unfoldable pub zero_summary : List ℕ
zero_summary = replicate hash_size 0
