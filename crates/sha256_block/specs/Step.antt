-- FIPS 180-4, section 6.2.2, steps 2 to 4: the hash value after a block, from the one before it and the block's schedule.
-- The working variables a to h are a list of eight words, and so is a hash value H^(i). Assumes nothing.
use Rattle.std.specs.Prelude.{ℕ, zero, suc, List, [], ◌∷◌, get_or}
use Rattle.sha256_words.specs.Words.{◌⊞◌}
use Rattle.sha256_words.specs.Functions.{Ch, Maj, Σ₀, Σ₁}
use Rattle.sha256_block.specs.Constants.{K}
use Rattle.sha256_block.specs.Schedule.{W}

-- step 2: the working variables, by their places
abbrev pub a : List ℕ → ℕ
a v = get_or v 0 0

abbrev pub b : List ℕ → ℕ
b v = get_or v 1 0

abbrev pub c : List ℕ → ℕ
c v = get_or v 2 0

abbrev pub d : List ℕ → ℕ
d v = get_or v 3 0

abbrev pub e : List ℕ → ℕ
e v = get_or v 4 0

abbrev pub f : List ℕ → ℕ
f v = get_or v 5 0

abbrev pub g : List ℕ → ℕ
g v = get_or v 6 0

abbrev pub h : List ℕ → ℕ
h v = get_or v 7 0

-- step 3: T_1 and T_2 of the round with the constant Kt and the word Wt
unfoldable pub T₁ : ℕ → ℕ → List ℕ → ℕ
T₁ Kt Wt v = h v ⊞ Σ₁ (e v) ⊞ Ch (e v) (f v) (g v) ⊞ Kt ⊞ Wt

unfoldable pub T₂ : List ℕ → ℕ
T₂ v = Σ₀ (a v) ⊞ Maj (a v) (b v) (c v)

-- step 3: one round, h = g, g = f, f = e, e = d + T_1, d = c, c = b, b = a, a = T_1 + T_2
unfoldable pub round : ℕ → ℕ → List ℕ → List ℕ
round Kt Wt v = T₁ Kt Wt v ⊞ T₂ v ∷ a v ∷ b v ∷ c v ∷ d v ⊞ T₁ Kt Wt v ∷ e v ∷ f v ∷ g v ∷ []

-- step 3: the round t, and the rounds 0 to t - 1
unfoldable pub round_at : List ℕ → ℕ → List ℕ → List ℕ
round_at w t v = round (get_or K t 0) (get_or w t 0) v

unfoldable pub rounds : List ℕ → List ℕ → ℕ → List ℕ
rounds w v zero = v
rounds w v (suc t) = round_at w t (rounds w v t)

-- the n rounds from t on; `rounds-from` in proofs/ ties it to `rounds`
unfoldable pub rounds_from : List ℕ → ℕ → ℕ → List ℕ → List ℕ
rounds_from w t zero v = v
rounds_from w t (suc n) v = rounds_from w (suc t) n (round_at w t v)

-- step 4: the working variables added to the hash value
unfoldable pub add_to : List ℕ → List ℕ → List ℕ
add_to H v =
    a v ⊞ a H ∷ b v ⊞ b H ∷ c v ⊞ c H ∷ d v ⊞ d H ∷ e v ⊞ e H ∷ f v ⊞ f H ∷ g v ⊞ g H ∷ h v ⊞ h H ∷ []

-- steps 1 to 4 on one block: H^(i) from H^(i-1) and the block's sixteen words
unfoldable pub next_hash : List ℕ → List ℕ → List ℕ
next_hash H M = add_to H (rounds (W M) H 64)
