-- What holds at each step of a list of steps, and what they did, taken apart: one step more, and those before a moment. Of any kind of
-- step. Assumes nothing.
use mathlib.Core.Path.{◌≡◌, sym, ap, ◌∙◌}
use mathlib.Core.List.Memᴰ
use mathlib.Core.List.{List, [], ◌∷◌, ◌++◌, append_assoc, nil≢cons, Memᴰ}
use Rattle.histories.specs.Folds.{gathered, AtEach}

module _ {T : Type 0} (holds : List T → T → Type 0) where
  -- of those before a moment
  pub each_before : (newer older : List T) → AtEach holds (newer ++ older) → AtEach holds older
  each_before newer older all newest past t e =
      all (newer ++ newest) past t (ap (λ (x : List T). newer ++ x) e ∙ sym (append_assoc newer newest (t ∷ past)))

  -- of none, and of one step more
  pub each_none : AtEach holds []
  each_none [] past t e = absurd (nil≢cons e)
  each_none (x ∷ newer) past t e = absurd (nil≢cons e)

  pub each_more : (s : T) (older : List T) → holds older s → AtEach holds older → AtEach holds (s ∷ older)
  each_more s older now all [] past t e =
      let one : s ≡ t = cc in
      let rest : older ≡ past = cc in
      rw (one, rest) at now
  each_more s older now all (x ∷ newer) past t e = all newer past t cc

-- what holds at each step implies what follows from it
pub each_implies : {T : Type 0} (a b : List T → T → Type 0) (run : List T) → ((older : List T) (s : T) → a older s → b older s) → AtEach a run → AtEach b run
each_implies a b run follows all newer older s e = follows older s (all newer older s e)

module _ {T A : Type 0} (did : List T → T → List A) where
  -- longer lists of steps did no less
  pub gathered-before : (newer older : List T) (x : A) → Memᴰ x (gathered did older) → Memᴰ x (gathered did (newer ++ older))
  gathered-before [] older x m = m
  gathered-before (s ∷ newer) older x m = Memᴰ.append_right (did (newer ++ older) s) (gathered-before newer older x m)

  -- nor did those that have a step among them do less than that step
  pub gathered-at : (newer older : List T) (s : T) (x : A) → Memᴰ x (did older s) → Memᴰ x (gathered did (newer ++ s ∷ older))
  gathered-at newer older s x m = gathered-before newer (s ∷ older) x (Memᴰ.append_left _ m)
