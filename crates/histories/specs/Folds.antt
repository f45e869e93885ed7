-- Lists of steps, the newest first, and what they come to: the state after them, what each of them did, and what holds at each. Of any
-- kind of state and step. Assumes nothing.
use Rattle.std.specs.Prelude.{◌≡◌, List, [], ◌∷◌, ◌++◌}

-- the state after steps that began with `fresh`
abbrev pub state_after : {S T : Type 0} → (S → T → S) → S → List T → S
state_after step fresh [] = fresh
state_after step fresh (s ∷ older) = step (state_after step fresh older) s

-- what the steps did, the newest first, if each did so much after those before it
abbrev pub gathered : {T A : Type 0} → (List T → T → List A) → List T → List A
gathered did [] = []
gathered did (s ∷ older) = did older s ++ gathered did older

-- something holds of each step and those before it
abbrev pub AtEach : {T : Type 0} → (List T → T → Type 0) → List T → Type 0
AtEach holds run = (newer older : List _) (s : _) → run ≡ newer ++ s ∷ older → holds older s
