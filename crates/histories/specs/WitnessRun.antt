-- The run of `Witness` as a whole: the pages along it, the requests that moved the page, and the third condition computed of each record
-- that it took. Assumes nothing.
use Rattle.std.specs.Prelude.{◌≡◌, refl, ℕ, List, [], ◌∷◌, ◌++◌}
use Rattle.answers.specs.Design.{Served}
use Rattle.answers.specs.Rows.{replayed}
use Rattle.histories.specs.Calls.{opens}
use Rattle.histories.specs.Runs.{whole, cut_before, cut_after, Run, page_after, done_by, answered_before}
use Rattle.histories.specs.Statements.{requests_before}
use Rattle.histories.specs.Toy.{toy, bound, a, b, c, d, summary_0, state_0, state_a, state_ac, state_acd, state_acdb, fresh, page_a, page_ac, page_acd, page_acdb, room, computing}
use Rattle.histories.specs.Witness.{run}

-- the page after each step, the newest first
abbrev pages : Run → List (List ℕ)
pages [] = []
pages (s ∷ older) = page_after toy fresh (s ∷ older) ∷ pages older

pub pages_are : pages run ≡
    -- 31 to 29
    page_acdb ∷ page_acdb ∷ page_acdb
    -- 28 to 10
    ∷ page_acd ∷ page_acd ∷ page_acd ∷ page_acd ∷ page_acd ∷ page_acd ∷ page_acd ∷ page_acd ∷ page_acd ∷ page_acd ∷ page_acd ∷ page_acd ∷ page_acd ∷ page_acd ∷ page_acd ∷ page_acd ∷ page_acd ∷ page_acd ∷ page_acd
    -- 9 to 7
    ∷ page_ac ∷ page_ac ∷ page_ac
    -- 6 to 3
    ∷ page_a ∷ page_a ∷ page_a ∷ page_a
    -- 2 to 1
    ∷ fresh ∷ fresh
    ∷ []
unfolding computing
pages_are = refl

-- what a cut call answered counts, and the requests that moved the page are in order
pub cuts_count : answered_before toy fresh (cut_after (opens room) ∷ cut_before (opens room) ∷ whole (opens room) ∷ [])
    ≡ bound summary_0 state_0 ∷ bound summary_0 state_0 ∷ bound summary_0 state_0 ∷ []
unfolding computing
cuts_count = refl

pub requests_are : requests_before toy fresh run ≡ a ∷ c ∷ d ∷ b ∷ []
unfolding computing
requests_are = refl

-- ---- the third condition, of each record taken

-- the requests that had moved the page when a record was taken, what they give, and what the record holds
pub record Held : Type 0 where
  pub requests : List (List ℕ)
  pub gives : Served
  pub holds : List ℕ

abbrev held_by : List (List ℕ) → List (List ℕ) → List Held
held_by requests [] = []
held_by requests (l ∷ ls) = record { requests = requests; gives = replayed toy requests; holds = toy.state_bytes l } ∷ held_by requests ls

abbrev held : Run → List Held
held [] = []
held (s ∷ older) = held_by (requests_before toy fresh older) (done_by toy fresh older s).taken ++ held older

-- the requests give what the record holds
abbrev agree : List (List ℕ) → List ℕ → Held
agree requests state = record { requests = requests; gives = Served.carried state; holds = state }

pub held_are : held run ≡
    -- 31
    agree (a ∷ c ∷ d ∷ b ∷ []) state_acdb
    -- 30
    ∷ agree (a ∷ c ∷ d ∷ b ∷ []) state_acdb
    -- 29
    ∷ agree (a ∷ c ∷ d ∷ []) state_acd
    -- 27
    ∷ agree (a ∷ c ∷ d ∷ []) state_acd
    -- 26
    ∷ agree (a ∷ c ∷ d ∷ []) state_acd
    -- 21
    ∷ agree (a ∷ c ∷ d ∷ []) state_acd
    -- 14
    ∷ agree (a ∷ c ∷ d ∷ []) state_acd
    -- 13
    ∷ agree (a ∷ c ∷ d ∷ []) state_acd
    -- 12
    ∷ agree (a ∷ c ∷ d ∷ []) state_acd
    -- 11
    ∷ agree (a ∷ c ∷ d ∷ []) state_acd
    -- 10
    ∷ agree (a ∷ c ∷ []) state_ac
    -- 7
    ∷ agree (a ∷ []) state_a
    -- 5
    ∷ agree (a ∷ []) state_a
    -- 4
    ∷ agree (a ∷ []) state_a
    -- 3
    ∷ agree [] state_0
    ∷ []
unfolding computing
held_are = refl
