-- The duty computed on a short run: a perform is cut, each of the other calls follows, whole and cut both ways, and then both retries. And
-- again with performs since that moved nothing: refused ones, and another that was cut with the page of before. Assumes nothing.
use Rattle.std.specs.Prelude.{◌≡◌, refl, ℕ, List, [], ◌∷◌, ◌++◌}
use Rattle.answers.specs.Answers.{refusal, Performed, performed, repeated}
use Rattle.histories.specs.Calls.{opens, performs, repeats, views, resumes}
use Rattle.histories.specs.Runs.{whole, cut_before, cut_after, Run, page_after, moved_before}
use Rattle.histories.specs.Toy.{toy, a, b, c, e, summary_ab, key, fresh, page_a, room, record_0, record_a, record_ab, record_forged, computing}

-- before the cut call: the capacity is set; the call charges 60
abbrev pub older : Run
older = whole (performs record_0 a room) ∷ whole (opens room) ∷ []

abbrev pub page_ab : List ℕ
page_ab = summary_ab ++ key

-- each of the other calls, whole and cut both ways; the repeat is accepted with the page of before
abbrev pub others : Run
others =
    whole (opens room) ∷ cut_before (opens room) ∷ cut_after (opens room)
    ∷ whole (repeats record_0 a room) ∷ cut_before (repeats record_0 a room) ∷ cut_after (repeats record_0 a room)
    ∷ whole (views record_a 0) ∷ cut_before (views record_a 0) ∷ cut_after (views record_a 0)
    ∷ whole (resumes record_a record_0) ∷ cut_before (resumes record_a record_0) ∷ cut_after (resumes record_a record_0)
    ∷ []

-- performs that move nothing: refused with 9 and with 7, and accepted but cut with the page of before
abbrev pub unmoving : Run
unmoving = whole (performs record_a e room) ∷ cut_after (performs record_forged b room) ∷ cut_before (performs record_a c room) ∷ []

-- the page after some steps since the cut, which left the page of before, or of after
abbrev since_before : Run → List ℕ
since_before since = page_after toy fresh (since ++ cut_before (performs record_a b room) ∷ older)

abbrev since_after : Run → List ℕ
since_after since = page_after toy fresh (since ++ cut_after (performs record_a b room) ∷ older)

-- the answer of the uncut call
abbrev uncut : Performed
uncut = record { number = 0; stored = 60; page = page_ab; answer = record_ab }

pub uncut_is : performed toy page_a record_a b room ≡ uncut
unfolding computing
uncut_is = refl

-- the retries
pub after_others :
    (performed toy (since_before others) record_a b room ≡ uncut)
    × (repeated toy (since_before others) record_a b room ≡ refusal 8 page_a room)
    × (repeated toy (since_after others) record_a b room ≡ uncut)
    × (performed toy (since_after others) record_a b room ≡ refusal 8 page_ab room)
unfolding computing
after_others = (refl, refl, refl, refl)

pub after_unmoving :
    (performed toy (since_before unmoving) record_a b room ≡ uncut)
    × (repeated toy (since_before unmoving) record_a b room ≡ refusal 8 page_a room)
    × (repeated toy (since_after unmoving) record_a b room ≡ uncut)
    × (performed toy (since_after unmoving) record_a b room ≡ refusal 8 page_ab room)
unfolding computing
after_unmoving = (refl, refl, refl, refl)

-- these steps moved nothing
pub unmoving-moves-nothing :
    (moved_before toy fresh (unmoving ++ cut_before (performs record_a b room) ∷ older) ≡ a ∷ [])
    × (moved_before toy fresh (unmoving ++ cut_after (performs record_a b room) ∷ older) ≡ b ∷ a ∷ [])
unfolding computing
unmoving-moves-nothing = (refl, refl)
