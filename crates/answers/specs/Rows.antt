-- A row of requests, in order: the summary that it leads to from a summary, the messages hashed on the way, and what the service makes of
-- it; and where a row starts. Open answers from the start along no request, perform and repeat from a record along one. Assumes nothing.
use Rattle.std.specs.Prelude.{ℕ, List, [], ◌∷◌}
use Rattle.records.specs.Page.{zero_summary}
use Rattle.bindings.specs.Hashed.{summary_message}
use Rattle.answers.specs.Design.{Design, Served}
use Rattle.answers.specs.Hashing.{next_summary}

-- ---- along a row

abbrev pub summary_along : Design → List ℕ → List (List ℕ) → List ℕ
summary_along D summary [] = summary
summary_along D summary (request ∷ row) = summary_along D (next_summary D summary request) row

abbrev pub messages_along : Design → List ℕ → List (List ℕ) → List (List ℕ)
messages_along D summary [] = []
messages_along D summary (request ∷ row) = summary_message summary request ∷ messages_along D (next_summary D summary request) row

-- one request more; what is barred stays barred
abbrev pub then_served : Design → List ℕ → Served → Served
then_served D request (Served.carried state) = D.served state request
then_served D request (Served.barred r) = Served.barred r

abbrev pub served_along : Design → Served → List (List ℕ) → Served
served_along D served [] = served
served_along D served (request ∷ row) = served_along D (then_served D request served) row

-- what the service gives for requests, in order, from the first state
abbrev pub replayed : Design → List (List ℕ) → Served
replayed D requests = served_along D (Served.carried D.first_bytes) requests

-- ---- where a row starts: at the first state with summary zero, or at a record

pub data Origin : Type 0 where
  start : Origin
  from : List ℕ → Origin

abbrev pub origin_summary : Design → Origin → List ℕ
origin_summary D Origin.start = zero_summary
origin_summary D (Origin.from l) = D.summary l

abbrev pub origin_state : Design → Origin → List ℕ
origin_state D Origin.start = D.first_bytes
origin_state D (Origin.from l) = D.state_bytes l
