-- The invariant of a run, in two parts. Of the page, without any premise: it is of its size and stands at the end of the path of the
-- requests that moved it. Of what was answered, under the premises: each binding is of the end of a path and of the state that the path
-- gives. The idea: an answer goes on from an origin that rests on a path, along a row that is put onto that path. Assumes nothing.
use mathlib.Core.Path.{◌≡◌, refl, sym, ap, ◌∙◌}
use mathlib.Core.Bool.{true}
use mathlib.Core.Logic.{⊎_elim}
use Prim.Native.Nat.{ℕ}
use mathlib.Core.List.Memᴰ
use mathlib.Core.List.{List, [], ◌∷◌, ◌++◌, Memᴰ}
use Rattle.std.specs.Prelude.{Ok}
use Rattle.bindings.specs.Hashed.{summary_message}
use Rattle.answers.specs.Design.{Design, Served}
use Rattle.answers.specs.Hashing.{next_summary, bound_message, binding_of, binding_in}
use Rattle.answers.specs.Rows.{served_along, summary_along, Origin, origin_summary, origin_state}
use Rattle.histories.specs.Did.{Did, record_messages}
use Rattle.histories.specs.Runs.{Run, call_of, Fresh, page_after_step, moved_by, page_after, done_by, in_run, answered_before, moved_before}
use Rattle.histories.specs.Laws.{Laws}
use Rattle.histories.specs.Premises.{Apart, Unforged}
use Rattle.histories.proofs.Paths.{Within, end_of, Walked, length_end, onto, end_onto, walked_onto, given, given_onto, one_path, one_state}
use Rattle.histories.proofs.Steps.{each_before}
use Rattle.histories.proofs.Inversions.{Based, OriginBased, Answered, Moved, stays, moves, deed, moved_step}

-- the messages that the argument needs of a run
abbrev pub needed_in : Design → List ℕ → Run → List (List ℕ)
needed_in D fresh run = in_run (λ d. d.needed) D fresh run

-- ---- the page

pub record Standing (D : Design) (messages : List (List ℕ)) (page : List ℕ) (requests : List (List ℕ)) : Type 0 where
  pub right : D.right_page page ≡ true
  pub ends : D.page_summary page ≡ end_of D requests
  pub walked : Walked D messages requests

stands_moved : (D : Design) → Laws D → (messages : List (List ℕ)) (page : List ℕ) (requests : List (List ℕ)) (d : Did) (after : List ℕ) (moved : List (List ℕ))
    → Standing D messages page requests → Within d.needed messages → Moved D page d after moved → Standing D messages after (moved ++ requests)
stands_moved D laws messages page requests d after moved now hashed (stays same none) = rw (same, none) now
stands_moved D laws messages page requests d after moved now hashed (moves l request state t led is one) =
    let next = next_summary D (D.summary l) request in
    let long = laws.length-hash (summary_message (D.summary l) request) in
    let here : D.summary l ≡ end_of D requests = t.fits.current ∙ now.ends in
    rw (is, one) (record {
      right = laws.right_page_lem page next now.right long;
      ends = laws.page_summary_lem page next now.right long ∙ ap (λ (x : List ℕ). next_summary D x request) here;
      walked = (rw here at (hashed _ (led.chain _ (Memᴰ.head refl))), now.walked);
    })

pub stands_after : (D : Design) → Laws D → (fresh : List ℕ) → Fresh D fresh → (messages : List (List ℕ)) (run : Run) → Within (needed_in D fresh run) messages
    → Standing D messages (page_after D fresh run) (moved_before D fresh run)
stands_after D laws fresh f messages [] hashed = record { right = f.right; ends = f.zero; walked = tt }
stands_after D laws fresh f messages (s ∷ older) hashed =
    let page = page_after D fresh older in
    let d = done_by D fresh older s in
    stands_moved D laws messages page (moved_before D fresh older) d (page_after_step D page s) (moved_by D page s)
    (stands_after D laws fresh f messages older (λ x m. hashed x (Memᴰ.append_right d.needed m)))
    (λ x m. hashed x (Memᴰ.append_left _ m)) (moved_step D page s)

-- ---- what was answered

-- a binding is of the end of a path, and of the state that the path gives, and all its messages are among `messages`
pub record Bound (D : Design) (messages : List (List ℕ)) (bound : List ℕ) : Type 0 where
  pub path : List (List ℕ)
  pub state : List ℕ
  pub binds : bound ≡ binding_of D (end_of D path) state
  pub walked : Walked D messages path
  pub gives : given D path ≡ Served.carried state
  pub states : Memᴰ (D.state_message state) messages
  pub bounds : Memᴰ (bound_message D (end_of D path) state) messages

abbrev pub Tree : Design → List (List ℕ) → List (List ℕ) → Type 0
Tree D messages bindings = (bound : List ℕ) → Memᴰ bound bindings → Bound D messages bound

-- a summary and a state are those of a path
pub record Rests (D : Design) (messages : List (List ℕ)) (summary state : List ℕ) : Type 0 where
  pub path : List (List ℕ)
  pub ends : summary ≡ end_of D path
  pub walked : Walked D messages path
  pub gives : given D path ≡ Served.carried state

module _ (D : Design) (laws : Laws D) (messages : List (List ℕ)) (clear : Apart D messages) where
  -- those of a record whose binding was answered
  pub rests_on : (bindings : List (List ℕ)) → Tree D messages bindings → (l : List ℕ) → D.tested l ≡ Ok tt
      → Memᴰ (binding_in D l) bindings → Within (record_messages D l) messages → Rests D messages (D.summary l) (D.state_bytes l)
  rests_on bindings tree l tests answered hashed =
      let t = tree (binding_in D l) answered in
      let one = one_state D laws messages clear (D.summary l) (end_of D t.path) (D.state_bytes l) t.state (laws.length_summary l tests) (length_end D laws t.path)
      (hashed _ (Memᴰ.head refl)) (hashed _ (Memᴰ.tail (Memᴰ.head refl))) t.states t.bounds t.binds in
      record { path = t.path; ends = one.0; walked = t.walked; gives = t.gives ∙ ap Served.carried (sym one.1) }

  -- if the summary is the page's, the path is that of the requests that moved the page
  pub rests_here : (page : List ℕ) (requests : List (List ℕ)) → Standing D messages page requests → (l : List ℕ)
      → Rests D messages (D.summary l) (D.state_bytes l) → D.summary l ≡ D.page_summary page → given D requests ≡ Served.carried (D.state_bytes l)
  rests_here page requests now l r current =
      let here = one_path D laws messages clear r.path requests r.walked now.walked (sym r.ends ∙ current ∙ now.ends) in
      rw here at r.gives

  -- ---- one call, whose messages are among `messages` and whose findings were answered

  module _ (bindings : List (List ℕ)) (tree : Tree D messages bindings) (d : Did) (hashed : Within d.needed messages)
      (answered_before : (l : List ℕ) → Memᴰ l d.relied → Memᴰ (binding_in D l) bindings) where
    pub rests : (l : List ℕ) → Based D d l → Rests D messages (D.summary l) (D.state_bytes l)
    rests l b = rests_on bindings tree l b.tests (answered_before l b.relies) (λ x m. hashed x (b.needs x m))

    origin_rests : (o : Origin) → OriginBased D d o → Rests D messages (origin_summary D o) (origin_state D o)
    origin_rests Origin.start b = record { path = []; ends = refl; walked = tt; gives = refl }
    origin_rests (Origin.from l) b = rests l b

    -- what the call answers binds the end of the path that its row is put onto
    grows : (bound : List ℕ) → Answered D d bound → Bound D messages bound
    grows bound a =
        let o = a.origin in
        let r = origin_rests o a.led.based in
        let ends : summary_along D (origin_summary D o) a.row ≡ end_of D (onto r.path a.row) =
        ap (λ (s : List ℕ). summary_along D s a.row) r.ends ∙ end_onto D r.path a.row in
        record {
          path = onto r.path a.row;
          state = a.state;
          binds = a.binds ∙ ap (λ (s : List ℕ). binding_of D s a.state) ends;
          walked = walked_onto D messages r.path a.row r.walked (λ x m. hashed x (a.led.chain x (rw r.ends m)));
          gives = sym (given_onto D r.path a.row) ∙ ap (λ (v : Served). served_along D v a.row) r.gives ∙ a.led.serves;
          states = hashed _ a.led.states;
          bounds = rw ends at (hashed _ a.led.bounds);
        }

  -- ---- a run

  pub tree_after : (fresh : List ℕ) (run : Run) → Within (needed_in D fresh run) messages → Unforged (λ d. d.relied) D fresh run
      → Tree D messages (answered_before D fresh run)
  tree_after fresh [] hashed unforged bound m = absurd (Memᴰ.not-nil m)
  tree_after fresh (s ∷ older) hashed unforged bound m =
      let d = done_by D fresh older s in
      let tree = tree_after fresh older (λ x m. hashed x (Memᴰ.append_right d.needed m)) (each_before _ (s ∷ []) older unforged) in
      ⊎_elim
      (λ (new : Memᴰ bound d.answered).
      grows (answered_before D fresh older) tree d (λ x m. hashed x (Memᴰ.append_left _ m)) (unforged [] older s refl) bound
      ((deed D (page_after D fresh older) (call_of s)).answereds bound new))
      (tree bound) (Memᴰ.append_cases d.answered m)
