-- Uniqueness, of the contracts themselves: two outcomes that meet a call's promise on the same arguments are the same outcome, in the
-- answer, the page and the answer buffer. `Post` is what a function's `ensures` says of its arguments, its result and its parameters at
-- exit. Open and repeat are lent the page by `&`: a clause sees it at exit as it was passed, so that what it held at entry is what it
-- holds at exit, and their `ensures` reads it at entry. Assumes nothing.
use mathlib.Core.Path.{◌≡◌, refl, sym, ap, ◌∙◌}
use contract.Lifetimes.{Lfts}
use denote.Triple.Clauses.{Lasts, AtExit, at_exit}
use borrow.Fn.Kinds.{Dens, ended_of, res_t}
use Rattle.keeper.specs.Lent.{Lent}
use Rattle.answers.specs.Answers.{Outcome}
use Rattle.keeper.proofs.Answers.{open_told, perform_told, view_told}
use Rattle.keeper.proofs.«open».Kinds as open-kinds
use Rattle.keeper.proofs.«open».Reads as open-reads
use Rattle.keeper.proofs.perform.Kinds as perform-kinds
use Rattle.keeper.proofs.perform.Reads as perform-reads
use Rattle.keeper.proofs.repeat.Kinds as repeat-kinds
use Rattle.keeper.proofs.repeat.Reads as repeat-reads
use Rattle.keeper.proofs.view.Kinds as view-kinds
use Rattle.keeper.proofs.view.Reads as view-reads
use Rattle.keeper.proofs.resume.Kinds as resume-kinds
use Rattle.keeper.proofs.resume.Reads as resume-reads
use Rattle.keeper.proofs.c.keeper_open.Kinds as keeper-open-kinds
use Rattle.keeper.proofs.c.keeper_open.Reads as keeper-open-reads
use Rattle.keeper.proofs.c.keeper_perform.Kinds as keeper-perform-kinds
use Rattle.keeper.proofs.c.keeper_perform.Reads as keeper-perform-reads
use Rattle.keeper.proofs.c.keeper_repeat.Kinds as keeper-repeat-kinds
use Rattle.keeper.proofs.c.keeper_repeat.Reads as keeper-repeat-reads
use Rattle.keeper.proofs.c.keeper_view.Kinds as keeper-view-kinds
use Rattle.keeper.proofs.c.keeper_view.Reads as keeper-view-reads
use Rattle.keeper.proofs.c.keeper_view_stored.Kinds as keeper-view-stored-kinds
use Rattle.keeper.proofs.c.keeper_view_stored.Reads as keeper-view-stored-reads
use Rattle.keeper.proofs.c.keeper_view_capacity.Kinds as keeper-view-capacity-kinds
use Rattle.keeper.proofs.c.keeper_view_capacity.Reads as keeper-view-capacity-reads
use Rattle.keeper.proofs.c.keeper_view_percent.Kinds as keeper-view-percent-kinds
use Rattle.keeper.proofs.c.keeper_view_percent.Reads as keeper-view-percent-reads
use Rattle.keeper.proofs.c.keeper_view_total.Kinds as keeper-view-total-kinds
use Rattle.keeper.proofs.c.keeper_view_total.Reads as keeper-view-total-reads
use Rattle.keeper.proofs.c.keeper_resume.Kinds as keeper-resume-kinds
use Rattle.keeper.proofs.c.keeper_resume.Reads as keeper-resume-reads

pub open_unique : (κs : Lfts 2) (a : Dens κs open-kinds.ps) (r r' : (res_t open-kinds.r κs).Denot) (s s' : AtExit (ended_of 2 open-kinds.ps open-kinds.r) κs)
    → open-reads.Post κs a r s → open-reads.Post κs a r' s'
    → (r ≡ r') × (s.1.0.now ≡ s'.1.0.now)
open_unique κs a r r' s s' p q = open_told r r' _ s.1.0.now _ s'.1.0.now (p ∙ sym q)

pub perform_unique : (κs : Lfts 4) (a : Dens κs perform-kinds.ps) (r r' : (res_t perform-kinds.r κs).Denot) (s s' : AtExit (ended_of 4 perform-kinds.ps perform-kinds.r) κs)
    → perform-reads.Post κs a r s → perform-reads.Post κs a r' s'
    → (r ≡ r') × ((s.0.now ≡ s'.0.now) × (s.1.1.1.0.now ≡ s'.1.1.1.0.now))
perform_unique κs a r r' s s' p q = perform_told r r' s.0.now s.1.1.1.0.now s'.0.now s'.1.1.1.0.now (p ∙ sym q)

pub repeat_unique : (κs : Lfts 4) (a : Dens κs repeat-kinds.ps) (r r' : (res_t repeat-kinds.r κs).Denot) (s s' : AtExit (ended_of 4 repeat-kinds.ps repeat-kinds.r) κs)
    → repeat-reads.Post κs a r s → repeat-reads.Post κs a r' s'
    → (r ≡ r') × (s.1.1.1.0.now ≡ s'.1.1.1.0.now)
repeat_unique κs a r r' s s' p q = ((perform_told r r' _ s.1.1.1.0.now _ s'.1.1.1.0.now (p ∙ sym q)).0, (perform_told r r' _ s.1.1.1.0.now _ s'.1.1.1.0.now (p ∙ sym q)).1.1)

pub view_unique : (κs : Lfts 2) (a : Dens κs view-kinds.ps) (r r' : (res_t view-kinds.r κs).Denot) (s s' : AtExit (ended_of 2 view-kinds.ps view-kinds.r) κs)
    → view-reads.Post κs a r s → view-reads.Post κs a r' s'
    → r ≡ r'
view_unique κs a r r' s s' p q = view_told r r' (p ∙ sym q)

pub resume_unique : (κs : Lfts 2) (a : Dens κs resume-kinds.ps) (r r' : (res_t resume-kinds.r κs).Denot) (s s' : AtExit (ended_of 2 resume-kinds.ps resume-kinds.r) κs)
    → resume-reads.Post κs a r s → resume-reads.Post κs a r' s'
    → (r.ref_ptr ≡ r'.ref_ptr) × (r.now ≡ r'.now)
resume_unique κs a r r' s s' p q = (ap (λ (l : Lent). l.at) (p ∙ sym q), ap (λ (l : Lent). l.bytes) (p ∙ sym q))

pub keeper_open_unique : (κs : Lfts 2) (a : Dens κs keeper-open-kinds.ps) (r r' : (res_t keeper-open-kinds.r κs).Denot) (s s' : AtExit (ended_of 2 keeper-open-kinds.ps keeper-open-kinds.r) κs)
    → keeper-open-reads.Post κs a r s → keeper-open-reads.Post κs a r' s'
    → (r ≡ r') × (s.1.0.now ≡ s'.1.0.now)
keeper_open_unique κs a r r' s s' p q = (ap (λ (o : Outcome). o.number) (p ∙ sym q), ap (λ (o : Outcome). o.answer) (p ∙ sym q))

pub keeper_perform_unique : (κs : Lfts 4) (a : Dens κs keeper-perform-kinds.ps) (r r' : (res_t keeper-perform-kinds.r κs).Denot) (s s' : AtExit (ended_of 4 keeper-perform-kinds.ps keeper-perform-kinds.r) κs)
    → keeper-perform-reads.Post κs a r s → keeper-perform-reads.Post κs a r' s'
    → (r ≡ r') × ((s.0.now ≡ s'.0.now) × (s.1.1.1.0.now ≡ s'.1.1.1.0.now))
keeper_perform_unique κs a r r' s s' p q = (ap (λ (o : Outcome). o.number) (p ∙ sym q), (ap (λ (o : Outcome). o.page) (p ∙ sym q), ap (λ (o : Outcome). o.answer) (p ∙ sym q)))

pub keeper_repeat_unique : (κs : Lfts 4) (a : Dens κs keeper-repeat-kinds.ps) (r r' : (res_t keeper-repeat-kinds.r κs).Denot) (s s' : AtExit (ended_of 4 keeper-repeat-kinds.ps keeper-repeat-kinds.r) κs)
    → keeper-repeat-reads.Post κs a r s → keeper-repeat-reads.Post κs a r' s'
    → (r ≡ r') × (s.1.1.1.0.now ≡ s'.1.1.1.0.now)
keeper_repeat_unique κs a r r' s s' p q = (ap (λ (o : Outcome). o.number) (p ∙ sym q), ap (λ (o : Outcome). o.answer) (p ∙ sym q))

pub keeper_view_unique : (κs : Lfts 2) (a : Dens κs keeper-view-kinds.ps) (r r' : (res_t keeper-view-kinds.r κs).Denot) (s s' : AtExit (ended_of 2 keeper-view-kinds.ps keeper-view-kinds.r) κs)
    → keeper-view-reads.Post κs a r s → keeper-view-reads.Post κs a r' s'
    → r ≡ r'
keeper_view_unique κs a r r' s s' p q = p ∙ sym q

pub keeper_view_stored_unique : (κs : Lfts 2) (a : Dens κs keeper-view-stored-kinds.ps) (r r' : (res_t keeper-view-stored-kinds.r κs).Denot) (s s' : AtExit (ended_of 2 keeper-view-stored-kinds.ps keeper-view-stored-kinds.r) κs)
    → keeper-view-stored-reads.Post κs a r s → keeper-view-stored-reads.Post κs a r' s'
    → r ≡ r'
keeper_view_stored_unique κs a r r' s s' p q = p ∙ sym q

pub keeper_view_capacity_unique : (κs : Lfts 2) (a : Dens κs keeper-view-capacity-kinds.ps) (r r' : (res_t keeper-view-capacity-kinds.r κs).Denot) (s s' : AtExit (ended_of 2 keeper-view-capacity-kinds.ps keeper-view-capacity-kinds.r) κs)
    → keeper-view-capacity-reads.Post κs a r s → keeper-view-capacity-reads.Post κs a r' s'
    → r ≡ r'
keeper_view_capacity_unique κs a r r' s s' p q = p ∙ sym q

pub keeper_view_percent_unique : (κs : Lfts 2) (a : Dens κs keeper-view-percent-kinds.ps) (r r' : (res_t keeper-view-percent-kinds.r κs).Denot) (s s' : AtExit (ended_of 2 keeper-view-percent-kinds.ps keeper-view-percent-kinds.r) κs)
    → keeper-view-percent-reads.Post κs a r s → keeper-view-percent-reads.Post κs a r' s'
    → r ≡ r'
keeper_view_percent_unique κs a r r' s s' p q = p ∙ sym q

pub keeper_view_total_unique : (κs : Lfts 2) (a : Dens κs keeper-view-total-kinds.ps) (r r' : (res_t keeper-view-total-kinds.r κs).Denot) (s s' : AtExit (ended_of 2 keeper-view-total-kinds.ps keeper-view-total-kinds.r) κs)
    → keeper-view-total-reads.Post κs a r s → keeper-view-total-reads.Post κs a r' s'
    → r ≡ r'
keeper_view_total_unique κs a r r' s s' p q = p ∙ sym q

pub keeper_resume_unique : (κs : Lfts 3) (a : Dens κs keeper-resume-kinds.ps) (r r' : (res_t keeper-resume-kinds.r κs).Denot) (s s' : AtExit (ended_of 3 keeper-resume-kinds.ps keeper-resume-kinds.r) κs)
    → keeper-resume-reads.Post κs a r s → keeper-resume-reads.Post κs a r' s'
    → r ≡ r'
keeper_resume_unique κs a r r' s s' p q = p ∙ sym q

-- ---- the page of open and of repeat at exit, whatever the last values of the other parameters

pub open_page_kept : (κs : Lfts 2) (a : Dens κs open-kinds.ps) (ws : Lasts (ended_of 2 open-kinds.ps open-kinds.r) κs a)
    → (at_exit (ended_of 2 open-kinds.ps open-kinds.r) κs a ws).0.now ≡ a.0.now
open_page_kept κs a ws = refl

pub repeat_page_kept : (κs : Lfts 4) (a : Dens κs repeat-kinds.ps) (ws : Lasts (ended_of 4 repeat-kinds.ps repeat-kinds.r) κs a)
    → (at_exit (ended_of 4 repeat-kinds.ps repeat-kinds.r) κs a ws).0.now ≡ a.0.now
repeat_page_kept κs a ws = refl

pub keeper_open_page_kept : (κs : Lfts 2) (a : Dens κs keeper-open-kinds.ps) (ws : Lasts (ended_of 2 keeper-open-kinds.ps keeper-open-kinds.r) κs a)
    → (at_exit (ended_of 2 keeper-open-kinds.ps keeper-open-kinds.r) κs a ws).0.now ≡ a.0.now
keeper_open_page_kept κs a ws = refl

pub keeper_repeat_page_kept : (κs : Lfts 4) (a : Dens κs keeper-repeat-kinds.ps) (ws : Lasts (ended_of 4 keeper-repeat-kinds.ps keeper-repeat-kinds.r) κs a)
    → (at_exit (ended_of 4 keeper-repeat-kinds.ps keeper-repeat-kinds.r) κs a ws).0.now ≡ a.0.now
keeper_repeat_page_kept κs a ws = refl
