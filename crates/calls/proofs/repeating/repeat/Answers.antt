-- `repeat` meets its contract: each test in its place, and past them all what was written. Assumes nothing.
use mathlib.Core.Path.{refl}
use Rattle.std.proofs.lemmas.Result.{err_from_is_err_and}
use Rattle.calls.proofs.Answering.{repeats, forged, stale, barred, done, follows}
use Rattle.calls.proofs.repeating.repeat.Goals as goal

pub returns-then-not-valid : goal.returns-then-not-valid
returns-then-not-valid c =
    let h = c.in_ok-held in
    let call = repeats h.held h.offer h.ensures.of_page h.ensures.of_record h.ensures.of_request h.ensures.tests in
    forged call c.prepared-key.ensures c.valid.ensures c.if-not-valid.true

pub returns-then-not-leads_to : goal.returns-then-not-leads_to
returns-then-not-leads_to c =
    let h = c.in_ok-held in
    let call = repeats h.held h.offer h.ensures.of_page h.ensures.of_record h.ensures.of_request h.ensures.tests in
    stale call c.prepared-key.ensures c.valid.ensures c.if-not-valid.false c.leads_to.ensures c.if-not-leads_to.true

pub returns-in_err-judge_offer : goal.returns-in_err-judge_offer
returns-in_err-judge_offer c =
    let h = c.in_ok-held in
    let call = repeats h.held h.offer h.ensures.of_page h.ensures.of_record h.ensures.of_request h.ensures.tests in
    let e = err_from_is_err_and c.from_residual-in_err-judge_offer.result c.from_residual-in_err-judge_offer.ensures.1 in
    rw (e.1, e.2)
    (barred call c.prepared-key.ensures c.valid.ensures c.if-not-valid.false c.leads_to.ensures c.if-not-leads_to.false
    c.judge_offer.ensures _ c.in_err-judge_offer.was)

pub returns : goal.returns
returns c =
    let h = c.in_ok-held in
    let call = repeats h.held h.offer h.ensures.of_page h.ensures.of_record h.ensures.of_request h.ensures.tests in
    let wrote = c.write_repeated.ensures in
    done call c.prepared-key.ensures c.valid.ensures c.if-not-valid.false c.leads_to.ensures c.if-not-leads_to.false
    c.judge_offer.ensures c.in_ok-judge_offer.was refl (follows c.leads_to.ensures c.if-not-leads_to.false) wrote.value wrote.answer_after
