-- `fmt`: each write is the next run's digits, or the dash. Assumes nothing.
use Rattle.std.proofs.Common.{ap, sym, refl, ◌∙◌, [], ◌∷◌, ◌++◌}
use Rattle.std.specs.Fmt.{HasWritten}
use Rattle.std.proofs.Output.{has_written_of_eq, has_written_append}
use Rattle.inputs.proofs.HexLaws.{dash_of_none, text_of_run, text_of_all}
use Rattle.inputs.proofs.hex.HexDisplay.fmt.Goals as goal

pub returns-then-is_empty-clause-writes : goal.returns-then-is_empty-clause-writes
returns-then-is_empty-clause-writes g c = λ plain ok.
    let dash : HasWritten g.W.Write.write_str_gives c.args.f.now (45 ∷ []) c.write_str.new.self = c.write_str.ensures.writes plain ok in
    has_written_of_eq _ _ _ _ _ (dash_of_none _ c.if-is_empty.ensures) dash

pub loop-run-init : goal.loop-run-init
loop-run-init g c =
    let items = c.into_iter-run-iterator.ensures.into_iter_gives in
    let rest = ap (λ items. items.rest.now) items ∙ c.chunks-run-items.ensures.rest in (
      ap (λ items. items.size) items ∙ c.chunks-run-items.ensures.size,
      λ plain. ([], rest, record { wrote = record { parts = []; calls = refl; whole = refl }; plain = plain }),
    )

pub loop-run-preserved : goal.loop-run-preserved
loop-run-preserved g c =
    let steps = c.in-Some.ensures.steps in (
      steps.0 ∙ c.loop-run.invariant.0,
      λ plain.
          let before = c.loop-run.invariant.1 plain in
          let left = ap (λ rest. before.0 ++ rest) (sym steps.1.0) ∙ before.1 in
          let text = text_of_run before.0 c.in-Some.run'.now c.next.new.self.rest.now c.args.self.now.0.now left in
          let digits = has_written_of_eq _ _ _ _ _ c.digits.ensures (c.in_ok-write_str.ensures.writes before.2.plain refl) in
          (before.0 ++ c.in-Some.run'.now, text.0, has_written_of_eq _ _ _ _ _ text.1 (has_written_append _ _ _ _ _ _ before.2 digits)),
    )

pub returns-clause-writes : goal.returns-clause-writes
returns-clause-writes g c = λ plain ok.
    let before = c.loop-run.invariant.1 plain in
    has_written_of_eq _ _ _ _ _ (text_of_all before.0 c.loop-run.run-iterator.rest.now c.args.self.now.0.now c.in-None.ensures.steps.1.0 (sym c.if-is_empty.ensures) before.1) before.2
