-- An actual design has what the argument asks of a design: that of `specs/Toy.antt`, with a stand-in for the hash that collides.
-- Assumes nothing.
use mathlib.Core.Path.{◌≡◌, refl, ap}
use Prim.Native.Nat.{ℕ}
use mathlib.Core.List.{List, ◌++◌}
use lib.ListN.{length, drop, length-append}
use Rattle.numbers.specs.Parts.{part}
use Rattle.numbers.proofs.Numbers.{length-bytes_of}
use Rattle.records.specs.Page.{hash_size, zero_summary}
use Rattle.records.specs.Record.{state_bytes}
use Rattle.records.proofs.RecordBytes.{length_record}
use Rattle.answers.proofs.States.{record_good, served_good}
use Rattle.histories.specs.Runs.{Fresh}
use Rattle.histories.specs.Laws.{Laws}
use Rattle.histories.specs.Ties.{NumberLaws}
use Rattle.histories.specs.Toy.{toy_hash, one_rack, toy, fresh}
use Rattle.histories.proofs.EditionLaws.{summary_is_32, page_stays_right, summary_is_put, key_stays, early_numbers, behind_numbers}

length-toy_hash : (m : List ℕ) → length (toy_hash m) ≡ hash_size
unfolding toy_hash
length-toy_hash m = rw (length-append, length-bytes_of) refl

pub toy_laws : Laws toy
toy_laws =
    record {
      length-hash = length-toy_hash;
      states_apart = λ a b e. ap (drop 1) e;
      length_summary = summary_is_32 one_rack;
      right_page_lem = page_stays_right;
      page_summary_lem = summary_is_put;
      page_mac = λ page s bound right long. ap (λ (key : List ℕ). toy_hash (key ++ bound)) (key_stays page s right long);
      length_next = λ page l request state passed serves.
          length_record one_rack state _ _ (served_good 1 (state_bytes one_rack l) request state (record_good one_rack l passed) serves).size (length-toy_hash _) (length-toy_hash _);
    }

pub toy_numbers : NumberLaws toy
toy_numbers = record { early = early_numbers one_rack; behind = behind_numbers 1 }

pub fresh_is : Fresh toy fresh
unfolding zero_summary part
fresh_is = record { right = refl; zero = refl }
