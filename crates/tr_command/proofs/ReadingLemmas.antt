-- A number that was read is at most what it may be.
use Rattle.std.proofs.Common.{◌≡◌, ◌≤◌, ℕ, List, Option, Some, None, arith}
use Rattle.std.specs.Option.{option_map_or}
use Rattle.clap.specs.Words.{Row, Text, first_of}
use Rattle.tr_command.specs.Number.{number_of}
use Rattle.tr_command.specs.Reading.{and_then, number_given, number_or_0}
use Rattle.tr_command.proofs.NumberLemmas.{number_of-at_most}

pub number_given-at_most : (id : Text) (most : ℕ) (rows : List Row) (n : ℕ) → number_given id most rows ≡ Some n → n ≤ most
number_given-at_most id most rows n is = go (first_of id rows) is
  where
    go : (o : Option Text) → and_then o (number_of most) ≡ Some n → n ≤ most
    go None e = cc
    go (Some text) e = number_of-at_most most text n e

pub number_or_0-at_most : (id : Text) (most : ℕ) (rows : List Row) (n : ℕ) → number_or_0 id most rows ≡ Some n → n ≤ most
number_or_0-at_most id most rows n is = go (first_of id rows) is
  where
    go : (o : Option Text) → option_map_or (number_of most) o (Some 0) ≡ Some n → n ≤ most
    go None e = let zero-is : 0 ≡ n = cc in omega arith
    go (Some text) e = number_of-at_most most text n e
