-- The figures in a line are right.
use Rattle.wording.specs.Text.{Figures}
use Rattle.wording.proofs.Decimals.{decimal_is, fewest_decimal, decimal_read}
use Rattle.wording.proofs.Shares.{percent_right_at, percent_right_whole}

pub figures : Figures
figures =
    record {
      percent_at = percent_right_at;
      percent_whole = percent_right_whole;
      decimal_is = decimal_is;
      fewest = fewest_decimal;
      read = decimal_read;
    }
