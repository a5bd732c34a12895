-- Demand 2 holds.
use Rattle.laws.specs.Demand2.{Demand2}
use Rattle.laws.proofs.Verdicts as verdicts
use Rattle.laws.proofs.Offers as offers
use Rattle.laws.proofs.Files as files

pub demand_2 : Demand2
demand_2 =
    record {
      complete_at = verdicts.complete_at;
      complete_whole = verdicts.complete_whole;
      lacking_at = verdicts.lacking_at;
      lacking_whole = verdicts.lacking_whole;
      nothing_at = verdicts.nothing_at;
      nothing_whole = verdicts.nothing_whole;
      refused_at_lem = verdicts.refused_at_lem;
      refused_whole = verdicts.refused_whole;
      one_count = verdicts.one_count;
      hundred_at = verdicts.hundred_at;
      hundred_whole = verdicts.hundred_whole;
      available_ends = λ rec ws a d xs ys r e. offers.available_ends rec ws a xs ys r e d;
      available_ever = λ rec ws a d xs ys r e. offers.available_ever rec ws a xs ys r e d;
      available_at = λ rec ws a c l xs ys r e. offers.available_at rec ws a xs ys r e c l;
      available_disagreed = offers.available_disagreed;
      not_kept_lem = offers.not_kept_lem;
      written = files.written;
      read_back_lem = files.read_back_lem;
      same_file = files.same_file;
      least_count_lem = files.least_count_lem;
      negative_r = files.negative_r;
    }
