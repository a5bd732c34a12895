-- What is written lies within the output.
use Rattle.std.proofs.Common.{◌≡◌, sym, ◌≤◌, length, arith}
use Rattle.std.proofs.lemmas.List.{length-take-le}
use Rattle.files.proofs.Written.{written_within}
use Rattle.files.proofs.show.put_file.Goals as goal

pub slice_bounds-bytes-end : goal.slice_bounds-bytes-end
slice_bounds-bytes-end g c =
    let short : c.in-Ok.length ≤ 256 = written_within _ _ 256 _ _ c.write.ensures.value c.in-Ok.is in
    let same : length c.write.new.out ≡ 256 = c.write.auto.out in
    omega (arith, short, same)

pub slice_bounds-write_all-end : goal.slice_bounds-write_all-end
slice_bounds-write_all-end g c =
    let short : c.in-Ok.length ≤ 256 = written_within _ _ 256 _ _ c.write.ensures.value c.in-Ok.is in
    let same : length c.write.new.out ≡ 256 = c.write.auto.out in
    sym (length-take-le _ _ (omega (arith, short, same)))
