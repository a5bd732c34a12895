-- `read` meets its contract: the whole file is one piece.
use Rattle.file.proofs.Pieces.{whole_answer, whole_table}
use Rattle.file.proofs.feeding.read.Goals as goal

pub returns : goal.returns
returns c =
    let bytes = c.args.bytes.now in
    record {
      value = whole_answer bytes _ _ _ c.begin.ensures _ c.feed-reader.ensures.value c.feed-reader.ensures.table_after _ c.finish.ensures.value;
      table_after = whole_table bytes _ _ _ c.begin.ensures _ c.feed-reader.ensures.value c.feed-reader.ensures.table_after _ c.finish.ensures.table_after;
    }
