-- What the header of a table file says.
use Rattle.std.specs.Prelude.{ℕ, List, Result}
use Rattle.std.specs.Result.{result_map_both}
use Rattle.morris_board.specs.Boards.{Shape}
use Rattle.morris_index.specs.Pairs.{Counts}
use Rattle.morris_pairs.specs.declared.layout.Layout.{Layout}
use Rattle.morris_pairs.specs.declared.file_faults.ReadFault.{ReadFault}
use Rattle.morris_pairs.specs.Entries.{entry_count}
use Rattle.morris_pairs.specs.TableFiles.{version_of}
use Rattle.morris_lookup.specs.Opening.{check_file}
use Rattle.morris_lookup.specs.declared.check.HeaderRecord.{HeaderRecord}

abbrev pub header_record : Shape → Layout × Counts → HeaderRecord
header_record board kind = record {
  version = version_of kind.0;
  board = board.id;
  greater = kind.1.greater;
  lesser = kind.1.lesser;
  pad = 0;
  entries = entry_count board board.points kind.0 kind.1;
}

-- what the steps of the header and of the number of bytes find in any bytes
unfoldable pub header_said : Shape → List ℕ → Result HeaderRecord ReadFault
header_said board bytes = result_map_both (header_record board) (λ refusal. refusal) (check_file board bytes)
