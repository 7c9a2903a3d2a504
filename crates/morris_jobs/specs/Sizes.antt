-- How many entries a command has to find.
use Rattle.std.specs.Prelude.{ℕ, ◌&&◌, nat_eq, if◌then◌else◌}
use Rattle.std.specs.List.{sum_by}
use Rattle.morris_board.specs.Boards.{Shape}
use Rattle.morris_index.specs.Pairs.{Counts, below_of}
use Rattle.morris_pairs.specs.declared.layout.Layout.{Layout}
use Rattle.morris_pairs.specs.Entries.{entry_count}
use Rattle.morris_jobs.specs.declared.size.Plan.{Plan}
use Rattle.morris_jobs.specs.declared.size.Plan.TheVariants as plan

-- how many entries the table of a pair has in a layout; where the table of one pair is verified,
-- that one has so many as its file has
abbrev pub entries_of : Shape → ℕ → Layout → Counts → Plan → Counts → ℕ
entries_of board n l pair (plan.Verified parallelism entries) c =
    if nat_eq c.greater pair.greater && nat_eq c.lesser pair.lesser then entries else entry_count board n l c
entries_of board n l pair _ c = entry_count board n l c

-- those of all pairs below a pair, its own among them
abbrev pub entries_below : Shape → ℕ → Layout → Counts → Plan → ℕ
entries_below board n l pair plan = sum_by (entries_of board n l pair plan) (below_of pair)
